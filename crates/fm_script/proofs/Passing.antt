-- What pass 0 has between the first lines, the workers and the last lines.
use Rattle.std.specs.{Prelude.{OnOk}, Result.{is_err}}
use Rattle.std.proofs.Common.{◌≡◌, ℕ, ◌+◌, true, false, List, [], ◌++◌, length, get_or, All, Ok, Err, Result, sym, ap, ◌∙◌, subst, arith}
use Rattle.std.proofs.lemmas.List.Elements.{All-nil}
use Rattle.fm_base.specs.{declared.arena_id.ArenaId.{ArenaId}, Finds.{Rest}, Calls.{Entry}}
use Rattle.fm_base_lists.{specs.Among.{IsAmong}, proofs.Among.{among_right}}
use Rattle.fm_rule_facts.specs.Views.{View, IsSound}
use Rattle.fm_script_text.specs.declared.line.Line.{Line}
use Rattle.fm_script_lines.specs.{declared.{numbers.Numbers.{Numbers}, reply.Reply.{Reply}, standing.Standing.{Standing}}, Ordering.{in_order, worker_lines}}
use Rattle.fm_script_lines.specs.{Playing.{LinesRan}, Report.{is_first, is_last, lines_by}, Runs.{WentOn}, Standings.{IsBacked, IsSpent, lent}}
use Rattle.fm_script_lines.{specs.Tokens.{Backs, IsReady}, proofs.{Backing.{backed_lent}, Ending.{backs_none}, Rows.{ran_many}}}
use Rattle.fm_workers_crew.specs.Crew.{IsWhole}
use Rattle.fm_script.specs.{declared.player.Player.{Player}, Players.{CanPlay, playing}, Runs.{AllRan, CanRun, Worked, names_lent}, Staying.{lent_later}}
use Rattle.fm_script.proofs.{Crewed.{players_known}, Running.{all_can_play, in_order_many, names_many, nothing_left, workers_of}}

-- ---- what came to nothing and what didn't

pub on_ok : {P E : Type 0} (r : Result (Unit {0}) E) → is_err r ≡ false → OnOk r P → P
on_ok (Ok u) e h = h
on_ok (Err r) e h = absurd (cc)

pub not_ok : (P : Type 0) {E : Type 0} (r : Result (Unit {0}) E) → is_err r ≡ true → OnOk r P
not_ok P (Ok u) e = absurd (cc)
not_ok P (Err r) e = tt

-- ---- tokens

-- Before its first line it has none for its names.
pub ready_none : (p : View) (base own : List Standing) → base ≡ [] → own ≡ [] → IsReady p base own
ready_none p base own b o =
    subst (λ (xs : List Standing). IsReady p xs own) (sym b)
    (subst (λ (xs : List Standing). IsReady p [] xs) (sym o)
    (record { other_holds = p.holds; other_handles = p.handles; backs = backs_none p [] (All-nil (λ (s : Standing). IsBacked p (lent s))) }))

pub backs_at : (p q : View) (base own next : List Standing) → base ≡ [] → own ≡ []
    → ((holds handles : List ArenaId) → Backs p holds handles base own → Backs q holds handles base next)
    → (holds handles : List ArenaId) → Backs p holds handles [] [] → Backs q holds handles [] next
backs_at p q base own next b o h holds handles is =
    subst (λ (xs : List Standing). Backs q holds handles xs next) b
    (h holds handles (subst (λ (xs : List Standing). Backs p holds handles xs own) (sym b)
    (subst (λ (xs : List Standing). Backs p holds handles [] xs) (sym o) is)))

pub ready_backs : (p q : View) (own : List Standing)
    → ((holds handles : List ArenaId) → Backs p holds handles [] [] → Backs q holds handles [] own) → IsReady q [] own
ready_backs p q own h = record {
  other_holds = p.holds;
  other_handles = p.handles;
  backs = h p.holds p.handles (backs_none p [] (All-nil (λ (s : Standing). IsBacked p (lent s))));
}

pub ran_from : (p q : View) (names : Numbers) (base others : List Standing) (start first : ℕ) (own before next : List Standing) (lines : List Line)
    (replies : List Reply) → base ≡ others → start ≡ first → own ≡ before → LinesRan p q names base start own next lines replies
    → LinesRan p q names others first before next lines replies
ran_from p q names base others start first own before next lines replies b s o r =
    subst (λ (xs : List Standing). LinesRan p q names xs first before next lines replies) b
    (subst (λ (n : ℕ). LinesRan p q names base n before next lines replies) s
    (subst (λ (xs : List Standing). LinesRan p q names base start xs next lines replies) o r))

-- A whole pass stays whole.
pub whole_still : (p q : View) → IsWhole p → WentOn p q → IsSound q → IsWhole q
whole_still p q w on sound = record { sound = sound; whole = ap (λ (x : Rest). x.whole) on.went.rest ∙ w.whole }

pub gathered_still : (p q : View) → WentOn p q → q.gathered ≡ p.gathered
gathered_still p q on = ap (λ (x : Rest). x.gathered) on.went.rest

-- ---- the workers' names

module _ (names : Numbers) (lines : List Line) (old : View) (tasks : List Player) (can : CanRun names lines old tasks) (p q : View)
    (firsts : List Standing) (players : List Player) (many : length firsts ≡ length (lines_by is_first lines))
    (w : Worked (playing names lines firsts) p q tasks players) where
  pub gathered_many : length (names_lent players) ≡ length (worker_lines (length tasks) 1 lines)
  gathered_many =
      names_many names lines old tasks can firsts w.crew.crew.more w.crew.crew.passes players
      (workers_of names lines old tasks can p firsts many w.crew.crew.more w.crew.crew.passes players w.crew.ends w.played)

  pub gathered_known : IsSound p → All (IsBacked p) firsts → All (IsBacked q) (names_lent players)
  gathered_known sound known =
      players_known (playing names lines firsts) q (w.crew.still_sound sound) later w.crew.crew.more w.crew.crew.passes tasks players
      (λ e i. subst (λ (es : List Entry). IsAmong e es) (sym w.crew.crew.seen) (among_right e p.seen w.crew.crew.more i))
      (λ i d l. (all_can_play names lines old tasks can p firsts many known i d l).behind)
      w.crew.ends w.played
    where
      later : All (λ s. IsBacked q (lent s)) firsts
      later k d below = lent_later p q w.crew.lasts (get_or firsts k d) (backed_lent p (get_or firsts k d) (known k d below))

-- ---- behind the first lines

-- The first lines ran, and the pass has what their names stand for
pub record Behind (names : Numbers) (lines : List Line) (p q : View) (own : List Standing) (firsts : List Reply) : Type 0 where
  pub first : LinesRan p q names [] 0 [] own (lines_by is_first lines) firsts
  pub backs : (holds handles : List ArenaId) → Backs p holds handles [] [] → Backs q holds handles [] own

module _ (names : Numbers) (lines : List Line) (p q : View) (tasks : List Player) (can : CanRun names lines p tasks) (own : List Standing)
    (firsts : List Reply) (b : Behind names lines p q own firsts) where
  first_many : length own ≡ length (lines_by is_first lines)
  first_many = let many = ran_many b.first in omega (arith, many)

  first_known : All (IsBacked q) own
  first_known = (ready_backs p q own b.backs).backs.own_known

  pub first_can : All (CanPlay (playing names lines own) q) tasks
  first_can = all_can_play names lines p tasks can q own first_many first_known

  module _ (r : View) (players : List Player) (w : Worked (playing names lines own) q r tasks players) where
    -- All names are as many as the lines.
    pub all_many : length own + (length (names_lent players) + length (lines_by is_last lines)) ≡ length (in_order (length tasks) lines)
    all_many =
        let one = first_many in
        let more = gathered_many names lines p tasks can q r own players first_many w in
        let all = in_order_many (length tasks) lines in
        omega (arith, one, more, all)

    pub lent_known : IsSound q → All (IsBacked r) (names_lent players)
    lent_known sound = gathered_known names lines p tasks can q r own players first_many w sound first_known

    -- And then the workers ran.
    pub all_ran : (s : View) (base : List Standing) (start : ℕ) (all next : List Standing) (lasts : List Reply) → base ≡ [] → start ≡ 0
        → all ≡ own ++ names_lent players → WentOn p q → IsSound q → LinesRan r s names base start all next (lines_by is_last lines) lasts
        → AllRan names lines p s tasks players next firsts lasts
    all_ran s base start all next lasts none first_of is on sound last = record {
      before = q;
      between = r;
      whole = whole_still p q can.only.whole on sound;
      first_names = own;
      first = b.first;
      worked = w;
      last = ran_from r s names base [] start 0 all (own ++ names_lent players) next (lines_by is_last lines) lasts none first_of is last;
    }

-- ---- the end

module _ (names : Numbers) (lines : List Line) (old new : View) (tasks players : List Player) (own : List Standing) (firsts lasts : List Reply)
    (can : CanRun names lines old tasks) where
  pub all_spent : AllRan names lines old new tasks players own firsts lasts → All IsSpent own
  all_spent a =
      let crew = a.worked.crew.crew in
      let many = ran_many a.first in
      nothing_left names lines old tasks can old a.before a.between new a.first_names own firsts lasts crew.more crew.passes players a.first
      (workers_of names lines old tasks can a.before a.first_names (omega (arith, many)) crew.more crew.passes players a.worked.crew.ends
      a.worked.played) a.last

  pub ran_settled : (after : View) → after ≡ new → AllRan names lines old new tasks players own firsts lasts
      → AllRan names lines old after tasks players own firsts lasts
  ran_settled after is a = subst (λ (v : View). AllRan names lines old v tasks players own firsts lasts) (sym is) a
