-- What the lines of a script need, pass by pass.
use Rattle.std.specs.Prelude.{vec_capacity}
use Rattle.std.proofs.Common.{◌≡◌, ℕ, zero, suc, ◌+◌, ◌<◌, ◌≤◌, List, [], ◌∷◌, ◌++◌, length, length-append, map, get_or, All, refl, sym, ap, ◌∙◌, subst, arith, Option}
use Rattle.std.{proofs.lemmas.List.{length-map, Elements.{All-from_recursion}}, specs.List.{AllByRecursion}}
use Rattle.fm_base.specs.Calls.{Entry}
use Rattle.fm_base_lists.proofs.Each.{all_weaker}
use Rattle.fm_rule_facts.specs.Views.{View}
use Rattle.fm_script_text.specs.{declared.line.Line.{Line}, Scripts.{IsSaid}, Syntax.{IsSpelled}}
use Rattle.fm_script_lines.specs.{declared.{numbers.Numbers.{Numbers}, reply.Reply.{Reply}, standing.Standing.{Standing}}, Admitted.{AreNumbered, KeepRules}}
use Rattle.fm_script_lines.specs.{Numbers.{number_at, number_from}, Ordering.{in_order, worker_lines}, Playing.{LinesRan}}
use Rattle.fm_script_lines.specs.{Report.{Done, is_first, is_last, is_worker, lines_by, worked as report_worked}, Standings.{IsBacked, IsSpent}}
use Rattle.fm_script_lines.proofs.{AdmittedEnds.{main_spent}, AdmittedMade.{lent_spent}, AdmittedNumbers.{in_order_numbered, numbered_same, numbered_split}}
use Rattle.fm_script_lines.proofs.{Backing.{backed_lent}, Rows.{ran_many}}
use Rattle.fm_workers_crew.specs.Crew.{AreDone}
use Rattle.fm_script.specs.{declared.player.Player.{Player}, Players.{CanPlay, IsPlayer, Plays, playing}, Runs.{AllPlayed, CanRun, names_lent}}
use Rattle.fm_script.proofs.{After.{made_lent}, Reported.{AreTasks, Reported, reported, start_at, worked_lines}}

-- Lines that were said are spelled.
pub all_spelled : (lines : List Line) → KeepRules lines → All (λ l. IsSpelled l.command) lines
all_spelled lines rules =
    All-from_recursion (λ (l : Line). IsSpelled l.command) lines
    (all_weaker IsSaid (λ (l : Line). IsSpelled l.command) (λ l s. s.is_spelled) lines rules.said)

pub in_order_many : (n : ℕ) (lines : List Line)
    → length (in_order n lines) ≡ length (lines_by is_first lines) + (length (worker_lines n 1 lines) + length (lines_by is_last lines))
in_order_many n lines =
    let a = length-append (lines_by is_first lines) (worker_lines n 1 lines ++ lines_by is_last lines) in
    let b = length-append (worker_lines n 1 lines) (lines_by is_last lines) in
    omega (arith, a, b)

-- The lines of each worker have their numbers.
worker_numbered : (number : List ℕ → Option ℕ) (ls : List Line) (n k i start : ℕ) → AreNumbered number start (worker_lines n k ls) → i < n
    → AreNumbered number (start + length (worker_lines i k ls)) (lines_by (is_worker (k + i)) ls)
worker_numbered number ls zero k i start are low = absurd (omega (arith, low))
worker_numbered number ls (suc n) k zero start are low =
    let parts = numbered_split number start (lines_by (is_worker k) ls) (worker_lines n (k + 1) ls) are in
    subst (λ (m : ℕ). AreNumbered number (start + 0) (lines_by (is_worker m) ls)) (omega arith)
    (subst (λ (m : ℕ). AreNumbered number m (lines_by (is_worker k) ls)) (omega arith) parts.0)
worker_numbered number ls (suc n) k (suc i) start are low =
    let mine : List Line = lines_by (is_worker k) ls in
    let parts = numbered_split number start mine (worker_lines n (k + 1) ls) are in
    let rest = worker_numbered number ls n (k + 1) i (start + length mine) parts.1 (omega (arith, low)) in
    let long = length-append mine (worker_lines i (k + 1) ls) in
    subst (λ (m : ℕ). AreNumbered number (start + length (worker_lines (suc i) k ls)) (lines_by (is_worker m) ls)) (omega arith)
    (subst (λ (m : ℕ). AreNumbered number m (lines_by (is_worker (k + 1 + i)) ls)) (omega (arith, long)) rest)

module _ (names : Numbers) (lines : List Line) (old : View) (tasks : List Player) (can : CanRun names lines old tasks) where
  all_numbered : AreNumbered (number_at names) 0 (in_order (length tasks) lines)
  all_numbered =
      numbered_same (number_from 0 (in_order (length tasks) lines)) (number_at names) 0 (in_order (length tasks) lines) can.numbers
      (in_order_numbered lines (length tasks) can.rules)

  first_split : AreNumbered (number_at names) 0 (lines_by is_first lines)
      × AreNumbered (number_at names) (0 + length (lines_by is_first lines)) (worker_lines (length tasks) 1 lines ++ lines_by is_last lines)
  first_split = numbered_split (number_at names) 0 (lines_by is_first lines) (worker_lines (length tasks) 1 lines ++ lines_by is_last lines) all_numbered

  rest_split : AreNumbered (number_at names) (length (lines_by is_first lines)) (worker_lines (length tasks) 1 lines)
      × AreNumbered (number_at names) (length (lines_by is_first lines) + length (worker_lines (length tasks) 1 lines)) (lines_by is_last lines)
  rest_split =
      numbered_split (number_at names) (length (lines_by is_first lines)) (worker_lines (length tasks) 1 lines) (lines_by is_last lines)
      (subst (λ (m : ℕ). AreNumbered (number_at names) m (worker_lines (length tasks) 1 lines ++ lines_by is_last lines)) (omega arith) first_split.1)

  start_is : (i : ℕ) → start_at lines i ≡ length (lines_by is_first lines) + length (worker_lines i 1 lines)
  start_is i = length-append (lines_by is_first lines) (worker_lines i 1 lines)

  -- Each task is a worker of the script.
  pub task : (i : ℕ) (d : Player) → i < length tasks → IsPlayer lines (i + 1) (start_at lines i) (get_or tasks i d)
  task i d low =
      let starts = can.are_starts in
      let many = starts.many in
      let each = can.are_players.each i d (omega (arith, low, many)) in
      subst (λ (n : ℕ). IsPlayer lines (i + 1) n (get_or tasks i d)) (starts.are i low) each

  module _ (q : View) (firsts : List Standing) (many : length firsts ≡ length (lines_by is_first lines)) where
    pub tasks_are : (more : List Entry) → AreTasks (playing names lines firsts) more 0 tasks
    tasks_are more i d low =
        subst (λ (n : ℕ). IsPlayer lines (n + 1) (start_at lines n) (get_or tasks i d)) (omega arith) (task i d low)

    -- All workers can play.
    pub all_can_play : All (IsBacked q) firsts → All (CanPlay (playing names lines firsts) q) tasks
    all_can_play known i d low =
        let t = task i d low in
        let p : Player = get_or tasks i d in
        let number = t.number in
        let start = t.start in
        let at = start_is i in
        record {
          rules = can.rules;
          known = λ k s l. backed_lent q (get_or firsts k s) (known k s l);
          worker = omega (arith, number);
          player = record {
            number = refl;
            start = refl;
            whole = t.whole;
            no_reply = t.no_reply;
            no_name = t.no_name;
            room = subst (λ (n : ℕ). length (lines_by (is_worker n) lines) ≤ vec_capacity p.replies) (sym t.number) t.room;
            names_room = subst (λ (n : ℕ). length (lines_by (is_worker n) lines) ≤ vec_capacity p.lent) (sym t.number) t.names_room;
          };
          behind = omega (arith, many, start, at);
          numbered = subst (λ (n : ℕ). AreNumbered (number_at names) p.start (lines_by (is_worker n) lines)) (omega (arith, number))
              (subst (λ (m : ℕ). AreNumbered (number_at names) m (lines_by (is_worker (1 + i)) lines)) (omega (arith, start, at))
              (worker_numbered (number_at names) lines (length tasks) 1 i (length (lines_by is_first lines)) rest_split.0 low));
        }

    -- What they did, once they have.
    pub workers_of : (more : List Entry) (vs : List View) (players : List Player)
        → AreDone (Plays (playing names lines firsts)) more vs tasks players → AllPlayed players
        → Reported (playing names lines firsts) more 0 vs tasks players
    workers_of more vs players done played =
        let at = start_is 0 in
        reported (playing names lines firsts) more 0 vs tasks players (omega (arith, many, at)) (tasks_are more) done played

  pub names_many : (firsts : List Standing) (more : List Entry) (vs : List View) (players : List Player)
      → Reported (playing names lines firsts) more 0 vs tasks players → length (names_lent players) ≡ length (worker_lines (length tasks) 1 lines)
  names_many firsts more vs players r =
      ap (λ (xs : List Standing). length xs) r.lent
      ∙ (length-map (report_worked r.ps) made_lent
      ∙ (sym (length-map (report_worked r.ps) (λ (d : Done). d.line))
      ∙ (ap (λ (xs : List Line). length xs) (worked_lines lines 1 r.ps r.lines) ∙ ap (λ (n : ℕ). length (worker_lines n 1 lines)) r.many)))

  -- In the end nothing is left to give back.
  pub nothing_left : (p q r t : View) (firsts next : List Standing) (replies others : List Reply) (more : List Entry) (vs : List View)
      (players : List Player) → LinesRan p q names [] 0 [] firsts (lines_by is_first lines) replies
      → Reported (playing names lines firsts) more 0 vs tasks players
      → LinesRan r t names [] 0 (firsts ++ names_lent players) next (lines_by is_last lines) others → All IsSpent next
  nothing_left p q r t firsts next replies others more vs players first worked last =
      let one = ran_many first in
      let two = names_many firsts more vs players worked in
      main_spent lines p q r t names firsts (names_lent players) next replies others can.rules first_split.0
      (subst (λ (m : ℕ). AreNumbered (number_at names) m (lines_by is_last lines)) (omega (arith, one, two)) rest_split.1)
      first spent last
    where
      each_spent : (ds : List Done) → AllByRecursion IsSpent (map made_lent ds)
      each_spent [] = tt
      each_spent (d ∷ ds) = (lent_spent d.made, each_spent ds)

      spent : All IsSpent (names_lent players)
      spent =
          subst (λ (ss : List Standing). All IsSpent ss) (sym worked.lent)
          (All-from_recursion IsSpent (map made_lent (report_worked worked.ps)) (each_spent (report_worked worked.ps)))
