-- Lines in a row.
use Rattle.std.specs.{Prelude.{Vec, vec_capacity}, declared.alloc.Global.{Global}}
use Rattle.std.proofs.Common.{◌≡◌, ℕ, ◌+◌, List, [], ◌∷◌, ◌++◌, length, length-append, refl, ap, sym, ◌∙◌, subst, arith, append_assoc, None, Option, Result, Ok, Err}
use Rattle.std.proofs.lemmas.List.{length-map, map-append, append-nil}
use Rattle.fm_base.specs.{declared.{arena_id.ArenaId.{ArenaId}, caller.Caller.{Caller}}, Calls.{Entry}, Histories.{made_by}}
use Rattle.fm_rule_facts.specs.Views.{View, Begins}
use Rattle.fm_script_text.specs.declared.line.Line.{Line}
use Rattle.fm_script_lines.specs.declared.{numbers.Numbers.{Numbers}, reply.Reply.{Reply}, standing.Standing.{Standing}, table.Table.{Table}}
use Rattle.fm_script_lines.specs.{Calls.{CallDoes}, Learnt.{AfterLine, AfterLines, KeepsTable, MadeNoCall}, Lines.{LineRan}, Numbers.{number_at}}
use Rattle.fm_script_lines.specs.{Outcomes.{outcome}, Pages.{AllocatesRightly, FindsFew, LendsRightly}, Playing.{LinesRan}}
use Rattle.fm_script_lines.specs.{Report.{Done, AreRun, names_after, names_behind, runs}, Runs.{Went, WentOn}}
use Rattle.fm_script_lines.{specs.{Standings.{Names, stands_of, standing_at, standing_of}, Tokens.{Backs}}, proofs.Allocating.{allocates_rightly}}
use Rattle.fm_script_lines.proofs.{Going.{lasts_then, went_none, went_then}, Lending.{behind_as, behind_more, few_later, finds_few, lends_later, lends_rightly}}
use Rattle.fm_script_lines.proofs.{Returning.{keeps_then}, Opening.{found_at, found_later, found_more, line_silent, opens_more, opens_rightly}}

-- What one more line leaves of names.
names_after-push : (number : List ℕ → Option ℕ) (k : ℕ) (ds : List Done) (d : Done) (names : Names)
    → names_after number k (ds ++ d ∷ []) names ≡ names_behind number (k + length ds) d (names_after number k ds names)
names_after-push number k [] d names = ap (λ (m : ℕ). names_behind number m d names) (omega arith)
names_after-push number k (e ∷ ds) d names =
    names_after-push number (k + 1) ds d (names_behind number k e names)
    ∙ ap (λ (m : ℕ). names_behind number m d (names_after number (k + 1) ds (names_behind number k e names))) (omega arith)

-- One more line behind these.
are_run-push : (c : Caller) (number : List ℕ → Option ℕ) (k : ℕ) (names : Names) (ds : List Done) (d : Done) → AreRun c number k names ds
    → CallDoes c (λ name. stands_of (names_after number k ds names) (number name)) d.line.command (outcome d.reply d.made) d.run
    → AreRun c number k names (ds ++ d ∷ [])
are_run-push c number k names [] d rs r = (r, tt)
are_run-push c number k names (e ∷ ds) d rs r = (rs.0, are_run-push c number (k + 1) (names_behind number k e names) ds d rs.1 r)

runs-push : (ds : List Done) (d : Done) → runs (ds ++ d ∷ []) ≡ runs ds ++ d.run
runs-push [] d = append-nil d.run
runs-push (e ∷ ds) d = ap (λ (es : List Entry). e.run ++ es) (runs-push ds d) ∙ sym (append_assoc e.run (runs ds) d.run)

module _ (p : View) (names : Numbers) (base : List Standing) (start : ℕ) (own : List Standing) where
  -- No line yet.
  pub lines_none : p.inside ≡ None → LinesRan p p names base start own own [] []
  lines_none outside = record {
    dones = [];
    are = refl;
    replied = refl;
    calls = tt;
    went = went_none p;
    outside = outside;
    lasts = record { known = λ id k. k; given = λ id. omega arith; limit = refl; caller = refl };
    many = omega arith;
    stands = refl;
    exact = λ whole none. tt;
    found = tt;
    full = λ whole closed none. tt;
    few = tt;
    loans = tt;
  }

  -- A line more.
  pub lines_more : (q r : View) (now next : List Standing) (lines : List Line) (l : Line) (replies : List Reply) (reply : Reply)
      → LinesRan p q names base start own now lines replies → LineRan q r names base start now next l.command reply
      → LinesRan p r names base start own next (lines ++ l ∷ []) (replies ++ reply ∷ [])
  lines_more q r now next lines l replies reply a b =
      let number = number_at names in
      let k = start + length own in
      let d : Done = record { line = l; reply = reply; run = b.run; made = b.made } in
      let mine : List Entry = made_by p.caller p.seen in
      let stood : List ℕ → Standing = λ name. standing_of base start now (number name) in
      let later : Begins q.seen r.seen = (b.went.more, b.went.seen) in
      let here : start + length now ≡ k + length a.dones = let m = a.many in omega (arith, m) in
      record {
        dones = a.dones ++ d ∷ [];
        are = map-append (λ (x : Done). x.line) a.dones (d ∷ []) ∙ ap (λ (ls : List Line). ls ++ l ∷ []) a.are;
        replied = map-append (λ (x : Done). x.reply) a.dones (d ∷ []) ∙ ap (λ (rs : List Reply). rs ++ reply ∷ []) a.replied;
        calls = are_run-push p.caller number k (standing_at base start own) a.dones d a.calls
            (subst (λ (ns : Names). CallDoes p.caller (λ name. stands_of ns (number name)) l.command (outcome reply b.made) b.run) a.stands
            (subst (λ (c : Caller). CallDoes c (λ name. stands_of (standing_at base start now) (number name)) l.command (outcome reply b.made) b.run)
            a.went.same_caller b.does));
        went = subst (λ (es : List Entry). Went p r es) (sym (runs-push a.dones d)) (went_then p q r (runs a.dones) b.run a.went b.went);
        outside = b.outside;
        lasts = lasts_then p q r a.lasts b.lasts;
        many = let m = a.many in let o = b.one_more in let g = length-append a.dones (d ∷ []) in omega (arith, m, o, g);
        stands =
            (λ i n. b.stands n i)
            ∙ (ap (λ (m : ℕ). names_behind number m d (standing_at base start now)) here
            ∙ (ap (λ (ns : Names). names_behind number (k + length a.dones) d ns) a.stands
            ∙ sym (names_after-push number k a.dones d (standing_at base start own))));
        exact = λ whole none. opens_more p.shape p.seen a.dones d (a.exact whole none) (λ o. opens_rightly d a.went (b.slots o) whole none);
        found = found_more p.caller r.finds r.seen (made_by p.caller p.seen) a.dones d
            (found_later p.caller q.finds q.seen r.finds r.seen b.went.finds (b.went.more, b.went.seen) (made_by p.caller p.seen) a.dones a.found)
            (λ n. found_at a.went b.went ((b.slots n.opens).found n.refused)
            (line_silent q.caller (λ name. stands_of (standing_at base start now) (number name)) l.command reply b.made b.run n.opens n.refused b.does));
        full = λ whole closed none. behind_more (AllocatesRightly p.shape) p.seen a.dones d (a.full whole closed none)
            (allocates_rightly d a.went whole closed none r stood l.command refl b.does b.pages);
        few = behind_more (FindsFew p.shape p.caller r.seen) mine a.dones d
            (behind_as (FindsFew p.shape p.caller q.seen) (FindsFew p.shape p.caller r.seen) (few_later p.shape p.caller q.seen r.seen later)
            mine a.dones a.few)
            (finds_few d a.went b.went stood l.command refl b.does b.pages);
        loans = behind_more (LendsRightly p.shape p.caller r.seen) mine a.dones d
            (behind_as (LendsRightly p.shape p.caller q.seen) (LendsRightly p.shape p.caller r.seen) (lends_later p.shape p.caller q.seen r.seen later)
            mine a.dones a.loans)
            (lends_rightly d a.went b.went stood l.command refl b.does b.pages);
      }

-- A pass's lines that ran.
module _ {p q : View} {names : Numbers} {base : List Standing} {start : ℕ} {own next : List Standing} {lines : List Line} {replies : List Reply}
    (r : LinesRan p q names base start own next lines replies) where
  -- Whatever the lines were, the pass went on.
  pub ran_on : WentOn p q
  ran_on = record { run = runs r.dones; went = r.went; outside = r.outside; lasts = r.lasts }

  -- There is a name for each line, and a reply.
  pub ran_many : length next ≡ length own + length lines
  ran_many =
      let many = r.many in
      let same = ap (λ (xs : List Line). length xs) r.are in
      let mapped = length-map r.dones (λ (d : Done). d.line) in
      omega (arith, many, same, mapped)

  pub replied_many : length replies ≡ length lines
  replied_many =
      let told = ap (λ (xs : List Reply). length xs) r.replied in
      let same = ap (λ (xs : List Line). length xs) r.are in
      let lines_mapped = length-map r.dones (λ (d : Done). d.line) in
      let replies_mapped = length-map r.dones (λ (d : Done). d.reply) in
      omega (arith, told, same, lines_mapped, replies_mapped)

-- Where a loop over lines stands: these ran, from the table that was
pub record SoFar (p : View) (was : Table) (room : ℕ) (lines : List Line) (m : View) (now : Table) (replies : Vec Reply Global) : Type 0 where
  pub keeps : KeepsTable was now
  pub ran : LinesRan p m was.names.now was.base.now was.start was.own.items now.own.items lines replies.items
  pub backs : (holds handles : List ArenaId) → Backs p holds handles was.base.now was.own.items → Backs m holds handles was.base.now now.own.items
  pub answers : vec_capacity replies ≡ room

-- What it has for names, said of the table that is.
pub so_far_backs : {p m : View} {was now : Table} {room : ℕ} {lines : List Line} {replies : Vec Reply Global} (i : SoFar p was room lines m now replies)
    → (holds handles : List ArenaId) → Backs p holds handles was.base.now was.own.items → Backs m holds handles now.base.now now.own.items
so_far_backs {m = m} {was = was} {now = now} i holds handles b =
    let same : now.base.now ≡ was.base.now = λ j. (i.keeps.base j).now in
    subst (λ (bs : List Standing). Backs m holds handles bs now.own.items) (sym same) (i.backs holds handles b)

-- And of one behind it.
so_far_behind : {p m : View} {was now : Table} {room : ℕ} {lines : List Line} {replies : Vec Reply Global} {E : Type 0} (next : View) (after : Table)
    (l : Line) (result : Result Reply E) (i : SoFar p was room lines m now replies) → AfterLine m next now after l.command result
    → (holds handles : List ArenaId) → Backs p holds handles was.base.now was.own.items → Backs next holds handles was.base.now after.own.items
so_far_behind {was = was} {now = now} next after l result i a holds handles b =
    let same : now.base.now ≡ was.base.now = λ j. (i.keeps.base j).now in
    subst (λ (bs : List Standing). Backs next holds handles bs after.own.items) same (a.backs holds handles (so_far_backs i holds handles b))

-- A line more.
pub so_far_more : {E : Type 0} (p : View) (was : Table) (room : ℕ) (lines : List Line) (m next : View) (now after : Table)
    (replies told : Vec Reply Global) (l : Line) (reply : Reply) → SoFar p was room lines m now replies
    → AfterLine {E = E} m next now after l.command (Ok reply)
    → told.items ≡ replies.items ++ reply ∷ [] → vec_capacity told ≡ vec_capacity replies
    → SoFar p was room (lines ++ l ∷ []) next after told
so_far_more p was room lines m next now after replies told l reply i a items same_room =
    let line : LineRan m next was.names.now was.base.now was.start now.own.items after.own.items l.command reply =
    subst (λ (n : ℕ). LineRan m next was.names.now was.base.now n now.own.items after.own.items l.command reply) i.keeps.start
    (subst (λ (bs : List Standing). LineRan m next was.names.now bs now.start now.own.items after.own.items l.command reply) (λ j. (i.keeps.base j).now)
    (subst (λ (names : Numbers). LineRan m next names now.base.now now.start now.own.items after.own.items l.command reply)
    (λ j. (i.keeps.names j).now) a.ran)) in
    record {
      keeps = keeps_then i.keeps a.keeps;
      ran = subst (λ (rs : List Reply). LinesRan p next was.names.now was.base.now was.start was.own.items after.own.items (lines ++ l ∷ []) rs) (sym items)
          (lines_more p was.names.now was.base.now was.start was.own.items m next now.own.items after.own.items lines l replies.items reply i.ran line);
      backs = so_far_behind next after l (Ok reply) i a;
      answers = same_room ∙ i.answers;
    }

-- A line to which memory was wanting.
pub so_far_stops : {E : Type 0} (p : View) (was : Table) (room : ℕ) (ran behind all : List Line) (m next : View) (now after : Table)
    (replies : Vec Reply Global) (l : Line) (e : E) → SoFar p was room ran m now replies → AfterLine m next now after l.command (Err e)
    → all ≡ ran ++ l ∷ behind → AfterLines p next was after all replies.items (Err e)
so_far_stops p was room ran behind all m next now after replies l e i a parts =
    let no_call : MadeNoCall m next now after l.command = a.no_call in
    let stopped : LinesRan p next was.names.now was.base.now was.start was.own.items after.own.items ran replies.items =
    subst (λ (q : View). LinesRan p q was.names.now was.base.now was.start was.own.items after.own.items ran replies.items) (sym no_call.pass)
    (subst (λ (t : Table). LinesRan p m was.names.now was.base.now was.start was.own.items t.own.items ran replies.items) (sym no_call.table) i.ran) in
    record {
      keeps = keeps_then i.keeps a.keeps;
      ran = tt;
      went = ran_on stopped;
      backs = so_far_behind next after l (Err e) i a;
      many = let many = ran_many stopped in let split = ap (λ (xs : List Line). length xs) parts in let long = length-append ran (l ∷ behind) in
          omega (arith, many, split, long);
      stops = record { before = ran; line = l; behind = behind; parts = parts; takes = no_call.takes; ran = stopped };
    }

-- All lines ran.
pub so_far_all : {E : Type 0} (p : View) (was : Table) (room : ℕ) (lines : List Line) (m : View) (now : Table) (replies : Vec Reply Global)
    → SoFar p was room lines m now replies → AfterLines {E = E} p m was now lines replies.items (Ok tt)
so_far_all p was room lines m now replies i = record {
  keeps = i.keeps;
  ran = i.ran;
  went = ran_on i.ran;
  backs = i.backs;
  many = let many = ran_many i.ran in omega (arith, many);
  stops = tt;
}
