-- No line of a report is answered that memory was wanting, and only one that allocates that a page was.
use Rattle.std.proofs.Common.{◌≡◌, ℕ, ◌+◌, nat_le, Bool, true, false, Option, Some, None, Result, Ok, Err, List, [], ◌∷◌, ◌++◌, length, refl, sym, ap, ◌∙◌, subst, ◌≢◌}
use Rattle.std.specs.{Prelude.{⊤}, List.{AllByRecursion}}
use Rattle.fm_base.specs.{declared.{arena_id.ArenaId.{ArenaId}, caller.Caller.{Caller}, refusal.Refusal.{Refusal}}, Calls.{Entry}}
use Rattle.fm_base.specs.Outcomes.{MayCome, MayRefuse}
use Rattle.fm_base.specs.declared.refusal.Refusal.TheVariants as refusal
use Rattle.fm_arena.specs.Shares.{nature_of_shared}
use Rattle.fm_handle.specs.{Access.{DoesVisit}, Acts.{Adds as AddsActs, Exchanges as ExchangesActs}, Place.{can_update, update_place_of}}
use Rattle.fm_base_lists.proofs.Each.{all_both}
use Rattle.fm_script_lines.specs.declared.{outcome.LineOutcome.{LineOutcome}, reply.Reply.{Reply}, standing.Standing.{Standing, TheVariants.{Segment}}}
use Rattle.fm_script_lines.specs.Calls.{Line, On, Called, Answers, CallDoes, Gets, Sets, Adds, Exchanges, Fills, Copies, Compares, Allocates, Asks, Closes, Holds, Unholds, TakesAgain, GivesBack, coming, fine, kept_or_ended, number, segment_made, tree_of}
use Rattle.fm_script_lines.specs.{Outcomes.{outcome, plain}, Report.{Done, Player, AreRun, AreWorked, names_behind, none_stands, number_of, worked}}
use Rattle.fm_script_lines.specs.Standings.{Names, handled_as, held_as, opened_as, stands_of}
use Rattle.fm_script_lines.specs.declared.reply.Reply.TheVariants as reply
use Rattle.fm_script_lines.specs.Standings as standing
use Rattle.fm_script_text.specs.declared.command.Command.{Command}
use Rattle.fm_script_text.specs.declared.command.Command.TheVariants as command
use Rattle.fm_segment.specs.{Access.{place_of, writable_place_of}, Region.{Region, part_of, read_only_of, region_of}, Slices.{slice_of}}
use Rattle.fm_script_laws.specs.Replies.{NoLineWants, TellsNoWant, allocates}
use Rattle.fm_script_laws.proofs.Coming.{May, without_pages, open_may, if_may, place_may, writable_may, update_may, at_may, get_may, set_may, fill_may, copy_may, mismatch_may, visit_may, alive_may, close_may, hold_may, again_may}

-- the reply may come over a pool to a line that doesn't allocate
abbrev MayBe : Reply → Type 0
MayBe (reply.Refused r) = MayRefuse without_pages r
MayBe reply = ⊤

tells : (c : Command) (r : Reply) → MayBe r → TellsNoWant c r
tells c r h = record {
  memory = λ e. let no : MayBe (reply.Refused refusal.Memory) = subst MayBe e h in absurd (let x : ⊥ = cc in x);
  page = λ e. let no : MayBe (reply.Refused refusal.PoolFull) = subst MayBe e h in absurd (let x : ⊥ = cc in x);
}

-- ---- lines

-- The reply that an answer comes to.
coming_may : {X : Type 0} (ok : X → LineOutcome) → ((x : X) → MayBe (ok x).reply) → (result : Result X Refusal) → May result → (out : LineOutcome)
    → out ≡ coming ok result → MayBe out.reply
coming_may ok f (Ok x) may out is = subst (λ (o : LineOutcome). MayBe o.reply) (sym is) (f x)
coming_may ok f (Err r) may out is = subst (λ (o : LineOutcome). MayBe o.reply) (sym is) may

on_may : {X : Type 0} (found : Option X) (Does : X → Line) (out : LineOutcome) (own : List Entry) → ((x : X) → Does x out own → MayBe out.reply)
    → On found Does out own → MayBe out.reply
on_may None Does out own f d = subst (λ (o : LineOutcome). MayBe o.reply) (sym d.0) tt
on_may (Some x) Does out own f d = f x d

back_may : (c : Caller) (others_left : Bool) → MayBe (kept_or_ended c others_left)
back_may c true = tt
back_may c false = tt

slice_may : (offset size : ℕ) (r : Region) → May (slice_of offset size r)
slice_may offset size r = if_may (nat_le (offset + size) r.size) (Ok (part_of offset size r)) (Err refusal.Bounds) tt tt

module _ (c : Caller) (stands : List ℕ → Standing) (out : LineOutcome) (own : List Entry) where
  on_arena : (name : List ℕ) (Does : ArenaId → Line) → ((id : ArenaId) → Does id out own → MayBe out.reply)
      → On (standing.arena_of (stands name)) Does out own → MayBe out.reply
  on_arena name Does f d = on_may (standing.arena_of (stands name)) Does out own f d

  on_segment : (name : List ℕ) (Does : Region → Line) → ((r : Region) → Does r out own → MayBe out.reply)
      → On (standing.segment_of (stands name)) Does out own → MayBe out.reply
  on_segment name Does f d = on_may (standing.segment_of (stands name)) Does out own f d

  -- A call whose answer makes no refusal of its own.
  called : {X : Type 0} (Does : Result X Refusal → List Entry → Type 0) (ok : X → LineOutcome) → ((x : X) → MayBe (ok x).reply)
      → ((result : Result X Refusal) → Does result own → May result) → Called Does ok out own → MayBe out.reply
  called Does ok f may d = coming_may ok f d.0 (may d.0 d.1) out d.2

  got : {X : Type 0} (answer : Result X Refusal) (ok : X → LineOutcome) → ((x : X) → MayBe (ok x).reply) → May answer → Called (Answers answer) ok out own
      → MayBe out.reply
  got answer ok f may d = called (Answers answer) ok f (λ result e. subst (λ (x : Result _ Refusal). May x) (sym e.0) may) d

  -- A line of each command.
  line_may : (k : Command) → allocates k ≡ false → CallDoes c stands k out own → MayBe out.reply
  line_may (command.Open name kind) none d =
      coming_may (λ id. outcome reply.Fine (opened_as d.0 kind id)) (λ id. tt) d.1.0 (open_may c own kind d.1.0 d.1.1.1 d.1.1.0) out d.1.2
  line_may (command.Alloc arena name size align) none d = absurd (cc)
  line_may (command.Slice segment name offset size) none d =
      on_segment segment (λ r. Called (Answers (slice_of offset size r)) segment_made)
      (λ r e. got (slice_of offset size r) segment_made (λ x. tt) (slice_may offset size r) e) d
  line_may (command.Readonly segment name) none d =
      on_segment segment (λ r. Called (Answers (Ok (read_only_of r))) segment_made) (λ r e. got (Ok (read_only_of r)) segment_made (λ x. tt) tt e) d
  line_may (command.Get cell) none d =
      on_segment cell.segment (Gets c cell)
      (λ r e. coming_may number (λ v. tt) e.0
      (get_may c own r.arena (tree_of cell) (place_of cell.offset (tree_of cell) r) e.0 (place_may cell.offset (tree_of cell) r) e.1) out e.2) d
  line_may (command.Set cell value) none d =
      on_segment cell.segment (Sets c cell value)
      (λ r e. coming_may fine (λ v. tt) e.2.0
      (set_may c own r.arena (tree_of cell) (writable_place_of cell.offset (tree_of cell) r) e.0 e.2.0 (writable_may cell.offset (tree_of cell) r) e.2.1)
      out e.2.2) d
  line_may (command.Add cell value) none d =
      on_segment cell.segment (Adds c cell value)
      (λ r e. coming_may number (λ v. tt) e.4.0
      (at_may (update_place_of can_update cell.offset [] e.2 r) (λ place. DoesVisit c r.arena (AddsActs e.2.value.order r.arena place e.0)) e.4.0 own
      (update_may cell.offset e.2 r) (λ place f. visit_may c own r.arena (AddsActs e.2.value.order r.arena place e.0) e.4.0 f) e.4.1) out e.4.2) d
  line_may (command.Cas cell old new) none d =
      on_segment cell.segment (Exchanges c cell old new)
      (λ r e. coming_may number (λ v. tt) e.6.0
      (at_may (update_place_of can_update cell.offset [] e.4 r) (λ place. DoesVisit c r.arena (ExchangesActs e.4.value.order r.arena place e.0 e.2)) e.6.0 own
      (update_may cell.offset e.4 r) (λ place f. visit_may c own r.arena (ExchangesActs e.4.value.order r.arena place e.0 e.2) e.6.0 f) e.6.1) out e.6.2) d
  line_may (command.Fill segment byte) none d =
      on_segment segment (Fills c byte) (λ r e. coming_may fine (λ v. tt) e.0 (fill_may c own r byte e.0 e.1) out e.2) d
  line_may (command.Copy source target) none d =
      on_segment source (λ r. On (standing.segment_of (stands target)) (Copies c r))
      (λ r e. on_segment target (Copies c r) (λ t f. coming_may fine (λ v. tt) f.0 (copy_may c own r t r.size f.0 f.1) out f.2) e) d
  line_may (command.Mismatch segment other) none d =
      on_segment segment (λ r. On (standing.segment_of (stands other)) (Compares c r))
      (λ r e. on_segment other (Compares c r)
      (λ t f. coming_may (λ z. plain (reply.Number z)) (λ v. tt) f.0 (mismatch_may c own r t f.0 f.1) out f.2) e) d
  line_may (command.Alive arena) none d =
      on_arena arena (Asks c) (λ id e. coming_may (λ alive. plain (reply.Truth alive)) (λ v. tt) e.0 (alive_may c own id e.0 e.1) out e.2) d
  line_may (command.Hold arena name) none d =
      on_arena arena (Holds c) (λ id e. coming_may (λ u. outcome reply.Fine (held_as e.0 id)) (λ v. tt) e.1.0 (hold_may c own id e.1.0 e.1.1) out e.1.2) d
  line_may (command.Unhold hold) none d =
      on_may (standing.hold_of (stands hold)) (Unholds c) out own (λ id e. subst (λ (o : LineOutcome). MayBe o.reply) (sym e.0) tt) d
  line_may (command.Again handle name) none d =
      on_may (standing.handle_of (stands handle)) (TakesAgain c) out own
      (λ id e. coming_may (λ u. outcome reply.Fine (handled_as e.0 id)) (λ v. tt) e.1.0 (again_may c own id e.1.0 e.1.1) out e.1.2) d
  line_may (command.Back handle) none d =
      on_may (standing.handle_of (stands handle)) (GivesBack c) out own
      (λ id e. subst (λ (o : LineOutcome). MayBe o.reply) (sym e.2) (back_may c e.0)) d
  line_may (command.Close arena by) none d =
      on_arena arena (Closes c) (λ id e. coming_may fine (λ v. tt) e.0 (close_may c own id e.0 e.1) out e.2) d

  -- No allocation takes memory.
  no_memory : (o : Option ArenaId) (size align : ℕ) → On o (Allocates c size align) out own → out.reply ≢ reply.Refused refusal.Memory
  no_memory None size align d e = let said : reply.Skipped ≡ reply.Refused refusal.Memory = sym (ap (λ (x : LineOutcome). x.reply) d.0) ∙ e in absurd (cc)
  no_memory (Some id) size align d e = answered d.0 d.1.0 (sym (ap (λ (x : LineOutcome). x.reply) d.2) ∙ e)
    where
      answered : (result : Result ℕ Refusal) → MayCome nature_of_shared result
          → (coming (λ place. outcome (reply.Place place) (Segment (region_of id place size))) result).reply ≢ reply.Refused refusal.Memory
      answered (Ok place) may same = absurd (cc)
      answered (Err r) may same =
          let is : r ≡ refusal.Memory = cc in
          let no : MayRefuse nature_of_shared refusal.Memory = subst (λ (x : Refusal). MayRefuse nature_of_shared x) is may in
          absurd (let x : ⊥ = cc in x)

  line_tells : (k : Command) → CallDoes c stands k out own → TellsNoWant k out.reply
  line_tells (command.Alloc arena name size align) d = record { memory = no_memory (standing.arena_of (stands arena)) size align d; page = λ e. refl }
  line_tells k d = tells k out.reply (line_may k refl d)

-- ---- lines in a row

abbrev pub TellNoWant : List Done → Type 0
TellNoWant ds = AllByRecursion (λ d. TellsNoWant d.line.command d.reply) ds

row_tells : (c : Caller) (names : List ℕ → Option ℕ) (k : ℕ) (now : Names) (ds : List Done) → AreRun c names k now ds → TellNoWant ds
row_tells c names k now [] h = tt
row_tells c names k now (d ∷ ds) h = (
  line_tells c (λ name. stands_of now (names name)) (outcome d.reply d.made) d.run d.line.command h.0,
  row_tells c names (k + 1) (names_behind names k d now) ds h.1,
)

workers_tell : (names : List ℕ → Option ℕ) (k : ℕ) (now : Names) (ws : List Player) → AreWorked names k now ws → TellNoWant (worked ws)
workers_tell names k now [] h = tt
workers_tell names k now (w ∷ ws) h =
    all_both (λ d. TellsNoWant d.line.command d.reply) w.dones (worked ws) (row_tells w.caller names k now w.dones h.0)
    (workers_tell names (k + length w.dones) now ws h.1)

pub no_line_wants : NoLineWants
no_line_wants s history p r =
    let P : Done → Type 0 = λ d. TellsNoWant d.line.command d.reply in
    all_both P p.firsts (worked p.players ++ p.lasts) (row_tells p.main (number_of p) 0 none_stands p.firsts r.first_calls)
    (all_both P (worked p.players) p.lasts (workers_tell (number_of p) _ _ p.players r.worker_calls)
    (row_tells p.main (number_of p) _ _ p.lasts r.last_calls))
