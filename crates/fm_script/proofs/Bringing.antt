-- A line whose name stands for an arena has the entry that opened it.
use Rattle.std.proofs.Common.{◌≡◌, ℕ, zero, suc, ◌+◌, ◌≤◌, true, false, List, [], ◌∷◌, ◌++◌, length, get_or, Option, Some, None, Result, Ok, Err, refl, sym, ap, ◌∙◌, arith}
use Rattle.std.specs.{List.{AllByRecursion}, Prelude.{not}}
use Rattle.fm_base.specs.{declared.{arena_id.ArenaId.{ArenaId}, caller.Caller.{Caller}, kind.Kind.{Kind}, refusal.Refusal.{Refusal}}, Arenas.{same_id}}
use Rattle.fm_base.{specs.{Calls.{Entry, Fine, Open, entry_of}, Does.{DoesOpen}, View.{but_loans, is_loan}}, proofs.Names.{same_id-self}}
use Rattle.fm_base.specs.declared.kind.Kind.TheVariants as kind
use Rattle.fm_base_lists.proofs.Each.{all_both}
use Rattle.fm_rule_facts.specs.Holds.{one_if}
use Rattle.fm_script_report.specs.Told.{opened_of}
use Rattle.fm_script_lines.specs.declared.{outcome.LineOutcome.{LineOutcome}, standing.Standing.{Standing}}
use Rattle.fm_script_lines.specs.Calls.{Adds, Allocates, Asks, CallDoes, Closes, Compares, Copies, Exchanges, Fills, Gets, GivesBack, Holds, Line, On, Sets, TakesAgain, Unholds, arena_at, coming, fine, number, segment_at, segment_made}
use Rattle.fm_script_lines.specs.Outcomes.{outcome, plain}
use Rattle.fm_script_lines.specs.Report.{AreRun, AreWorked, Done, IsReport, Played, Player, all_done, names_behind, none_stands, number_of, worked}
use Rattle.fm_script_lines.specs.{Standings.{Names, arena_of, handle_of, handled_as, held_as, hold_of, opened_as, stands_of}, Slots.{opens}}
use Rattle.fm_script_lines.specs.declared.reply.Reply.TheVariants as reply
use Rattle.fm_gate.specs.Makers.{Made as MadeBy}
use Rattle.fm_script_text.specs.{declared.command.Command.{Command}, Scripts.{ScriptOf}}
use Rattle.fm_script_text.specs.declared.command.Command.TheVariants as command
use Rattle.fm_script_lines.specs.declared.standing.Standing.TheVariants as standing
use Rattle.fm_segment.specs.Region.{Region, region_of}
use Rattle.fm_script.proofs.Once.{is_opening, kept, openings, opened_by}

module _ (a : ArenaId) where
  -- ---- a line that opened it has its entry

  abbrev NoArena : LineOutcome → Type 0
  NoArena out = arena_of out.made ≡ None

  by_answer : {X : Type 0} (ok : X → LineOutcome) → ((x : X) → NoArena (ok x)) → (result : Result X Refusal) (out : LineOutcome) → out ≡ coming ok result
      → NoArena out
  by_answer ok f (Ok x) out is = ap (λ (o : LineOutcome). arena_of o.made) is ∙ f x
  by_answer ok f (Err r) out is = ap (λ (o : LineOutcome). arena_of o.made) is

  by_name : {X : Type 0} (o : Option X) (Does : X → Line) (out : LineOutcome) (own : List Entry) → ((x : X) → Does x out own → NoArena out)
      → On o Does out own → NoArena out
  by_name None Does out own f d = ap (λ (x : LineOutcome). arena_of x.made) d.0
  by_name (Some x) Does out own f d = f x d

  opened_arena : (m : MadeBy) (k : Kind) (id : ArenaId) → arena_of (opened_as m k id) ≡ Some id
  opened_arena m kind.Global id = refl
  opened_arena m kind.Automatic id = refl
  opened_arena m kind.Confined id = refl
  opened_arena m kind.Shared id = refl

  open_brings : (c : Caller) (m : MadeBy) (k : Kind) (result : Result ArenaId Refusal) (out : LineOutcome) (own : List Entry)
      → DoesOpen c k result (but_loans own)
      → out ≡ coming (λ id. outcome reply.Fine (opened_as m k id)) result → arena_of out.made ≡ Some a → 1 ≤ openings a own
  open_brings c m k (Ok id) out own d is makes =
      let arena : Some id ≡ Some a = sym (ap (λ (x : LineOutcome). arena_of x.made) is ∙ opened_arena m k id) ∙ makes in
      let same : id ≡ a = cc in
      let this : same_id id a ≡ true = ap (λ (x : ArenaId). same_id x a) same ∙ same_id-self a in
      let one : one_if (is_opening a (Open id)) ≡ 1 = ap one_if this in
      let but : openings a (but_loans own) ≡ openings a (entry_of c (Open id) Fine ∷ []) = ap (openings a) d.2 in
      let less = kept a (λ e. not (is_loan e.call)) own in
      omega (arith, one, but, less)
  open_brings c m k (Err r) out own d is makes =
      let none : arena_of out.made ≡ None = ap (λ (x : LineOutcome). arena_of x.made) is in
      absurd (let no : ⊥ = cc in no)

  no_arena : (out : LineOutcome) (own : List Entry) → NoArena out → arena_of out.made ≡ Some a → 1 ≤ openings a own
  no_arena out own none makes = absurd (let no : ⊥ = cc in no)

  module _ (c : Caller) (stands : List ℕ → Standing) (out : LineOutcome) (own : List Entry) where
    on_arena : (name : List ℕ) (Does : ArenaId → Line) → ((id : ArenaId) → Does id out own → NoArena out) → On (arena_at c stands name) Does out own
        → NoArena out
    on_arena name Does f d = by_name (arena_at c stands name) Does out own f d

    on_segment : (name : List ℕ) (Does : Region → Line) → ((r : Region) → Does r out own → NoArena out) → On (segment_at c stands name) Does out own
        → NoArena out
    on_segment name Does f d = by_name (segment_at c stands name) Does out own f d

    -- Lines of other commands make none.
    none_made : (k : Command) → opens k ≡ false → CallDoes c stands k out own → NoArena out
    none_made (command.Open name kind) o d = absurd (let no : ⊥ = cc in no)
    none_made (command.Alloc arena name size align) o d =
        on_arena arena (Allocates c size align)
        (λ id e. by_answer (λ place. outcome (reply.Place place) (standing.Segment (region_of id place size))) (λ x. refl) e.0 out e.2) d
    none_made (command.Slice segment name offset size) o d = on_segment segment _ (λ r e. by_answer segment_made (λ x. refl) e.0 out e.2) d
    none_made (command.Readonly segment name) o d = on_segment segment _ (λ r e. by_answer segment_made (λ x. refl) e.0 out e.2) d
    none_made (command.Get cell) o d = on_segment cell.segment (Gets c cell) (λ r e. by_answer number (λ x. refl) e.0 out e.2) d
    none_made (command.Set cell value) o d = on_segment cell.segment (Sets c cell value) (λ r e. by_answer fine (λ x. refl) e.2.0 out e.2.2) d
    none_made (command.Add cell value) o d = on_segment cell.segment (Adds c cell value) (λ r e. by_answer number (λ x. refl) e.4.0 out e.4.2) d
    none_made (command.Cas cell old new) o d =
        on_segment cell.segment (Exchanges c cell old new) (λ r e. by_answer number (λ x. refl) e.6.0 out e.6.2) d
    none_made (command.Fill segment byte) o d = on_segment segment (Fills c byte) (λ r e. by_answer fine (λ x. refl) e.0 out e.2) d
    none_made (command.Copy source target) o d =
        on_segment source (λ r. On (segment_at c stands target) (Copies c r))
        (λ r e. on_segment target (Copies c r) (λ t f. by_answer fine (λ x. refl) f.0 out f.2) e) d
    none_made (command.Mismatch segment other) o d =
        on_segment segment (λ r. On (segment_at c stands other) (Compares c r))
        (λ r e. on_segment other (Compares c r) (λ t f. by_answer (λ z. plain (reply.Number z)) (λ x. refl) f.0 out f.2) e) d
    none_made (command.Alive arena) o d = on_arena arena (Asks c) (λ id e. by_answer (λ alive. plain (reply.Truth alive)) (λ x. refl) e.0 out e.2) d
    none_made (command.Hold arena name) o d =
        on_arena arena (Holds c) (λ id e. by_answer (λ u. outcome reply.Fine (held_as e.0 id)) (λ x. refl) e.1.0 out e.1.2) d
    none_made (command.Unhold hold) o d =
        by_name (hold_of (stands hold)) (Unholds c) out own (λ id e. ap (λ (x : LineOutcome). arena_of x.made) e.0) d
    none_made (command.Again handle name) o d =
        by_name (handle_of (stands handle)) (TakesAgain c) out own
        (λ id e. by_answer (λ u. outcome reply.Fine (handled_as e.0 id)) (λ x. refl) e.1.0 out e.1.2) d
    none_made (command.Back handle) o d =
        by_name (handle_of (stands handle)) (GivesBack c) out own (λ id e. ap (λ (x : LineOutcome). arena_of x.made) e.2) d
    none_made (command.Close arena by) o d = on_arena arena (Closes c) (λ id e. by_answer fine (λ x. refl) e.0 out e.2) d

    line_brings : (k : Command) → CallDoes c stands k out own → arena_of out.made ≡ Some a → 1 ≤ openings a own
    line_brings (command.Open name kind) d makes = open_brings c d.0 kind d.1.0 out own d.1.1.1 d.1.2 makes
    line_brings k d makes = no_arena out own (none_made k refl d) makes

  -- ---- lines in a row

  -- if its name stands for the arena, it has the entry
  abbrev pub Brings : Done → Type 0
  Brings d = arena_of d.made ≡ Some a → 1 ≤ openings a d.run

  row_brings : (c : Caller) (names : List ℕ → Option ℕ) (k : ℕ) (now : Names) (ds : List Done) → AreRun c names k now ds → AllByRecursion Brings ds
  row_brings c names k now [] h = tt
  row_brings c names k now (d ∷ ds) h = (
    (λ makes. line_brings c (λ name. stands_of now (names name)) (outcome d.reply d.made) d.run d.line.command h.0 makes),
    row_brings c names (k + 1) (names_behind names k d now) ds h.1,
  )

  workers_bring : (names : List ℕ → Option ℕ) (k : ℕ) (now : Names) (ws : List Player) → AreWorked names k now ws → AllByRecursion Brings (worked ws)
  workers_bring names k now [] h = tt
  workers_bring names k now (w ∷ ws) h =
      all_both Brings w.dones (worked ws) (row_brings w.caller names k now w.dones h.0) (workers_bring names (k + length w.dones) now ws h.1)

  pub all_bring : (s : ScriptOf) (history : List Entry) (p : Played) → IsReport s history p → AllByRecursion Brings (all_done p)
  all_bring s history p r =
      all_both Brings p.firsts (worked p.players ++ p.lasts) (row_brings p.main (number_of p) 0 none_stands p.firsts r.first_calls)
      (all_both Brings (worked p.players) p.lasts (workers_bring (number_of p) _ _ p.players r.worker_calls)
      (row_brings p.main (number_of p) _ _ p.lasts r.last_calls))

  pub one_at : (ds : List Done) → AllByRecursion Brings ds → (i : ℕ) → get_or (opened_of ds) i None ≡ Some a → 1 ≤ opened_by a ds
  one_at [] h i e = absurd (let no : ⊥ = cc in no)
  one_at (d ∷ ds) h zero e = let here = h.0 e in omega (arith, here)
  one_at (d ∷ ds) h (suc i) e = let rest = one_at ds h.1 i e in omega (arith, rest)

  -- Where they opened it once at most, one line did.
  pub one_line : (ds : List Done) → AllByRecursion Brings ds → opened_by a ds ≤ 1 → (i j : ℕ) → get_or (opened_of ds) i None ≡ Some a
      → get_or (opened_of ds) j None ≡ Some a → i ≡ j
  one_line [] h few i j e f = absurd (let no : ⊥ = cc in no)
  one_line (d ∷ ds) h few zero zero e f = refl
  one_line (d ∷ ds) h few zero (suc j) e f = absurd (let here = h.0 e in let rest = one_at ds h.1 j f in omega (arith, few, here, rest))
  one_line (d ∷ ds) h few (suc i) zero e f = absurd (let here = h.0 f in let rest = one_at ds h.1 i e in omega (arith, few, here, rest))
  one_line (d ∷ ds) h few (suc i) (suc j) e f =
      let less : opened_by a ds ≤ 1 = omega (arith, few) in
      ap suc (one_line ds h.1 less i j e f)
