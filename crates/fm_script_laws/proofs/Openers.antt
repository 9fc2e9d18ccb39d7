-- Whose entry opens an arena, that line is an `open` line that was answered ok.
use Rattle.std.proofs.Common.{◌≡◌, ℕ, ◌+◌, Bool, true, false, Option, Some, None, Result, Ok, Err, List, [], ◌∷◌, ◌++◌, refl, sym, ap, ◌∙◌, subst, inl, inr}
use Rattle.fm_base.specs.declared.{arena_id.ArenaId.{ArenaId}, caller.Caller.{Caller}, kind.Kind.{Kind}, refusal.Refusal.{Refusal}}
use Rattle.fm_base.specs.{Calls.{Open, Fine, Entry, entry_of}, Does.{DoesOpen, DoesAllocate, DoesClose, DoesIsAlive, DoesHold, DoesAgain, DoesGiveBack}}
use Rattle.fm_base.specs.View.{but_loans}
use Rattle.fm_base.specs.declared.kind.Kind.TheVariants as kind
use Rattle.fm_base.specs.declared.refusal.Refusal.TheVariants as refusal
use Rattle.fm_base_lists.{specs.Among.{IsAmong}, proofs.Among.{among_either}}
use Rattle.fm_rule_facts.{specs.Views.{In}, proofs.Keeping.{in_left, in_right}}
use Rattle.fm_script_lines.specs.declared.{outcome.LineOutcome.{LineOutcome}, standing.Standing.{Standing}}
use Rattle.fm_script_lines.specs.Calls.{Line, On, Called, Answers, CallDoes, Gets, Sets, Adds, Exchanges, Fills, Copies, Compares, Allocates, Asks, Closes, Holds, Unholds, TakesAgain, GivesBack, coming, segment_made, tree_of}
use Rattle.fm_script_lines.specs.{Outcomes.{outcome}, Played.{Done, runs}, Report.{AreRun, names_behind}, Slots.{Opened, opens}}
use Rattle.fm_script_lines.specs.Standings.{Names, opened_as, stands_of}
use Rattle.fm_script_lines.specs.declared.reply.Reply.TheVariants as reply
use Rattle.fm_script_lines.specs.Standings as standing
use Rattle.fm_gate.specs.Makers.{Made}
use Rattle.fm_handle.specs.Place.{can_update, update_place_of}
use Rattle.fm_script_text.specs.declared.command.Command.{Command}
use Rattle.fm_script_text.specs.declared.command.Command.TheVariants as command
use Rattle.fm_segment.specs.{Access.{place_of, writable_place_of}, Region.{Region, read_only_of}, Slices.{slice_of}}
use Rattle.fm_script_laws.proofs.Accessing.{AllOpenNone, open_as, gets_open, sets_open, fills_open, copies_open, mismatch_open, exchanges_open, adds_open}
use Rattle.fm_script_laws.proofs.Opened.{among_but, but_as, none_opens}

-- ---- lines that open none

module _ (c : Caller) (own : List Entry) where
  -- On what a name stands for.
  on_none : {X : Type 0} (o : Option X) (Does : X → Line) (out : LineOutcome) → ((x : X) → Does x out own → AllOpenNone own) → On o Does out own
      → AllOpenNone own
  on_none None Does out f d = open_as own [] d.1 tt
  on_none (Some x) Does out f d = f x d

  allocate_none : (id : ArenaId) (size align : ℕ) (result : Result ℕ Refusal) → DoesAllocate c id size align result (but_loans own) → AllOpenNone own
  allocate_none id size align (Ok place) d = but_as own _ d.2 (tt, (tt, (tt, tt)))
  allocate_none id size align (Err refusal.BadAlignment) d = but_as own [] d.1 tt
  allocate_none id size align (Err refusal.WrongThread) d = but_as own [] d.2 tt
  allocate_none id size align (Err refusal.Closed) d = but_as own _ d.2 (tt, tt)
  allocate_none id size align (Err (refusal.NoRoom given)) d = but_as own _ d.2 (tt, (tt, (tt, tt)))
  allocate_none id size align (Err refusal.PoolFull) d = but_as own _ d.2 (tt, (tt, tt))
  allocate_none id size align (Err refusal.Memory) d = but_as own [] d.2 tt
  allocate_none id size align (Err r) d = absurd d

  alive_none : (id : ArenaId) (result : Result Bool Refusal) → DoesIsAlive c id result own → AllOpenNone own
  alive_none id (Ok true) d = open_as own _ d.1 (tt, (tt, tt))
  alive_none id (Ok false) d = open_as own _ d.1 (tt, tt)
  alive_none id (Err refusal.WrongThread) d = open_as own [] d.1 tt
  alive_none id (Err r) d = absurd d

  close_none : (id : ArenaId) (result : Result (Unit {0}) Refusal) → DoesClose c id result (but_loans own) → AllOpenNone own
  close_none id (Ok u) d = but_as own _ d.2 (tt, (tt, tt))
  close_none id (Err (refusal.CannotClose k)) d = but_as own [] d.2 tt
  close_none id (Err refusal.WrongThread) d = but_as own [] d.2 tt
  close_none id (Err refusal.Closed) d = but_as own _ d.2 (tt, tt)
  close_none id (Err (refusal.Held holds)) d = but_as own _ d.3 (tt, tt)
  close_none id (Err r) d = absurd d

  hold_none : (id : ArenaId) (result : Result (Unit {0}) Refusal) → DoesHold c id result own → AllOpenNone own
  hold_none id (Ok u) d = open_as own _ d.1.1 (tt, tt)
  hold_none id (Err refusal.Unsupported) d = open_as own [] d.1 tt
  hold_none id (Err refusal.WrongThread) d = open_as own [] d.1.1 tt
  hold_none id (Err refusal.Closed) d = open_as own _ d.1.1 (tt, tt)
  hold_none id (Err refusal.TooManyHolds) d = open_as own _ d.1.1 (tt, tt)
  hold_none id (Err r) d = absurd d.1

  again_none : (id : ArenaId) (result : Result (Unit {0}) Refusal) → DoesAgain c id result own → AllOpenNone own
  again_none id (Ok u) d = open_as own _ d (tt, tt)
  again_none id (Err refusal.TooManyHolds) d = open_as own _ d (tt, tt)
  again_none id (Err r) d = absurd d

  back_none : (id : ArenaId) (others_left : Bool) → DoesGiveBack c id others_left (but_loans own) → AllOpenNone own
  back_none id true d = but_as own _ d (tt, tt)
  back_none id false d = but_as own _ d (tt, (tt, tt))

  -- Each command but `open`.
  module _ (stands : List ℕ → Standing) (out : LineOutcome) where
    on_arena : (name : List ℕ) (Does : ArenaId → Line) → ((id : ArenaId) → Does id out own → AllOpenNone own)
        → On (standing.arena_of (stands name)) Does out own → AllOpenNone own
    on_arena name Does f d = on_none (standing.arena_of (stands name)) Does out f d

    on_segment : (name : List ℕ) (Does : Region → Line) → ((r : Region) → Does r out own → AllOpenNone own)
        → On (standing.segment_of (stands name)) Does out own → AllOpenNone own
    on_segment name Does f d = on_none (standing.segment_of (stands name)) Does out f d

    call_none : (k : Command) → opens k ≡ false → CallDoes c stands k out own → AllOpenNone own
    call_none (command.Open name kind) is does = absurd (let no : ⊥ = cc in no)
    call_none (command.Alloc arena name size align) is does =
        on_arena arena (Allocates c size align) (λ id d. allocate_none id size align d.0 d.1.1) does
    call_none (command.Slice segment name offset size) is does =
        on_segment segment (λ r. Called (Answers (slice_of offset size r)) segment_made) (λ r d. open_as own [] d.1.1 tt) does
    call_none (command.Readonly segment name) is does =
        on_segment segment (λ r. Called (Answers (Ok (read_only_of r))) segment_made) (λ r d. open_as own [] d.1.1 tt) does
    call_none (command.Get cell) is does =
        on_segment cell.segment (Gets c cell)
        (λ r d. gets_open c r.arena (tree_of cell) (place_of cell.offset (tree_of cell) r) d.0 own d.1) does
    call_none (command.Set cell value) is does =
        on_segment cell.segment (Sets c cell value)
        (λ r d. sets_open c r.arena (tree_of cell) (writable_place_of cell.offset (tree_of cell) r) d.0 d.2.0 own d.2.1) does
    call_none (command.Add cell value) is does =
        on_segment cell.segment (Adds c cell value)
        (λ r d. adds_open c d.2.value.order r.arena (update_place_of can_update cell.offset [] d.2 r) d.0 d.4.0 own d.4.1) does
    call_none (command.Cas cell old new) is does =
        on_segment cell.segment (Exchanges c cell old new)
        (λ r d. exchanges_open c d.4.value.order r.arena (update_place_of can_update cell.offset [] d.4 r) d.0 d.2 d.6.0 own d.6.1) does
    call_none (command.Fill segment byte) is does = on_segment segment (Fills c byte) (λ r d. fills_open c r byte d.0 own d.1) does
    call_none (command.Copy source target) is does =
        on_segment source (λ r. On (standing.segment_of (stands target)) (Copies c r))
        (λ r d. on_segment target (Copies c r) (λ t e. copies_open c r t r.size e.0 own e.1) d) does
    call_none (command.Mismatch segment other) is does =
        on_segment segment (λ r. On (standing.segment_of (stands other)) (Compares c r))
        (λ r d. on_segment other (Compares c r) (λ t e. mismatch_open c r t e.0 own e.1) d) does
    call_none (command.Alive arena) is does = on_arena arena (Asks c) (λ id d. alive_none id d.0 d.1) does
    call_none (command.Hold arena name) is does = on_arena arena (Holds c) (λ id d. hold_none id d.1.0 d.1.1) does
    call_none (command.Unhold hold) is does =
        on_none (standing.hold_of (stands hold)) (Unholds c) out (λ id d. open_as own _ d.1 (tt, tt)) does
    call_none (command.Again handle name) is does =
        on_none (standing.handle_of (stands handle)) (TakesAgain c) out (λ id d. again_none id d.1.0 d.1.1) does
    call_none (command.Back handle) is does =
        on_none (standing.handle_of (stands handle)) (GivesBack c) out (λ id d. back_none id d.0 d.1) does
    call_none (command.Close arena by) is does = on_arena arena (Closes c) (λ id d. close_none id d.0 d.1) does

-- ---- lines that open one

-- it opened this arena
record OpenedBy (a : ArenaId) (k : Command) (out : LineOutcome) : Type 0 where
  opens : opens k ≡ true
  fine : out.reply ≡ reply.Fine
  is : standing.arena_of out.made ≡ Some a

opened_arena : (m : Made) (k : Kind) (id : ArenaId) → standing.arena_of (opened_as m k id) ≡ Some id
opened_arena m kind.Global id = refl
opened_arena m kind.Automatic id = refl
opened_arena m kind.Confined id = refl
opened_arena m kind.Shared id = refl

module _ (c : Caller) (own : List Entry) (e : Entry) (a : ArenaId) (among : IsAmong e own) (call : e.call ≡ Open a) where
  -- Its one entry but for loans is this.
  open_opens : (m : Made) (name : List ℕ) (k : Kind) (result : Result ArenaId Refusal) (out : LineOutcome) → DoesOpen c k result (but_loans own)
      → out ≡ coming (λ id. outcome reply.Fine (opened_as m k id)) result → OpenedBy a (command.Open name k) out
  open_opens m name k (Ok id) out d is =
      let one : IsAmong e (entry_of c (Open id) Fine ∷ []) = subst (λ (es : List Entry). IsAmong e es) d.2 (among_but e a own call among) in
      let here : e ≡ entry_of c (Open id) Fine = elim one [ inl i ↦ i | inr none ↦ absurd none ] in
      let opening : Open id ≡ Open a = sym (ap (λ (x : Entry). x.call) here) ∙ call in
      let same : id ≡ a = cc in
      record {
        opens = refl;
        fine = ap (λ (x : LineOutcome). x.reply) is;
        is = ap (λ (x : LineOutcome). standing.arena_of x.made) is ∙ (opened_arena m k id ∙ ap Some same);
      }
  open_opens m name k (Err refusal.NoSlot) out d is = absurd (none_opens e a own (but_as own [] d tt) among call)
  open_opens m name k (Err refusal.Memory) out d is = absurd (none_opens e a own (but_as own [] d tt) among call)
  open_opens m name k (Err r) out d is = absurd d

  line_opens : (stands : List ℕ → Standing) (k : Command) (out : LineOutcome) → CallDoes c stands k out own → OpenedBy a k out
  line_opens stands (command.Open name kind) out does = open_opens does.0 name kind does.1.0 out does.1.1.1 does.1.2
  line_opens stands k out does = absurd (none_opens e a own (call_none c own stands out k refl does) among call)

-- ---- lines in a row

-- Among more lines.
pub opened_wider : (slot : ℕ) (ds es : List Done) → ((d : Done) → In d ds → In d es) → Opened slot ds → Opened slot es
opened_wider slot ds es f o = record {
  done = o.done;
  among = f o.done o.among;
  opens = o.opens;
  fine = o.fine;
  arena = o.arena;
  is = o.is;
  in_slot = o.in_slot;
}

pub opened_left : (slot : ℕ) (ds es : List Done) → Opened slot ds → Opened slot (ds ++ es)
opened_left slot ds es o = opened_wider slot ds (ds ++ es) (λ d i. in_left d ds es i) o

pub opened_right : (slot : ℕ) (ds es : List Done) → Opened slot es → Opened slot (ds ++ es)
opened_right slot ds es o = opened_wider slot es (ds ++ es) (λ d i. in_right d ds es i) o

module _ (c : Caller) (number : List ℕ → Option ℕ) (e : Entry) (a : ArenaId) (call : e.call ≡ Open a) where
  -- The line whose entry it is.
  pub done_opened : (names : Names) (d : Done) → CallDoes c (λ name. stands_of names (number name)) d.line.command (outcome d.reply d.made) d.run
      → IsAmong e d.run → Opened a.slot (d ∷ [])
  done_opened names d does among =
      let o = line_opens c d.run e a among call (λ name. stands_of names (number name)) d.line.command (outcome d.reply d.made) does in
      record { done = d; among = inl refl; opens = o.opens; fine = o.fine; arena = a; is = o.is; in_slot = refl }

  -- One of the lines is such a line.
  pub row_opened : (k : ℕ) (names : Names) (ds : List Done) → AreRun c number k names ds → IsAmong e (runs ds) → Opened a.slot ds
  row_opened k names [] run among = absurd among
  row_opened k names (d ∷ ds) run among = elim (among_either e d.run (runs ds) among) [
    | inl here ↦ opened_left a.slot (d ∷ []) ds (done_opened names d run.0 here)
    | inr later ↦ opened_right a.slot (d ∷ []) ds (row_opened (k + 1) (names_behind number k d names) ds run.1 later)
  ]
