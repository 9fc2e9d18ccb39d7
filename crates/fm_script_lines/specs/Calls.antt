-- What the line of each command does on what the names that it uses stand for: its reply, the caller's own entries, and
-- what the name that it makes stands for.
use Rattle.std.specs.Prelude.{◌≡◌, ℕ, ℤ, Bool, true, false, List, [], Option, Some, None, Result, Ok, Err}
use Rattle.fm_base.specs.{declared.{caller.Caller.{Caller}, arena_id.ArenaId.{ArenaId}, kind.Kind.{Kind}, refusal.Refusal.{Refusal}}, Calls.{Entry}}
use Rattle.fm_base.specs.{Does.{DoesOpen, DoesAllocate, DoesClose, DoesIsAlive, DoesHold, DoesUnhold, DoesAgain, DoesGiveBack}, Outcomes.{MayCome}}
use Rattle.fm_base.specs.View.{but_loans}
use Rattle.fm_arena.specs.Shares.{nature_of_shared}
use Rattle.fm_gate.specs.Makers.{Made}
use Rattle.fm_lanes.specs.{declared.{value.Value.{Value}, value_kind.ValueKind.{ValueKind}}, Value.{kind_of, number_of_value}}
use Rattle.fm_layout.specs.{Made.{value_of, with_order}, Tree.{Tree}}
use Rattle.fm_path.specs.Resolution.{Resolution, IsResolved}
use Rattle.fm_segment.specs.{Access.{DoesGetAt, DoesSetAt, place_of, writable_place_of}, Comparisons.{DoesMismatch}, Copies.{DoesCopySegment}}
use Rattle.fm_segment.specs.{Fills.{DoesFillSegment}, Region.{Region, region_of, read_only_of}, Slices.{slice_of}}
use Rattle.fm_handle.specs.{Access.{DoesAdd, DoesExchange}, Place.{update_place_of, can_update}}
use Rattle.fm_script_text.specs.declared.{cell.Cell.{Cell}, command.Command.{Command}}
use Rattle.fm_script_text.specs.declared.command.Command.TheVariants as command
use Rattle.fm_script_lines.specs.declared.{outcome.LineOutcome.{LineOutcome}, reply.Reply.{Reply}}
use Rattle.fm_script_lines.specs.declared.{reply.Reply.TheVariants.{Fine, Place, Number, Truth, Kept, Ended, Refused, Skipped}, standing.Standing.{Standing}}
use Rattle.fm_script_lines.specs.{declared.standing.Standing.TheVariants.{Segment}, Outcomes.{outcome, plain}}
use Rattle.fm_script_lines.specs.Standings.{arena_of, segment_of, hold_of, handle_of, opened_as, held_as, handled_as}

-- what a line comes to, and the entries of its caller
abbrev pub Line : Type 1
Line = LineOutcome → List Entry → Type 0

-- the line makes no call
abbrev pub Skips : Line
Skips out own = (out ≡ plain Skipped) × (own ≡ [])

-- the call on what a name stands for; where that is nothing, the line is skipped
abbrev pub On : {X : Type 0} → Option X → (X → Line) → Line
On None Does = Skips
On (Some x) Does = Does x

-- what an answer comes to
abbrev pub coming : {X : Type 0} → (X → LineOutcome) → Result X Refusal → LineOutcome
coming ok (Ok x) = ok x
coming ok (Err refusal) = plain (Refused refusal)

-- the call did so, and its answer comes to this
abbrev pub Called : {X : Type 0} → (Result X Refusal → List Entry → Type 0) → (X → LineOutcome) → Line
Called {X} Does ok out own = (result : Result X Refusal) × Does result own × (out ≡ coming ok result)

-- the same of a call that lends blocks or takes them back
abbrev pub CalledBut : {X : Type 0} → (Result X Refusal → List Entry → Type 0) → (X → LineOutcome) → Line
CalledBut Does ok = Called (λ result own. Does result (but_loans own)) ok

-- a call's answer that may come over a pool, whose calls take no memory
abbrev pub OverPool : {X : Type 0} → (Result X Refusal → List Entry → Type 0) → Result X Refusal → List Entry → Type 0
OverPool Does result own = MayCome nature_of_shared result × Does result own

-- an answer that is known without an entry
abbrev pub Answers : {X : Type 0} → Result X Refusal → Result X Refusal → List Entry → Type 0
Answers answer result own = (result ≡ answer) × (own ≡ [])

abbrev pub fine : {X : Type 0} → X → LineOutcome
fine x = plain Fine

abbrev pub number : Value → LineOutcome
number v = plain (Number (number_of_value v))

abbrev pub segment_made : Region → LineOutcome
segment_made r = outcome Fine (Segment r)

-- ---- values

-- the layout of the value, of natural alignment
abbrev pub tree_of : Cell → Tree
tree_of cell = with_order cell.order (value_of cell.kind)

-- the value of this kind that this number is
pub record IsValue (kind : ValueKind) (z : ℤ) (v : Value) : Type 0 where
  pub kind_is : kind_of v ≡ kind
  pub number_is : number_of_value v ≡ z

-- a handle on the layout alone
abbrev pub IsHandleOf : Cell → Resolution → Type 0
IsHandleOf cell h = IsResolved [] (tree_of cell) h

module _ (c : Caller) where
  abbrev pub Gets : Cell → Region → Line
  Gets cell r = Called (DoesGetAt c r.arena (tree_of cell) (place_of cell.offset (tree_of cell) r)) number

  abbrev pub Sets : Cell → ℤ → Region → Line
  Sets cell value r out own = (v : Value) × IsValue cell.kind value v
      × Called (DoesSetAt c r.arena (tree_of cell) (writable_place_of cell.offset (tree_of cell) r) v) fine out own

  abbrev pub Adds : Cell → ℤ → Region → Line
  Adds cell value r out own = (v : Value) × IsValue cell.kind value v × (h : Resolution) × IsHandleOf cell h
      × Called (DoesAdd c h r (update_place_of can_update cell.offset [] h r) v) number out own

  abbrev pub Exchanges : Cell → ℤ → ℤ → Region → Line
  Exchanges cell old new r out own =
      (v : Value) × IsValue cell.kind old v × (w : Value) × IsValue cell.kind new w × (h : Resolution) × IsHandleOf cell h
      × Called (DoesExchange c h r (update_place_of can_update cell.offset [] h r) v w) number out own

  -- ---- bytes

  abbrev pub Fills : ℕ → Region → Line
  Fills byte r = Called (DoesFillSegment c r byte) fine

  abbrev pub Copies : Region → Region → Line
  Copies source target = Called (DoesCopySegment source 0 target 0 source.size c) fine

  abbrev pub Compares : Region → Region → Line
  Compares r other = Called (DoesMismatch c r other) (λ z. plain (Number z))

  -- ---- arenas; a pass made the handle or the hold

  abbrev pub Opens : Kind → Line
  Opens kind out own = (m : Made) × CalledBut (OverPool (DoesOpen c kind)) (λ id. outcome Fine (opened_as m kind id)) out own

  abbrev pub Allocates : ℕ → ℕ → ArenaId → Line
  Allocates size align id =
      CalledBut (OverPool (DoesAllocate c id size align)) (λ place. outcome (Place place) (Segment (region_of id place size)))

  abbrev pub Asks : ArenaId → Line
  Asks id = Called (DoesIsAlive c id) (λ alive. plain (Truth alive))

  abbrev pub Closes : ArenaId → Line
  Closes id = CalledBut (DoesClose c id) fine

  -- ---- holds and handles

  abbrev pub Holds : ArenaId → Line
  Holds id out own = (m : Made) × Called (DoesHold c id) (λ u. outcome Fine (held_as m id)) out own

  abbrev pub Unholds : ArenaId → Line
  Unholds id out own = (out ≡ plain Fine) × DoesUnhold c id own

  abbrev pub TakesAgain : ArenaId → Line
  TakesAgain id out own = (m : Made) × Called (DoesAgain c id) (λ u. outcome Fine (handled_as m id)) out own

  abbrev pub kept_or_ended : Bool → Reply
  kept_or_ended true = Kept
  kept_or_ended false = Ended

  abbrev pub GivesBack : ArenaId → Line
  GivesBack id out own = (others_left : Bool) × DoesGiveBack c id others_left (but_loans own) × (out ≡ plain (kept_or_ended others_left))

  -- ---- all commands

  -- the names stand for this
  module _ (stands : List ℕ → Standing) where
    abbrev pub arena_at : List ℕ → Option ArenaId
    arena_at name = arena_of (stands name)

    abbrev pub segment_at : List ℕ → Option Region
    segment_at name = segment_of (stands name)

    abbrev pub CallDoes : Command → Line
    CallDoes (command.Open name kind) = Opens kind
    CallDoes (command.Alloc arena name size align) = On (arena_at arena) (Allocates size align)
    CallDoes (command.Slice segment name offset size) = On (segment_at segment) (λ r. Called (Answers (slice_of offset size r)) segment_made)
    CallDoes (command.Readonly segment name) = On (segment_at segment) (λ r. Called (Answers (Ok (read_only_of r))) segment_made)
    CallDoes (command.Get cell) = On (segment_at cell.segment) (Gets cell)
    CallDoes (command.Set cell value) = On (segment_at cell.segment) (Sets cell value)
    CallDoes (command.Add cell value) = On (segment_at cell.segment) (Adds cell value)
    CallDoes (command.Cas cell old new) = On (segment_at cell.segment) (Exchanges cell old new)
    CallDoes (command.Fill segment byte) = On (segment_at segment) (Fills byte)
    CallDoes (command.Copy source target) = On (segment_at source) (λ r. On (segment_at target) (Copies r))
    CallDoes (command.Mismatch segment other) = On (segment_at segment) (λ r. On (segment_at other) (Compares r))
    CallDoes (command.Alive arena) = On (arena_at arena) Asks
    CallDoes (command.Hold arena name) = On (arena_at arena) Holds
    CallDoes (command.Unhold hold) = On (hold_of (stands hold)) Unholds
    CallDoes (command.Again handle name) = On (handle_of (stands handle)) TakesAgain
    CallDoes (command.Back handle) = On (handle_of (stands handle)) GivesBack
    CallDoes (command.Close arena by) = On (arena_at arena) Closes

-- the line's call is one of a handle, which is resolved in memory of its own
abbrev pub takes_memory : Command → Bool
takes_memory (command.Add cell value) = true
takes_memory (command.Cas cell old new) = true
takes_memory c = false
