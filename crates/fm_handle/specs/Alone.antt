-- What the only caller of a memory sees of a handle's calls.
use Rattle.std.specs.Prelude.{◌≡◌, ◌≢◌, ℕ, Bool, true, false}
use Rattle.fm_base.specs.{declared.arena_id.ArenaId.{ArenaId}, Arenas.{State}, View.{View}}
use Rattle.fm_lanes.specs.declared.value.Value.{Value}
use Rattle.fm_path.specs.declared.value_spec.ValueSpec.{ValueSpec}
use Rattle.fm_segment_access.specs.Values as here
use Rattle.fm_handle.specs.Acts.{sum_of}

-- the value that the arena's bytes from the place on mean
abbrev pub value_at : State → ValueSpec → ArenaId → ℕ → Value
value_at s v = here.value_at s v.kind v.order

-- found is the value at the place, and the state stays
abbrev pub FindsValue : View → View → ValueSpec → ArenaId → ℕ → Value → Type 0
FindsValue old new v = here.FindsValue old new v.kind v.order

-- v is put at the place, and all else stays
abbrev pub PutsValue : View → View → ValueSpec → ArenaId → ℕ → Value → Type 0
PutsValue old new v = here.PutsValue old new v.kind v.order

-- found is the value at the place. Where it is the one expected, v is put, else the state stays
pub record ExchangesValue (old new : View) (spec : ValueSpec) (id : ArenaId) (place : ℕ) (expected v found : Value) : Type 0 where
  pub value : found ≡ value_at old.state spec id place
  pub puts : found ≡ expected → PutsValue old new spec id place v
  pub stays : found ≢ expected → new.state ≡ old.state

-- true: the value at the place is the one expected, and v is put. false: it is another, and the state stays
abbrev pub SetsExpected : View → View → ValueSpec → ArenaId → ℕ → Value → Value → Bool → Type 0
SetsExpected old new spec id place expected v true =
    (expected ≡ value_at old.state spec id place) × PutsValue old new spec id place v
SetsExpected old new spec id place expected v false =
    (expected ≢ value_at old.state spec id place) × (new.state ≡ old.state)

-- found is the value at the place, and its sum with delta is put
pub record AddsValue (old new : View) (spec : ValueSpec) (id : ArenaId) (place : ℕ) (delta found : Value) : Type 0 where
  pub value : found ≡ value_at old.state spec id place
  pub puts : PutsValue old new spec id place (sum_of found delta)

-- where v was set, and the value is got next, it is v
abbrev pub SetsThenGets : ValueSpec → ArenaId → ℕ → Value → Type 0
SetsThenGets v = here.PutsThenGets v.kind v.order
