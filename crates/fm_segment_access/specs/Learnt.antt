-- What accesses ask for, and what their caller learns: one record each.
use Rattle.std.specs.Prelude.{◌≡◌, ℕ, ◌+◌, ◌*◌, ◌%◌, ◌^◌, ◌<◌, ◌≤◌, true, None, Result, IfOk, IfErr, OnErr, List, length, replicate, ⊤}
use Rattle.fm_base.specs.{declared.{arena_id.ArenaId.{ArenaId}, refusal.Refusal.{Refusal}}, Arenas.{has_arena}, Calls.{Entry}, Outcomes.{Lasts}}
use Rattle.fm_base.specs.View.{View, Did, given_in, IsByItself}
use Rattle.fm_lanes.specs.{declared.{order.Order.{Order}, value.Value.{Value}, value_kind.ValueKind.{ValueKind}}, Value.{kind_of}}
use Rattle.fm_segment_access.specs.{Alone.{FindsNumber, ChangesBytes, StaysOut}, Found.{UseCause}, Ranges.{DoesGet, DoesPut, DoesPutBy, DoesSome}}
use Rattle.fm_segment_access.specs.{Runs.{PutsMore}, Values.{DoesGetValue, DoesPutValue, FindsValue, PutsValue}}

-- in no arena; the arena is known, and has given the bytes from the place on
pub record CanTouch (v : View) (id : ArenaId) (place size : ℕ) : Type 0 where
  pub outside : v.inside ≡ None
  pub known : has_arena v.state id ≡ true
  pub given : place + size ≤ given_in v id
  pub small : place + size ≤ 2 ^ 40

-- the same, for the 1 to 8 bytes of a number
pub record CanTouchNumber (v : View) (id : ArenaId) (place width : ℕ) : Type 0 where
  pub outside : v.inside ≡ None
  pub known : has_arena v.state id ≡ true
  pub some : 1 ≤ width
  pub few : width ≤ 8
  pub given : place + width ≤ given_in v id
  pub small : place + width ≤ 2 ^ 40

-- in no arena; the arena is known, and has given these bytes, which lie in one word
pub record CanTouchPiece (v : View) (id : ArenaId) (place width : ℕ) : Type 0 where
  pub outside : v.inside ≡ None
  pub known : has_arena v.state id ≡ true
  pub some : 1 ≤ width
  pub within : place % 8 + width ≤ 8
  pub given : place + width ≤ given_in v id

-- What is learnt of a visit, or of two
pub record Visited (old new : View) (Does : List Entry → Type 0) : Type 0 where
  pub did : Did old new Does
  pub outside : new.inside ≡ None
  pub lasts : Lasts old new

-- What is learnt of a call that goes to arenas
pub record After {X : Type 0} (old new : View) (Does : Result X Refusal → List Entry → Type 0) (Cause : Refusal → Type 0) (Alone : X
    → Type 0) (Shut : Type 0) (Known : View → Type 0) (Kind : X → Type 0) (result : Result X Refusal) : Type 0 where
  -- the caller's own acts, and the answer
  pub did : Did old new (Does result)
  -- why it is refused, the first cause that applies
  pub refused : IfErr result Cause
  -- what is found or changed where the caller is by itself
  pub alone : IsByItself old → IfOk result Alone
  -- what a refusal leaves there
  pub shut : IsByItself old → OnErr result Shut
  pub outside : new.inside ≡ None
  pub lasts : Lasts old new
  -- the arenas are known still
  pub known : Known new
  -- what the answer may be used as
  pub kind : IfOk result Kind

abbrev pub KnowsArena : ArenaId → View → Type 0
KnowsArena id v = has_arena v.state id ≡ true

-- of `get_number`
abbrev pub AfterGet : View → View → ArenaId → ℕ → ℕ → Result ℕ Refusal → Type 0
AfterGet old new id place width =
    After old new (DoesGet old.caller id place width) (UseCause id old.caller)
    (FindsNumber old new id place width) (StaysOut old new id) (KnowsArena id) (λ n. n < 2 ^ (8 * width))

-- of a call that puts these bytes, and does so
abbrev pub AfterPutBy : View → View → ArenaId → ℕ → List ℕ → (Result (Unit {0}) Refusal → List Entry → Type 0) → (Refusal → Type 0)
    → Result (Unit {0}) Refusal → Type 0
AfterPutBy old new id place bytes Does Cause =
    After old new Does Cause (λ u. ChangesBytes old new id place bytes) (StaysOut old new id) (KnowsArena id) (λ u. ⊤)

-- piece by piece
abbrev pub AfterPut : View → View → ArenaId → ℕ → List ℕ → Result (Unit {0}) Refusal → Type 0
AfterPut old new id place bytes = AfterPutBy old new id place bytes (DoesPut old.caller id place bytes) (UseCause id old.caller)

-- where it has a byte to put, of so many
abbrev pub AfterSome : View → View → ArenaId → ℕ → List ℕ → ℕ → (Result (Unit {0}) Refusal → List Entry → Type 0)
    → Result (Unit {0}) Refusal → Type 0
AfterSome old new id place bytes n Does =
    AfterPutBy old new id place bytes (DoesSome n Does) (λ e. (0 < n) × UseCause id old.caller e)

-- of `put_bytes`
abbrev pub AfterPutAll : View → View → ArenaId → ℕ → List ℕ → Result (Unit {0}) Refusal → Type 0
AfterPutAll old new id place bytes =
    AfterSome old new id place bytes (length bytes) (DoesPutBy PutsMore old.caller id place bytes)

-- of `fill`
abbrev pub AfterFill : View → View → ArenaId → ℕ → ℕ → ℕ → Result (Unit {0}) Refusal → Type 0
AfterFill old new id place size byte =
    AfterSome old new id place (replicate size byte) size (DoesPut old.caller id place (replicate size byte))

-- of `get_value`
abbrev pub AfterGetValue : View → View → ArenaId → ℕ → ValueKind → Order → Result Value Refusal → Type 0
AfterGetValue old new id place k o =
    After old new (DoesGetValue old.caller k o id place) (UseCause id old.caller)
    (FindsValue old new k o id place) (StaysOut old new id) (KnowsArena id) (λ v. kind_of v ≡ k)

-- of `put_value`
abbrev pub AfterPutValue : View → View → ArenaId → ℕ → Order → Value → Result (Unit {0}) Refusal → Type 0
AfterPutValue old new id place o v =
    After old new (DoesPutValue old.caller o id v place) (UseCause id old.caller)
    (λ u. PutsValue old new (kind_of v) o id place v) (StaysOut old new id) (KnowsArena id) (λ u. ⊤)
