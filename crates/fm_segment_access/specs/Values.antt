-- A value of a kind at a place: its bytes, in either order.
use Rattle.std.specs.Prelude.{◌≡◌, ℕ, ◌+◌, ◌≤◌, List, length, take, drop, Result}
use Rattle.fm_base.specs.{declared.{caller.Caller.{Caller}, arena_id.ArenaId.{ArenaId}, refusal.Refusal.{Refusal}}, Calls.{Entry}, Arenas.{State}, View.{View}}
use Rattle.fm_lanes.specs.{declared.{order.Order.{Order}, value.Value.{Value}, value_kind.ValueKind.{ValueKind}}, Coding.{value_of, bytes_of_value}}
use Rattle.fm_lanes.specs.Kind.{width_of}
use Rattle.fm_segment_access.specs.{Alone.{bytes_of_arena, FindsAs, ChangesBytes}, Ranges.{DoesRead, DoesPut}}

abbrev pub DoesGetValue : Caller → ValueKind → Order → ArenaId → ℕ → Result Value Refusal → List Entry → Type 0
DoesGetValue c k o id place = DoesRead (value_of k o) c id place (width_of k)

abbrev pub DoesPutValue : Caller → Order → ArenaId → Value → ℕ → Result (Unit {0}) Refusal → List Entry → Type 0
DoesPutValue c o id v place = DoesPut c id place (bytes_of_value o v)

-- ---- what the only caller sees

-- the value that the arena's bytes from the place on mean
abbrev pub value_at : State → ValueKind → Order → ArenaId → ℕ → Value
value_at s k o id place = value_of k o (take (width_of k) (drop place (bytes_of_arena s id)))

-- v is that value, and the state stays
abbrev pub FindsValue : View → View → ValueKind → Order → ArenaId → ℕ → Value → Type 0
FindsValue old new k o id place = FindsAs (value_of k o) old new id place (width_of k)

-- The bytes from the place on are those of v, and the arena has room for them; all other bytes stay, and all else
-- of the state
pub record PutsValue (old new : View) (k : ValueKind) (o : Order) (id : ArenaId) (place : ℕ) (v : Value) : Type 0 where
  pub bytes : ChangesBytes old new id place (bytes_of_value o v)
  pub within : place + width_of k ≤ length (bytes_of_arena old.state id)

-- where v was put, and the value is got next, it is v
abbrev pub PutsThenGets : ValueKind → Order → ArenaId → ℕ → Value → Type 0
PutsThenGets k o id place v =
    (old between new : View) (got : Value) → PutsValue old between k o id place v
    → FindsValue between new k o id place got → got ≡ v
