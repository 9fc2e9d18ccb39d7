-- What the only caller of a memory sees of a query.
use Rattle.std.specs.{Prelude.{◌≡◌, ◌≢◌, ℕ, List, map}, List.{range_with_len}}
use Rattle.fm_base.specs.{declared.refusal.Refusal.{Refusal, TheVariants.{Closed}}, Arenas.{Alive, State, arena_of}, View.{View}}
use Rattle.fm_base_bytes.specs.Words.{byte_at}
use Rattle.fm_segment.specs.Region.{Region}
use Rattle.fm_records_query.specs.Plan.{Plan}
use Rattle.fm_records.specs.{declared.found.Found.{Found}, Answers.{answer}}

-- the bytes at the region's places, the first one first
abbrev pub bytes_at_places : State → Region → List ℕ
bytes_at_places s r = map (byte_at (arena_of s r.arena).words) (range_with_len r.first r.size)

-- the answer over the region's bytes, and the state stays
pub record FindsAnswer (old new : View) (p : Plan) (r : Region) (a : List Found) : Type 0 where
  pub value : a ≡ answer p (bytes_at_places old.state r)
  pub same : new.state ≡ old.state

-- why there is no answer: it is refused as closed only where the arena isn't alive; and the state stays
pub record FindsNone (old new : View) (r : Region) (e : Refusal) : Type 0 where
  pub shut : e ≡ Closed → (arena_of old.state r.arena).life ≢ Alive
  pub same : new.state ≡ old.state
