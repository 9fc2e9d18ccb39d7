-- What accesses to a segment do, and that they are tidy: they change only bytes that its arena has given.
use Rattle.std.specs.Prelude.{◌≡◌, ℕ, ℤ, ◌<◌, List, [], ◌∷◌, Result, ⊤}
use Rattle.fm_base.specs.{declared.{caller.Caller.{Caller}, refusal.Refusal.{Refusal}}, Arenas.{State}, Calls.{Entry}, Histories.{IsTidyIn, IsTidy}}
use Rattle.fm_base.specs.{Machine.{after}, View.{View, Makes, IsByItself}}
use Rattle.fm_base_bytes.specs.Bytes.{AreBytes}
use Rattle.fm_lanes.specs.{declared.value.Value.{Value}, Value.{kind_of}}
use Rattle.fm_layout.specs.Tree.{Tree}
use Rattle.fm_segment.specs.{Access.{IsKnown, HasKind, DoesGetAt, DoesSetAt, writable_place_of, writable_place_at_index}, Comparisons.{DoesMismatch}}
use Rattle.fm_segment.specs.{Copies.{DoesCopySegment}, Fills.{DoesFillSegment}, Puts.{DoesPutSegment}, Region.{Region}}

-- the entries of an access to the segment, which is the target of a copy
pub data DoesAccess (c : Caller) (r : Region) (own : List Entry) : Type 0 where
  gets : (t : Tree) (place : Result ℕ Refusal) (result : Result Value Refusal)
      → DoesGetAt c r.arena t place result own → DoesAccess c r own
  sets : (t : Tree) (offset : ℕ) (v : Value) (result : Result (Unit {0}) Refusal) → HasKind t (kind_of v)
      → DoesSetAt c r.arena t (writable_place_of offset t r) v result own → DoesAccess c r own
  sets_at_index : (t : Tree) (index : ℕ) (v : Value) (result : Result (Unit {0}) Refusal) → HasKind t (kind_of v)
      → DoesSetAt c r.arena t (writable_place_at_index index t r) v result own → DoesAccess c r own
  fills : (byte : ℕ) (result : Result (Unit {0}) Refusal) → byte < 256
      → DoesFillSegment c r byte result own → DoesAccess c r own
  puts : (offset : ℕ) (bytes : List ℕ) (result : Result (Unit {0}) Refusal) → AreBytes bytes
      → DoesPutSegment c r offset bytes result own → DoesAccess c r own
  copies : (src : Region) (src_at dst_at n : ℕ) (result : Result (Unit {0}) Refusal)
      → DoesCopySegment src src_at r dst_at n c result own → DoesAccess c r own
  compares : (other : Region) (result : Result ℤ Refusal)
      → DoesMismatch c r other result own → DoesAccess c r own

-- a caller's own entries among these are tidy, each in the state that the entries before it leave
abbrev pub IsTidyBy : Caller → ℕ → State → List Entry → Type 0
IsTidyBy c limit s [] = ⊤
IsTidyBy c limit s (e ∷ es) = (e.caller ≡ c → IsTidyIn s e.call) × IsTidyBy c limit (after limit s e) es

-- an access to a segment that is known is tidy, whatever it answers
abbrev pub AccessesAreTidy : Type 0
AccessesAreTidy =
    (old new : View) (r : Region) (own : List Entry) (makes : Makes old new own)
    → IsKnown old r → DoesAccess old.caller r own
    → IsTidyBy old.caller old.limit old.state makes.all

-- where the caller is by itself, its entries are a tidy history
abbrev pub LoneAccessesAreTidy : Type 0
LoneAccessesAreTidy =
    (old new : View) (r : Region) (own : List Entry) → Makes old new own → IsByItself old
    → IsKnown old r → DoesAccess old.caller r own
    → IsTidy old.limit old.state own
