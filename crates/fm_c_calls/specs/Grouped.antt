-- Groups of the values of a path in a caller's bytes.
use Rattle.std.specs.{Prelude.{◌≡◌, ℕ, ◌%◌, ◌<◌, ◌≤◌, List, length, map, ℤ, Result, Ok, Err}}
use Rattle.fm_base.specs.declared.{arena_id.ArenaId.{ArenaId}, kind.Kind.TheVariants.{Confined}, refusal.Refusal.{Refusal, TheVariants.{Memory}}}
use Rattle.fm_group_lists.specs.Groups.{AreGroups, Group}
use Rattle.fm_group.specs.Values.{Valued, all_numbers, valued}
use Rattle.fm_layout.specs.Tree.{Tree}
use Rattle.fm_path.specs.Resolution.{Resolution, StaysInside}
use Rattle.fm_records_query.specs.Plan.{value_count}
use Rattle.fm_segment.specs.Region.{region_of}
use Rattle.fm_c_calls.specs.{declared.groups.Counted.{Counted}, Output.{Fills}, Placed.{IsPlacedIn, IsUnplacedIn}, Whole.{AreWhole, AreNotWhole, IsNoRecordLayout, IsRecordLayout}}

-- a path through records that stand aligned one behind the other, each with no more values than bytes
pub record HasValues (r : Resolution) : Type 0 where
  pub sized : 0 < r.root_size
  pub multiple : r.root_size % r.root_alignment ≡ 0
  pub stays : StaysInside r
  pub few : value_count r.dims ≤ r.root_size

-- the values of the path in these bytes, as those in a segment that has these bytes: `nowhere` is the name of none
abbrev pub nowhere : ArenaId
nowhere = record { slot = 0; generation = 0; kind = Confined; owner = 0; term = 0 }

abbrev pub values_in : Resolution → List ℕ → Valued
values_in r bytes = valued r (region_of nowhere 0 (length bytes))

-- each number with a count of 1
abbrev pub once : List ℤ → List Group
once ns = map (λ n. (n, 1)) ns

abbrev pub one_counted : Group → Counted
one_counted g = record { number = g.0; count = g.1 }

abbrev pub counted_of : List Group → List Counted
counted_of gs = map one_counted gs

-- ---- the path

pub record IsGrouping (json path : List ℕ) (r : Resolution) : Type 0 where
  pub layout : Tree
  pub read : IsRecordLayout json layout
  pub placed : IsPlacedIn path layout r

-- why there is none, the first cause that applies; or memory was wanting
pub data IsNoGrouping (json path : List ℕ) (e : Refusal) : Type 0 where
  no_layout : IsNoRecordLayout json e → IsNoGrouping json path e
  unplaced : (t : Tree) → IsRecordLayout json t → IsUnplacedIn path t e → IsNoGrouping json path e

-- ---- the call

pub record AreGrouped (json path records : List ℕ) (old new : List Counted) (n : ℕ) : Type 0 where
  pub resolution : Resolution
  pub grouping : IsGrouping json path resolution
  pub whole : AreWhole records resolution.root_size
  pub groups : List Group
  pub are : AreGroups (all_numbers resolution records) groups
  pub fills : Fills old new (counted_of groups) n

-- why there are no groups, the first cause that applies; or memory was wanting
pub data AreNoGroups (json path records : List ℕ) (e : Refusal) : Type 0 where
  no_grouping : IsNoGrouping json path e → AreNoGroups json path records e
  not_whole : (r : Resolution) → IsGrouping json path r → AreNotWhole records r.root_size e → AreNoGroups json path records e
  no_memory : e ≡ Memory → AreNoGroups json path records e

-- the groups were put, as far as there was room; or it was refused and nothing was
abbrev pub PutsGroups : List ℕ → List ℕ → List ℕ → List Counted → List Counted → Result ℕ Refusal → Type 0
PutsGroups json path records old new (Ok n) = AreGrouped json path records old new n
PutsGroups json path records old new (Err e) = (new ≡ old) × AreNoGroups json path records e
