-- What each worker of a crew does: it counts the values of its share.
use Rattle.std.specs.Prelude.{◌≡◌, ◌≢◌, ◌⊎◌, ℕ, ◌≤◌, List}
use Rattle.std.proofs.Common.{le_trans}
use Rattle.fm_base.specs.{declared.{caller.Caller.{Caller}, kind.Kind.TheVariants.{Confined}}, Calls.{Entry}}
use Rattle.fm_base.specs.View as memory
use Rattle.fm_rule_facts.specs.Views.{View}
use Rattle.fm_rule_calls.specs.{Kept.{Lasts}, Told.{view_of_pass}}
use Rattle.fm_segment.specs.{Access.{IsKnown}, Region.{Region}}
use Rattle.fm_group.specs.{Asked.{IsReady}, Counting.{MayCount}, Table.{Counter}, Values.{count_of}}
use Rattle.fm_group_laws.specs.Shares.{DoesShare}
use Rattle.fm_group_crew.specs.declared.share.CountShare.{CountShare}

-- the caller is outside and may use both segments, which are known, and there are such values
pub record CanCountShare (v : memory.View) (w : Counter) (from to : ℕ) : Type 0 where
  pub ready : IsReady v w
  pub may : MayCount v.caller w
  pub order : from ≤ to
  pub below : to ≤ count_of w.values

-- neither arena is confined, so that each pass may use them
pub record IsForAll (w : Counter) : Type 0 where
  pub records : w.values.records.arena.kind ≢ Confined
  pub table : w.table.arena.kind ≢ Confined

-- one of them is
abbrev pub IsForOne : Counter → Type 0
IsForOne w = (w.values.records.arena.kind ≡ Confined) ⊎ (w.table.arena.kind ≡ Confined)

-- both segments are known to who has seen so much, and open to all
pub record CanUse (w : Counter) (v : View) : Type 0 where
  pub records : IsKnown (view_of_pass v) w.values.records
  pub table : IsKnown (view_of_pass v) w.table
  pub for_all : IsForAll w

pub record CanCountTask (w : Counter) (v : View) (t : CountShare) : Type 0 where
  pub use_both : CanUse w v
  pub order : t.from ≤ t.to
  pub below : t.to ≤ count_of w.values

abbrev pub CountsTask : Counter → Caller → (old new : CountShare) → List Entry → Type 0
CountsTask w c old new own = DoesShare c w old.from old.to new.end own

-- ---- later

pub known_later : {v u : View} {s : Region} → Lasts v u → IsKnown (view_of_pass v) s → IsKnown (view_of_pass u) s
known_later {s = s} l k = record { arena = l.known s.arena k.arena; given = le_trans k.given (l.given s.arena) }

pub can_use_later : (w : Counter) (v u : View) → Lasts v u → CanUse w v → CanUse w u
can_use_later w v u l c = record { records = known_later l c.records; table = known_later l c.table; for_all = c.for_all }

pub can_count_later : (w : Counter) (v u : View) (t : CountShare) → Lasts v u → CanCountTask w v t → CanCountTask w u t
can_count_later w v u t l c = record { use_both = can_use_later w v u l c.use_both; order = c.order; below = c.below }
