-- What a pass does that gives all parts of a range pages.
use Rattle.std.specs.Prelude.{◌≡◌, ◌<◌, ◌≤◌, ◌*◌, ◌/◌, ℕ, Bool, true, false, List, [], All}
use Rattle.fm_base.specs.{declared.arena_id.ArenaId.{ArenaId}, Calls.{Entry, Lend, Fine, entry_of}}
use Rattle.fm_rule_facts.specs.{Parts.{mapping_of}, Views.{View, In}, Steps.{HasParts}}
use Rattle.fm_pages.specs.{Maps.{Way}, Provides.{NoneFree}}

-- the bytes of a page
abbrev pub page_bytes : View → ℕ
page_bytes v = v.shape.page_words * 8

-- it lends a page to the arena, as a part with bytes of the range
abbrev pub LendsIn : View → ArenaId → (from to : ℕ) → Entry → Type 0
LendsIn v a from to e =
    (page : ℕ) × (part : ℕ) × (from / page_bytes v ≤ part) × (part * page_bytes v < to)
    × (e ≡ entry_of v.caller (Lend page a part) Fine)

-- all parts of the range before the next one have pages
pub record Covering (old new : View) (a : ArenaId) (from to next : ℕ) : Type 0 where
  pub own : List Entry
  pub lends : All (LendsIn old a from to) own
  pub way : Way old new own []
  pub each : (i : ℕ) → from / page_bytes old ≤ i → i < next → (page : ℕ) × In (mapping_of i page) new.reads

-- a part of the range had no page, and none was free
pub record Lacks (old new : View) (a : ArenaId) (from to : ℕ) : Type 0 where
  pub part : ℕ
  pub low : from / page_bytes old ≤ part
  pub high : part * page_bytes old < to
  pub none : NoneFree old new a part

abbrev pub CoverOutcome : Bool → View → View → ArenaId → (from to : ℕ) → Type 0
CoverOutcome true old new a from to = HasParts new from to
CoverOutcome false old new a from to = Lacks old new a from to

pub record Covered (old new : View) (a : ArenaId) (from to : ℕ) (done : Bool) : Type 0 where
  pub own : List Entry
  pub lends : All (LendsIn old a from to) own
  pub way : Way old new own []
  pub outcome : CoverOutcome done old new a from to
