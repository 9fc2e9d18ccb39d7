-- What a pass does that maps its page.
use Rattle.std.specs.Prelude.{◌≡◌, ℕ, List, [], ◌∷◌, Contains, Option, Some, None}
use Rattle.fm_base.specs.{declared.arena_id.ArenaId.{ArenaId}, Calls.{Entry, Lend, Fine, entry_of}}
use Rattle.fm_rule_facts.specs.{Loans.{loans_of, loan_of}, Parts.{Mapping, mapping_of}, Views.{View, In}}
use Rattle.fm_rule_calls.specs.Kept.{Goes}
use Rattle.fm_pages.specs.{declared.page.Page.{Page}, Claims.{HasClaimed}}

-- the pass went on by entries of its own, read map words, and has these pages in its hand
pub record Way (old new : View) (own : List Entry) (pages : List ℕ) : Type 0 where
  pub goes : Goes old new own
  pub is : new ≡ record old { seen = new.seen; finds = new.finds; reads = new.reads; pages = pages }
  -- what it has read stands
  pub keeps : (m : Mapping) → In m old.reads → In m new.reads

-- it lent the page to the arena as this part
pub record PageMapped (old new : View) (a : ArenaId) (index page : ℕ) : Type 0 where
  pub way : Way old new (entry_of old.caller (Lend page a index) Fine ∷ []) []
  pub read : In (mapping_of index page) new.reads

-- another page is lent to the arena as this part, and this one is in the hand
pub record PartTaken (old new : View) (a : ArenaId) (index page : ℕ) : Type 0 where
  pub way : Way old new [] (page ∷ [])
  pub other : ℕ
  pub read : In (mapping_of index other) new.reads
  pub lent_so : Contains (loans_of new.seen) (loan_of other a index)

-- of `map`
abbrev pub MapOutcome : View → View → ArenaId → (index : ℕ) → Page → Option Page → Type 0
MapOutcome old new a index page None = PageMapped old new a index page.index
MapOutcome old new a index page (Some back) = (back ≡ page) × HasClaimed new back × PartTaken old new a index page.index
