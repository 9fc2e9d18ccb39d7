-- What a pass does that gives a part of its arena a page, where it has none.
use Rattle.std.specs.Prelude.{◌≡◌, ◌⊎◌, ℕ, Bool, true, false, List, [], ◌∷◌, ◌++◌}
use Rattle.fm_base.specs.{declared.{caller.Caller.{Caller}, arena_id.ArenaId.{ArenaId}}, Calls.{Entry, Lend, Fine, entry_of}, Histories.{made_by}}
use Rattle.fm_rule_facts.specs.{Loans.{HasPart, loans_of}, Parts.{mapping_of}, Steps.{is_clear}, Views.{View, In, Begins, unlent}}
use Rattle.fm_pages.specs.{Claims.{AllFoundEmpty}, Maps.{Way}}

-- none, or the entry that lends a page to the arena as this part
abbrev pub LendsPart : Caller → ArenaId → ℕ → List Entry → Type 0
LendsPart c a i es = (es ≡ []) ⊎ ((page : ℕ) × (es ≡ entry_of c (Lend page a i) Fine ∷ []))

-- all blocks are lent, and none as this part
pub record AllLentBut (old new : View) (a : ArenaId) (i : ℕ) : Type 0 where
  pub all_lent : unlent old.shape.pages (loans_of new.seen) ≡ 0
  pub lacks : ¬ (HasPart (loans_of new.seen) a i)

-- each word of page bits was 0 at a step of the call, and the part had no page at an earlier one
pub record NoneFree (old new : View) (a : ArenaId) (i : ℕ) : Type 0 where
  pub found : AllFoundEmpty old new
  -- what had been seen when the part had none, and what the call saw later, in which the pass made no entry
  pub before : List Entry
  pub later : List Entry
  pub since : Begins old.seen before
  pub seen : new.seen ≡ before ++ later
  pub quiet : made_by old.caller later ≡ []
  pub lacked : ¬ (HasPart (loans_of before) a i)
  -- where the pass was clear, all blocks are lent, and the part has none, after the call
  pub exact : is_clear old ≡ true → AllLentBut old new a i

abbrev pub Outcome : Bool → View → View → ArenaId → ℕ → Type 0
Outcome true old new a i = (page : ℕ) × In (mapping_of i page) new.reads
Outcome false old new a i = NoneFree old new a i

-- of `provide`
pub record Provided (old new : View) (a : ArenaId) (i : ℕ) (done : Bool) : Type 0 where
  pub own : List Entry
  pub lends : LendsPart old.caller a i own
  pub way : Way old new own []
  pub outcome : Outcome done old new a i
