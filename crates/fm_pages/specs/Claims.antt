-- What claiming a page and giving one back does to a pass.
use Rattle.std.specs.Prelude.{◌≡◌, ◌<◌, ◌≤◌, ℕ, Bool, true, false, List, [], ◌∷◌, length, Result, Ok, Err}
use Rattle.fm_base.specs.{declared.refusal.Refusal.{Refusal}, Finds.{FoundNothing, is_page, group_of}}
use Rattle.fm_base.specs.declared.refusal.Refusal.TheVariants as refusal
use Rattle.fm_words.specs.Places.{page_groups}
use Rattle.fm_rule_facts.specs.{Loans.{loans_of}, Steps.{is_clear}, Views.{View, FewLeft, unlent}}
use Rattle.fm_rule_calls.specs.Kept.{Goes}
use Rattle.fm_pages.specs.{declared.page.Page.{Page}, Makers.{made_by_pass}}

-- the pass went on without entries of its own, found words of page bits, and has these pages in its hand
pub record Went (old new : View) (pages : List ℕ) : Type 0 where
  pub goes : Goes old new []
  pub is : new ≡ record old { seen = new.seen; finds = new.finds; pages = pages }

-- it claimed the page
pub record PageClaimed (old new : View) (page : ℕ) : Type 0 where
  pub went : Went old new (page ∷ [])
  pub low : page < old.shape.pages

-- this word of page bits was 0 at a step of the call
pub record FoundEmpty (old new : View) (group : ℕ) : Type 0 where
  pub found : FoundNothing is_page old.finds new.finds
  pub of : group_of found.find.step ≡ group
  -- at that step as much had been seen as at no time before the call, or after it
  pub early : length old.seen ≤ found.find.seen
  pub late : found.find.seen ≤ length new.seen
  -- then fewer pages of that word weren't lent than there are passes
  pub left : FewLeft new.shape new.seen found.find

-- so was each word of page bits
abbrev pub AllFoundEmpty : View → View → Type 0
AllFoundEmpty old new = (group : ℕ) → group < page_groups old.shape → FoundEmpty old new group

-- each word of page bits was 0 at a step of the call
pub record NoneClaimed (old new : View) : Type 0 where
  pub went : Went old new []
  pub found : AllFoundEmpty old new
  -- where the pass was clear, all pages are lent
  pub all_lent : is_clear old ≡ true → unlent new.shape.pages (loans_of new.seen) ≡ 0

-- of one try: it claimed the page, or none
abbrev pub TryOutcome : View → View → ℕ → Bool → Type 0
TryOutcome old new page true = PageClaimed old new page
TryOutcome old new page false = Went old new []

-- of a look at each word of page bits: all were found 0, or not
abbrev pub LookOutcome : View → View → Bool → Type 0
LookOutcome old new true = NoneClaimed old new
LookOutcome old new false = Went old new []

-- the page is in the hand of this pass, which claimed it
pub record HasClaimed (p : View) (page : Page) : Type 0 where
  pub there : p.pages ≡ page.index ∷ []
  pub maker : page.maker ≡ made_by_pass p

-- of `claim`
abbrev pub ClaimOutcome : View → View → Result Page Refusal → Type 0
ClaimOutcome old new (Ok page) = PageClaimed old new page.index × HasClaimed new page
ClaimOutcome old new (Err refusal.PoolFull) = NoneClaimed old new
ClaimOutcome old new (Err r) = ⊥
