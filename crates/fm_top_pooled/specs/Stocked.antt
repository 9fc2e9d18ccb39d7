-- Where the first pass of a pool stands, before bytes are put into an arena of it, and then.
use Rattle.std.specs.{Prelude.{◌≡◌, ◌⊎◌, ℕ, ◌+◌, ◌*◌, ◌<◌, ◌≤◌, max, true, List, [], ◌∷◌, ◌++◌, Option, Result, IfOk, length}, Result.{result_err}}
use Rattle.fm_base.specs.{declared.{arena_id.ArenaId.{ArenaId}, kind.Kind.TheVariants.{Shared}}, Arenas.{Alive, arena_of, word_in}, Finds.{Gathered}, Histories.{IsTidy}}
use Rattle.fm_rule_calls.specs.Told.{view_of_pass}
use Rattle.fm_gate.specs.{Learnt.{AllBusy}, Needs.{IsOutside}, Pages.{LentBesides}}
use Rattle.fm_io.specs.{Files.{Contents, AreBytesFrom}, View.{FilesView}}
use Rattle.fm_top_load.specs.{Held.{HoldsThen, IsEmpty, IsHeld, OnlyIn, names_in, words_at}, Limits.{record_file_limit}, Reading.{ReadsSome}}
use Rattle.fm_top_load.specs.{Whole.{ByReads, IsCut, IsWhole, TellsLoad}, declared.{load_fault.LoadFault.{LoadFault}, reached.Reached.{Reached}, stretch.Stretch.{Stretch}}}
use Rattle.fm_top_pooled.specs.declared.stock.Stock.{Stock}
use Rattle.fm_rule_facts.specs.{Loans.{loans_of}, Scarcity.{parts_before}, Views.{View, IsKnown, IsSound, limit_of, state_in, unlent}}
use Rattle.fm_records.specs.Alone.{bytes_at_places}
use Rattle.fm_rule.specs.declared.pool.Pool.{Pool}
use Rattle.fm_segment.specs.{Access.{IsKnown as IsKnownTo}, Region.{Region, region_of}}
use Rattle.fm_words.specs.declared.shape.Shape.{Shape}

-- how many passes a pool has: the first, and one for each worker of the greatest crew
abbrev pub pool_passes : ℕ
pool_passes = 17

-- the history that it has seen changes only bytes that were given
abbrev pub IsTidyPass : View → Type 0
IsTidyPass p = IsTidy (limit_of p.shape) [] p.seen

-- A pass of the pool that has gathered these, and is known to be whole: it has no page in its hand and none of its arenas to end or to
-- sweep, and its entries are tidy
pub record IsAlone (gs : List Gathered) (pool : Pool) (p : View) : Type 0 where
  pub outside : IsOutside pool p
  pub sound : IsSound p
  pub whole : p.whole ≡ true
  pub tidy : IsTidyPass p
  pub gathered : p.gathered ≡ gs
  pub none_to_end : p.closes ≡ []
  pub none_to_sweep : p.sweeps ≡ []
  pub no_page : p.pages ≡ []

-- the first pass, before another was drawn
abbrev pub IsLone : Pool → View → Type 0
IsLone pool p = IsAlone [] pool p

-- an arena has no more parts for so many bytes than there are pages that aren't lent
abbrev pub HasPagesFor : View → (size : ℕ) → Type 0
HasPagesFor p size = parts_before p.shape size ≤ unlent p.shape.pages (loans_of p.seen)

-- and a slot is left to it, and room and the pages for so many bytes
pub record CanStock (pool : Pool) (p : View) (size : ℕ) : Type 0 where
  pub lone : IsLone pool p
  pub free : ¬ (AllBusy p)
  pub room : size ≤ limit_of pool.shape
  pub pages : HasPagesFor p size

-- what was known is known, and stands as it was
pub record KeepsArenas (p q : View) : Type 0 where
  pub known : (b : ArenaId) → IsKnown p b → IsKnown q b
  pub same : (b : ArenaId) → IsKnown p b → arena_of (state_in q) b ≡ arena_of (state_in p) b

-- all words of the arena are 0
abbrev pub IsZero : View → ArenaId → Type 0
IsZero p a = (word : ℕ) → word_in (state_in p) a word ≡ 0

-- it opened a shared arena, and no other; nothing was lent
pub record HasOpened (gs : List Gathered) (pool : Pool) (p q : View) (a : ArenaId) : Type 0 where
  pub lone : IsAlone gs pool q
  pub empty : IsEmpty (view_of_pass q) a
  pub zero : IsZero q a
  pub shared : a.kind ≡ Shared
  pub unknown : ¬ (IsKnown p a)
  pub only : (b : ArenaId) → IsKnown q b → (b ≡ a) ⊎ IsKnown p b
  pub keeps : KeepsArenas p q
  pub names : names_in (state_in q) ≡ names_in (state_in p) ++ a ∷ []
  pub loans : loans_of q.seen ≡ loans_of p.seen

abbrev pub IsOpened : Pool → View → View → ArenaId → Type 0
IsOpened pool p q a = HasOpened [] pool p q a

-- the arena, of which nothing was given, gave so many bytes, and no other has changed
pub record HasGiven (pool : Pool) (p q : View) (a : ArenaId) (size : ℕ) : Type 0 where
  pub lone : IsLone pool q
  pub held : HoldsThen (view_of_pass q) a size (words_at (view_of_pass p) a)
  pub elsewhere : OnlyIn a (state_in p) (state_in q)
  pub lent : LentBesides p q a size 8

-- the bytes that stand in the segment
unfoldable pub bytes_in_pool : View → Region → List ℕ
bytes_in_pool p s = bytes_at_places (state_in p) s

-- A pass that is known to be whole, of a pool of so many, and a segment that is the start of a shared arena, which is alive; all entries
-- are tidy
pub record IsStockedOf (many : ℕ) (pool : Pool) (p : View) (s : Region) : Type 0 where
  pub outside : IsOutside pool p
  pub sound : IsSound p
  pub whole : p.whole ≡ true
  pub tidy : IsTidyPass p
  pub start : s ≡ region_of s.arena 0 s.size
  pub known : IsKnownTo (view_of_pass p) s
  pub alive : (arena_of (state_in p) s.arena).life ≡ Alive
  pub shared : s.arena.kind ≡ Shared
  pub passes : p.shape.passes ≡ many

abbrev pub IsStocked : Pool → View → Region → Type 0
IsStocked pool p s = IsStockedOf pool_passes pool p s

-- The pool was made for an arena of so many bytes, and for one of so many beside it, if any: each has a slot, room, and just the pages that its
-- parts take. A page has 256 words, or no more than 32 of them need for the greater of both
pub record IsMadeFor (room beside : ℕ) (z : Shape) : Type 0 where
  pub passes : z.passes ≡ pool_passes
  pub one : beside ≡ 0 → z.slots ≡ 1
  pub two : 0 < beside → z.slots ≡ 2
  pub first : room ≤ limit_of z
  pub second : beside ≤ limit_of z
  pub pages : z.pages ≡ max 1 (parts_before z room) + parts_before z beside
  pub reach : z.reach ≡ max (max 1 (parts_before z room)) (parts_before z beside)
  pub wide : 256 ≤ z.page_words
  pub short : 256 < z.page_words → 128 * z.page_words < max room beside

-- a slot is left for an arena of so many bytes, if it is to have any, and room and the pages for them
pub record IsLeft (beside : ℕ) (p : View) : Type 0 where
  pub slots : 0 < beside → p.shape.slots ≡ 2
  pub room : beside ≤ limit_of p.shape
  pub pages : HasPagesFor p beside

-- Bytes stand alone in a pool: its first pass, before another was drawn, knows just their arena, which it holds; and so many bytes are left for
-- an arena beside it
pub record IsStock (beside : ℕ) (pool : Pool) (p : View) (s : Region) : Type 0 where
  pub stocked : IsStocked pool p s
  pub lone : IsLone pool p
  pub held : IsHeld (view_of_pass p) s.arena
  pub room : s.size ≤ limit_of pool.shape
  pub only : (b : ArenaId) → IsKnown p b → b ≡ s.arena
  pub left : IsLeft beside p

-- and they are those of the whole record file, where the files tell
pub record HoldsWhole (told : Option Contents) (name : List ℕ) (beside : ℕ) (pool : Pool) (p : View) (s : Region) : Type 0 where
  pub stock : IsStock beside pool p s
  pub whole : IsWhole told name (bytes_in_pool p s)
  pub short : length (bytes_in_pool p s) ≤ record_file_limit

-- The file was read whole into a pool in which so many bytes are left, or why it wasn't.
pub record LoadsStock (beside : ℕ) (old new : FilesView) (name : List ℕ) (result : Result Stock LoadFault) : Type 0 where
  pub holds : IfOk result (λ s. HoldsWhole old.holds name s.beside s.pool s.pass s.segment)
  pub left : IfOk result (λ s. s.beside ≡ beside)
  pub reads : ReadsSome old.reads new.reads name record_file_limit
  pub tells : TellsLoad ByReads record_file_limit old new name (result_err result)

-- a stretch of a file was put where there was room for it: this much is a stock
pub record PutsFile (stretch : Stretch) (told : Option Contents) (beside : ℕ) (pool : Pool) (p : View) (s : Region) (reached : Reached) : Type 0 where
  pub stock : IsStock beside pool p s
  pub count : s.size ≡ reached.count
  pub cut : IsCut stretch.limit stretch.most told stretch.name.now stretch.at (bytes_in_pool p s) reached.ended

-- a stock has the first bytes of a record file, where the files tell
pub record HoldsFirst (told : Option Contents) (name : List ℕ) (beside : ℕ) (pool : Pool) (p : View) (s : Region) : Type 0 where
  pub stock : IsStock beside pool p s
  pub first : AreBytesFrom told name 0 (bytes_in_pool p s)
  pub short : s.size ≤ record_file_limit
