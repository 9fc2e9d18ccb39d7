-- What contracts see of a pass.
use Rattle.std.specs.Prelude.{◌≡◌, ◌≢◌, ◌⊎◌, ℕ, ◌+◌, ◌-◌, min, ◌*◌, ◌/◌, ◌<◌, ◌≤◌, ◌^◌, ◌==◌, Bool, true, false, if◌then◌else◌, List, [], ◌∷◌, ◌++◌, length, Contains, Option, Some, zero, suc}
use Rattle.fm_words.specs.{declared.shape.Shape.{Shape}, Shapes.{IsValid}, Bits.{number_at}}
use Rattle.fm_base.specs.declared.{caller.Caller.{Caller}, arena_id.ArenaId.{ArenaId}, kind.Kind.{Kind, TheVariants.{Automatic}}}
use Rattle.fm_base.specs.{Arenas.{State, Alive, Closing, Ended, IsUnderWay, has_arena, arena_of, owner_of, same_id, only_caller}, Calls.{Entry}}
use Rattle.fm_base.specs.{Histories.{IsLegal, state_after, made_by}, Finds.{Find, Gathered, Close, Sweep, is_draw, is_slot, is_page, is_number, group_of}}
use Rattle.fm_base_machine.specs.Handles.{AreLeft, one_if}
use Rattle.fm_rule_facts.specs.Loans.{Loan, loan_of, loans_of, HasPart, IsRightlyLent, LendsWithin}
use Rattle.fm_rule_facts.specs.{Hands.{Hand, nothing, HasSlot, Number, no_number, number_drawn, last_term, most_draws}, Parts.{Mapping, Swept, wiping}}

-- what another had seen that a pass has met, and the callers that it brought
pub record Met : Type 0 where
  pub seen : List Entry
  pub gathered : List Gathered

abbrev pub brought : List Met → List Gathered
brought [] = []
brought (x ∷ xs) = x.gathered ++ brought xs

pub record View : Type 0 where
  -- numbers that tell the pool
  pub home : List ℕ
  pub shape : Shape
  -- a pass has it, and not a note
  pub live : Bool
  pub caller : Caller
  -- the history at the pass's last step
  pub seen : List Entry
  pub inside : Option ArenaId
  -- the mark that it publishes
  pub mark : Option ArenaId
  pub closes : List Close
  -- arenas that it ended and hasn't retired, and how many of their parts have no page any more: the count of given bytes is the last
  pub sweeps : List Sweep
  -- what it has of the part that it sweeps next
  pub swept : Swept
  -- the slot that it took to open an arena in, or retired
  pub hand : Hand
  -- the number that it took to draw it, or returns
  pub number : Number
  -- those that it has met since its last step
  pub met : List Met
  pub finds : List Find
  pub gathered : List Gathered
  -- it is known that every drawn number but its own is gathered into it
  pub whole : Bool
  pub holds : List ArenaId
  pub handles : List ArenaId
  -- the page that it claimed and hasn't mapped or given back
  pub pages : List ℕ
  -- what it has read in map words of the arena that it is inside
  pub reads : List Mapping

-- the callers that are gathered into it, those of its last meetings too
abbrev pub all_gathered : View → List Gathered
all_gathered v = v.gathered ++ brought v.met

-- how many words an arena has
abbrev pub span : Shape → ℕ
span z = z.reach * z.page_words

-- how many bytes an arena can give
abbrev pub limit_of : Shape → ℕ
limit_of z = span z * 8

abbrev pub state_in : View → State
state_in v = state_after (limit_of v.shape) [] v.seen

abbrev pub IsKnown : View → ArenaId → Type 0
IsKnown v a = has_arena (state_in v) a ≡ true

-- how many bytes the arena has given
abbrev pub given_of : View → ArenaId → ℕ
given_of v a = (arena_of (state_in v) a).given

-- the pool has a slot for the arena, and a pass of its owner's number
pub record Fits (z : Shape) (a : ArenaId) : Type 0 where
  pub slot : a.slot < z.slots
  pub owner : a.owner < z.passes
  pub generation : a.generation < z.generations

-- the arena has ended
pub record IsOver (v : View) (a : ArenaId) : Type 0 where
  pub known : IsKnown v a
  pub life : (arena_of (state_in v) a).life ≡ Ended
  pub empty : (arena_of (state_in v) a).under_way ≡ []

-- the arena is alive
abbrev pub IsAlive : View → ArenaId → Type 0
IsAlive v a = IsKnown v a × ((arena_of (state_in v) a).life ≡ Alive)

-- the arena was shut, and hasn't ended
abbrev pub IsShut : View → ArenaId → Type 0
IsShut v a = IsKnown v a × ((arena_of (state_in v) a).life ≡ Closing)

abbrev pub is_automatic : Kind → Bool
is_automatic Automatic = true
is_automatic kind = false

-- how often the arena is in the list
abbrev pub how_many : ArenaId → List ArenaId → ℕ
how_many a [] = 0
how_many a (b ∷ bs) = one_if (same_id b a) + how_many a bs

-- its handles of an automatic arena are as many as its own entries took and didn't give back
abbrev pub HasOwnHandles : View → Type 0
HasOwnHandles v = (a : ArenaId) → a.kind ≡ Automatic → AreLeft a (made_by v.caller v.seen) (how_many a v.handles)

-- the holds of the view that are of the arena's sort
abbrev pub grips : ArenaId → View → List ArenaId
grips a v = if is_automatic a.kind then v.handles else v.holds

-- an arena of the slot was opened that hasn't ended, or is the last of so many generations
pub record IsBusyIn (generations : ℕ) (s : State) (slot : ℕ) : Type 0 where
  pub arena : ArenaId
  pub in_slot : arena.slot ≡ slot
  pub known : has_arena s arena ≡ true
  pub why : ((arena_of s arena).life ≢ Ended) ⊎ (arena.generation + 1 ≡ generations)

abbrev pub IsBusy : View → (slot : ℕ) → Type 0
IsBusy v slot = IsBusyIn v.shape.generations (state_in v) slot

abbrev pub In : {A : Type 0} → A → List A → Type 0
In x [] = ⊥
In x (y ∷ ys) = (x ≡ y) ⊎ In x ys

-- the second history goes on from the first
abbrev pub Begins : List Entry → List Entry → Type 0
Begins xs ys = (zs : List Entry) × (ys ≡ xs ++ zs)

-- no two of the list have one f
abbrev pub IsOnce : {A B : Type 0} → (A → B) → List A → Type 0
IsOnce f [] = Unit {0}
IsOnce {A} f (x ∷ xs) = ((y : A) → In y xs → f y ≢ f x) × IsOnce f xs

-- the caller is the pass's own, or one that is gathered into it
abbrev pub HasCaller : View → Caller → Type 0
HasCaller v c = (c ≡ v.caller) ⊎ ((g : Gathered) × In g v.gathered × (g.caller ≡ c))

-- the find is the pass's own, or that of a caller that is gathered into it
abbrev pub HasFind : View → Find → Type 0
HasFind v f = In f v.finds ⊎ ((g : Gathered) × In g v.gathered × In f g.finds)

-- the pass has the first caller, and each caller that one of its draws drew
pub record HasAllDrawn (v : View) : Type 0 where
  pub first : HasCaller v only_caller
  pub others : (f : Find) (c : Caller) → HasFind v f → is_draw f.step ≡ true → f.drew ≡ Some c → HasCaller v c

-- every entry that was seen is by a caller that the pass has
abbrev pub KnowsCallers : View → Type 0
KnowsCallers v = (e : Entry) → In e v.seen → HasCaller v e.caller

-- no entry is by the caller, and the pass hasn't it yet
pub record IsNew (v : View) (c : Caller) : Type 0 where
  pub later : c ≢ only_caller
  pub number : c.number < v.shape.passes
  pub term : c.term ≤ last_term
  pub other : ¬ (HasCaller v c)
  pub silent : made_by c v.seen ≡ []
  pub outside : (a : ArenaId) → ¬ (IsUnderWay (state_in v) c a)

-- the find is by the caller c: the pass's own, or one that is gathered into it
abbrev pub HasFindBy : View → Caller → Find → Type 0
HasFindBy v c f = ((c ≡ v.caller) × In f v.finds) ⊎ ((g : Gathered) × In g v.gathered × (c ≡ g.caller) × In f g.finds)

-- an arena of the slot was opened: it was so after the first entries, or by another caller than c
pub record OpenedBut (limit : ℕ) (seen before : List Entry) (c : Caller) (slot : ℕ) : Type 0 where
  pub arena : ArenaId
  pub in_slot : arena.slot ≡ slot
  pub known : has_arena (state_after limit [] seen) arena ≡ true
  pub apart : (has_arena (state_after limit [] before) arena ≡ true) ⊎ (owner_of arena ≢ c)

-- c found the word of slot bits 0 after as many entries as f says: no slot was left to it
pub record NoneLeft (z : Shape) (seen : List Entry) (c : Caller) (f : Find) : Type 0 where
  pub before : List Entry
  pub begins : Begins before seen
  pub long : length before ≡ f.seen
  pub opened : (s : ℕ) → s < z.slots → OpenedBut (limit_of z) seen before c s
  -- where it was clear, each slot had an arena that hadn't ended, or its last one
  pub busy : f.clear ≡ true → (s : ℕ) → s < z.slots → IsBusyIn z.generations (state_after (limit_of z) [] before) s

-- the block is lent
abbrev pub is_lent : List Loan → ℕ → Bool
is_lent [] block = false
is_lent (l ∷ ls) block = if l.block == block then true else is_lent ls block

abbrev pub one_unless : Bool → ℕ
one_unless true = 0
one_unless false = 1

-- how many of the first blocks aren't lent
abbrev pub unlent : ℕ → List Loan → ℕ
unlent zero loans = 0
unlent (suc n) loans = one_unless (is_lent loans n) + unlent n loans

-- and of so many from the first one on
abbrev pub unlent_from : (first count : ℕ) → List Loan → ℕ
unlent_from first zero loans = 0
unlent_from first (suc n) loans = one_unless (is_lent loans (first + n)) + unlent_from first n loans

-- how many pages the pool has that have their bits in the word of a group
abbrev pub pages_in : Shape → (group : ℕ) → ℕ
pages_in z group = min 64 (z.pages - number_at group 0)

-- how many of them aren't lent
abbrev pub unlent_in : Shape → (group : ℕ) → List Loan → ℕ
unlent_in z group loans = unlent_from (number_at group 0) (pages_in z group) loans

-- a find of the word 0 of page bits, where as many entries had been seen as f says: of the pages of that word fewer weren't lent than there are passes,
-- and none where the finder was clear
pub record FewLeft (z : Shape) (seen : List Entry) (f : Find) : Type 0 where
  pub before : List Entry
  pub begins : Begins before seen
  pub long : length before ≡ f.seen
  pub few : unlent_in z (group_of f.step) (loans_of before) < z.passes
  pub none : f.clear ≡ true → unlent_in z (group_of f.step) (loans_of before) ≡ 0

-- the first so many
abbrev pub prefix : ℕ → List Gathered → List Gathered
prefix zero gs = []
prefix (suc k) [] = []
prefix (suc k) (g ∷ gs) = g ∷ prefix k gs

-- a find of no number, by a pass that is known to be whole: each number of the group is its own, or of a caller that was gathered since, or had its
-- last term; or nobody can be drawn any more
abbrev pub IsNumberGone : View → Find → ℕ → Type 0
IsNumberGone v f n = (length v.gathered + 1 ≡ most_draws)
    ⊎ ((c : Caller) × HasCaller v c × (c.number ≡ n) × ((c.term ≡ last_term) ⊎ ((g : Gathered) → In g (prefix f.gathered v.gathered) → g.caller ≢ c)))

-- the caller of a number that has this term
abbrev pub caller_of : (number term : ℕ) → Caller
caller_of n t = record { number = n; term = t }

-- what holds of a pass at any time
pub record IsSound (v : View) : Type 0 where
  pub valid : IsValid v.shape
  pub limit : limit_of v.shape ≤ 2 ^ 40
  pub legal : IsLegal (limit_of v.shape) [] v.seen
  pub lent : IsRightlyLent v.shape.page_words (limit_of v.shape) v.seen
  -- each block that was lent is one of the pool's, as one of the parts that an arena can have
  pub within : (e : Entry) → In e v.seen → LendsWithin v.shape e.call
  pub number : v.caller.number < v.shape.passes
  pub inside : (a : ArenaId) → v.inside ≡ Some a → IsUnderWay (state_in v) v.caller a
  pub outside : (a : ArenaId) → IsUnderWay (state_in v) v.caller a → v.inside ≡ Some a
  pub fits : (a : ArenaId) → IsKnown v a → Fits v.shape a
  -- of each slot one generation was opened after the other
  pub older : (a : ArenaId) (g : ℕ) → IsKnown v a → g < a.generation → (b : ArenaId) × (b.slot ≡ a.slot) × (b.generation ≡ g) × IsKnown v b
  pub hand : (s : ℕ) → HasSlot s v.hand → s < v.shape.slots
  -- the arenas whose closes it has, one close each, and those that it has to sweep
  pub closing : (c : Close) → In c v.closes → IsShut v c.arena
  pub closes_once : IsOnce (λ (c : Close). c.arena) v.closes
  pub swept : (c : Sweep) → In c v.sweeps → IsOver v c.arena
  -- each page is one of the pool's, lent as one of the parts that an arena can have
  pub loans : (l : Loan) → Contains (loans_of v.seen) l → (l.block < v.shape.pages) × (l.part < v.shape.reach)
  -- of an arena that is swept, parts that have no page any more aren't lent
  pub unlent : (c : Sweep) → In c v.sweeps → (l : Loan) → Contains (loans_of v.seen) l → l.id ≡ c.arena → c.passed ≤ l.part
  -- of an arena that hasn't ended, each part with a given byte is lent
  pub covered : (a : ArenaId) (word : ℕ) → (arena_of (state_in v) a).life ≢ Ended → 8 * word < given_of v a
      → HasPart (loans_of v.seen) a (word / v.shape.page_words)
  -- a page that it has read in a map word of the arena that it is inside is lent so
  pub reads : (a : ArenaId) (m : Mapping) → v.inside ≡ Some a → In m v.reads → Contains (loans_of v.seen) (loan_of m.page a m.part)
  -- an arena of which it has a hold or a handle
  pub held : (a : ArenaId) → In a (grips a v) → IsAlive v a
  pub own_handles : HasOwnHandles v
  -- the caller that it drew and hasn't split off
  pub drawn : (c : Caller) → v.number ≡ number_drawn c → IsNew v c
  pub few : length v.gathered < most_draws
  -- a pass that is known to be whole has the callers of the whole history, and all that were drawn
  pub knows : v.whole ≡ true → KnowsCallers v
  pub all_drawn : v.whole ≡ true → HasAllDrawn v
  -- where no slot is in a hand, finds of no slot say of each slot why
  pub none_left : v.whole ≡ true → v.hand ≡ nothing → (c : Caller) (f : Find) → HasFindBy v c f → is_slot f.step ≡ true → f.found ≡ 0
      → NoneLeft v.shape v.seen c f
  -- the page in its hand, and that of its sweep, are the pool's
  pub own_pages : (p : ℕ) → In p v.pages → p < v.shape.pages
  pub swept_page : (a : ArenaId) (i p w : ℕ) → v.swept ≡ wiping a i p w → p < v.shape.pages
  pub few_left : (f : Find) → HasFind v f → is_page f.step ≡ true → f.found ≡ 0 → FewLeft v.shape v.seen f
  -- where no number is in its hand, its own finds of no number say of each number why
  pub numbers_gone : v.whole ≡ true → v.number ≡ no_number → (f : Find) → In f v.finds → is_number f.step ≡ true → f.found ≡ 0 → (n : ℕ)
      → n / 64 ≡ group_of f.step → n < v.shape.passes → IsNumberGone v f n
  -- no two callers that it has are one
  pub one_each : IsOnce (λ (g : Gathered). g.caller) v.gathered
  pub others : (g : Gathered) → In g v.gathered → g.caller ≢ v.caller
  pub term : v.caller.term ≤ last_term
  -- a pass that is known to be whole has with each caller those of the earlier terms of its number
  pub earlier : v.whole ≡ true → (c : Caller) (t : ℕ) → HasCaller v c → t < c.term → HasCaller v (caller_of c.number t)
