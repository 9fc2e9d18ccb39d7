-- The facts that a pool keeps between any two steps: of its words, of the history, and of all views.
use Rattle.std.specs.{Prelude.{◌≡◌, ◌≢◌, ◌⊎◌, ℕ, ◌+◌, ◌<◌, ◌≤◌, true, List, [], ◌∷◌, Option, Some, None, ◌/◌, length}, Int.{bit_at}}
use mathlib.Core.Option.{some}
use lib.ListN.{get_elem?}
use Rattle.fm_words.specs.{declared.shape.Shape.{Shape}, Shapes.{IsValid}}
use Rattle.fm_base.specs.{declared.{caller.Caller.{Caller}, arena_id.ArenaId.{ArenaId}}, Calls.{Entry}, Histories.{IsLegal, state_after, made_by}}
use Rattle.fm_base.specs.{Finds.{Find, Gathered, Close, Sweep, is_draw, is_number, group_of}, Arenas.{only_caller}}
use Rattle.fm_rule_facts.specs.Loans.{loans_of, IsRightlyLent, LendsWithin}
use Rattle.fm_rule_facts.specs.Hands.{Hand, nothing, taken, learnt, retired, HasSlot, IsTaker, Number, no_number, number_taken, number_learnt, number_drawn, number_left, number_joined, HasNumberIn, last_term, most_draws}
use Rattle.fm_rule_facts.specs.{Views.{Met, View, Fits, In, HasOwnHandles, all_gathered, caller_of, limit_of, prefix}, Parts.{Mapping, Swept, unread, named, wiping}}
use Rattle.fm_rule_facts.specs.{Gone.{IsFounded}, Holds.{holds_of, total, all_holds}}
use Rattle.fm_base_machine.specs.Functions.{Stage, Fresh, Lives, Closes, Over, Machine, Depicts}
pub use Rattle.fm_rule_facts.specs.Views.{IsOnce, Begins}
pub use Rattle.fm_rule_facts.specs.PoolWords.{Session, free, live, shut, PoolWords, session_code, own_map, Shows, IsStanding, IsShown}
pub use Rattle.fm_rule_facts.specs.Berths.{Berth, loose, claimed, mapped, unmapped, IsAt}
pub use Rattle.fm_rule_facts.specs.Pages.{Pages}
pub use Rattle.fm_words.specs.Bits.{bit_of}

-- ---- the pool's words beside the machine

-- a caller under way has its number's term, and the number's mark names the arena
pub record IsMarked (z : Shape) (marks : ℕ → Option ArenaId) (terms : ℕ → ℕ) (life : ArenaId → Stage) (c : Caller) (a : ArenaId) : Type 0 where
  pub number : c.number < z.passes
  pub term : c.term ≡ terms c.number
  pub mark : marks c.number ≡ Some a
  pub stands : IsStanding (life a)

-- session words show the arenas
pub record Sessions (z : Shape) (sessions : ℕ → Session) (life : ArenaId → Stage) : Type 0 where
  pub alive_shown : (a : ArenaId) → life a ≡ Lives → sessions a.slot ≡ live a
  pub closing_shown : (a : ArenaId) → life a ≡ Closes → sessions a.slot ≡ shut a
  pub live_is : (s : ℕ) (a : ArenaId) → sessions s ≡ live a → (a.slot ≡ s) × (life a ≡ Lives)
  pub shut_is : (s : ℕ) (a : ArenaId) → sessions s ≡ shut a → (a.slot ≡ s) × (life a ≢ Fresh)
  -- a free generation and those after it are new
  pub free_is : (s g : ℕ) → sessions s ≡ free g → (a : ArenaId) → a.slot ≡ s → g ≤ a.generation → life a ≡ Fresh
  -- no other arena of the slot has this generation or a greater one
  pub newest : (s : ℕ) (a : ArenaId) → (sessions s ≡ live a) ⊎ (sessions s ≡ shut a) → (b : ArenaId) → b.slot ≡ s → a.generation ≤ b.generation → b ≢ a
      → life b ≡ Fresh
  -- the generation before was opened
  pub before : (s g : ℕ) → sessions s ≡ free (g + 1) → (a : ArenaId) × (a.slot ≡ s) × (a.generation ≡ g) × (life a ≢ Fresh)
  pub fits : (a : ArenaId) → life a ≢ Fresh → Fits z a
  -- each generation before that of an arena was opened
  pub older : (a : ArenaId) (g : ℕ) → life a ≢ Fresh → g < a.generation → (b : ArenaId) × (b.slot ≡ a.slot) × (b.generation ≡ g) × (life b ≢ Fresh)

-- slots whose bit is 1 are free, and have a generation left; no bit is 1 where there is no slot
pub record Slots (z : Shape) (bits : ℕ) (sessions : ℕ → Session) : Type 0 where
  pub bit_is : (s : ℕ) → bit_at bits s ≡ 1 → (g : ℕ) × (sessions s ≡ free g) × (g < z.generations)
  pub low : (s : ℕ) → bit_at bits s ≡ 1 → s < z.slots
  pub within : (s g : ℕ) → sessions s ≡ free g → g ≤ z.generations

-- session words count the holds
pub record Counts (counts : ℕ → ℕ) (life : ArenaId → Stage) (holds : ArenaId → ℕ) : Type 0 where
  pub shown : (a : ArenaId) → life a ≡ Lives → counts a.slot ≡ holds a
  pub only : (a : ArenaId) → life a ≢ Lives → holds a ≡ 0
  pub few : (a : ArenaId) → holds a ≤ 65535

-- given words show the given bytes
pub record Givens (sessions : ℕ → Session) (words : ℕ → ℕ) (life : ArenaId → Stage) (given : ArenaId → ℕ) : Type 0 where
  pub shown : (a : ArenaId) → IsStanding (life a) → words a.slot ≡ given a
  pub none : (a : ArenaId) → life a ≡ Fresh → given a ≡ 0
  pub clean : (s g : ℕ) → sessions s ≡ free g → words s ≡ 0

pub record World (z : Shape) (m : PoolWords) (t : Machine) : Type 0 where
  pub marked : (c : Caller) (a : ArenaId) → t.inside c ≡ Some a → IsMarked z m.marks m.terms t.life c a
  pub sessions : Sessions z m.sessions t.life
  pub slots : Slots z m.bits m.sessions
  pub counts : Counts m.counts t.life t.holds
  pub givens : Givens m.sessions m.given t.life t.given

-- ---- callers that were drawn, and numbers

-- c is one of the first callers that were drawn: `who` has them in their order, and `rank` says which one a caller is
abbrev pub WasDrawn : (draw : ℕ) → (who : ℕ → Caller) → (rank : Caller → ℕ) → Caller → Type 0
WasDrawn draw who rank c = (rank c < draw) × (who (rank c) ≡ c)

-- the next caller of a number that nobody has
abbrev pub next_of : (terms : ℕ → ℕ) → ℕ → Caller
next_of terms n = record { number = n; term = terms n }

-- ---- which seat has what

pub record Owners : Type 0 where
  -- the callers in the order in which they were drawn, and the place of each among them
  pub who : ℕ → Caller
  pub rank : Caller → ℕ
  -- the pass of a drawn caller, or the one into which it is gathered
  pub seat : Caller → ℕ
  -- a number whose bit is 0: the pass that has it as its own, or in its hand
  pub number : ℕ → ℕ
  -- the close of an arena, and its sweep
  pub closer : ArenaId → ℕ
  -- a free slot whose bit is 0 and which has a generation left
  pub holder : ℕ → ℕ
  -- the caller that took it to open an arena there
  pub taker : ℕ → Option Caller
  -- where each page is
  pub berth : ℕ → Berth

-- an unfinished close at the seat j
pub record IsClosing (t : Machine) (o : Owners) (j : ℕ) (c : Close) : Type 0 where
  pub owner : o.closer c.arena ≡ j
  pub life : t.life c.arena ≡ Closes
  pub passed : (k : Caller) → k.number < c.passed → t.inside k ≢ Some c.arena

-- an arena at the seat j that ended and isn't retired
pub record IsSweeping (z : Shape) (m : PoolWords) (t : Machine) (o : Owners) (j : ℕ) (c : Sweep) : Type 0 where
  pub owner : o.closer c.arena ≡ j
  pub life : t.life c.arena ≡ Over
  pub session : m.sessions c.arena.slot ≡ shut c.arena
  pub parts : (i : ℕ) → i < c.passed → m.maps c.arena.slot i ≡ None
  -- the given word shows what it gave, until it is reset
  pub count : c.passed ≤ z.reach → m.given c.arena.slot ≡ t.given c.arena
  pub reset : z.reach < c.passed → m.given c.arena.slot ≡ 0

-- the part is the next one of the arena's sweep
pub record IsNext (sweeps : List Sweep) (a : ArenaId) (i : ℕ) : Type 0 where
  pub sweep : Sweep
  pub there : In sweep sweeps
  pub arena : sweep.arena ≡ a
  pub passed : sweep.passed ≡ i

-- a page that the sweep at the seat j has, of which so many words are 0
pub record IsWiped (z : Shape) (maps : ℕ → ℕ → Option ℕ) (cells : ℕ → ℕ → ℕ) (berth : ℕ → Berth) (j : ℕ) (sweeps : List Sweep) (a : ArenaId) (i p w : ℕ)
    : Type 0 where
  pub next : IsNext sweeps a i
  pub owner : berth p ≡ unmapped j a i
  pub empty : maps a.slot i ≡ None
  pub wiped : (o : ℕ) → o < w → o < z.page_words → cells p o ≡ 0

abbrev pub HasSwept : (z : Shape) (maps : ℕ → ℕ → Option ℕ) (cells : ℕ → ℕ → ℕ) (berth : ℕ → Berth) (j : ℕ) (sweeps : List Sweep) → Swept → Type 0
HasSwept z maps cells berth j sweeps unread = Unit {0}
HasSwept z maps cells berth j sweeps (named a i p) = IsNext sweeps a i × (maps a.slot i ≡ Some p)
HasSwept z maps cells berth j sweeps (wiping a i p w) = IsWiped z maps cells berth j sweeps a i p w

-- no more than one
abbrev pub IsLone : List ℕ → Type 0
IsLone ps = (ps ≡ []) ⊎ ((p : ℕ) × (ps ≡ p ∷ []))

-- what the seat j knows of pages
pub record HasPages (z : Shape) (maps : ℕ → ℕ → Option ℕ) (cells : ℕ → ℕ → ℕ) (berth : ℕ → Berth) (j : ℕ) (inside : Option ArenaId)
    (reads : List Mapping) (pages : List ℕ) (sweeps : List Sweep)
    (swept : Swept) : Type 0 where
  -- what it has read in a map word stands there, while it is under way
  pub read : (a : ArenaId) → inside ≡ Some a → (x : Mapping) → In x reads → maps a.slot x.part ≡ Some x.page
  pub claims : (p : ℕ) → In p pages → berth p ≡ claimed j
  pub lone : IsLone pages
  pub sweep : HasSwept z maps cells berth j sweeps swept

-- a slot in the hand of the seat j, whose next generation is g
pub record IsHeld (z : Shape) (bits : ℕ) (sessions : ℕ → Session) (holder : ℕ → ℕ) (j s g : ℕ) : Type 0 where
  pub owner : holder s ≡ j
  pub slot : s < z.slots
  pub bit : bit_at bits s ≡ 0
  pub session : sessions s ≡ free g
  pub left : g < z.generations

abbrev pub HasInHand : Shape → ℕ → (ℕ → Session) → (ℕ → ℕ) → ℕ → Hand → Type 0
HasInHand z bits sessions holder j nothing = Unit {0}
HasInHand z bits sessions holder j (taken s) = (g : ℕ) × IsHeld z bits sessions holder j s g
HasInHand z bits sessions holder j (learnt s g) = IsHeld z bits sessions holder j s g
HasInHand z bits sessions holder j (retired s) = (g : ℕ) × IsHeld z bits sessions holder j s (g + 1)

-- the caller has made no entry and is under way nowhere
pub record IsSilent (c : Caller) (h : List Entry) (t : Machine) : Type 0 where
  pub calls : made_by c h ≡ []
  pub outside : t.inside c ≡ None

-- a number whose bit is 0, at the seat j, that no live pass has as its own
pub record IsLoose (z : Shape) (m : PoolWords) (o : Owners) (j n : ℕ) : Type 0 where
  pub low : n < z.passes
  pub owner : o.number n ≡ j
  pub bit : bit_of m.numbers n ≡ 0
  pub mark : m.marks n ≡ None

-- and whose next caller wasn't drawn
pub record IsUndrawn (z : Shape) (m : PoolWords) (o : Owners) (j n : ℕ) : Type 0 where
  pub loose : IsLoose z m o j n
  pub fresh : ¬ (WasDrawn m.draw o.who o.rank (next_of m.terms n))

-- a caller that is gathered into the view v at the seat j, and was so when xs was seen
pub record IsGathered (h : List Entry) (m : PoolWords) (t : Machine) (o : Owners) (j : ℕ) (v : View) (xs : List Entry) (g : Gathered) : Type 0 where
  pub drawn : WasDrawn m.draw o.who o.rank g.caller
  pub seated : o.seat g.caller ≡ j
  pub apart : g.caller ≢ v.caller
  pub outside : t.inside g.caller ≡ None
  pub quiet : made_by g.caller h ≡ made_by g.caller xs

-- a caller that was drawn at the seat j and isn't split off
pub record IsDrawn (z : Shape) (h : List Entry) (m : PoolWords) (t : Machine) (o : Owners) (j : ℕ) (v : View) (c : Caller) : Type 0 where
  pub loose : IsLoose z m o j c.number
  pub term : c.term ≡ m.terms c.number
  pub drawn : WasDrawn m.draw o.who o.rank c
  pub later : c ≢ only_caller
  pub seated : o.seat c ≡ j
  pub apart : c ≢ v.caller
  pub ungathered : (g : Gathered) → In g (all_gathered v) → g.caller ≢ c
  pub silent : IsSilent c h t

-- a caller that is gathered into v, and whose number is to be returned
pub record IsJoined (z : Shape) (m : PoolWords) (o : Owners) (j : ℕ) (v : View) (c : Caller) : Type 0 where
  pub loose : IsLoose z m o j c.number
  pub term : c.term ≡ m.terms c.number
  pub left : c.term < last_term
  pub gathered : (g : Gathered) × In g (all_gathered v) × (g.caller ≡ c)

-- a caller of the number is gathered into v, or nobody can be drawn any more
abbrev pub WasLeft : PoolWords → View → ℕ → Type 0
WasLeft m v n = (m.draw ≡ most_draws) ⊎ ((g : Gathered) × In g (all_gathered v) × (g.caller.number ≡ n))

-- what is known of the number in the hand of v
abbrev pub HasNumberInHand : (z : Shape) (h : List Entry) (m : PoolWords) (t : Machine) (o : Owners) (j : ℕ) (v : View) → Number → Type 0
HasNumberInHand z h m t o j v no_number = Unit {0}
HasNumberInHand z h m t o j v (number_taken n) = IsUndrawn z m o j n
HasNumberInHand z h m t o j v (number_learnt n term) = IsUndrawn z m o j n × (term ≡ m.terms n)
HasNumberInHand z h m t o j v (number_drawn c) = IsDrawn z h m t o j v c
HasNumberInHand z h m t o j v (number_left n) = IsUndrawn z m o j n × WasLeft m v n
HasNumberInHand z h m t o j v (number_joined c) = IsJoined z m o j v c

-- ---- what a view says

abbrev pub HasGathered : Caller → View → Type 0
HasGathered c v = (g : Gathered) × In g (all_gathered v) × (g.caller ≡ c)

-- what the pass of a view has under way: where it is, what it closes and sweeps, the slot in its hand, and pages
pub record Work (z : Shape) (m : PoolWords) (t : Machine) (o : Owners) (j : ℕ) (v : View) : Type 0 where
  pub inside : t.inside v.caller ≡ v.inside
  pub mark : m.marks v.caller.number ≡ v.mark
  pub closes : (c : Close) → In c v.closes → IsClosing t o j c
  pub once : IsOnce (λ (c : Close). c.arena) v.closes
  pub sweeps : (c : Sweep) → In c v.sweeps → IsSweeping z m t o j c
  pub swept_once : IsOnce (λ (c : Sweep). c.arena) v.sweeps
  pub hand : HasInHand z m.bits m.sessions o.holder j v.hand
  pub took : IsTaker o.taker v.caller v.hand
  pub pages : HasPages z m.maps m.cells o.berth j v.inside v.reads v.pages v.sweeps v.swept

pub record Owns (z : Shape) (h : List Entry) (m : PoolWords) (t : Machine) (o : Owners) (j : ℕ) (v : View) : Type 0 where
  pub drawn : WasDrawn m.draw o.who o.rank v.caller
  pub term : v.caller.term ≡ m.terms v.caller.number
  pub seated : o.seat v.caller ≡ j
  pub owner : o.number v.caller.number ≡ j
  pub bit : bit_of m.numbers v.caller.number ≡ 0
  pub mine : made_by v.caller h ≡ made_by v.caller v.seen
  pub work : Work z m t o j v
  pub handles : HasOwnHandles v
  pub gathered : (g : Gathered) → In g v.gathered → IsGathered h m t o j v v.seen g
  pub coming : (x : Met) → In x v.met → (g : Gathered) → In g x.gathered → IsGathered h m t o j v x.seen g
  pub one_each : IsOnce (λ (g : Gathered). g.caller) (all_gathered v)
  pub number : HasNumberInHand z h m t o j v v.number
  pub not_own : (n : ℕ) → HasNumberIn n v.number → n ≢ v.caller.number
  pub whole : v.whole ≡ true → (c : Caller) → WasDrawn m.draw o.who o.rank c → c ≢ v.caller → HasGathered c v
  pub seen_all : v.whole ≡ true → v.seen ≡ h

pub record Knows (z : Shape) (h : List Entry) (m : PoolWords) (t : Machine) (o : Owners) (j : ℕ) (v : View) : Type 0 where
  pub shape : v.live ≡ true → v.shape ≡ z
  pub begins : Begins v.seen h
  pub met : (x : Met) → In x v.met → Begins x.seen h
  pub owns : v.live ≡ true → Owns z h m t o j v

-- where so many draws were made, a draw found no more, and who was drawn is one of these
pub record IsWithin (draw : ℕ) (who : ℕ → Caller) (rank : Caller → ℕ) (f : Find) : Type 0 where
  pub found : is_draw f.step ≡ true → f.found ≤ draw
  pub drew : (c : Caller) → f.drew ≡ Some c → (is_draw f.step ≡ true) × WasDrawn draw who rank c

-- the finds that a view has are within the count of draws
pub record IsCounted (draw : ℕ) (who : ℕ → Caller) (rank : Caller → ℕ) (v : View) : Type 0 where
  pub finds : (f : Find) → In f v.finds → IsWithin draw who rank f
  pub theirs : (g : Gathered) → In g (all_gathered v) → (f : Find) → In f g.finds → IsWithin draw who rank f

-- ---- what some view has

-- the seat i has a view of which P holds
pub record Somewhere (views : List View) (i : ℕ) (P : View → Type 0) : Type 0 where
  pub view : View
  pub there : get_elem? views i ≡ some view
  pub holds : P view

-- the caller is the view's own, in its hand, or gathered into it
abbrev pub KeepsCaller : Caller → View → Type 0
KeepsCaller c v = ((v.live ≡ true) × (v.caller ≡ c)) ⊎ ((v.number ≡ number_drawn c) ⊎ HasGathered c v)

-- the number is the view's own, or in its hand
abbrev pub KeepsNumber : ℕ → View → Type 0
KeepsNumber n v = (v.live ≡ true) × ((v.caller.number ≡ n) ⊎ HasNumberIn n v.number)

-- a number that was returned, and can be drawn
pub record IsFreeNumber (m : PoolWords) (o : Owners) (n : ℕ) : Type 0 where
  pub mark : m.marks n ≡ None
  pub fresh : ¬ (WasDrawn m.draw o.who o.rank (next_of m.terms n))

-- a number that had its last term
pub record IsSpent (m : PoolWords) (o : Owners) (n : ℕ) : Type 0 where
  pub mark : m.marks n ≡ None
  pub last : m.terms n ≡ last_term
  pub drawn : WasDrawn m.draw o.who o.rank (next_of m.terms n)

-- among the finds is the drawing of c
abbrev pub DrewIn : Caller → List Find → Type 0
DrewIn c fs = (f : Find) × In f fs × (f.drew ≡ Some c)

-- the view has the finds of d, among them the drawing of c
abbrev pub HasDraw : Caller → Caller → View → Type 0
HasDraw d c v = ((v.live ≡ true) × (v.caller ≡ d) × DrewIn c v.finds)
    ⊎ ((g : Gathered) × In g (all_gathered v) × (g.caller ≡ d) × DrewIn c g.finds)

abbrev pub HasClose : ArenaId → View → Type 0
HasClose a v = (v.live ≡ true) × ((c : Close) × In c v.closes × (c.arena ≡ a))

abbrev pub HasSweep : ArenaId → View → Type 0
HasSweep a v = (v.live ≡ true) × ((c : Sweep) × In c v.sweeps × (c.arena ≡ a))

abbrev pub KeepsSlot : ℕ → View → Type 0
KeepsSlot s v = (v.live ≡ true) × HasSlot s v.hand

-- the view has the page, which is there
abbrev pub HasPage : ℕ → Berth → View → Type 0
HasPage p loose v = ⊥
HasPage p (claimed j) v = (v.live ≡ true) × In p v.pages
HasPage p (mapped k i) v = ⊥
HasPage p (unmapped j a i) v = (v.live ≡ true) × ((w : ℕ) × (v.swept ≡ wiping a i p w))

-- ---- finds of no number

-- the number was taken to draw its next caller
abbrev pub WantsNumber : ℕ → View → Type 0
WantsNumber n v = (v.live ≡ true) × ((v.number ≡ number_taken n) ⊎ ((term : ℕ) × (v.number ≡ number_learnt n term)))

-- a caller of the number was drawn that isn't one of these, or is its last; or another is about to be drawn; or nobody can be any more
pub data IsUsed (m : PoolWords) (o : Owners) (views : List View) (before : List Gathered) (n : ℕ) : Type 0 where
  used : (c : Caller) → c.number ≡ n → WasDrawn m.draw o.who o.rank c → (c.term ≡ last_term) ⊎ ((g : Gathered) → In g before → g.caller ≢ c)
      → IsUsed m o views before n
  wanted : Somewhere views (o.number n) (WantsNumber n) → IsUsed m o views before n
  full : m.draw ≡ most_draws → IsUsed m o views before n

-- the find of a word 0 of number bits, where these were gathered
pub record HasLooked (z : Shape) (m : PoolWords) (o : Owners) (views : List View) (before : List Gathered) (f : Find) : Type 0 where
  pub drawn : (g : Gathered) → In g before → WasDrawn m.draw o.who o.rank g.caller
  pub all : (n : ℕ) → n / 64 ≡ group_of f.step → n < z.passes → IsUsed m o views before n

abbrev pub LookedBy : (z : Shape) (m : PoolWords) (o : Owners) (views : List View) (before : List Gathered) (f : Find) → Type 0
LookedBy z m o views before f = is_number f.step ≡ true → f.found ≡ 0 → HasLooked z m o views before f

pub record IsLooked (z : Shape) (m : PoolWords) (o : Owners) (views : List View) (v : View) : Type 0 where
  pub few : (f : Find) → In f v.finds → is_number f.step ≡ true → f.gathered ≤ length v.gathered
  pub finds : (f : Find) → In f v.finds → LookedBy z m o views (prefix f.gathered v.gathered) f
  pub theirs : (g : Gathered) → In g (all_gathered v) → (f : Find) → In f g.finds → LookedBy z m o views [] f

-- ---- the rule

pub record Rule (z : Shape) (words : List ℕ) (views : List View) : Type 0 where
  pub history : List Entry
  pub memory : PoolWords
  pub machine : Machine
  pub owners : Owners
  pub valid : IsValid z
  pub legal : IsLegal (limit_of z) [] history
  pub rightly : IsRightlyLent z.page_words (limit_of z) history
  pub within : (e : Entry) → In e history → LendsWithin z e.call
  pub pages : Pages z (loans_of history) memory.page_bits memory.maps memory.cells owners.berth memory.sessions machine.life machine.word machine.given
  pub depicts : Depicts (limit_of z) (state_after (limit_of z) [] history) machine
  pub shows : Shows z words memory
  pub world : World z memory machine
  pub few : memory.draw ≤ most_draws
  pub begun : 0 < memory.draw
  pub first : owners.who 0 ≡ only_caller
  pub ranks : (k : ℕ) → k < memory.draw → owners.rank (owners.who k) ≡ k
  -- who wasn't drawn has done nothing
  pub later : (c : Caller) → ¬ (WasDrawn memory.draw owners.who owners.rank c) → IsSilent c history machine
  -- who was drawn has a number of the pool, and no later term than it
  pub terms : (c : Caller) → WasDrawn memory.draw owners.who owners.rank c → (c.number < z.passes) × (c.term ≤ memory.terms c.number)
  pub last : (n : ℕ) → memory.terms n ≤ last_term
  -- each term of a number below its next one was drawn
  pub used : (n t : ℕ) → t < memory.terms n → WasDrawn memory.draw owners.who owners.rank (caller_of n t)
  pub callers : (c : Caller) → WasDrawn memory.draw owners.who owners.rank c → Somewhere views (owners.seat c) (KeepsCaller c)
  -- each caller but the first was drawn by one that was drawn earlier
  pub drawers : (k : ℕ) → 0 < k → k < memory.draw
      → (d : ℕ) × (d < k) × Somewhere views (owners.seat (owners.who d)) (HasDraw (owners.who d) (owners.who k))
  -- each number is free, or in one view, or had its last term
  pub free_numbers : (n : ℕ) → bit_of memory.numbers n ≡ 1 → IsFreeNumber memory owners n
  pub numbers : (n : ℕ) → n < z.passes → bit_of memory.numbers n ≡ 0
      → Somewhere views (owners.number n) (KeepsNumber n) ⊎ IsSpent memory owners n
  pub closed : (a : ArenaId) → machine.life a ≡ Closes → Somewhere views (owners.closer a) (HasClose a)
  pub swept : (a : ArenaId) → memory.sessions a.slot ≡ shut a → machine.life a ≡ Over → Somewhere views (owners.closer a) (HasSweep a)
  pub slots : (s g : ℕ) → s < z.slots → memory.sessions s ≡ free g → g < z.generations → bit_at memory.bits s ≡ 0
      → Somewhere views (owners.holder s) (KeepsSlot s)
  pub berths : (p j : ℕ) → IsAt j (owners.berth p) → Somewhere views j (HasPage p (owners.berth p))
  -- an arena is held as often as views have a hold of it; of an automatic one that is alive they have one more
  pub held : (a : ArenaId) → total (holds_of a) views ≡ all_holds a machine
  pub each : (j : ℕ) (v : View) → get_elem? views j ≡ some v → Knows z history memory machine owners j v
  pub counted : (j : ℕ) (v : View) → get_elem? views j ≡ some v → IsCounted memory.draw owners.who owners.rank v
  pub founds : (j : ℕ) (v : View) → get_elem? views j ≡ some v → IsFounded z history memory owners.taker machine.life v
  pub looked : (j : ℕ) (v : View) → get_elem? views j ≡ some v → IsLooked z memory owners views v
