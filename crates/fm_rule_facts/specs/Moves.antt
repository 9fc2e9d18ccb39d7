-- What one step changes, and what the rule allows.
use Rattle.std.specs.Prelude.{◌*◌, ◌/◌, ◌≡◌, ◌≢◌, ◌⊎◌, ℕ, ◌+◌, ◌<◌, ◌≤◌, true, List, [], ◌∷◌, ◌++◌, length, slice_index, slice_set, Contains, Some, None, ⊤, Option}
use Rattle.std.specs.Int.{bit_at}
use mathlib.Core.Option.{some}
use lib.ListN.{get_elem?}
use Rattle.fm_words.specs.declared.shape.Shape.{Shape}
use Rattle.fm_base.specs.{declared.{caller.Caller.{Caller}, arena_id.ArenaId.{ArenaId}}, Calls.{Call, Read, Write, SwapIf, Add, End, Lend, Back, Entry}}
use Rattle.fm_base.specs.{Histories.{made_by}, Finds.{Find, Gathered, is_draw}}
use Rattle.fm_rule_facts.specs.{Loans.{loans_of, Loan, loan_of, loans_by, IsFree, HasPart}, Hands.{nothing, number_drawn, number_learnt, HasNumberIn, last_term, most_draws}}
use Rattle.fm_rule_facts.specs.declared.step.Step.{Step}
use Rattle.fm_rule_facts.specs.declared.step.Step.TheVariants.{Visits, Draws, Holds, Backs, TakesSlot, ReadsMap, Maps, Allocates, SweepsGiven, SweepsMap, LearnsTerm}
use Rattle.fm_rule_facts.specs.{Views.{Met, View, In, IsSound, IsBusy, all_gathered, caller_of, HasFind, HasAllDrawn, given_of, limit_of}, Steps.{part, entries, noted}}
use Rattle.fm_rule_facts.specs.{Words.{own_word, alive_holds}, Holds.{grips, holds_of, all_holds}, Gone.{IsTakenBy, OpenedBy}}
use Rattle.fm_rule_facts.specs.Facts.{PoolWords, free, shut, IsStanding, IsAt, HasPage, Owners, HasClose, HasSweep, KeepsSlot, Begins, Rule, bit_of, KeepsNumber, WantsNumber, IsSpent, IsFreeNumber, HasNumberInHand, Berth, WasDrawn}
use Rattle.fm_base_machine.specs.{Functions.{Fresh, Closes, Over, Machine, moved, MayBy, reply_by, Stage}, Steps.{moved_by}}

-- entries of one caller that the functions allow
abbrev pub MayMake : ℕ → Machine → Caller → List Entry → Type 0
MayMake limit t c [] = Unit {0}
MayMake limit t c (e ∷ es) =
    (e.caller ≡ c) × MayBy limit t e.caller e.call × (e.reply ≡ reply_by limit t e.call) × MayMake limit (moved t e.caller e.call e.reply) c es

-- where a call is right by these loans, by the functions, and lends a block of the pool as a part that arenas have
abbrev pub LendsBy : Shape → Machine → List Loan → Call → Type 0
LendsBy z t loans (Lend block id part) =
    IsFree loans block × (t.life id ≢ Fresh) × (t.life id ≢ Over) × ¬ (HasPart loans id part) × (block < z.pages) × (part < z.reach)
LendsBy z t loans (Back block) = (id : ArenaId) × (p : ℕ) × Contains loans (loan_of block id p) × (t.life id ≡ Over)
LendsBy z t loans (Read id word) = HasPart loans id (word / z.page_words)
LendsBy z t loans (Write id word value) = HasPart loans id (word / z.page_words)
LendsBy z t loans (SwapIf id word old new) = HasPart loans id (word / z.page_words)
LendsBy z t loans (Add id word n) = HasPart loans id (word / z.page_words)
LendsBy z t loans call = ⊤

abbrev pub MayLend : Shape → Machine → List Loan → List Entry → Type 0
MayLend z t loans [] = ⊤
MayLend z t loans (e ∷ es) = LendsBy z t loans e.call × MayLend z (moved t e.caller e.call e.reply) (loans_by loans e.call) es

abbrev pub Ends : Call → ArenaId → Type 0
Ends (End a) b = a ≡ b
Ends call b = ⊥

abbrev pub NoEnd : List Entry → ArenaId → Type 0
NoEnd [] b = Unit {0}
NoEnd (e ∷ es) b = ¬ Ends e.call b × NoEnd es b

-- nothing of an ended arena that isn't retired was changed
pub record StaysEnded (m m' : PoolWords) (b : ArenaId) : Type 0 where
  pub session : m'.sessions b.slot ≡ shut b
  pub maps : (i : ℕ) → m'.maps b.slot i ≡ m.maps b.slot i
  pub given : m'.given b.slot ≡ m.given b.slot

-- what a step of the seat `me` may do to what others know of pages
pub record PagesMoved (me : ℕ) (life : ArenaId → Stage) (maps : ℕ → ℕ → Option ℕ) (cells : ℕ → ℕ → ℕ) (berth : ℕ → Berth) (maps' : ℕ → ℕ → Option ℕ)
    (cells' : ℕ → ℕ → ℕ) (berth' : ℕ → Berth) : Type 0 where
  -- a page that another seat has
  pub others : (p j : ℕ) → IsAt j (berth p) → j ≢ me → (berth' p ≡ berth p) × ((w : ℕ) → cells' p w ≡ cells p w)
  -- a page of an arena that stands
  pub stay : (b : ArenaId) (i p : ℕ) → IsStanding (life b) → maps b.slot i ≡ Some p → maps' b.slot i ≡ Some p

-- nobody was drawn, and each caller stays at its seat
pub record CallersStay (d : ℕ) (w : ℕ → Caller) (r s : Caller → ℕ) (d' : ℕ) (w' : ℕ → Caller) (r' s' : Caller → ℕ) : Type 0 where
  pub draw : d' ≡ d
  pub who : (k : ℕ) → w' k ≡ w k
  pub rank : (k : Caller) → r' k ≡ r k
  pub seat : (k : Caller) → s' k ≡ s k

-- the caller's own number n stays its own, and a number at another seat stays there
pub record NumbersMoved (me n : ℕ) (bits terms at bits' terms' at' : ℕ → ℕ) : Type 0 where
  pub owner : at' n ≡ at n
  pub bit : bit_of bits' n ≡ bit_of bits n
  pub term : terms' n ≡ terms n
  pub others : (k : ℕ) → bit_of bits k ≡ 0 → at k ≢ me → (at' k ≡ at k) × (bit_of bits' k ≡ 0) × (terms' k ≡ terms k)

-- where each number whose bit is 0 is after the step
abbrev pub KeepsNumbers : (z : Shape) (me : ℕ) (v p : View) (m : PoolWords) (o : Owners) (m' : PoolWords) (o' : Owners) → Type 0
KeepsNumbers z me v p m o m' o' = (n : ℕ) → n < z.passes → bit_of m'.numbers n ≡ 0
    → ((o'.number n ≡ me) × KeepsNumber n p)
    ⊎ (((bit_of m.numbers n ≡ 0) × (o'.number n ≡ o.number n) × (m'.terms n ≡ m.terms n) × (m'.marks n ≡ m.marks n) × (KeepsNumber n v → KeepsNumber n p))
    ⊎ IsSpent m' o' n)

-- and which can be drawn
abbrev pub FreesNumbers : (m' : PoolWords) (o' : Owners) → Type 0
FreesNumbers m' o' = (n : ℕ) → bit_of m'.numbers n ≡ 1 → IsFreeNumber m' o' n

-- who was drawn has no later term, and terms stay within; a term that is passed by was drawn
pub record KeepsTerms (z : Shape) (m : PoolWords) (o : Owners) (m' : PoolWords) : Type 0 where
  pub terms : (n : ℕ) → m.terms n ≤ m'.terms n
  pub last : (n : ℕ) → m'.terms n ≤ last_term
  pub used : (n t : ℕ) → t < m'.terms n → (t < m.terms n) ⊎ WasDrawn m.draw o.who o.rank (caller_of n t)

-- where numbers and terms are after the step
pub record NumbersOn (z : Shape) (me : ℕ) (v p : View) (m : PoolWords) (o : Owners) (m' : PoolWords) (o' : Owners) : Type 0 where
  pub kept : KeepsNumbers z me v p m o m' o'
  pub freed : FreesNumbers m' o'
  pub terms : KeepsTerms z m o m'
  -- a number that is wanted is so still
  pub wants : (n : ℕ) → WantsNumber n v → WantsNumber n p × (o'.number n ≡ o.number n)

-- what a step of the seat `me` by the caller c may do to what others know
pub record Moved (me : ℕ) (z : Shape) (c : Caller) (m : PoolWords) (t : Machine) (o : Owners) (es : List Entry) (m' : PoolWords) (o' : Owners) : Type 0 where
  pub allowed : MayMake (limit_of z) t c es
  pub marks : (k : ℕ) → k ≢ c.number → m'.marks k ≡ m.marks k
  pub callers : CallersStay m.draw o.who o.rank o.seat m'.draw o'.who o'.rank o'.seat
  pub numbers : NumbersMoved me c.number m.numbers m.terms o.number m'.numbers m'.terms o'.number
  pub closers : (b : ArenaId) → t.life b ≡ Closes → o.closer b ≢ me → (o'.closer b ≡ o.closer b) × NoEnd es b
  pub sweepers : (b : ArenaId) → t.life b ≡ Over → m.sessions b.slot ≡ shut b → o.closer b ≢ me → (o'.closer b ≡ o.closer b) × StaysEnded m m' b
  pub holders : (s g : ℕ) → m.sessions s ≡ free g → bit_at m.bits s ≡ 0 → o.holder s ≢ me
      → (o'.holder s ≡ o.holder s) × (m'.sessions s ≡ free g) × (bit_at m'.bits s ≡ 0) × (o'.taker s ≡ o.taker s)
  -- a slot that was taken for an arena is so still, or the arena was opened
  pub taken : (s : ℕ) (k : Caller) → IsTakenBy z m.bits m.sessions o.taker s k
      → IsTakenBy z m'.bits m'.sessions o'.taker s k ⊎ OpenedBy (moved_by t es).life s k
  pub pages : PagesMoved me t.life m.maps m.cells o.berth m'.maps m'.cells o'.berth

-- what a step leaves of a view
pub record Same (v p : View) : Type 0 where
  pub home : p.home ≡ v.home
  pub shape : p.shape ≡ v.shape
  pub live : p.live ≡ v.live
  pub caller : p.caller ≡ v.caller
  pub seen : p.seen ≡ v.seen
  pub met : p.met ≡ v.met
  pub finds : p.finds ≡ v.finds
  pub gathered : p.gathered ≡ v.gathered
  pub whole : p.whole ≡ v.whole

-- the number in the hand after the step
pub record KeepsHand (z : Shape) (h : List Entry) (v : View) (m : PoolWords) (t : Machine) (o : Owners) (j : ℕ) (p : View) : Type 0 where
  pub number : HasNumberInHand z h m t o j p p.number
  pub not_own : (n : ℕ) → HasNumberIn n p.number → n ≢ p.caller.number
  -- a caller that isn't split off stays in the hand
  pub stays : (c : Caller) → v.number ≡ number_drawn c → p.number ≡ number_drawn c

-- where the close of each arena is after the step
abbrev pub KeepsCloses : (me : ℕ) (v p : View) (t : Machine) (o : Owners) (t' : Machine) (o' : Owners) → Type 0
KeepsCloses me v p t o t' o' = (a : ArenaId) → t'.life a ≡ Closes
    → ((o'.closer a ≡ me) × HasClose a p) ⊎ ((t.life a ≡ Closes) × (o'.closer a ≡ o.closer a) × (HasClose a v → HasClose a p))

-- where each sweep is after the step
abbrev pub KeepsSweeps : (me : ℕ) (v p : View) (m : PoolWords) (t : Machine) (o : Owners) (m' : PoolWords) (t' : Machine) (o' : Owners) → Type 0
KeepsSweeps me v p m t o m' t' o' = (a : ArenaId) → m'.sessions a.slot ≡ shut a → t'.life a ≡ Over
    → ((o'.closer a ≡ me) × HasSweep a p)
    ⊎ ((m.sessions a.slot ≡ shut a) × (t.life a ≡ Over) × (o'.closer a ≡ o.closer a) × (HasSweep a v → HasSweep a p))

-- where each free slot whose bit is 0 is after the step
abbrev pub KeepsSlots : (z : Shape) (me : ℕ) (v p : View) (m : PoolWords) (o : Owners) (m' : PoolWords) (o' : Owners) → Type 0
KeepsSlots z me v p m o m' o' = (s g : ℕ) → s < z.slots → m'.sessions s ≡ free g → g < z.generations → bit_at m'.bits s ≡ 0
    → ((o'.holder s ≡ me) × KeepsSlot s p)
    ⊎ ((m.sessions s ≡ free g) × (bit_at m.bits s ≡ 0) × (o'.holder s ≡ o.holder s) × (KeepsSlot s v → KeepsSlot s p))

-- where each page is after the step
abbrev pub KeepsPages : (me : ℕ) (v p : View) (o o' : Owners) → Type 0
KeepsPages me v p o o' = (q j : ℕ) → IsAt j (o'.berth q)
    → ((j ≡ me) × HasPage q (o'.berth q) p) ⊎ ((o'.berth q ≡ o.berth q) × (HasPage q (o.berth q) v → HasPage q (o.berth q) p))

-- the pass has as many holds more as the arenas
abbrev pub KeepsHolds : (v p : View) (t t' : Machine) → Type 0
KeepsHolds v p t t' = (a : ArenaId) → holds_of a p + all_holds a t ≡ holds_of a v + all_holds a t'

-- the view after a step: it has seen all, whom it met is gathered, and the caller's own entries are the last
abbrev pub told : View → List Entry → List Entry → (ℕ → List Find) → View
told p others own noted = record p {
  seen = (p.seen ++ others) ++ own;
  finds = p.finds ++ noted (length (p.seen ++ others));
  gathered = all_gathered p;
  met = [];
}

-- the view w is what a step gives that makes p of v and these entries
pub record Gives (v p : View) (own : List Entry) (noted : ℕ → List Find) (w : View) : Type 0 where
  pub others : List Entry
  pub is : w ≡ told p others own noted
  pub quiet : made_by v.caller others ≡ []
  pub apart : (g : Gathered) → In g v.gathered → made_by g.caller (others ++ own) ≡ []
  pub alone : v.whole ≡ true → others ≡ []
  pub met : (x : Met) → In x v.met → Begins x.seen w.seen
  -- nor did those that came, since they were seen last
  pub came : (x : Met) → In x v.met → (g : Gathered) → In g x.gathered → made_by g.caller w.seen ≡ made_by g.caller x.seen
  pub sound : IsSound w

-- what is learnt by the count x of draws: a whole pass has all that were drawn
pub record LearnsCount (v : View) (x : ℕ) : Type 0 where
  pub some : 0 < x
  pub few : x ≤ most_draws
  pub whole : v.whole ≡ true → x ≡ length v.gathered + 1
  -- a pass that has the first caller and each that its finds drew has them all too
  pub complete : HasAllDrawn v → x ≡ length v.gathered + 1
  -- and the count never falls
  pub later : (f : Find) → HasFind v f → is_draw f.step ≡ true → f.found ≤ x
  -- the next caller of the number in its hand was drawn by none of its finds
  pub undrawn : (n t : ℕ) → v.number ≡ number_learnt n t → (f : Find) → HasFind v f → f.drew ≢ Some (caller_of n t)

-- what is learnt by the word x of slot bits: where it isn't 0 some slot's bit is 1; and by a pass that is known to be whole
pub record LearnsSlots (v : View) (x : ℕ) : Type 0 where
  pub some : x ≢ 0 → (s : ℕ) × (s < v.shape.slots) × (bit_at x s ≡ 1)
  pub low : (s : ℕ) → bit_at x s ≡ 1 → s < v.shape.slots
  pub idle : v.whole ≡ true → (s : ℕ) → s < v.shape.slots → bit_at x s ≡ 1 → ¬ (IsBusy v s)
  pub busy : v.whole ≡ true → v.hand ≡ nothing → v.sweeps ≡ [] → (s : ℕ) → s < v.shape.slots → bit_at x s ≡ 0 → IsBusy v s

-- what is learnt by the word x of the map word of a part of an arena that the pass is inside, at the step that left the pass as w
pub record LearnsMap (v : View) (a : ArenaId) (i x : ℕ) (w : View) : Type 0 where
  -- a part with a given byte has a page
  pub given : (word : ℕ) → word / v.shape.page_words ≡ i → 8 * word < given_of v a → x ≢ 0
  -- a part without a page isn't lent
  pub none : x ≡ 0 → ¬ (HasPart (loans_of w.seen) a i)
  -- it is a page of the pool
  pub low : x ≤ v.shape.pages

-- what is learnt by the word x that a step found: the mark of its own number is what its view says; an arena that it holds is alive
abbrev pub Learns : Step → View → ℕ → View → Type 0
Learns (Visits a k) v x w = k ≡ v.caller.number → x ≡ own_word v.mark
Learns (Draws expected) v x w = LearnsCount v x
Learns (TakesSlot expected bit) v x w = LearnsSlots v x
Learns (Holds a word) v x w = In a (grips a v) → alive_holds a x ≢ None
Learns (Backs a word) v x w = alive_holds a x ≢ None
Learns (ReadsMap a i) v x w = LearnsMap v a i x w
Learns (Maps a i p) v x w = x ≤ v.shape.pages
Learns (SweepsMap a i) v x w = x ≤ v.shape.pages
-- the count that was found, where another one was expected
Learns (Allocates expected size align) v x w = (a : ArenaId) → v.inside ≡ Some a → x ≢ expected → x ≡ given_of w a
-- the arena gave so many bytes
Learns (SweepsGiven a) v x w = x ≡ given_of w a
Learns (LearnsTerm n) v x w = x ≤ last_term
Learns step v x w = ⊤

-- what a step tells its caller that found the word x
pub record Tells (step : Step) (v : View) (x : ℕ) (w : View) : Type 0 where
  pub gives : Gives v (part step v x) (entries step v x) (noted step v x) w
  pub learns : Learns step v x w

-- the seat id, with the view v, may make the step: the word at i becomes f of what it was
pub record MayStep (z : Shape) (step : Step) (id : ℕ) (v : View) (i : ℕ) (f : ℕ → ℕ) : Type 0 where
  pub may : (ws : List ℕ) (vs : List View) → Rule z ws vs → get_elem? vs id ≡ some v
      → (w : View) × Rule z (slice_set ws i (f (slice_index ws i))) (slice_set vs id w) × Tells step v (slice_index ws i) w

-- the seat may store y at i, and is told of y itself
pub record MayStore (z : Shape) (step : Step) (id : ℕ) (v : View) (i y : ℕ) : Type 0 where
  pub may : (ws : List ℕ) (vs : List View) → Rule z ws vs → get_elem? vs id ≡ some v
      → (w : View) × Rule z (slice_set ws i y) (slice_set vs id w) × Tells step v y w
