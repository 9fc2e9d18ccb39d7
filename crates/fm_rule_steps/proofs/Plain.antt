-- Steps that leave closes and hands as they are.
use Rattle.std.{proofs.Common.{◌≡◌, ◌≢◌, ℕ, true, List, length, set, sym, refl, ap, ◌∙◌, subst, inl, inr, Some, ◌/◌, ◌%◌, [], Option}, specs.Int.{bit_at}}
use mathlib.Core.Option.{some}
use lib.ListN.{get_elem?}
use Rattle.fm_words.specs.declared.shape.Shape.{Shape}
use Rattle.fm_base.specs.{declared.{caller.Caller.{Caller}, arena_id.ArenaId.{ArenaId}}, Calls.{Entry}, Finds.{Find, Close, Sweep}}
use Rattle.fm_base_machine.specs.{Functions.{Closes, Over, Machine}, Steps.{moved_by}}
use Rattle.fm_rule_facts.specs.{Hands.{Hand, IsTaker, Number}, Views.{View, In, limit_of}}
use Rattle.fm_rule_facts.specs.Facts.{PoolWords, free, shut, Shows, World, IsOnce, Owners, HasInHand, HasClose, Owns, Rule, IsAt, IsLone, HasSwept, HasPages, Work, Session, Pages}
use Rattle.fm_rule_facts.specs.Moves.{MayMake, NoEnd, StaysEnded, Moved, Same, KeepsCloses, KeepsSlots, KeepsHolds, Gives, MayLend, PagesMoved}
use Rattle.fm_rule_facts.{proofs.{Keeping.{closing_on, sweeping_on}, Frame.{was_over}, Founds.{NoneDrawn, NoDraw}, Gone.{none_founded}}, specs.Gone.{FoundBy}}
use Rattle.fm_rule_facts.specs.{Loans.{loans_of, Loan, loans_after}, Parts.{Mapping, Swept, unread, named, wiping}}
use Rattle.fm_rule_facts.proofs.Ruling.{AreLooked, unlooked, keeps_with}
use Rattle.fm_rule_steps.proofs.{Knowing.{own}, Staying.{hand_still, sweeps_still, pages_there, slots_still, numbers_stay, number_stays, same_but}}

module _ (z : Shape) (ws : List ℕ) (vs : List View) (r : Rule z ws vs) (me : ℕ) (v : View) (at : get_elem? vs me ≡ some v) (l : v.live ≡ true) where
  abbrev mine : Owns z r.history r.memory r.machine r.owners me v
  mine = own z ws vs r me v at l

  module _ (es : List Entry) (m' : PoolWords) (p : View) where
    -- what a step that leaves closes and slots may do to others
    pub plain_moved : MayMake (limit_of z) r.machine v.caller es → ((b : ArenaId) → NoEnd es b)
        → ((k : ℕ) → k ≢ v.caller.number → m'.marks k ≡ r.memory.marks k) → ((k : ℕ) → m'.numbers k ≡ r.memory.numbers k) → ((k : ℕ) → m'.terms k ≡ r.memory.terms k) → m'.draw ≡ r.memory.draw
        → ((s g : ℕ) → r.memory.sessions s ≡ free g → m'.sessions s ≡ free g) → m'.bits ≡ r.memory.bits
        → ((b : ArenaId) → r.machine.life b ≡ Over → r.memory.sessions b.slot ≡ shut b → StaysEnded r.memory m' b)
        → PagesMoved me r.machine.life r.memory.maps r.memory.cells r.owners.berth m'.maps m'.cells r.owners.berth
        → Moved me z v.caller r.memory r.machine r.owners es m' r.owners
    plain_moved ok ends marks numbers terms draw still bits ended pages = record {
      allowed = ok;
      marks = marks;
      callers = record { draw = draw; who = λ k. refl; rank = λ k. refl; seat = λ k. refl };
      numbers = record {
        owner = refl;
        bit = ap (λ (w : ℕ). bit_at w (v.caller.number % 64)) (numbers (v.caller.number / 64));
        term = terms v.caller.number;
        others = λ n b f. (refl, ap (λ (w : ℕ). bit_at w (n % 64)) (numbers (n / 64)) ∙ b, terms n);
      };
      closers = λ b f h. (refl, ends b);
      sweepers = λ b f h n. (refl, ended b f h);
      holders = λ s g f b h. (refl, still s g f, ap (λ (n : ℕ). bit_at n s) bits ∙ b, refl);
      taken = λ s k x. inl (record {
        taker = x.taker;
        generation = x.generation;
        session = still s x.generation x.session;
        left = x.left;
        bit = ap (λ (n : ℕ). bit_at n s) bits ∙ x.bit;
      });
      pages = pages;
    }

    -- and what its own view says then
    pub plain_work : MayMake (limit_of z) r.machine v.caller es → ((b : ArenaId) → NoEnd es b) → Same v p → p.closes ≡ v.closes → p.sweeps ≡ v.sweeps
        → p.hand ≡ v.hand → ((s g : ℕ) → r.memory.sessions s ≡ free g → m'.sessions s ≡ free g) → m'.bits ≡ r.memory.bits
        → ((b : ArenaId) → r.machine.life b ≡ Over → r.memory.sessions b.slot ≡ shut b → StaysEnded r.memory m' b)
        → (moved_by r.machine es).inside p.caller ≡ p.inside → m'.marks p.caller.number ≡ p.mark
        → HasPages z m'.maps m'.cells r.owners.berth me p.inside p.reads p.pages p.sweeps p.swept
        → Work z m' (moved_by r.machine es) r.owners me p
    plain_work ok ends s cl sw hd still bits ended inside mark pages = record {
      pages = pages;
      inside = inside;
      mark = mark;
      closes =
          λ c i. closing_on (limit_of z) r.history v.caller r.machine es ok me r.owners r.owners c (mine.work.closes c (subst (In c) cl i)) refl
          (ends c.arena);
      once = subst (IsOnce (λ (c : Close). c.arena)) (sym cl) mine.work.once;
      sweeps = λ c i.
          let y = mine.work.sweeps c (subst (In c) sw i) in
          sweeping_on (limit_of z) v.caller r.memory r.machine es m' ok (λ k b i. (r.world.marked k b i).stands) z me r.owners r.owners c y refl
          (ended c.arena y.life y.session);
      swept_once = subst (IsOnce (λ (c : Sweep). c.arena)) (sym sw) mine.work.swept_once;
      hand = subst (HasInHand z m'.bits m'.sessions r.owners.holder me) (sym hd) (hand_still z r.memory m' r.owners.holder me still bits v.hand mine.work.hand);
      took = subst (λ (x : Caller × Hand). IsTaker r.owners.taker x.0 x.1) (λ j. (sym s.caller j, sym hd j)) mine.work.took;
    }

    -- each free slot is where it was
    pub plain_slots : Same v p → p.hand ≡ v.hand → ((s g : ℕ) → m'.sessions s ≡ free g → r.memory.sessions s ≡ free g) → m'.bits ≡ r.memory.bits
        → KeepsSlots z me v p r.memory r.owners m' r.owners
    plain_slots s hd back bits = slots_still z me v p r.memory r.owners m' r.owners s hd (λ x. refl) back bits

    -- where no arena began to close, each close is where it was
    pub plain_closes : Same v p → p.closes ≡ v.closes → ((a : ArenaId) → (moved_by r.machine es).life a ≡ Closes → r.machine.life a ≡ Closes)
        → KeepsCloses me v p r.machine r.owners (moved_by r.machine es) r.owners
    plain_closes s cl was a h = inr (was a h, refl, λ (y : HasClose a v). (s.live ∙ y.0, (y.1.0, subst (In y.1.0) (sym cl) y.1.1, y.1.2)))

-- the rule after the word at i became x, and what is told by the step that makes p
abbrev pub Made : (z : Shape) (ws : List ℕ) (vs : List View) (me : ℕ) (v : View) (i x : ℕ) (p : View) (es : List Entry) (fs : ℕ → List Find) → Type 0
Made z ws vs me v i x p es fs = (w : View) × (rule : Rule z (set ws i x) (set vs me w)) × Gives v p es fs w × (w.seen ≡ rule.history)

-- entries of the caller c that end no arena and leave all loans, after which the machine is t'
pub record Calls (z : Shape) (h : List Entry) (t : Machine) (c : Caller) (es : List Entry) (t' : Machine) : Type 0 where
  pub may : MayMake (limit_of z) t c es
  pub ends : (b : ArenaId) → NoEnd es b
  pub lends : MayLend z t (loans_of h) es
  pub loans : loans_after (loans_of h) es ≡ loans_of h
  pub moves : moved_by t es ≡ t'
  pub life : t'.life ≡ t.life

-- there may be none
pub no_calls : {z : Shape} {h : List Entry} {t : Machine} {c : Caller} → Calls z h t c [] t
no_calls = record { may = tt; ends = λ b. tt; lends = tt; loans = refl; moves = refl; life = refl }

-- what a plain step leaves of the pool's words
pub record LeavesMemory (m m' : PoolWords) : Type 0 where
  pub numbers : (k : ℕ) → m'.numbers k ≡ m.numbers k
  pub terms : (k : ℕ) → m'.terms k ≡ m.terms k
  pub draw : m'.draw ≡ m.draw
  pub sessions : m'.sessions ≡ m.sessions
  pub bits : m'.bits ≡ m.bits
  pub maps : m'.maps ≡ m.maps

pub memory_left : {m : PoolWords} {marks : ℕ → Option ArenaId} {counts given : ℕ → ℕ} {cells : ℕ → ℕ → ℕ}
    → LeavesMemory m (record m { marks = marks; counts = counts; given = given; cells = cells })
memory_left = record { numbers = λ k. refl; terms = λ k. refl; draw = refl; sessions = refl; bits = refl; maps = refl }

-- what is in the pass's hand and what it has under way
abbrev pub hand_of : View → Number × List Close × Hand × List Sweep × List ℕ × Swept
hand_of v = (v.number, v.closes, v.hand, v.sweeps, v.pages, v.swept)

-- and of its view
pub record LeavesView (v p : View) : Type 0 where
  pub same : Same v p
  pub hand : hand_of p ≡ hand_of v

pub view_left : {v : View} {inside mark : Option ArenaId} {holds handles : List ArenaId} {reads : List Mapping}
    → LeavesView v (record v { inside = inside; mark = mark; holds = holds; handles = handles; reads = reads })
view_left = record { same = same_but; hand = refl }

-- and of words of arenas that others may have: given words of ended arenas, and the pages that somebody has
pub record LeavesWords (m m' : PoolWords) (t : Machine) (o : Owners) : Type 0 where
  pub given : (b : ArenaId) → t.life b ≡ Over → m.sessions b.slot ≡ shut b → m'.given b.slot ≡ m.given b.slot
  pub cells : (p j : ℕ) → IsAt j (o.berth p) → (w : ℕ) → m'.cells p w ≡ m.cells p w

pub words_left : {m : PoolWords} {t : Machine} {o : Owners} {marks : ℕ → Option ArenaId} {counts : ℕ → ℕ}
    → LeavesWords m (record m { marks = marks; counts = counts }) t o
words_left = record { given = λ b o f. refl; cells = λ p j b w. refl }

-- all that a plain step leaves
pub record Leaves (v p : View) (m m' : PoolWords) (t : Machine) (o : Owners) : Type 0 where
  pub memory : LeavesMemory m m'
  pub view : LeavesView v p
  pub words : LeavesWords m m' t o

pub all_left : {v : View} {inside mark : Option ArenaId} {holds handles : List ArenaId} {reads : List Mapping} {m : PoolWords} {t : Machine} {o : Owners}
    {marks : ℕ → Option ArenaId} {counts : ℕ → ℕ}
    → Leaves v (record v { inside = inside; mark = mark; holds = holds; handles = handles; reads = reads }) m
    (record m { marks = marks; counts = counts }) t o
all_left = record { memory = memory_left; view = view_left; words = words_left }

-- what a plain step does to the pool's words, the machine and its view
pub record Plain (z : Shape) (ws : List ℕ) (vs : List View) (r : Rule z ws vs) (v : View) (i x : ℕ) (p : View) (es : List Entry) (m' : PoolWords) (t' : Machine)
    : Type 0 where
  pub calls : Calls z r.history r.machine v.caller es t'
  pub leaves : Leaves v p r.memory m' r.machine r.owners
  pub pages : Pages z (loans_of r.history) m'.page_bits m'.maps m'.cells r.owners.berth m'.sessions t'.life t'.word t'.given
  pub marks : (k : ℕ) → k ≢ v.caller.number → m'.marks k ≡ r.memory.marks k
  pub reads : (a : ArenaId) → p.inside ≡ Some a → (x : Mapping) → In x p.reads → (v.inside ≡ Some a) × In x v.reads
  pub holds : KeepsHolds v p r.machine t'
  pub shows : Shows z (set ws i x) m'
  pub world : World z m' t'
  pub inside : t'.inside p.caller ≡ p.inside
  pub mark : m'.marks p.caller.number ≡ p.mark

-- what a seat knows of pages that stay
plain_pages : (z : Shape) (m m' : PoolWords) (o : Owners) (me : ℕ) (v p : View) → HasPages z m.maps m.cells o.berth me v.inside v.reads v.pages v.sweeps v.swept
    → m'.maps ≡ m.maps → ((p j : ℕ) → IsAt j (o.berth p) → (w : ℕ) → m'.cells p w ≡ m.cells p w)
    → ((a : ArenaId) → p.inside ≡ Some a → (x : Mapping) → In x p.reads → (v.inside ≡ Some a) × In x v.reads)
    → p.pages ≡ v.pages → p.sweeps ≡ v.sweeps → p.swept ≡ v.swept
    → HasPages z m'.maps m'.cells o.berth me p.inside p.reads p.pages p.sweeps p.swept
plain_pages z m m' o me v p k maps cells reads paged sweeps swept = record {
  read = λ a e x i. let y = reads a e x i in (λ j. maps j a.slot x.part) ∙ k.read a y.0 x y.1;
  claims = λ q i. k.claims q (subst (In q) paged i);
  lone = subst IsLone (sym paged) k.lone;
  sweep = subst (λ (x : List Sweep × Swept). HasSwept z m'.maps m'.cells o.berth me x.0 x.1) (λ j. (sym sweeps j, sym swept j)) (go v.swept k.sweep);
}
  where
    go : (s : Swept) → HasSwept z m.maps m.cells o.berth me v.sweeps s → HasSwept z m'.maps m'.cells o.berth me v.sweeps s
    go unread h = tt
    go (named a i q) h = (h.0, (λ j. maps j a.slot i) ∙ h.1)
    go (wiping a i q w) h = record {
      next = h.next;
      owner = h.owner;
      empty = (λ j. maps j a.slot i) ∙ h.empty;
      wiped = λ n l b. cells q me (subst (IsAt me) (sym h.owner) refl) n ∙ h.wiped n l b;
    }

module _ (z : Shape) (ws : List ℕ) (vs : List View) (r : Rule z ws vs) (me : ℕ) (v : View) (at : get_elem? vs me ≡ some v) (l : v.live ≡ true) (i x : ℕ)
    (p : View) (es : List Entry) (fs : ℕ → List Find) where
  pub plain_with : NoneDrawn fs → ((f : Find) → In f (fs (length r.history)) → FoundBy z r.history r.memory r.owners.taker r.machine.life v.caller f)
      → AreLooked r v fs → (m' : PoolWords) (t' : Machine) → Plain z ws vs r v i x p es m' t' → Made z ws vs me v i x p es fs
  plain_with nd new looks m' t' q =
      let c = q.calls in
      let m = q.leaves.memory in
      let u = q.leaves.view in
      let shown : (s : ℕ) (y : Session) → r.memory.sessions s ≡ y → m'.sessions s ≡ y = (λ s y f. (λ j. m.sessions j s) ∙ f) in
      let back : (s : ℕ) (y : Session) → m'.sessions s ≡ y → r.memory.sessions s ≡ y = (λ s y f. (λ j. sym m.sessions j s) ∙ f) in
      let still : (s g : ℕ) → r.memory.sessions s ≡ free g → m'.sessions s ≡ free g = (λ s g. shown s (free g)) in
      let was : (a : ArenaId) → (moved_by r.machine es).life a ≡ Closes → r.machine.life a ≡ Closes =
      (λ a h. sym (ap (λ (t : Machine). t.life a) c.moves ∙ (λ j. c.life j a)) ∙ h) in
      let ended : (b : ArenaId) → r.machine.life b ≡ Over → r.memory.sessions b.slot ≡ shut b → StaysEnded r.memory m' b =
      (λ b o f. record { session = shown b.slot (shut b) f; maps = λ i j. m.maps j b.slot i; given = q.leaves.words.given b o f }) in
      let d = plain_moved z ws vs r me v at l es m' p c.may c.ends q.marks m.numbers m.terms m.draw still m.bits ended (record {
        others = λ c j b h. (refl, q.leaves.words.cells c j b);
        stay = λ b c n st e. (λ k. m.maps k b.slot c) ∙ e;
      }) in
      keeps_with z ws (set ws i x) vs r me v p es fs m' r.owners at l d
      u.same nd new looks c.lends
      (subst (λ (x : List Loan × Machine). Pages z x.0 m'.page_bits m'.maps m'.cells r.owners.berth m'.sessions x.1.life x.1.word x.1.given)
      (λ j. (sym c.loans j, sym c.moves j)) q.pages)
      (plain_closes z ws vs r me v at l es m' p u.same (λ j. (u.hand j).1) was)
      (sweeps_still me v p r.memory r.machine r.owners m' (moved_by r.machine es) r.owners u.same (λ j. (u.hand j).3) (λ a h. refl)
      (λ a f h. (back a.slot (shut a) f, was_over a es r.machine (c.ends a) h)))
      (plain_slots z ws vs r me v at l es m' p u.same (λ j. (u.hand j).2) (λ s g. back s (free g)) m.bits)
      (pages_there me r.owners v p u.same (λ j. (u.hand j).4) (λ j. (u.hand j).5))
      (subst (KeepsHolds v p r.machine) (sym c.moves) q.holds)
      (numbers_stay z ws vs r me v at l es m' r.owners p d u.same (λ j. (u.hand j).0) m.numbers m.terms (λ n. refl))
      q.shows
      (subst (World z m') (sym c.moves) q.world)
      (plain_work z ws vs r me v at l es m' p c.may c.ends u.same (λ j. (u.hand j).1) (λ j. (u.hand j).3) (λ j. (u.hand j).2)
      still m.bits ended (ap (λ (t : Machine). t.inside p.caller) c.moves ∙ q.inside) q.mark
      (plain_pages z r.memory m' r.owners me v p (own z ws vs r me v at l).work.pages m.maps
      q.leaves.words.cells q.reads (λ j. (u.hand j).4) (λ j. (u.hand j).3) (λ j. (u.hand j).5)))
      (number_stays z ws vs r me v at l es m' r.owners p d u.same (λ j. (u.hand j).0) m.numbers m.terms (λ n. refl))

  -- where no slot was looked for
  pub plain : NoDraw fs → (m' : PoolWords) (t' : Machine) → Plain z ws vs r v i x p es m' t' → Made z ws vs me v i x p es fs
  plain nd =
      plain_with (λ n f i. let y = nd n f i in (y.0, y.1))
      (none_founded z r.history r.memory r.owners.taker r.machine.life v.caller fs (λ n f i. let y = nd n f i in (y.2, y.3)) (length r.history))
      (unlooked r v fs (λ n f i. (nd n f i).4))
