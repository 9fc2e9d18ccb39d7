-- The rule over the making of notes and their being met.
use Rattle.std.proofs.Common.{◌<◌, ◌≡◌, ◌≢◌, ◌⊎◌, ℕ, zero, suc, Bool, if◌then◌else◌, arith, ◌∙◌, List, [], ◌∷◌, ◌++◌, length, set, sym, refl, ap, subst, inl, inr, ⊎_elim}
use Rattle.std.specs.Int.{bit_at}
use mathlib.Core.Option.{some, some-injective, some-ne-none}
use lib.ListN.{get_elem?}
use Rattle.atomic_table.proofs.Lists.{at_set, at_longer}
use Rattle.fm_words.specs.declared.shape.Shape.{Shape}
use Rattle.fm_base.specs.{declared.{arena_id.ArenaId.{ArenaId}, caller.Caller.{Caller}}, Finds.{Gathered}}
use Rattle.fm_base_machine.specs.Functions.{Closes, Over}
use Rattle.fm_rule_facts.specs.{Views.{Met, View, In, all_gathered, brought}, Splits.{note, met, nothing_seen, IsBare}}
use Rattle.fm_rule_facts.specs.Facts.{free, shut, HasDraw, HasClose, HasSweep, KeepsSlot, Somewhere, Begins, Knows, Rule, IsCounted, Berth, loose, claimed, mapped, unmapped, IsAt, HasPage, WasDrawn, bit_of, KeepsCaller, KeepsNumber, WantsNumber, IsLooked, IsUsed, Shows, wanted, IsSpent}
use Rattle.fm_rule_facts.{specs.Holds.{grips, holds_of, how_many, total}, proofs.{Ruling.{page_like}, Handing.{hand_view}, Looking.{looked_on, looked_bare}}}
use Rattle.fm_rule_facts.{proofs.{Founds.{counted_bare}, Gone.{founded_bare}, Keeping.{stays_somewhere}}, specs.Gone.{IsFounded}}
use Rattle.fm_rule_facts.proofs.{Summing.{total-set, total-snoc}, Working.{work_as}}

at_end : {A : Type 0} (l : List A) (a b : A) (j : ℕ) → get_elem? (l ++ a ∷ []) j ≡ some b → (get_elem? l j ≡ some b) ⊎ ((j ≡ length l) × (a ≡ b))
at_end [] a b zero e = inr (refl, some-injective a b e)
at_end [] a b (suc j) e = absurd (some-ne-none b (sym e))
at_end (x ∷ xs) a b zero e = inl e
at_end (x ∷ xs) a b (suc j) e = ⊎_elim inl (λ (t : (j ≡ length xs) × (a ≡ b)). inr (ap suc t.0, t.1)) (at_end xs a b j e)

-- what holds of each view after one was changed
pub views_set : (vs : List View) (i : ℕ) (w : View) (P : ℕ → View → Type 0) → P i w → ((j : ℕ) (u : View) → j ≢ i → get_elem? vs j ≡ some u → P j u)
    → (j : ℕ) (u : View) → get_elem? (set vs i w) j ≡ some u → P j u
views_set vs i w P here others j u e = ⊎_elim
    (λ (s : (j ≡ i) × (w ≡ u)). subst (λ (x : ℕ × View). P x.0 x.1) (λ k. (sym s.0 k, s.1 k)) here)
    (λ (s : (j ≢ i) × (get_elem? vs j ≡ some u)). others j u s.0 s.1)
    (at_set vs i j w u e)

-- and after one was added
pub views_on : (vs : List View) (w : View) (P : ℕ → View → Type 0) → P (length vs) w → ((j : ℕ) (u : View) → get_elem? vs j ≡ some u → P j u)
    → (j : ℕ) (u : View) → get_elem? (vs ++ w ∷ []) j ≡ some u → P j u
views_on vs w P here others j u e = ⊎_elim
    (others j u)
    (λ (s : (j ≡ length vs) × (w ≡ u)). subst (λ (x : ℕ × View). P x.0 x.1) (λ k. (sym s.0 k, s.1 k)) here)
    (at_end vs w u j e)

pub on_longer : (vs : List View) (w : View) (i : ℕ) (P : View → Type 0) → Somewhere vs i P → Somewhere (vs ++ w ∷ []) i P
on_longer vs w i P s = record { view = s.view; there = at_longer vs (w ∷ []) i s.view s.there; holds = s.holds }

-- what the rule says somewhere of
pub data Said : (View → Type 0) → Type 1 where
  caller : (c : Caller) → Said (KeepsCaller c)
  draw : (d c : Caller) → Said (HasDraw d c)
  number : (n : ℕ) → Said (KeepsNumber n)
  close : (a : ArenaId) → Said (HasClose a)
  sweep : (a : ArenaId) → Said (HasSweep a)
  slot : (s : ℕ) → Said (KeepsSlot s)
  page : (q : ℕ) (b : Berth) → Said (HasPage q b)
  want : (n : ℕ) → Said (WantsNumber n)

-- the rule with other views, and other seats for callers and numbers
unfoldable pub with_owners : (z : Shape) (ws xs : List ℕ) (vs us : List View) (r : Rule z ws vs) → xs ≡ ws → (f : Caller → ℕ) (g : ℕ → ℕ)
    → ((c : Caller) → WasDrawn r.memory.draw r.owners.who r.owners.rank c → Somewhere us (f c) (KeepsCaller c))
    → ((k : ℕ) → 0 < k → k < r.memory.draw
    → (d : ℕ) × (d < k) × Somewhere us (f (r.owners.who d)) (HasDraw (r.owners.who d) (r.owners.who k)))
    → ((n : ℕ) → n < z.passes → bit_of r.memory.numbers n ≡ 0 → Somewhere us (g n) (KeepsNumber n) ⊎ IsSpent r.memory r.owners n)
    → ((a : ArenaId) → r.machine.life a ≡ Closes → Somewhere us (r.owners.closer a) (HasClose a))
    → ((a : ArenaId) → r.memory.sessions a.slot ≡ shut a → r.machine.life a ≡ Over → Somewhere us (r.owners.closer a) (HasSweep a))
    → ((s g : ℕ) → s < z.slots → r.memory.sessions s ≡ free g → g < z.generations → bit_at r.memory.bits s ≡ 0 → Somewhere us (r.owners.holder s) (KeepsSlot s))
    → ((q j : ℕ) → IsAt j (r.owners.berth q) → Somewhere us j (HasPage q (r.owners.berth q)))
    → ((j : ℕ) (u : View) → get_elem? us j ≡ some u → Knows z r.history r.memory r.machine (record r.owners { seat = f; number = g }) j u)
    → ((j : ℕ) (u : View) → get_elem? us j ≡ some u → IsCounted r.memory.draw r.owners.who r.owners.rank u)
    → ((j : ℕ) (u : View) → get_elem? us j ≡ some u → IsFounded z r.history r.memory r.owners.taker r.machine.life u)
    → ((j : ℕ) (u : View) → get_elem? us j ≡ some u → IsLooked z r.memory r.owners vs u)
    → ((before : List Gathered) → ((x : Gathered) → In x before → WasDrawn r.memory.draw r.owners.who r.owners.rank x.caller) → (n : ℕ)
    → Somewhere vs (r.owners.number n) (WantsNumber n) → IsUsed r.memory (record r.owners { seat = f; number = g }) us before n)
    → ((a : ArenaId) → total (holds_of a) us ≡ total (holds_of a) vs) → Rule z xs us
with_owners z ws xs vs us r words f g callers drawers numbers closed swept slots berths each counted founded looked wants same = record {
  history = r.history;
  memory = r.memory;
  machine = r.machine;
  owners = record r.owners { seat = f; number = g };
  valid = r.valid;
  legal = r.legal;
  rightly = r.rightly;
  within = r.within;
  pages = r.pages;
  depicts = r.depicts;
  shows = subst (λ (l : List ℕ). Shows z l r.memory) (sym words) r.shows;
  world = r.world;
  few = r.few;
  begun = r.begun;
  first = r.first;
  ranks = r.ranks;
  later = r.later;
  terms = r.terms;
  last = r.last;
  used = r.used;
  callers = callers;
  drawers = drawers;
  free_numbers = λ n b. let y = r.free_numbers n b in record { mark = y.mark; fresh = y.fresh };
  numbers = λ n l b. ⊎_elim inl (λ (y : IsSpent r.memory r.owners n). inr (record { mark = y.mark; last = y.last; drawn = y.drawn })) (numbers n l b);
  closed = closed;
  swept = swept;
  slots = slots;
  berths = berths;
  held = λ a. same a ∙ r.held a;
  each = each;
  counted = counted;
  founds = founded;
  looked = λ j u e. looked_on z r.memory r.owners vs r.memory (record r.owners { seat = f; number = g }) us (λ c q. q) (λ q. q)
      wants u (looked j u e);
}

-- the rule with other views, which say all that the views before said
with_views : (z : Shape) (ws : List ℕ) (vs us : List View) (r : Rule z ws vs) → ((i : ℕ) (P : View → Type 0) → Said P → Somewhere vs i P → Somewhere us i P)
    → ((j : ℕ) (u : View) → get_elem? us j ≡ some u → Knows z r.history r.memory r.machine r.owners j u)
    → ((j : ℕ) (u : View) → get_elem? us j ≡ some u → IsCounted r.memory.draw r.owners.who r.owners.rank u)
    → ((j : ℕ) (u : View) → get_elem? us j ≡ some u → IsFounded z r.history r.memory r.owners.taker r.machine.life u)
    → ((j : ℕ) (u : View) → get_elem? us j ≡ some u → IsLooked z r.memory r.owners vs u)
    → ((a : ArenaId) → total (holds_of a) us ≡ total (holds_of a) vs) → Rule z ws us
with_views z ws vs us r on each counted founded looked same =
    with_owners z ws ws vs us r refl r.owners.seat r.owners.number
    (λ c h. on (r.owners.seat c) (KeepsCaller c) (caller c) (r.callers c h))
    (λ k i h.
    let y = r.drawers k i h in
    let a : Caller = r.owners.who y.0 in
    let b : Caller = r.owners.who k in
    (y.0, y.1, on (r.owners.seat a) (HasDraw a b) (draw a b) y.2))
    (λ n l b. ⊎_elim (λ (y : Somewhere vs (r.owners.number n) (KeepsNumber n)). inl (on (r.owners.number n) (KeepsNumber n) (number n) y)) inr (r.numbers n l b))
    (λ a h. on (r.owners.closer a) (HasClose a) (close a) (r.closed a h))
    (λ a h o. on (r.owners.closer a) (HasSweep a) (sweep a) (r.swept a h o))
    (λ s g h f left b. on (r.owners.holder s) (KeepsSlot s) (slot s) (r.slots s g h f left b))
    (λ q j b. on j (HasPage q (r.owners.berth q)) (page q (r.owners.berth q)) (r.berths q j b))
    each counted founded looked (λ b q n y. wanted (on (r.owners.number n) (WantsNumber n) (want n) y)) same

-- a note of a view is made
pub note_splits : (z : Shape) (ws : List ℕ) (vs : List View) (r : Rule z ws vs) (id : ℕ) (v : View) → get_elem? vs id ≡ some v
    → Rule z ws (set vs id v ++ note v ∷ [])
note_splits z ws vs r id v at =
    let k = r.each id v at in
    let K : ℕ → View → Type 0 = Knows z r.history r.memory r.machine r.owners in
    with_views z ws vs (set vs id v ++ note v ∷ []) r
    (λ i P s y. on_longer (set vs id v) (note v) i P (stays_somewhere vs id v v i P at (λ q. q) y))
    (views_on (set vs id v) (note v) K
    (record { shape = λ q. absurd (cc); begins = k.begins; met = λ xs i. absurd i; owns = λ q. absurd (cc) })
    (views_set vs id v K k (λ j u n e. r.each j u e)))
    (views_on (set vs id v) (note v) (λ j u. IsCounted r.memory.draw r.owners.who r.owners.rank u) (counted_bare r.memory.draw r.owners.who r.owners.rank (note v) refl refl)
    (views_set vs id v (λ j u. IsCounted r.memory.draw r.owners.who r.owners.rank u) (r.counted id v at) (λ j u n e. r.counted j u e)))
    (views_on (set vs id v) (note v) (λ j u. IsFounded z r.history r.memory r.owners.taker r.machine.life u)
    (founded_bare z r.history r.memory r.owners.taker r.machine.life (note v) refl refl)
    (views_set vs id v (λ j u. IsFounded z r.history r.memory r.owners.taker r.machine.life u) (r.founds id v at) (λ j u n e. r.founds j u e)))
    (views_on (set vs id v) (note v) (λ j u. IsLooked z r.memory r.owners vs u) (looked_bare z r.memory r.owners vs (note v) refl refl)
    (views_set vs id v (λ j u. IsLooked z r.memory r.owners vs u) (r.looked id v at) (λ j u n e. r.looked j u e)))
    (λ a.
    let x = total-snoc (holds_of a) (set vs id v) (note v) in
    let y = total-set (holds_of a) vs id v v at in
    let none : holds_of a (note v) ≡ 0 = refl in
    omega arith)

pub there_before : (vs : List View) (id other : ℕ) (b w : View) → ¬ (other ≡ id) → get_elem? (set vs id b) other ≡ some w → get_elem? vs other ≡ some w
there_before vs id other b w n e =
    ⊎_elim (λ (s : (other ≡ id) × (b ≡ w)). absurd (n s.0)) (λ (s : (other ≢ id) × (get_elem? vs other ≡ some w)). s.1) (at_set vs id other b w e)

bare_none : (w : View) → IsBare w → all_gathered w ≡ []
bare_none w b = λ j. b.gathered j ++ brought (b.met j)

-- a bare view says nothing
bare_says : (w u : View) → IsBare w → (P : View → Type 0) → Said P → P w → P u
bare_says w u b _ (caller n) (inl h) = let l = b.live in let q = h.0 in absurd (cc)
bare_says w u b _ (caller n) (inr (inl h)) = let l = b.number in absurd (cc)
bare_says w u b _ (caller n) (inr (inr h)) = absurd (subst (In h.0) (bare_none w b) h.1)
bare_says w u b _ (draw d n) (inl h) = let l = b.live in let q = h.0 in absurd (cc)
bare_says w u b _ (draw d n) (inr h) = absurd (subst (In h.0) (bare_none w b) h.1)
bare_says w u b _ (number n) h = let l = b.live in let q = h.0 in absurd (cc)
bare_says w u b _ (close a) h = let l = b.live in let q = h.0 in absurd (cc)
bare_says w u b _ (sweep a) h = let l = b.live in let q = h.0 in absurd (cc)
bare_says w u b _ (slot s) h = let l = b.live in let q = h.0 in absurd (cc)
bare_says w u b _ (page q loose) h = h
bare_says w u b _ (page q (claimed j)) h = let l = b.live in let q = h.0 in absurd (cc)
bare_says w u b _ (page q (mapped k i)) h = h
bare_says w u b _ (page q (unmapped j a i)) h = let l = b.live in let q = h.0 in absurd (cc)
bare_says w u b _ (want n) h = let l = b.live in let q = h.0 in absurd (cc)

-- having met another changes nothing that is said
met_says : (v w : View) (P : View → Type 0) → Said P → P v → P (met v w)
met_says v w _ (caller c) h = h
met_says v w _ (draw d n) h = h
met_says v w _ (number n) h = h
met_says v w _ (close a) h = h
met_says v w _ (sweep a) h = h
met_says v w _ (slot s) h = h
met_says v w _ (page q b) h = page_like q b v (met v w) refl refl refl h
met_says v w _ (want n) h = h

counted_met : (d : ℕ) (who : ℕ → Caller) (rank : Caller → ℕ) (v w : View) → IsCounted d who rank v → IsCounted d who rank (met v w)
counted_met d who rank v w c = record { finds = c.finds; theirs = c.theirs }

-- a note is met
pub meet_joins : (z : Shape) (ws : List ℕ) (vs : List View) (r : Rule z ws vs) (id : ℕ) (v : View) (other : ℕ) (w : View) → get_elem? vs id ≡ some v
    → ¬ (other ≡ id) → get_elem? (set vs id (met v w)) other ≡ some w
    → IsBare w → Rule z ws (set (set vs id (met v w)) other nothing_seen)
meet_joins z ws vs r id v other w at n at' bare =
    let k = r.each id v at in
    let there = there_before vs id other (met v w) w n at' in
    let kw = r.each other w there in
    let K : ℕ → View → Type 0 = Knows z r.history r.memory r.machine r.owners in
    with_views z ws vs (set (set vs id (met v w)) other nothing_seen) r
    (λ i P s y. stays_somewhere (set vs id (met v w)) other w nothing_seen i P at' (bare_says w nothing_seen bare P s)
    (stays_somewhere vs id v (met v w) i P at (met_says v w P s) y))
    (views_set (set vs id (met v w)) other nothing_seen K
    (record { shape = λ q. absurd (cc); begins = (r.history, refl); met = λ xs i. absurd i; owns = λ q. absurd (cc) })
    (λ j u far e. views_set vs id (met v w) K
    (record {
      shape = k.shape;
      begins = k.begins;
      met = λ x. ⊎_elim
          (λ (p : x ≡ record { seen = w.seen; gathered = [] }). subst (λ (q : Met). Begins q.seen r.history) (sym p) kw.begins)
          (λ (p : In x v.met). k.met x p);
      owns = λ q. let x = k.owns q in record {
        drawn = x.drawn;
        term = x.term;
        seated = x.seated;
        owner = x.owner;
        bit = x.bit;
        mine = x.mine;
        work = work_as x.work;
        gathered =
            λ g i. let y =
            x.gathered g i in record { drawn = y.drawn; seated = y.seated; apart = y.apart; outside = y.outside; quiet = y.quiet };
        coming = λ c. ⊎_elim
            (λ (p : c ≡ record { seen = w.seen; gathered = [] }) g i. absurd (subst (λ (q : Met). In g q.gathered) p i))
            (λ (p : In c v.met) g i.
            let y = x.coming c p g i in
            record { drawn = y.drawn; seated = y.seated; apart = y.apart; outside = y.outside; quiet = y.quiet });
        one_each = x.one_each;
        number = hand_view z r.history r.memory r.machine r.owners id v (met v w) refl (λ g i. i) (λ g i. i) v.number x.number;
        not_own = x.not_own;
        whole = x.whole;
        handles = x.handles;
        seen_all = x.seen_all;
      };
    })
    (λ j' u' n' e'. r.each j' u' e') j u e))
    (views_set (set vs id (met v w)) other nothing_seen (λ j u. IsCounted r.memory.draw r.owners.who r.owners.rank u) (counted_bare r.memory.draw r.owners.who r.owners.rank nothing_seen refl refl)
    (λ j u far e. views_set vs id (met v w) (λ j u. IsCounted r.memory.draw r.owners.who r.owners.rank u) (counted_met r.memory.draw r.owners.who r.owners.rank v w (r.counted id v at))
    (λ j' u' n' e'. r.counted j' u' e') j u e))
    (views_set (set vs id (met v w)) other nothing_seen (λ j u. IsFounded z r.history r.memory r.owners.taker r.machine.life u)
    (founded_bare z r.history r.memory r.owners.taker r.machine.life nothing_seen refl refl)
    (λ j u far e. views_set vs id (met v w) (λ j u. IsFounded z r.history r.memory r.owners.taker r.machine.life u)
    (let y = r.founds id v at in record { finds = y.finds; theirs = y.theirs })
    (λ j' u' n' e'. r.founds j' u' e') j u e))
    (views_set (set vs id (met v w)) other nothing_seen (λ j u. IsLooked z r.memory r.owners vs u)
    (looked_bare z r.memory r.owners vs nothing_seen refl refl)
    (λ j u far e. views_set vs id (met v w) (λ j u. IsLooked z r.memory r.owners vs u)
    (let y = r.looked id v at in record { few = y.few; finds = y.finds; theirs = y.theirs })
    (λ j' u' n' e'. r.looked j' u' e') j u e))
    (λ a.
    let x = total-set (holds_of a) vs id v (met v w) at in
    let y = total-set (holds_of a) (set vs id (met v w)) other w nothing_seen at' in
    let here : holds_of a (met v w) ≡ holds_of a v = refl in
    let there : holds_of a w ≡ 0 = ap (λ (b : Bool). if b then how_many a (grips a w) else 0) bare.live in
    let none : holds_of a nothing_seen ≡ 0 = refl in
    omega arith)
