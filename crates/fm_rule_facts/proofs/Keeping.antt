-- A step keeps the rule, and tells its caller what others did.
use Rattle.std.proofs.Common.{◌≡◌, ◌≢◌, ◌⊎◌, ℕ, zero, suc, true, List, [], ◌∷◌, ◌++◌, set, sym, refl, ap, ◌∙◌, subst, arith, inl, inr, ⊎_elim, append_assoc, Some}
use Rattle.std.proofs.lemmas.List.{append-nil, Elements.{filter-append}}
use mathlib.Core.Logic.{dite}
use native.Mathlib.Decide.{ℕ_discrete}
use mathlib.Core.Option.{some, some-injective, some-ne-none}
use lib.ListN.{get_elem?}
use Rattle.atomic_table.proofs.Lists.{set_else}
use Rattle.fm_words.specs.declared.shape.Shape.{Shape}
use Rattle.fm_base.specs.{declared.{caller.Caller.{Caller}, arena_id.ArenaId.{ArenaId}}, Calls.{Entry}, Histories.{made_by}, Finds.{Gathered, Close, Sweep}}
use Rattle.fm_base_machine.specs.{Functions.{Machine}, Steps.{moved_by}}
use Rattle.fm_rule_facts.specs.{Views.{Met, View, In, all_gathered, brought, limit_of}, Parts.{Swept, unread, named, wiping}}
use Rattle.fm_rule_facts.specs.Facts.{PoolWords, Owners, IsStanding, IsAt, IsNext, HasSwept, HasPages, IsClosing, IsSweeping, IsGathered, IsSilent, Begins, Somewhere, Owns, Knows, WasDrawn, bit_of, next_of, IsLoose, IsUndrawn, HasNumberInHand}
use Rattle.fm_rule_facts.specs.Moves.{MayMake, NoEnd, StaysEnded, Moved}
use Rattle.fm_rule_facts.proofs.{Frame.{others_stay, none_come, still_closing, still_over, still_given, made_by-other}, Sessions.{unstanding}}
use Rattle.fm_rule_facts.specs.Hands.{Number, no_number, number_taken, number_learnt, number_drawn, number_left, number_joined, most_draws}
use Rattle.fm_rule_facts.{proofs.Handing.{hand_on, took_on}, specs.Splits.{as_gathered, gather}}

-- ---- lists

-- what is added to a list that stays as it is is nothing
pub none_added : {A : Type 0} (xs ys : List A) → xs ++ ys ≡ xs → ys ≡ []
none_added [] ys e = e
none_added (x ∷ xs) ys e = none_added xs ys (cc)

-- who made nothing but what was seen made nothing of what came
pub silent_since : (c : Caller) (seen zs : List Entry) {h : List Entry} → h ≡ seen ++ zs → made_by c h ≡ made_by c seen → made_by c zs ≡ []
silent_since c seen zs is same = none_added (made_by c seen) (made_by c zs) (sym (filter-append _ seen zs) ∙ (ap (made_by c) (sym is) ∙ same))

pub set_there : {A : Type 0} (l : List A) (i : ℕ) (a b : A) → get_elem? l i ≡ some a → get_elem? (set l i b) i ≡ some b
set_there [] i a b e = absurd (some-ne-none a (sym e))
set_there (x ∷ xs) zero a b e = refl
set_there (x ∷ xs) (suc i) a b e = set_there xs i a b e

pub in_left : {A : Type 0} (x : A) (xs ys : List A) → In x xs → In x (xs ++ ys)
in_left x [] ys i = absurd i
in_left x (y ∷ xs) ys (inl e) = inl e
in_left x (y ∷ xs) ys (inr i) = inr (in_left x xs ys i)

pub stays_somewhere : (vs : List View) (me : ℕ) (v w : View) (i : ℕ) (P : View → Type 0) → get_elem? vs me ≡ some v → (P v → P w) → Somewhere vs i P
    → Somewhere (set vs me w) i P
stays_somewhere vs me v w i P at f s = dite (ℕ_discrete i me)
    (λ e. record {
      view = w;
      there = ap (get_elem? (set vs me w)) e ∙ set_there vs me v w at;
      holds = f (subst P (some-injective s.view v (sym s.there
          ∙ (ap (get_elem? vs) e ∙ at))) s.holds);
    })
    (λ n. record { view = s.view; there = set_else vs me i w n ∙ s.there; holds = s.holds })

pub begins_on : (xs h es : List Entry) → Begins xs h → Begins xs (h ++ es)
begins_on xs h es b = (b.0 ++ es, ap (λ (l : List Entry). l ++ es) b.1 ∙ append_assoc xs b.0 es)

-- ---- gathered callers

pub in_append : {A : Type 0} (x : A) (xs ys : List A) → In x (xs ++ ys) → In x xs ⊎ In x ys
in_append x [] ys i = inr i
in_append x (y ∷ xs) ys (inl e) = inl (inl e)
in_append x (y ∷ xs) ys (inr i) = ⊎_elim (λ j. inl (inr j)) inr (in_append x xs ys i)

pub in_right : {A : Type 0} (x : A) (xs ys : List A) → In x ys → In x (xs ++ ys)
in_right x [] ys i = i
in_right x (y ∷ xs) ys i = inr (in_right x xs ys i)

-- a caller that was brought came with one that was met
pub in_brought : (g : Gathered) (xs : List Met) → In g (brought xs) → (x : Met) × In x xs × In g x.gathered
in_brought g [] i = absurd i
in_brought g (x ∷ xs) i = ⊎_elim
    (λ (j : In g x.gathered). (x, inl refl, j))
    (λ (j : In g (brought xs)). let y = in_brought g xs j in (y.0, inr y.1, y.2))
    (in_append g x.gathered (brought xs) i)

-- what holds of each that was gathered into two passes, and of the other's own caller, holds of each once the other is gathered into the one
pub all_gather : (v w : View) (P : Gathered → Type 0) → ((g : Gathered) → In g (all_gathered v) → P g) → ((g : Gathered) → In g (all_gathered w) → P g)
    → P (as_gathered w) → (g : Gathered) → In g (all_gathered (gather v w)) → P g
all_gather v w P mine theirs own g j = ⊎_elim
    (λ (k : In g v.gathered). mine g (in_left g v.gathered (brought v.met) k))
    (λ (k : In g ((as_gathered w ∷ w.gathered) ++ brought v.met)).
    ⊎_elim comes (λ (q : In g (brought v.met)). mine g (in_right g v.gathered (brought v.met) q))
    (in_append g (as_gathered w ∷ w.gathered) (brought v.met) k))
    (in_append g v.gathered ((as_gathered w ∷ w.gathered) ++ brought v.met) j)
  where
    comes : In g (as_gathered w ∷ w.gathered) → P g
    comes (inl q) = subst P (sym q) own
    comes (inr i) = theirs g (in_left g w.gathered (brought w.met) i)

module _ (z : Shape) (h : List Entry) (m : PoolWords) (t : Machine) (o : Owners) (j : ℕ) (v : View) (k : Owns z h m t o j v) where
  -- each of them was gathered when something was seen
  pub gathered_all : (g : Gathered) → In g (all_gathered v) → (xs : List Entry) × IsGathered h m t o j v xs g
  gathered_all g i = ⊎_elim
      (λ (i : In g v.gathered). (v.seen, k.gathered g i))
      (λ (i : In g (brought v.met)). let y = in_brought g v.met i in (y.0.seen, k.coming y.0 y.1 g y.2))
      (in_append g v.gathered (brought v.met) i)

  pub seated_all : (g : Gathered) → In g (all_gathered v) → o.seat g.caller ≡ j
  seated_all g i = (gathered_all g i).1.seated

-- ---- other views

module _ (limit : ℕ) (h : List Entry) (c : Caller) (t : Machine) (es : List Entry) (ok : MayMake limit t c es) where
  pub made_by-on : (k : Caller) → k ≢ c → made_by k (h ++ es) ≡ made_by k h
  made_by-on k n = filter-append _ h es ∙ (ap (λ (l : List Entry). made_by k h ++ l) (made_by-other limit c k es t n ok) ∙ append-nil (made_by k h))

  pub silent_on : (k : Caller) → k ≢ c → IsSilent k h t → IsSilent k (h ++ es) (moved_by t es)
  silent_on k n s = record { calls = made_by-on k n ∙ s.calls; outside = others_stay limit c k es t n ok ∙ s.outside }

  pub closing_on : (j : ℕ) (o o' : Owners) (x : Close) → IsClosing t o j x → o'.closer x.arena ≡ o.closer x.arena → NoEnd es x.arena
      → IsClosing (moved_by t es) o' j x
  closing_on j o o' x k e z = record {
    owner = e ∙ k.owner;
    life = still_closing limit c x.arena es t ok k.life z;
    passed = λ i l. none_come limit c i x.arena es t ok k.life z (k.passed i l);
  }

-- a sweep goes on where nothing of its arena was changed
pub sweeping_on : (limit : ℕ) (c : Caller) (m : PoolWords) (t : Machine) (es : List Entry) (m' : PoolWords) → MayMake limit t c es
    → ((k : Caller) (a : ArenaId) → t.inside k ≡ Some a → IsStanding (t.life a)) → (z : Shape) (j : ℕ) (o o' : Owners) (x : Sweep)
    → IsSweeping z m t o j x → o'.closer x.arena ≡ o.closer x.arena → StaysEnded m m' x.arena → IsSweeping z m' (moved_by t es) o' j x
sweeping_on limit c m t es m' ok stands z j o o' x k e s = record {
  owner = e ∙ k.owner;
  life = still_over limit c x.arena es t ok k.life;
  session = s.session;
  parts = λ i l. s.maps i ∙ k.parts i l;
  count = λ l. s.given ∙ (k.count l
      ∙ sym (still_given limit c x.arena es t ok k.life (λ i. unstanding (t.life x.arena) k.life (stands c x.arena i))));
  reset = λ l. s.given ∙ k.reset l;
}

-- who was drawn is so after a step, and nobody else
module _ {me : ℕ} {z : Shape} {c : Caller} {m : PoolWords} {t : Machine} {o : Owners} {es : List Entry} {m' : PoolWords} {o' : Owners}
    (d : Moved me z c m t o es m' o') where
  pub drawn_still : (k : Caller) → WasDrawn m.draw o.who o.rank k → WasDrawn m'.draw o'.who o'.rank k
  drawn_still k y = (
    (let a = d.callers.draw in let b = d.callers.rank k in let l = y.0 in omega arith),
    d.callers.who (o'.rank k) ∙ (ap o.who (d.callers.rank k) ∙ y.1),
  )

  pub drawn_before : (k : Caller) → WasDrawn m'.draw o'.who o'.rank k → WasDrawn m.draw o.who o.rank k
  drawn_before k y = (
    (let a = d.callers.draw in let b = d.callers.rank k in let l = y.0 in omega arith),
    sym (d.callers.who (o.rank k)) ∙ (ap o'.who (sym (d.callers.rank k)) ∙ y.1),
  )

module _ (z : Shape) (h : List Entry) (me : ℕ) (c : Caller) (m : PoolWords) (t : Machine) (o : Owners) (es : List Entry) (m' : PoolWords) (o' : Owners)
    (d : Moved me z c m t o es m' o') (own : o.seat c ≡ me) (held : o.number c.number ≡ me) (was : WasDrawn m.draw o.who o.rank c)
    (stands : (k : Caller) (a : ArenaId) → t.inside k ≡ Some a → IsStanding (t.life a)) where
  abbrev t' : Machine
  t' = moved_by t es

  abbrev h' : List Entry
  h' = h ++ es

  -- another seat's number
  module _ (j : ℕ) (other : j ≢ me) where
    at_other : (n : ℕ) → o.number n ≡ j → o.number n ≢ me
    at_other n e q = other (sym e ∙ q)

    away : (n : ℕ) → o.number n ≡ j → n ≢ c.number
    away n s q = other (sym s ∙ (ap o.number q ∙ held))

    apart : (k : Caller) → o.seat k ≡ j → k ≢ c
    apart k s q = other (sym s ∙ (ap o.seat q ∙ own))

    loose_on : (n : ℕ) → IsLoose z m o j n → IsLoose z m' o' j n
    loose_on n y =
        let w = d.numbers.others n y.bit (at_other n y.owner) in
        record { low = y.low; owner = w.0 ∙ y.owner; bit = w.1; mark = d.marks n (away n y.owner) ∙ y.mark }

    term_on : (n : ℕ) → IsLoose z m o j n → m'.terms n ≡ m.terms n
    term_on n y = (d.numbers.others n y.bit (at_other n y.owner)).2

    next_on : (n : ℕ) → IsUndrawn z m o j n → IsUndrawn z m' o' j n
    next_on n y = record {
      loose = loose_on n y.loose;
      fresh = λ q. y.fresh (drawn_before d (next_of m.terms n)
          (subst (λ (x : ℕ). WasDrawn m'.draw o'.who o'.rank (record { number = n; term = x })) (term_on n y.loose) q));
    }

    pub number_on : (v : View) (hand : Number) → HasNumberInHand z h m t o j v hand → HasNumberInHand z h' m' t' o' j v hand
    number_on v no_number y = tt
    number_on v (number_taken n) y = next_on n y
    number_on v (number_learnt n x) y = (next_on n y.0, y.1 ∙ sym (term_on n y.0.loose))
    number_on v (number_drawn k) y = record {
      loose = loose_on k.number y.loose;
      term = y.term ∙ sym (term_on k.number y.loose);
      drawn = drawn_still d k y.drawn;
      later = y.later;
      seated = d.callers.seat k ∙ y.seated;
      apart = y.apart;
      ungathered = y.ungathered;
      silent = silent_on (limit_of z) h c t es d.allowed k (apart k y.seated) y.silent;
    }
    number_on v (number_left n) y = (next_on n y.0, ⊎_elim (λ (e : m.draw ≡ most_draws). inl (d.callers.draw ∙ e)) inr y.1)
    number_on v (number_joined k) y = record {
      loose = loose_on k.number y.loose;
      term = y.term ∙ sym (term_on k.number y.loose);
      left = y.left;
      gathered = y.gathered;
    }

  -- what another seat knows of pages
  others_pages : (j : ℕ) (v : View) → j ≢ me → Owns z h m t o j v → HasPages z m'.maps m'.cells o'.berth j v.inside v.reads v.pages v.sweeps v.swept
  others_pages j v other k = record {
    read = λ a e x i. d.pages.stay a x.part x.page (stands v.caller a (k.work.inside ∙ e)) (k.work.pages.read a e x i);
    claims = λ p i. let y = k.work.pages.claims p i in (still p (subst (IsAt j) (sym y) refl)).0 ∙ y;
    lone = k.work.pages.lone;
    sweep = go v.swept k.work.pages.sweep;
  }
    where
      still : (p : ℕ) → IsAt j (o.berth p) → (o'.berth p ≡ o.berth p) × ((w : ℕ) → m'.cells p w ≡ m.cells p w)
      still p i = d.pages.others p j i other

      maps_of : (a : ArenaId) (i : ℕ) → IsNext v.sweeps a i → m'.maps a.slot i ≡ m.maps a.slot i
      maps_of a i n =
          let y = k.work.sweeps n.sweep n.there in
          let w = d.sweepers n.sweep.arena y.life y.session (λ e. other (sym y.owner ∙ e)) in
          subst (λ (b : ArenaId). m'.maps b.slot i ≡ m.maps b.slot i) n.arena (w.1.maps i)

      go : (s : Swept) → HasSwept z m.maps m.cells o.berth j v.sweeps s → HasSwept z m'.maps m'.cells o'.berth j v.sweeps s
      go unread s = tt
      go (named a i p) s = (s.0, maps_of a i s.0 ∙ s.1)
      go (wiping a i p w) s =
          let y = still p (subst (IsAt j) (sym s.owner) refl) in
          record { next = s.next; owner = y.0 ∙ s.owner; empty = maps_of a i s.next ∙ s.empty; wiped = λ q l b. y.1 q ∙ s.wiped q l b }

  others_own : (j : ℕ) (v : View) → j ≢ me → Owns z h m t o j v → Owns z h' m' t' o' j v
  others_own j v other k = record {
    drawn = drawn_still d v.caller k.drawn;
    term = k.term ∙ sym (kept v.caller.number k.bit k.owner).2;
    seated = d.callers.seat v.caller ∙ k.seated;
    owner = (kept v.caller.number k.bit k.owner).0 ∙ k.owner;
    bit = (kept v.caller.number k.bit k.owner).1;
    mine = made_by-on (limit_of z) h c t es d.allowed v.caller far ∙ k.mine;
    work = record {
      inside = others_stay (limit_of z) c v.caller es t far d.allowed ∙ k.work.inside;
      mark = d.marks v.caller.number (away j other v.caller.number k.owner) ∙ k.work.mark;
      closes = λ x i.
          let y = k.work.closes x i in
          let w = d.closers x.arena y.life (λ e. other (sym y.owner ∙ e)) in
          closing_on (limit_of z) h c t es d.allowed j o o' x y w.0 w.1;
      once = k.work.once;
      sweeps = λ x i.
          let y = k.work.sweeps x i in
          let w = d.sweepers x.arena y.life y.session (λ e. other (sym y.owner ∙ e)) in
          sweeping_on (limit_of z) c m t es m' d.allowed stands z j o o' x y w.0 w.1;
      swept_once = k.work.swept_once;
      hand = hand_on z m.bits m'.bits m.sessions m'.sessions o.holder o'.holder j
          (λ s g f b e. let w = d.holders s g f b (λ q. other (sym e ∙ q)) in (w.0 ∙ e, w.1, w.2)) v.hand k.work.hand;
      took = took_on z m.bits m.sessions o.holder j o.taker o'.taker v.caller (λ s g f b e. (d.holders s g f b (λ q. other (sym e ∙ q))).3) v.hand k.work.hand k.work.took;
      pages = others_pages j v other k;
    };
    gathered = λ g i. still v.seen g (k.gathered g i);
    coming = λ x j g i. still x.seen g (k.coming x j g i);
    one_each = k.one_each;
    number = number_on j other v v.number k.number;
    not_own = k.not_own;
    handles = k.handles;
    whole = λ e. absurd (lone e);
    seen_all = λ e. absurd (lone e);
  }
    where
      kept : (n : ℕ) → bit_of m.numbers n ≡ 0 → o.number n ≡ j
          → (o'.number n ≡ o.number n) × (bit_of m'.numbers n ≡ 0) × (m'.terms n ≡ m.terms n)
      kept n b e = d.numbers.others n b (at_other j other n e)

      far : v.caller ≢ c
      far = apart j other v.caller k.seated

      -- a caller that is gathered is so still
      still : (xs : List Entry) (g : Gathered) → IsGathered h m t o j v xs g → IsGathered h' m' t' o' j v xs g
      still xs g y =
          let apart' : g.caller ≢ c = apart j other g.caller y.seated in
          record {
            drawn = drawn_still d g.caller y.drawn;
            seated = d.callers.seat g.caller ∙ y.seated;
            apart = y.apart;
            outside = others_stay (limit_of z) c g.caller es t apart' d.allowed ∙ y.outside;
            quiet = made_by-on (limit_of z) h c t es d.allowed g.caller apart' ∙ y.quiet;
          }

      -- a view that is known to be whole is the only one with a caller
      lone : v.whole ≡ true → ⊥
      lone e =
          let g = k.whole e c was (λ q. far (sym q)) in
          apart j other g.0.caller (seated_all z h m t o j v k g.0 g.1) g.2

  pub others_know : (j : ℕ) (v : View) → j ≢ me → Knows z h m t o j v → Knows z (h ++ es) m' (moved_by t es) o' j v
  others_know j v other k = record {
    shape = k.shape;
    begins = begins_on v.seen h es k.begins;
    met = λ x i. begins_on x.seen h es (k.met x i);
    owns = λ l. others_own j v other (k.owns l);
  }
