-- A pass has a number whose term it knows, and counts a draw; then the number's next caller is drawn.
use Rattle.std.proofs.Common.{◌≡◌, ◌≢◌, ℕ, ◌<◌, ◌==◌, Bool, true, false, if◌then◌else◌, List, [], ◌++◌, length, sym, refl, ap, ◌∙◌, subst, arith, inl, inr, ⊎_elim, append_assoc, Option, Some, None, eq-eqb, ne_eqb}
use Rattle.std.proofs.lemmas.List.{append-nil}
use Rattle.fm_words.specs.{declared.shape.Shape.{Shape}, Places.{groups}}
use Rattle.fm_base.specs.{declared.caller.Caller.{Caller}, Finds.{Find, Draws as Drawing, is_draw}}
use Rattle.fm_rule_facts.specs.{Views.{View, In, IsSound}, Steps.{Stepped, draws, note_draw, none_noted, is_clear}}
use Rattle.fm_rule_facts.specs.Hands.{Number, no_number, number_taken, number_learnt, number_left, number_drawn, most_draws, drawn_by, number_after}
use Rattle.fm_rule_facts.{specs.{Moves.{LearnsCount}, Splits.{drawn_left}}, proofs.Founds.{draw_found, draw_drew, draw_is}}
use Rattle.fm_rule_facts.proofs.Keeping.{in_append, in_left, in_right}
use Rattle.fm_rule.specs.{Passes.{IsOf}, Draws.{IsKept, cut_from, Asks, Seeks, Follow, LearnsAnew, FoundZero, Takes, Counts, Drawn, NoneDrawn}}
use Rattle.fm_rule.{specs.declared.pool.Pool.{Pool}, proofs.Following.{last_found, follows_more, last_more}}
use Rattle.fm_rule.proofs.{Asking.{found_still, asked_then, asked_both, asks_none, asks_both, asks_step, Draw, whole_after, not_made, draw_counts}, Seeking.{seeks_both}}
use Rattle.fm_rule.proofs.Halves.{left_sound}

-- ---- the loop

-- the pass has come from `old` to `now` by draws that found another count than they expected; the last found the next to expect
pub record Counting (pool : Pool) (old now : View) (c : Caller) (expected : ℕ) : Type 0 where
  pub finds : List Find
  pub asks : Asks pool old now finds (number_learnt c.number c.term)
  pub guess : ℕ
  pub follow : Follow guess finds
  pub last : expected ≡ last_found guess finds
  pub some : 0 < expected

pub counting_begins : (pool : Pool) (p : View) (c : Caller) (e : ℕ) → p.number ≡ number_learnt c.number c.term → IsOf pool p → 0 < e → Counting pool p p c e
unfolding last_found
counting_begins pool p c e h of some = record {
  finds = [];
  asks = asks_none pool p (number_learnt c.number c.term) h of;
  guess = e;
  follow = tt;
  last = refl;
  some = some;
}

module _ (pool : Pool) (old p q : View) (c : Caller) (e x : ℕ) (t : Counting pool old p c e) (s : Draw p q e x) (l : LearnsCount p x) where
  learnt : p.number ≡ number_learnt c.number c.term
  learnt = ap (λ (v : View). v.number) t.asks.asked.is

  abbrev hits : Bool → Bool → Option Caller
  hits b f = if b then (if f then None else Some c) else None

  abbrev leaves : Bool → Bool → Number
  leaves b f = if b then (if f then number_left c.number else number_drawn c) else number_learnt c.number c.term

  drawn_is : drawn_by p.number e x ≡ hits (x == e) (x == most_draws)
  drawn_is = ap (λ (k : Number). drawn_by k e x) learnt

  after_is : number_after p.number e x ≡ leaves (x == e) (x == most_draws)
  after_is = ap (λ (k : Number). number_after k e x) learnt

  abbrev here : ℕ → Find
  here n = record { step = Drawing e; found = x; seen = n; clear = is_clear p; gathered = length p.gathered; drew = drawn_by p.number e x }

  abbrev nd : ℕ → List Find
  nd = note_draw e x p

  followed : (n : ℕ) → Follow t.guess (t.finds ++ nd n)
  followed n = follows_more t.guess t.finds (here n) t.follow (ap Drawing t.last)

  -- nobody was drawn, and the number is k
  missed : (k : Number) → drawn_by p.number e x ≡ None → number_after p.number e x ≡ k → (n : ℕ) × Asks pool old q (t.finds ++ nd n) k
  missed k none after =
      let step = subst (λ (y : Option Caller × Number). Stepped p q (draws y.0 y.1 e x p) [] nd) (λ j. (none j, after j)) s in
      let n : ℕ = length (p.seen ++ step.others) in (
        n,
        record {
          asked = asked_then old p q t.finds (number_learnt c.number c.term) t.asks.asked t.asks.same k (whole_after p e x) x nd
              (λ i f j. inl (draw_is e x p i f j)) (draw_counts e x p) (λ i f j u. (draw_found e x p i f j, l)) step;
          none = λ f i. ⊎_elim (t.asks.none f) (draw_drew e x p None none n f) (in_append f t.finds (nd n) i);
          same = ap (λ (v : View). v.whole) step.is_part ∙ (not_made p e x t.some ∙ t.asks.same);
          of = (ap (λ (v : View). v.home) step.is_part ∙ t.asks.of.0, ap (λ (v : View). v.shape) step.is_part ∙ t.asks.of.1);
          sound = λ o. step.sound;
        },
      )

  pub counts_on : x ≢ e → Counting pool old q c x
  counts_on ne =
      let no : (x == e) ≡ false = ne_eqb x e ne in
      let y = missed (number_learnt c.number c.term) (drawn_is ∙ (λ j. hits (no j) (x == most_draws))) (after_is ∙ (λ j. leaves (no j) (x == most_draws))) in
      record {
        finds = t.finds ++ nd y.0;
        asks = y.1;
        guess = t.guess;
        follow = followed y.0;
        last = sym (last_more t.guess t.finds (here y.0));
        some = l.some;
      }

  pub counts_one : x ≡ e → x ≢ most_draws → Counts old q c
  counts_one same few =
      let hit : (x == e) ≡ true = eq-eqb x e same in
      let no : (x == most_draws) ≡ false = ne_eqb x most_draws few in
      let one : drawn_by p.number e x ≡ Some c = drawn_is ∙ (λ j. hits (hit j) (no j)) in
      let step = subst (λ (y : Option Caller × Number). Stepped p q (draws y.0 y.1 e x p) [] nd)
      (λ j. (one j, (after_is ∙ (λ i. leaves (hit i) (no i))) j)) s in
      let n : ℕ = length (p.seen ++ step.others) in
      record {
        finds = t.finds ++ nd n;
        asked = asked_then old p q t.finds (number_learnt c.number c.term) t.asks.asked t.asks.same (number_drawn c) false x nd
            (λ i f j. inl (draw_is e x p i f j)) (draw_counts e x p) (λ i f j u. (draw_found e x p i f j, l)) step;
        guess = t.guess;
        follow = followed n;
        drew = record {
          find = here n;
          among = in_right (here n) t.finds (nd n) (inl refl);
          step = ap Drawing (sym same);
          drew = one;
          only = λ f d i h. ⊎_elim
              (λ (j : In f t.finds). let r : None ≡ Some d = sym (t.asks.none f j) ∙ h in absurd (cc))
              (λ (j : In f (nd n)). let r : Some d ≡ Some c = sym h ∙ draw_drew e x p (Some c) one n f j in cc)
              (in_append f t.finds (nd n) i);
        };
        apart = λ f i. l.undrawn c.number c.term learnt f (found_still old p p t.finds (number_learnt c.number c.term) t.asks.asked f i);
        whole = ap (λ (v : View). v.whole) step.is_part;
        sound = step.sound;
      }

  -- no more can be counted: the number is left
  module _ (same : x ≡ e) (full : x ≡ most_draws) where
    left : (n : ℕ) × Asks pool old q (t.finds ++ nd n) (number_left c.number)
    left =
        let hit : (x == e) ≡ true = eq-eqb x e same in
        let all : (x == most_draws) ≡ true = eq-eqb x most_draws full in
        missed (number_left c.number) (drawn_is ∙ (λ j. hits (hit j) (all j))) (after_is ∙ (λ j. leaves (hit j) (all j)))

    pub left_now : q.number ≡ number_left c.number
    left_now = ap (λ (v : View). v.number) left.1.asked.is

    pub left_of : IsOf pool q
    left_of = left.1.of

    -- and goes back
    pub counts_none : (r : View) → Stepped q r (record q { number = no_number }) [] none_noted → NoneDrawn old r
    counts_none r back =
        let f : List Find = t.finds ++ nd left.0 in
        let z = asks_step pool q r no_number none_noted left.1.of (λ n f i. absurd i) back in
        let a = asks_both pool old q r f z.0 (number_left c.number) no_number left.1 z.3 in
        record {
          finds = f ++ z.0;
          asked = a.asked;
          tries = record {
            looks = [];
            draws = f;
            are = ap (λ (gs : List Find). f ++ gs) z.2 ∙ append-nil f;
            are_looks = λ g i. absurd i;
            guess = t.guess;
            follow = followed left.0;
          };
          all = record {
            none = a.none;
            why = inr (here left.0, in_left (here left.0) f z.0 (in_right (here left.0) t.finds (nd left.0) (inl refl)), refl, full);
          };
          same = a.same;
          sound = back.sound;
        }

-- ---- all of a draw

-- the number was taken and its term is known
pub learnt_then : (pool : Pool) (old p q : View) (n k : ℕ) → Takes pool old p n → Stepped p q (record p { number = number_learnt n k }) [] none_noted
    → Seeks pool old q (number_learnt n k)
learnt_then pool old p q n k t s =
    let y = asks_step pool p q (number_learnt n k) none_noted t.seeks.asks.of (λ i f j. absurd j) s in
    seeks_both pool old p q (number_taken n) (number_learnt n k) t.seeks
    (record { finds = y.0; asks = y.3; looks = λ f i. absurd (subst (In f) y.2 i) })

-- looks and then draws
tries_after : (fs gs : List Find) → ((f : Find) → In f fs → Rattle.fm_base.specs.Finds.is_number f.step ≡ true) → LearnsAnew gs → LearnsAnew (fs ++ gs)
tries_after fs gs looks t = record {
  looks = fs ++ t.looks;
  draws = t.draws;
  are = ap (λ (xs : List Find). fs ++ xs) t.are ∙ sym (append_assoc fs t.looks t.draws);
  are_looks = λ f i. ⊎_elim (looks f) (t.are_looks f) (in_append f fs t.looks i);
  guess = t.guess;
  follow = t.follow;
}

pub none_after : (pool : Pool) (old p q : View) (k : Number) → IsOf pool old → Seeks pool old p k → NoneDrawn p q → NoneDrawn old q
none_after pool old p q k of t y =
    let same : groups p.shape ≡ groups old.shape = ap (λ (z : Shape). groups z) (t.asks.of.1 ∙ sym of.1) in
    record {
      finds = t.finds ++ y.finds;
      asked = asked_both old p q t.finds y.finds k no_number t.asks.asked y.asked t.asks.same;
      tries = tries_after t.finds y.finds t.looks y.tries;
      all = record {
        none = λ f i. ⊎_elim (t.asks.none f) (y.all.none f) (in_append f t.finds y.finds i);
        why = ⊎_elim
            (λ (z : FoundZero (groups p.shape) y.finds). inl (λ g l. let w = z g (let e = same in omega arith) in
            (w.0, in_right w.0 t.finds y.finds w.1, w.2, w.3, w.4)))
            (λ (z : (f : Find) × In f y.finds × (is_draw f.step ≡ true) × (f.found ≡ most_draws)). inr (z.0, in_right z.0 t.finds y.finds z.1, z.2, z.3))
            y.all.why;
      };
      same = y.same ∙ t.asks.same;
      sound = y.sound;
    }

pub drawn_of : (pool : Pool) (old p q d : View) (k : Number) (c : Caller) → (t : Seeks pool old p k) → Counts p q c
    → d ≡ cut_from q c → IsSound d → Drawn old (drawn_left q) d
drawn_of pool old p q d k c t y is sound =
    let a = asked_both old p q t.finds y.finds k (number_drawn c) t.asks.asked y.asked t.asks.same in
    let mine : q.number ≡ number_drawn c = ap (λ (v : View). v.number) y.asked.is in
    let new = y.sound.drawn c mine in
    record {
      caller = c;
      finds = t.finds ++ y.finds;
      asked = (
          let left : drawn_left q ≡ record old { seen = q.seen; finds = q.finds; whole = q.whole; number = no_number } =
          λ i. record (a.is i) { number = no_number } in
          let kept : (f : Find) → In f (t.finds ++ y.finds) → IsKept old (drawn_left q) f =
          λ f i. let z = a.kept f i in record { since = z.since; until = z.until; clear = z.clear; gathered = z.gathered } in
          search (left, a.only, kept, a.later));
      tries = tries_after t.finds y.finds t.looks
          (record { looks = []; draws = y.finds; are = refl; are_looks = λ f i. absurd i; guess = y.guess; follow = y.follow });
      drew = record {
        find = y.drew.find;
        among = in_right y.drew.find t.finds y.finds y.drew.among;
        step = y.drew.step;
        drew = y.drew.drew;
        only = λ f b i h. ⊎_elim (λ (j : In f t.finds). let r : None ≡ Some b = sym (t.asks.none f j) ∙ h in absurd (cc))
            (λ (j : In f y.finds). y.drew.only f b j h) (in_append f t.finds y.finds i);
      };
      fresh = record { later = new.later; number = new.number; term = new.term; other = new.other; silent = new.silent; outside = new.outside };
      apart = λ f i. y.apart f (found_still old p p t.finds k t.asks.asked f i);
      whole = y.whole;
      is = is;
      giver_sound = left_sound q y.whole y.sound;
      sound = sound;
    }
