-- Notes are made and met.
use Rattle.std.proofs.Common.{◌≡◌, ◌≢◌, ℕ, ◌+◌, ◌-◌, ◌%◌, ◌^◌, ◌<◌, ◌≤◌, ◌==◌, Bool, true, false, if◌then◌else◌, bit_and, List, [], Option, Some, None, inl, inr, refl, ◌++◌, sym, ap, ◌∙◌, subst, arith, eq-eqb, ne_eqb}
use Rattle.std.proofs.lemmas.Nat.{and_mask}
use Rattle.fm_words.specs.{declared.shape.Shape.{Shape}, Places.{words}}
use Rattle.fm_base.specs.{declared.{caller.Caller.{Caller}, arena_id.ArenaId.{ArenaId}}, Calls.{Entry, Fine, TooManyHolds}}
use Rattle.fm_rule_facts.specs.{declared.step.Step.TheVariants.{Looks}, Views.{View}}
use Rattle.fm_rule_facts.specs.Words.{held_by, held_word, hold_found, alive_word, alive_holds, closing_word}
use Rattle.fm_rule_facts.specs.{Handles.{last_if, giving_by, word_given, back_word}, Splits.{met}, Steps.{Stepped, part, entries, noted, none_noted}}
use Rattle.fm_rule_facts.specs.Moves.{Gives, Tells}
use Rattle.fm_rule.{specs.{declared.pass.Part.{Part}, Views.{homed, Keeps}}, proofs.{Allowed.{all_same, stepped}, Keeping.{keeps_on}}}
use Rattle.fm_rule_steps.proofs.First.{two_words}

-- a table has words
pub some_words : (z : Shape) (n : ℕ) → n ≡ words z → 0 < n
some_words z n e = let t = two_words z in omega arith

-- ---- meeting

-- the look after a note was put to what a pass has met is a look of the pass
met_gives : (v n w : View) (x : ℕ) → Tells Looks (met v n) x w → Gives v v [] none_noted w
unfolding part entries noted
met_gives v n w x t = let g = t.gives in search (g.met, g.came, inr)

-- and it has seen what the note has
pub meet_met : (v n u w : View) (x : ℕ) → u ≡ met v n → Tells Looks u x w → (more : List Entry) × (w.seen ≡ n.seen ++ more)
unfolding part entries noted
meet_met v n u w x e t =
    let s = subst (λ (y : View). Tells Looks y x w) e t in s.gives.met (record { seen = n.seen; gathered = [] }) (inl refl)

pub meet_stepped : (now v n u w : View) (home home' : List ℕ) (x : ℕ) → homed home v ≡ now → home' ≡ home → v.met ≡ [] → u ≡ met v n → Tells Looks u x w
    → Stepped now (homed home' w) now [] none_noted
meet_stepped now v n u w home home' x is stays m e t =
    subst (λ (y : View × List ℕ). Stepped y.0 (homed y.1 w) y.0 [] none_noted) (λ j. (is j, sym stays j))
    (stepped home v v w [] none_noted (all_same v) m (met_gives v n w x (subst (λ (y : View). Tells Looks y x w) e t)))

pub meet_keeps : {c : Caller} {i : Option ArenaId} {part' : Part × Part} {count : ℕ} {v u w : View} {held held' : List (ℕ × Unit {0})} {x : ℕ} (n : View)
    → Keeps c i part' count (v, held)
    → u ≡ met v n → Tells Looks u x w → held' ≡ held → Keeps c i part' count (w, held')
meet_keeps {v = v} {w = w} {x = x} n k e t h =
    keeps_on k (all_same v) refl (λ y j. j) (met_gives v n w x (subst (λ (y : View). Tells Looks y x w) e t)) h

-- ---- session words

low_bits : (w : ℕ) → bit_and w 65535 ≡ w % 2 ^ 16
low_bits w = and_mask w 16

pub holds_hit : (a : ArenaId) (w : ℕ) → w ≡ alive_word a (bit_and w 65535) → Some (bit_and w 65535) ≡ alive_holds a w
unfolding alive_holds
holds_hit a w e =
    let t : (w == alive_word a (w % 2 ^ 16)) ≡ true = eq-eqb w (alive_word a (w % 2 ^ 16)) (e ∙ ap (alive_word a) (low_bits w)) in
    ap Some (low_bits w) ∙ sym (ap (λ (b : Bool). if b then Some (w % 2 ^ 16) else None) t)

pub holds_miss : (a : ArenaId) (w : ℕ) → w ≢ alive_word a (bit_and w 65535) → None ≡ alive_holds a w
unfolding alive_holds
holds_miss a w n =
    let t : (w == alive_word a (w % 2 ^ 16)) ≡ false = ne_eqb w (alive_word a (w % 2 ^ 16)) (λ e. n (e ∙ sym (ap (alive_word a) (low_bits w)))) in
    sym (ap (λ (b : Bool). if b then Some (w % 2 ^ 16) else None) t)

-- ---- a hold more

holds_low : (a : ArenaId) (w n : ℕ) → alive_holds a w ≡ Some n → w % 2 ^ 16 ≡ n
unfolding alive_holds
holds_low a w n e = go (w == alive_word a (w % 2 ^ 16)) e
  where
    go : (b : Bool) → (if b then Some (w % 2 ^ 16) else None) ≡ Some n → w % 2 ^ 16 ≡ n
    go true q = cc
    go false q = absurd (cc)

-- a word that shows fewer holds than the most isn't the last one
pub hold_fits : (a : ArenaId) (w n : ℕ) → Some n ≡ alive_holds a w → n < 65535 → w < 2 ^ 64 → w + 1 < 2 ^ 64
hold_fits a w n e l f = let q = holds_low a w n (sym e) in omega arith

pub hold_taken : (a : ArenaId) (w n : ℕ) → Some n ≡ alive_holds a w → n < 65535 → w + 1 ≡ held_word a w
unfolding held_word
hold_taken a w n e l =
    let few : (n == 65535) ≡ false = ne_eqb n 65535 (λ q. omega arith) in
    sym (ap (λ (o : Option ℕ). held_by w (hold_found o)) (sym e) ∙ ap (λ (b : Bool). held_by w (if b then TooManyHolds else Fine)) few)

pub hold_refused : (a : ArenaId) (w n : ℕ) → Some n ≡ alive_holds a w → 65535 ≤ n → w ≡ held_word a w
unfolding held_word
hold_refused a w n e l =
    let q = holds_low a w n (sym e) in
    let all : (n == 65535) ≡ true = eq-eqb n 65535 (omega arith) in
    sym (ap (λ (o : Option ℕ). held_by w (hold_found o)) (sym e) ∙ ap (λ (b : Bool). held_by w (if b then TooManyHolds else Fine)) all)

pub hold_closed : (a : ArenaId) (w : ℕ) → None ≡ alive_holds a w → w ≡ held_word a w
unfolding held_word
hold_closed a w e = sym (ap (λ (o : Option ℕ). held_by w (hold_found o)) (sym e))

-- ---- a handle less

pub back_closed : (a : ArenaId) (w : ℕ) → None ≡ alive_holds a w → w ≡ back_word a w
unfolding back_word
back_closed a w e = ap (λ (o : Option ℕ). word_given a w (giving_by o)) e

pub back_last : (a : ArenaId) (w n : ℕ) → Some n ≡ alive_holds a w → n ≡ 0 → closing_word a ≡ back_word a w
unfolding back_word
back_last a w n e z =
    sym (ap (λ (b : Bool). word_given a w (last_if b)) (eq-eqb n 0 z)) ∙ ap (λ (o : Option ℕ). word_given a w (giving_by o)) e

pub back_one : (a : ArenaId) (w n : ℕ) → Some n ≡ alive_holds a w → n ≢ 0 → w - 1 ≡ back_word a w
unfolding back_word
back_one a w n e z =
    sym (ap (λ (b : Bool). word_given a w (last_if b)) (ne_eqb n 0 z)) ∙ ap (λ (o : Option ℕ). word_given a w (giving_by o)) e

-- a word that counts a hold isn't 0
pub back_fits : (a : ArenaId) (w n : ℕ) → Some n ≡ alive_holds a w → n ≢ 0 → 0 < w
back_fits a w n e z = let q = holds_low a w n (sym e) in omega arith
