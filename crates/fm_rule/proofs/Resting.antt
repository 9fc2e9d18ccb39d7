-- The words of a table that was closed show the history.
use Rattle.std.proofs.Common.{◌≡◌, ℕ, zero, suc, true, List, [], ◌∷◌, length, get_or, sym, ap, ◌∙◌, subst}
use mathlib.Core.Option.{some, some-injective, some-ne-none}
use lib.ListN.{get_elem?}
use Rattle.atomic_table.specs.Table.{Final, Seen}
use Rattle.fm_words.specs.{declared.shape.Shape.{Shape}, Shapes.{IsValid}, Places.{words as word_count}}
use Rattle.fm_base.specs.{Calls.{Entry}, Histories.{IsLegal}}
use Rattle.fm_rule_facts.specs.{Hands.{nothing}, Rest.{ShowsHistory}, Loans.{IsRightlyLent, LendsWithin}, Views.{View, In, IsSound, limit_of}, Facts.{Rule}}
use Rattle.fm_rule_steps.proofs.{Knowing.{own}, Resting.{at_rest}}
use Rattle.fm_rule.{proofs.Allowed.{Keeping}, specs.{Views.{homed}, Finishing.{IsFinished}}}

-- What stands at an index.
pub read_at : (xs : List ℕ) (k x : ℕ) → get_elem? xs k ≡ some x → x ≡ get_or xs k 0
read_at [] k x e = absurd (some-ne-none x (sym e))
read_at (y ∷ ys) zero x e = sym (some-injective y x e)
read_at (y ∷ ys) (suc k) x e = read_at ys k x e

-- of the last state the seat `id` has the view v
pub record Shown (z : Shape) (v : View) (ws : List ℕ) : Type 0 where
  pub wide : length ws ≡ word_count z
  pub shows : ShowsHistory z ws v.seen

pub shown : (z : Shape) (id : ℕ) (v : View) (ws : List ℕ) (xs : List (Unit {0})) → Final (Seen (Keeping z) id v) ws xs → v.live ≡ true → v.whole ≡ true
    → v.hand ≡ nothing → Shown z v ws
shown z id v ws xs f l w none =
    let s = f.0 in
    let rule : Rule z s.words s.views = f.1.0 in
    let at : get_elem? s.views id ≡ some v = f.1.1 in
    let all : v.seen ≡ rule.history = (own z s.words s.views rule id v at l).seen_all w in
    let rest : ShowsHistory z s.words rule.history = at_rest z id v l s.words s.views rule at w none in
    record {
      wide = subst (λ (us : List ℕ). length us ≡ word_count z) f.2 rule.shows.wide;
      shows = subst (λ (x : List ℕ × List Entry). ShowsHistory z x.0 x.1) (λ j. (f.2 j, sym all j)) rest;
    }

-- A pool of the shape z is finished by the pass, whose view at its seat is v.
pub finished : (z key : Shape) (id : ℕ) (v now : View) (home : List ℕ) (ws : List ℕ) (xs : List (Unit {0})) (history : List Entry) → homed home v ≡ now
    → z ≡ key → v.shape ≡ z → Final (Seen (Keeping key) id v) ws xs → v.live ≡ true → IsSound v → now.whole ≡ true → now.hand ≡ nothing
    → history ≡ now.seen → IsFinished (record { shape = z; history = history; words = ws })
finished z key id v now home ws xs history is same sh f l sound w none eq =
    let s = shown key id v ws xs f l (ap (λ (x : View). x.whole) is ∙ w) (ap (λ (x : View). x.hand) is ∙ none) in
    let seen : v.seen ≡ history = ap (λ (x : View). x.seen) is ∙ sym eq in
    record {
      valid = subst IsValid sh sound.valid;
      legal = subst (λ (x : Shape × List Entry). IsLegal (limit_of x.0) [] x.1) (λ j. (sh j, seen j)) sound.legal;
      lent = subst (λ (x : Shape × List Entry). IsRightlyLent x.0.page_words (limit_of x.0) x.1) (λ j. (sh j, seen j)) sound.lent;
      within = λ e i. subst (λ (x : Shape). LendsWithin x e.call) sh (sound.within e (subst (In e) (sym seen) i));
      wide = s.wide ∙ ap word_count (sym same);
      shows = subst (λ (x : Shape × List Entry). ShowsHistory x.0 ws x.1) (λ j. (sym same j, seen j)) s.shows;
    }
