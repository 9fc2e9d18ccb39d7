-- Visits of the table, put together from their calls.
use Rattle.std.{proofs.Common.{◌≡◌, ◌≢◌, ℕ, ◌+◌, List, [], ◌∷◌, refl, sym, ap, ◌∙◌, subst, Some, Ok}}
use Rattle.fm_base.specs.{declared.{arena_id.ArenaId.{ArenaId}}, Calls.{Add, Call, Entry, Fine, Found, Leave, Reply, SwapIf}, Does.{DoesAct, DoesEnter}}
use Rattle.fm_base.{specs.{View.{Did, View}, Visits.{visit}}, proofs.{Making.{Makes-then}, Visiting.{act_makes, entered_makes, visit_of_acts, visit_of_one}}}
use Rattle.fm_group.specs.{Counting.{Claims, DoesAddOne, DoesClaim, add_one, claim_try, claimed, finds, puts}, Table.{Counter, claim_word, count_word}}

module _ {x y : View} (w : Counter) (a : ArenaId) (e : Unit {0}) (same : a ≡ w.table.arena) (enter : Did x y (DoesEnter x.caller a (Ok e))) where
  -- One act.
  module _ {u v : View} (leave : Did u v (DoesAct u.inside u.caller Leave Fine)) where
    pub added_one : (p word found : ℕ) → word ≡ count_word w.table p → Did y u (DoesAct y.inside y.caller (λ i. Add i word 1) (Found found))
        → Did x v (DoesAddOne x.caller w p (Ok e))
    added_one p word found at act =
        let m = entered_makes x y a e enter in
        let is : visit x.caller a ((Add a word 1, Found found) ∷ []) ≡ add_one x.caller w p found =
        ap (λ (i : ArenaId). visit x.caller i ((Add i word 1, Found found) ∷ [])) same
        ∙ ap (λ (k : ℕ). visit x.caller w.table.arena ((Add w.table.arena k 1, Found found) ∷ [])) at in
        record {
          own = visit x.caller a ((Add a word 1, Found found) ∷ []);
          does = (found, is);
          makes = visit_of_one x y u v a (λ i. Add i word 1) (Found found) refl m.1 act leave;
        }

    pub found_there : (n p word found : ℕ) → word ≡ claim_word w.table p → found ≢ 0
        → Did y u (DoesAct y.inside y.caller (λ i. SwapIf i word 0 (n + 1)) (Found found)) → Did x v (DoesClaim x.caller w n p (Ok found))
    found_there n p word found at some act =
        let m = entered_makes x y a e enter in
        let is : visit x.caller a ((SwapIf a word 0 (n + 1), Found found) ∷ []) ≡ claim_try x.caller w n p found =
        ap (λ (i : ArenaId). visit x.caller i ((SwapIf i word 0 (n + 1), Found found) ∷ [])) same
        ∙ ap (λ (k : ℕ). visit x.caller w.table.arena ((SwapIf w.table.arena k 0 (n + 1), Found found) ∷ [])) at in
        record {
          own = visit x.caller a ((SwapIf a word 0 (n + 1), Found found) ∷ []);
          does = subst (λ (es : List Entry). Claims x.caller w n p found es) (sym is) (finds found some);
          makes = visit_of_one x y u v a (λ i. SwapIf i word 0 (n + 1)) (Found found) refl m.1 act leave;
        }

  -- Two acts.
  pub claimed_there : {u t v : View} (n p word next found count : ℕ) → word ≡ claim_word w.table p → next ≡ count_word w.table p → found ≡ 0
      → Did y u (DoesAct y.inside y.caller (λ i. SwapIf i word 0 (n + 1)) (Found found)) → Did u t (DoesAct u.inside u.caller (λ i. Add i next 1) (Found count))
      → Did t v (DoesAct t.inside t.caller Leave Fine) → Did x v (DoesClaim x.caller w n p (Ok 0))
  claimed_there {u} {t} {v} n p word next found count at beside none first second leave =
      let m = entered_makes x y a e enter in
      let one = act_makes y u a y.caller (λ i. SwapIf i word 0 (n + 1)) (Found found) m.1.inside refl first in
      let inside : u.inside ≡ Some a = one.inside ∙ m.1.inside in
      let two = act_makes u t a y.caller (λ i. Add i next 1) (Found count) inside one.same_caller second in
      let both = Makes-then y u t _ _ one two in
      let acts : List (Call × Reply) = (SwapIf a word 0 (n + 1), Found found) ∷ (Add a next 1, Found count) ∷ [] in
      let is : visit x.caller a ((SwapIf a word 0 (n + 1), Found found) ∷ (Add a next 1, Found count) ∷ []) ≡ claimed x.caller w n p count =
      ap (λ (i : ArenaId). visit x.caller i ((SwapIf i word 0 (n + 1), Found found) ∷ (Add i next 1, Found count) ∷ [])) same
      ∙ ap (λ (k : ℕ). visit x.caller w.table.arena ((SwapIf w.table.arena k 0 (n + 1), Found found) ∷ (Add w.table.arena next 1, Found count) ∷ [])) at
      ∙ ap (λ (k : ℕ). visit x.caller w.table.arena ((SwapIf w.table.arena (claim_word w.table p) 0 (n + 1), Found found) ∷ (Add w.table.arena k 1, Found count) ∷ [])) beside
      ∙ ap (λ (k : ℕ). visit x.caller w.table.arena ((SwapIf w.table.arena (claim_word w.table p) 0 (n + 1), Found k)
      ∷ (Add w.table.arena (count_word w.table p) 1, Found count) ∷ [])) none in
      record {
        own = visit x.caller a ((SwapIf a word 0 (n + 1), Found found) ∷ (Add a next 1, Found count) ∷ []);
        does = subst (λ (es : List Entry). Claims x.caller w n p 0 es) (sym is) (puts count);
        makes = visit_of_acts x y t v a acts refl m.1 both leave;
      }
