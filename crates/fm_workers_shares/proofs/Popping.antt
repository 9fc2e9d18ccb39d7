-- A list that is taken apart from its end.
use Rattle.std.{proofs.{Common.{◌≡◌, List, [], ◌∷◌, ◌++◌, ap, ◌∙◌, subst, sym, append_assoc}, lemmas.List.{append-nil}}, specs.List.{AllByRecursion}}
use Rattle.fm_base_lists.proofs.Each.{all_split}

-- What holds of all holds of the one that was popped.
pub middle : {X : Type 0} (P : X → Type 0) (all now next gone : List X) (x : X) → all ≡ now ++ gone → now ≡ next ++ x ∷ [] → AllByRecursion P all → P x
middle P all now next gone x e d h =
    (all_split P next (x ∷ []) (subst (λ ys. AllByRecursion P ys) d (all_split P now gone (subst (λ ys. AllByRecursion P ys) e h)).0)).1.0

pub split_more : {X : Type 0} (all now next gone : List X) (x : X) → all ≡ now ++ gone → now ≡ next ++ x ∷ [] → all ≡ next ++ x ∷ gone
split_more {X} all now next gone x e d = e ∙ (ap (λ (us : List X). us ++ gone) d ∙ append_assoc next (x ∷ []) gone)

-- What is left of a list, and what holds of those that were popped.
pub record TakenApart {X : Type 0} (all now : List X) (Holds : List X → Type 0) : Type 0 where
  pub gone : List X
  pub split : all ≡ now ++ gone
  pub holds : Holds gone

pub none_gone : {X : Type 0} (all : List X) (Holds : List X → Type 0) → Holds [] → TakenApart all all Holds
none_gone all Holds h = record { gone = []; split = sym (append-nil all); holds = h }

pub one_gone : {X : Type 0} (all now next : List X) (x : X) (Held Holds : List X → Type 0) → TakenApart all now Held → now ≡ next ++ x ∷ []
    → ((gone : List X) → Held gone → Holds (x ∷ gone)) → TakenApart all next Holds
one_gone all now next x Held Holds t d more = record {
  gone = x ∷ t.gone;
  split = split_more all now next t.gone x t.split d;
  holds = more t.gone t.holds;
}
