-- What holds of each item of a vector holds of each after a push.
use Rattle.std.{proofs.{Common.{◌≡◌, Bool, true, false, if◌then◌else◌, List, [], ◌∷◌, ◌++◌, subst, sym}, lemmas.List.Elements.{All-push}}, specs.Prelude.{All}}

pub all_pushed : {X : Type 0} (P : X → Type 0) (old : List X) {new : List X} (x : X) (pushed : Bool) → new ≡ (if pushed then old ++ x ∷ [] else old)
    → All P old → P x → All P new
all_pushed P old x true is all one = subst (λ xs. All P xs) (sym is) (All-push P old x all one)
all_pushed P old x false is all one = subst (λ xs. All P xs) (sym is) all
