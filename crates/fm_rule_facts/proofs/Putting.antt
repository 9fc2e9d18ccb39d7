-- A table of two numbers that was changed at one place.
use Rattle.std.proofs.Common.{◌≡◌, ℕ, sym, ap, ◌∙◌, subst}
use mathlib.Core.Logic.{dite}
use native.Mathlib.Decide.{ℕ_discrete}
use Rattle.fm_base_machine.{specs.Functions.{put}, proofs.Putting.{put_here, put_else, put_cases}}

-- a table of two numbers that was changed at one place
pub two_cases : {A : Type 0} (f : ℕ → ℕ → A) (k i : ℕ) (x : A) (c j : ℕ) (P : A → Type 0) → (c ≡ k → j ≡ i → P x) → (¬ ((c ≡ k) × (j ≡ i)) → P (f c j))
    → P (put f k (put (f k) i x) c j)
two_cases f k i x c j P here other = dite (ℕ_discrete c k)
    (λ e. subst P (λ n. sym (ap (put f k (put (f k) i x)) e ∙ put_here f k (put (f k) i x)) n j)
    (put_cases (f k) i x j P (λ q. here e q) (λ nq. subst P (λ n. f (e n) j) (other (λ w. nq w.1)))))
    (λ ne. subst P (λ n. sym (put_else f k (put (f k) i x) c ne) n j) (other (λ w. ne w.0)))
