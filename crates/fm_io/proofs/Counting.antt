-- Counts over calls one after another.
use Rattle.std.proofs.Common.{ℕ, refl, subst, ◌∙◌, arith}
use Rattle.fm_io.specs.Count.{Counts}

-- no call
pub counts_none : {By : ℕ → ℕ → Type 0} {Cause : Type 0} (n : ℕ) → ¬ Cause → Counts By Cause n n
counts_none n none = record { rose = λ why. absurd (none why); quiet = λ no. refl; stays = omega arith }

-- with no cause there is none of any kind
pub counts_quiet : {By : ℕ → ℕ → Type 0} {Cause : Type 0} {old new : ℕ} → Counts By Cause old new → ¬ Cause → Counts By ⊥ old new
counts_quiet counts none = record { rose = λ e. absurd e; quiet = λ no. counts.quiet none; stays = counts.stays }

-- a count that stood still, and then was counted on
pub counts_then : {By : ℕ → ℕ → Type 0} {Before Cause : Type 0} {old mid new : ℕ} → Counts By Before old mid → ¬ Before → Counts By Cause mid new
    → Counts By Cause old new
counts_then {By} {Before} {Cause} {old} {mid} {new} first none then = record {
  rose = λ why. subst (λ (n : ℕ). By n new) (first.quiet none) (then.rose why);
  quiet = λ no. then.quiet no ∙ first.quiet none;
  stays = omega (arith, first.stays, then.stays);
}
