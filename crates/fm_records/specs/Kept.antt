-- Changes that memory may be wanting for.
use Rattle.std.specs.Prelude.{◌≡◌, Result, OnOk, OnErr, IfErr}
use Rattle.fm_base.specs.declared.refusal.Refusal.{Refusal, TheVariants.{Memory}}

-- it has become the next; or `Memory` refuses it, and it is as it was
pub record Becomes {X : Type 0} (old new next : X) (result : Result (Unit {0}) Refusal) : Type 0 where
  pub ok : OnOk result (new ≡ next)
  pub same : OnErr result (new ≡ old)
  pub memory : IfErr result (λ refusal. refusal ≡ Memory)
