-- What holds of each turn holds after one of them changed, or one came.
use Rattle.std.proofs.Common.{◌≡◌, ◌≢◌, ℕ, zero, suc, List, [], ◌∷◌, ◌++◌, set, sym, subst, ⊎_elim}
use mathlib.Core.Option.{some, some-injective, some-ne-none}
use lib.ListN.{get_elem?}
use Rattle.crossbeam_queue.proofs.Lists.{at_set, at_snoc}
use Rattle.fm_workers_queue.specs.{declared.account.Account.{Account}, Rule.{Each}}

pub each_set : {T : Type 0} (P : Account T → Type 0) (turns : List (Account T)) (place : ℕ) (w : Account T) → P w → Each P turns → Each P (set turns place w)
each_set P turns place w mine all j u e = ⊎_elim (λ (x : (j ≡ place) × (w ≡ u)). subst P x.1 mine)
    (λ (x : (j ≢ place) × (get_elem? turns j ≡ some u)). all j u x.1) (at_set turns place j w u e)

pub each_snoc : {T : Type 0} (P : Account T → Type 0) (turns : List (Account T)) (w : Account T) → P w → Each P turns → Each P (turns ++ w ∷ [])
each_snoc P turns w mine all j u e = ⊎_elim (λ x. all j u x) (λ (x : w ≡ u). subst P x mine) (at_snoc turns w u j e)

pub each_one : {T : Type 0} (P : Account T → Type 0) (w : Account T) → P w → Each P (w ∷ [])
each_one P w mine zero u e = subst P (some-injective w u e) mine
each_one P w mine (suc j) u e = absurd (some-ne-none u (sym e))

-- The other turn, where one at another place changed.
pub at_other : {T : Type 0} (turns : List (Account T)) (place other : ℕ) (w u : Account T) → ¬ (other ≡ place) → get_elem? (set turns place w) other ≡ some u
    → get_elem? turns other ≡ some u
at_other turns place other w u apart e = ⊎_elim (λ (x : (other ≡ place) × (w ≡ u)). absurd (apart x.0))
    (λ (x : (other ≢ place) × (get_elem? turns other ≡ some u)). x.1) (at_set turns place other w u e)
