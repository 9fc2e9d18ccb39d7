-- What the exits of `?` answer.
use Rattle.std.{proofs.{Common.{◌≡◌, ℕ, Result, Err, List, ap, ◌∙◌}, lemmas.Result.{err_from_is_err_and}}, specs.Prelude.{IsErrAnd}}
use Rattle.fm_base.specs.{declared.refusal.Refusal.{Refusal}, Calls.{Entry}, View.{View, Did}}
use Rattle.fm_segment_access.{specs.Found.{DoesAt}, proofs.Learning.{refused_at}}

-- The refusal that came.
pub gave : {X : Type 0} {result : Result X Refusal} {e : Refusal} → IsErrAnd result (λ y. y ≡ e) → result ≡ Err e
gave {X} {result} q = let p = err_from_is_err_and result q in p.1 ∙ ap Err p.2

-- Where no place was found, nothing is done.
pub not_placed : {X : Type 0} {v : View} {found : Result ℕ Refusal} (Does : ℕ → Result X Refusal → List Entry → Type 0) (result : Result X Refusal)
    {e : Refusal} → found ≡ Err e → IsErrAnd result (λ y. y ≡ e) → Did v v (DoesAt found Does result)
not_placed {X} {v} {found} Does result {e} f q = refused_at v found Does e result f (gave q)
