-- What holds of all bytes, and of every path and layout: the answer is the only one.
use Rattle.std.specs.Prelude.{◌≡◌, ℕ, List, Result}
use Rattle.fm_base.specs.declared.refusal.Refusal.{Refusal}
use Rattle.fm_layout.specs.Tree.{Tree}
use Rattle.fm_text.specs.Texts.{IsTextOf}
use Rattle.fm_top_texts.specs.{declared.plan.TextPlan.{TextPlan}, Lines.{text_of}, Plans.{IsTextPlanned, IsTextUnplanned}}

-- bytes have no text but this, and aren't refused otherwise
abbrev pub BytesHaveOneText : Type 0
BytesHaveOneText = (bytes : List ℕ) (result : Result (List ℕ) Refusal) → IsTextOf bytes result → result ≡ text_of bytes

-- a path comes to no two plans
abbrev pub PathsHaveOnePlan : Type 0
PathsHaveOnePlan = (path : List ℕ) (t : Tree) (p q : TextPlan) → IsTextPlanned path t p → IsTextPlanned path t q → p ≡ q

-- it is refused for no two reasons
abbrev pub PathsHaveOneRefusal : Type 0
PathsHaveOneRefusal = (path : List ℕ) (t : Tree) (e f : Refusal) → IsTextUnplanned path t e → IsTextUnplanned path t f → e ≡ f

-- and then it comes to none
abbrev pub RefusedPathsHaveNoPlan : Type 0
RefusedPathsHaveNoPlan = (path : List ℕ) (t : Tree) (p : TextPlan) (e : Refusal) → IsTextUnplanned path t e → IsTextPlanned path t p → ⊥
