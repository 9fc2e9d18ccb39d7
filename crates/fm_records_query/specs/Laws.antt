-- What holds of every layout and text: the refusal that is answered is the only one.
use Rattle.std.specs.Prelude.{◌≡◌, ◌≢◌, ℕ, List}
use Rattle.fm_base.specs.declared.refusal.Refusal.{Refusal, TheVariants.{Memory}}
use Rattle.fm_layout.specs.Tree.{Tree}
use Rattle.fm_records_query.specs.{Parsed.{IsParsed, IsNoQuery}, Plan.{Plan}, Records.{IsNoRecord}}

-- a layout is none of a record for one reason
abbrev pub LayoutsHaveOneRefusal : Type 0
LayoutsHaveOneRefusal = (t : Tree) (e f : Refusal) → IsNoRecord t e → IsNoRecord t f → e ≡ f

-- over a layout a text comes to one plan
abbrev pub TextsHaveOnePlan : Type 0
TextsHaveOnePlan = (text : List ℕ) (t : Tree) (p q : Plan) → IsParsed text t p → IsParsed text t q → p ≡ q

-- it is refused for one reason, want of memory aside
abbrev pub TextsHaveOneRefusal : Type 0
TextsHaveOneRefusal = (text : List ℕ) (t : Tree) (e f : Refusal) → IsNoQuery text t e → IsNoQuery text t f → e ≢ Memory → f ≢ Memory → e ≡ f

-- and then it is no query
abbrev pub RefusedTextsHaveNoPlan : Type 0
RefusedTextsHaveNoPlan = (text : List ℕ) (t : Tree) (p : Plan) (e : Refusal) → IsNoQuery text t e → e ≢ Memory → IsParsed text t p → ⊥
