-- What the text of a path comes to as the query that lists its values, and why it is refused.
use Rattle.std.specs.Prelude.{ℕ, List, [], ◌∷◌}
use Rattle.fm_base.specs.declared.refusal.Refusal.{Refusal}
use Rattle.fm_layout.specs.Tree.{Tree}
use Rattle.fm_path.specs.Resolution.{IsRefusal}
use Rattle.fm_path_text.specs.{Grammar.{IsTextOf, IsNoPath}, declared.step.PathStep.{PathStep}}
use Rattle.fm_records_query.specs.{Grammar.{Syntax, syntax}, Parsed.{IsPlanOf}, Plan.{Plan}, declared.fold.Fold.TheVariants.{All}}
use Rattle.fm_records_query.specs.declared.syntax.ItemSyntax.TheVariants.{Of}

-- one item, which lists the path's values, and no condition
abbrev pub list_of : List PathStep → Syntax
list_of path = syntax (Of All path ∷ []) []

-- the text is that of a path, and the plan lists its values
pub record IsList (text : List ℕ) (t : Tree) (p : Plan) : Type 0 where
  pub path : List PathStep
  pub is_text : IsTextOf text path
  pub is_plan : IsPlanOf t (list_of path) p

-- what is answered in place of it: where the text leaves the grammar of paths; else why the path is refused
pub data IsNoList (text : List ℕ) (t : Tree) (e : Refusal) : Type 0 where
  no_path : IsNoPath text e → IsNoList text t e
  refused : (path : List PathStep) → IsTextOf text path → IsRefusal path t e → IsNoList text t e
