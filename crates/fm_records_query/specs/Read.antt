-- What the reader's answers are seen as.
use Rattle.std.specs.Prelude.{Vec, Option, Some, None, List}
use Rattle.fm_path_text.specs.declared.step.PathStep.{PathStep}

-- the steps of a path, where there is one
abbrev pub steps_if_any : {Z : Type 0} → Option (Vec PathStep Z) → Option (List PathStep)
steps_if_any None = None
steps_if_any (Some v) = Some v.items
