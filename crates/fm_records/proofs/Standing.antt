-- The numbers of a resolved path are those of the places to which it leads.
use Rattle.std.proofs.Common.{ℕ, List, ap, ◌∙◌}
use Rattle.fm_layout.specs.Tree.{Tree, Value, Padding, Sequence, Struct, Union}
use Rattle.fm_path_meaning.specs.Walk.{AreAdmitted, offset_at}
use Rattle.fm_path.specs.{Resolution.{Resolution, IsResolved, IsSpecOf}, declared.value_spec.ValueSpec.{ValueSpec}}
use Rattle.fm_path_text.specs.declared.step.PathStep.{PathStep}
use Rattle.fm_records.specs.{Laws.{IsNumberOf, StandsAt}, Values.{number_there, number_at}}

number_of_spec : (t : Tree) (v : ValueSpec) (at : ℕ) (bytes : List ℕ) → IsSpecOf t v → IsNumberOf t at bytes (number_there v.kind v.order at bytes)
number_of_spec (Value k o l) v at bytes is =
    ap (λ kind. number_there kind v.order at bytes) is.0 ∙ ap (λ order. number_there k order at bytes) is.1
number_of_spec (Padding n l) v at bytes is = is
number_of_spec (Sequence n e l) v at bytes is = is
number_of_spec (Struct ms l) v at bytes is = is
number_of_spec (Union ms l) v at bytes is = is

pub number_stands : (path : List PathStep) (t : Tree) (r : Resolution) (is bytes : List ℕ) → IsResolved path t r → AreAdmitted r.dims is
    → StandsAt path t is bytes (number_at r is bytes)
number_stands path t r is bytes resolved admitted = record {
  at = offset_at r.offset r.dims is;
  layout = resolved.last;
  finds = resolved.finds is admitted;
  number = number_of_spec resolved.last r.value (offset_at r.offset r.dims is) bytes resolved.value;
}
