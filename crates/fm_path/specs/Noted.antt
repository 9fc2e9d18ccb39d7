-- The names of a group's members, noted one after the other.
use Rattle.std.specs.{Prelude.{◌≡◌, ℕ, Bool, false, ◌||◌, not, Option, Some, None, List, if◌then◌else◌}, BTreeSet.{BTreeSet, contains_by}}
use Rattle.std.{specs.{Cmp.Lexicographic.{slice_cmp}, Ordering.{nat_cmp}}, proofs.Common.{Bor}}
use Rattle.fm_path_text.specs.declared.step.PathStep.{PathStep, TheVariants.{Name, Group}}
use Rattle.fm_path_meaning.specs.Follow.{is_name_of}

abbrev pub Names : Type 0
Names = BTreeSet (Bor (List ℕ))

abbrev pub has_name : Names → List ℕ → Bool
has_name names name = contains_by (λ k. slice_cmp nat_cmp name k.now) names

-- there is a name, which wasn't noted
abbrev pub is_new : Names → Option (List ℕ) → Bool
is_new names None = false
is_new names (Some name) = not (has_name names name)

-- the name, if any, was added to those of before
abbrev pub Notes : Names → Names → Option (List ℕ) → Type 0
Notes old new own = (name : List ℕ) → has_name new name ≡ (is_name_of own name || has_name old name)

-- the step to member i: its name, where it is the first of that name, else its index
abbrev pub step_by : Bool → ℕ → Option (List ℕ) → PathStep
step_by first i None = Group i
step_by first i (Some name) = if first then Name name else Group i
