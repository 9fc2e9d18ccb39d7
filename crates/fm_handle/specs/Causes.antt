-- Why a call is refused, the first cause that applies.
use Rattle.std.specs.Prelude.{Bool, ◌≡◌, ℕ, ◌+◌, ◌%◌, ◌≤◌, List}
use Rattle.fm_base.specs.declared.{caller.Caller.{Caller}, refusal.Refusal.{Refusal, TheVariants.{IndexOut}}}
use Rattle.fm_path.specs.{declared.value_spec.ValueSpec.{ValueSpec}, Resolution.{Resolution}}
use Rattle.fm_path_meaning.specs.{declared.dim.Dim.{Dim}, Found.{IsFirstOut}, Walk.{AreAdmitted}}
use Rattle.fm_segment_access.specs.Found.{PlaceCause, WriteCause, SupportCause}
use Rattle.fm_segment.specs.Region.{Region}

-- the whole root lies in the segment
abbrev pub RootFits : ℕ → Resolution → Region → Type 0
RootFits base h r = base + h.root_size ≤ r.size

abbrev pub RootIsAligned : ℕ → Resolution → Region → Type 0
RootIsAligned base h r = (r.first + base) % h.root_alignment ≡ 0

abbrev pub RootCause : ℕ → Resolution → Region → Caller → Refusal → Type 0
RootCause base h r = PlaceCause base h.root_size h.root_alignment r.first r.size r.arena

-- the indices are tested first
abbrev pub IndexCause : List Dim → List ℕ → (Refusal → Type 0) → Refusal → Type 0
IndexCause ds is Cause (IndexOut k) = IsFirstOut 0 ds is (IndexOut k)
IndexCause ds is Cause e = AreAdmitted ds is × Cause e

abbrev pub GetCause : ℕ → List ℕ → Resolution → Region → Caller → Refusal → Type 0
GetCause base is h r c = IndexCause h.dims is (RootCause base h r c)

abbrev pub SetCause : ℕ → List ℕ → Resolution → Region → Caller → Refusal → Type 0
SetCause base is h r c = IndexCause h.dims is (WriteCause r.read_only (RootCause base h r c))

abbrev pub UpdateCause : (ValueSpec → Bool) → ℕ → List ℕ → Resolution → Region → Caller → Refusal → Type 0
UpdateCause works_on base is h r c = SupportCause (works_on h.value) (SetCause base is h r c)
