-- Where the text of a record stands that a path comes to, and why a path is refused.
use Rattle.std.specs.Prelude.{◌≡◌, ◌≢◌, ℕ, ◌+◌, ◌<◌, ◌≤◌, Bool, true, false, if◌then◌else◌, Option, Some, None, Err, List}
use Rattle.fm_base.specs.declared.refusal.Refusal.{Refusal, TheVariants.{Memory, Unsupported}}
use Rattle.fm_lanes.specs.declared.value_kind.ValueKind.TheVariants.{Byte}
use Rattle.fm_layout.specs.{Tree.{Tree, Value, Sequence}, Size.{size_of}}
use Rattle.fm_path_text.specs.{declared.step.PathStep.{PathStep}, Grammar.{IsTextOf, IsNoPath}}
use Rattle.fm_path_meaning.specs.{Follow.{follow_closed}, Found.{FindsClosed}}
use Rattle.fm_top_texts.specs.declared.plan.TextPlan.{TextPlan}

abbrev pub is_byte : Tree → Bool
is_byte (Value Byte o l) = true
is_byte t = false

-- how many byte values the layout is a sequence of, if it is one of them
abbrev pub bytes_in : Tree → Option ℕ
bytes_in (Sequence n e l) = if is_byte e then Some n else None
bytes_in t = None

-- the text is that of a path which ends, with no step left open, at a sequence of byte values: so many, so far from the record's start
pub record IsTextPlanned (text : List ℕ) (t : Tree) (p : TextPlan) : Type 0 where
  pub path : List PathStep
  pub spelled : IsTextOf text path
  pub end : Tree
  pub finds : FindsClosed path t p.offset end
  pub bytes : bytes_in end ≡ Some p.count
  pub size : p.size ≡ size_of t

-- Why there is none, but for want of memory: the text is no path's; else a step can't be taken; else the path ends at no sequence of byte values.
pub data IsTextUnplanned (text : List ℕ) (t : Tree) : Refusal → Type 0 where
  no_path : (e : Refusal) → IsNoPath text e → e ≢ Memory → IsTextUnplanned text t e
  no_step : (path : List PathStep) (e : Refusal) → IsTextOf text path → follow_closed path t ≡ Err e → IsTextUnplanned text t e
  no_bytes : (path : List PathStep) (at : ℕ) (end : Tree) → IsTextOf text path → FindsClosed path t at end → bytes_in end ≡ None
      → IsTextUnplanned text t Unsupported

-- the text's bytes are a record's
abbrev pub LiesWithin : TextPlan → Type 0
LiesWithin p = p.offset + p.count ≤ p.size

-- records have bytes, and among those of each are the text's
abbrev pub IsOfRecords : TextPlan → Type 0
IsOfRecords p = (0 < p.size) × LiesWithin p
