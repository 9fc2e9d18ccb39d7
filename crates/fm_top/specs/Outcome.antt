-- How a run ends: its status, all that it prints, and what it keeps.
use Rattle.std.specs.Prelude.{◌≡◌, ◌≢◌, ℕ, ◌%◌, ◌<◌, ◌≤◌, nat_lt, if◌then◌else◌, List, [], ◌∷◌, ◌++◌, length, codes, Option, None, Some, Result, Ok, Err}
use Rattle.std.specs.Fmt.{decimal, signed_decimal}
use Rattle.fm_top_load.specs.Limits.{record_file_limit}
use Rattle.fm_base.specs.{Printed.{refusal_text}, declared.refusal.Refusal.{Refusal}}
use Rattle.fm_lanes.specs.declared.value_kind.ValueKind.{ValueKind}
use Rattle.fm_layout.specs.Tree.{Tree}
use Rattle.fm_ljson.specs.Answer.{layout_of_json}
use Rattle.fm_ljson_write.specs.Canonical.{document_text}
use Rattle.fm_path.specs.Listing.{list_text}
use Rattle.fm_script_report.specs.{Texts.{report_text}, Views.{ReportView}}
use Rattle.fm_rule.specs.Finishing.{FinishedView}
use Rattle.fm_top.specs.{Records.{sum_of_values}, declared.{command.layout_text.LayoutText.{LayoutText, TheVariants.{Places, Json}}, outcome.left.Left.{Left}}}
use Rattle.fm_top.specs.declared.outcome.{left.Left.TheVariants.{Nothing, Pool, Report}, status.Status.{Status}}
use Rattle.fm_top.specs.declared.outcome.status.Status.TheVariants.{Answered, Usage, Missing, LayoutRefused, QueryRefused, Ragged, TooLong, ScriptRefused}

pub record Outcome : Type 0 where
  pub status : Status
  pub text : List ℕ
  pub left : Left

-- it keeps nothing
abbrev pub bare : Status → List ℕ → Outcome
bare status text = record { status = status; text = text; left = Nothing }

-- a line of text
abbrev pub line : List ℕ → List ℕ
line text = text ++ 10 ∷ []

-- the most bytes of a layout's file
abbrev pub layout_file_limit : ℕ
layout_file_limit = 1048576

-- the most bytes of a script's file
abbrev pub script_file_limit : ℕ
script_file_limit = 1048576

-- the words are no command
abbrev pub usage : Outcome
usage = bare Usage (line (codes "usage"))

-- there is no file of that name
abbrev pub missing : List ℕ → Outcome
missing file = bare Missing (line (codes "missing " ++ file))

-- the file has more bytes than the limit
abbrev pub too_long : Outcome
too_long = bare TooLong (line (codes "too long"))

-- the file's length leaves this rest when it is cut into records
abbrev pub ragged : ℕ → Outcome
ragged rest = bare Ragged (line (codes "ragged " ++ decimal rest))

-- the layout, the query or the path is refused
abbrev pub refused : Status → List ℕ → Refusal → Outcome
refused status what refusal = bare status (line (what ++ (codes " refused " ++ refusal_text refusal)))

abbrev pub layout_refused : Refusal → Outcome
layout_refused refusal = refused LayoutRefused (codes "layout") refusal

abbrev pub query_refused : Refusal → Outcome
query_refused refusal = refused QueryRefused (codes "query") refusal

-- the script is refused at this line
abbrev pub script_refused : ℕ → Outcome
script_refused number = bare ScriptRefused (line (codes "script refused " ++ decimal number))

-- all else: the answer
abbrev pub answered : List ℕ → Outcome
answered text = bare Answered text

-- the answer, and the pool that gave it
abbrev pub answered_by_pool : List ℕ → FinishedView → Outcome
answered_by_pool text finished = record { status = Answered; text = text; left = Pool finished }

-- what a script's run came to
abbrev pub reported : ReportView → Outcome
reported report = record { status = Answered; text = report_text report; left = Report report }

-- how a command ends that cuts the file of this name, which may have so many bytes, into records of this size, where this is found under the name,
-- and `Answers` says how for whole records
pub data RecordsEnd (limit size : ℕ) (file : List ℕ) (Answers : List ℕ → Outcome → Type 0) : Option (List ℕ) → Outcome → Type 0 where
  no_file : RecordsEnd limit size file Answers None (missing file)
  too_many : (bytes : List ℕ) → limit < length bytes → RecordsEnd limit size file Answers (Some bytes) too_long
  uneven : (bytes : List ℕ) → length bytes ≤ limit → length bytes % size ≢ 0
      → RecordsEnd limit size file Answers (Some bytes) (ragged (length bytes % size))
  even : (bytes : List ℕ) (o : Outcome) → length bytes ≤ limit → length bytes % size ≡ 0 → Answers bytes o
      → RecordsEnd limit size file Answers (Some bytes) o

-- what `sum` prints for a file
abbrev pub sum_text : ℕ → ℕ → ValueKind → List ℕ → List ℕ
sum_text size at kind bytes = line (codes "sum " ++ signed_decimal (sum_of_values kind size at bytes))

-- how `sum` ends for a file of whole records
abbrev pub IsSummed : ℕ → ℕ → ValueKind → List ℕ → Outcome → Type 0
IsSummed size at kind bytes o = o ≡ answered (sum_text size at kind bytes)

-- how it ends where this is found under its file's name
abbrev pub SumEnds : ℕ → ℕ → ValueKind → List ℕ → Option (List ℕ) → Outcome → Type 0
SumEnds size at kind file found o = RecordsEnd record_file_limit size file (IsSummed size at kind) found o

-- what `layout` prints of a layout, and what `migrate` prints
abbrev pub printed : LayoutText → Tree → List ℕ
printed Places layout = list_text layout
printed Json layout = line (document_text layout)

-- how they end for a layout, or for its refusal
abbrev pub shows : LayoutText → Result Tree Refusal → Outcome
shows text (Ok layout) = answered (printed text layout)
shows text (Err refusal) = layout_refused refusal

-- how they end for a file of these bytes
abbrev pub layout_of_file : LayoutText → List ℕ → Outcome
layout_of_file text bytes =
    if nat_lt layout_file_limit (length bytes) then too_long
    else shows text (layout_of_json bytes)

abbrev pub layout_outcome : LayoutText → List ℕ → Option (List ℕ) → Outcome
layout_outcome text file None = missing file
layout_outcome text file (Some bytes) = layout_of_file text bytes
