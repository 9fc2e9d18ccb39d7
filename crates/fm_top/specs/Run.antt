-- What a run of the tool does: the outcome that its words and files have, and how it may end.
use Rattle.std.specs.Prelude.{◌≡◌, ◌⊎◌, ℕ, List, Option}
use Rattle.fm_io.specs.{Count.{Rose, Raised}, Files.{Contents}, Sink.{Appends, AppendsPrefix, SinkView}, View.{FilesView}}
use Rattle.fm_top.specs.{Causes.{OverFiles, LacksFile, HasLongFile, HasRefusedLayout, HasRefusedQuery, HasRaggedFile, HasRefusedScript}, Demos.{DemoEnds}}
use Rattle.fm_top.specs.{Found.{OfFile}, Outcome.{Outcome, SumEnds, layout_outcome, usage}, Queries.{AskEnds}, Scripts.{ScriptEnds}}
use Rattle.fm_top.specs.{Words.{Request, Sum, Layout, Ask, Demo, Run, Asks, AreFaulty, first_file, last_file}, declared.outcome.left.Left.{Left}}
use Rattle.fm_top.specs.declared.outcome.{left.Left.TheVariants.{Nothing}, status.Status.{Status}}
use Rattle.fm_top.specs.declared.outcome.status.Status.TheVariants.{Answered, Usage, Missing, Unread, LayoutRefused, QueryRefused, Ragged, TooLong, Unwritten, NoMemory, ScriptRefused}

-- the status as the process answers it
abbrev pub code_of : Status → ℕ
code_of Answered = 0
code_of Usage = 1
code_of Missing = 2
code_of Unread = 3
code_of LayoutRefused = 4
code_of QueryRefused = 5
code_of Ragged = 6
code_of TooLong = 7
code_of Unwritten = 8
code_of NoMemory = 9
code_of ScriptRefused = 10

-- how the request ends where this is found under the names of its first and its last file
abbrev pub EndsBy : Request → Option (List ℕ) → Option (List ℕ) → Outcome → Type 0
EndsBy (Sum size at kind file) first last o = SumEnds size at kind file first o
EndsBy (Layout text file) first last o = o ≡ layout_outcome text file first
EndsBy (Ask wish layout text file) first last o = AskEnds wish layout text file last first o
EndsBy (Demo threads count) first last o = DemoEnds count o
EndsBy (Run file) first last o = ScriptEnds file first o

-- an outcome of the request: over the files that are told, or else over what some reads may find
abbrev pub HasOutcome : Request → Option Contents → Outcome → Type 0
HasOutcome request told o =
    OfFile told (first_file request) (λ first. OfFile told (last_file request) (λ last. EndsBy request first last o))

-- its outcome over these files
abbrev pub IsOutcomeOver : Request → Contents → Outcome → Type 0
IsOutcomeOver request contents o = OverFiles (λ r first last. EndsBy r first last o) request contents

-- the words are those of a request
abbrev pub AskSome : List (List ℕ) → Type 0
AskSome words = (request : Request) × Asks words request

-- an outcome of the words: usage, where they ask for nothing that there is
pub data IsOutcome (words : List (List ℕ)) (told : Option Contents) : Outcome → Type 0 where
  faulty : AreFaulty words → IsOutcome words told usage
  asked : (request : Request) (o : Outcome) → Asks words request → HasOutcome request told o → IsOutcome words told o

-- What the files and the sink tell before a run and after it.
pub record Traces : Type 0 where
  pub old : FilesView
  pub new : FilesView
  pub before : SinkView
  pub after : SinkView

abbrev pub traces_of : FilesView → FilesView → SinkView → SinkView → Traces
traces_of old new before after = record { old = old; new = new; before = before; after = after }

-- with which status the writing of an outcome's text may end
pub data Prints (o : Outcome) (before after : SinkView) : Status → Type 0 where
  printed : Appends before.written after.written o.text → Prints o before after o.status
  failed : Raised before.faults after.faults → AppendsPrefix before.written after.written o.text → Prints o before after Unwritten
  stopped : AppendsPrefix before.written after.written o.text → Prints o before after NoMemory

-- what a run of the words leaves and keeps, and with which status it may end
pub data Runs (words : List (List ℕ)) (t : Traces) : Left → Status → Type 0 where
  -- an outcome of the words was known, and its text was written, or a prefix of it where a write failed or memory ran out
  ended : (o : Outcome) (status : Status) → IsOutcome words t.old.holds o → Prints o t.before t.after status → Runs words t o.left status
  -- a read failed, and nothing was written
  unread : AskSome words → Rose t.old.faults t.new.faults → t.after.written ≡ t.before.written → Runs words t Nothing Unread
  -- memory ran out before the outcome was known: nothing was written, and nothing is kept
  unknown : t.after.written ≡ t.before.written → Runs words t Nothing NoMemory

-- The run tells that a file is missing: it came to such an outcome, and ended as the writing of its text did.
pub record TellsMissing (words : List (List ℕ)) (t : Traces) (left : Left) (status : Status) : Type 0 where
  pub outcome : Outcome
  pub is_outcome : IsOutcome words t.old.holds outcome
  pub missing : outcome.status ≡ Missing
  pub prints : Prints outcome t.before t.after status
  pub left_is : left ≡ outcome.left

-- the status, or an end in the writing of its text or for want of memory
abbrev pub EndsWith : Status → Status → Type 0
EndsWith wanted status = (status ≡ wanted) ⊎ ((status ≡ Unwritten) ⊎ (status ≡ NoMemory))

-- The input is valid: no cause of another status than 0 applies.
pub record IsValid (request : Request) (contents : Contents) : Type 0 where
  pub there : OverFiles LacksFile request contents → ⊥
  pub short : OverFiles HasLongFile request contents → ⊥
  pub layout : OverFiles HasRefusedLayout request contents → ⊥
  pub query : OverFiles HasRefusedQuery request contents → ⊥
  pub records : OverFiles HasRaggedFile request contents → ⊥
  pub script : OverFiles HasRefusedScript request contents → ⊥

-- the run ends with an answer of the words written whole, with what it keeps, or for want of memory: as that answer is written, or
-- before it was known
pub data Answers (words : List (List ℕ)) (t : Traces) : Left → Status → Type 0 where
  is_answered : (o : Outcome) → IsOutcome words t.old.holds o → o.status ≡ Answered → Appends t.before.written t.after.written o.text
      → Answers words t o.left Answered
  cut_short : (o : Outcome) → IsOutcome words t.old.holds o → o.status ≡ Answered → AppendsPrefix t.before.written t.after.written o.text
      → Answers words t o.left NoMemory
  wants_memory : t.after.written ≡ t.before.written → Answers words t Nothing NoMemory
