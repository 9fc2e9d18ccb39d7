-- What is learnt from a run of the tool.
use Rattle.std.specs.Prelude.{◌≡◌, ◌≢◌, ◌≤◌, ◌⊎◌, ⊤, ℕ, List, Option, IfSome, Some}
use Rattle.fm_io.specs.{Count.{Rose, Raised}, Files.{Contents}}
use Rattle.fm_top.specs.{Causes.{OverFiles, LacksFile, HasLongFile, HasRefusedLayout, HasRefusedQuery, HasRaggedFile, HasRefusedScript}, Reading.{ReadsFor}}
use Rattle.fm_top.specs.{Run.{Answers, EndsWith, IsValid, Runs, TellsMissing, Traces, code_of}, Words.{AreFaulty, Asks, Request}}
use Rattle.fm_top.specs.declared.outcome.{left.Left.{Left}, status.Status.{Status}}
use Rattle.fm_top.specs.declared.outcome.status.Status.TheVariants.{Answered, Usage, Missing, Unread, LayoutRefused, QueryRefused, Ragged, TooLong, Unwritten, NoMemory, ScriptRefused}

-- the words ask for this, where the files tell
abbrev pub AskFor : List (List ℕ) → Option Contents → (Request → Option (List ℕ) → Option (List ℕ) → Type 0) → Type 0
AskFor words told Has = (request : Request) × Asks words request × IfSome told (OverFiles Has request)

-- the causes, where these traces were left
abbrev pub ComesOf : List (List ℕ) → Traces → Status → Type 0
ComesOf words t Answered = ⊤
ComesOf words t Usage = AreFaulty words
ComesOf words t Missing = AskFor words t.old.holds LacksFile × Rose t.old.misses t.new.misses
ComesOf words t Unread = Rose t.old.faults t.new.faults
ComesOf words t LayoutRefused = AskFor words t.old.holds HasRefusedLayout
ComesOf words t QueryRefused = AskFor words t.old.holds HasRefusedQuery
ComesOf words t Ragged = AskFor words t.old.holds HasRaggedFile
ComesOf words t TooLong = AskFor words t.old.holds HasLongFile
ComesOf words t Unwritten = Raised t.before.faults t.after.faults
ComesOf words t NoMemory = ⊤
ComesOf words t ScriptRefused = AskFor words t.old.holds HasRefusedScript

pub record Ran (words : List (List ℕ)) (t : Traces) (left : Left) (code : ℕ) : Type 0 where
  -- The code is that of one status.
  pub status : Status
  pub ended : code ≡ code_of status
  pub only : (other : Status) → code ≡ code_of other → other ≡ status
  -- The status is that of an outcome of the words and the files, or of what hindered it; so are what was written and what is kept.
  pub runs : Runs words t left status
  -- Each status has its cause.
  pub causes : ComesOf words t status
  -- Words that are no command are told so.
  pub faulty : AreFaulty words → EndsWith Usage status
  -- Where a read failed the status is `Unread`, and where a write failed it is `Unwritten`: any other leaves the count.
  pub read_well : status ≢ Unread → t.new.faults ≡ t.old.faults
  pub written_well : status ≢ Unwritten → t.after.faults ≡ t.before.faults
  -- Where a read found no file the run tells so, and ends as the writing of that does: with `Missing`, `Unwritten` or `NoMemory`. Any other end leaves the count.
  pub missed_well : (t.new.misses ≡ t.old.misses) ⊎ TellsMissing words t left status
  -- Valid input is answered where files tell and no read or write failed.
  pub complete : (request : Request) (contents : Contents) → Asks words request → t.old.holds ≡ Some contents → IsValid request contents
      → ¬ (Rose t.old.faults t.new.faults) → ¬ (Raised t.before.faults t.after.faults) → Answers words t left status
  -- The first file is read, and then the last one where that needs it, each in pieces, and no read follows on another answer than bytes.
  pub reads : (request : Request) → Asks words request → ReadsFor request t.old.holds t.old.reads t.new.reads
  -- What the files hold stays, and no count falls, so that another run may follow.
  pub held : t.new.holds ≡ t.old.holds
  pub faults_stay : t.old.faults ≤ t.new.faults
  pub misses_stay : t.old.misses ≤ t.new.misses
  pub writes_stay : t.before.faults ≤ t.after.faults
