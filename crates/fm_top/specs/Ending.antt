-- What a run comes to: its reply, or why it stops.
use Rattle.std.specs.Prelude.{⊤, ℕ, List, [], ◌++◌, Result, Ok, Err, string_bytes}
use Rattle.fm_io.specs.declared.fault.Fault.{Fault, TheVariants.{Failed, Memory}}
use Rattle.fm_records.specs.Texts.{answer_text}
use Rattle.fm_top.specs.Outcome.{Outcome, bare, usage, missing, too_long, layout_refused, query_refused, ragged, script_refused}
use Rattle.fm_top.specs.declared.outcome.{answered.Answered.{Answered}, reply.Reply.{Reply}, status.Status.{Status}, stop.Stop.{Stop}}
use Rattle.fm_top.specs.declared.outcome.{status.Status.TheVariants.{Answered as Told, Unread, Unwritten, NoMemory}, output.Output.{Output, TheVariants.{Whole, Bytes, Answer, Both, Texts}}}
use Rattle.fm_top.specs.declared.outcome.stop.Stop.TheVariants as stop

abbrev pub answered_text : Answered → List ℕ
answered_text a = answer_text a.query a.answer

abbrev pub text_of : Output → List ℕ
text_of (Whole text) = string_bytes text
text_of (Bytes bytes) = bytes.items
text_of (Answer answered) = answered_text answered
text_of (Both first second) = answered_text first ++ answered_text second
text_of (Texts lines) = lines

abbrev pub shown : Reply → Outcome
shown reply = record { status = Told; text = text_of reply.text; left = reply.left }

-- how a run ends that stops so: nothing is told of a failed read, or of want of memory
abbrev pub told : Stop → Outcome
told stop.Usage = usage
told (stop.Missing file) = missing file.now
told stop.Unread = bare Unread []
told stop.TooLong = too_long
told (stop.LayoutRefused refusal) = layout_refused refusal
told (stop.QueryRefused refusal) = query_refused refusal
told (stop.Ragged rest) = ragged rest
told (stop.ScriptRefused line) = script_refused line
told stop.Memory = bare NoMemory []

abbrev pub end_of : Result Reply Stop → Outcome
end_of (Ok reply) = shown reply
end_of (Err why) = told why

-- how it would have ended isn't known
abbrev pub IsUntold : Result Reply Stop → Type 0
IsUntold (Err stop.Unread) = ⊤
IsUntold (Err stop.Memory) = ⊤
IsUntold end = ⊥

-- it tells of a missing file
abbrev pub IsMiss : Result Reply Stop → Type 0
IsMiss (Err (stop.Missing file)) = ⊤
IsMiss end = ⊥

-- this holds of how it ends, as far as that is known
abbrev pub EndsAs : (Outcome → Type 0) → Result Reply Stop → Type 0
EndsAs Has (Err stop.Unread) = ⊤
EndsAs Has (Err stop.Memory) = ⊤
EndsAs Has end = Has (end_of end)

-- the status that the writing of a text comes to, which tells this one
abbrev pub status_by : Status → Result ⊤ Fault → Status
status_by status (Ok written) = status
status_by status (Err Failed) = Unwritten
status_by status (Err Memory) = NoMemory
