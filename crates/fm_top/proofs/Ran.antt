-- What is learnt from a run.
use Rattle.std.{proofs.Common.{◌≡◌, ℕ, List, Option, Some, refl, sym, ap, subst, ◌≢◌, ◌≤◌, Result, Ok, Err, inl, inr}, specs.Prelude.{◌⊎◌, IsErrOf}}
use Rattle.fm_io.specs.{Count.{Rose, Raised}, Files.{Contents}, View.{FilesView}, Sink.{SinkView}}
use Rattle.fm_top.specs.{Causes.{OverFiles}, Ending.{IsMiss, IsUntold, end_of}, Ends.{EndsWords}, Outcome.{Outcome}, Ran.{Ran}}
use Rattle.fm_top.specs.Run.{HasOutcome, IsOutcome, faulty, asked, Traces, printed, failed, stopped, Runs, ended, unread, unknown, IsValid, Answers, is_answered, cut_short, wants_memory, Prints, TellsMissing, code_of, traces_of}
use Rattle.fm_top.specs.{Words.{Request, Asks}, declared.outcome.{left.Left.{Left}, reply.Reply.{Reply}, status.Status.{Status}, stop.Stop.{Stop}}}
use Rattle.fm_top.specs.declared.outcome.status.Status.TheVariants.{Answered, Missing, LayoutRefused, QueryRefused, Ragged, TooLong, ScriptRefused, Unread, Unwritten}
use Rattle.fm_top.proofs.{Causes.{CauseOf}, Comes.{told_cause, comes_of}, Ends.{misses, tells_miss}, Requests.{same_request}, Runs.{code_of-injective, faulty_ends}}
use Rattle.fm_top.specs.declared.outcome.stop.Stop.TheVariants as stop

-- of valid input no status but that of an answer has a cause
valid_status : (s : Status) (request : Request) (contents : Contents) → IsValid request contents → OverFiles (CauseOf s) request contents → s ≡ Answered
valid_status Answered request contents valid cause = refl
valid_status Missing request contents valid cause = absurd (valid.there cause)
valid_status LayoutRefused request contents valid cause = absurd (valid.layout cause)
valid_status QueryRefused request contents valid cause = absurd (valid.query cause)
valid_status Ragged request contents valid cause = absurd (valid.records cause)
valid_status TooLong request contents valid cause = absurd (valid.short cause)
valid_status ScriptRefused request contents valid cause = absurd (valid.script cause)
valid_status s request contents valid cause = absurd cause

valid_answered : (words : List (List ℕ)) (told : Option Contents) (o : Outcome) (request : Request) (contents : Contents) → IsOutcome words told o
    → Asks words request → told ≡ Some contents → IsValid request contents → o.status ≡ Answered
valid_answered words told o request contents (faulty none) asks tells valid = absurd (none request asks)
valid_answered words told o request contents (asked r x asks_r has) asks tells valid =
    let of_request = subst (λ (y : Request). HasOutcome y told x) (same_request words r request asks_r asks) has in
    valid_status x.status request contents valid
    (told_cause request contents x (subst (λ (h : Option Contents). HasOutcome request h x) tells of_request))

-- valid input is answered, where no read or write failed
pub complete : {words : List (List ℕ)} {t : Traces} {k : Left} {s : Status} → Runs words t k s → (request : Request) (contents : Contents)
    → Asks words request → t.old.holds ≡ Some contents → IsValid request contents
    → (Rose t.old.faults t.new.faults → ⊥) → (Raised t.before.faults t.after.faults → ⊥) → Answers words t k s
complete {words} {t} (ended o r is (printed all)) request contents asks tells valid no_read no_write =
    let status = valid_answered words t.old.holds o request contents is asks tells valid in
    subst (λ (r : Status). Answers words t o.left r) (sym status) (is_answered o is status all)
complete (ended o r is (failed rose front)) request contents asks tells valid no_read no_write = absurd (no_write rose)
complete {words} {t} (ended o r is (stopped front)) request contents asks tells valid no_read no_write =
    cut_short o is (valid_answered words t.old.holds o request contents is asks tells valid) front
complete (unread ask rose same) request contents asks tells valid no_read no_write = absurd (no_read rose)
complete (unknown same) request contents asks tells valid no_read no_write = wants_memory same

-- ---- the whole of it

module _ {words : List (List ℕ)} {old new : FilesView} {before after : SinkView} where
  -- the rest follows from how the run ended and what its end showed of the files
  ran_so : {end : Result Reply Stop} {left : Left} {status : Status} → EndsWords words old new end
      → Runs words (traces_of old new before after) left status
      → (status ≡ Missing → Rose old.misses new.misses) → (new.misses ≡ old.misses) ⊎ TellsMissing words (traces_of old new before after) left status
      → (status ≢ Unread → new.faults ≡ old.faults) → (status ≢ Unwritten → after.faults ≡ before.faults) → before.faults ≤ after.faults
      → Ran words (traces_of old new before after) left (code_of status)
  ran_so {status = status} ends runs missed missed_well read_well written_well writes_stay = record {
    status = status;
    ended = refl;
    only = λ other same. code_of-injective other status (sym same);
    runs = runs;
    causes = comes_of runs missed;
    faulty = faulty_ends runs;
    read_well = read_well;
    written_well = written_well;
    missed_well = missed_well;
    complete = complete runs;
    reads = ends.reads;
    held = ends.files.held;
    faults_stay = ends.files.faults.stays;
    misses_stay = ends.files.misses.stays;
    writes_stay = writes_stay;
  }

  -- its end is known, and was printed
  ran_told : (end : Result Reply Stop) {status : Status} → EndsWords words old new end → IsOutcome words old.holds (end_of end) → ¬ (IsErrOf end stop.Unread)
      → (new.misses ≡ old.misses) ⊎ IsMiss end → Prints (end_of end) before after status → (status ≡ Missing → (end_of end).status ≡ Missing)
      → (status ≢ Unwritten → after.faults ≡ before.faults) → before.faults ≤ after.faults
      → Ran words (traces_of old new before after) (end_of end).left (code_of status)
  ran_told end {status} ends known fine missed prints missing written_well writes_stay =
      ran_so ends (ended (end_of end) status known prints) (λ is. ends.files.misses.rose (misses end (missing is)))
      (elim missed [
        | inl same ↦ inl same
        | inr miss ↦ inr (record { outcome = end_of end; is_outcome = known; missing = tells_miss end miss; prints = prints; left_is = refl })
      ]) (λ other. ends.files.faults.quiet fine) written_well writes_stay

  -- it came to this end
  pub ran : (end : Result Reply Stop) {left : Left} {status : Status} → EndsWords words old new end → Prints (end_of end) before after status
      → left ≡ (end_of end).left → (IsUntold end → (after ≡ before) × (status ≡ (end_of end).status)) → (status ≡ Missing → (end_of end).status ≡ Missing)
      → (status ≢ Unwritten → after.faults ≡ before.faults) → before.faults ≤ after.faults → Ran words (traces_of old new before after) left (code_of status)
  ran (Err stop.Unread) ends prints is_left untold missing written_well writes_stay =
      let is = untold tt in
      let written : after.written ≡ before.written = ap (λ (v : SinkView). v.written) is.0 in
      let faults : after.faults ≡ before.faults = ap (λ (v : SinkView). v.faults) is.0 in
      rw (is_left, is.1) (ran_so ends (unread (ends.asked refl) (ends.files.faults.rose refl) written) (λ e. absurd (cc))
      (inl (ends.files.misses.quiet (λ e. e))) (λ other. absurd (other refl)) (λ other. faults) writes_stay)
  ran (Err stop.Memory) ends prints is_left untold missing written_well writes_stay =
      let is = untold tt in
      let written : after.written ≡ before.written = ap (λ (v : SinkView). v.written) is.0 in
      let faults : after.faults ≡ before.faults = ap (λ (v : SinkView). v.faults) is.0 in
      rw (is_left, is.1) (ran_so ends (unknown written) (λ e. absurd (cc)) (inl (ends.files.misses.quiet (λ e. e)))
      (λ other. ends.files.faults.quiet (λ e. absurd (cc))) (λ other. faults) writes_stay)
  ran (Err (stop.Missing file)) ends prints is_left untold missing written_well writes_stay =
      rw is_left (ran_told (Err (stop.Missing file)) ends ends.outcome (λ e. absurd (cc)) (inr tt) prints missing written_well writes_stay)
  ran (Err why) ends prints is_left untold missing written_well writes_stay =
      rw is_left (ran_told (Err why) ends ends.outcome (λ e. absurd (cc)) (inl (ends.files.misses.quiet (λ e. e))) prints missing written_well writes_stay)
  ran (Ok reply) ends prints is_left untold missing written_well writes_stay =
      rw is_left (ran_told (Ok reply) ends ends.outcome (λ e. absurd (cc)) (inl (ends.files.misses.quiet (λ e. e))) prints missing written_well writes_stay)
