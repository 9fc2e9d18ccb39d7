-- What each status of a run comes of.
use Rattle.std.proofs.Common.{◌≡◌, ℕ, List, Option, None, Some, IfSome, refl, sym, subst}
use Rattle.fm_io.specs.{Count.{Rose}, Files.{Contents}}
use Rattle.fm_top.specs.{Causes.{OverFiles}, Found.{OfFile, file_under}, Outcome.{Outcome}}
use Rattle.fm_top.specs.Run.{EndsBy, HasOutcome, IsOutcomeOver, faulty, asked, Traces, printed, failed, stopped, Runs, ended, unread, unknown}
use Rattle.fm_top.specs.{Ran.{AskFor, ComesOf}, Words.{Request, first_file, last_file}, declared.outcome.{left.Left.{Left}, status.Status.{Status}}}
use Rattle.fm_top.{specs.declared.outcome.status.Status.TheVariants.{Answered, Usage, Missing, Unread, Unwritten, NoMemory}, proofs.Causes.{CauseOf, end_cause}}
use Rattle.fm_top.proofs.Runs.{found_cause}

-- where the files tell, what is found is what they hold
of_told : (contents : Contents) (name : Option (List ℕ)) (P : Option (List ℕ) → Type 0) → OfFile (Some contents) name P → P (file_under contents name)
of_told contents None P has = has
of_told contents (Some name) P has = subst P (sym has.1) has.2

module _ (request : Request) (contents : Contents) (o : Outcome) (has : HasOutcome request (Some contents) o) where
  -- so an outcome of the request is one over them
  pub over_told : IsOutcomeOver request contents o
  over_told =
      of_told contents (last_file request) (λ last. EndsBy request (file_under contents (first_file request)) last o)
      (of_told contents (first_file request) (λ first. OfFile (Some contents) (last_file request) (λ last. EndsBy request first last o)) has)

  -- and its status has its cause in them
  pub told_cause : OverFiles (CauseOf o.status) request contents
  told_cause = end_cause request (file_under contents (first_file request)) (file_under contents (last_file request)) o over_told

-- the same, if they tell
cause_told : (request : Request) (told : Option Contents) (o : Outcome) → HasOutcome request told o → IfSome told (OverFiles (CauseOf o.status) request)
cause_told request None o has = tt
cause_told request (Some contents) o has = told_cause request contents o has

-- the cause of an outcome's status is that of a run with it
caused : {words : List (List ℕ)} (t : Traces) (request : Request) (first last : Option (List ℕ)) (s : Status) → CauseOf s request first last
    → AskFor words t.old.holds (CauseOf s) → (s ≡ Missing → Rose t.old.misses t.new.misses) → ComesOf words t s
caused t request first last Answered cause asks rose = tt
caused t request first last Missing cause asks rose = (asks, rose refl)
caused t request first last Usage cause asks rose = absurd cause
caused t request first last Unread cause asks rose = absurd cause
caused t request first last Unwritten cause asks rose = absurd cause
caused t request first last NoMemory cause asks rose = absurd cause
caused t request first last s cause asks rose = asks

-- each status has its cause
pub comes_of : {words : List (List ℕ)} {t : Traces} {k : Left} {s : Status} → Runs words t k s → (s ≡ Missing → Rose t.old.misses t.new.misses)
    → ComesOf words t s
comes_of (ended o r (faulty none) (printed all)) missed = none
comes_of {words} {t} (ended o r (asked request x asks has) (printed all)) missed =
    let found = found_cause request t.old.holds x has in
    caused t request found.0 found.1 x.status found.2 (request, asks, cause_told request t.old.holds x has) missed
comes_of (ended o r known (failed rose front)) missed = rose
comes_of (ended o r known (stopped front)) missed = tt
comes_of (unread asks rose same) missed = rose
comes_of (unknown same) missed = tt
