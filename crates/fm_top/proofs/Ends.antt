-- How ends follow from one another.
use Rattle.std.{proofs.Common.{◌≡◌, ℕ, List, Option, Some, Result, Ok, Err, refl, sym, subst}, specs.Prelude.{⊤, IsErrOf}}
use Rattle.fm_io.{specs.View.{FilesView, Leaves}, proofs.Left.{leaves_none, leaves_then}}
use Rattle.fm_top.specs.{Ending.{EndsAs, IsMiss, end_of}, Ends.{EndsFile, EndsRequest, ShowsFiles}, Found.{OfFile, OfFound}, Outcome.{Outcome}, Reading.{first_limit}}
use Rattle.fm_top.specs.{Run.{EndsBy, HasOutcome}, Words.{Request, first_file, last_file}, declared.outcome.{reply.Reply.{Reply}, stop.Stop.{Stop}}}
use Rattle.fm_top.proofs.{Outcomes.{some_end}, ReadFor.{first_reads, not_read, read_since}}
use Rattle.fm_top.specs.declared.outcome.status.Status.TheVariants as status
use Rattle.fm_top.specs.declared.outcome.stop.Stop.TheVariants as stop

-- what is known of an end is known by other definitions
pub ends_weaker : (P Q : Outcome → Type 0) (end : Result Reply Stop) → ((o : Outcome) → P o → Q o) → EndsAs P end → EndsAs Q end
ends_weaker P Q (Ok reply) so has = so (end_of (Ok reply)) has
ends_weaker P Q (Err stop.Unread) so has = tt
ends_weaker P Q (Err stop.Memory) so has = tt
ends_weaker P Q (Err why) so has = so (end_of (Err why)) has

-- it comes of no failed read, nor of a missing file
abbrev pub IsQuiet : Result Reply Stop → Type 0
IsQuiet (Err stop.Unread) = ⊥
IsQuiet (Err (stop.Missing file)) = ⊥
IsQuiet end = ⊤

quiet_fine : (end : Result Reply Stop) → IsQuiet end → ¬ (IsErrOf end stop.Unread)
quiet_fine (Ok reply) quiet is = absurd (cc)
quiet_fine (Err stop.Unread) quiet is = absurd quiet
quiet_fine (Err why) quiet is = absurd (cc)

quiet_there : (end : Result Reply Stop) → IsQuiet end → ¬ (IsMiss end)
quiet_there (Ok reply) quiet miss = absurd miss
quiet_there (Err (stop.Missing file)) quiet miss = absurd quiet
quiet_there (Err why) quiet miss = absurd miss

-- so it is behind calls that left the files so
pub shows_quiet : {old new : FilesView} (end : Result Reply Stop) → IsQuiet end → Leaves ⊥ ⊥ old new → ShowsFiles old new end
shows_quiet {new = new} end quiet left = leaves_then left (leaves_none new (quiet_fine end quiet) (quiet_there end quiet))

pub shows_none : {files : FilesView} (end : Result Reply Stop) → IsQuiet end → ShowsFiles files files end
shows_none {files} end quiet = leaves_none files (quiet_fine end quiet) (quiet_there end quiet)

-- an end tells of a missing file by its status alone
pub misses : (end : Result Reply Stop) → (end_of end).status ≡ status.Missing → IsMiss end
misses (Ok reply) is = absurd (let same : status.Answered ≡ status.Missing = is in cc)
misses (Err (stop.Missing file)) is = tt
misses (Err stop.Usage) is = absurd (let same : status.Usage ≡ status.Missing = is in cc)
misses (Err stop.Unread) is = absurd (let same : status.Unread ≡ status.Missing = is in cc)
misses (Err stop.TooLong) is = absurd (let same : status.TooLong ≡ status.Missing = is in cc)
misses (Err (stop.LayoutRefused e)) is = absurd (let same : status.LayoutRefused ≡ status.Missing = is in cc)
misses (Err (stop.QueryRefused e)) is = absurd (let same : status.QueryRefused ≡ status.Missing = is in cc)
misses (Err (stop.Ragged n)) is = absurd (let same : status.Ragged ≡ status.Missing = is in cc)
misses (Err (stop.ScriptRefused n)) is = absurd (let same : status.ScriptRefused ≡ status.Missing = is in cc)
misses (Err stop.Memory) is = absurd (let same : status.NoMemory ≡ status.Missing = is in cc)

pub tells_miss : (end : Result Reply Stop) → IsMiss end → (end_of end).status ≡ status.Missing
tells_miss (Err (stop.Missing file)) miss = refl
tells_miss (Ok reply) miss = absurd miss
tells_miss (Err why) miss = absurd miss

module _ {name : List ℕ} {limit : ℕ} {Needs : Type 0} {Has : Option (List ℕ) → Outcome → Type 0} where
  -- no file was read for an end that is the same whatever would be found
  pub unread_ends : {files : FilesView} (end : Result Reply Stop) → EndsAs (λ o. (found : Option (List ℕ)) → Has found o) end → IsQuiet end
      → EndsFile name limit Needs Has files files end
  unread_ends {files} end each quiet = record {
    outcome = ends_weaker (λ o. (found : Option (List ℕ)) → Has found o) (λ o. OfFound files.holds name (λ found. Has found o)) end
        (λ o has. some_end files.holds name (λ found. Has found o) has) each;
    reads = not_read;
    files = shows_none end quiet;
  }

  -- the same end is seen by other definitions
  pub ends_as : {old new : FilesView} {end : Result Reply Stop} {Wants : Type 0} {Ends : Option (List ℕ) → Outcome → Type 0} → (Needs → Wants)
      → ((found : Option (List ℕ)) (o : Outcome) → Has found o → Ends found o) → EndsFile name limit Needs Has old new end
      → EndsFile name limit Wants Ends old new end
  ends_as {old} {end = end} {Ends = Ends} so each ends = record {
    outcome = ends_weaker (λ o. OfFound old.holds name (λ found. Has found o)) (λ o. OfFound old.holds name (λ found. Ends found o)) end
        (λ o has. (has.0, has.1, each has.0 o has.2)) ends.outcome;
    reads = read_since so ends.reads;
    files = ends.files;
  }

-- the end of a command that reads one file is its request's
pub asked_file : (request : Request) {name : List ℕ} {Needs : Type 0} {old new : FilesView} {end : Result Reply Stop} → first_file request ≡ Some name
    → EndsFile name (first_limit request) Needs (λ first o. OfFile old.holds (last_file request) (λ last. EndsBy request first last o)) old new end
    → EndsRequest request old new end
asked_file request {name} {old = old} {end = end} is ends = record {
  outcome = ends_weaker (λ o. OfFound old.holds name (λ first. OfFile old.holds (last_file request) (λ last. EndsBy request first last o)))
      (HasOutcome request old.holds) end
      (λ o has. subst (λ (name : Option (List ℕ)). OfFile old.holds name
      (λ first. OfFile old.holds (last_file request) (λ last. EndsBy request first last o))) (sym is) has) ends.outcome;
  reads = first_reads request old.holds is ends.reads;
  files = ends.files;
}
