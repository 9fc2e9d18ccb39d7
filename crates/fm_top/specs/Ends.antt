-- How a run's end is come to, and what that leaves of the files: one record for every command.
use Rattle.std.specs.Prelude.{ℕ, List, Option, Result, IsErrOf}
use Rattle.fm_io.specs.View.{FilesView, Leaves}
use Rattle.fm_top.specs.{Ending.{EndsAs, IsMiss}, Found.{OfFound}, Outcome.{Outcome}, Reading.{ReadsFor, ReadsIf}, Run.{AskSome, HasOutcome, IsOutcome}}
use Rattle.fm_top.specs.{Words.{Asks, Request}, declared.outcome.{reply.Reply.{Reply}, stop.Stop.{Stop, TheVariants.{Unread}}}}

-- what the files hold stays, and their counts show a failed read and a missing file
abbrev pub ShowsFiles : FilesView → FilesView → Result Reply Stop → Type 0
ShowsFiles old new end = Leaves (IsErrOf end Unread) (IsMiss end) old new

-- it ends as `Has` says of what is found under the name, which is read only where `Needs` holds
pub record EndsFile (name : List ℕ) (limit : ℕ) (Needs : Type 0) (Has : Option (List ℕ) → Outcome → Type 0) (old new : FilesView)
    (end : Result Reply Stop) : Type 0 where
  pub outcome : EndsAs (λ o. OfFound old.holds name (λ found. Has found o)) end
  pub reads : ReadsIf old.reads new.reads name limit Needs
  pub files : ShowsFiles old new end

-- it ends with an outcome of the request
pub record EndsRequest (request : Request) (old new : FilesView) (end : Result Reply Stop) : Type 0 where
  pub outcome : EndsAs (HasOutcome request old.holds) end
  pub reads : ReadsFor request old.holds old.reads new.reads
  pub files : ShowsFiles old new end

-- it ends with an outcome of the words
pub record EndsWords (words : List (List ℕ)) (old new : FilesView) (end : Result Reply Stop) : Type 0 where
  pub outcome : EndsAs (IsOutcome words old.holds) end
  pub asked : IsErrOf end Unread → AskSome words
  pub reads : (request : Request) → Asks words request → ReadsFor request old.holds old.reads new.reads
  pub files : ShowsFiles old new end
