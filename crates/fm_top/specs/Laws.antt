-- What holds of every run, whatever the files.
use Rattle.std.specs.Prelude.{◌≡◌, ℕ, List, Some}
use Rattle.fm_io.specs.Files.{Contents}
use Rattle.fm_top.specs.{Outcome.{Outcome}, Run.{IsOutcome}, Words.{IsRun}}

-- both print the same and have one status
pub record PrintAlike (o o' : Outcome) : Type 0 where
  pub status : o.status ≡ o'.status
  pub text : o.text ≡ o'.text

-- words print one outcome over files that tell, whatever is kept, unless they run a script
abbrev pub HaveOneOutcome : Type 0
HaveOneOutcome = (words : List (List ℕ)) (contents : Contents) (o o' : Outcome) → ((file : List ℕ) → IsRun words file → ⊥)
    → IsOutcome words (Some contents) o → IsOutcome words (Some contents) o' → PrintAlike o o'
