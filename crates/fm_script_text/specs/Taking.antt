-- What the parts of the reader of scripts answer.
use Rattle.std.specs.Prelude.{◌≡◌, ℕ, not, Option, List, [], ◌∷◌, ◌++◌, find}
use Rattle.fm_base.specs.declared.refusal.Refusal.{Refusal, TheVariants.{BadScript, Memory}}
use Rattle.fm_script_text.specs.{declared.{command.Command.{Command}, line.Line.{Line}, names.Names.{Names}, who.Who.{Who}}, Knowing.{Knows, is_spent_at}}
use Rattle.fm_script_text.specs.{Rules.{IsAdmitted, made, is_settled}, Scripts.{AreLines, BreaksAt, IsSaid, Source, WantsAt, source, source_of}, Syntax.{Says}}

-- the line is what this one says, which is admitted, and its names are taken in
pub record IsTaken (number : ℕ) (text : List ℕ) (old new : Names) (l : Line) : Type 0 where
  pub source : source_of l ≡ source number text
  pub said : IsSaid l
  pub admitted : (before : List Line) → Knows old before → IsAdmitted before l.who l.command
  pub knows : (before : List Line) → Knows old before → Knows new (before ++ l ∷ [])

-- the line says what is admitted
pub record IsToTake (text : List ℕ) (old : Names) : Type 0 where
  pub who : Who
  pub command : Command
  pub says : Says text who command
  pub admitted : (before : List Line) → Knows old before → IsAdmitted before who command

-- why a line isn't taken: it says nothing, or what it says isn't admitted; or it is, and memory was wanting
abbrev pub IsNoLine : ℕ → List ℕ → Names → Refusal → Type 0
IsNoLine number text old (BadScript line) =
    (line ≡ number) × ((before : List Line) → Knows old before → (l : Line) → Says text l.who l.command → IsAdmitted before l.who l.command → ⊥)
IsNoLine number text old Memory = IsToTake text old
IsNoLine number text old _ = ⊥

-- these lines are all the sources, and the names are theirs
pub record IsAll (sources : List Source) (all : List Line) (names : Names) : Type 0 where
  pub lines : AreLines sources all
  pub knows : Knows names all

abbrev pub AreNoLines : List Source → Refusal → Type 0
AreNoLines sources (BadScript line) = BreaksAt sources line
AreNoLines sources Memory = WantsAt sources
AreNoLines sources _ = ⊥

-- the first line that makes what isn't given back
abbrev pub first_kept : Names → List Line → Option Line
first_kept names lines = find (λ l. not (is_settled (is_spent_at names) (made l.command))) lines
