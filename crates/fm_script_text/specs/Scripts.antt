-- Which texts are scripts, and at which line another text is refused.
use Rattle.std.specs.Prelude.{◌≡◌, ℕ, ◌+◌, ◌==◌, Bool, true, ◌&&◌, if◌then◌else◌, nat_lt, List, [], ◌∷◌, ◌++◌, length, map}
use Rattle.std.specs.List.{AllByRecursion, list_all, onto_first}
use Rattle.fm_base.specs.declared.refusal.Refusal.{Refusal, TheVariants.{BadScript, Memory}}
use Rattle.fm_words.specs.declared.shape.Shape.{Shape}
use Rattle.fm_script_text.specs.{declared.line.Line.{Line}, Rules.{IsAdmitted, made, is_settled, is_given_back, passes_of}, Syntax.{Says, SaysPool}}

-- the lines of a text, each ended by a newline, which the last may lack
abbrev pub lines_of : List ℕ → List (List ℕ)
lines_of [] = []
lines_of (c ∷ cs) = if c == 10 then [] ∷ lines_of cs else onto_first c (lines_of cs)

-- a line that is skipped: empty, or ASCII that begins with #
abbrev pub is_skipped : List ℕ → Bool
is_skipped [] = true
is_skipped (c ∷ cs) = (c == 35) && list_all (λ b. nat_lt b 128) cs

-- a line and its number
pub record Source : Type 0 where
  pub number : ℕ
  pub text : List ℕ

abbrev pub source : ℕ → List ℕ → Source
source number text = record { number = number; text = text }

-- the lines that aren't skipped, where the first of all has this number
abbrev pub numbered : ℕ → List (List ℕ) → List Source
numbered k [] = []
numbered k (l ∷ ls) = if is_skipped l then numbered (k + 1) ls else source k l ∷ numbered (k + 1) ls

-- those of a text: its first line has number 1
abbrev pub sources_of : List ℕ → List Source
sources_of bytes = numbered 1 (lines_of bytes)

abbrev pub source_of : Line → Source
source_of l = source l.number l.text

-- ---- scripts

-- what a script is seen as
pub record ScriptOf : Type 0 where
  pub shape : Shape
  pub lines : List Line

abbrev pub script_of : Shape → List Line → ScriptOf
script_of shape lines = record { shape = shape; lines = lines }

-- the line's text says who runs it and what it asks for
abbrev pub IsSaid : Line → Type 0
IsSaid l = Says l.text l.who l.command

-- each line breaks no rule behind those and the ones before it
abbrev pub AreAdmitted : List Line → List Line → Type 0
AreAdmitted before [] = Unit {0}
AreAdmitted before (l ∷ ls) = IsAdmitted before l.who l.command × AreAdmitted (before ++ l ∷ []) ls

-- a hold or a handle that the line makes is given back by one of all lines
abbrev pub IsSettled : List Line → Line → Type 0
IsSettled all l = is_settled (λ name. is_given_back name all) (made l.command) ≡ true

-- these sources are lines that break no rule, taken in order
pub record AreLines (sources : List Source) (lines : List Line) : Type 0 where
  pub are : sources ≡ map source_of lines
  pub said : AllByRecursion IsSaid lines
  pub admitted : AreAdmitted [] lines

-- the text's lines are the pool's and these, which break no rule
pub record IsScript (bytes : List ℕ) (s : ScriptOf) : Type 0 where
  pub pool : Source
  pub rest : List Source
  pub sources : sources_of bytes ≡ pool ∷ rest
  pub says_pool : SaysPool pool.text s.shape
  pub passes : s.shape.passes ≡ passes_of s.lines
  pub lines : AreLines rest s.lines
  pub settled : AllByRecursion (IsSettled s.lines) s.lines

-- the sources break a rule first at this line, which says nothing or what isn't admitted behind those before it
pub record BreaksAt (sources : List Source) (number : ℕ) : Type 0 where
  pub before : List Line
  pub text : List ℕ
  pub rest : List Source
  pub lines : AreLines (map source_of before) before
  pub are : sources ≡ map source_of before ++ source number text ∷ rest
  pub breaks : (l : Line) → Says text l.who l.command → IsAdmitted before l.who l.command → ⊥

-- all lines pass, and this is the first that makes what isn't given back
pub record KeptAt (all : List Line) (number : ℕ) : Type 0 where
  pub before : List Line
  pub line : Line
  pub after : List Line
  pub parts : all ≡ before ++ line ∷ after
  pub settled : AllByRecursion (IsSettled all) before
  pub kept : IsSettled all line → ⊥
  pub is : number ≡ line.number

-- the text is refused at this line
pub data IsRefused (bytes : List ℕ) (number : ℕ) : Type 0 where
  -- there is no line but skipped ones
  no_pool : sources_of bytes ≡ [] → number ≡ length (lines_of bytes) + 1 → IsRefused bytes number
  -- the first line says no pool
  bad_pool : (pool : Source) (rest : List Source) → sources_of bytes ≡ pool ∷ rest → ((z : Shape) → SaysPool pool.text z → ⊥) → number ≡ pool.number
      → IsRefused bytes number
  -- it does, and this line behind it breaks a rule
  bad_line : (pool : Source) (rest : List Source) (z : Shape) → sources_of bytes ≡ pool ∷ rest → SaysPool pool.text z → BreaksAt rest number
      → IsRefused bytes number
  -- none does, but what this line makes isn't given back
  not_settled : (pool : Source) (rest : List Source) (z : Shape) (lines : List Line) → sources_of bytes ≡ pool ∷ rest → SaysPool pool.text z
      → AreLines rest lines → KeptAt lines number → IsRefused bytes number

-- memory was wanting to take this line in, which breaks no rule behind those before it
pub record WantsAt (sources : List Source) : Type 0 where
  pub before : List Line
  pub line : Line
  pub rest : List Source
  pub lines : AreLines (map source_of before) before
  pub are : sources ≡ map source_of before ++ source_of line ∷ rest
  pub said : IsSaid line
  pub admitted : IsAdmitted before line.who line.command

-- the text's first line says a pool, and memory was wanting behind it
pub record WantsMemory (bytes : List ℕ) : Type 0 where
  pub pool : Source
  pub rest : List Source
  pub shape : Shape
  pub sources : sources_of bytes ≡ pool ∷ rest
  pub says_pool : SaysPool pool.text shape
  pub wants : WantsAt rest

-- what reading a script may answer in place of it
abbrev pub IsNoScript : List ℕ → Refusal → Type 0
IsNoScript bytes (BadScript line) = IsRefused bytes line
IsNoScript bytes Memory = WantsMemory bytes
IsNoScript bytes _ = ⊥
