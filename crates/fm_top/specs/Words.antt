-- Which lists of words are a command, and what each asks for.
use Rattle.std.specs.{Prelude.{◌≡◌, ℕ, ◌+◌, ◌%◌, ◌≢◌, ◌<◌, ◌≤◌, List, [], ◌∷◌, codes, slice_index, Option, None, Some}, Fmt.{decimal}}
use Rattle.fm_lanes.specs.{declared.value_kind.ValueKind.{ValueKind}, Kind.{width_of}, Named.{kind_text}}
use Rattle.fm_top_options.specs.Options.{Say}
use Rattle.fm_top.specs.declared.command.{layout_text.LayoutText.{LayoutText}, question.Question.{Question}, wish.Wish.{Wish, TheVariants.{Answer, Group, Texts}}}
use Rattle.fm_top.specs.declared.command.layout_text.LayoutText.TheVariants as layout_text
use Rattle.fm_top.specs.declared.command.question.Question.TheVariants as question

-- what a user asks for
pub data Request : Type 0 where
  -- the sum of the value of this kind at byte `at` of each record of `size` bytes
  Sum : (size at : ℕ) (kind : ValueKind) (file : List ℕ) → Request
  -- this text of the layout that the file has
  Layout : (text : LayoutText) (file : List ℕ) → Request
  -- what this text asks of the records of the file, by the layout that its file has
  Ask : (wish : Wish) (layout text file : List ℕ) → Request
  -- what two queries answer over so many records that are made, on so many threads
  Demo : (threads count : ℕ) → Request
  -- what the script of this file does
  Run : (file : List ℕ) → Request

-- the name of the file that is read first, if one is read
abbrev pub first_file : Request → Option (List ℕ)
first_file (Sum size at kind file) = Some file
first_file (Layout text file) = Some file
first_file (Ask wish layout text file) = Some layout
first_file (Demo threads count) = None
first_file (Run file) = Some file

-- the name of the file that is read behind it, if a second one is read
abbrev pub last_file : Request → Option (List ℕ)
last_file (Ask wish layout text file) = Some file
last_file request = None

-- a value of this kind stands at byte `at` of each record of `size` bytes, aligned to its width in each record
pub record HasValue (size at : ℕ) (kind : ValueKind) : Type 0 where
  pub some : 0 < size
  pub small : size ≤ 1048576
  pub size_whole : size % width_of kind ≡ 0
  pub at_whole : at % width_of kind ≡ 0
  pub within : at + width_of kind ≤ size

abbrev pub two : List ℕ → List ℕ → List (List ℕ)
two a b = a ∷ b ∷ []

abbrev pub three : List ℕ → List ℕ → List ℕ → List (List ℕ)
three a b c = a ∷ b ∷ c ∷ []

abbrev pub four : List ℕ → List ℕ → List ℕ → List ℕ → List (List ℕ)
four a b c d = a ∷ b ∷ c ∷ d ∷ []

abbrev pub five : List ℕ → List ℕ → List ℕ → List ℕ → List ℕ → List (List ℕ)
five a b c d e = a ∷ b ∷ c ∷ d ∷ e ∷ []

-- a word that names a file where options are looked for: it doesn't begin with a dash
abbrev pub IsFileWord : List ℕ → Type 0
IsFileWord word = slice_index word 0 ≢ 45

-- `sum SIZE AT TYPE FILE`, whose numbers are written in decimal digits, with no sign and no leading zero
pub record IsSum (words : List (List ℕ)) (size at : ℕ) (kind : ValueKind) (file : List ℕ) : Type 0 where
  pub spelled : words ≡ five (codes "sum") (decimal size) (decimal at) (kind_text kind) file
  pub has_value : HasValue size at kind
  pub file_word : IsFileWord file

-- a command's word, and a file's
pub record IsOfFile (words : List (List ℕ)) (command file : List ℕ) : Type 0 where
  pub spelled : words ≡ two command file
  pub file_word : IsFileWord file

-- the command by which the text of a layout is asked for
abbrev pub layout_word : LayoutText → List ℕ
layout_word layout_text.Places = codes "layout"
layout_word layout_text.Json = codes "migrate"

-- `layout FILE` or `migrate FILE`
abbrev pub IsLayout : List (List ℕ) → LayoutText → List ℕ → Type 0
IsLayout words text file = IsOfFile words (layout_word text) file

-- `run FILE`
abbrev pub IsRun : List (List ℕ) → List ℕ → Type 0
IsRun words file = IsOfFile words (codes "run") file

-- a number from 1 up to this one
pub record IsUpTo (most n : ℕ) : Type 0 where
  pub some : 1 ≤ n
  pub few : n ≤ most

-- so many threads may be asked for
abbrev pub AreThreads : ℕ → Type 0
AreThreads = IsUpTo 16

-- how many threads the option's text asks for: one, where the option doesn't stand there
abbrev pub AreThreadsBy : Option (List ℕ) → ℕ → Type 0
AreThreadsBy None n = n ≡ 1
AreThreadsBy (Some text) n = AreThreads n × (text ≡ decimal n)

-- the command's word, and behind it these, and at any place behind the command the option
pub record IsThreaded (words : List (List ℕ)) (command : List ℕ) (threads : ℕ) (named : List (List ℕ)) : Type 0 where
  pub behind : List (List ℕ)
  pub text : Option (List ℕ)
  pub spelled : words ≡ command ∷ behind
  pub says : Say behind text named
  pub are_threads : AreThreadsBy text threads

-- the command by which it is asked
abbrev pub question_word : Question → List ℕ
question_word question.Query = codes "query"
question_word question.Stream = codes "stream"
question_word question.Tally = codes "tally"

-- `texts LAYOUT PATH FILE`
pub record IsTexts (words : List (List ℕ)) (layout path file : List ℕ) : Type 0 where
  pub spelled : words ≡ four (codes "texts") layout path file
  pub layout_word : IsFileWord layout
  pub file_word : IsFileWord file

-- `query [--threads N] LAYOUT QUERY FILE`, `stream` with the same words, or `tally [--threads N] LAYOUT PATH FILE`; `group` with the same words; or `texts`
abbrev pub IsAsk : List (List ℕ) → Wish → List ℕ → List ℕ → List ℕ → Type 0
IsAsk words (Answer q threads) layout text file = IsThreaded words (question_word q) threads (three layout text file)
IsAsk words (Group threads) layout text file = IsThreaded words (codes "group") threads (three layout text file)
IsAsk words Texts layout text file = IsTexts words layout text file

-- so many records may be made
abbrev pub IsCount : ℕ → Type 0
IsCount = IsUpTo 1000000

-- `demo [--threads N] COUNT`
pub record IsDemo (words : List (List ℕ)) (threads count : ℕ) : Type 0 where
  pub threaded : IsThreaded words (codes "demo") threads (decimal count ∷ [])
  pub is_count : IsCount count

-- the words ask for this
abbrev pub Asks : List (List ℕ) → Request → Type 0
Asks words (Sum size at kind file) = IsSum words size at kind file
Asks words (Layout text file) = IsLayout words text file
Asks words (Ask wish layout text file) = IsAsk words wish layout text file
Asks words (Demo threads count) = IsDemo words threads count
Asks words (Run file) = IsRun words file

-- what some words ask of records
abbrev pub CanBeWished : Wish → Type 0
CanBeWished (Answer q threads) = AreThreads threads
CanBeWished (Group threads) = AreThreads threads
CanBeWished Texts = Unit {0}

-- what some words ask for
abbrev pub CanBeAsked : Request → Type 0
CanBeAsked (Sum size at kind file) = HasValue size at kind
CanBeAsked (Ask wish layout text file) = CanBeWished wish
CanBeAsked (Demo threads count) = AreThreads threads × IsCount count
CanBeAsked request = Unit {0}

-- the words ask for nothing that there is
abbrev pub AreFaulty : List (List ℕ) → Type 0
AreFaulty words = (request : Request) → Asks words request → ⊥
