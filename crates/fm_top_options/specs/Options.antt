-- What the words after a command's name say, where `--threads` is the command's one option.
use Rattle.std.specs.Prelude.{◌≡◌, ◌≢◌, ◌⊎◌, ℕ, List, [], ◌∷◌, ◌++◌, Option, Some, None, map, option_map, slice_index, codes, String, string_bytes}
use Rattle.std.specs.{Borrow.{Bor}, declared.alloc.Global.{Global}}

-- the bytes of each word
abbrev pub texts : List (String Global) → List (List ℕ)
texts words = map string_bytes words

-- the bytes of words that are lent, and of one that may be there
abbrev pub lent : List (Bor (List ℕ)) → List (List ℕ)
lent = map (λ word. word.now)

abbrev pub lent_one : Option (Bor (List ℕ)) → Option (List ℕ)
lent_one = option_map (λ word. word.now)

-- a word that is no option: it doesn't begin with a dash, or is a dash alone
abbrev pub IsPlain : List ℕ → Type 0
IsPlain word = (slice_index word 0 ≢ 45) ⊎ (word ≡ codes "-")

-- What words say: the option's text, where the option stands among them, and the positional words, in their order.
pub data Say : List (List ℕ) → Option (List ℕ) → List (List ℕ) → Type 0 where
  nothing : Say [] None []
  -- `--threads TEXT`, and no such option behind it
  apart : {words names : List (List ℕ)} → (text : List ℕ) → IsPlain text → Say words None names
      → Say (codes "--threads" ∷ text ∷ words) (Some text) names
  -- `--threads=TEXT`, the same
  joined : {words names : List (List ℕ)} → (text : List ℕ) → Say words None names
      → Say ((codes "--threads=" ++ text) ∷ words) (Some text) names
  -- a positional word
  name : {text : Option (List ℕ)} {words names : List (List ℕ)} → (word : List ℕ) → IsPlain word → Say words text names
      → Say (word ∷ words) text (word ∷ names)
  -- behind `--` every word is positional
  only_names : {words : List (List ℕ)} → Say (codes "--" ∷ words) None words
