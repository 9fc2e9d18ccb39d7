-- A language: what is in it, each thing written by its text. Which texts begin one of its texts, and where a text leaves it.
use Rattle.std.specs.Prelude.{◌≡◌, ℕ, ◌+◌, ◌<◌, ◌≤◌, List, ◌++◌, length, take}
use Rattle.fm_base.specs.declared.refusal.Refusal.{Refusal, TheVariants.{BadQuery, Memory}}

-- the text of something in it begins so
abbrev pub Begins : {A : Type 0} → (A → Type 0) → (A → List ℕ) → List ℕ → Type 0
Begins {A} Is write text = (rest : List ℕ) × (x : A) × Is x × (text ++ rest ≡ write x)

-- the longest prefix of the text that begins some text of the language has this length, and the text is none
pub record BeginsUpTo {A : Type 0} (Is : A → Type 0) (write : A → List ℕ) (at : ℕ) (text : List ℕ) : Type 0 where
  pub within : at ≤ length text
  pub begins : Begins Is write (take at text)
  pub longest : at < length text → Begins Is write (take (at + 1) text) → ⊥
  pub none : (x : A) → Is x → text ≡ write x → ⊥

-- what reading a text may answer in place of what it says
abbrev pub IsNoText : {A : Type 0} → (A → Type 0) → (A → List ℕ) → List ℕ → Refusal → Type 0
IsNoText Is write text (BadQuery at) = BeginsUpTo Is write at text
IsNoText Is write text Memory = Unit {0}
IsNoText Is write text _ = ⊥
