-- What holds of every text.
use Rattle.std.specs.Prelude.{◌≡◌, ℕ, List}
use Rattle.fm_script_text.specs.Scripts.{ScriptOf, IsScript, IsRefused}

-- a text spells one script at most, is refused at one line at most, and never both
pub record EachTextHasOneAnswer : Type 0 where
  pub one_script : (bytes : List ℕ) (s t : ScriptOf) → IsScript bytes s → IsScript bytes t → s ≡ t
  pub one_line : (bytes : List ℕ) (m n : ℕ) → IsRefused bytes m → IsRefused bytes n → m ≡ n
  pub not_both : (bytes : List ℕ) (s : ScriptOf) (n : ℕ) → IsScript bytes s → IsRefused bytes n → ⊥
