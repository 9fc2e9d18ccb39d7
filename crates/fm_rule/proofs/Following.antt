-- Draws of which each expects what the one before it found.
use Rattle.std.proofs.Common.{◌≡◌, ℕ, List, [], ◌∷◌, ◌++◌, refl}
use Rattle.fm_base.specs.Finds.{Find, Draws}
use Rattle.fm_rule.specs.Draws.{Follow}

-- the count that the last of these draws found; where there is none, the first to expect
unfoldable pub last_found : ℕ → List Find → ℕ
last_found e [] = e
last_found e (f ∷ fs) = last_found f.found fs

-- one more draw, which expects what the last one found
pub follows_more : (e : ℕ) (fs : List Find) (f : Find) → Follow e fs → f.step ≡ Draws (last_found e fs) → Follow e (fs ++ f ∷ [])
unfolding last_found
follows_more e [] f h s = (s, tt)
follows_more e (x ∷ xs) f h s = (h.0, follows_more x.found xs f h.1 s)

-- the last count is then what it found
pub last_more : (e : ℕ) (fs : List Find) (f : Find) → last_found e (fs ++ f ∷ []) ≡ f.found
unfolding last_found
last_more e [] f = refl
last_more e (x ∷ xs) f = last_more x.found xs f
