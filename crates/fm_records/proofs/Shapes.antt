-- A path's dims by how many there are.
use Rattle.std.proofs.{Common.{◌≡◌, ◌+◌, ◌<◌, ◌≤◌, ℕ, [], ◌∷◌, List, length, get_or, take, drop, pos, refl, ap, sym, arith}, lemmas.List.{take_all}}
use Rattle.fm_path_meaning.specs.declared.dim.Dim.{Dim}

abbrev pub nothing : Dim
nothing = record { stride = pos 0; bound = 0 }

-- none
pub is_none : (dims : List Dim) → length dims < 1 → dims ≡ []
is_none [] few = refl
is_none (d ∷ more) few = absurd (omega arith)

-- the first, and those behind it
pub is_some : (dims : List Dim) (n : ℕ) → 1 ≤ length dims → length dims ≤ n + 1 → dims ≡ get_or dims 0 nothing ∷ take n (drop 1 dims)
is_some [] n some few = absurd (omega arith)
is_some (d ∷ more) n some few = ap (λ rest. d ∷ rest) (sym (take_all n more (omega arith)))
