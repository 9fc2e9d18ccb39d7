-- A layout of a list is no deeper than the deepest.
use Rattle.std.proofs.Common.{◌≡◌, ap, ℕ, zero, suc, ◌<◌, ◌≤◌, List, [], ◌∷◌, length, get_or, arith}
use Rattle.fm_layout.specs.{Tree.{Tree}, Depth.{depth, deepest}, Views.{trees}}

-- Each is at most as deep as the deepest of the list.
pub deep_at : (ts : List Tree) (i : ℕ) (d t : Tree) → i < length ts → t ≡ get_or ts i d → depth t ≤ deepest (trees ts)
deep_at [] i d t lt e = absurd (omega arith)
deep_at (x ∷ ts) zero d t lt e = omega (arith, ap depth e)
deep_at (x ∷ ts) (suc i) d t lt e = omega (arith, deep_at ts i d t (omega arith) e)
