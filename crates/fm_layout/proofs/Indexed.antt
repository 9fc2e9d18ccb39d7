-- Members by their index.
use Rattle.std.proofs.Common.{◌≡◌, refl, sym, ℕ, zero, suc, ◌<◌, ◌≤◌, List, [], ◌∷◌, length, get_or, arith, None, Some, Option, Bor}
use Rattle.std.{specs.{Option.{option_copied, IfSome, MatchOption}, List.{slice_get}}, proofs.lemmas.Option.{slice_get_read, slice_get_past}}
use Rattle.fm_layout.specs.{Tree.{Tree}, Parts.{count_of, tree_at}, Views.{trees}}

-- As many as the list has.
pub count_of-trees : (ts : List Tree) → count_of (trees ts) ≡ length ts
count_of-trees [] = refl
count_of-trees (t ∷ ts) = omega (arith, count_of-trees ts)

-- The same one as the list's.
pub tree_at-trees : (ts : List Tree) (i : ℕ) → tree_at i (trees ts) ≡ slice_get ts i
tree_at-trees [] i = refl
tree_at-trees (t ∷ ts) zero = refl
tree_at-trees (t ∷ ts) (suc i) = tree_at-trees ts i

-- What a slice's `get` answers.
pub got : {A : Type 0} (ts : List A) (i : ℕ) (r : Option (Bor A)) (P : Bor A → Type 0) → IfSome r (λ x. x.now ≡ get_or ts i x.now)
    → MatchOption r (length ts ≤ i) (λ x. (i < length ts) × P x) → option_copied r ≡ slice_get ts i
got ts i None P s m = sym (slice_get_past ts i m)
got ts i (Some x) P s m = sym (slice_get_read ts (length ts) i x.now refl m.0 s)
