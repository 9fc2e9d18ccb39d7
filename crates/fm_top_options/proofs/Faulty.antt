-- Lists of kinds of error that are not empty.
use Rattle.std.proofs.Common.{◌≡◌, [], ◌∷◌, refl}
use Rattle.clap.specs.Kinds.{Kinds, or_else}

-- some kind may come
abbrev pub IsFault : Kinds → Type 0
IsFault [] = ⊥
IsFault (k ∷ ks) = Unit {0}

pub fault_first : (a b : Kinds) → IsFault a → IsFault (or_else a b)
fault_first [] b f = absurd f
fault_first (k ∷ ks) b f = tt

pub fault_second : (a b : Kinds) → IsFault b → IsFault (or_else a b)
fault_second [] b f = f
fault_second (k ∷ ks) b f = tt

pub or_else-nil : (a : Kinds) → or_else a [] ≡ a
or_else-nil [] = refl
or_else-nil (k ∷ ks) = refl
