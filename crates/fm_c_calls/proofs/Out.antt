-- Indices that are missing, or too many.
use Rattle.std.proofs.Common.{◌≡◌, ◌≢◌, ℕ, List, [], ◌∷◌, length, refl, arith}
use Rattle.fm_c_calls.specs.{declared.place.Stride.{Stride}, Located.{IsOut}}

pub surplus : (k : ℕ) (ss : List Stride) (is : List ℕ) → length ss ≡ 0 → length is ≢ 0 → IsOut k ss is k
surplus k [] [] none some = absurd (some refl)
surplus k [] (i ∷ is) none some = refl
surplus k (s ∷ ss) is none some = absurd (omega (arith, none))

pub missing : (k : ℕ) (ss : List Stride) (is : List ℕ) → length ss ≢ 0 → length is ≡ 0 → IsOut k ss is k
missing k [] is some none = absurd (some refl)
missing k (s ∷ ss) [] some none = refl
missing k (s ∷ ss) (i ∷ is) some none = absurd (omega (arith, none))
