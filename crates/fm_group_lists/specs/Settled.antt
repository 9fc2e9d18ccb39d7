-- Numbers that were counted at places, and what the counts come to.
use Rattle.std.specs.Prelude.{◌≡◌, ℕ, ◌+◌, ◌^◌, ◌<◌, ◌==◌, length, if◌then◌else◌, List, [], ◌∷◌, ◌++◌, ℤ, Option, Some, None}
use Rattle.std.{specs.{List.{AllByRecursion, AllZip}}, proofs.Common.{zero, suc}}
use Rattle.fm_base_lists.specs.Among.{IsAmong}
use Rattle.fm_group_lists.specs.Groups.{AreGroups, AreSummed, Group}

-- the number and the count at a place, where a number stands there
abbrev pub named : Option ℤ → ℕ → List Group
named None count = []
named (Some n) count = (n, count) ∷ []

-- those of the places below p
abbrev pub named_below : (ℕ → Option ℤ) → (ℕ → ℕ) → ℕ → List Group
named_below key count zero = []
named_below key count (suc p) = named_below key count p ++ named (key p) (count p)

-- how often a place comes
abbrev pub times_of : ℕ → List ℕ → ℕ
times_of p [] = 0
times_of p (q ∷ qs) = (if q == p then 1 else 0) + times_of p qs

-- Each number was counted at a place where its like stands, the first number at the first of these places, and nothing
-- else was counted; what stands at places is among the numbers
pub record AreSettled (places : ℕ) (key : ℕ → Option ℤ) (count : ℕ → ℕ) (at : List ℕ) (ns : List ℤ) : Type 0 where
  pub below : AllByRecursion (λ p. p < places) at
  pub stand : AllZip (λ p n. key p ≡ Some n) at ns
  pub counted : (p : ℕ) → p < places → count p ≡ times_of p at
  pub among : (p : ℕ) (n : ℤ) → p < places → key p ≡ Some n → IsAmong n ns
  pub few : length ns < 2 ^ 64

-- then what the places' counts sum up to are the groups of the numbers, whether or not one number stands at several places
abbrev pub SettledAreGroups : Type 0
SettledAreGroups =
    (places : ℕ) (key : ℕ → Option ℤ) (count : ℕ → ℕ) (at : List ℕ) (ns : List ℤ) (gs : List Group)
    → AreSettled places key count at ns → AreSummed (named_below key count places) gs → AreGroups ns gs
