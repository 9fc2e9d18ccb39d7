-- A refusal's arguments, as the code keeps them.
use Rattle.std.specs.Prelude.{ℕ, List, [], ◌∷◌}
use Rattle.fm_base.specs.declared.refusal.Arguments.{Arguments, TheVariants.{None, One, Two}}

abbrev pub listed : Arguments → List ℕ
listed None = []
listed (One n) = n ∷ []
listed (Two n m) = n ∷ m ∷ []
