-- What every layout of the program keeps.
use Rattle.std.specs.Prelude.{◌≡◌, ℕ}
use Rattle.fm_layout.specs.{Tree.{Tree}, Size.{size_of}, WellFormed.{IsWellFormed}, Named.{HasNames}}

-- its size as it was kept, that it is well formed, and that its names are names
pub record IsSound (kept : ℕ) (t : Tree) : Type 0 where
  pub size : kept ≡ size_of t
  pub well_formed : IsWellFormed t
  pub named : HasNames t
