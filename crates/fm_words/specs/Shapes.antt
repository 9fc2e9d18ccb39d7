-- The shapes that a pool can have.
use Rattle.std.specs.Prelude.{◌*◌, ◌≤◌}
use Rattle.fm_words.specs.{Within.{Within}, declared.shape.Shape.{Shape}}

pub record IsValid (z : Shape) : Type 0 where
  pub passes : Within 1 4096 z.passes
  pub slots : Within 1 64 z.slots
  pub pages : Within 1 4096 z.pages
  pub page_words : Within 1 1048576 z.page_words
  pub reach : Within 1 z.pages z.reach
  pub generations : Within 1 4294967295 z.generations
  pub words : z.pages * z.page_words ≤ 16777216
