-- The layouts of which records can stand one after the other.
use Rattle.std.specs.Prelude.{◌≡◌, ◌≢◌, ◌%◌, ◌<◌}
use Rattle.fm_base.specs.declared.refusal.Refusal.{Refusal, TheVariants.{NoSize, ElementRagged}}
use Rattle.fm_layout.specs.{Tree.{Tree, alignment_of}, Size.{size_of}}

-- a record of this layout has bytes, and the next one is aligned where it is
pub record IsRecord (t : Tree) : Type 0 where
  pub sized : 0 < size_of t
  pub even : size_of t % alignment_of t ≡ 0

-- why a layout is none of a record: it has no byte; else the next record isn't aligned
abbrev pub IsNoRecord : Tree → Refusal → Type 0
IsNoRecord t NoSize = size_of t ≡ 0
IsNoRecord t ElementRagged = (0 < size_of t) × (size_of t % alignment_of t ≢ 0)
IsNoRecord t _ = ⊥
