-- All of a file as a stretch of it.
use Rattle.std.specs.Prelude.{◌≡◌, ◌<◌, ◌^◌, ◌%◌, ℕ, List}
use Rattle.fm_top_load.specs.declared.stretch.Stretch.{Stretch}

-- from the file's beginning, and past its limit, by whole words
pub record IsWholeStretch (name : List ℕ) (limit : ℕ) (s : Stretch) : Type 0 where
  pub named : s.name.now ≡ name
  pub limited : s.limit ≡ limit
  pub first : s.at ≡ 0
  pub past : limit < s.most
  pub even : s.most % 8 ≡ 0
  pub small : s.limit < 2 ^ 40
