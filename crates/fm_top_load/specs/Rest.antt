-- A file that is read on into a list.
use Rattle.std.specs.Prelude.{◌≡◌, ◌<◌, ◌+◌, ℕ, List, length, Option}
use Rattle.fm_io.specs.Files.{Contents, AreBytesFrom}
use Rattle.fm_top_load.specs.{Portions.{PortionView}, Whole.{CanRead, IsPortion}, declared.stretch.Stretch.{Stretch}}

-- the list has the file's first bytes, the portion was read behind them, and the stretch passes the file's limit
pub record CanReadRest (stretch : Stretch) (told : Option Contents) (bytes : List ℕ) (portion : PortionView) : Type 0 where
  pub read : CanRead stretch.limit stretch.at
  pub first : AreBytesFrom told stretch.name.now 0 bytes
  pub count : length bytes ≡ stretch.at
  pub next : IsPortion stretch.limit stretch.most told stretch.name.now stretch.at portion
  pub past : stretch.limit < stretch.at + stretch.most
