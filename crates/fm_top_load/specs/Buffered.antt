-- A portion of a file, in a buffer.
use Rattle.std.specs.Prelude.{◌≡◌, ◌≤◌, length}
use Rattle.fm_top_load.specs.{Portions.{PortionView, front}, Reading.{portion_limit}, declared.portion.Portion.TheInside.{Inside}}

abbrev pub portion_of : Inside → PortionView
portion_of p = front p.buffer.items p.count p.ended

pub record HoldsPortion (p : Inside) : Type 0 where
  pub room : length p.buffer.items ≡ portion_limit
  pub within : p.count ≤ portion_limit
