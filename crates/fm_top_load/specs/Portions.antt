-- What a read of a file brought.
use Rattle.std.specs.Prelude.{ℕ, List, [], Bool, true, take}

-- these bytes; `ended` says that the file ends with them
pub record PortionView : Type 0 where
  pub bytes : List ℕ
  pub ended : Bool

abbrev pub no_more : PortionView
no_more = record { bytes = []; ended = true }

-- so many bytes at the front of a buffer
abbrev pub front : List ℕ → ℕ → Bool → PortionView
front buffer count ended = record { bytes = take count buffer; ended = ended }
