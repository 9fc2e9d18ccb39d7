-- The bytes of a file in an arena of one thread.
use Rattle.std.specs.Prelude.{ℕ, List}
use Rattle.fm_mono.specs.Shown.{view_of}
use Rattle.fm_segment.specs.Alone.{bytes_of_region}
use Rattle.fm_top_load.specs.{Held.{IsReady}, declared.loaded.Loaded.TheInside.{Inside}}

abbrev pub loaded_bytes : Inside → List ℕ
loaded_bytes l = bytes_of_region (view_of l.memory).state l.segment

abbrev pub HoldsFile : Inside → Type 0
HoldsFile l = IsReady (view_of l.memory) l.segment
