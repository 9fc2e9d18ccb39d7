-- How long files may be.
use Rattle.std.specs.Prelude.{ℕ}

-- the most bytes of a record file
abbrev pub record_file_limit : ℕ
record_file_limit = 67108864
