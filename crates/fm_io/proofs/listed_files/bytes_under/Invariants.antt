use Rattle.std.proofs.Common.{◌≡◌, drop}
use Rattle.fm_io.specs.Files.{file_of, contents_of}
use Rattle.fm_io.proofs.listed_files.bytes_under.Given as goal

-- what is left has the same file under the name as all of them
abbrev pub invariant-loop-file : goal.invariant-loop-file
invariant-loop-file l = file_of (contents_of (drop l.file-index l.files)) l.name ≡ file_of (contents_of l.files) l.name
