use Rattle.std.proofs.Common.{sym}
use Rattle.fm_mono.specs.Shown.{view_of}
use Rattle.fm_top_load.proofs.GivenBytes.{loaded_is}
use Rattle.fm_top_load.proofs.loaded.Loaded.of.Goals as goal

pub returns : goal.returns
returns c = sym (loaded_is (view_of c.args.memory) c.args.segment)
