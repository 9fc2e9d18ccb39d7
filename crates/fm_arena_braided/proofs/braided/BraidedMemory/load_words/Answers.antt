use Rattle.std.proofs.Common.{rules}
use Rattle.fm_arena_braided.proofs.Turns.{loaded_one_more}
use Rattle.fm_arena_braided.proofs.braided.BraidedMemory.load_words.Goals as goal

pub loop-k-preserved : goal.loop-k-preserved
loop-k-preserved g c = search (rules, loaded_one_more)
