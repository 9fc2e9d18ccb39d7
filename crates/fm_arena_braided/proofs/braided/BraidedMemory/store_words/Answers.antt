use Rattle.std.proofs.Common.{rules}
use Rattle.fm_arena_braided.proofs.Turns.{stored_one_more}
use Rattle.fm_arena_braided.proofs.braided.BraidedMemory.store_words.Goals as goal

pub loop-k-preserved : goal.loop-k-preserved
loop-k-preserved g c = search (rules, stored_one_more)
