use Rattle.fm_base.specs.Visits.{reads}
use Rattle.fm_arena_braided.{specs.Turns.{LoadedInTurn}, proofs.Turns.{IsSoFar}}
use Rattle.fm_arena_braided.proofs.braided.BraidedMemory.load_words.Given as goal

abbrev pub invariant-loop-k : goal.invariant-loop-k
invariant-loop-k g l =
    let view = g.M.Memory.view in
    IsSoFar reads (LoadedInTurn view g.T.Turn.turns l.first l.words) view l.first l.words l.k l.fn.self l.self
