use Rattle.fm_base.specs.Visits.{writes}
use Rattle.fm_arena_braided.{specs.Turns.{StoredInTurn}, proofs.Turns.{IsSoFar}}
use Rattle.fm_arena_braided.proofs.braided.BraidedMemory.store_words.Given as goal

abbrev pub invariant-loop-k : goal.invariant-loop-k
invariant-loop-k g l =
    let view = g.M.Memory.view in
    IsSoFar writes (StoredInTurn view g.T.Turn.turns l.first l.words) view l.first l.words l.k l.fn.self l.self
