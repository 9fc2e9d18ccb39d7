use Rattle.fm_arena.proofs.Pages.{Loaded}
use Rattle.fm_arena.proofs.shared.Shared.load_page.Given as goal

abbrev pub invariant-loop-k : goal.invariant-loop-k
invariant-loop-k l = Loaded l.self-inside.pool.now l.fn.self l.self-inside.pass l.first l.words l.place l.size l.k
