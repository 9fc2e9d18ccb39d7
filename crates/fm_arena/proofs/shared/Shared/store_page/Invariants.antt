use Rattle.fm_arena.proofs.Pages.{Stored}
use Rattle.fm_arena.proofs.shared.Shared.store_page.Given as goal

abbrev pub invariant-loop-k : goal.invariant-loop-k
invariant-loop-k l = Stored l.self-inside.pool.now l.fn.self l.self-inside.pass l.first l.words l.place l.size l.k
