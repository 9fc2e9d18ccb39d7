use Rattle.std.proofs.Common.{◌≡◌}
use Rattle.fm_top_stream.proofs.Rounds.{AwaitsBeside}
use Rattle.fm_top_stream.proofs.asking.ask_beside.Given as goal

-- it drew nobody who could answer, and nothing was put
abbrev pub invariant-loop : goal.invariant-loop
invariant-loop g l = record {
  awaits : AwaitsBeside l.fn.pass.shape.passes l.fn.putting.stretch.most l.crew.pool.now l.fn.pass l.pass l.s l.fn.putting.arena;
  putting : l.putting ≡ l.fn.putting;
  files : l.files ≡ l.fn.files;
}
