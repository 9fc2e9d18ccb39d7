use Rattle.std.proofs.Common.{◌+◌, ◌-◌}
use Rattle.fm_io.specs.View.{Leaves}
use Rattle.fm_top_load.specs.Reading.{GoesBy, ReadsFurther}
use Rattle.fm_top_stream.specs.{Chunks.{stream_file_limit}, Gone.{HasNext}}
use Rattle.fm_top_stream.proofs.streaming.take_chunks.Given as goal

-- whole chunks have gone through up to the place, where the next one stands, and the next read follows on that
abbrev pub invariant-chunks : goal.invariant-chunks
invariant-chunks g l =
    let old = g.F.Files.view l.fn.files in
    let new = g.F.Files.view l.files in
    record {
      has : HasNext stream_file_limit l.crew.most old.holds l.crew.name.now l.at l.crew.q.now l.crew.pool.now l.going l.standing;
      reads : ReadsFurther old.reads new.reads l.crew.name.now stream_file_limit (GoesBy l.fn.standing.chunk.ended l.fn.standing.chunk.count)
          (GoesBy l.standing.chunk.ended (l.at + l.standing.chunk.count));
      left : Leaves ⊥ ⊥ old new;
    }

abbrev pub decreases-chunks : goal.decreases-chunks
decreases-chunks g l = stream_file_limit - l.at
