use Rattle.std.{proofs.Common.{◌+◌, ◌%◌, Option, Some, refl, sym, ap, subst, ◌∙◌, arith}, specs.Prelude.{IfSome}}
use Rattle.fm_io.{specs.Files.{Contents}, proofs.Left.{leaves_then}}
use Rattle.fm_top_load.{specs.Reading.{GoesBy, ReadsFurther}, proofs.Telling.{by_records, read_quietly, tells_none, tells_then}}
use Rattle.fm_top_stream.specs.{Ahead.{IsFollowed}, Chunks.{stream_file_limit}, Gone.{HasNext}, declared.placed.Placed.{Placed}}
use Rattle.fm_top_stream.proofs.{Chunking.{further_some, further_then}, GoesOn.{ends_within, tells_chunk}}
use Rattle.fm_top_stream.proofs.streaming.take_chunks.Goals as goal

pub take_chunk-requires-after_bounds : goal.take_chunk-requires-after_bounds
take_chunk-requires-after_bounds g c κs within =
    let i = c.chunks.invariant in
    let crew = c.args.crew.now in
    record {
      from = c.chunks.at;
      at = refl;
      asks = c.requires.asks;
      read = record { small = omega arith; short = ends_within i.has c.requires.asks };
      even = sym (ap (λ n. c.chunks.standing.chunk.count % n) c.record_size.ensures.size) ∙ c.in_default.ensures.whole;
      has = subst (λ (told : Option Contents). HasNext stream_file_limit crew.most told crew.name.now c.chunks.at crew.q.now crew.pool.now c.chunks.going c.chunks.standing)
          (sym i.left.held) i.has;
    }

pub returns-in-Err-clause-reads : goal.returns-in-Err-clause-reads
returns-in-Err-clause-reads g c = further_some stream_file_limit c.chunks.invariant.reads

pub returns-in-Err-take_chunk-clause-reads : goal.returns-in-Err-take_chunk-clause-reads
returns-in-Err-take_chunk-clause-reads g c =
    further_some stream_file_limit (further_then stream_file_limit c.chunks.invariant.reads c.in-Err-take_chunk.ensures.reads)

pub returns-in-None-clause-reads : goal.returns-in-None-clause-reads
returns-in-None-clause-reads g c =
    further_some stream_file_limit (further_then stream_file_limit c.chunks.invariant.reads c.in-Ok.ensures.reads)

pub chunks-preserved : goal.chunks-preserved
chunks-preserved g c =
    let i = c.chunks.invariant in
    let crew = c.args.crew.now in
    let old = g.F.Files.view c.chunks.files in
    let new = g.F.Files.view c.take_chunk.new.files in
    let at = c.chunks.at + c.chunks.standing.chunk.count in
    let has = subst (λ (n : Option Placed). IfSome n (HasNext stream_file_limit crew.most old.holds crew.name.now at crew.q.now crew.pool.now c.in-Ok.gone.0)) c.in-Some.is
    c.in-Ok.ensures.goes.on in
    record {
      has = subst (λ (told : Option Contents). HasNext stream_file_limit crew.most told crew.name.now at crew.q.now crew.pool.now c.in-Ok.gone.0 c.in-Some.chunk) i.left.held has;
      reads = further_then stream_file_limit i.reads (subst (λ (n : Option Placed). ReadsFurther old.reads new.reads crew.name.now stream_file_limit
          (GoesBy c.chunks.standing.chunk.ended at) (λ next. IsFollowed at n next)) c.in-Some.is c.in-Ok.ensures.reads);
      left = leaves_then i.left (read_quietly c.in-Ok.ensures.tells);
    }

pub returns-in-Err-clause-tells : goal.returns-in-Err-clause-tells
returns-in-Err-clause-tells g c =
    let i = c.chunks.invariant in
    tells_chunk c.record_size.result i.has c.requires.asks i.left c.record_size.ensures.size c.in-Err.ensures.ragged

pub returns-in-Err-take_chunk-clause-tells : goal.returns-in-Err-take_chunk-clause-tells
returns-in-Err-take_chunk-clause-tells g c =
    by_records c.args.crew.now.q.now.size (Some c.in-Err-take_chunk.fault) (tells_then c.chunks.invariant.left c.in-Err-take_chunk.ensures.tells)

pub returns-in-None-clause-tells : goal.returns-in-None-clause-tells
returns-in-None-clause-tells g c = tells_none (leaves_then c.chunks.invariant.left (read_quietly c.in-Ok.ensures.tells))
