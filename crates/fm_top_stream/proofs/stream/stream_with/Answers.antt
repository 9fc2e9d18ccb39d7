use Rattle.std.proofs.Common.{◌<◌, ap, sym, subst, ◌∙◌}
use Rattle.fm_rule.specs.Views.{first_pass, numbers_of}
use Rattle.fm_top_load.proofs.Telling.{read_quietly, tells_none}
use Rattle.fm_top_stream.proofs.{Chunking.{tells_no_memory}, Ends.{can_go, some_in_chunk, streamed}}
use Rattle.fm_top_stream.proofs.stream.stream_with.Goals as goal

pub go_through-requires-clause-can : goal.go_through-requires-clause-can
go_through-requires-clause-can g c κs within =
    let made = c.in-Ok.ensures in
    can_go c.in-Ok.pool c.in-Ok.pass c.chunk_bytes.result c.requires c.chunk_bytes.ensures.sized (made.pool ∙ c.shape_of.ensures.is)
    (made.pass ∙ ap (first_pass (numbers_of c.in-Ok.pool.table.shared.table_id)) c.shape_of.ensures.is) made.sound c.chunk_bytes.ensures.is

pub returns-clause-streams : goal.returns-clause-streams
returns-clause-streams g c =
    let most = c.chunk_bytes.ensures in
    streamed c.chunk_bytes.result most.is (subst (λ n. 0 < n) (sym most.is) (some_in_chunk c.args.q.now.size most.sized c.requires.small))
    (c.in-Ok.ensures.pool ∙ c.shape_of.ensures.is) c.in-Ok-go_through.ensures.goes c.take_apart-finished.ensures

pub returns-in_default-clause-tells : goal.returns-in_default-clause-tells
returns-in_default-clause-tells g c = tells_no_memory (g.F.Files.view c.args.files.now) tt

pub returns-in_default-none-clause-tells : goal.returns-in_default-none-clause-tells
returns-in_default-none-clause-tells g c = tells_no_memory (g.F.Files.view c.args.files.now) tt

pub returns-clause-tells : goal.returns-clause-tells
returns-clause-tells g c = tells_none (read_quietly c.in-Ok-go_through.ensures.tells)
