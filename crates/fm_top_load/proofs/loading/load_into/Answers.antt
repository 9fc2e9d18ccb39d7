use Rattle.std.proofs.Common.{Err, ap, sym, subst}
use Rattle.fm_io.proofs.Left.{leaves_then}
use Rattle.fm_top_load.proofs.{Loads.{begun, begun_none, loads, reads_whole, stops, tells_whole}, Telling.{read_quietly, tells_none, tells_then}}
use Rattle.fm_top_load.specs.Held.{HasRoom}
use Rattle.fm_top_load.proofs.loading.load_into.Goals as goal

pub returns-in_default-clause-left : goal.returns-in_default-clause-left
returns-in_default-clause-left g c = begun_none c.requires.empty.held

pub returns-in-Err-clause-left : goal.returns-in-Err-clause-left
returns-in-Err-clause-left g c = begun_none c.requires.empty.held

pub returns-in-Err-clause-reads : goal.returns-in-Err-clause-reads
returns-in-Err-clause-reads g c = reads_whole c.whole-stretch.ensures c.in-Err.ensures.reads (λ next goes. tt)

pub returns-in-Ok-put_stretch-clause-loaded : goal.returns-in-Ok-put_stretch-clause-loaded
returns-in-Ok-put_stretch-clause-loaded g c =
    let whole = c.whole-stretch.ensures in
    let room = subst (λ n. HasRoom n (g.M.Memory.view c.args.m.now) c.args.arena) (sym whole.limited) c.requires in
    loads c.of.result whole room c.in-Ok-put_stretch.ensures.outside c.in-Ok-put_stretch.ensures.did (read_quietly c.in_default-read.ensures.tells).held c.of.ensures

pub returns-in-Ok-put_stretch-clause-reads : goal.returns-in-Ok-put_stretch-clause-reads
returns-in-Ok-put_stretch-clause-reads g c =
    reads_whole c.whole-stretch.ensures (c.in-Ok-put_stretch.ensures.reads _ _ c.in_default-read.ensures.reads) (λ next goes. tt)

pub returns-in-Ok-put_stretch-clause-tells : goal.returns-in-Ok-put_stretch-clause-tells
returns-in-Ok-put_stretch-clause-tells g c = tells_none (leaves_then (read_quietly c.in_default-read.ensures.tells) (read_quietly c.in-Ok-put_stretch.ensures.tells))

pub returns-clause-left : goal.returns-clause-left
returns-clause-left g c =
    let room = subst (λ n. HasRoom n (g.M.Memory.view c.args.m.now) c.args.arena) (sym c.whole-stretch.ensures.limited) c.requires in
    begun c.whole-stretch.result (g.F.Files.view c.read.new.files).holds c.read.new.self c.in-Err-put_stretch.fault c.in-Err-put_stretch.ensures.did (c.in-Err-put_stretch.ensures.alone room).held

pub returns-clause-reads : goal.returns-clause-reads
returns-clause-reads g c = reads_whole c.whole-stretch.ensures (c.in-Err-put_stretch.ensures.reads _ _ c.in_default-read.ensures.reads) (λ next goes. tt)

pub returns-clause-tells : goal.returns-clause-tells
returns-clause-tells g c =
    let whole = c.whole-stretch.ensures in
    let room = subst (λ n. HasRoom n (g.M.Memory.view c.args.m.now) c.args.arena) (sym whole.limited) c.requires in
    let put = c.in-Err-put_stretch.ensures in
    tells_whole whole (tells_then (read_quietly c.in_default-read.ensures.tells)
    (stops g.M.Memory.nature (g.M.Memory.view c.args.m.now) (g.M.Memory.view c.put_stretch.new.m) c.in-Err-put_stretch.fault (λ r e. (put.alone room).wants r (ap Err e)) put.tells))
