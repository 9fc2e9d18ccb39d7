use Rattle.std.{proofs.Common.{◌≡◌, ◌∙◌, List, Result, subst}, specs.Prelude.{IfErr}}
use Rattle.fm_base.specs.declared.refusal.Refusal.{Refusal}
use Rattle.fm_io.specs.View.{FilesView}
use Rattle.fm_records.specs.declared.found.Found.{Found}
use Rattle.fm_workers.specs.Beside.{AskedBeside, AsksBeside}
use Rattle.fm_top_stream.{specs.{declared.putting.Putting.{Putting}, Ahead.{PutsAhead}}, proofs.Beside.{answer_wants, asks_ahead, follows_ahead, tells_ahead, was_tried}}
use Rattle.fm_top_stream.proofs.{Reading.{wanting}, Rounds.{still_beside}}
use Rattle.fm_top_stream.proofs.asking.ask_beside.Goals as goal

pub returns-in-Ok-clause-asks : goal.returns-in-Ok-clause-asks
returns-in-Ok-clause-asks g c =
    let view = g.F.Files.view in
    let crew = c.args.crew.now in
    let i = c.loop.invariant in
    let asked = subst (AsksBeside (PutsAhead (view c.loop.files) (view c.query_beside-back.new.with) c.loop.putting c.query_beside-back.new.beside c.loop.pass.caller)
    crew.threads c.loop.pass c.query_beside-back.result.0 crew.q.now c.args.s.now) c.in-Ok.is c.query_beside-back.ensures.asks in
    asks_ahead (subst (λ (y : FilesView × Putting). AskedBeside (PutsAhead y.0 (view c.query_beside-back.new.with) y.1 c.query_beside-back.new.beside c.loop.pass.caller)
    crew.threads c.loop.pass c.query_beside-back.result.0 crew.q.now c.args.s.now c.in-Ok.answer) (λ j. (view (i.files j), i.putting j)) asked)
    i.awaits c.requires.can.some c.requires.other c.requires.room c.query_beside-back.ensures.outside c.join_both.result c.join_both.ensures.both

pub returns-in-Ok-clause-reads : goal.returns-in-Ok-clause-reads
returns-in-Ok-clause-reads g c =
    let view = g.F.Files.view in
    let crew = c.args.crew.now in
    let i = c.loop.invariant in
    let asked = subst (AsksBeside (PutsAhead (view c.loop.files) (view c.query_beside-back.new.with) c.loop.putting c.query_beside-back.new.beside c.loop.pass.caller)
    crew.threads c.loop.pass c.query_beside-back.result.0 crew.q.now c.args.s.now) c.in-Ok.is c.query_beside-back.ensures.asks in
    follows_ahead (subst (λ (y : FilesView × Putting). AskedBeside (PutsAhead y.0 (view c.query_beside-back.new.with) y.1 c.query_beside-back.new.beside c.loop.pass.caller)
    crew.threads c.loop.pass c.query_beside-back.result.0 crew.q.now c.args.s.now c.in-Ok.answer) (λ j. (view (i.files j), i.putting j)) asked)
    c.join_both.result c.join_both.ensures.both

pub returns-in-Ok-clause-tells : goal.returns-in-Ok-clause-tells
returns-in-Ok-clause-tells g c =
    let view = g.F.Files.view in
    let crew = c.args.crew.now in
    let i = c.loop.invariant in
    let asked = subst (AsksBeside (PutsAhead (view c.loop.files) (view c.query_beside-back.new.with) c.loop.putting c.query_beside-back.new.beside c.loop.pass.caller)
    crew.threads c.loop.pass c.query_beside-back.result.0 crew.q.now c.args.s.now) c.in-Ok.is c.query_beside-back.ensures.asks in
    tells_ahead (subst (λ (y : FilesView × Putting). AskedBeside (PutsAhead y.0 (view c.query_beside-back.new.with) y.1 c.query_beside-back.new.beside c.loop.pass.caller)
    crew.threads c.loop.pass c.query_beside-back.result.0 crew.q.now c.args.s.now c.in-Ok.answer) (λ j. (view (i.files j), i.putting j)) asked)
    i.awaits c.join_both.result c.join_both.ensures.both c.join_both.ensures.neither

pub join_both-requires-clause-tried : goal.join_both-requires-clause-tried
join_both-requires-clause-tried g c =
    let view = g.F.Files.view in
    let crew = c.args.crew.now in
    let i = c.loop.invariant in
    let asked = subst (AsksBeside (PutsAhead (view c.loop.files) (view c.query_beside-back.new.with) c.loop.putting c.query_beside-back.new.beside c.loop.pass.caller)
    crew.threads c.loop.pass c.query_beside-back.result.0 crew.q.now c.args.s.now) c.in-Ok.is c.query_beside-back.ensures.asks in
    was_tried (subst (λ (y : FilesView × Putting). AskedBeside (PutsAhead y.0 (view c.query_beside-back.new.with) y.1 c.query_beside-back.new.beside c.loop.pass.caller)
    crew.threads c.loop.pass c.query_beside-back.result.0 crew.q.now c.args.s.now c.in-Ok.answer) (λ j. (view (i.files j), i.putting j)) asked)

pub join_both-requires-clause-wanting : goal.join_both-requires-clause-wanting
join_both-requires-clause-wanting g c =
    let view = g.F.Files.view in
    let crew = c.args.crew.now in
    let i = c.loop.invariant in
    let asked = subst (AsksBeside (PutsAhead (view c.loop.files) (view c.query_beside-back.new.with) c.loop.putting c.query_beside-back.new.beside c.loop.pass.caller)
    crew.threads c.loop.pass c.query_beside-back.result.0 crew.q.now c.args.s.now) c.in-Ok.is c.query_beside-back.ensures.asks in
    answer_wants (subst (λ (y : FilesView × Putting). AskedBeside (PutsAhead y.0 (view c.query_beside-back.new.with) y.1 c.query_beside-back.new.beside c.loop.pass.caller)
    crew.threads c.loop.pass c.query_beside-back.result.0 crew.q.now c.args.s.now c.in-Ok.answer) (λ j. (view (i.files j), i.putting j)) asked)
    i.awaits c.requires.even

pub wait_for_pass-requires : goal.wait_for_pass-requires
wait_for_pass-requires g c =
    let view = g.F.Files.view in
    let crew = c.args.crew.now in
    let queried = subst (AsksBeside (PutsAhead (view c.loop.files) (view c.query_beside-back.new.with) c.loop.putting c.query_beside-back.new.beside c.loop.pass.caller)
    crew.threads c.loop.pass c.query_beside-back.result.0 crew.q.now c.args.s.now) c.in-Err.is c.query_beside-back.ensures.asks in
    wanting c.loop.invariant.awaits.awaits c.in-Err.refusal queried c.requires.even

pub loop-preserved : goal.loop-preserved
loop-preserved g c =
    let view = g.F.Files.view in
    let crew = c.args.crew.now in
    let i = c.loop.invariant in
    let queried = subst (AsksBeside (PutsAhead (view c.loop.files) (view c.query_beside-back.new.with) c.loop.putting c.query_beside-back.new.beside c.loop.pass.caller)
    crew.threads c.loop.pass c.query_beside-back.result.0 crew.q.now c.args.s.now) c.in-Err.is c.query_beside-back.ensures.asks in
    let same = subst (λ (r : Result (Result (List Found) Refusal) Refusal). IfErr r (λ refusal. (c.query_beside-back.new.beside ≡ c.loop.putting)
    × (c.query_beside-back.new.with ≡ c.loop.files))) c.in-Err.is c.query_beside-back.ensures.untouched in
    record {
      awaits = still_beside i.awaits queried c.query_beside-back.ensures.outside;
      putting = same.0 ∙ i.putting;
      files = same.1 ∙ i.files;
    }
