-- What workers play is lent to their threads. What a `&` to it holds doesn't depend on how its lifetime is called.
use denote.RattleType.{RattleType}
use Rattle.std.proofs.Common.{inl, rules}
use denote.Ref.{NamedLft}
use denote.Signature.{static_lft}
use denote.Param.Send.{IsSync, param_sync}
use Rattle.fm_script.proofs.{Crewed.{crew_refused, crew_unbegun}, Sharing.{lines_sync}}
use Rattle.fm_script.proofs.over.work_players.Goals as goal
use Rattle.fm_script.proofs.over.work_players.Lts as lts

pub work_crew-requires-sync-W : goal.work_crew-requires-sync-W
work_crew-requires-sync-W g c κs within =
    let row : RattleType =
    lts.arg-0-2 g.row.R g.row.G g.R.laws g.G.laws g.R.Threads-dict g.R.Wait-dict g.R.RandomSource-dict g.R.AllocGlobal-dict g.R.Alloc-dict
    g.bound-6-dict g.bound-7-dict g.G.Gate-dict κs in
    let ℓ : NamedLft = record { mir = static_lft.mir; lft = κs.1.1.1.1.1.1.1.0 } in
    let inner : IsSync row = record { shared = λ x b o κ. (lines_sync ℓ _ _ c.type_bounds.sync-R c.type_bounds.sync-G).shared x b o κ } in
    param_sync 2 row inner

pub prove-unreachable-requires : goal.prove-unreachable-requires
prove-unreachable-requires g c =
    let is = crew_refused _ c.args.pass.now c.work_crew.new.pass c.args.players.now.items c.work_crew.new.tasks.items c.in-Err.refusal c.in-Err.ensures.worked
    c.requires.can.whole c.requires.can.enough in
    search (rules, is)

pub returns-in-Err-clause-cut : goal.returns-in-Err-clause-cut
returns-in-Err-clause-cut g c =
    inl (crew_unbegun _ c.args.pass.now c.work_crew.new.pass c.args.players.now.items c.work_crew.new.tasks.items c.in-Err.refusal
    c.in-Err.ensures.worked)
