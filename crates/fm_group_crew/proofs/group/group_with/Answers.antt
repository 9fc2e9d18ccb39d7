use Rattle.std.proofs.Common.{refl, inl}
use Rattle.fm_base.specs.declared.refusal.Refusal.TheVariants.{Memory, WrongThread}
use Rattle.fm_group_crew.proofs.Outcome.{can_count_all, dealt_as, grouped, grouped_none, grouped_refused}
use Rattle.fm_group_crew.proofs.group.group_with.Goals as goal

pub returns-then-not-is_for_all-clause-grouped : goal.returns-then-not-is_for_all-clause-grouped
returns-then-not-is_for_all-clause-grouped g c =
    grouped_none {w = c.args.t.now} WrongThread (λ e. absurd (cc)) (λ e. absurd (cc)) c.requires.records c.requires.table
    (c.if-not-is_for_all.ensures.no refl, refl)

pub returns-in_default-clause-grouped : goal.returns-in_default-clause-grouped
returns-in_default-clause-grouped g c =
    grouped_none {w = c.args.t.now} Memory (λ e. absurd (cc)) (λ e. absurd (cc)) c.requires.records c.requires.table
    (c.if-not-is_for_all.ensures.yes refl, inl refl)

pub work_crew_then-requires-clause-can : goal.work_crew_then-requires-clause-can
work_crew_then-requires-clause-can g c κs within =
    let is = dealt_as c.args.t.now c.values.result.now c.len.result c.args.threads c.in-Ok.shares.items c.in-Ok.ensures c.len.ensures c.values.ensures in
    can_count_all c.args.t.now c.args.pass.now c.args.threads c.in-Ok.shares.items c.requires.some
    (record { records = c.requires.records; table = c.requires.table; for_all = c.if-not-is_for_all.ensures.yes refl }) is

pub returns-in-Ok-work_crew_then-clause-grouped : goal.returns-in-Ok-work_crew_then-clause-grouped
returns-in-Ok-work_crew_then-clause-grouped g c =
    let is = dealt_as c.args.t.now c.values.result.now c.len.result c.args.threads c.in-Ok.shares.items c.in-Ok.ensures c.len.ensures c.values.ensures in
    grouped {w = c.args.t.now} c.requires.records c.requires.table c.if-not-is_for_all.ensures.can c.requires.some
    (c.if-not-is_for_all.ensures.yes refl) is c.work_crew_then.new.work.groups c.in-Ok-work_crew_then.ensures.went_on

pub returns-clause-grouped : goal.returns-clause-grouped
returns-clause-grouped g c =
    let is = dealt_as c.args.t.now c.values.result.now c.len.result c.args.threads c.in-Ok.shares.items c.in-Ok.ensures c.len.ensures c.values.ensures in
    grouped_refused {w = c.args.t.now} c.requires.records c.requires.table c.if-not-is_for_all.ensures.can
    (c.if-not-is_for_all.ensures.yes refl) is c.work_crew_then.new.work.groups c.in-Err.refusal c.in-Err.ensures.went_on
