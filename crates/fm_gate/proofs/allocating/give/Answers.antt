use Rattle.std.proofs.Common.{◌∙◌, sym}
use Rattle.fm_base.proofs.Growing.{power_pos}
use Rattle.fm_gate.proofs.{Gives.{can_try_parts, gives_begin, gives_more, inside_on}, Given.{after_fits, after_past, after_unpaged}}
use Rattle.fm_gate.proofs.allocating.give.Goals as goal

pub loop-init : goal.loop-init
loop-init g c =
    gives_begin c.args.id c.args.size c.args.align c.first_count-count.result c.step_allocate-found.result c.requires.inside c.first_count-count.ensures
    c.step_allocate-found.ensures.stepped c.step_allocate-found.ensures.count

pub returns-in-Some-room : goal.returns-in-Some-room
returns-in-Some-room g c =
    after_fits c.loop.invariant c.requires.none c.limit.result c.if-found-count.true c.limit.ensures _ (sym c.in-Some-room.is ∙ c.room.ensures)

pub returns-in-None-room : goal.returns-in-None-room
returns-in-None-room g c =
    after_past c.loop.invariant c.requires.none c.limit.result c.if-found-count.true c.limit.ensures (sym c.in-None-room.is ∙ c.room.ensures)

pub loop-preserved : goal.loop-preserved
loop-preserved g c = gives_more c.loop.invariant c.if-found-count.false c.in-Some-try_at.ensures

pub returns-in-None-try_at : goal.returns-in-None-try_at
returns-in-None-try_at g c = after_unpaged c.loop.invariant c.requires.none c.if-found-count.false c.in-None-try_at.ensures

pub step_allocate-found-requires-clause-of : goal.step_allocate-found-requires-clause-of
step_allocate-found-requires-clause-of g c = (inside_on c.first_count-count.ensures.way c.requires.inside).of

pub step_allocate-found-requires-clause-inside : goal.step_allocate-found-requires-clause-inside
step_allocate-found-requires-clause-inside g c = (inside_on c.first_count-count.ensures.way c.requires.inside).inside

pub step_allocate-found-requires-clause-parts : goal.step_allocate-found-requires-clause-parts
step_allocate-found-requires-clause-parts g c = can_try_parts c.first_count-count.ensures

pub room-requires : goal.room-requires
room-requires g c = power_pos c.args.align c.requires.power
