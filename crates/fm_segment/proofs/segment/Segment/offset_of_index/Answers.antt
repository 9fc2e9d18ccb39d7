use Rattle.std.proofs.Common.{rules, Ok, Err}
use Rattle.fm_base.specs.declared.refusal.Refusal.TheVariants.{Unsupported}
use Rattle.fm_segment.proofs.Access.{stands_at_index}
use Rattle.fm_segment.proofs.segment.Segment.offset_of_index.Goals as goal

pub returns-then-alignment-size-clause-stands : goal.returns-then-alignment-size-clause-stands
returns-then-alignment-size-clause-stands c = stands_at_index c.args.index c.args.layout.now c.args.self.now (Err Unsupported) (search rules)

pub returns-clause-stands : goal.returns-clause-stands
returns-clause-stands c = stands_at_index c.args.index c.args.layout.now c.args.self.now (Ok c.min.result) (search rules)
