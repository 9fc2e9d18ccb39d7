use Rattle.fm_top_pooled.proofs.Allocating.{allocated_lone, first_held, first_only, never_refused}
use Rattle.fm_top_pooled.proofs.stocking.give.Goals as goal

pub unreachable-unreachable : goal.unreachable-unreachable
unreachable-unreachable g c =
    never_refused c.args.arena c.args.size c.requires.lone c.requires.empty c.in-Err.field-0 c.requires.room c.requires.pages c.in-Err.ensures

pub unreachable-requires : goal.unreachable-requires
unreachable-requires g c =
    never_refused c.args.arena c.args.size c.requires.lone c.requires.empty c.in-Err.field-0 c.requires.room c.requires.pages c.in-Err.ensures

pub returns : goal.returns
returns g c = record {
  lone = allocated_lone c.args.arena c.args.size c.requires.lone c.requires.empty c.in-Ok.field-0 c.in-Ok.ensures;
  held = first_held c.args.arena c.args.size c.requires.lone c.requires.empty c.in-Ok.field-0 c.in-Ok.ensures;
  elsewhere = first_only c.args.arena c.args.size c.requires.lone c.requires.empty c.in-Ok.field-0 c.in-Ok.ensures;
  lent = c.in-Ok.ensures.lent c.requires.lone.whole;
}
