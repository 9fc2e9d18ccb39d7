use Rattle.std.proofs.Common.{rules, ◌≡◌, Ok}
use Rattle.fm_text.{specs.Slices.{next_slice}, proofs.Slices.{lies_from}}
use Rattle.fm_text.proofs.slicing.SlicingAllocator.allocate.Goals as goal

pub returns-clause-lies : goal.returns-clause-lies
returns-clause-lies c =
    let answer : Ok c.in_ok-slice.slice ≡ next_slice c.args.self.now c.args.size c.args.align = search rules in
    lies_from c.args.self.now c.args.size c.args.align c.in_ok-slice.slice answer
