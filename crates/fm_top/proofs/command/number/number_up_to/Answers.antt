use Rattle.std.proofs.Common.{arith, rules}
use Rattle.fm_top.proofs.{Numbers.{no_number_to}, command.number.number_up_to.Goals.{else-n-ge1-via-then-n-ge1+else-n-most, else-n-ge1-via-else-n-ge1}}
use Rattle.fm_top.proofs.command.number.number_up_to.Goals as goal

pub returns-else-n-ge1-clause-none : goal.returns-else-n-ge1-clause-none
returns-else-n-ge1-clause-none c =
    no_number_to c.args.word.now c.args.most c.in-Some.n (search rules) c.in-Some.ensures.found c.in-Some.ensures.fits
    (λ some few. elim c.else-n-ge1.branch [
      | else-n-ge1-via-then-n-ge1+else-n-most w ↦ omega (arith, w.if-n-most.false, few)
      | else-n-ge1-via-else-n-ge1 w ↦ omega (arith, w.if-n-ge1.false, some)
    ])
