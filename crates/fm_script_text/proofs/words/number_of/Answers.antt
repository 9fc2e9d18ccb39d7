use Rattle.std.proofs.{Common.{refl, sym, ◌∙◌}, lemmas.Bool.{le-leb, lt-leb}}
use Rattle.fm_script_text.proofs.Numbers.{named_number}
use Rattle.fm_script_text.proofs.words.number_of.Goals as goal

pub returns-then-n-most-clause-number : goal.returns-then-n-most-clause-number
returns-then-n-most-clause-number c =
    sym (named_number c.args.most c.in_ok-n.n c.args.word.now c.in_ok-n.ensures.fits c.in_ok-n.ensures.found
    ∙ rw (le-leb c.in_ok-n.n c.args.most c.if-n-most.true) refl)

pub returns-else-n-most-clause-number : goal.returns-else-n-most-clause-number
returns-else-n-most-clause-number c =
    sym (named_number c.args.most c.in_ok-n.n c.args.word.now c.in_ok-n.ensures.fits c.in_ok-n.ensures.found
    ∙ rw (lt-leb c.in_ok-n.n c.args.most c.if-n-most.false) refl)
