use Rattle.fm_rule.specs.Passes.{IsOf}
use Rattle.fm_pages.specs.Covers.{Covering}
use Rattle.fm_pages.proofs.covering.cover.Given as goal

abbrev pub invariant-loop-part : goal.invariant-loop-part
invariant-loop-part g l = IsOf l.pool l.pass × Covering l.fn.pass l.pass l.fn.id l.fn.from l.fn.to l.part
