-- A pass that has nothing has nothing after a call that gives it nothing.
use Rattle.fm_base.specs.Calls.{Entry}
use Rattle.std.proofs.Common.{List}
use Rattle.fm_rule_facts.specs.Views.{View}
use Rattle.fm_rule_calls.specs.Kept.{Kept}
use Rattle.fm_gate.specs.Crews.{CrewStands, HasNothing}

pub nothing_on : {p q : View} {P : List Entry → Type 0} → CrewStands → Kept p q P → HasNothing p → HasNothing q
nothing_on {p} {q} law kept was = law.nothing p q kept.own kept.goes kept.rest was
