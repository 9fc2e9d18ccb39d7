use Rattle.std.proofs.Common.{◌≡◌, ◌+◌, ◌-◌, Bool, if◌then◌else◌, ap, ◌∙◌, sym, eq-eqb, ne_eqb, arith}
use Rattle.fm_rule_facts.specs.Words.{kept}
use Rattle.fm_rule.proofs.words.generation_after.Goals as goal

pub returns-then-next-generations : goal.returns-then-next-generations
unfolding kept
returns-then-next-generations c =
    let g = c.args.generation in
    let same : g + 1 - 1 ≡ g = omega arith in
    sym (ap (λ (b : Bool). if b then g + 1 - 1 else g + 1) (eq-eqb (g + 1) c.args.generations c.if-next-generations.true) ∙ same)

pub returns : goal.returns
unfolding kept
returns c =
    let g = c.args.generation in
    sym (ap (λ (b : Bool). if b then g + 1 - 1 else g + 1) (ne_eqb (g + 1) c.args.generations c.if-next-generations.false))
