use Rattle.std.proofs.{Common.{rules, refl, sym, ap, subst, ◌∙◌, w64, of_z, to_z}, lemmas.Int.{to_z-of_z}}
use Rattle.std.specs.Prelude.{List}
use Rattle.fm_group_lists.{specs.{Climbing.{Takes}, Groups.{Group}}, proofs.{Taking.{takes_last, takes_none, takes_nothing}}}
use Rattle.fm_group_lists.proofs.sums.take_last.Goals as goal

pub returns-then-len-eq0 : goal.returns-then-len-eq0
returns-then-len-eq0 c = takes_nothing c.args.sums.now.items c.len-len.result (search rules) c.if-len-eq0.true

pub returns-then-not-is_same : goal.returns-then-not-is_same
returns-then-not-is_same c =
    takes_none c.args.sums.now.items c.len-len.result c.index.result.now (search rules) c.index.ensures
    (λ e. c.if-not-is_same.ensures.no refl (ap (λ k. to_z w64 (of_z w64 k)) e))

pub returns : goal.returns
returns c =
    let mine = to_z-of_z w64 c.args.number (search (rules, c.ranges.number)) in
    let last = to_z-of_z w64 c.index.result.now.0 (search (rules, c.index.type_inv)) in
    subst (λ (xs : List Group). Takes c.args.number c.args.sums.now.items xs c.index.result.now.1) (sym c.truncate.ensures.items)
    (takes_last c.args.sums.now.items c.len-len.result c.index.result.now (search rules) c.if-len-eq0.false c.index.ensures (sym last ∙ c.if-not-is_same.ensures.yes refl ∙ mine))
