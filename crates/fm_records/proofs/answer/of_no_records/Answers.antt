-- Nothing was found.
use Rattle.std.proofs.Common.{[], map, ◌∙◌, ap, sym, subst}
use Rattle.fm_records.{specs.{Answers.{item_found}, Few.{AreFew}}, proofs.Few.{nothing_few}}
use Rattle.fm_records.proofs.answer.of_no_records.Goals as goal

pub returns-clause-few : goal.returns-clause-few
returns-clause-few c =
    let is = c.of.ensures ∙ c.in_ok-found_in_none.ensures ∙ ap (map (item_found [])) c.items.ensures.items in
    subst (AreFew 0 c.args.q.now) (sym is) (nothing_few c.args.q.now.items)
