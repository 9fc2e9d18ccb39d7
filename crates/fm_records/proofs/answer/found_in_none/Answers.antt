-- Item by item.
use Rattle.std.proofs.{Common.{◌≡◌, ◌+◌, ◌<◌, ℕ, List, [], ◌∷◌, ◌++◌, length, get_or, map, take, ◌∙◌, ap, sym}, lemmas.List.{map-append, take_all, take_more}}
use Rattle.std.proofs.lemmas.Result.{IfOk-from_err}
use Rattle.fm_records_query.specs.declared.item.Item.{Item}
use Rattle.fm_records.specs.Answers.{found_in, item_found}
use Rattle.fm_records.proofs.answer.found_in_none.Goals as goal

one_more : (items : List Item) (i : ℕ) (x d : Item) → i < length items → x ≡ get_or items i d
    → map (item_found []) (take i items) ++ found_in [] x.asked ∷ [] ≡ map (item_found []) (take (i + 1) items)
one_more items i x d below is =
    ap (λ y. map (item_found []) (take i items) ++ item_found [] y ∷ []) is
    ∙ sym (ap (map (item_found [])) (take_more items i d below) ∙ map-append (item_found []) (take i items) (get_or items i d ∷ []))

pub loop-item-preserved : goal.loop-item-preserved
loop-item-preserved c =
    let items = c.args.items.now in
    let i = c.loop-item.item-index in
    c.in_ok-push.ensures.items ∙ ap (λ fs. fs ++ c.in_none.result ∷ []) c.loop-item.invariant
    ∙ ap (λ f. map (item_found []) (take i items) ++ f ∷ []) c.in_none.ensures
    ∙ one_more items i c.item-item.result _ c.loop-item-test.true c.item-item.is

pub returns-in_err-push : goal.returns-in_err-push
returns-in_err-push c =
    IfOk-from_err c.from_residual.result (λ found. found.items ≡ map (item_found []) c.args.items.now) c.from_residual.ensures.0

pub returns : goal.returns
returns c = c.loop-item.invariant ∙ ap (map (item_found [])) (take_all c.loop-item.item-index c.args.items.now c.loop-item-test.false)
