use Rattle.std.{proofs.{lemmas.Int.{to_z-of_z}, Common.{w64, rules, ◌<◌, ◌≡◌, ◌+◌, ◌++◌, suc, length, take, take_all, ap, sym, ◌∙◌, arith}}, specs.{List.{flat_map}, Prelude.{pos}, String.{string_bytes}}}
use mir.Val.{to_z, of_z}
use Rattle.fm_group_lists.specs.Groups.{Group}
use Rattle.fm_group_text.{specs.Printed.{group_text, total_text}, proofs.Front.{front_more}}
use Rattle.fm_group_text.proofs.printing.print_groups.Goals as goal

pub loop-k-preserved : goal.loop-k-preserved
loop-k-preserved c =
    let gs = c.args.groups.now in
    let k = c.loop-k.k in
    let next : k + 1 ≡ suc k = omega arith in
    let below : k < length gs = rw (← c.len-k-end.ensures) c.loop-k-test.true in
    let n = c.at-number.result.0 in
    let stored : to_z w64 (of_z w64 n) ≡ n = to_z-of_z w64 n (search (rules, c.at-number.type_inv)) in
    c.in_ok-push_group.ensures ∙ (ap (λ m. string_bytes c.loop-k.text ++ group_text (m, c.at-number.result.1)) stored
    ∙ (ap (λ text. text ++ group_text c.at-number.result) c.loop-k.invariant
    ∙ (ap (λ (g : Group). flat_map group_text (take k gs) ++ group_text g) c.at-number.ensures
    ∙ (sym (front_more gs k (pos 0, 0) below) ∙ ap (λ n. flat_map group_text (take n gs)) (sym next)))))

pub returns : goal.returns
returns c =
    let gs = c.args.groups.now in
    let k = c.loop-k.k in
    let all : take k gs ≡ gs = take_all k gs (let past = c.loop-k-test.false in let len = c.len-k-end.ensures in omega (arith, past, len)) in
    c.in_ok-push_total.ensures ∙ (ap (λ text. text ++ total_text c.total.result) (c.loop-k.invariant ∙ ap (flat_map group_text) all)
    ∙ ap (λ n. flat_map group_text gs ++ total_text n) c.total.ensures)
