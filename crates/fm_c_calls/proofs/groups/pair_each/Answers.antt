use Rattle.std.{proofs.{Common.{rules, ◌≡◌, ℕ, ◌++◌, ◌∷◌, [], List, ap, refl, sym, ◌∙◌, map, arith}, lemmas.{Int.{to_z-of_z}, List.FromFn.{map-range_with_len_more}}}, specs.{Prelude.{ℤ}, Int.{w64}, List.{range_with_len}}}
use Rattle.fm_group.{specs.Values.{number_in}, proofs.Ordinals.{by_ordinal}}
use Rattle.fm_group_lists.specs.Groups.{Group}
use Rattle.fm_c_calls.specs.Grouped.{once, values_in}
use Rattle.fm_c_calls.proofs.Valued.{are_valued, pairs_once}
use Rattle.fm_c_calls.proofs.groups.pair_each.Goals as goal

pub loop-n-preserved : goal.loop-n-preserved
loop-n-preserved c =
    let bytes = c.args.records.now in
    let v = values_in c.args.path.now c.args.records.now in
    let n = c.loop-n.n in
    c.in_ok-push.ensures.items ∙ ap (λ (x : ℤ). c.loop-n.pairs.items ++ (x, 1) ∷ []) (to_z-of_z w64 c.number_of.result (search rules) ∙ c.number_of.ensures)
    ∙ ap (λ (ps : List Group). ps ++ (number_in v bytes n, 1) ∷ []) c.loop-n.invariant
    ∙ sym (map-range_with_len_more (λ k. (number_in v bytes k, 1)) 0 n n (omega arith))

pub returns : goal.returns
returns c =
    let bytes = c.args.records.now in
    let v = values_in c.args.path.now c.args.records.now in
    let all : c.loop-n.n ≡ c.count_of-n-end.result = (let f = c.loop-n-test.false in let t = c.loop-n.auto.n-end in omega arith) in
    c.loop-n.invariant ∙ pairs_once (number_in v bytes) (range_with_len 0 c.loop-n.n)
    ∙ ap (λ (n : ℕ). once (map (number_in v bytes) (range_with_len 0 n))) (all ∙ c.count_of-n-end.ensures)
    ∙ ap once (by_ordinal v bytes (are_valued c.requires.values c.requires.whole) refl)
