use Rattle.std.{proofs.{Common.{◌≡◌, ℕ, ◌+◌, ◌-◌, ◌*◌, ◌++◌, List, ap, ◌∙◌, sym, take, drop, arith}, lemmas.{Grind.{flat_map-append}, List.{append-nil}}}}
use Rattle.std.specs.{List.{flat_map, range_with_len}, String.{string_bytes}}
use Rattle.fm_base_lists.proofs.Ranges.{range_append}
use Rattle.fm_top_texts.specs.Lines.{record_line, text_line}
use Rattle.fm_c_calls.proofs.texts.texts_of.Goals as goal

pub loop-k-preserved : goal.loop-k-preserved
loop-k-preserved c =
    let line = record_line c.args.plan.now c.args.records.now in
    let k = c.loop-k.k in
    let place = k * c.args.plan.now.size + c.args.plan.now.offset in
    let cut : place + c.args.plan.now.count - place ≡ c.args.plan.now.count = omega arith in
    let more : flat_map line (range_with_len 0 (k + 1)) ≡ flat_map line (range_with_len 0 k) ++ line k =
    ap (flat_map line) (range_append 0 k 1) ∙ flat_map-append line (range_with_len 0 k) (range_with_len (0 + k) 1)
    ∙ ap (λ (xs : List ℕ). flat_map line (range_with_len 0 k) ++ xs) (append-nil (line (0 + k)) ∙ ap line (let e : 0 + k ≡ k = omega arith in e)) in
    c.in_ok-push_line.ensures
    ∙ ap (λ (n : ℕ). string_bytes c.loop-k.lines ++ text_line (take n (drop place c.args.records.now))) cut
    ∙ ap (λ (text : List ℕ). text ++ line k) c.loop-k.invariant ∙ sym more
