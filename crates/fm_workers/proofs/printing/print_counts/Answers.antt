use Rattle.std.{proofs.{Common.{◌≡◌, ◌+◌, ◌++◌, [], ℕ, List, sym, ap, ◌∙◌, arith}, lemmas.List.{append-nil}}, specs.List.{flat_map, range_with_len}}
use Rattle.std.proofs.lemmas.Grind.{flat_map-append}
use Rattle.fm_workers.specs.Printed.{place_text, rising, total_text}
use Rattle.fm_base_lists.proofs.Ranges.{range_append}
use Rattle.fm_workers.proofs.printing.print_counts.Goals as goal

-- One more is behind the others.
flat_more : (f : ℕ → List ℕ) (k : ℕ) → flat_map f (range_with_len 0 (k + 1)) ≡ flat_map f (range_with_len 0 k) ++ f k
flat_more f k =
    let at : 0 + k ≡ k = omega arith in
    ap (flat_map f) (range_append 0 k 1) ∙ (flat_map-append f (range_with_len 0 k) (range_with_len (0 + k) 1)
    ∙ ap (λ j. flat_map f (range_with_len 0 k) ++ (f j ++ [])) at ∙ ap (λ xs. flat_map f (range_with_len 0 k) ++ xs) (append-nil (f k)))

pub loop-k-preserved : goal.loop-k-preserved
loop-k-preserved c =
    c.in_ok-push_place.ensures ∙ (ap (λ xs. xs ++ place_text c.args.counts.now (rising c.loop-k.k)) c.loop-k.invariant
    ∙ sym (flat_more (λ k. place_text c.args.counts.now (rising k)) c.loop-k.k))

pub returns : goal.returns
returns c =
    let below = c.loop-k.auto.k-end in
    let all : c.loop-k.k ≡ 256 = omega (arith, below, c.loop-k-test.false) in
    record {
      text = c.in_ok-push_total.ensures ∙ (ap (λ xs. xs ++ total_text c.total.result) (c.loop-k.invariant
          ∙ ap (λ n. flat_map (λ k. place_text c.args.counts.now (rising k)) (range_with_len 0 n)) all)
          ∙ ap (λ n. flat_map (λ k. place_text c.args.counts.now (rising k)) (range_with_len 0 256) ++ total_text n) c.total.ensures);
    }
