-- Bytes that are copied piece by piece, beside bytes that are still to be read.
use Rattle.std.proofs.Common.{◌≡◌, ℕ, ◌+◌, ◌≤◌, inl, List, ◌++◌, length, take, drop, sym, ap, ◌∙◌, arith, append_assoc, length-append}
use Rattle.std.proofs.{lemmas.List.{drop_at, drop-drop, length-drop, length-take, length-take-le}, Math.Seq.{take-add}}
use Rattle.fm_segment_access.{specs.Alone.{with_bytes}, proofs.Splicing.{with_bytes-twice, keeps_elsewhere}}

-- Bytes that are put in two parts, the higher one first.
with_bytes-below : (all : List ℕ) (place : ℕ) (p q : List ℕ) → place + length q + length p ≤ length all
    → with_bytes (with_bytes all (place + length q) p) place q ≡ with_bytes all place (q ++ p)
with_bytes-below all place p q h =
    let high = place + length q in
    let once = with_bytes all high p in
    let rest = drop (high + length p) all in
    let len : length (take (place + length q) all) ≡ place + length q = length-take-le (place + length q) all (omega arith) in
    let past : drop (place + length q) (with_bytes all (place + length q) p) ≡ p ++ drop (place + length q + length p) all =
    drop_at (take high all) (p ++ rest) (place + length q) len in
    let low : take place (with_bytes all (place + length q) p) ≡ take place all = keeps_elsewhere all p high 0 place h (inl (omega arith)) in
    let sum : place + length q + length p ≡ place + length (q ++ p) = omega (arith, length-append q p) in
    ap (λ bs. bs ++ (q ++ drop high once)) low
    ∙ ap (λ bs. take place all ++ (q ++ bs)) past
    ∙ ap (λ bs. take place all ++ bs) (sym (append_assoc q p rest))
    ∙ ap (λ n. take place all ++ ((q ++ p) ++ drop n all)) sum

-- Bytes that were found stand within.
pub found_within : (xs : List ℕ) (from width : ℕ) → 1 ≤ width → length (take width (drop from xs)) ≡ width → from + width ≤ length xs
found_within xs from width h e =
    let t = length-take width (drop from xs) in
    let d = length-drop from xs in
    omega arith

-- Bytes of a piece and those behind it are all found.
pub all_found : (xs : List ℕ) (from width next left : ℕ) → width + next ≡ left → from + width ≤ length xs → length (take next (drop (from + width) xs)) ≡ next
    → length (take left (drop from xs)) ≡ left
all_found xs from width next left sum room rest =
    let t = length-take next (drop (from + width) xs) in
    let d = length-drop (from + width) xs in
    let e = length-drop from xs in
    length-take-le left (drop from xs) (omega arith)

module _ (S T : List ℕ) (from to w y : ℕ) (more : List ℕ) where
  -- The lowest piece first, and then the bytes behind it.
  pub copied_up : to ≤ length T → length (take w (drop from S)) ≡ w → more ≡ take y (drop (from + w) S)
      → with_bytes (with_bytes T to (take w (drop from S))) (to + w) more ≡ with_bytes T to (take (w + y) (drop from S))
  copied_up room len is =
      let p = take w (drop from S) in
      let q = take y (drop (from + w) S) in
      let both : take w (drop from S) ++ take y (drop (from + w) S) ≡ take (w + y) (drop from S) =
      sym (take-add w y (drop from S) ∙ ap (λ bs. p ++ take y bs) (drop-drop w from S)) in
      ap (with_bytes (with_bytes T to p) (to + w)) is
      ∙ ap (λ n. with_bytes (with_bytes T to p) (to + n) q) (sym len)
      ∙ with_bytes-twice T to p q room
      ∙ ap (with_bytes T to) both

  -- The highest piece first, and then the bytes below it.
  pub copied_down : to + y + w ≤ length T → length (take y (drop from S)) ≡ y → length (take w (drop (from + y) S)) ≡ w → more ≡ take y (drop from S)
      → with_bytes (with_bytes T (to + y) (take w (drop (from + y) S))) to more ≡ with_bytes T to (take (y + w) (drop from S))
  copied_down room len wide is =
      let p = take w (drop (from + y) S) in
      let q = take y (drop from S) in
      let both : take y (drop from S) ++ take w (drop (from + y) S) ≡ take (y + w) (drop from S) =
      sym (take-add y w (drop from S) ∙ ap (λ bs. q ++ take w bs) (drop-drop y from S)) in
      let fits : to + length (take y (drop from S)) + length (take w (drop (from + y) S)) ≤ length T = omega arith in
      ap (with_bytes (with_bytes T (to + y) p) to) is
      ∙ ap (λ n. with_bytes (with_bytes T (to + n) p) to q) (sym len)
      ∙ with_bytes-below T to p q fits
      ∙ ap (with_bytes T to) both
