-- One record more.
use Rattle.std.{proofs.Common.{◌≡◌, ℕ, ◌+◌, List, [], ◌∷◌, ◌++◌, map, refl, ap, sym, ◌∙◌, arith}, specs.List.{flat_map, range_with_len}}
use Rattle.std.proofs.lemmas.{Grind.{flat_map-append}, List.{append-nil, FromFn.{map-range_with_len_more}}}
use Rattle.fm_top_demo.specs.Records.{made_record, made_records}

map-same : (xs : List ℕ) → map (λ x. x) xs ≡ xs
map-same [] = refl
map-same (x ∷ xs) = ap (λ ys. x ∷ ys) (map-same xs)

range_more : (n : ℕ) → range_with_len 0 (n + 1) ≡ range_with_len 0 n ++ n ∷ []
range_more n =
    sym (map-same (range_with_len 0 (n + 1))) ∙ map-range_with_len_more (λ x. x) 0 n n (omega arith)
    ∙ ap (λ xs. xs ++ n ∷ []) (map-same (range_with_len 0 n))

pub made_more : (n : ℕ) → made_records (n + 1) ≡ made_records n ++ made_record n
made_more n =
    ap (flat_map made_record) (range_more n) ∙ flat_map-append made_record (range_with_len 0 n) (n ∷ [])
    ∙ ap (λ ys. made_records n ++ ys) (append-nil (made_record n))
