-- Runs of bytes as long as chunks are the chunks of what they are together.
use Rattle.std.proofs.Common.{◌≡◌, ℕ, ◌+◌, ◌-◌, ◌*◌, ◌/◌, ◌<◌, List, [], ◌∷◌, ◌++◌, length, take, drop, refl, ap, ◌∙◌, arith, length-append}
use Rattle.std.proofs.lemmas.{Nat.{div-mul-add}, List.{append-nil, take_all, take_at, drop_at}}
use Rattle.fm_records.specs.Records.{pieces}
use Rattle.fm_top_stream.specs.Chunks.{AreCut, all_bytes, cut_in}

-- As many pieces as there are runs are the runs.
pieces_again : (size : ℕ) (runs : List (List ℕ)) → AreCut size runs → pieces (length runs) size (all_bytes runs) ≡ runs
pieces_again size [] cut = refl
pieces_again size (run ∷ []) cut =
    ap (λ b. b ∷ []) (ap (take size) (append-nil run) ∙ take_all size run cut.1)
pieces_again size (run ∷ (next ∷ runs)) cut =
    let rest = all_bytes (next ∷ runs) in
    ap (λ b. b ∷ pieces (length (next ∷ runs)) size (drop size (run ++ rest))) (take_at run rest size cut.0)
    ∙ ap (λ b. run ∷ pieces (length (next ∷ runs)) size b) (drop_at run rest size cut.0)
    ∙ ap (λ bs. run ∷ bs) (pieces_again size (next ∷ runs) cut.1)

-- Together they are so many times as long, but for less than one.
count_of : (size : ℕ) (runs : List (List ℕ)) → 0 < size → AreCut size runs
    → (r : ℕ) × (r < size) × (length (all_bytes runs) + (size - 1) ≡ length runs * size + r)
count_of size [] some cut = (size - 1, omega arith, omega arith)
count_of size (run ∷ []) some cut =
    let all = ap length (append-nil run) in
    (length run - 1, omega (arith, cut.0, cut.1), omega (arith, cut.0, all))
count_of size (run ∷ (next ∷ runs)) some cut =
    let behind = count_of size (next ∷ runs) some cut.1 in
    let all = length-append run (all_bytes (next ∷ runs)) in
    (behind.0, behind.1, omega (arith, behind.2, all, cut.0))

pub cuts_again : (most : ℕ) (runs : List (List ℕ)) → 0 < most → AreCut most runs → cut_in most (all_bytes runs) ≡ runs
cuts_again most runs some cut =
    let count = count_of most runs some cut in
    let many : (length (all_bytes runs) + (most - 1)) / most ≡ length runs =
    ap (λ n. n / most) count.2 ∙ div-mul-add (length runs) most count.0 count.1 in
    ap (λ n. pieces n most (all_bytes runs)) many ∙ pieces_again most runs cut
