-- Bytes with a 0 behind them.
use Rattle.std.proofs.Common.{◌≡◌, ℕ, ◌+◌, ◌*◌, ◌^◌, ◌≤◌, ◌<◌, List, [], ◌∷◌, ◌++◌, length, take, drop, refl, ap, sym, ◌∙◌, arith}
use Rattle.std.proofs.lemmas.List.{Elements.{All-append, All-cons, All-nil, All-drop}, length-append, length-drop, take-append-le, drop-append-le, take_all}
use Rattle.byteorder.specs.Endian.{little_number}
use Rattle.fm_base_bytes.specs.Bytes.{AreBytes, number_of}
use Rattle.fm_lanes.proofs.Reading.{little_number-number_of}
use Rattle.fm_segment_access.proofs.Alone.{is_part}
use Rattle.fm_text.specs.Texts.{zero_ended}

-- A 0 on top adds nothing to a number.
number_of-ended : (bs : List ℕ) → number_of (zero_ended bs) ≡ number_of bs
number_of-ended [] = refl
number_of-ended (b ∷ bs) = ap (λ n. b + 256 * n) (number_of-ended bs)

-- A part that lies before the 0.
pub part_before : (bs : List ℕ) (at width number : ℕ) → at ≤ length bs → width ≤ length (drop at bs) → number ≡ little_number width (drop at bs)
    → number ≡ number_of (take width (drop at (zero_ended bs)))
part_before bs at width number h w e =
    e ∙ (little_number-number_of width (drop at bs) ∙ sym (ap (λ xs. number_of (take width xs)) (drop-append-le at bs (0 ∷ []) h)
    ∙ ap number_of (take-append-le width (drop at bs) (0 ∷ []) w)))

-- A part whose last byte is the 0.
pub part_ended : (bs : List ℕ) (at width number : ℕ) → at ≤ length bs → length (drop at bs) < width → at + width ≤ length bs + 1
    → number ≡ little_number (length (drop at bs)) (drop at bs) → number ≡ number_of (take width (drop at (zero_ended bs)))
part_ended bs at width number h more within e =
    let left = drop at bs in
    let len = length-drop at bs in
    let all : length (left ++ 0 ∷ []) ≤ width = omega (arith, length-append left (0 ∷ [])) in
    e ∙ (little_number-number_of (length left) left ∙ (ap number_of (take_all (length left) left (omega arith)) ∙ (sym (number_of-ended left)
    ∙ (sym (ap number_of (take_all width (left ++ 0 ∷ []) all)) ∙ sym (ap (λ xs. number_of (take width xs)) (drop-append-le at bs (0 ∷ []) h))))))

-- With the 0 they are bytes still.
pub are_bytes : (bs : List ℕ) → AreBytes bs → AreBytes (zero_ended bs)
are_bytes bs are = All-append (λ b. b < 256) bs (0 ∷ []) are (All-cons (λ b. b < 256) 0 [] (omega arith) (All-nil (λ b. b < 256)))

-- A part of them is small enough for its bytes.
pub small : (bs : List ℕ) (at width number : ℕ) → AreBytes bs → at + width ≤ length bs + 1 → number ≡ number_of (take width (drop at (zero_ended bs)))
    → number < 2 ^ (8 * width)
small bs at width number are within e =
    let left = drop at (zero_ended bs) in
    let fits : width ≤ length left = omega (arith, length-drop at (zero_ended bs), length-append bs (0 ∷ [])) in
    (is_part left width number (All-drop (λ b. b < 256) at (zero_ended bs) (are_bytes bs are)) fits e).small
