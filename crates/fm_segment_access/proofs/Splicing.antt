-- Bytes that are put among others.
use Rattle.std.proofs.Common.{◌≡◌, ℕ, ◌+◌, ◌-◌, ◌≤◌, inl, inr, List, [], ◌++◌, length, take, drop, refl, sym, ap, ◌∙◌, arith, append_assoc, length-append, length-drop}
use Rattle.std.proofs.lemmas.List.{take_at, drop_at, drop-drop, drop-append-le, take-append-le, length-take-le, take-append-drop}
use Rattle.fm_base_bytes.{specs.Bytes.{bytes_of, number_of}, proofs.Bytes.{length-bytes_of, number_of-bytes_of_mod}}
use Rattle.fm_segment_access.specs.Alone.{with_bytes, GetsWhatWasPut, KeepsBytesElsewhere, KeepsLength}

-- No byte is put.
pub with_none : (all : List ℕ) (place : ℕ) → with_bytes all place [] ≡ all
with_none all place = ap (λ n. take place all ++ drop n all) (let e : place + 0 ≡ place = omega arith in e) ∙ take-append-drop place all

-- Behind bytes that are put all stays.
put_past : (all : List ℕ) (place : ℕ) (p : List ℕ) → place ≤ length all → drop (place + length p) (with_bytes all place p) ≡ drop (place + length p) all
put_past all place p h =
    let rest = drop (place + length p) all in
    let split : with_bytes all place p ≡ (take place all ++ p) ++ drop (place + length p) all =
    sym (append_assoc (take place all) p (drop (place + length p) all)) in
    let len : length (take place all ++ p) ≡ place + length p = length-append (take place all) p ∙ ap (λ n. n + length p) (length-take-le place all h) in
    ap (drop (place + length p)) split ∙ drop_at (take place all ++ p) rest (place + length p) len

-- Bytes within the first ones.
within_first : (first rest : List ℕ) (at size : ℕ) → at + size ≤ length first → take size (drop at (first ++ rest)) ≡ take size (drop at first)
within_first first rest at size h =
    let begins : at ≤ length first = omega arith in
    let fits : size ≤ length (drop at first) = simp length-drop (omega arith) in
    ap (take size) (drop-append-le at first rest begins) ∙ take-append-le size (drop at first) rest fits

regroup : (a p q r : List ℕ) → (a ++ p) ++ (q ++ r) ≡ a ++ ((p ++ q) ++ r)
regroup a p q r = simp append_assoc

-- Bytes that are put in two parts, one after the other.
pub with_bytes-twice : (all : List ℕ) (place : ℕ) (p q : List ℕ) → place ≤ length all
    → with_bytes (with_bytes all place p) (place + length p) q ≡ with_bytes all place (p ++ q)
with_bytes-twice all place p q h =
    let before = take place all in
    let rest = drop (place + length p) all in
    let once = with_bytes all place p in
    let split : with_bytes all place p ≡ (take place all ++ p) ++ drop (place + length p) all =
    sym (append_assoc (take place all) p (drop (place + length p) all)) in
    let len : length (take place all ++ p) ≡ place + length p = length-append (take place all) p ∙ ap (λ n. n + length p) (length-take-le place all h) in
    let low : take (place + length p) (with_bytes all place p) ≡ take place all ++ p =
    ap (take (place + length p)) split ∙ take_at (take place all ++ p) rest (place + length p) len in
    let past = put_past all place p h in
    let sum : place + length p + length q ≡ place + length (p ++ q) = omega (arith, length-append p q) in
    let high : drop (place + length p + length q) (with_bytes all place p) ≡ drop (place + length (p ++ q)) all =
    sym (drop-drop (length q) (place + length p) once) ∙ ap (drop (length q)) past ∙ drop-drop (length q) (place + length p) all ∙ ap (λ n. drop n all) sum in
    ap (λ bs. bs ++ (q ++ drop (place + length p + length q) once)) low
    ∙ ap (λ bs. (before ++ p) ++ (q ++ bs)) high
    ∙ regroup before p q (drop (place + length (p ++ q)) all)

-- ---- laws

-- Bytes that were put are read where they were put.
pub takes_put : (all : List ℕ) (place : ℕ) (bytes : List ℕ) → place ≤ length all → take (length bytes) (drop place (with_bytes all place bytes)) ≡ bytes
takes_put all place bytes h =
    let rest = drop (place + length bytes) all in
    ap (take (length bytes)) (drop_at (take place all) (bytes ++ rest) place (length-take-le place all h)) ∙ take_at bytes rest (length bytes) refl

pub gets_put : GetsWhatWasPut
gets_put all place width number h =
    let bytes = bytes_of width number in
    ap (λ n. number_of (take n (drop place (with_bytes all place bytes)))) (sym (length-bytes_of width number))
    ∙ ap number_of (takes_put all place bytes h)
    ∙ number_of-bytes_of_mod width number

pub keeps_elsewhere : KeepsBytesElsewhere
keeps_elsewhere all bytes place at size h (inl before) =
    let put = bytes ++ drop (place + length bytes) all in
    let len : length (take place all) ≡ place = length-take-le place all (omega arith) in
    let fits : at + size ≤ length (take place all) = omega arith in
    within_first (take place all) put at size fits
    ∙ sym (within_first (take place all) (drop place all) at size fits)
    ∙ ap (λ bs. take size (drop at bs)) (take-append-drop place all)
keeps_elsewhere all bytes place at size h (inr behind) =
    let end = place + length bytes in
    let more = at - (place + length bytes) in
    let sum : place + length bytes + (at - (place + length bytes)) ≡ at = omega arith in
    ap (λ n. take size (drop n (with_bytes all place bytes))) (sym sum)
    ∙ ap (take size) (sym (drop-drop more end (with_bytes all place bytes)) ∙ ap (drop more) (put_past all place bytes (omega arith)) ∙ drop-drop more end all)
    ∙ ap (λ n. take size (drop n all)) sum

pub keeps_count : KeepsLength
keeps_count all bytes place h =
    simp (length-append, length-drop) (omega (arith, length-take-le place all (omega arith)))
