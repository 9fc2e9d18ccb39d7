-- A text that the arguments refuse.
use Rattle.std.proofs.Common.{◌≡◌, ℕ, ◌+◌, ◌<◌, ◌&&◌, Bool, true, false, nat_lt, nat_le, if◌then◌else◌, List, Result, Ok, Err, refl, ap, ◌∙◌}
use Rattle.std.{specs.Prelude.{IsErrAnd}, proofs.lemmas.Bool.{lt-ltb}}
use Rattle.fm_base.specs.{declared.refusal.Refusal.{Refusal, TheVariants.{ReadOnly, Bounds}}, View.{View}}
use Rattle.fm_segment.specs.{Learnt.{CanUse}, Puts.{checked_put}, Region.{Region, part_of}, Slices.{slice_of}}
use Rattle.fm_segment.proofs.Checking.{refused_before, put_refused}
use Rattle.fm_text.specs.Setting.{text_size, AfterSetText}

-- Of a segment that is read-only no byte is put.
pub is_shut : (r : Region) (offset n : ℕ) → 0 < n → r.read_only ≡ true → checked_put r offset n ≡ Err ReadOnly
is_shut r offset n some read_only = rw (lt-ltb 0 n some, read_only) refl

abbrev pub unit_ok : Result (Unit {0}) Refusal
unit_ok = Ok tt

-- A test that fails fails behind any other.
pub and_false : (b : Bool) → (b && false) ≡ false
and_false true = refl
and_false false = refl

-- Where a slice is refused by a test, so is what has the same test.
same_test : (b : Bool) (part : Region) (e : Refusal) → (if b then Ok part else Err Bounds) ≡ Err e → (if b then unit_ok else Err Bounds) ≡ Err e
same_test true part e h = absurd (let no : ⊥ = cc in no)
same_test false part e h = cc

-- Of any other they are refused as the slice that they would take.
pub no_slice : (r : Region) (offset n : ℕ) (e : Refusal) → r.read_only ≡ false → slice_of offset n r ≡ Err e → checked_put r offset n ≡ Err e
no_slice r offset n e writable h =
    let wide = nat_le (offset + n) r.size in
    ap (λ b. if nat_lt 0 n && b then Err ReadOnly else (if wide then unit_ok else Err Bounds)) writable
    ∙ ap (λ b. if b then Err ReadOnly else (if wide then unit_ok else Err Bounds)) (and_false (nat_lt 0 n))
    ∙ same_test wide (part_of offset n r) e h

-- All that is learnt of a text that its arguments refuse.
pub set_refused : {v : View} {r : Region} {result : Result (Unit {0}) Refusal} {e : Refusal} (offset : ℕ) (text : List ℕ) → CanUse v r
    → checked_put r offset (text_size text) ≡ Err e → IsErrAnd result (λ y. y ≡ e) → AfterSetText v v r offset text result
set_refused {v} {r} {result} {e} offset text can was q =
    refused_before _ _ can.outside refl was (put_refused r offset (text_size text) v.caller e) can.known q
