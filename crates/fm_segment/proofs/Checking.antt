-- Calls that are checked before an arena is entered.
use Rattle.std.proofs.Common.{◌≡◌, ◌⊎◌, inl, inr, ℕ, ◌+◌, ◌<◌, ◌&&◌, Bool, true, false, nat_lt, nat_le, if◌then◌else◌, Result, Ok, Err, List, None, refl, sym, subst, ◌∙◌, arith}
use Rattle.std.{specs.Prelude.{IsErrAnd, ⊤}, proofs.lemmas.Bool.{and_parts, lt-ltb, ltb-true, le-leb, leb-true, leb-false}}
use Rattle.fm_base.specs.{declared.{caller.Caller.{Caller}, refusal.Refusal.{Refusal, TheVariants.{ReadOnly, Bounds, WrongThread, Closed}}}, Calls.{Entry}}
use Rattle.fm_base.specs.{Outcomes.{Lasts}, View.{View}}
use Rattle.fm_segment_access.{specs.{Found.{UseCause}, Learnt.{After}}, proofs.Learning.{if_err, after_none, after_said}}
use Rattle.fm_segment_copies.specs.{Learnt.{BothCause}, Sides.{side}}
use Rattle.fm_segment.specs.{Alone.{StaysOutAfter}, Copies.{checked_copy, FitBoth, CopyCause}, Fills.{DoesAfter, FillCause, checked_write}}
use Rattle.fm_segment.{specs.{Puts.{checked_put, MayPutAt, PutCause}, Region.{Region}}, proofs.Exits.{gave}}

-- A call that its checks refuse.
pub refused_before : {v : View} {x checked : Result (Unit {0}) Refusal} (Does : Result (Unit {0}) Refusal → List Entry → Type 0) {Cause : Refusal → Type 0}
    {Alone : Type 0} (Shut : Type 0) {Known : View → Type 0} {result : Result (Unit {0}) Refusal} {e : Refusal}
    → v.inside ≡ None → x ≡ checked → x ≡ Err e → (checked ≡ Err e → Cause e) → Known v → IsErrAnd result (λ y. y ≡ e)
    → After v v (DoesAfter checked Does) Cause (λ u. Alone) (StaysOutAfter v v checked Shut) Known (λ u. ⊤) result
refused_before {v} Does {Cause} {Alone} Shut {Known} {e = e} out is was cause known q =
    let why = cause (sym is ∙ was) in
    rw (gave q, sym is ∙ was) (after_none (DoesAfter (Err e) Does) Cause (λ u. Alone) (v.state ≡ v.state) Known (λ u. ⊤) e out (refl, refl) why refl known)

-- A call that passes its checks.
pub passed : {old new : View} {x checked : Result (Unit {0}) Refusal} {Does : Result (Unit {0}) Refusal → List Entry → Type 0} {First Cause : Refusal → Type 0}
    {Alone Shut : Type 0} {Knew Known : View → Type 0} {result : Result (Unit {0}) Refusal}
    → x ≡ checked → x ≡ Ok tt → After old new Does First (λ u. Alone) Shut Knew (λ u. ⊤) result
    → (checked ≡ Ok tt → (e : Refusal) → First e → Cause e) → (Lasts old new → Known new)
    → After old new (DoesAfter checked Does) Cause (λ u. Alone) (StaysOutAfter old new checked Shut) Known (λ u. ⊤) result
passed {Does = Does} {First} {Cause} {Alone} {Shut} {Known = Known} {result} is was a why known =
    let because = why (sym is ∙ was) in
    rw (sym is ∙ was) (after_said (DoesAfter (Ok tt) Does) Cause (λ u. Alone) Shut Known (λ u. ⊤) result a (λ own d. d) (if_err First Cause result because)
    (λ h x. x) (λ h x. x) (known a.lasts) (λ x. x))

-- ---- a write of n bytes, read-only or not, in a range that is wide enough or not

and_right : (a b : Bool) → a ≡ true → (a && b) ≡ false → b ≡ false
and_right true b e h = h
and_right false b e h = absurd (let no : ⊥ = cc in no)

writable : (n : ℕ) (read_only : Bool) → (nat_lt 0 n && read_only) ≡ false → 0 < n → read_only ≡ false
writable n read_only h some = and_right (nat_lt 0 n) read_only (lt-ltb 0 n some) h

abbrev unit_ok : Result (Unit {0}) Refusal
unit_ok = Ok tt

-- What refuses it.
stopped : (n : ℕ) (read_only b wide : Bool) (e : Refusal) → (nat_lt 0 n && read_only) ≡ b
    → (if b then Err ReadOnly else (if wide then unit_ok else Err Bounds)) ≡ Err e
    → ((0 < n) × (read_only ≡ true) × (ReadOnly ≡ e)) ⊎ ((0 < n → read_only ≡ false) × (wide ≡ false) × (Bounds ≡ e))
stopped n read_only true wide e h x = let both = and_parts (nat_lt 0 n) read_only h in inl (ltb-true 0 n both.0, both.1, cc)
stopped n read_only false true e h x = absurd (let no : ⊥ = cc in no)
stopped n read_only false false e h x = inr (writable n read_only h, refl, cc)

-- What passes.
went : (n : ℕ) (read_only b wide : Bool) → (nat_lt 0 n && read_only) ≡ b → (if b then Err ReadOnly else (if wide then unit_ok else Err Bounds)) ≡ Ok tt
    → (0 < n → read_only ≡ false) × (wide ≡ true)
went n read_only true wide h x = absurd (let no : ⊥ = cc in no)
went n read_only false true h x = (writable n read_only h, refl)
went n read_only false false h x = absurd (let no : ⊥ = cc in no)

-- Why a fill is refused.
pub fill_refused : (r : Region) (c : Caller) (e : Refusal) → checked_write r.size r ≡ Err e → FillCause r c e
fill_refused r c e h = elim (stopped r.size r.read_only (nat_lt 0 r.size && r.read_only) true e refl h) [
  | inl x ↦ subst (FillCause r c) x.2 (x.0, x.1)
  | inr x ↦ (let wide : true ≡ false = x.1 in absurd (let no : ⊥ = cc in no))
]

pub fill_cause : (r : Region) (c : Caller) → checked_write r.size r ≡ Ok tt → (e : Refusal) → (0 < r.size) × UseCause r.arena c e → FillCause r c e
fill_cause r c h WrongThread x = (x.0, ((went r.size r.read_only (nat_lt 0 r.size && r.read_only) true refl h).0 x.0, x.1))
fill_cause r c h Closed x = (x.0, ((went r.size r.read_only (nat_lt 0 r.size && r.read_only) true refl h).0 x.0, x.1))
fill_cause r c h e x = absurd x.1

-- ---- a copy

module _ (src : Region) (src_at : ℕ) (dst : Region) (dst_at n : ℕ) where
  fit : (nat_le (src_at + n) src.size && nat_le (dst_at + n) dst.size) ≡ true → FitBoth src src_at dst dst_at n
  fit h =
      let both = and_parts (nat_le (src_at + n) src.size) (nat_le (dst_at + n) dst.size) h in
      record { source = leb-true (src_at + n) src.size both.0; target = leb-true (dst_at + n) dst.size both.1 }

  unfit : (nat_le (src_at + n) src.size && nat_le (dst_at + n) dst.size) ≡ false → ¬ (FitBoth src src_at dst dst_at n)
  unfit h = λ f.
      let one = le-leb (src_at + n) src.size f.source in
      let two = le-leb (dst_at + n) dst.size f.target in
      let none = and_right (nat_le (src_at + n) src.size) (nat_le (dst_at + n) dst.size) one h in
      let no : ⊥ = cc in no

  -- Why it is refused by its checks.
  pub copy_refused : (c : Caller) (e : Refusal) → checked_copy src src_at dst dst_at n ≡ Err e → CopyCause src src_at dst dst_at n c e
  copy_refused c e h =
      let wide = nat_le (src_at + n) src.size && nat_le (dst_at + n) dst.size in
      elim (stopped n dst.read_only (nat_lt 0 n && dst.read_only) wide e refl h) [
        | inl x ↦ subst (CopyCause src src_at dst dst_at n c) x.2 (x.0, x.1)
        | inr x ↦ subst (CopyCause src src_at dst dst_at n c) x.2 (x.0, unfit x.1)
      ]

  -- What passed them.
  copy_passes : checked_copy src src_at dst dst_at n ≡ Ok tt → FitBoth src src_at dst dst_at n × (0 < n → dst.read_only ≡ false)
  copy_passes h =
      let wide = nat_le (src_at + n) src.size && nat_le (dst_at + n) dst.size in
      let w = went n dst.read_only (nat_lt 0 n && dst.read_only) wide refl h in
      (fit w.1, w.0)

  -- Why it is refused after them.
  pub copy_cause : (c : Caller) → checked_copy src src_at dst dst_at n ≡ Ok tt → (e : Refusal)
      → BothCause (side src.arena (src.first + src_at)) (side dst.arena (dst.first + dst_at)) n c e → CopyCause src src_at dst dst_at n c e
  copy_cause c h WrongThread x = let w = copy_passes h in (record { some = x.0; writable = w.1 x.0; fit = w.0 }, x.1)
  copy_cause c h Closed x = let w = copy_passes h in (record { some = x.0; writable = w.1 x.0; fit = w.0 }, x.1)
  copy_cause c h e x = absurd x

-- ---- bytes that are put

module _ (r : Region) (offset n : ℕ) where
  -- Why they are refused by the checks.
  pub put_refused : (c : Caller) (e : Refusal) → checked_put r offset n ≡ Err e → PutCause r offset n c e
  put_refused c e h =
      elim (stopped n r.read_only (nat_lt 0 n && r.read_only) (nat_le (offset + n) r.size) e refl h) [
        | inl x ↦ subst (PutCause r offset n c) x.2 (x.0, x.1)
        | inr x ↦ (let past = leb-false (offset + n) r.size x.1 in subst (PutCause r offset n c) x.2 (x.0, λ fit. absurd (omega arith)))
      ]

  may_put : checked_put r offset n ≡ Ok tt → 0 < n → MayPutAt r offset n
  may_put h some =
      let w = went n r.read_only (nat_lt 0 n && r.read_only) (nat_le (offset + n) r.size) refl h in
      record { some = some; writable = w.0 some; fit = leb-true (offset + n) r.size w.1 }

  -- Why they are refused after them.
  pub put_cause : (c : Caller) → checked_put r offset n ≡ Ok tt → (e : Refusal) → (0 < n) × UseCause r.arena c e → PutCause r offset n c e
  put_cause c h WrongThread x = (may_put h x.0, x.1)
  put_cause c h Closed x = (may_put h x.0, x.1)
  put_cause c h e x = absurd x.1
