-- The text in bytes that were loaded.
use Rattle.std.proofs.Common.{◌≡◌, ◌≢◌, ℕ, ◌+◌, ◌-◌, ◌≤◌, Bool, true, false, if◌then◌else◌, nat_le, List, take, drop, String, Global, Result, Ok, Err, refl, ap, sym, subst, ◌∙◌, arith}
use Rattle.std.{specs.Prelude.{IfErr}, proofs.lemmas.List.{drop-drop, drop-take, take-take}}
use Rattle.fm_base.specs.declared.refusal.Refusal.{Refusal, TheVariants.{Bounds, WrongThread, Closed, NoZero, NotText, Memory}}
use Rattle.fm_base.specs.View.{View}
use Rattle.fm_segment_access.specs.Alone.{IsOpen, bytes_of_arena}
use Rattle.fm_segment.specs.{Alone.{bytes_of_region}, Region.{Region, part_of}, Slices.{slice_of}}
use Rattle.fm_text.specs.{Getting.{AfterGetText, Tells, TextCause}, Texts.{IsTextOf, text_bytes}}
use Rattle.fm_top_load.specs.Held.{IsReady}

-- bytes of a part of the region
part_bytes : (v : View) (s : Region) (place size : ℕ) → place + size ≤ s.size
    → bytes_of_region v.state (part_of place size s) ≡ take size (drop place (bytes_of_region v.state s))
part_bytes v s place size within =
    let arena = bytes_of_arena v.state s.arena in
    let all = drop s.first arena in
    let rest : place + (s.size - place) ≡ s.size = omega (arith, within) in
    ap (take size) (sym (drop-drop place s.first arena))
    ∙ sym (take-take size (s.size - place) (drop place all) (omega (arith, within)))
    ∙ ap (take size) (sym (drop-take place (s.size - place) all) ∙ ap (λ n. drop place (take n all)) rest)

-- the only caller, to whom the arena is open, is told the text of all the bytes
told : (v : View) (r : Region) (bytes : List ℕ) (result : Result (List ℕ) Refusal) → IsOpen v r.arena → Tells v r.arena bytes result
    → IfErr result (TextCause r 0 v.caller) → result ≢ Err Memory → IsTextOf bytes result
told v r bytes (Ok text) may tells cause had = tells
told v r bytes (Err NoZero) may tells cause had = tells
told v r bytes (Err (NotText at)) may tells cause had = tells
told v r bytes (Err Bounds) may tells cause had = absurd (omega (arith, cause))
told v r bytes (Err WrongThread) may tells cause had = absurd (tells may)
told v r bytes (Err Closed) may tells cause had = absurd (tells may)
told v r bytes (Err Memory) may tells cause had = absurd (had refl)
told v r bytes (Err e) may tells cause had = absurd cause

-- a slice is that part
pub slice_is : (s r : Region) (place size : ℕ) → Ok r ≡ slice_of place size s → r ≡ part_of place size s
slice_is s r place size is = by (nat_le (place + size) s.size) is
  where
    by : (b : Bool) → Ok r ≡ (if b then Ok (part_of place size s) else Err Bounds) → r ≡ part_of place size s
    by true e = cc
    by false e = absurd (cc)

-- an answer is for want of memory where its text's bytes are
pub wants_memory : (result : Result (String Global) Refusal) → text_bytes result ≡ Err Memory → result ≡ Err Memory
wants_memory (Ok text) e = absurd (cc)
wants_memory (Err e) is = ap Err (cc)

-- so it is over bytes that were loaded
pub text_told : (v new : View) (s : Region) (place size : ℕ) (result : Result (List ℕ) Refusal) → IsReady v s → place + size ≤ s.size
    → AfterGetText v new (part_of place size s) 0 result → result ≢ Err Memory
    → IsTextOf (take size (drop place (bytes_of_region v.state s))) result
text_told v new s place size result ready within after had =
    subst (λ (bytes : List ℕ). IsTextOf bytes result) (part_bytes v s place size within)
    (told v (part_of place size s) (bytes_of_region v.state (part_of place size s)) result (record { alive = ready.held.alive; usable = ready.held.usable })
    (after.alone ready.held.by_itself) after.refused had)
