-- Steps of the loop over the bytes.
use Rattle.std.proofs.{Common.{◌≡◌, sym, ap, ℕ, ◌+◌, ◌<◌, ◌≤◌, Some, None, List, length, take, get_or, arith, ◌∙◌}, lemmas.List.{take_all}}
use Rattle.fm_path_text.specs.{declared.step.PathStep.{PathStep}, Grammar.{IsPath, IsTextOf, path_text}, Language.{BeginsUpTo}}
use Rattle.fm_path_text.specs.{Reader.{sign_of, next, spot, moved, reads, onward, run, start, whole, IsBounded}, declared.part.Part.{Part}}
use Rattle.fm_path_text.specs.declared.{part.{Part.TheVariants.{Between, Dot, Hash, Open, Up, Down}, Move.{Move}}, sign.Sign.{Sign}}
use Rattle.fm_path_text.proofs.{Machine.{run_more}, Moves.{IsLive}, Language.{only, leaves_at, leaves_behind}, Reading.{there_read}}
use Rattle.fm_path_text.proofs.Accepting.{reader, begins, found}

-- what the loop keeps
pub record IsReading (text : List ℕ) (i : ℕ) (ds : List PathStep) (p : Part) : Type 0 where
  pub short : length ds ≤ 64
  pub bounded : IsBounded p
  pub there : run (take i text) start ≡ Some (spot ds p)

-- there are at most 64 pieces
few : (k : ℕ) (p : Part) → IsLive k p → k ≤ 64
few k Between h = h
few k Dot h = omega arith
few k Hash h = omega arith
few k Open h = omega arith
few k p h = omega (arith, h.0)

-- a stride is within the limit
bounds : (k : ℕ) (p : Part) → IsLive k p → IsBounded p
bounds k (Up f n) h = h.2
bounds k (Down f n) h = h.2
bounds k _ h = tt

-- what the loop keeps holds wherever the reader stands
reading : (text : List ℕ) (i : ℕ) (ds : List PathStep) (p : Part) → run (take i text) start ≡ Some (spot ds p) → IsReading text i ds p
reading text i ds p e =
    let h = there_read (take i text) (spot ds p) e in
    record { short = few (length ds) p h.live; bounded = bounds (length ds) p h.live; there = e }

-- where the next byte leads
pub goes_on : (text : List ℕ) (i : ℕ) (ds : List PathStep) (p : Part) (k : ℕ) (sg : Sign) (m : Move) → IsReading text i ds p → i < length text → k ≡ length ds
    → sg ≡ sign_of (get_or text i 0) → m ≡ next p k sg → run (take (i + 1) text) start ≡ moved ds m
goes_on text i ds p k sg m h lt ek es em =
    run_more reads text i start lt
    ∙ ap (λ o. onward o (get_or text i 0)) h.there
    ∙ ap (λ s. moved ds (next p (length ds) s)) (sym es)
    ∙ ap (λ n. moved ds (next p n sg)) (sym ek)
    ∙ ap (moved ds) (sym em)

-- the loop after a byte
pub stays : (text : List ℕ) (i : ℕ) (ds es : List PathStep) (q r : Part) → run (take (i + 1) text) start ≡ Some (spot ds q) → es ≡ ds → r ≡ q
    → IsReading text (i + 1) es r
stays text i ds es q r h e f = reading text (i + 1) es r (h ∙ ap (λ x. Some (spot x q)) (sym e) ∙ ap (λ x. Some (spot es x)) (sym f))

-- where the reader dies the longest prefix ends
pub ends_at : (text : List ℕ) (i : ℕ) (ds : List PathStep) (p : Part) → IsReading text i ds p → i < length text → run (take (i + 1) text) start ≡ None
    → BeginsUpTo IsPath path_text i text
ends_at text i ds p h lt e = leaves_at reader text i lt (begins (take i text) ds p h.there) e

-- after the last byte the whole text was read
at_end : (text : List ℕ) (i : ℕ) (ds : List PathStep) (p : Part) → IsReading text i ds p → length text ≤ i → run text start ≡ Some (spot ds p)
at_end text i ds p h le = ap (λ t. run t start) (sym (take_all i text le)) ∙ h.there

-- a text read whole is that of the path which was read
pub is_found : (text : List ℕ) (i : ℕ) (ds qs : List PathStep) (p : Part) → IsReading text i ds p → length text ≤ i → whole ds p ≡ Some qs → IsTextOf text qs
is_found text i ds qs p h le w =
    let e = at_end text i ds p h le in
    let f = found text ds qs p e w in
    record { is_path = f.0; spelled = f.1; only = λ other. only reader text (spot ds p) qs other e w }

-- a text whose last piece isn't whole begins a path's text as far as it goes
pub ends_all : (text : List ℕ) (i : ℕ) (ds : List PathStep) (p : Part) → IsReading text i ds p → length text ≤ i → whole ds p ≡ None
    → BeginsUpTo IsPath path_text (length text) text
ends_all text i ds p h le w =
    let e = at_end text i ds p h le in
    leaves_behind reader text (spot ds p) (begins text ds p e) e w
