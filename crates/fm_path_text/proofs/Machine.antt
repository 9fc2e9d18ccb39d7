-- What a machine over bytes does with a text, and what that says of the texts which it reads to their ends.
use Rattle.std.proofs.Common.{◌≡◌, refl, sym, ap, subst, ℕ, zero, suc, ◌+◌, ◌*◌, ◌/◌, ◌%◌, ◌^◌, ◌<◌, ◌≤◌, Option, Some, None, List, [], ◌∷◌, ◌++◌, length, take, get_or, arith, ◌∙◌}
use Rattle.std.{specs.{Prelude.{decimal}, Option.{IfSome}}, proofs.lemmas.{List.{append_assoc, append-nil, take_more}, Fmt.{decimal_by_steps, decimal_digit}}}
use Rattle.fm_path_text.specs.Machine.{onward, run}

-- Reading two texts is reading one and then the other.
pub run_append : {S : Type 0} (step : S → ℕ → Option S) (xs ys : List ℕ) (o : Option S) → run step (xs ++ ys) o ≡ run step ys (run step xs o)
run_append step [] ys o = refl
run_append step (x ∷ xs) ys o = run_append step xs ys (onward step o x)

-- A refused text stays refused.
pub run_none : {S : Type 0} (step : S → ℕ → Option S) (bs : List ℕ) → run step bs None ≡ None
run_none step [] = refl
run_none step (b ∷ bs) = run_none step bs

-- One byte more of a text leads one byte on.
pub run_more : {S : Type 0} (step : S → ℕ → Option S) (text : List ℕ) (i : ℕ) (o : Option S) → i < length text
    → run step (take (i + 1) text) o ≡ onward step (run step (take i text) o) (get_or text i 0)
run_more step text i o lt = ap (λ t. run step t o) (take_more text i 0 lt) ∙ run_append step (take i text) (get_or text i 0 ∷ []) o

module _ {S : Type 0} (step : S → ℕ → Option S) (from : S) (at : ℕ → S) (most : ℕ) (small : most < 2 ^ 64) where
  -- each digit behind a number leads on to the longer one
  abbrev LeadsOn : Type 0
  LeadsOn = (n d : ℕ) → d < 10 → 0 < n → 10 * n + d ≤ most → step (at n) (48 + d) ≡ Some (at (10 * n + d))

  -- The digits of a number above 0 lead to where it stands, where each digit leads on so.
  pub run_positive : ((d : ℕ) → d < 10 → 0 < d → step from (48 + d) ≡ Some (at d)) → LeadsOn
      → (n : ℕ) → 0 < n → n ≤ most → run step (decimal n) (Some from) ≡ Some (at n)
  run_positive one again n gt le =
      decimal_by_steps (λ n text. 0 < n → n ≤ most → run step text (Some from) ≡ Some (at n))
      (λ n below gt _. one n below gt)
      (λ n text big ih gt le.
      let e : 10 * (n / 10) + n % 10 ≡ n = omega arith in
      run_append step text ((48 + n % 10) ∷ []) (Some from)
      ∙ ap (λ o. onward step o (48 + n % 10)) (ih (omega arith) (omega arith))
      ∙ again (n / 10) (n % 10) (omega arith) (omega arith) (omega arith)
      ∙ ap (λ m. Some (at m)) e)
      n (omega arith) gt le

  -- So do those of each number, where the first may be 0.
  pub run_number : ((d : ℕ) → d < 10 → step from (48 + d) ≡ Some (at d)) → LeadsOn
      → (n : ℕ) → n ≤ most → run step (decimal n) (Some from) ≡ Some (at n)
  run_number one again zero le = rw (decimal_digit 0 (omega arith)) (one 0 (omega arith))
  run_number one again (suc n) le = run_positive (λ d below _. one d below) again (suc n) (omega arith) le

-- What each byte keeps of the text so far and of where the machine stands.
abbrev pub Keeps : {S : Type 0} → (S → ℕ → Option S) → (List ℕ → S → Type 0) → Type 0
Keeps {S} step P = (text : List ℕ) (s : S) (b : ℕ) → P text s → IfSome (step s b) (P (text ++ b ∷ []))

onward_keeps : {S : Type 0} (step : S → ℕ → Option S) (P : List ℕ → S → Type 0) → Keeps step P → (text : List ℕ) (o : Option S) (b : ℕ)
    → IfSome o (P text) → IfSome (onward step o b) (P (text ++ b ∷ []))
onward_keeps step P keeps text None b h = tt
onward_keeps step P keeps text (Some s) b h = keeps text s b h

-- All bytes keep it.
pub run_keeps : {S : Type 0} (step : S → ℕ → Option S) (P : List ℕ → S → Type 0) → Keeps step P → (bs text : List ℕ) (o : Option S)
    → IfSome o (P text) → IfSome (run step bs o) (P (text ++ bs))
run_keeps step P keeps [] text o h = subst (λ x. IfSome o (P x)) (sym (append-nil text)) h
run_keeps step P keeps (b ∷ bs) text o h =
    subst (λ x. IfSome (run step bs (onward step o b)) (P x)) (append_assoc text (b ∷ []) bs)
    (run_keeps step P keeps bs (text ++ b ∷ []) (onward step o b) (onward_keeps step P keeps text o b h))

-- The machine reads this text to its end, and stands where this is whole.
abbrev pub Accepts : {S Q : Type 0} → (S → ℕ → Option S) → Option S → (S → Option Q) → List ℕ → Q → Type 0
Accepts {S} step start whole text q = (s : S) × (run step text start ≡ Some s) × (whole s ≡ Some q)
