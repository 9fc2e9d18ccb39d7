-- What the machine has read, and how it can go on.
use Rattle.std.proofs.Common.{◌≡◌, refl, sym, ap, ℕ, ◌+◌, ◌-◌, ◌*◌, ◌/◌, ◌%◌, ◌^◌, ◌<◌, ◌≤◌, zero, suc, true, ◌||◌, if◌then◌else◌, nat_eq, nat_lt, nat_le, Some, None, List, [], ◌∷◌, ◌++◌, length, arith, ◌∙◌}
use Rattle.std.{specs.{Prelude.{IsTrue, decimal, pos, neg_ℤ}, Fmt.{signed_decimal}}, proofs.lemmas.Bool.{cond_both, eqb-true, ltb-true, leb-true}}
use Rattle.std.proofs.lemmas.{Bool.Decides.{nat_tests}, List.{append_assoc, append-nil}, Fmt.{decimal_step, decimal_digit}}
use Rattle.fm_path_text.{specs.declared.step.PathStep.{PathStep, TheVariants.{Name, Group}}, proofs.Names.{name_more}}
use Rattle.fm_path_text.specs.{Grammar.{piece_of, most_number, HasPiece, magnitude}, Reader.{sign_of, longer_number, counts, closes, opens, spells, next}}
use Rattle.fm_path_text.specs.declared.{part.Part.{Part, TheVariants.{Between, Dot, Word, Hash, Number, Open, Index, Colon, Minus, Up, Down}}, sign.Sign.{Sign}}
use Rattle.fm_path_text.specs.declared.part.Move.{Move, TheVariants.{Dead, Stay, Finish}}
use Rattle.fm_layout.specs.Name.{is_letter, is_digit, IsName}
use Rattle.fm_path_text.specs.declared.sign.Sign.TheVariants as sign

-- the bytes of a part
abbrev pub shown : Part → List ℕ
shown Between = []
shown Dot = 46 ∷ []
shown (Word s) = 46 ∷ s
shown Hash = 46 ∷ 35 ∷ []
shown (Number n) = 46 ∷ 35 ∷ decimal n
shown Open = 91 ∷ []
shown (Index n) = 91 ∷ decimal n
shown (Colon f) = 91 ∷ decimal f ++ 58 ∷ []
shown (Minus f) = 91 ∷ decimal f ++ 58 ∷ 45 ∷ []
shown (Up f n) = 91 ∷ decimal f ++ 58 ∷ decimal n
shown (Down f n) = 91 ∷ decimal f ++ 58 ∷ 45 ∷ decimal n

-- what holds of a part behind k whole pieces
abbrev pub IsLive : ℕ → Part → Type 0
IsLive k Between = k ≤ 64
IsLive k Dot = k < 64
IsLive k (Word s) = (k < 64) × IsName s
IsLive k Hash = k < 64
IsLive k (Number n) = (k < 64) × (n ≤ most_number)
IsLive k Open = k < 64
IsLive k (Index n) = (k < 64) × (n ≤ most_number)
IsLive k (Colon f) = (k < 64) × (f ≤ most_number)
IsLive k (Minus f) = (k < 64) × (f ≤ most_number)
IsLive k (Up f n) = (k < 64) × (f ≤ most_number) × (n ≤ most_number)
IsLive k (Down f n) = (k < 64) × (f ≤ most_number) × (n ≤ most_number) × (0 < n)

-- the byte that a sign is
abbrev pub Writes : Sign → ℕ → Type 0
Writes sign.Dot b = b ≡ 46
Writes sign.Hash b = b ≡ 35
Writes sign.Open b = b ≡ 91
Writes sign.Close b = b ≡ 93
Writes sign.Colon b = b ≡ 58
Writes sign.Minus b = b ≡ 45
Writes (sign.Digit d) b = (b ≡ 48 + d) × (d < 10)
Writes (sign.Letter c) b = (b ≡ c) × IsTrue (is_letter c)
Writes sign.Other b = Unit {0}

-- a digit is 48 and its value
pub digit_is : (b : ℕ) → is_digit b ≡ true → Writes (sign.Digit (b - 48)) b
digit_is b h = (grind (arith, nat_tests), grind (arith, nat_tests))

-- the sign of a byte says which byte it is
pub told : (b : ℕ) → Writes (sign_of b) b
told b =
    cond_both (nat_eq b 46) _ _ (λ s. Writes s b) (λ h. eqb-true b 46 h) (λ _.
    cond_both (nat_eq b 35) _ _ (λ s. Writes s b) (λ h. eqb-true b 35 h) (λ _.
    cond_both (nat_eq b 91) _ _ (λ s. Writes s b) (λ h. eqb-true b 91 h) (λ _.
    cond_both (nat_eq b 93) _ _ (λ s. Writes s b) (λ h. eqb-true b 93 h) (λ _.
    cond_both (nat_eq b 58) _ _ (λ s. Writes s b) (λ h. eqb-true b 58 h) (λ _.
    cond_both (nat_eq b 45) _ _ (λ s. Writes s b) (λ h. eqb-true b 45 h) (λ _.
    cond_both (is_digit b) _ _ (λ s. Writes s b) (λ h. digit_is b h) (λ _.
    cond_both (is_letter b) _ _ (λ s. Writes s b) (λ h. (refl, h)) (λ _. tt))))))))

-- the text of a number with one more digit
pub decimal_more : (n d : ℕ) → 0 < n → d < 10 → 10 * n + d ≤ 2 ^ 63 → decimal (10 * n + d) ≡ decimal n ++ (48 + d) ∷ []
decimal_more n d gt small le =
    let q : (10 * n + d) / 10 ≡ n = omega arith in
    let r : (10 * n + d) % 10 ≡ d = omega arith in
    rw (decimal_step (10 * n + d) (omega arith) (omega arith), q, r) refl

-- what a move leaves, where byte b was read behind k pieces
abbrev pub Leaves : Part → ℕ → ℕ → Move → Type 0
Leaves p k b Dead = Unit {0}
Leaves p k b (Stay q) = (shown p ++ b ∷ [] ≡ shown q) × IsLive k q
Leaves p k b (Finish s q) = (shown p ++ b ∷ [] ≡ piece_of s ++ shown q) × HasPiece s × IsLive (k + 1) q

-- a first byte leaves what its part shows, where there may be one more piece
opens_leaves : (p q : Part) (k b : ℕ) → (k < 64 → Leaves p k b (Stay q)) → Leaves p k b (opens k q)
opens_leaves p q k b f = cond_both (nat_lt k 64) (Stay q) Dead (Leaves p k b) (λ h. f (ltb-true k 64 h)) (λ _. tt)

-- a byte that ends a piece leaves the piece, where there may be one more
closes_leaves : (p q : Part) (s : PathStep) (k b : ℕ) → (k + 1 < 64 → Leaves p k b (Finish s q)) → Leaves p k b (closes k s q)
closes_leaves p q s k b f = cond_both (nat_lt (k + 1) 64) (Finish s q) Dead (Leaves p k b) (λ h. f (ltb-true (k + 1) 64 h)) (λ _. tt)

-- a letter or digit leaves a longer name
spells_leaves : (s : List ℕ) (c k b : ℕ) → b ≡ c → IsTrue (is_letter c || is_digit c) → IsLive k (Word s) → Leaves (Word s) k b (spells s c)
spells_leaves s c k b e h live = cond_both (nat_lt (length s) 64) (Stay (Word (s ++ c ∷ []))) Dead (Leaves (Word s) k b)
    (λ lt. (ap (λ x. 46 ∷ s ++ x ∷ []) e, (live.0, name_more s c live.1 (ltb-true _ _ lt) h))) (λ _. tt)

-- a digit leaves a longer number
counts_leaves : (p : Part) (f : ℕ → Part) (n d k b : ℕ) → (0 < n → 10 * n + d ≤ most_number → Leaves p k b (Stay (f (10 * n + d))))
    → Leaves p k b (counts f (longer_number n d))
counts_leaves p f n d k b g = cond_both (nat_eq n 0) None (if nat_le (10 * n + d) most_number then Some (10 * n + d) else None) (λ o. Leaves p k b (counts f o))
    (λ _. tt) (λ h.
    cond_both (nat_le (10 * n + d) most_number) (Some (10 * n + d)) None (λ o. Leaves p k b (counts f o)) (λ le. g (grind (arith, nat_tests)) (leb-true _ _ le))
    (λ _. tt))

-- a letter may stand anywhere in a name
letter_or : (c : ℕ) → IsTrue (is_letter c) → IsTrue (is_letter c || is_digit c)
letter_or c h = rw h refl

-- a digit may stand behind the first byte of a name
pub digit_or : (d : ℕ) → d < 10 → IsTrue (is_letter (48 + d) || is_digit (48 + d))
digit_or d h = grind (arith, nat_tests)

-- a number below 0 is written with a minus
pub minus_text : (n : ℕ) → 0 < n → signed_decimal (neg_ℤ (pos n)) ≡ 45 ∷ decimal n
minus_text zero h = absurd (omega arith)
minus_text (suc n) h = refl

-- minus a number is as great as it
minus_mag : (n : ℕ) → n ≤ most_number → magnitude (neg_ℤ (pos n)) ≤ most_number
minus_mag zero h = omega arith
minus_mag (suc n) h = omega arith

-- one more byte behind [F
longer : (f b : ℕ) (xs ys : List ℕ) → xs ++ b ∷ [] ≡ ys → (91 ∷ decimal f ++ xs) ++ b ∷ [] ≡ 91 ∷ decimal f ++ ys
longer f b xs ys e = simp (append_assoc, e)

-- each byte leaves what the part after it shows
pub leaves : (p : Part) (k : ℕ) (s : Sign) (b : ℕ) → Writes s b → IsLive k p → Leaves p k b (next p k s)
leaves Between k sign.Dot b w live = opens_leaves Between Dot k b (λ h. (ap (λ x. x ∷ []) w, h))
leaves Between k sign.Open b w live = opens_leaves Between Open k b (λ h. (ap (λ x. x ∷ []) w, h))
leaves Dot k sign.Hash b w live = (ap (λ x. 46 ∷ x ∷ []) w, live)
leaves Dot k (sign.Letter c) b w live = (ap (λ x. 46 ∷ x ∷ []) w.0, (live, (w.1, tt, omega arith)))
leaves (Word s) k (sign.Letter c) b w live = spells_leaves s c k b w.0 (letter_or c w.1) live
leaves (Word s) k (sign.Digit d) b w live = spells_leaves s (48 + d) k b w.0 (digit_or d w.1) live
leaves (Word s) k sign.Dot b w live = closes_leaves (Word s) Dot (Name s) k b (λ h. (ap (λ x. 46 ∷ s ++ x ∷ []) w, live.1, h))
leaves (Word s) k sign.Open b w live = closes_leaves (Word s) Open (Name s) k b (λ h. (ap (λ x. 46 ∷ s ++ x ∷ []) w, live.1, h))
leaves Hash k (sign.Digit d) b w live = (simp (w.0, decimal_digit d w.1), (live, omega (arith, w.1)))
leaves (Number n) k (sign.Digit d) b w live =
    counts_leaves (Number n) Number n d k b (λ gt le. (simp (w.0, decimal_more n d gt w.1 (omega (arith, le))), (live.0, le)))
leaves (Number n) k sign.Dot b w live = closes_leaves (Number n) Dot (Group n) k b (λ h. (ap (λ x. 46 ∷ 35 ∷ decimal n ++ x ∷ []) w, live.1, h))
leaves (Number n) k sign.Open b w live = closes_leaves (Number n) Open (Group n) k b (λ h. (ap (λ x. 46 ∷ 35 ∷ decimal n ++ x ∷ []) w, live.1, h))
leaves Open k sign.Close b w live = (ap (λ x. 91 ∷ x ∷ []) w, tt, omega arith)
leaves Open k (sign.Digit d) b w live = (simp (w.0, decimal_digit d w.1), (live, omega (arith, w.1)))
leaves (Index n) k (sign.Digit d) b w live =
    counts_leaves (Index n) Index n d k b (λ gt le. (simp (w.0, decimal_more n d gt w.1 (omega (arith, le))), (live.0, le)))
leaves (Index n) k sign.Close b w live = (simp (w, append-nil), live.1, omega arith)
leaves (Index n) k sign.Colon b w live = (ap (λ x. 91 ∷ decimal n ++ x ∷ []) w, live)
leaves (Colon f) k sign.Minus b w live = (longer f b _ _ (simp w), live)
leaves (Colon f) k (sign.Digit d) b w live = (longer f b _ _ (simp (w.0, decimal_digit d w.1)), (live.0, live.1, omega (arith, w.1)))
leaves (Minus f) k (sign.Digit d) b w live =
    cond_both (nat_eq d 0) Dead (Stay (Down f d)) (Leaves (Minus f) k b) (λ _. tt)
    (λ h. (longer f b _ _ (simp (w.0, decimal_digit d w.1)), (live.0, live.1, omega (arith, w.1), grind (arith, nat_tests))))
leaves (Up f n) k (sign.Digit d) b w live =
    counts_leaves (Up f n) (Up f) n d k b (λ gt le. (longer f b _ _ (simp (w.0, decimal_more n d gt w.1 (omega (arith, le)))), (live.0, live.1, le)))
leaves (Down f n) k (sign.Digit d) b w live =
    counts_leaves (Down f n) (Down f) n d k b
    (λ gt le. (longer f b _ _ (simp (w.0, decimal_more n d gt w.1 (omega (arith, le)))), (live.0, live.1, le, omega arith)))
leaves (Up f n) k sign.Close b w live = (simp append-nil (longer f b _ _ (simp w)), (live.1, live.2), omega arith)
leaves (Down f n) k sign.Close b w live = (
  longer f b (58 ∷ 45 ∷ decimal n) (58 ∷ 45 ∷ decimal n ++ 93 ∷ []) (simp w)
      ∙ ap (λ t. 91 ∷ decimal f ++ (58 ∷ t ++ 93 ∷ [])) (sym (minus_text n live.3))
      ∙ sym (append-nil (91 ∷ decimal f ++ (58 ∷ signed_decimal (neg_ℤ (pos n)) ++ 93 ∷ []))),
  (live.1, minus_mag n live.2),
  omega arith,
)
leaves _ k _ b w live = tt
