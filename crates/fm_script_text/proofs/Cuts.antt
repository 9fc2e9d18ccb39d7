-- Where texts are cut at their first space.
use Rattle.std.proofs.Common.{◌≡◌, ◌≢◌, refl, ap, subst, ◌∙◌, eqb, ℕ, ◌<◌, suc, Option, Some, None, List, [], ◌∷◌, ◌++◌, length, get_or, Bor, arith}
use Rattle.std.{specs.{Prelude.{MatchOption}, List.{AllByRecursion}}, proofs.lemmas.Bool.{cond_both, eqb-true, ne_eqb}}
use Rattle.std.{proofs.lemmas.Option.{same_Some, option_and_then_some}, specs.Option.{option_and_then}}
use Rattle.fm_script_text.specs.Reader.{cut, onto, in_front2, in_front3, in_front4, cut3, cut4, cut5}

-- no byte of it is this one
abbrev pub IsFree : ℕ → List ℕ → Type 0
IsFree c bs = AllByRecursion (λ b. b ≢ c) bs

-- where none is this one at any index
pub free_by_index : (c : ℕ) (bs : List ℕ) → ((i : ℕ) → i < length bs → get_or bs i 0 ≢ c) → IsFree c bs
free_by_index c [] h = tt
free_by_index c (b ∷ bs) h = (h 0 (omega arith), free_by_index c bs (λ i lt. h (suc i) (omega arith)))

-- a text without a space isn't cut
pub cut_free : (bs : List ℕ) → IsFree 32 bs → cut bs ≡ None
cut_free [] free = refl
cut_free (b ∷ bs) free = rw (ne_eqb b 32 free.0, cut_free bs free.1) refl

-- a text is cut behind its first word
pub cut_behind : (word rest : List ℕ) → IsFree 32 word → cut (word ++ 32 ∷ rest) ≡ Some (word, rest)
cut_behind [] rest free = refl
cut_behind (b ∷ bs) rest free = rw (ne_eqb b 32 free.0, cut_behind bs rest free.1) refl

-- what std finds at the first space is the cut
pub is_cut : (text : List ℕ) (found : Option (Bor (List ℕ) × Bor (List ℕ)))
    → MatchOption found ((i : ℕ) → i < length text → get_or text i 0 ≢ 32)
    (λ x. (text ≡ x.0.now ++ (32 ∷ x.1.now)) × ((i : ℕ) → i < length x.0.now → get_or x.0.now i 0 ≢ 32))
    → MatchOption found (cut text ≡ None) (λ x. cut text ≡ Some (x.0.now, x.1.now))
is_cut text None h = cut_free text (free_by_index 32 text h)
is_cut text (Some x) h = ap cut h.0 ∙ cut_behind x.0.now x.1.now (free_by_index 32 x.0.now h.1)

-- what a cut gives makes the text
pub cut_gives : (text : List ℕ) (x : List ℕ × List ℕ) → cut text ≡ Some x → text ≡ x.0 ++ (32 ∷ x.1)
cut_gives [] x e = absurd (cc)
cut_gives (b ∷ bs) x e =
    cond_both (eqb b 32) (Some ([], bs)) (onto b (cut bs)) (λ o. o ≡ Some x → b ∷ bs ≡ x.0 ++ (32 ∷ x.1))
    (λ t f. subst (λ (y : List ℕ × List ℕ). b ∷ bs ≡ y.0 ++ (32 ∷ y.1)) (same_Some ([], bs) x f) (ap (λ c. c ∷ bs) (eqb-true b 32 t)))
    (λ _ f. behind b bs (cut bs) x (λ y g. cut_gives bs y g) f) e
  where
    behind : (b : ℕ) (bs : List ℕ) (o : Option (List ℕ × List ℕ)) (x : List ℕ × List ℕ)
        → ((y : List ℕ × List ℕ) → o ≡ Some y → bs ≡ y.0 ++ (32 ∷ y.1)) → onto b o ≡ Some x → b ∷ bs ≡ x.0 ++ (32 ∷ x.1)
    behind b bs None x h e = absurd (cc)
    behind b bs (Some y) x h e =
        subst (λ (z : List ℕ × List ℕ). b ∷ bs ≡ z.0 ++ (32 ∷ z.1)) (same_Some (b ∷ y.0, y.1) x e) (ap (λ cs. b ∷ cs) (h y refl))

-- words in a row, with a space between each two
abbrev pub row3 : List ℕ × List ℕ × List ℕ → List ℕ
row3 x = x.0 ++ (32 ∷ (x.1 ++ (32 ∷ x.2)))

-- four words
abbrev pub row4 : List ℕ × List ℕ × List ℕ × List ℕ → List ℕ
row4 x = x.0 ++ (32 ∷ (x.1 ++ (32 ∷ (x.2 ++ (32 ∷ x.3)))))

-- five words
abbrev pub row5 : List ℕ × List ℕ × List ℕ × List ℕ × List ℕ → List ℕ
row5 x = x.0 ++ (32 ∷ (x.1 ++ (32 ∷ (x.2 ++ (32 ∷ (x.3 ++ (32 ∷ x.4)))))))

-- three words that were cut make the text
pub cut3_gives : (text : List ℕ) (x : List ℕ × List ℕ × List ℕ) → cut3 text ≡ Some x → text ≡ row3 x
cut3_gives text x e =
    option_and_then_some (λ y. in_front2 y.0 (cut y.1)) (cut text) x e
    (λ y f g. front y.0 text (cut y.1) x g (λ r h. cut_gives text y f ∙ ap (λ t. y.0 ++ (32 ∷ t)) (cut_gives y.1 r h)))
  where
    front : (a text : List ℕ) (o : Option (List ℕ × List ℕ)) (x : List ℕ × List ℕ × List ℕ) → in_front2 a o ≡ Some x
        → ((r : List ℕ × List ℕ) → o ≡ Some r → text ≡ row3 (a, r.0, r.1)) → text ≡ row3 x
    front a text None x e h = absurd (cc)
    front a text (Some r) x e h = subst (λ (y : List ℕ × List ℕ × List ℕ). text ≡ row3 y) (same_Some (a, r.0, r.1) x e) (h r refl)

-- so do four
pub cut4_gives : (text : List ℕ) (x : List ℕ × List ℕ × List ℕ × List ℕ) → cut4 text ≡ Some x → text ≡ row4 x
cut4_gives text x e =
    option_and_then_some (λ y. in_front3 y.0 (cut3 y.1)) (cut text) x e
    (λ y f g. front y.0 text (cut3 y.1) x g (λ r h. cut_gives text y f ∙ ap (λ t. y.0 ++ (32 ∷ t)) (cut3_gives y.1 r h)))
  where
    front : (a text : List ℕ) (o : Option (List ℕ × List ℕ × List ℕ)) (x : List ℕ × List ℕ × List ℕ × List ℕ) → in_front3 a o ≡ Some x
        → ((r : List ℕ × List ℕ × List ℕ) → o ≡ Some r → text ≡ row4 (a, r.0, r.1, r.2)) → text ≡ row4 x
    front a text None x e h = absurd (cc)
    front a text (Some r) x e h =
        subst (λ (y : List ℕ × List ℕ × List ℕ × List ℕ). text ≡ row4 y) (same_Some (a, r.0, r.1, r.2) x e) (h r refl)

-- and five
pub cut5_gives : (text : List ℕ) (x : List ℕ × List ℕ × List ℕ × List ℕ × List ℕ) → cut5 text ≡ Some x → text ≡ row5 x
cut5_gives text x e =
    option_and_then_some (λ y. in_front4 y.0 (cut4 y.1)) (cut text) x e
    (λ y f g. front y.0 text (cut4 y.1) x g (λ r h. cut_gives text y f ∙ ap (λ t. y.0 ++ (32 ∷ t)) (cut4_gives y.1 r h)))
  where
    front : (a text : List ℕ) (o : Option (List ℕ × List ℕ × List ℕ × List ℕ)) (x : List ℕ × List ℕ × List ℕ × List ℕ × List ℕ)
        → in_front4 a o ≡ Some x → ((r : List ℕ × List ℕ × List ℕ × List ℕ) → o ≡ Some r → text ≡ row5 (a, r.0, r.1, r.2, r.3)) → text ≡ row5 x
    front a text None x e h = absurd (cc)
    front a text (Some r) x e h =
        subst (λ (y : List ℕ × List ℕ × List ℕ × List ℕ × List ℕ). text ≡ row5 y) (same_Some (a, r.0, r.1, r.2, r.3) x e) (h r refl)

-- and a row of words is cut into them
pub cut3_row : (a b c : List ℕ) → IsFree 32 a → IsFree 32 b → cut3 (row3 (a, b, c)) ≡ Some (a, b, c)
cut3_row a b c f g = rw (cut_behind a (b ++ (32 ∷ c)) f, cut_behind b c g) refl

-- so is a row of four
pub cut4_row : (a b c d : List ℕ) → IsFree 32 a → IsFree 32 b → IsFree 32 c → cut4 (row4 (a, b, c, d)) ≡ Some (a, b, c, d)
cut4_row a b c d f g h =
    ap (option_and_then (λ y. in_front3 y.0 (cut3 y.1))) (cut_behind a (row3 (b, c, d)) f) ∙ ap (in_front3 a) (cut3_row b c d g h)

-- and of five
pub cut5_row : (a b c d e : List ℕ) → IsFree 32 a → IsFree 32 b → IsFree 32 c → IsFree 32 d → cut5 (row5 (a, b, c, d, e)) ≡ Some (a, b, c, d, e)
cut5_row a b c d e f g h k =
    ap (option_and_then (λ y. in_front4 y.0 (cut4 y.1))) (cut_behind a (row4 (b, c, d, e)) f) ∙ ap (in_front4 a) (cut4_row b c d e g h k)
