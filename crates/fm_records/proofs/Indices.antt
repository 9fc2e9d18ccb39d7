-- The index lists of a path are those that are admitted.
use Rattle.std.proofs.{Common.{◌≡◌, ℕ, zero, suc, ◌+◌, ◌<◌, ◌≤◌, List, [], ◌∷◌, map, refl, subst, inl, inr, arith, ◌⊎◌}, lemmas.Bool.{cases_lt}}
use Rattle.std.specs.List.{flat_map, range_with_len}
use Rattle.fm_base_lists.{specs.Among.{IsAmong}, proofs.Among.{among_either, among_left, among_map, among_right}}
use Rattle.fm_path_meaning.specs.{Walk.{AreAdmitted}, declared.dim.Dim.{Dim}}
use Rattle.fm_records.specs.Values.{index_lists}

-- lists of indices with one put before each
abbrev led : List (List ℕ) → ℕ → List (List ℕ)
led iss i = map (λ is. i ∷ is) iss

led_by : (i j : ℕ) (is : List ℕ) (iss : List (List ℕ)) → IsAmong (i ∷ is) (led iss j) → (i ≡ j) × IsAmong is iss
led_by i j is [] h = absurd h
led_by i j is (js ∷ iss) (inl e) = let heads : i ≡ j = cc in let tails : is ≡ js = cc in (heads, inl tails)
led_by i j is (js ∷ iss) (inr h) = let rest = led_by i j is iss h in (rest.0, inr rest.1)

led_some : (j : ℕ) (iss : List (List ℕ)) → IsAmong [] (led iss j) → ⊥
led_some j [] h = h
led_some j (js ∷ iss) (inl e) = absurd (cc)
led_some j (js ∷ iss) (inr h) = led_some j iss h

here_or_above : (i a : ℕ) → a ≤ i → (i ≡ a) ⊎ (a + 1 ≤ i)
here_or_above i a low = elim (cases_lt a i) [ inl above ↦ inr (omega (arith, above)) | inr below ↦ inl (omega (arith, low, below)) ]

-- from a on, so many indices
in_range : (i a n : ℕ) (is : List ℕ) (iss : List (List ℕ)) → a ≤ i → i < a + n → IsAmong is iss → IsAmong (i ∷ is) (flat_map (led iss) (range_with_len a n))
in_range i a zero is iss low high h = absurd (omega arith)
in_range i a (suc n) is iss low high h = elim (here_or_above i a low) [
  | inl e ↦
      among_left (i ∷ is) (led iss a) (flat_map (led iss) (range_with_len (a + 1) n))
      (subst (λ k. IsAmong (i ∷ is) (led iss k)) e (among_map (λ js. i ∷ js) is iss h))
  | inr above ↦ among_right (i ∷ is) (led iss a) (flat_map (led iss) (range_with_len (a + 1) n)) (in_range i (a + 1) n is iss above (omega (arith, high)) h)
]

of_range : (i a n : ℕ) (is : List ℕ) (iss : List (List ℕ)) → IsAmong (i ∷ is) (flat_map (led iss) (range_with_len a n)) → (a ≤ i) × (i < a + n) × IsAmong is iss
of_range i a zero is iss h = absurd h
of_range i a (suc n) is iss h = elim (among_either (i ∷ is) (led iss a) (flat_map (led iss) (range_with_len (a + 1) n)) h) [
  | inl l ↦ (let here = led_by i a is iss l in (omega (arith, here.0), omega (arith, here.0), here.1))
  | inr r ↦ (let there = of_range i (a + 1) n is iss r in (omega (arith, there.0), omega (arith, there.1), there.2))
]

none_of_range : (a n : ℕ) (iss : List (List ℕ)) → IsAmong [] (flat_map (led iss) (range_with_len a n)) → ⊥
none_of_range a zero iss h = h
none_of_range a (suc n) iss h = elim (among_either [] (led iss a) (flat_map (led iss) (range_with_len (a + 1) n)) h) [
  | inl l ↦ led_some a iss l
  | inr r ↦ none_of_range (a + 1) n iss r
]

pub listed_admitted : (ds : List Dim) (is : List ℕ) → IsAmong is (index_lists ds) → AreAdmitted ds is
listed_admitted [] [] h = tt
listed_admitted [] (i ∷ is) (inl e) = absurd (cc)
listed_admitted [] (i ∷ is) (inr h) = h
listed_admitted (d ∷ ds) [] h = absurd (none_of_range 0 d.bound (index_lists ds) h)
listed_admitted (d ∷ ds) (i ∷ is) h =
    let there = of_range i 0 d.bound is (index_lists ds) h in
    (omega (arith, there.1), listed_admitted ds is there.2)

pub admitted_listed : (ds : List Dim) (is : List ℕ) → AreAdmitted ds is → IsAmong is (index_lists ds)
admitted_listed [] [] h = inl refl
admitted_listed [] (i ∷ is) h = absurd h
admitted_listed (d ∷ ds) [] h = absurd h
admitted_listed (d ∷ ds) (i ∷ is) h = in_range i 0 d.bound is (index_lists ds) (omega arith) (omega (arith, h.0)) (admitted_listed ds is h.1)
