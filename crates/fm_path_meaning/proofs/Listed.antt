-- The list of places holds exactly what stands at steps.
use Rattle.std.proofs.{Common.{◌≡◌, refl, sym, ap, subst, ℕ, ◌+◌, ◌*◌, ◌<◌, inl, inr, zero, suc, Some, List, [], ◌∷◌, map, arith, ◌∙◌}, lemmas.Bool.{cases_lt}}
use Rattle.fm_layout.specs.{Tree.{Tree, Trees, Value, Padding, Sequence, Struct, Union, NoMore, More}, Parts.{tree_at, member_of}}
use Rattle.fm_layout.specs.Size.{size_of, member_offset}
use Rattle.fm_base_lists.{specs.Among.{IsAmong}, proofs.Among.{among_left, among_right, among_either, among_map, among_back}}
use Rattle.fm_path_meaning.specs.Places.{Step, Element, Member, Place, here, within, in_elements, places, in_members, IsAt}

-- a place in an element is among those of the elements
element_among : (i n bytes : ℕ) (p : Place) (ps : List Place) → i < n → IsAmong p ps → IsAmong (within (Element i) (i * bytes) p) (in_elements n bytes ps)
element_among i zero bytes p ps lt h = absurd (omega arith)
element_among i (suc n) bytes p ps lt h = elim (cases_lt i n) [
  | inl k ↦ among_left _ (in_elements n bytes ps) _ (element_among i n bytes p ps k h)
  | inr k ↦ let e : i ≡ n = omega arith in
      subst (λ m. IsAmong (within (Element m) (m * bytes) p) (in_elements (suc n) bytes ps)) (sym e)
      (among_right _ (in_elements n bytes ps) _ (among_map (within (Element n) (n * bytes)) p ps h))
]

-- a place among those of the elements is in one of them
element_back : (n bytes : ℕ) (p : Place) (ps : List Place) → IsAmong p (in_elements n bytes ps)
    → (i : ℕ) × (q : Place) × (i < n) × IsAmong q ps × (p ≡ within (Element i) (i * bytes) q)
element_back zero bytes p ps h = absurd h
element_back (suc n) bytes p ps h = elim (among_either p (in_elements n bytes ps) _ h) [
  | inl k ↦ let r = element_back n bytes p ps k in (r.0, r.1, omega (arith, r.2), r.3, r.4)
  | inr k ↦ let r = among_back (within (Element n) (n * bytes)) p ps k in (n, r.0, omega arith, r.1, r.2)
]

-- as a place, what stands at steps
abbrev pub at_steps : List Step → ℕ → Tree → Place
at_steps ss at u = record { steps = ss; offset = at; layout = u }

-- a place at an equal offset
moved : (ss : List Step) (u : Tree) (ps : List Place) (a b : ℕ) → a ≡ b → IsAmong (at_steps ss b u) ps → IsAmong (at_steps ss a u) ps
moved ss u ps a b e h = subst (λ x. IsAmong (at_steps ss x u) ps) (sym e) h

mutual
  -- what stands at steps is in the list
  pub listed : (t : Tree) (ss : List Step) (at : ℕ) (u : Tree) → IsAt ss t at u → IsAmong (at_steps ss at u) (places t)
  listed (Sequence n e l) (Element i ∷ ss) at u h =
      let q = listed e ss h.1 u (subst (λ c. IsAt ss c h.1 u) h.3.2 h.4) in
      inr (moved (Element i ∷ ss) u _ at (i * size_of e + h.1) (h.5
      ∙ ap (λ x. x + h.1) h.3.1) (element_among i n (size_of e) (at_steps ss h.1 u) (places e) h.3.0 q))
  listed (Struct ms l) (Member i ∷ ss) at u h =
      inr (member_listed ms (Struct ms l) 0 i i ss at h.1 h.2 u (omega arith) (h.5 ∙ ap (λ x. x + h.1) h.3.1) h.3.0 h.4)
  listed (Union ms l) (Member i ∷ ss) at u h =
      inr (member_listed ms (Union ms l) 0 i i ss at h.1 h.2 u (omega arith) (h.5 ∙ ap (λ x. x + h.1) h.3.1) h.3.0 h.4)
  listed t (Element i ∷ ss) at u h = absurd h.3
  listed t (Member i ∷ ss) at u h = let never = h.3.0 in absurd (cc)
  listed (Value k o l) [] at u h = inl (rw (h.0, h.1) refl)
  listed t [] at u h = inl (rw (h.0, h.1) refl)

  -- the same of a group's members from index j on
  member_listed : (ts : Trees) (group : Tree) (j i n : ℕ) (ss : List Step) (at b : ℕ) (c u : Tree) → n ≡ j + i → at ≡ member_offset n group + b
      → tree_at i ts ≡ Some c → IsAt ss c b u → IsAmong (at_steps (Member n ∷ ss) at u) (in_members group j ts)
  member_listed NoMore group j i n ss at b c u en ea e h = absurd (cc)
  member_listed (More t ts) group j zero n ss at b c u en ea e h =
      let is : t ≡ c = cc in
      let first : n ≡ j = omega arith in
      let q = listed t ss b u (subst (λ c. IsAt ss c b u) (sym is) h) in
      subst (λ n. IsAmong (at_steps (Member n ∷ ss) at u) (in_members group j (More t ts))) (sym first)
      (moved (Member j ∷ ss) u _ at (member_offset j group + b) (ea ∙ ap (λ n. member_offset n group + b) first)
      (among_left _ (map (within (Member j) (member_offset j group)) (places t)) _
      (among_map (within (Member j) (member_offset j group)) (at_steps ss b u) (places t) q)))
  member_listed (More t ts) group j (suc i) n ss at b c u en ea e h =
      among_right _ (map (within (Member j) (member_offset j group)) (places t)) _
      (member_listed ts group (j + 1) i n ss at b c u (omega arith) ea e h)

-- members of equal indices
pub same_index : (t u : Tree) (i j : ℕ) → i ≡ j → member_of i t ≡ Some u → member_of j t ≡ Some u
same_index t u i j e h = subst (λ n. member_of n t ≡ Some u) e h

-- the layout's own place
here_stands : (t : Tree) (p : Place) → p ≡ here t → IsAt p.steps t p.offset p.layout
here_stands t p e = subst (λ p. IsAt p.steps t p.offset p.layout) (sym e) (refl, refl)

mutual
  -- each place of the list stands at its steps
  pub stands : (t : Tree) (p : Place) → IsAmong p (places t) → IsAt p.steps t p.offset p.layout
  stands (Value k o l) p (inl e) = here_stands (Value k o l) p e
  stands (Value k o l) p (inr h) = absurd h
  stands (Padding n l) p (inl e) = here_stands (Padding n l) p e
  stands (Padding n l) p (inr h) = absurd h
  stands (Sequence n e l) p (inl is) = here_stands (Sequence n e l) p is
  stands (Sequence n e l) p (inr h) =
      let r = element_back n (size_of e) p (places e) h in
      subst (λ p. IsAt p.steps (Sequence n e l) p.offset p.layout) (sym r.4) (r.0 * size_of e, r.1.offset, e, (r.2, refl, refl), stands e r.1 r.3, refl)
  stands (Struct ms l) p (inl e) = here_stands (Struct ms l) p e
  stands (Struct ms l) p (inr h) = member_stands ms (Struct ms l) 0 p (λ i u e. same_index (Struct ms l) u i (0 + i) (omega arith) e) h
  stands (Union ms l) p (inl e) = here_stands (Union ms l) p e
  stands (Union ms l) p (inr h) = member_stands ms (Union ms l) 0 p (λ i u e. same_index (Union ms l) u i (0 + i) (omega arith) e) h

  -- the same of a group's members from index j on
  member_stands : (ts : Trees) (group : Tree) (j : ℕ) (p : Place) → ((i : ℕ) (u : Tree) → tree_at i ts ≡ Some u → member_of (j + i) group ≡ Some u)
      → IsAmong p (in_members group j ts) → IsAt p.steps group p.offset p.layout
  member_stands NoMore group j p f h = absurd h
  member_stands (More t ts) group j p f h = elim (among_either p (map (within (Member j) (member_offset j group)) (places t)) _ h) [
    | inl k ↦ let r = among_back (within (Member j) (member_offset j group)) p (places t) k in
        subst (λ p. IsAt p.steps group p.offset p.layout) (sym r.2)
        (member_offset j group, r.0.offset, t, (same_index group t (j + 0) j (omega arith) (f 0 t refl), refl), stands t r.0 r.1, refl)
    | inr k ↦ member_stands ts group (j + 1) p (λ i u e. same_index group u (j + suc i) (j + 1 + i) (omega arith) (f (suc i) u e)) k
  ]
