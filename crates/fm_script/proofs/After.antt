-- What names stand for behind lines, by their numbers.
use Rattle.std.proofs.Common.{◌≡◌, ℕ, zero, suc, ◌+◌, ◌-◌, ◌<◌, ◌≤◌, ◌==◌, nat_lt, Bool, true, false, if◌then◌else◌, List, [], ◌∷◌, ◌++◌, length, length-append, map, get_or, refl, sym, ap, ◌∙◌, arith, Option}
use Rattle.std.proofs.lemmas.Bool.{eq-eqb, eqb-true, eqb-false, ltb-true, ltb-false}
use Rattle.std.proofs.lemmas.List.{length-map, get_or-map, get_or-append_right, get_or_append_left, same_lists}
use Rattle.fm_rule_facts.specs.Views.{View}
use Rattle.fm_script_text.specs.declared.line.Line.{Line}
use Rattle.fm_script_lines.specs.declared.{numbers.Numbers.{Numbers}, reply.Reply.{Reply}, standing.Standing.{Standing, TheVariants.{Nothing}}}
use Rattle.fm_script_lines.specs.{Lines.{behind}, Numbers.{number_at}, Playing.{LinesRan}, Report.{Done, names_after, names_behind}}
use Rattle.fm_script_lines.{specs.Standings.{Names, lent, standing_at}, proofs.Naming.{standing-own}}
use Rattle.fm_script.proofs.Made.{lent_behind}

-- what others may use of a line's name
abbrev pub made_lent : Done → Standing
made_lent d = lent d.made

module _ (number : List ℕ → Option ℕ) where
  -- Only what a name stood for matters.
  pub after_alike : (k : ℕ) (ds : List Done) (names others : Names) (n : ℕ) → names n ≡ others n
      → names_after number k ds names n ≡ names_after number k ds others n
  after_alike k [] names others n e = e
  after_alike k (d ∷ ds) names others n e =
      after_alike (k + 1) ds (names_behind number k d names) (names_behind number k d others) n
      (ap (λ (s : Standing). if n == k then d.made else behind number d.line.command n s) e)

  behind_here : (k : ℕ) (d : Done) (names : Names) (n : ℕ) → n ≡ k → names_behind number k d names n ≡ d.made
  behind_here k d names n e =
      ap (λ (b : Bool). if b then d.made else behind number d.line.command n (names n)) (eq-eqb n k e)

  -- Of the lines' own names not even that.
  pub after_own : (k : ℕ) (ds : List Done) (names others : Names) (n : ℕ) → k ≤ n → n < k + length ds
      → names_after number k ds names n ≡ names_after number k ds others n
  after_own k [] names others n low high = absurd (omega (arith, low, high))
  after_own k (d ∷ ds) names others n low high =
      go (n == k) refl
      (λ l. after_own (k + 1) ds (names_behind number k d names) (names_behind number k d others) n l (omega (arith, high)))
    where
      go : (b : Bool) → (n == k) ≡ b
          → (k + 1 ≤ n → names_after number k (d ∷ ds) names n ≡ names_after number k (d ∷ ds) others n)
          → names_after number k (d ∷ ds) names n ≡ names_after number k (d ∷ ds) others n
      go true e rest =
          let here : n ≡ k = eqb-true n k e in
          after_alike (k + 1) ds (names_behind number k d names) (names_behind number k d others) n
          (behind_here k d names n here ∙ sym (behind_here k d others n here))
      go false e rest = let apart = eqb-false n k e in rest (omega (arith, low, apart))

  -- The names of earlier lines stay, to others.
  pub after_kept : (k : ℕ) (ds : List Done) (names : Names) (n : ℕ) → n < k → lent (names_after number k ds names n) ≡ lent (names n)
  after_kept k [] names n low = refl
  after_kept k (d ∷ ds) names n low =
      after_kept (k + 1) ds (names_behind number k d names) n (omega (arith, low)) ∙ go (n == k) refl
    where
      go : (b : Bool) → (n == k) ≡ b → lent (if b then d.made else behind number d.line.command n (names n)) ≡ lent (names n)
      go true e = let here = eqb-true n k e in absurd (omega (arith, low, here))
      go false e = lent_behind number d.line.command n (names n)

  -- The name of a line stands for what it made, to others.
  pub after_made : (k : ℕ) (ds : List Done) (names : Names) (i : ℕ) (d : Done) → i < length ds
      → lent (names_after number k ds names (k + i)) ≡ lent (get_or ds i d).made
  after_made k [] names i d low = absurd (omega (arith, low))
  after_made k (e ∷ ds) names zero d low =
      after_kept (k + 1) ds (names_behind number k e names) (k + 0) (omega arith)
      ∙ ap (λ (s : Standing). lent s) (behind_here k e names (k + 0) (omega arith))
  after_made k (e ∷ ds) names (suc i) d low =
      ap (λ (m : ℕ). lent (names_after number (k + 1) ds (names_behind number k e names) m)) (omega arith)
      ∙ after_made (k + 1) ds (names_behind number k e names) i d (omega (arith, low))

-- What a pass's names stand for to others behind its lines: what they did before, and what the lines made.
module _ {p q : View} {names : Numbers} {base : List Standing} {start : ℕ} {own next : List Standing} {lines : List Line} {replies : List Reply}
    (r : LinesRan p q names base start own next lines replies) (low : length base ≤ start) where
  pub own_at : (xs : List Standing) (i : ℕ) → standing_at base start xs (start + i) ≡ get_or xs i Nothing
  own_at xs i =
      standing-own base start xs (start + i) (omega (arith, low)) (omega arith)
      ∙ ap (λ (m : ℕ). get_or xs m Nothing) (omega arith)

  pub next_at : (i : ℕ) → get_or next i Nothing ≡ names_after (number_at names) (start + length own) r.dones (standing_at base start own) (start + i)
  next_at i = sym (own_at next i) ∙ (λ j. r.stands j (start + i))

  pub lent_next : map lent next ≡ map lent own ++ map made_lent r.dones
  lent_next =
      let many = r.many in
      let long : length (map lent own ++ map made_lent r.dones) ≡ length own + length r.dones =
      length-append (map lent own) (map made_lent r.dones)
      ∙ (λ i. length-map own lent i + length-map r.dones made_lent i) in
      let short : length (map lent next) ≡ length next = length-map next lent in
      same_lists (map lent next) (map lent own ++ map made_lent r.dones) (omega (arith, many, long, short))
      (λ i d below. let inside : i < length next = omega (arith, below, short) in
      get_or-map lent next i Nothing d inside ∙ (ap (λ (s : Standing). lent s) (next_at i) ∙ go i d inside (nat_lt i (length own)) refl))
    where
      go : (i : ℕ) (d : Standing) → i < length next → (b : Bool) → nat_lt i (length own) ≡ b
          → lent (names_after (number_at names) (start + length own) r.dones (standing_at base start own) (start + i))
          ≡ get_or (map lent own ++ map made_lent r.dones) i d
      go i d below true e =
          let l = ltb-true i (length own) e in
          let mapped = length-map own lent in
          after_kept (number_at names) (start + length own) r.dones (standing_at base start own) (start + i) (omega (arith, l))
          ∙ (ap (λ (s : Standing). lent s) (own_at own i)
          ∙ (sym (get_or-map lent own i Nothing d l)
          ∙ sym (get_or_append_left (map lent own) (map made_lent r.dones) d i (omega (arith, l, mapped)))))
      go i d below false e =
          let g = ltb-false i (length own) e in
          let many = r.many in
          let m = i - length own in
          let inside : m < length r.dones = omega (arith, below, many, g) in
          let there : get_or (map lent own ++ map made_lent r.dones) i d ≡ get_or (map made_lent r.dones) m d =
          get_or-append_right (map lent own) (map made_lent r.dones) (length own) i d (length-map own lent) g in
          let any : Done = get_or r.dones m (some_done r.dones inside) in
          ap (λ (j : ℕ). lent (names_after (number_at names) (start + length own) r.dones (standing_at base start own) j)) (omega (arith, g))
          ∙ (after_made (number_at names) (start + length own) r.dones (standing_at base start own) m any inside
          ∙ (sym (get_or-map made_lent r.dones m any d inside) ∙ sym there))
        where
          some_done : (ds : List Done) {m : ℕ} → m < length ds → Done
          some_done [] l = absurd (omega (arith, l))
          some_done (x ∷ ds) l = x
