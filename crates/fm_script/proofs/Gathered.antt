-- What all names stand for once the workers are gathered.
use Rattle.std.proofs.Common.{◌≡◌, ℕ, ◌+◌, ◌-◌, ◌<◌, ◌≤◌, nat_lt, Bool, true, false, if◌then◌else◌, List, [], ◌∷◌, ◌++◌, length, length-append, map, get_or, refl, sym, ap, ◌∙◌, arith, Option}
use Rattle.std.proofs.lemmas.Bool.{lt-ltb, ltb-true, ltb-false}
use Rattle.std.proofs.lemmas.List.{length-map, get_or-append_right, get_or_append_left, get_or-map, get_or_past, map-append}
use Rattle.fm_script_lines.specs.declared.standing.Standing.{Standing, TheVariants.{Nothing}}
use Rattle.fm_script_lines.specs.{Report.{Done, Player, gathered_names, names_after, none_stands, worked}, Standings.{Names, lent, standing_at}}
use Rattle.fm_script_lines.proofs.Naming.{standing-between, standing-others, standing-own}
use Rattle.fm_script.proofs.After.{after_made, made_lent}

pub plain_at : (xs : List Standing) (n : ℕ) → standing_at [] 0 xs n ≡ get_or xs n Nothing
plain_at xs n = standing-own [] 0 xs n (omega arith) (omega arith) ∙ ap (λ (m : ℕ). get_or xs m Nothing) (omega arith)

-- What a worker may use of the first lines' names.
pub lent_only : (base : List Standing) (start : ℕ) (n : ℕ) → length base ≤ start → standing_at base start [] n ≡ lent (standing_at [] 0 base n)
lent_only base start n low = go (nat_lt n (length base)) refl (nat_lt n start) refl
  where
    go : (a : Bool) → nat_lt n (length base) ≡ a → (b : Bool) → nat_lt n start ≡ b → standing_at base start [] n ≡ lent (standing_at [] 0 base n)
    go true e b f = standing-others base start [] n (ltb-true n (length base) e) ∙ ap (λ (s : Standing). lent s) (sym (plain_at base n))
    go false e true f =
        let g = ltb-false n (length base) e in
        standing-between base start [] n g (ltb-true n start f)
        ∙ ap (λ (s : Standing). lent s) (sym (plain_at base n ∙ get_or_past base n Nothing g))
    go false e false f =
        let g = ltb-false n (length base) e in
        standing-own base start [] n g (ltb-false n start f)
        ∙ (get_or_past [] (n - start) Nothing (omega arith)
        ∙ ap (λ (s : Standing). lent s) (sym (plain_at base n ∙ get_or_past base n Nothing g)))

module _ (number : List ℕ → Option ℕ) (names : Names) where
  -- The first lines' names are as they were.
  pub gathered_below : (k : ℕ) (ps : List Player) (n : ℕ) → n < k → gathered_names number k ps names n ≡ names n
  gathered_below k [] n low = refl
  gathered_below k (p ∷ ps) n low =
      ap (λ (b : Bool). if b then names n else (if nat_lt n (k + length p.dones) then lent (names_after number k p.dones none_stands n)
      else gathered_names number (k + length p.dones) ps names n)) (lt-ltb n k low)

  skipped : (k : ℕ) (p : Player) (ps : List Player) (n : ℕ) → k + length p.dones ≤ n
      → gathered_names number k (p ∷ ps) names n ≡ gathered_names number (k + length p.dones) ps names n
  skipped k p ps n high = go (nat_lt n k) refl (nat_lt n (k + length p.dones)) refl
    where
      go : (a : Bool) → nat_lt n k ≡ a → (b : Bool) → nat_lt n (k + length p.dones) ≡ b
          → (if a then names n else (if b then lent (names_after number k p.dones none_stands n)
          else gathered_names number (k + length p.dones) ps names n)) ≡ gathered_names number (k + length p.dones) ps names n
      go true e b f = absurd (let l = ltb-true n k e in omega (arith, l, high))
      go false e true f = absurd (let l = ltb-true n (k + length p.dones) f in omega (arith, l, high))
      go false e false f = refl

  -- Behind the workers' names there are none.
  pub gathered_past : (k : ℕ) (ps : List Player) (n : ℕ) → k + length (worked ps) ≤ n → gathered_names number k ps names n ≡ names n
  gathered_past k [] n high = refl
  gathered_past k (p ∷ ps) n high =
      let more = length-append p.dones (worked ps) in
      skipped k p ps n (omega (arith, high, more)) ∙ gathered_past (k + length p.dones) ps n (omega (arith, high, more))

  -- Each worker's name is what its line made.
  pub gathered_made : (k : ℕ) (ps : List Player) (i : ℕ) → i < length (worked ps)
      → gathered_names number k ps names (k + i) ≡ get_or (map made_lent (worked ps)) i Nothing
  gathered_made k [] i low = absurd (omega (arith, low))
  gathered_made k (p ∷ ps) i low =
      go (nat_lt i (length p.dones)) refl
      (λ g. gathered_made (k + length p.dones) ps (i - length p.dones) (omega (arith, low, more, g)))
    where
      more : length (worked (p ∷ ps)) ≡ length p.dones + length (worked ps)
      more = length-append p.dones (worked ps)

      here : get_or (map made_lent (worked (p ∷ ps))) i Nothing ≡ get_or (map made_lent p.dones ++ map made_lent (worked ps)) i Nothing
      here = ap (λ (xs : List Standing). get_or xs i Nothing) (map-append made_lent p.dones (worked ps))

      one : i < length p.dones → gathered_names number k (p ∷ ps) names (k + i) ≡ lent (names_after number k p.dones none_stands (k + i))
      one l = by_tests (nat_lt (k + i) k) refl (nat_lt (k + i) (k + length p.dones)) refl
        where
          by_tests : (a : Bool) → nat_lt (k + i) k ≡ a → (b : Bool) → nat_lt (k + i) (k + length p.dones) ≡ b
              → (if a then names (k + i) else (if b then lent (names_after number k p.dones none_stands (k + i))
              else gathered_names number (k + length p.dones) ps names (k + i))) ≡ lent (names_after number k p.dones none_stands (k + i))
          by_tests true e b f = absurd (let q = ltb-true (k + i) k e in omega (arith, q))
          by_tests false e true f = refl
          by_tests false e false f = absurd (let q = ltb-false (k + i) (k + length p.dones) f in omega (arith, q, l))

      some_done : (ds : List Done) → i < length ds → Done
      some_done [] l = absurd (omega (arith, l))
      some_done (x ∷ ds) l = x

      go : (b : Bool) → nat_lt i (length p.dones) ≡ b
          → (length p.dones ≤ i → gathered_names number (k + length p.dones) ps names (k + length p.dones + (i - length p.dones))
          ≡ get_or (map made_lent (worked ps)) (i - length p.dones) Nothing)
          → gathered_names number k (p ∷ ps) names (k + i) ≡ get_or (map made_lent (worked (p ∷ ps))) i Nothing
      go true e rest =
          let l = ltb-true i (length p.dones) e in
          let mapped = length-map p.dones made_lent in
          one l ∙ (after_made number k p.dones none_stands i (some_done p.dones l) l
          ∙ (sym (get_or-map made_lent p.dones i (some_done p.dones l) Nothing l)
          ∙ (sym (get_or_append_left (map made_lent p.dones) (map made_lent (worked ps)) Nothing i (omega (arith, l, mapped))) ∙ sym here)))
      go false e rest =
          let g = ltb-false i (length p.dones) e in
          let same : k + i ≡ k + length p.dones + (i - length p.dones) = omega (arith, g) in
          skipped k p ps (k + i) (omega (arith, g))
          ∙ (ap (λ (m : ℕ). gathered_names number (k + length p.dones) ps names m) same
          ∙ (rest g
          ∙ (sym (get_or-append_right (map made_lent p.dones) (map made_lent (worked ps)) (length p.dones) i Nothing (length-map p.dones made_lent) g)
          ∙ sym here)))

  -- So the table that has the first lines' names and then the workers' has what they stand for.
  pub gathered_table : (own others : List Standing) (ps : List Player) → others ≡ map made_lent (worked ps)
      → ((n : ℕ) → standing_at [] 0 own n ≡ names n)
      → (n : ℕ) → standing_at [] 0 (own ++ others) n ≡ gathered_names number (length own) ps names n
  gathered_table own others ps are first n = at n (nat_lt n (length own)) refl (nat_lt n (length own + length (worked ps))) refl
    where
      long : length others ≡ length (worked ps)
      long = ap (λ (xs : List Standing). length xs) are ∙ length-map (worked ps) made_lent

      all : length (own ++ others) ≡ length own + length (worked ps)
      all = length-append own others ∙ ap (λ (m : ℕ). length own + m) long

      at : (n : ℕ) (a : Bool) → nat_lt n (length own) ≡ a → (b : Bool) → nat_lt n (length own + length (worked ps)) ≡ b
          → standing_at [] 0 (own ++ others) n ≡ gathered_names number (length own) ps names n
      at n true e b f =
          let l = ltb-true n (length own) e in
          plain_at (own ++ others) n ∙ (get_or_append_left own others Nothing n l ∙ (sym (plain_at own n) ∙ first n) ∙ sym (gathered_below (length own) ps n l))
      at n false e true f =
          let g = ltb-false n (length own) e in
          let l = ltb-true n (length own + length (worked ps)) f in
          plain_at (own ++ others) n ∙ get_or-append_right own others (length own) n Nothing refl g
          ∙ (ap (λ (xs : List Standing). get_or xs (n - length own) Nothing) are
          ∙ (sym (gathered_made (length own) ps (n - length own) (omega (arith, g, l)))
          ∙ ap (λ (m : ℕ). gathered_names number (length own) ps names m) (omega (arith, g))))
      at n false e false f =
          let g = ltb-false n (length own + length (worked ps)) f in
          plain_at (own ++ others) n ∙ get_or_past (own ++ others) n Nothing (omega (arith, g, all))
          ∙ (sym (get_or_past own n Nothing (omega (arith, g))) ∙ (sym (plain_at own n) ∙ first n ∙ sym (gathered_past (length own) ps n g)))
