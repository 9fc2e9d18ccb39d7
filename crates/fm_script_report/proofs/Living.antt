-- A finished pool has no more living arenas than slots.
use Rattle.std.proofs.Common.{◌≡◌, ◌≢◌, ℕ, zero, suc, ◌+◌, ◌<◌, ◌≤◌, ◌==◌, Bool, true, false, List, [], ◌∷◌, length, map, refl, sym, ◌∙◌, subst, inl, inr, arith}
use Rattle.std.{specs.{Prelude.{slice_index}, List.{AllByRecursion}}, proofs.lemmas.{Bool.{eqb-true, eqb-false}, List.{length-map}}}
use Rattle.fm_base.{specs.{declared.arena_id.ArenaId.{ArenaId}, Arenas.{State, has_arena}}, proofs.Growing.{there_by_life}}
use Rattle.fm_base_lists.{specs.Among.{AreApart, IsAmong}, proofs.{Among.{among_back}, Each.{all_among}}}
use Rattle.fm_rule_facts.specs.{Rest.{IsOnly, ShowsSlot}, Views.{Fits}}
use Rattle.fm_words.specs.{declared.session.Session.{Session}, Places.{at, session}, Sessions.{session_of}}
use Rattle.fm_rule.specs.{Finishing.{FinishedView, IsFinished}, GivenBytes.{state_of}}
use Rattle.fm_script_report.specs.Living.{Lives, LivingAlwaysFit}

-- ---- numbers

-- a list of numbers without this one
record Without (n : ℕ) (xs : List ℕ) : Type 0 where
  rest : List ℕ
  long : length xs ≤ length rest + 1
  from : (k : ℕ) → IsAmong k rest → IsAmong k xs × (k ≢ n)
  apart : AreApart rest

without : (n : ℕ) (xs : List ℕ) → AreApart xs → Without n xs
without n [] a = record { rest = []; long = omega arith; from = λ k h. absurd h; apart = tt }
without n (x ∷ xs) a = go (x == n) refl (without n xs a.1)
  where
    go : (b : Bool) → (x == n) ≡ b → Without n xs → Without n (x ∷ xs)
    go true e w = record {
      rest = xs;
      long = omega arith;
      from = λ k h. (inr h, λ is. a.0 (subst (λ (y : ℕ). IsAmong y xs) (is ∙ sym (eqb-true x n e)) h));
      apart = a.1;
    }
    go false e w = record {
      rest = x ∷ w.rest;
      long = (let l = w.long in omega arith);
      from = λ k h. elim h [
        | inl is ↦ (inl is, λ same. eqb-false x n e (sym is ∙ same))
        | inr r ↦ (let f = w.from k r in (inr f.0, f.1))
      ];
      apart = ((λ h. a.0 (w.from x h).0), w.apart);
    }

-- Of the numbers below n there are n.
few_below : (n : ℕ) (xs : List ℕ) → ((k : ℕ) → IsAmong k xs → k < n) → AreApart xs → length xs ≤ n
few_below zero [] h a = omega arith
few_below zero (x ∷ xs) h a = absurd (let no = h x (inl refl) in omega (arith, no))
few_below (suc n) xs h a =
    let w = without n xs a in
    let rest = few_below n w.rest (λ k i. let f = w.from k i in let below = h k f.0 in let other = f.1 in omega (arith, below, other)) w.apart in
    let long = w.long in
    omega (arith, rest, long)

-- ---- arenas

module _ (f : FinishedView) (h : IsFinished f) where
  abbrev s : State
  s = state_of f

  known : (a : ArenaId) → Lives f a → has_arena s a ≡ true
  known a lives = there_by_life s a lives

  fits : (a : ArenaId) → Lives f a → Fits f.shape a
  fits a lives = h.shows.fits a (known a lives)

  abbrev session_at : ℕ → Session
  session_at k = session_of (slice_index f.words (at f.shape (session k)))

  -- A living arena is of its slot's last generation.
  newest : (k : ℕ) (i : Session) → ShowsSlot f.shape f.words s k i → (a : ArenaId) → a.slot ≡ k → Lives f a → a.generation ≡ i.generation
  newest k i shown a slot lives =
      let most = shown.newest a slot (known a lives) in
      let not_older : a.generation < i.generation → ⊥ = λ l. lives (shown.older a slot l) in
      omega (arith, most, not_older)

  only : (k : ℕ) (i : Session) (x a b : ArenaId) → x.slot ≡ k → IsOnly s i x → ShowsSlot f.shape f.words s k i → a.slot ≡ k → b.slot ≡ k → Lives f a
      → Lives f b → a ≡ b
  only k i x a b slot one shown at_a at_b la lb =
      one a (at_a ∙ sym slot) (newest k i shown a at_a la) (known a la)
      ∙ sym (one b (at_b ∙ sym slot) (newest k i shown b at_b lb) (known b lb))

  of_slot : (k : ℕ) (i : Session) → ShowsSlot f.shape f.words s k i → (a b : ArenaId) → a.slot ≡ k → b.slot ≡ k → Lives f a → Lives f b → a ≡ b
  of_slot k i shown a b at_a at_b la lb = elim shown.lives [
    | inl free ↦ absurd (la (shown.free free a at_a))
    | inr (inl alive) ↦ (let x = shown.alive alive in only k i x.arena a b x.named.slot x.only shown at_a at_b la lb)
    | inr (inr closing) ↦ (let x = shown.closing closing in only k i x.arena a b x.named.slot x.only shown at_a at_b la lb)
  ]

  one_of_slot : (a b : ArenaId) → Lives f a → Lives f b → a.slot ≡ b.slot → a ≡ b
  one_of_slot a b la lb same = of_slot b.slot (session_at b.slot) (h.shows.slots b.slot (fits b lb).slot) a b same refl la lb

  -- So their slots are apart where they are.
  slots_apart : (ids : List ArenaId) → AllByRecursion (Lives f) ids → AreApart ids → AreApart (map (λ (a : ArenaId). a.slot) ids)
  slots_apart [] lives apart = tt
  slots_apart (a ∷ ids) lives apart = (
    (λ again.
        let b = among_back (λ (x : ArenaId). x.slot) a.slot ids again in
        let is : a ≡ b.0 = one_of_slot a b.0 lives.0 (all_among (Lives f) b.0 ids lives.1 b.1) b.2 in
        apart.0 (subst (λ (x : ArenaId). IsAmong x ids) (sym is) b.1)),
    slots_apart ids lives.1 apart.1,
  )

  few : (ids : List ArenaId) → AllByRecursion (Lives f) ids → AreApart ids → length ids ≤ f.shape.slots
  few ids lives apart =
      let slot : ArenaId → ℕ = λ (a : ArenaId). a.slot in
      let below = few_below f.shape.slots (map slot ids) (λ k i.
      let b = among_back slot k ids i in
      let l = (fits b.0 (all_among (Lives f) b.0 ids lives b.1)).slot in
      subst (λ (n : ℕ). n < f.shape.slots) (sym b.2) l) (slots_apart ids lives apart) in
      subst (λ (n : ℕ). n ≤ f.shape.slots) (length-map ids slot) below

pub living_fit : LivingAlwaysFit
living_fit f h = record { fits = fits f h; one = one_of_slot f h; few = few f h }
