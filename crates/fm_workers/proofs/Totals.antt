-- What passes counted together.
use Rattle.std.{proofs.Common.{◌≡◌, ℕ, ◌^◌, ◌≤◌, List, [], ◌∷◌, sym, ap, ◌∙◌, subst, arith, inl, inr, Result, Ok, Err}, specs.Prelude.{◌⊎◌, ℤ}}
use Rattle.fm_base.specs.{declared.{caller.Caller.{Caller}, refusal.Refusal.{Refusal, TheVariants.{Memory}}}, Calls.{Entry}}
use Rattle.fm_segment.specs.Region.{Region}
use Rattle.fm_workers_shares.specs.{declared.answers.Done.{Done}, Answered.{all_of}, Placing.{AreJoined}, Shares.{Cut}}
use Rattle.fm_workers.specs.{declared.tally.Total.{Total}, Counts.{AreCounts, AreSums, PassSums, how_many, number_of}, Sharing.{AreMade}}
use Rattle.fm_workers.{specs.Tallies.{SumsWith, all_numbers, tallying}, proofs.{Numbers.{both_counted, how_many-append}, Talliers.{all_numbers-append}}}

-- ---- sums

-- what a part makes of the total of those behind it
abbrev pub Sums : Total → List ℕ → Total → Type 0
Sums behind part whole = SumsWith part behind.counts whole.counts

-- these are their counts together
abbrev pub AreTotals : List (List ℕ) → List ℕ → Type 0
AreTotals [] ns = AreCounts [] ns
AreTotals (p ∷ ps) ns = (rest : List ℕ) × AreTotals ps rest × AreSums p rest ns

-- a sum of the counts of one and of those behind it passes 64 bits
abbrev pub PassTotals : List (List ℕ) → Type 0
PassTotals [] = ⊥
PassTotals (p ∷ ps) = PassTotals ps ⊎ ((rest : List ℕ) × AreTotals ps rest × PassSums p rest)

abbrev pub SumsTo : List (List ℕ) → Result (List ℕ) Refusal → Type 0
SumsTo ps (Ok ns) = AreTotals ps ns
SumsTo ps (Err r) = (r ≡ Memory) × PassTotals ps

-- One more is added to those behind it.
sums_more : (p : List ℕ) (gone : List (List ℕ)) (behind r : Result (List ℕ) Refusal) → SumsTo gone behind → SumsWith p behind r → SumsTo (p ∷ gone) r
sums_more p gone (Ok xs) (Ok ns) h w = let same : xs ≡ w.0 = cc in (w.0, subst (AreTotals gone) same h, w.2)
sums_more p gone (Ok xs) (Err r) h (inl e) = absurd (cc)
sums_more p gone (Ok xs) (Err r) h (inr w) = let same : xs ≡ w.0 = cc in (w.2, inr (w.0, subst (AreTotals gone) same h, w.3))
sums_more p gone (Err e) (Ok ns) h w = absurd (cc)
sums_more p gone (Err e) (Err r) h (inl q) = let same : e ≡ r = cc in (sym same ∙ h.0, inl h.1)
sums_more p gone (Err e) (Err r) h (inr w) = absurd (cc)

-- All were added, from none on.
pub sums_to : (start whole : Total) (ps : List (List ℕ)) (none : List ℕ) → start.counts ≡ Ok none → AreCounts [] none → AreJoined Sums start ps whole
    → SumsTo ps whole.counts
sums_to start whole [] none is zero h = subst (SumsTo []) (sym (ap (λ (t : Total). t.counts) h ∙ is)) zero
sums_to start whole (p ∷ ps) none is zero h = sums_more p ps h.0.counts whole.counts (sums_to start h.0 ps none is zero h.1) h.2

module _ (k : Cut) (counts : Region) (more : List Entry) where
  -- The totals are the counts of all numbers.
  pub totals_counted : (cs : List Caller) (taken : List (List Done)) (ps : List (List ℕ)) (ns : List ℕ) → AreMade (tallying k counts) more cs taken ps
      → AreTotals ps ns → AreCounts (all_numbers (all_of taken)) ns
  totals_counted [] [] [] ns h t = t
  totals_counted (c ∷ cs) (ds ∷ taken) (p ∷ ps) ns h e =
      subst (λ (ms : List ℤ). AreCounts ms ns) (sym (all_numbers-append ds (all_of taken)))
      (both_counted (all_numbers ds) (all_numbers (all_of taken)) p e.0 ns h.0.holds (totals_counted cs taken ps e.0 h.1 e.1) e.2)
  totals_counted cs taken ps ns h e = absurd h

  -- Where a sum passes 64 bits, a number comes so often.
  pub passes_counted : (cs : List Caller) (taken : List (List Done)) (ps : List (List ℕ)) → AreMade (tallying k counts) more cs taken ps → PassTotals ps
      → (n : ℕ) × (2 ^ 64 ≤ how_many (number_of n) (all_numbers (all_of taken)))
  passes_counted [] [] [] h e = absurd e
  passes_counted (c ∷ cs) (ds ∷ taken) (p ∷ ps) h (inl e) =
      let rest = passes_counted cs taken ps h.1 e in
      let low = rest.1 in
      let all = ap (how_many (number_of rest.0)) (all_numbers-append ds (all_of taken)) in
      let both = how_many-append (number_of rest.0) (all_numbers ds) (all_numbers (all_of taken)) in
      (rest.0, omega (arith, low, all, both))
  passes_counted (c ∷ cs) (ds ∷ taken) (p ∷ ps) h (inr e) =
      let mine = h.0.holds.each e.2.place e.2.within in
      let rest = (totals_counted cs taken ps e.0 h.1 e.1).each e.2.place e.2.within in
      let all = ap (how_many (number_of e.2.place)) (all_numbers-append ds (all_of taken)) in
      let both = how_many-append (number_of e.2.place) (all_numbers ds) (all_numbers (all_of taken)) in
      let passes = e.2.passes in
      (e.2.place, omega (arith, mine, rest, all, both, passes))
  passes_counted cs taken ps h e = absurd h
