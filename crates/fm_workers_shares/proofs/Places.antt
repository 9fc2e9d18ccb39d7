-- Answers put at their places, and which of them stand there.
use Rattle.std.proofs.Common.{◌≡◌, ℕ, zero, suc, ◌+◌, ◌<◌, ◌≤◌, List, [], ◌∷◌, ◌++◌, length, set, Some, None, refl, ap, ◌∙◌, subst, arith, inl, inr}
use Rattle.std.{specs.{Prelude.{⊤}, List.{AllByRecursion}}, proofs.lemmas.List.{length-set}}
use Rattle.fm_base_lists.specs.Among.{IsAmong}
use Rattle.fm_records.specs.declared.found.Found.{Found}
use Rattle.fm_workers_shares.specs.{declared.answers.Done.{Done}, Batches.{nones}, Joining.{IsAnswered}, Placing.{Slot, placed}, Taking.{jobs_of}}

pub placed-append : (slots : List Slot) (ds es : List Done) → placed slots (ds ++ es) ≡ placed (placed slots es) ds
placed-append slots [] es = refl
placed-append slots (d ∷ ds) es = ap (λ (xs : List Slot). set xs d.job (Some d.answer)) (placed-append slots ds es)

pub length-placed : (slots : List Slot) (ds : List Done) → length (placed slots ds) ≡ length slots
length-placed slots [] = refl
length-placed slots (d ∷ ds) = length-set (placed slots ds) d.job (Some d.answer) ∙ length-placed slots ds

pub length-nones : (n : ℕ) → length (nones n) ≡ n
length-nones zero = refl
length-nones (suc n) = ap suc (length-nones n)

one_none : (n : ℕ) → nones n ++ None ∷ [] ≡ nones (suc n)
one_none zero = refl
one_none (suc n) = ap (λ (xs : List Slot). None ∷ xs) (one_none n)

pub nones-more : (n : ℕ) → nones n ++ None ∷ [] ≡ nones (n + 1)
nones-more n = let next : suc n ≡ n + 1 = omega arith in one_none n ∙ ap nones next

-- ---- which answers stand there

module _ (P : ℕ → List Found → Type 0) where
  -- What stands at a place is so; and an answer stands there, if the number is one of these
  record IsKnown (js : List ℕ) (k : ℕ) (u : Slot) : Type 0 where
    has : (x : List Found) → u ≡ Some x → P k x
    there : IsAmong k js → IsAnswered u

  abbrev AreKnown : (js : List ℕ) (k : ℕ) → List Slot → Type 0
  AreKnown js k [] = ⊤
  AreKnown js k (u ∷ us) = IsKnown js k u × AreKnown js (k + 1) us

  none_known : (k n : ℕ) → AreKnown [] k (nones n)
  none_known k zero = tt
  none_known k (suc n) = (record { has = λ x e. absurd (cc); there = λ i. absurd i }, none_known (k + 1) n)

  -- A number before all of them.
  known_above : (js : List ℕ) (k j : ℕ) (us : List Slot) → j < k → AreKnown js k us → AreKnown (j ∷ js) k us
  known_above js k j [] below h = tt
  known_above js k j (u ∷ us) below h = (
    record { has = h.0.has; there = λ i. other h.0 i },
    known_above js (k + 1) j us (omega (arith, below)) h.1,
  )
    where
      other : IsKnown js k u → IsAmong k (j ∷ js) → IsAnswered u
      other known (inl e) = absurd (omega (arith, below, e))
      other known (inr i) = known.there i

  set_known : (js : List ℕ) (k i j : ℕ) (x : List Found) (us : List Slot) → k + i ≡ j → P j x → AreKnown js k us → AreKnown (j ∷ js) k (set us i (Some x))
  set_known js k i j x [] at mine h = tt
  set_known js k zero j x (u ∷ us) at mine h =
      let here : j ≡ k = omega (arith, at) in (
        record { has = λ y e. let same : x ≡ y = cc in subst (λ z. P k z) same (subst (λ n. P n x) here mine); there = λ i. tt },
        known_above js (k + 1) j us (omega (arith, here)) h.1,
      )
  set_known js k (suc i) j x (u ∷ us) at mine h = (
    record { has = h.0.has; there = λ a. other h.0 a },
    set_known js (k + 1) i j x us (omega (arith, at)) mine h.1,
  )
    where
      other : IsKnown js k u → IsAmong k (j ∷ js) → IsAnswered u
      other known (inl e) = absurd (omega (arith, at, e))
      other known (inr a) = known.there a

  placed_known : (n : ℕ) (ds : List Done) → AllByRecursion (λ d. P d.job d.answer) ds → AreKnown (jobs_of ds) 0 (placed (nones n) ds)
  placed_known n [] h = none_known 0 n
  placed_known n (d ∷ ds) h = set_known (jobs_of ds) 0 d.job d.job d.answer (placed (nones n) ds) (omega arith) h.0 (placed_known n ds h.1)

  -- an answer that is so stands at each place, from this number on
  abbrev pub AreAll : (k : ℕ) → List Slot → Type 0
  AreAll k [] = ⊤
  AreAll k (u ∷ us) = ((x : List Found) × (u ≡ Some x) × P k x) × AreAll (k + 1) us

  one_there : (k : ℕ) (u : Slot) → ((x : List Found) → u ≡ Some x → P k x) → IsAnswered u → (x : List Found) × (u ≡ Some x) × P k x
  one_there k (Some x) has there = (x, refl, has x refl)
  one_there k None has there = absurd there

  all_known : (js : List ℕ) (k : ℕ) (us : List Slot) → AreKnown js k us → ((j : ℕ) → k ≤ j → j < k + length us → IsAmong j js) → AreAll k us
  all_known js k [] h all = tt
  all_known js k (u ∷ us) h all = (
    one_there k u h.0.has (h.0.there (all k (omega arith) (omega arith))),
    all_known js (k + 1) us h.1 (λ j from below. all j (omega (arith, from)) (omega (arith, below))),
  )

  -- Where all numbers are those of answers, an answer stands at each place.
  pub all_placed : (n : ℕ) (ds : List Done) → AllByRecursion (λ d. P d.job d.answer) ds → ((j : ℕ) → j < n → IsAmong j (jobs_of ds))
      → AreAll 0 (placed (nones n) ds)
  all_placed n ds h all =
      let long = length-placed (nones n) ds ∙ length-nones n in
      all_known (jobs_of ds) 0 (placed (nones n) ds) (placed_known n ds h) (λ j from below. all j (omega (arith, below, long)))
