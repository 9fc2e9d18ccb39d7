-- Why calls are refused, and where a value stands.
use Rattle.std.proofs.Common.{◌≡◌, ℕ, ◌+◌, ◌⊎◌, inl, inr, Bool, if◌then◌else◌, length, Result, Ok, Err, List, [], ◌∷◌, refl, ap, ◌∙◌, arith}
use Rattle.std.proofs.lemmas.Bool.{cases_lt, lt-ltb, le-ltb}
use Rattle.fm_base.specs.declared.{caller.Caller.{Caller}, arena_id.ArenaId.{ArenaId}, refusal.Refusal.{Refusal, TheVariants.{Closed, IndexOut}}}
use Rattle.fm_path.specs.{declared.value_spec.ValueSpec.{ValueSpec}, Resolution.{Resolution}}
use Rattle.fm_path_meaning.specs.{declared.dim.Dim.{Dim}, Found.{IsFirstOut}, Walk.{AreAdmitted}}
use Rattle.fm_segment_access.proofs.Causes.{Causes, place_causes, placed_causes, placed_ok, write_causes, support_causes, tested_causes}
use Rattle.fm_segment.specs.Region.{Region}
use Rattle.fm_handle.specs.Causes.{RootFits, RootIsAligned, RootCause, IndexCause, GetCause, SetCause, UpdateCause}
use Rattle.fm_handle.specs.Place.{if_admitted, if_rooted, value_place, place_of, writable_place_of, update_place_of}

-- ---- the root

module _ (base : ℕ) (h : Resolution) (r : Region) (c : Caller) (at : ℕ) where
  -- Where a place is found, the root fits and is aligned.
  pub rooted : (p : ℕ) → if_rooted base h r (Ok at) ≡ Ok p → RootFits base h r × RootIsAligned base h r
  rooted p x = let f = placed_ok base h.root_size h.root_alignment r.first r.size (Ok at) p x in (f.0, f.1)

  root_causes : Causes (if_rooted base h r (Ok at)) r.arena c (RootCause base h r c)
  root_causes = placed_causes base h.root_size h.root_alignment r.first r.size (Ok at) r.arena c (place_causes at r.arena c)

-- ---- the indices

-- the indices are admitted, or the first that isn't is told
abbrev pub Tested : ℕ → List Dim → List ℕ → Result ℕ Refusal → Type 0
Tested k ds is found =
    (AreAdmitted ds is × (if_admitted k ds is found ≡ found))
    ⊎ ((j : ℕ) × IsFirstOut k ds is (IndexOut j) × (if_admitted k ds is found ≡ Err (IndexOut j)))

pub tested : (k : ℕ) (ds : List Dim) (is : List ℕ) (found : Result ℕ Refusal) → length is ≡ length ds → Tested k ds is found
tested k [] [] found e = inl (tt, refl)
tested k [] (i ∷ is) found e = absurd (omega arith)
tested k (d ∷ ds) [] found e = absurd (omega arith)
tested k (d ∷ ds) (i ∷ is) found e =
    let here : Bool → Result ℕ Refusal = λ b. if b then if_admitted (k + 1) ds is found else Err (IndexOut k) in
    elim (cases_lt i d.bound) [
      | inl lt ↦ (elim (tested (k + 1) ds is found (omega arith)) [
        | inl all ↦ inl ((lt, all.0), ap here (lt-ltb i d.bound lt) ∙ all.1)
        | inr some ↦ inr (some.0, inr (lt, some.1), ap here (lt-ltb i d.bound lt) ∙ some.2)
      ])
      | inr le ↦ inr (k, inl (le, refl), ap here (le-ltb i d.bound le))
    ]

index_lift : (ds : List Dim) (is : List ℕ) (Cause : Refusal → Type 0) → ((k : ℕ) → Cause (IndexOut k) → ⊥) → AreAdmitted ds is → (e : Refusal) → Cause e
    → IndexCause ds is Cause e
index_lift ds is Cause none a (IndexOut k) x = absurd (none k x)
index_lift ds is Cause none a e x = (a, x)

-- The causes behind the test of the indices.
index_causes : (ds : List Dim) (is : List ℕ) (found : Result ℕ Refusal) (id : ArenaId) (c : Caller) (Cause : Refusal → Type 0)
    → ((k : ℕ) → Cause (IndexOut k) → ⊥) → length is ≡ length ds
    → Causes found id c Cause → Causes (if_admitted 0 ds is found) id c (IndexCause ds is Cause)
index_causes ds is found id c Cause none len h = elim (tested 0 ds is found len) [
  | inl all ↦ tested_causes (AreAdmitted ds is) ⊥ _ found Closed id c Cause _ (inl (all.0, all.1)) h (λ n. absurd n) (index_lift ds is Cause none)
  | inr some ↦ tested_causes ⊥ (IsFirstOut 0 ds is (IndexOut some.0)) _ found _ id c Cause _ (inr (some.1, some.2)) h (λ x. x) (λ n. absurd n)
]

-- ---- of each kind of call

module _ (base : ℕ) (is : List ℕ) (h : Resolution) (r : Region) (c : Caller) (len : length is ≡ length h.dims) where
  pub get_causes : Causes (place_of base is h r) r.arena c (GetCause base is h r c)
  get_causes = index_causes h.dims is _ r.arena c _ (λ k none. none) len (root_causes base h r c (value_place base is h r))

  pub set_causes : Causes (writable_place_of base is h r) r.arena c (SetCause base is h r c)
  set_causes =
      index_causes h.dims is _ r.arena c _ (λ k none. none.1) len
      (write_causes r.read_only _ r.arena c _ (λ none. none) (root_causes base h r c (value_place base is h r)))

  pub update_causes : (works_on : ValueSpec → Bool) → Causes (update_place_of works_on base is h r) r.arena c (UpdateCause works_on base is h r c)
  update_causes works_on = support_causes (works_on h.value) _ r.arena c _ (λ none. none.1.1) set_causes
