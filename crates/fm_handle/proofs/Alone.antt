-- Where a handle's value stands.
use Rattle.std.proofs.Common.{◌≡◌, ℕ, inl, inr, Bool, true, false, if◌then◌else◌, List, length, Result, Ok, Err, refl, sym, ◌∙◌}
use Rattle.fm_base.specs.declared.refusal.Refusal.{Refusal, TheVariants.{IndexOut, ReadOnly, Unsupported}}
use Rattle.fm_path.specs.{declared.value_spec.ValueSpec.{ValueSpec}, Resolution.{Resolution}}
use Rattle.fm_segment_access.proofs.Causes.{never}
use Rattle.fm_segment.specs.Region.{Region}
use Rattle.fm_handle.{specs.Place.{if_rooted, if_supported, if_writable, place_of, writable_place_of, update_place_of, value_place}, proofs.Causes.{tested}}
use Rattle.fm_handle.proofs.Places.{admitted, rooted_is}

-- ---- where the value stands

abbrev pub IsPlace : Result ℕ Refusal → ℕ → Type 0
IsPlace found place = (p : ℕ) → found ≡ Ok p → p ≡ place

-- Where a place for a write is found, it is found.
when_writable : (b : Bool) (found : Result ℕ Refusal) (p : ℕ) → (if b then Err ReadOnly else found) ≡ Ok p → found ≡ Ok p
when_writable true found p h = never p ReadOnly (sym h)
when_writable false found p h = h

-- Where a call finds a place, it is supported, and the place for a write is found.
pub supported : (b : Bool) (found : Result ℕ Refusal) (p : ℕ) → if_supported b found ≡ Ok p → (b ≡ true) × (found ≡ Ok p)
supported true found p h = (refl, h)
supported false found p h = never p Unsupported (sym h)

module _ (base : ℕ) (is : List ℕ) (h : Resolution) (r : Region) (len : length is ≡ length h.dims) where
  -- A place that is found is the value's.
  pub place_is : IsPlace (place_of base is h r) (value_place base is h r)
  place_is p e = elim (tested 0 h.dims is (if_rooted base h r (Ok (value_place base is h r))) len) [
    | inl all ↦ sym (rooted_is base is h r p (sym all.1 ∙ e))
    | inr some ↦ never p (IndexOut some.0) (sym e ∙ some.2)
  ]

  -- A place that is found for a write is found.
  pub written : (p : ℕ) → writable_place_of base is h r ≡ Ok p → place_of base is h r ≡ Ok p
  written p e =
      let inner = if_rooted base h r (Ok (value_place base is h r)) in
      elim (tested 0 h.dims is (if_writable r inner) len) [
        | inl all ↦ admitted 0 h.dims is inner all.0 ∙ when_writable r.read_only inner p (sym all.1 ∙ e)
        | inr some ↦ never p (IndexOut some.0) (sym e ∙ some.2)
      ]

  pub writable_place_is : IsPlace (writable_place_of base is h r) (value_place base is h r)
  writable_place_is p e = place_is p (written p e)

  pub update_place_is : (works_on : ValueSpec → Bool) → IsPlace (update_place_of works_on base is h r) (value_place base is h r)
  update_place_is works_on p e = writable_place_is p (supported (works_on h.value) (writable_place_of base is h r) p e).1
