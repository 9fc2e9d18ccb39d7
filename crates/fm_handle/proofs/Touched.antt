-- A handle comes to the bytes of its path's place.
use Rattle.std.proofs.Common.{◌≡◌, ℕ, ◌+◌, ◌%◌, ◌≤◌, inl, inr, List, length, Ok, sym, subst, ◌∙◌}
use Rattle.fm_base.specs.{Arenas.{only_caller}, declared.refusal.Refusal.TheVariants.{IndexOut}}
use Rattle.fm_layout.specs.Tree.{Tree}
use Rattle.fm_path.specs.Resolution.{Resolution, IsResolved}
use Rattle.fm_path_meaning.specs.Walk.{offset_at}
use Rattle.fm_segment.specs.Region.{Region}
use Rattle.fm_path_text.specs.declared.step.PathStep.{PathStep}
use Rattle.fm_handle.specs.{Place.{if_rooted, place_of, writable_place_of, value_place}, Touched.{StandsAtPath, ComesTo, reads, writes, updates}}
use Rattle.fm_handle.proofs.{Causes.{tested, rooted}, Alone.{supported, written}, Places.{rooted_is}}
use Rattle.fm_segment_access.proofs.Causes.{never}

-- Whichever call comes to a place, a read does.
read_too : (base : ℕ) (is : List ℕ) (h : Resolution) (r : Region) (place : ℕ) → length is ≡ length h.dims → ComesTo base is h r place
    → place_of base is h r ≡ Ok place
read_too base is h r place len (reads e) = e
read_too base is h r place len (writes e) = written base is h r len place e
read_too base is h r place len (updates works_on e) =
    written base is h r len place (supported (works_on h.value) (writable_place_of base is h r) place e).1

-- The place that any call finds is the path's.
pub stands_at_path : (path : List PathStep) (t : Tree) (h : Resolution) → IsResolved path t h → (base : ℕ) (is : List ℕ) (r : Region) (place : ℕ)
    → length is ≡ length h.dims → ComesTo base is h r place → StandsAtPath path t is base h r place
stands_at_path path t h resolved base is r place len c =
    let e = read_too base is h r place len c in
    elim (tested 0 h.dims is (if_rooted base h r (Ok (value_place base is h r))) len) [
      | inl all ↦
          let here = sym all.1 ∙ e in
          let f = rooted base h r only_caller (value_place base is h r) place here in
          record {
            at = offset_at h.offset h.dims is;
            last = resolved.last;
            finds = resolved.finds is all.0;
            value = resolved.value;
            stands = sym (rooted_is base is h r place here);
            fits = subst (λ (n : ℕ). base + n ≤ r.size) resolved.root_size f.0;
            aligned = subst (λ (n : ℕ). (r.first + base) % n ≡ 0) resolved.root_alignment f.1;
          }
      | inr some ↦ never place (IndexOut some.0) (sym e ∙ some.2)
    ]
