-- What the pass over a path comes to is what a resolved path is.
use Rattle.std.{proofs.Common.{◌≡◌, ap, ◌∙◌, ℕ, ◌%◌, ◌^◌, ◌≤◌, List, arith}, specs.Int.{IsPowerOfTwo}}
use Rattle.fm_lanes.specs.Kind.{width_of}
use Rattle.fm_base_bytes.proofs.Powers.{is_power_of_two-IsPowerOfTwo}
use Rattle.fm_layout.specs.{Tree.{Tree, Value, alignment_of}, Size.{size_of}, WellFormed.{IsWellFormed}}
use Rattle.fm_layout.proofs.Sound.{fit_of}
use Rattle.fm_path_text.specs.declared.step.PathStep.{PathStep}
use Rattle.fm_path_meaning.{specs.{declared.dim.Dim.{Dim}, Found.{LeadsTo}}, proofs.Dims.{leads_dims}}
use Rattle.fm_path_meaning.{proofs.Walking.{leads_finds, leads_steady, leads_inside, leads_aligned, leads_end}, specs.Walk.{offset_at}}
use Rattle.fm_path.specs.{declared.value_spec.ValueSpec.{ValueSpec}, Resolution.{resolution, StaysInside, StandsAligned, IsSpecOf, IsResolved}}

-- a value layout is as large as its kind is wide, and this is its alignment
spec_is : (u : Tree) (v : ValueSpec) → IsSpecOf u v → (width_of v.kind ≡ size_of u) × (v.alignment ≡ alignment_of u)
spec_is (Value k o l) v s = (ap width_of s.0, s.2)
spec_is u v s = absurd s

-- a layout's size is within the limit
pub size_small : (t : Tree) → IsWellFormed t → size_of t ≤ 2 ^ 40
size_small t well = (fit_of t well).size

-- a value that stands aligned, whose layout's alignment is a power of two
stands_aligned : (at n m a b : ℕ) → n ≡ a → m ≡ b → IsPowerOfTwo a × (at % a ≡ 0) × (b % a ≡ 0) → StandsAligned at n m
stands_aligned at n m a b e d h = rw (e, d) (record { power = is_power_of_two-IsPowerOfTwo a h.0; offset = h.1; root = h.2 })

module _ (path : List PathStep) (t : Tree) (offset : ℕ) (dims : List Dim) (u : Tree) (v : ValueSpec) (n a : ℕ) (well : IsWellFormed t)
    (l : LeadsTo path t offset dims u) (s : IsSpecOf u v) (e : n ≡ size_of t) (d : a ≡ alignment_of t) where
  -- what the pass comes to stays inside the root
  pub stays_inside : StaysInside (resolution offset dims v n a)
  stays_inside = record {
    aligned = λ is h. stands_aligned (offset_at offset dims is) v.alignment a (alignment_of u) (alignment_of t) (spec_is u v s).1 d
        (leads_aligned path t offset dims u well l is h);
    steady = λ is h. leads_steady path t offset dims u well l is h;
    inside = λ is h. omega (arith, leads_inside path t offset dims u well l is h, (spec_is u v s).0, e);
    small = omega (arith, e, size_small t well);
    power = (let p = (fit_of t well).power in (p.0, d ∙ p.1));
  }

  -- what the pass comes to is the resolved path
  pub is_resolved : IsResolved path t (resolution offset dims v n a)
  is_resolved = record {
    last = u;
    ends = leads_end path t offset dims u l;
    value = s;
    dims = leads_dims path t offset dims u l;
    leads = l;
    finds = λ is h. leads_finds path t offset dims u well l is h;
    root_size = e;
    root_alignment = d;
  }
