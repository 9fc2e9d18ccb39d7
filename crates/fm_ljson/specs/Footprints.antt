-- What constructors ask of layouts, known without the layouts.
use Rattle.std.specs.Prelude.{◌≡◌, ◌⊎◌, Result, Ok, Err, List, [], ◌∷◌}
use Rattle.fm_base.specs.declared.refusal.Refusal.{Refusal, TheVariants.{Memory}}
use Rattle.fm_layout.specs.{Tree.{Tree, Trees, NoMore, More, alignment_of}, Size.{size_of, least_of}}
use Rattle.fm_ljson.specs.declared.footprint.Footprint.{Footprint}

-- the size, the alignment and the least alignment are those of this layout
pub record IsFootprint (f : Footprint) (t : Tree) : Type 0 where
  pub size : f.size ≡ size_of t
  pub alignment : f.alignment ≡ alignment_of t
  pub least : f.least ≡ least_of t

-- each is that of the layout at its place
abbrev pub AreFootprints : List Footprint → Trees → Type 0
AreFootprints [] NoMore = Unit {0}
AreFootprints (f ∷ fs) (More t ts) = IsFootprint f t × AreFootprints fs ts
AreFootprints [] (More t ts) = ⊥
AreFootprints (f ∷ fs) NoMore = ⊥

abbrev pub IsFootprintOf : Footprint → Result Tree Refusal → Type 0
IsFootprintOf f (Ok t) = IsFootprint f t
IsFootprintOf f (Err r) = ⊥

abbrev pub AreFootprintsOf : List Footprint → Result Trees Refusal → Type 0
AreFootprintsOf fs (Ok ts) = AreFootprints fs ts
AreFootprintsOf fs (Err r) = ⊥

-- the refusal of what would be built, but for want of memory, which is free
abbrev pub IsRefusedSo : {A : Type 0} → Refusal → Result A Refusal → Type 0
IsRefusedSo r s = (r ≡ Memory) ⊎ (s ≡ Err r)

-- the footprint of what would be built, or its refusal
abbrev pub IsWeighed : Result Footprint Refusal → Result Tree Refusal → Type 0
IsWeighed (Ok f) s = IsFootprintOf f s
IsWeighed (Err r) s = IsRefusedSo r s
