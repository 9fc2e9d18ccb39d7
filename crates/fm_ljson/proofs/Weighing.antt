-- What would be built is weighed in its place.
use Rattle.std.proofs.Common.{◌≡◌, inl, inr, ℕ, ◌+◌, ◌-◌, ◌<◌, ◌≤◌, List, [], ◌∷◌, ◌++◌, map, length, drop, get_or, Option, Some, None, Result, Ok, Err, refl, sym, ap, subst, ◌∙◌}
use Rattle.std.proofs.lemmas.List.{drop_all}
use Rattle.serde_json.specs.{Data.{Data}, View.{view}}
use Rattle.fm_base.specs.declared.refusal.Refusal.{Refusal}
use Rattle.fm_layout.specs.Tree.{Tree, Trees, More, Value, Padding, Sequence, Struct, Union, Label, alignment_of, relabelled}
use Rattle.fm_layout.specs.{Size.{size_of, least_of}, Views.{trees}}
use Rattle.fm_ljson.specs.Built.{aligned, all_of, built, content_built, finished, named, renamed, then}
use Rattle.fm_ljson.specs.Footprints.{AreFootprints, AreFootprintsOf, IsFootprint, IsFootprintOf, IsRefusedSo, IsWeighed}
use Rattle.fm_ljson.specs.Node.{Node, node_of}
use Rattle.fm_ljson.specs.declared.footprint.Footprint.{Footprint}
use Rattle.fm_ljson.proofs.Building.{IsBuilding, followed, building_end, building_item, building_more, built_node}
use Rattle.serde_json.specs.declared.value.Value as json

-- ---- names take no room

relabelled-size : (l : Label) (t : Tree) → size_of t ≡ size_of (relabelled l t)
relabelled-size l (Value k o m) = refl
relabelled-size l (Padding n m) = refl
relabelled-size l (Sequence n e m) = refl
relabelled-size l (Struct ms m) = refl
relabelled-size l (Union ms m) = refl

relabelled-least : (l : Label) (t : Tree) → least_of t ≡ least_of (relabelled l t)
relabelled-least l (Value k o m) = refl
relabelled-least l (Padding n m) = refl
relabelled-least l (Sequence n e m) = refl
relabelled-least l (Struct ms m) = refl
relabelled-least l (Union ms m) = refl

relabelled-alignment : (l : Label) (t : Tree) → l.alignment ≡ alignment_of (relabelled l t)
relabelled-alignment l (Value k o m) = refl
relabelled-alignment l (Padding n m) = refl
relabelled-alignment l (Sequence n e m) = refl
relabelled-alignment l (Struct ms m) = refl
relabelled-alignment l (Union ms m) = refl

-- A layout has the same footprint under any name.
pub footprint_named : (name : Option (List ℕ)) (f : Footprint) (t : Tree) → IsFootprint f t → IsFootprint f (named name t)
footprint_named None f t h = h
footprint_named (Some name) f t h =
    let label : Label = record { alignment = alignment_of t; name = Some name } in
    record {
      size = h.size ∙ relabelled-size label t;
      alignment = h.alignment ∙ relabelled-alignment label t;
      least = h.least ∙ relabelled-least label t;
    }

weighed_named : (name : Option (List ℕ)) (r : Result Footprint Refusal) (s : Result Tree Refusal) → IsWeighed r s → IsWeighed r (renamed name s)
weighed_named name (Ok f) (Ok t) h = footprint_named name f t h
weighed_named name (Ok f) (Err e) h = h
weighed_named name (Err e) s (inl h) = inl h
weighed_named name (Err e) s (inr h) = inr (ap (renamed name) h)

-- ---- one after the other

-- What is refused stays refused.
pub refused_then : {A B : Type 0} (g : A → Result B Refusal) (e : Refusal) (s : Result A Refusal) → IsRefusedSo e s → IsRefusedSo e (then g s)
refused_then g e s (inl h) = inl h
refused_then g e s (inr h) = inr (ap (then g) h)

-- What is made of a layout is weighed by its footprint.
pub weighed_then : (g : Tree → Result Tree Refusal) (r : Result Footprint Refusal) (f : Footprint) (s : Result Tree Refusal) → IsFootprintOf f s
    → ((t : Tree) → IsFootprint f t → IsWeighed r (g t)) → IsWeighed r (then g s)
weighed_then g r f (Ok t) is h = h t is
weighed_then g r f (Err e) is h = absurd is

pub weighed_as : (r : Result Footprint Refusal) (s u : Result Tree Refusal) → s ≡ u → IsWeighed r s → IsWeighed r u
weighed_as r s u is h = subst (IsWeighed r) is h

-- ---- at a node

-- the content of a node with so many levels from it down
abbrev pub content_of : (List ℕ → Option Tree) → ℕ → Node → Result Tree Refusal
content_of trees levels x = content_built (built trees (levels - 1)) x.content

pub weighed_node : (trees : List ℕ → Option Tree) (levels : ℕ) (d : Data) (x : Node) (r : Result Footprint Refusal) (f : Footprint) → 0 < levels
    → Some x ≡ node_of d → IsFootprintOf f (content_of trees levels x) → ((t : Tree) → IsFootprint f t → IsWeighed r (aligned x.align t))
    → IsWeighed r (built trees levels d)
weighed_node trees levels d x r f deep is made h =
    weighed_as r _ _ (sym (built_node trees levels d x deep is))
    (weighed_then (finished x.align x.name) r f (content_of trees levels x) made (λ t k. weighed_named x.name r (aligned x.align t) (h t k)))

pub refused_node : (trees : List ℕ → Option Tree) (levels : ℕ) (d : Data) (x : Node) (e : Refusal) → 0 < levels → Some x ≡ node_of d
    → IsRefusedSo e (content_of trees levels x) → IsRefusedSo e (built trees levels d)
refused_node trees levels d x e deep is h =
    subst (IsRefusedSo e) (sym (built_node trees levels d x deep is)) (refused_then (finished x.align x.name) e (content_of trees levels x) h)

-- ---- at values

AreFootprints-more : (fs : List Footprint) (ts : List Tree) (f : Footprint) (t : Tree) → AreFootprints fs (trees ts) → IsFootprint f t
    → AreFootprints (fs ++ f ∷ []) (trees (ts ++ t ∷ []))
AreFootprints-more [] [] f t h is = (is, tt)
AreFootprints-more [] (u ∷ ts) f t h is = absurd h
AreFootprints-more (g ∷ fs) [] f t h is = absurd h
AreFootprints-more (g ∷ fs) (u ∷ ts) f t h is = (h.0, AreFootprints-more fs ts f t h.1 is)

-- of what all would give, these are weighed, and the rest is left
pub record IsWeighing (fs : List Footprint) (all rest : Result Trees Refusal) : Type 0 where
  pub done : List Tree
  pub building : IsBuilding done all rest
  pub weighed : AreFootprints fs (trees done)

module _ (build : Data → Result Tree Refusal) (all : Result Trees Refusal) (vs : List json.Value) (i : ℕ) where
  one_pushed : (fs pushed : List Footprint) (f : Footprint) (v : json.Value) (r : Result Tree Refusal)
      → IsWeighing fs all (all_of (r ∷ map build (map view (drop (i + 1) vs)))) → IsFootprintOf f r → pushed ≡ fs ++ f ∷ []
      → IsWeighing pushed all (all_of (map build (map view (drop (i + 1) vs))))
  one_pushed fs pushed f v (Err e) h is longer = absurd is
  one_pushed fs pushed f v (Ok t) h is longer = record {
    done = h.done ++ t ∷ [];
    building = building_more h.done t all (Ok t) (map build (map view (drop (i + 1) vs))) h.building refl;
    weighed = subst (λ (gs : List Footprint). AreFootprints gs (trees (h.done ++ t ∷ []))) (sym longer) (AreFootprints-more fs h.done f t h.weighed is);
  }

  weighing_item : (fs : List Footprint) (v : json.Value) → i < length vs → v ≡ get_or vs i v
      → IsWeighing fs all (all_of (map build (map view (drop i vs))))
      → IsWeighing fs all (all_of (build (view v) ∷ map build (map view (drop (i + 1) vs))))
  weighing_item fs v here is h = record {
    done = h.done;
    building = building_item build h.done all vs i v here is h.building;
    weighed = h.weighed;
  }

  -- One more is weighed.
  pub weighing_pushed : (fs pushed : List Footprint) (f : Footprint) (v : json.Value) → i < length vs → v ≡ get_or vs i v
      → IsWeighing fs all (all_of (map build (map view (drop i vs)))) → IsFootprintOf f (build (view v)) → pushed ≡ fs ++ f ∷ []
      → IsWeighing pushed all (all_of (map build (map view (drop (i + 1) vs))))
  weighing_pushed fs pushed f v here is h made longer = one_pushed fs pushed f v (build (view v)) (weighing_item fs v here is h) made longer

  refused_first : (done : List Tree) (e : Refusal) (r : Result Tree Refusal) → IsBuilding done all (all_of (r ∷ map build (map view (drop (i + 1) vs))))
      → IsRefusedSo e r → IsRefusedSo e all
  refused_first done e r h (inl m) = inl m
  refused_first done e r h (inr is) =
      inr (h ∙ ap (λ x. then (λ ts. Ok (followed done ts)) (then (λ u. then (λ ts. Ok (More u ts)) (all_of (map build (map view (drop (i + 1) vs))))) x)) is)

  -- The first refusal is that of all.
  pub building_refused : (done : List Tree) (e : Refusal) (v : json.Value) → i < length vs → v ≡ get_or vs i v
      → IsBuilding done all (all_of (map build (map view (drop i vs)))) → IsRefusedSo e (build (view v)) → IsRefusedSo e all
  building_refused done e v here is h refused = refused_first done e (build (view v)) (building_item build done all vs i v here is h) refused

  -- All are weighed.
  pub weighing_done : (fs : List Footprint) → length vs ≤ i → IsWeighing fs all (all_of (map build (map view (drop i vs)))) → AreFootprintsOf fs all
  weighing_done fs past h =
      subst (AreFootprintsOf fs)
      (building_end h.done all (subst (λ (ws : List json.Value). IsBuilding h.done all (all_of (map build (map view ws)))) (drop_all i vs past) h.building))
      h.weighed
