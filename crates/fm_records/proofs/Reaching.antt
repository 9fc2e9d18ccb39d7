-- Values of a path reached index by index.
use Rattle.std.proofs.Common.{◌≡◌, ℕ, suc, ◌+◌, ◌-◌, ◌*◌, ◌<◌, ◌≤◌, Bool, true, false, cond, Ok, Err, List, [], ◌∷◌, ◌++◌, length, map, take, drop, slice_index_or, refl, sym, ap, ◌∙◌, subst, arith}
use Rattle.std.{specs.{Prelude.{ℤ, pos, negsuc, ◌≢◌}, List.{flat_map, range_with_len}}, proofs.lemmas.Bool.Decides.{nat_tests}}
use Rattle.std.proofs.lemmas.List.{append-nil, length-map, take_all}
use Rattle.fm_base.specs.{declared.refusal.Refusal.{Refusal}, View.{View}}
use Rattle.fm_lanes.specs.Kind.{width_of}
use Rattle.fm_path.specs.{Wide.{is_wide, wide_dims}, declared.value_spec.ValueSpec.{ValueSpec}}
use Rattle.fm_path_meaning.specs.{declared.dim.Dim.{Dim}, Steady.{IsInside, IsSteady}, Walk.{AreAdmitted, offset_at, reach}}
use Rattle.fm_segment.specs.Region.{Region}
use Rattle.fm_records.specs.{declared.found.Found.{Found}, Adds.{ReachesInside}, Few.{HasRoom}, Paths.{AddsAll, CanAddAll, HasIndices}, Reads.{CanRead, LiesIn, value_places}}
use Rattle.fm_records.{specs.{Values.{index_lists}, Words.{Seen}}, proofs.Adding.{AreAdded, added_more, added_room, added_stops, places_by_first}}
use Rattle.fm_records.proofs.Seeing.{sees_still}
use Rattle.fm_base_lists.proofs.Mapped.{flat_map-same}

-- indices behind a path's first open step
pub some_behind : (d : Dim) (ds : List Dim) → HasIndices (d ∷ ds) → HasIndices ds
some_behind d ds h = by h.0 h.1
  where
    by : (is : List ℕ) → AreAdmitted (d ∷ ds) is → HasIndices ds
    by [] a = absurd a
    by (i ∷ is) a = (is, a.1)

-- the next turn of a loop over that step: what it may do, and what it did
module _ {keeps : List Seen → Seen → List Seen} {old now : View} {s : Region} {place at : ℕ} {d : Dim} {ds : List Dim} {spec : ValueSpec} {k l : List Seen}
    {f g : Found} {i : ℕ} (can : CanAddAll old s place at d ds spec f) (a : AreAdded keeps old now s place at d ds spec k l f g i) (below : i < d.bound) where
  pub turn_inside : IsInside at d.stride i
  turn_inside = (can.inside.steady (i ∷ can.some.0) (below, can.some.1)).0

  -- reading can go on, and there is room
  pub turn_still : CanRead now s
  turn_still = sees_still can.can a.did

  module _ {next : ℕ} (comes : next ≡ reach at d.stride i) where
    -- at a value
    pub turn_lies : ds ≡ [] → LiesIn s (place + next) (width_of spec.kind)
    turn_lies none =
        let lies = subst (λ (es : List Dim). ReachesInside s place at (d ∷ es) spec) none can.inside in
        subst (λ (n : ℕ). LiesIn s (place + n) (width_of spec.kind)) (sym comes) (lies.lies (i ∷ []) (below, tt))

    pub turn_room : ds ≡ [] → HasRoom g 1
    turn_room none = subst (λ (es : List Dim). HasRoom g (length (index_lists es))) none (added_room a below can.room)

    -- at a row
    pub turn_can : {e : Dim} {es : List Dim} → ds ≡ e ∷ es → CanAddAll now s place next e es spec g
    turn_can {e} {es} some = record {
      can = turn_still;
      some = some_behind e es (subst HasIndices some can.some);
      inside = subst (λ (xs : List Dim). ReachesInside s place next xs spec) some (subst (λ (n : ℕ). ReachesInside s place n ds spec) (sym comes) (record {
        steady = λ is h. (can.inside.steady (i ∷ is) (below, h)).1;
        lies = λ is h. can.inside.lies (i ∷ is) (below, h);
      }));
      room = subst (λ (xs : List Dim). HasRoom g (length (index_lists xs))) some (added_room a below can.room);
    }

    module _ {es : List Dim} (is : ds ≡ es) where
      pub turn_added : {new : View} {m : List Seen} (h : Found) (u : Unit {0}) → AddsAll keeps now new s place next es spec l m g h (Ok u)
          → AreAdded keeps old new s place at d ds spec k m f h (i + 1)
      turn_added {new} {m} h u e =
          added_more a u (subst (λ (n : ℕ). AddsAll keeps now new s place n ds spec l m g h (Ok u)) comes
          (subst (λ (xs : List Dim). AddsAll keeps now new s place next xs spec l m g h (Ok u)) (sym is) e))

      pub turn_stops : {new : View} {m : List Seen} (h : Found) (r : Refusal) → AddsAll keeps now new s place next es spec l m g h (Err r)
          → AddsAll keeps old new s place at (d ∷ ds) spec k m f h (Err r)
      turn_stops {new} {m} h r e =
          added_stops a h r below (subst (λ (n : ℕ). AddsAll keeps now new s place n ds spec l m g h (Err r)) comes
          (subst (λ (xs : List Dim). AddsAll keeps now new s place next xs spec l m g h (Err r)) (sym is) e))

-- a bound of 0 leaves no list of indices
pub none_led : (iss : List (List ℕ)) (xs : List ℕ) → iss ≡ [] → flat_map (λ i. map (λ is. i ∷ is) iss) xs ≡ []
none_led iss [] e = refl
none_led iss (x ∷ xs) e = ap (λ ys. ys ++ flat_map (λ i. map (λ is. i ∷ is) iss) xs) (ap (map (λ is. x ∷ is)) e) ∙ none_led iss xs e

pub none_behind : (ds : List Dim) → 1 ≤ length ds → index_lists (take (length ds - 1) (drop 1 ds)) ≡ [] → index_lists ds ≡ []
none_behind [] some e = absurd (omega arith)
none_behind (d ∷ ds) some e =
    none_led (index_lists ds) (range_with_len 0 d.bound) (ap index_lists (sym (take_all (length (d ∷ ds) - 1) ds (omega arith))) ∙ e)

pub some_before : (ds : List Dim) (z : Dim) → 1 ≤ length ds → (slice_index_or ds 0 z).bound ≢ 0 → HasIndices (take (length ds - 1) (drop 1 ds))
    → HasIndices ds
some_before [] z some first h = absurd (omega arith)
some_before (d ∷ ds) z some first h =
    (0 ∷ h.0, (omega (arith, first), subst (λ (xs : List Dim). AreAdmitted xs h.0) (take_all (length (d ∷ ds) - 1) ds (omega arith)) h.1))

-- ---- dims of one index lead nowhere

one_index : (d : Dim) → is_wide d ≡ false → d.bound ≡ 1
one_index d h = grind (arith, nat_tests)

reach-none : (at : ℕ) (stride : ℤ) → reach at stride 0 ≡ at
reach-none at (pos s) = let none : s * 0 ≡ 0 = omega arith in omega (arith, none)
reach-none at (negsuc s) = let none : suc s * 0 ≡ 0 = omega arith in omega (arith, none)

-- the places without them are the same
pub wide_places : (place at : ℕ) (ds : List Dim) → value_places place at (wide_dims ds) ≡ value_places place at ds
wide_places place at [] = refl
wide_places place at (d ∷ ds) = go (λ n. wide_places place n ds) (is_wide d) refl
  where
    go : ((n : ℕ) → value_places place n (wide_dims ds) ≡ value_places place n ds) → (b : Bool) → is_wide d ≡ b
        → value_places place at (cond b (d ∷ wide_dims ds) (wide_dims ds)) ≡ value_places place at (d ∷ ds)
    go rest true e =
        places_by_first place at d (wide_dims ds)
        ∙ flat_map-same (λ i. value_places place (reach at d.stride i) (wide_dims ds)) (λ i. value_places place (reach at d.stride i) ds) (λ i.
        rest (reach at d.stride i)) (range_with_len 0 d.bound)
        ∙ sym (places_by_first place at d ds)
    go rest false e =
        rest at ∙ ap (λ n. value_places place n ds) (sym (reach-none at d.stride)) ∙ sym (append-nil (value_places place (reach at d.stride 0) ds))
        ∙ ap (λ n. flat_map (λ i. value_places place (reach at d.stride i) ds) (range_with_len 0 n)) (sym (one_index d e)) ∙ sym (places_by_first place at d ds)

pub wide_many : (ds : List Dim) → length (index_lists (wide_dims ds)) ≡ length (index_lists ds)
wide_many ds =
    sym (length-map (index_lists (wide_dims ds)) (λ is. 0 + offset_at 0 (wide_dims ds) is)) ∙ ap length (wide_places 0 0 ds)
    ∙ length-map (index_lists ds) (λ is. 0 + offset_at 0 ds is)

-- indices without them are some with them, and lead to the same place
record Widened (at : ℕ) (ds ws : List Dim) (is : List ℕ) : Type 0 where
  js : List ℕ
  admitted : AreAdmitted ds js
  steady : IsSteady at ds js → IsSteady at ws is
  same : offset_at at ds js ≡ offset_at at ws is

widened : (at : ℕ) (ds : List Dim) (is : List ℕ) → AreAdmitted (wide_dims ds) is → Widened at ds (wide_dims ds) is
widened at [] is a = record { js = is; admitted = a; steady = λ h. h; same = refl }
widened at (d ∷ ds) is a = go (λ n js b. widened n ds js b) (is_wide d) refl is a
  where
    go : ((n : ℕ) (is : List ℕ) → AreAdmitted (wide_dims ds) is → Widened n ds (wide_dims ds) is) → (b : Bool) → is_wide d ≡ b → (is : List ℕ)
        → AreAdmitted (cond b (d ∷ wide_dims ds) (wide_dims ds)) is → Widened at (d ∷ ds) (cond b (d ∷ wide_dims ds) (wide_dims ds)) is
    go rest true e [] a = absurd a
    go rest true e (i ∷ is) a =
        let h = rest (reach at d.stride i) is a.1 in
        record { js = i ∷ h.js; admitted = (a.0, h.admitted); steady = λ s. (s.0, h.steady s.1); same = h.same }
    go rest false e is a =
        let h = rest at is a in
        let back = reach-none at d.stride in
        record {
          js = 0 ∷ h.js;
          admitted = (omega (arith, one_index d e), h.admitted);
          steady = λ s. h.steady (subst (λ (n : ℕ). IsSteady n ds h.js) back s.1);
          same = ap (λ n. offset_at n ds h.js) back ∙ h.same;
        }

pub wide_inside : (s : Region) (place at : ℕ) (ds : List Dim) (spec : ValueSpec) → ReachesInside s place at ds spec
    → ReachesInside s place at (wide_dims ds) spec
wide_inside s place at ds spec h = record {
  steady = λ is a. let w = widened at ds is a in w.steady (h.steady w.js w.admitted);
  lies = λ is a. let w = widened at ds is a in subst (λ (n : ℕ). LiesIn s (place + n) (width_of spec.kind)) w.same (h.lies w.js w.admitted);
}
