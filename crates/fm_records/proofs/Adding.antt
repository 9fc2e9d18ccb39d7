-- Numbers that are read and added, index by index of a path's first open step.
use Rattle.std.proofs.Common.{◌≡◌, ℕ, ◌+◌, ◌-◌, ◌<◌, ◌≤◌, Result, Ok, Err, List, [], ◌∷◌, ◌++◌, length, map, refl, sym, ap, ◌∙◌, subst, arith}
use Rattle.std.{specs.{Prelude.{ℤ, OnOk, OnErr, IfErr}, List.{flat_map, range_with_len}}, proofs.lemmas.List.{append-nil, length-map, length-append}}
use Rattle.std.proofs.lemmas.Grind.{flat_map-append}
use Rattle.fm_base_lists.proofs.Mapped.{map-map, map-flat_map, flat_map-same}
use Rattle.fm_base.specs.{declared.refusal.Refusal.{Refusal, TheVariants.{Closed, Memory}}, View.{View}}
use Rattle.fm_segment.specs.Region.{Region}
use Rattle.fm_path_meaning.specs.{Walk.{offset_at, reach}, declared.dim.Dim.{Dim}}
use Rattle.fm_path.specs.declared.value_spec.ValueSpec.{ValueSpec}
use Rattle.fm_records.specs.{declared.found.Found.{Found}, Values.{index_lists}, Few.{HasRoom}, Adds.{AddsNumbers, with_number}, Paths.{AddsAll}}
use Rattle.fm_base_lists.proofs.Ranges.{range_append}
use Rattle.fm_records.specs.{Reads.{GetsNumber, Sees, TakesNumber, value_places}, Words.{Seen}}
use Rattle.fm_records.proofs.{Few.{adds_room, room_less}, Seeing.{sees_err, sees_ok, sees_want}, Turns.{turn_cut, turn_none, turn_on, turn_one}}

-- ---- one value

module _ (spec : ValueSpec) (place : ℕ) (keeps : List Seen → Seen → List Seen) (k l : List Seen) where
  abbrev Gets : Result ℤ Refusal → List Seen → Type 0
  Gets r own = GetsNumber keeps k spec place r own l

module _ {old new : View} (s : Region) (spec : ValueSpec) (place : ℕ) (keeps : List Seen → Seen → List Seen) (k l : List Seen) where
  -- its number is read, and then added or refused
  pub value_added : (n z : ℤ) (f g : Found) (result : Result (Unit {0}) Refusal) → z ≡ n → OnOk result (g ≡ with_number f z) → OnErr result (g ≡ f)
      → IfErr result (λ e. e ≡ Memory) → Sees old new s (Gets spec place keeps k l) (Ok n) → Sees old new s (AddsNumbers keeps spec k (place ∷ []) f g l) result
  value_added n z f g (Ok u) same ok kept err d =
      sees_ok (Gets spec place keeps k l) (AddsNumbers keeps spec k (place ∷ []) f g l) n u d (λ h.
      turn_one (TakesNumber keeps spec) with_number place f g (Ok u) d.does.seen (n ∷ []) (n, h, refl) (ok ∙ ap (with_number f) same))
  value_added n z f g (Err r) same ok kept err d =
      subst (λ (e : Refusal). Sees old new s (AddsNumbers keeps spec k (place ∷ []) f g l) (Err e)) (sym err)
      (sees_want (Gets spec place keeps k l) (AddsNumbers keeps spec k (place ∷ []) f g l) n d (λ h.
      turn_one (TakesNumber keeps spec) with_number place f g (Err Memory) d.does.seen [] (n, h, refl) kept))

  -- it isn't read
  pub value_stops : (f : Found) (r : Refusal) → Sees old new s (Gets spec place keeps k l) (Err r) → Sees old new s (AddsNumbers keeps spec k (place ∷ []) f f l) (Err r)
  value_stops f r d =
      sees_err (Gets spec place keeps k l) (AddsNumbers keeps spec k (place ∷ []) f f l) r d (λ h.
      turn_one (TakesNumber keeps spec) with_number place f f (Err r) d.does.seen [] (by r h) refl)
    where
      by : (e : Refusal) → GetsNumber keeps k spec place (Err e) d.does.seen l → TakesNumber keeps spec k place (Err e) d.does.seen [] l
      by Closed h = (h, refl)
      by e h = absurd h

-- ---- index by index of the first open step

-- the places of a path, index by index of its first open step
pub places_by_first : (place at : ℕ) (d : Dim) (ds : List Dim)
    → value_places place at (d ∷ ds) ≡ flat_map (λ i. value_places place (reach at d.stride i) ds) (range_with_len 0 d.bound)
places_by_first place at d ds =
    map-flat_map (λ is. place + offset_at at (d ∷ ds) is) (λ i. map (λ is. i ∷ is) (index_lists ds)) (range_with_len 0 d.bound)
    ∙ flat_map-same (λ i. map (λ is. place + offset_at at (d ∷ ds) is) (map (λ is. i ∷ is) (index_lists ds))) (λ i. value_places place (reach at d.stride i) ds)
    (λ i. map-map (λ is. place + offset_at at (d ∷ ds) is) (λ is. i ∷ is) (index_lists ds)) (range_with_len 0 d.bound)

module _ (place at : ℕ) (d : Dim) (ds : List Dim) where
  -- the places at one first index
  abbrev pub row : ℕ → List ℕ
  row i = value_places place (reach at d.stride i) ds

  -- those at so many first indices from one on
  abbrev pub rows : ℕ → ℕ → List ℕ
  rows i n = flat_map (λ j. row j) (range_with_len i n)

  rows_split : (i m n : ℕ) → rows i (m + n) ≡ rows i m ++ rows (i + m) n
  rows_split i m n = ap (flat_map (λ j. row j)) (range_append i m n) ∙ flat_map-append (λ j. row j) (range_with_len i m) (range_with_len (i + m) n)

  rows_more : (i : ℕ) → rows 0 i ++ row i ≡ rows 0 (i + 1)
  rows_more i =
      let here : 0 + i ≡ i = omega arith in
      sym (rows_split 0 i 1 ∙ ap (λ j. rows 0 i ++ rows j 1) here ∙ ap (λ ps. rows 0 i ++ ps) (append-nil (row i)))

  rows_all : (i : ℕ) → i ≤ d.bound → rows 0 i ++ rows i (d.bound - i) ≡ value_places place at (d ∷ ds)
  rows_all i within =
      let here : 0 + i ≡ i = omega arith in
      let sum : d.bound ≡ i + (d.bound - i) = omega (arith, within) in
      sym (places_by_first place at d ds ∙ ap (rows 0) sum ∙ rows_split 0 i (d.bound - i) ∙ ap (λ j. rows 0 i ++ rows j (d.bound - i)) here)

-- what was found when the values at the first indices below i were added, and what is kept then
pub record AreAdded (keeps : List Seen → Seen → List Seen) (old now : View) (s : Region) (place at : ℕ) (d : Dim) (ds : List Dim) (spec : ValueSpec) (k l : List Seen) (f g : Found) (i : ℕ) : Type 0 where
  pub did : Sees old now s (AddsNumbers keeps spec k (rows place at d ds 0 i) f g l) (Ok (tt {0}))

-- no value yet
pub added_start : {keeps : List Seen → Seen → List Seen} {s : Region} {place at : ℕ} {d : Dim} {ds : List Dim} {spec : ValueSpec} {k : List Seen} {f : Found} (v : View)
    → AreAdded keeps v v s place at d ds spec k k f f 0
added_start {keeps} {spec = spec} {k} {f} v = record { did = turn_none (TakesNumber keeps spec) with_number v f k }

module _ {keeps : List Seen → Seen → List Seen} {old now : View} {s : Region} {place at : ℕ} {d : Dim} {ds : List Dim} {spec : ValueSpec} {k l : List Seen} {f g : Found} {i : ℕ}
    (a : AreAdded keeps old now s place at d ds spec k l f g i) where
  -- the values at the next first index were read
  pub added_more : {next : View} {m : List Seen} {h : Found} (u : Unit {0}) → AddsAll keeps now next s place (reach at d.stride i) ds spec l m g h (Ok u)
      → AreAdded keeps old next s place at d ds spec k m f h (i + 1)
  added_more {next} {m} {h} u did = record {
    did = subst (λ (ps : List ℕ). Sees old next s (AddsNumbers keeps spec k ps f h m) (Ok u)) (rows_more place at d ds i)
        (turn_on (TakesNumber keeps spec) with_number (rows place at d ds 0 i) (row place at d ds i) f g h (Ok u) a.did did);
  }

  -- or up to a refusal
  pub added_stops : {next : View} {m : List Seen} (h : Found) (r : Refusal) → i < d.bound
      → AddsAll keeps now next s place (reach at d.stride i) ds spec l m g h (Err r) → AddsAll keeps old next s place at (d ∷ ds) spec k m f h (Err r)
  added_stops {next} {m} h r below did =
      let T = TakesNumber keeps spec in
      let here = subst (λ (ps : List ℕ). Sees old next s (AddsNumbers keeps spec k ps f h m) (Err r)) (rows_more place at d ds i)
      (turn_on (TakesNumber keeps spec) with_number (rows place at d ds 0 i) (row place at d ds i) f g h (Err r) a.did did) in
      subst (λ (ps : List ℕ). Sees old next s (AddsNumbers keeps spec k ps f h m) (Err r)) (rows_all place at d ds (i + 1) (omega (arith, below)))
      (turn_cut T with_number (rows place at d ds 0 (i + 1)) (rows place at d ds (i + 1) (d.bound - (i + 1))) f h r here)

  -- all were
  pub added_all : i ≡ d.bound → AddsAll keeps old now s place at (d ∷ ds) spec k l f g (Ok (tt {0}))
  added_all is =
      subst (λ (ps : List ℕ). Sees old now s (AddsNumbers keeps spec k ps f g l) (Ok (tt {0})))
      (ap (rows place at d ds 0) is ∙ sym (places_by_first place at d ds)) a.did

  -- there is room for the values at the next one
  pub added_room : i < d.bound → HasRoom f (length (index_lists (d ∷ ds))) → HasRoom g (length (index_lists ds))
  added_room below room =
      let before = rows place at d ds 0 i in
      let behind = rows place at d ds (i + 1) (d.bound - (i + 1)) in
      let all = ap length (sym (rows_all place at d ds (i + 1) (omega (arith, below)))) ∙ length-append (rows place at d ds 0 (i + 1)) behind in
      let more = ap length (sym (rows_more place at d ds i)) ∙ length-append before (row place at d ds i) in
      let one = length-map (index_lists ds) (λ is. place + offset_at (reach at d.stride i) ds is) in
      let long = length-map (index_lists (d ∷ ds)) (λ is. place + offset_at at (d ∷ ds) is) in
      adds_room (length (index_lists ds)) a.did.does.does
      (room_less f (length (index_lists (d ∷ ds))) (length (rows place at d ds 0 i) + length (index_lists ds)) (omega (arith, all, more, one, long)) room)
