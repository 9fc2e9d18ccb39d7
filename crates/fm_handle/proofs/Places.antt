-- Where a value stands, from the tests that the code makes.
use Rattle.std.proofs.Common.{◌≡◌, ℕ, ◌+◌, ◌%◌, ◌≤◌, inl, inr, Bool, true, false, if◌then◌else◌, nat_eq, nat_le, Result, Ok, Err, List, [], ◌∷◌, refl, sym, ap, subst, ◌∙◌, arith}
use Rattle.std.{proofs.lemmas.Bool.{and_parts, lt-ltb, le-ltb, leb-true}, specs.{Prelude.{◌&&◌}, Int.{IsPowerOfTwo}}}
use Rattle.fm_base.specs.declared.refusal.Refusal.{Refusal, TheVariants.{Bounds, IndexOut, Misaligned, ReadOnly}}
use Rattle.fm_lanes.specs.declared.{order.Order.{Order, TheVariants.{Little, Big}}, value_kind.ValueKind.{ValueKind, TheVariants.{Int, Long}}}
use Rattle.fm_lanes.specs.Kind.{width_of}
use Rattle.fm_base_bytes.proofs.Powers.{IsPowerOfTwo-from_test}
use Rattle.fm_layout.proofs.Sound.{positive_power}
use Rattle.fm_path.specs.{declared.value_spec.ValueSpec.{ValueSpec}, Resolution.{Resolution, StaysInside}}
use Rattle.fm_path_meaning.specs.{declared.dim.Dim.{Dim}, Found.{IsFirstOut}, Walk.{AreAdmitted, offset_at}}
use Rattle.fm_path_meaning.proofs.Inside.{divides_from, divides_gives, divides_add, divides_trans, divides_powers}
use Rattle.fm_segment_access.proofs.Causes.{placed_ok}
use Rattle.fm_segment.specs.Region.{Region}
use Rattle.fm_handle.specs.Place.{if_admitted, if_rooted, root_place, place_of, writable_place_of, value_place, can_update, fills_word, is_word, is_int_or_long, is_long, is_little, RootStands, ValueStands}

-- ---- the indices

-- Admitted indices pass the test.
pub admitted : (k : ℕ) (ds : List Dim) (is : List ℕ) (found : Result ℕ Refusal) → AreAdmitted ds is → if_admitted k ds is found ≡ found
admitted k [] [] found h = refl
admitted k [] (i ∷ is) found h = refl
admitted k (d ∷ ds) [] found h = refl
admitted k (d ∷ ds) (i ∷ is) found h =
    ap (λ b. if b then if_admitted (k + 1) ds is found else Err (IndexOut k)) (lt-ltb i d.bound h.0) ∙ admitted (k + 1) ds is found h.1

-- The first index that isn't admitted is told.
pub out : (k : ℕ) (ds : List Dim) (is : List ℕ) (found : Result ℕ Refusal) (e : Refusal) → IsFirstOut k ds is e → if_admitted k ds is found ≡ Err e
out k [] is found e h = absurd h
out k (d ∷ ds) [] found e h = absurd h
out k (d ∷ ds) (i ∷ is) found e h = elim h [
  | inl last ↦ ap (λ b. if b then if_admitted (k + 1) ds is found else Err (IndexOut k)) (le-ltb i d.bound last.0) ∙ ap Err (sym last.1)
  | inr more ↦ ap (λ b. if b then if_admitted (k + 1) ds is found else Err (IndexOut k)) (lt-ltb i d.bound more.0) ∙ out (k + 1) ds is found e more.1
]

-- ---- the root

abbrev pub moved_by : ℕ → Result ℕ Refusal → Result ℕ Refusal
moved_by k (Ok n) = Ok (n + k)
moved_by k (Err e) = Err e

moved : (b c : Bool) (n k : ℕ) → (if b then (if c then Ok (n + k) else Err Misaligned) else Err Bounds)
    ≡ moved_by k (if b then (if c then Ok n else Err Misaligned) else Err Bounds)
moved true true n k = refl
moved true false n k = refl
moved false c n k = refl

module _ (base : ℕ) (is : List ℕ) (h : Resolution) (r : Region) where
  pub rooted_is : (p : ℕ) → if_rooted base h r (Ok (value_place base is h r)) ≡ Ok p → value_place base is h r ≡ p
  rooted_is p x = let f = placed_ok base h.root_size h.root_alignment r.first r.size (Ok (value_place base is h r)) p x in let e = f.2 in cc

  -- The value's place is the root's, moved by its offset, or the root can't stand.
  pub from_root : {x : Result ℕ Refusal} → AreAdmitted h.dims is → root_place base h r ≡ x → place_of base is h r ≡ moved_by (offset_at h.offset h.dims is) x
  from_root a p =
      let at = offset_at h.offset h.dims is in
      admitted 0 h.dims is _ a
      ∙ moved (nat_le (base + h.root_size) r.size) (nat_eq ((r.first + base) % h.root_alignment) 0) (r.first + base) at
      ∙ ap (moved_by at) p

  pub read_only_refused : AreAdmitted h.dims is → r.read_only ≡ true → writable_place_of base is h r ≡ Err ReadOnly
  read_only_refused a w = admitted 0 h.dims is _ a ∙ ap (λ b. if b then Err ReadOnly else if_rooted base h r (Ok (value_place base is h r))) w

  -- A value in a root that lies in the region, aligned, does so too.
  pub value_stands : (root : ℕ) → StaysInside h → AreAdmitted h.dims is → RootStands h r root → ValueStands h r (root + offset_at h.offset h.dims is)
  value_stands root s a rooted =
      let at = offset_at h.offset h.dims is in
      let inside = s.inside is a in
      let fits = s.aligned is a in
      let align = h.value.alignment in
      let pos = positive_power h.value.alignment (IsPowerOfTwo-from_test h.value.alignment fits.power) in
      let of_root = divides_trans h.value.alignment h.root_alignment root (divides_from h.value.alignment h.root_alignment fits.root)
      (divides_from h.root_alignment root rooted.aligned) in
      let of_value = divides_from h.value.alignment (offset_at h.offset h.dims is) fits.offset in
      record {
        inside = (let i = rooted.inside in omega arith);
        small = (let i = rooted.small in omega arith);
        power = fits.power;
        aligned = divides_gives h.value.alignment (root + offset_at h.offset h.dims is) pos
            (divides_add h.value.alignment root (offset_at h.offset h.dims is) of_root of_value);
      }

-- ---- in one word

-- Both of two tests.
pub both_true : (a b : Bool) → (a && b) ≡ true → (a ≡ true) × (b ≡ true)
both_true a b h = and_parts a b h

-- A place of an alignment is a multiple of each smaller power of two.
pub multiple : (place width alignment : ℕ) → IsPowerOfTwo width → IsPowerOfTwo alignment → width ≤ alignment → place % alignment ≡ 0 → place % width ≡ 0
multiple place width alignment w a le h =
    divides_gives width place (positive_power width w)
    (divides_trans width alignment place (divides_powers width alignment w a le) (divides_from alignment place h))

-- So an int or a long that is aligned to its width lies in one word.
pub word_by_kind : (k : ValueKind) (alignment place : ℕ) → IsPowerOfTwo alignment → place % alignment ≡ 0 → is_int_or_long k ≡ true → width_of k ≤ alignment
    → place % 8 + width_of k ≤ 8
word_by_kind Int alignment place a h is le = let e = multiple place 4 alignment (2, refl) a le h in omega arith
word_by_kind Long alignment place a h is le = let e = multiple place 8 alignment (3, refl) a le h in omega arith
word_by_kind k alignment place a h is le = absurd (let no : ⊥ = cc in no)

-- A value that can be updated lies in one word.
pub in_one_word : (h : Resolution) (r : Region) (place : ℕ) → ValueStands h r place → can_update h.value ≡ true → place % 8 + width_of h.value.kind ≤ 8
in_one_word h r place s e =
    let both = both_true (is_int_or_long h.value.kind) (nat_le (width_of h.value.kind) h.value.alignment) e in
    word_by_kind h.value.kind h.value.alignment place (IsPowerOfTwo-from_test h.value.alignment s.power) s.aligned both.0
    (leb-true (width_of h.value.kind) h.value.alignment both.1)

long_is : (k : ValueKind) → is_long k ≡ true → k ≡ Long
long_is Long e = refl
long_is k e = absurd (let no : ⊥ = cc in no)

-- a long fills the word at the place
pub record LongAt (spec : ValueSpec) (place : ℕ) : Type 0 where
  pub kind : spec.kind ≡ Long
  pub fits : place % 8 + 8 ≤ 8

-- A long of alignment 8 or more does.
pub whole_word : (h : Resolution) (r : Region) (place : ℕ) → ValueStands h r place → fills_word h.value ≡ true → LongAt h.value place
whole_word h r place s e =
    let both = both_true (is_long h.value.kind) (nat_le 8 h.value.alignment) e in
    let a = multiple place 8 h.value.alignment (3, refl) (IsPowerOfTwo-from_test h.value.alignment s.power) (leb-true 8 h.value.alignment both.1) s.aligned in
    record { kind = long_is h.value.kind both.0; fits = omega arith }

-- And so it lies in one word.
pub kind_fits : (spec : ValueSpec) (place : ℕ) → LongAt spec place → place % 8 + width_of spec.kind ≤ 8
kind_fits spec place long = subst (λ (k : ValueKind). place % 8 + width_of k ≤ 8) (sym long.kind) long.fits

little_is : (o : Order) → is_little o ≡ true → o ≡ Little
little_is Little e = refl
little_is Big e = absurd (let no : ⊥ = cc in no)

-- A long that is a word has its lowest byte first.
pub word_parts : (v : ValueSpec) → is_word v ≡ true → (fills_word v ≡ true) × (v.order ≡ Little)
word_parts v e = let both = and_parts (fills_word v) (is_little v.order) e in (both.0, little_is v.order both.1)
