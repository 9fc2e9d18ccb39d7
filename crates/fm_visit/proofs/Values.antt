-- What a caller inside an arena learns of calls on values and on runs of bytes, from what they did.
use Rattle.std.proofs.Common.{◌≡◌, ℕ, ◌+◌, ◌^◌, ◌<◌, ◌≤◌, ◌&&◌, Bool, true, false, if◌then◌else◌, nat_le, nat_lt, List, length, replicate, refl, sym, ap, subst, ◌∙◌, arith, Some, Result, Ok, Err}
use Rattle.std.proofs.lemmas.Bool.{leb-true}
use Rattle.fm_base.specs.declared.{refusal.Refusal.{Refusal, TheVariants.{Bounds, ReadOnly}}}
use Rattle.fm_base.specs.{View.{View, Did, IsByItself, given_in}, Visits.{Acts}}
use Rattle.fm_base.proofs.Outcomes.{Makes-lasts}
use Rattle.fm_base_bytes.specs.Bytes.{AreBytes}
use Rattle.fm_lanes.specs.declared.{order.Order.{Order}, value.Value.{Value}, value_kind.ValueKind.{ValueKind}}
use Rattle.fm_lanes.specs.{Coding.{value_of, bytes_of_value}, Kind.{width_of}, Value.{kind_of}}
use Rattle.fm_layout.specs.declared.form.Form.TheVariants as form
use Rattle.fm_layout.specs.Tree as tree
use Rattle.fm_layout.specs.{Tree.{Tree, Label, alignment_of}, Size.{size_of}, Parts.{form_of, IsValue}}
use Rattle.fm_lanes.proofs.Meaning.{width_of-bounds}
use Rattle.fm_segment_access.proofs.Filling.{AreBytes-replicate}
use Rattle.fm_segment_access.proofs.Values.{AreBytes-value, length-value, kind_of-decoded}
use Rattle.fm_segment.specs.{Access.{HasKind, place_of, writable_place_of}, Fills.{checked_write}, Puts.{checked_put}, Region.{Region}}
use Rattle.fm_segment.proofs.{Access.{is_value, value_is}, Alone.{Stands, place_stands, writable_stands, finds_there, puts_there}}
use Rattle.fm_visit.specs.{Acts.{ActsAt, HasActs, IsOfArguments}, Learnt.{IsIn, AfterInside}, Runs.{GetsAs, PutsFrom}}
use Rattle.fm_visit.specs.Values.{AfterGet, AfterSet, AfterFill, AfterPutBytes, GetsHere, PutsHere, SetsHere, Reaches, placed_at}
use Rattle.fm_visit.proofs.{Getting.{means_alone}, Going.{just}, Learning.{after_acts, after_refused}, Places.{placed_err}, Putting.{leaves_puts, puts_alone}}

-- Of a call that acted.
pub after_has : {X : Type 0} {x y : View} {r : Region} {Do : Result X Refusal → Acts → Type 0} {Alone : X → Type 0} {v : X} → IsIn x r.arena r
    → (d : Did x y (HasActs x.caller (Do (Ok v)))) → y.inside ≡ Some r.arena → (IsByItself x → Alone v) → AfterInside x y r.arena r Do Alone (Ok v)
after_has {x = x} {y} can d inside alone =
    after_acts can d.does.acts d.does.are (just d) (inside ∙ sym can.inside) (Makes-lasts x y d.own d.makes) alone

-- A run of bytes of the segment can be reached.
pub reaches : {x : View} {r : Region} {p : ℕ} (offset size : ℕ) → IsIn x r.arena r → p ≡ r.first + offset → offset + size ≤ r.size → p + size ≤ 2 ^ 40
    → Reaches x r.arena p size
reaches {x} {r} offset size can is fits small =
    let given : r.first + r.size ≤ given_in x r.arena = can.known.given in
    record { inside = can.inside; given = omega arith; small = small }

-- ---- values

module _ {x : View} {r : Region} (can : IsIn x r.arena r) (offset : ℕ) (t : Tree) where
  -- A value's place can be reached,
  pub reaches_value : {k : ValueKind} {o : Order} {p : ℕ} → IsValue t → form_of t ≡ form.Value k o → place_of offset t r ≡ Ok p → p + size_of t ≤ 2 ^ 40
      → Reaches x r.arena p (width_of k)
  reaches_value {k} {o} {p} i f is small =
      let v = value_is t i f in
      let s = place_stands offset t r p is in
      let size : size_of t ≡ width_of k = ap size_of v.1 in
      let whole = reaches {x = x} {r = r} offset (size_of t) can s.at s.fits small in
      subst (Reaches x r.arena p) size whole

  -- and what is learnt of its value.
  pub value_got : {y : View} {k : ValueKind} {o : Order} {p : ℕ} {v : Value} → IsValue t → form_of t ≡ form.Value k o → place_of offset t r ≡ Ok p
      → Did x y (HasActs x.caller (GetsAs (value_of k o) r.arena p (width_of k) v)) → y.inside ≡ Some r.arena → AfterGet x y r t offset (Ok v)
  value_got {y} {k} {o} {p} {v} i f is d inside =
      let e = value_is t i f in
      let s = place_stands offset t r p is in
      subst (λ (u : Tree). AfterGet x y r u offset (Ok v)) (sym e.1)
      (let q : place_of offset (tree.Value k o e.0) r ≡ Ok p = ap (λ (u : Tree). place_of offset u r) (sym e.1) ∙ is in
      let st : Stands p offset (tree.Value k o e.0) r = subst (λ (u : Tree). Stands p offset u r) e.1 s in
      after_has {Do = ActsAt (place_of offset (tree.Value k o e.0) r) (GetsHere r.arena (tree.Value k o e.0))} can (rw q d) inside
      (λ h. finds_there x y r k o e.0 offset p v st (means_alone d h)))

  pub got_kind : {y : View} {k : ValueKind} {o : Order} {p : ℕ} {v : Value} → IsValue t → form_of t ≡ form.Value k o
      → Did x y (HasActs x.caller (GetsAs (value_of k o) r.arena p (width_of k) v)) → HasKind t (kind_of v)
  got_kind {y} {k} {o} {p} {v} i f d =
      let e = value_is t i f in
      subst (λ (u : Tree). HasKind u (kind_of v)) (sym e.1) (ap kind_of d.does.are.value ∙ kind_of-decoded k _)

  pub not_got : {e : Refusal} → place_of offset t r ≡ Err e → AfterGet x x r t offset (Err e)
  not_got {e} is = after_refused (GetsHere r.arena t) (Err e) can is refl (placed_err offset (size_of t) (alignment_of t) r.first r.size (r.first + offset) e is)

-- A layout of a kind is as wide.
size_by : (t : Tree) (k : ValueKind) → HasKind t k → size_of t ≡ width_of k
size_by (tree.Value j o l) k has = ap width_of (sym has)
size_by t k has = absurd has

-- A test that comes first refuses by the arguments, or what comes behind it does.
pub unless_err : (b : Bool) (first : Refusal) (found : Result ℕ Refusal) (e : Refusal) → IsOfArguments first → (found ≡ Err e → IsOfArguments e)
    → (if b then Err first else found) ≡ Err e → IsOfArguments e
unless_err true first found e of behind h = let same : first ≡ e = cc in subst IsOfArguments same of
unless_err false first found e of behind h = behind h

module _ {x : View} {r : Region} (can : IsIn x r.arena r) (offset : ℕ) (t : Tree) (v : Value) where
  -- The place of a value that is set can be reached,
  pub reaches_set : {p : ℕ} → HasKind t (kind_of v) → writable_place_of offset t r ≡ Ok p → p + size_of t ≤ 2 ^ 40 → Reaches x r.arena p (width_of (kind_of v))
  reaches_set {p} has is small =
      let s = writable_stands offset t r p is in
      let size = size_by t (kind_of v) has in
      let whole = reaches {x = x} {r = r} offset (size_of t) can s.at s.fits small in
      subst (Reaches x r.arena p) size whole

  -- and what is learnt of it.
  pub value_put : {y : View} {k : ValueKind} {o : Order} {p : ℕ} → HasKind t (kind_of v) → form_of t ≡ form.Value k o → writable_place_of offset t r ≡ Ok p
      → Did x y (HasActs x.caller (PutsFrom r.arena p (bytes_of_value o v))) → y.inside ≡ Some r.arena → AfterSet x y r t offset v (Ok tt)
  value_put {y} {k} {o} {p} has f is d inside =
      let e = value_is t (is_value t (kind_of v) has) f in
      let s = writable_stands offset t r p is in
      let here : HasKind (tree.Value k o e.0) (kind_of v) = subst (λ (u : Tree). HasKind u (kind_of v)) e.1 has in
      subst (λ (u : Tree). AfterSet x y r u offset v (Ok tt)) (sym e.1)
      (let q : writable_place_of offset (tree.Value k o e.0) r ≡ Ok p = ap (λ (u : Tree). writable_place_of offset u r) (sym e.1) ∙ is in
      let st : Stands p offset (tree.Value k o e.0) r = subst (λ (u : Tree). Stands p offset u r) e.1 s in
      after_has {Do = ActsAt (writable_place_of offset (tree.Value k o e.0) r) (SetsHere r.arena (tree.Value k o e.0) v)} can (rw q d) inside
      (λ h.
      let width : length (bytes_of_value o v) ≡ width_of k = length-value o v ∙ ap width_of here in
      let some : 0 < length (bytes_of_value o v) = (let b = width_of-bounds k in let least = b.0 in omega arith) in
      let put = leaves_puts (AreBytes-value o v) d h in
      let within = put.within some in
      puts_there x y r k o e.0 offset p v st (record { bytes = puts_alone (AreBytes-value o v) d h can.known.arena; within = omega arith })))

  pub not_set : {e : Refusal} → writable_place_of offset t r ≡ Err e → AfterSet x x r t offset v (Err e)
  not_set {e} is =
      after_refused (SetsHere r.arena t v) (Err e) can is refl
      (unless_err r.read_only ReadOnly (place_of offset t r) e tt (placed_err offset (size_of t) (alignment_of t) r.first r.size (r.first + offset) e) is)

-- ---- runs of bytes

abbrev pub unit_ok : Result (Unit {0}) Refusal
unit_ok = Ok tt

-- Checks that refuse do so by the arguments.
write_err : (n : ℕ) (r : Region) (e : Refusal) → checked_write n r ≡ Err e → IsOfArguments e
write_err n r e h = by_test (nat_lt 0 n && r.read_only) h where
  by_test : (b : Bool) → (if b then Err ReadOnly else unit_ok) ≡ Err e → IsOfArguments e
  by_test true h = let same : ReadOnly ≡ e = cc in subst IsOfArguments same tt
  by_test false h = absurd (cc)

put_err : (r : Region) (offset n : ℕ) (e : Refusal) → checked_put r offset n ≡ Err e → IsOfArguments e
put_err r offset n e h = by_tests (nat_lt 0 n && r.read_only) (nat_le (offset + n) r.size) h where
  by_tests : (b fits : Bool) → (if b then Err ReadOnly else (if fits then unit_ok else Err Bounds)) ≡ Err e → IsOfArguments e
  by_tests true fits h = let same : ReadOnly ≡ e = cc in subst IsOfArguments same tt
  by_tests false true h = absurd (cc)
  by_tests false false h = let same : Bounds ≡ e = cc in subst IsOfArguments same tt

-- What passes them fits.
pub put_fits : (r : Region) (offset n : ℕ) → checked_put r offset n ≡ Ok tt → offset + n ≤ r.size
put_fits r offset n h = by_tests (nat_lt 0 n && r.read_only) (nat_le (offset + n) r.size) refl h where
  by_tests : (b fits : Bool) → nat_le (offset + n) r.size ≡ fits → (if b then Err ReadOnly else (if fits then unit_ok else Err Bounds)) ≡ unit_ok → offset + n ≤ r.size
  by_tests true fits e h = absurd (cc)
  by_tests false true e h = leb-true (offset + n) r.size e
  by_tests false false e h = absurd (cc)

module _ {x : View} {r : Region} (can : IsIn x r.arena r) where
  -- What is learnt of bytes that were put.
  pub bytes_put : {y : View} (offset : ℕ) (bytes : List ℕ) → AreBytes bytes → checked_put r offset (length bytes) ≡ Ok tt
      → Did x y (HasActs x.caller (PutsFrom r.arena (r.first + offset) bytes)) → y.inside ≡ Some r.arena → AfterPutBytes x y r offset bytes (Ok tt)
  bytes_put offset bytes are is d inside =
      after_has {Do = ActsAt (placed_at (r.first + offset) (checked_put r offset (length bytes))) (PutsHere r.arena bytes)} can (rw is d) inside
      (λ h. puts_alone are d h can.known.arena)

  pub bytes_not_put : (offset : ℕ) (bytes : List ℕ) {e : Refusal} → checked_put r offset (length bytes) ≡ Err e → AfterPutBytes x x r offset bytes (Err e)
  bytes_not_put offset bytes {e} is =
      after_refused (PutsHere r.arena bytes) (Err e) can (ap (placed_at (r.first + offset)) is) refl (put_err r offset (length bytes) e is)

  -- What is learnt of a segment that was filled.
  pub filled : {y : View} (byte : ℕ) → byte < 256 → checked_write r.size r ≡ Ok tt
      → Did x y (HasActs x.caller (PutsFrom r.arena r.first (replicate r.size byte))) → y.inside ≡ Some r.arena → AfterFill x y r byte (Ok tt)
  filled byte small is d inside =
      after_has {Do = ActsAt (placed_at r.first (checked_write r.size r)) (PutsHere r.arena (replicate r.size byte))} can (rw is d) inside
      (λ h. puts_alone (AreBytes-replicate r.size byte small) d h can.known.arena)

  pub not_filled : (byte : ℕ) {e : Refusal} → checked_write r.size r ≡ Err e → AfterFill x x r byte (Err e)
  not_filled byte {e} is = after_refused (PutsHere r.arena (replicate r.size byte)) (Err e) can (ap (placed_at r.first) is) refl (write_err r.size r e is)
