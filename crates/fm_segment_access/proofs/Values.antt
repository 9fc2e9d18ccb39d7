-- Values of a kind, from accesses to their bytes.
use Rattle.std.proofs.Common.{◌≡◌, ℕ, ◌+◌, ◌*◌, ◌^◌, ◌<◌, ◌≤◌, true, Some, Ok, List, length, take, drop, refl, sym, ap, subst, ◌∙◌, arith, length-append}
use Rattle.std.proofs.lemmas.List.{length-reverse, reverse-reverse, Elements.{All-append, All-nil}}
use Rattle.fm_base.specs.{declared.{caller.Caller.{Caller}, arena_id.ArenaId.{ArenaId}}, Arenas.{has_arena}, Calls.{Entry}, View.{View, Did, IsByItself}}
use Rattle.fm_base.specs.Visits.{piece_width}
use Rattle.fm_base_bytes.specs.Bytes.{AreBytes, bytes_of, number_of}
use Rattle.fm_base_bytes.proofs.Bytes.{AreBytes-bytes_of, length-bytes_of, bytes_of-number_of, number_of-bytes_of, number_of-lt}
use Rattle.fm_lanes.specs.declared.{order.Order.{Order, TheVariants.{Little, Big}}, value.Value.{Value}, value_kind.ValueKind.{ValueKind}}
use Rattle.fm_lanes.specs.{Coding.{decoded, encoded, turned, lowest_first, value_of, bytes_of_value}, Kind.{width_of}, Value.{kind_of}}
use Rattle.fm_lanes.proofs.{Meaning.{width_of-bounds}, Turning.{AreBytes-reverse, turned_number, bytes_of-turned_order}}
use Rattle.fm_lanes.specs.declared.value_kind.ValueKind.TheVariants as kind
use Rattle.fm_segment_access.specs.{Alone.{bytes_of_arena, with_bytes}, Ranges.{Reading, ReadsOn, ReadsRange, DoesGet, DoesPut}}
use Rattle.fm_segment_access.{specs.Values.{DoesGetValue, PutsValue, PutsThenGets}, proofs.{Alone.{changes}, Going.{run_ends}}}
use Rattle.fm_segment_access.proofs.{PuttingAlone.{pieces_put, puts_alone}, Splicing.{takes_put}}

-- ---- the bytes that were read

-- bytes that were read, from a place on
abbrev AreRead : ℕ → Reading → Type 0
AreRead place x = AreBytes x.bytes × (place + length x.bytes ≡ x.at)

reads_more : (c : Caller) (id : ArenaId) (place end : ℕ) (x y : Reading) (own : List Entry) → AreRead place x → ReadsOn c id end x own y → AreRead place y
reads_more c id place end x y own r s =
    let width = piece_width x.at end in
    let n = r.1 in
    let at = s.at in
    let len : length y.bytes ≡ length x.bytes + piece_width x.at end = ap length s.bytes ∙ length-append x.bytes (bytes_of width s.v)
    ∙ ap (λ n. length x.bytes + n) (length-bytes_of width s.v) in
    (rw s.bytes (All-append (λ b. b < 256) x.bytes (bytes_of width s.v) r.0 (AreBytes-bytes_of width s.v)), omega arith)

-- As many bytes are read as were asked for.
pub bytes_read : (c : Caller) (id : ArenaId) (place width : ℕ) (own : List Entry) (bytes : List ℕ) → ReadsRange c id place (place + width) own (Some bytes)
    → AreBytes bytes × (length bytes ≡ width)
bytes_read c id place width own bytes r =
    let e = run_ends (AreRead place) (λ x y es g s. reads_more c id place (place + width) x y es g s) (All-nil (λ b. b < 256), omega arith) r in
    let last = e.ends.0 in
    let count = e.good.1 in
    let same : length bytes ≡ length e.last.bytes = ap length e.ends.1 in
    (rw e.ends.1 e.good.0, omega arith)

-- A number fits the bytes that it was got from.
pub got_fits : (c : Caller) (id : ArenaId) (place width n : ℕ) (own : List Entry) → DoesGet c id place width (Ok n) own → n < 2 ^ (8 * width)
got_fits c id place width n own d =
    let r = d.1 in
    let are = bytes_read c id place width own r.bytes r.visits in
    subst (λ (m : ℕ). n < 2 ^ (8 * m)) are.1 (subst (λ (m : ℕ). m < 2 ^ (8 * length r.bytes)) (sym r.value) (number_of-lt r.bytes are.0))

-- The bytes of the number that bytes make.
pub bytes_of-number : (bytes : List ℕ) (width n : ℕ) → AreBytes bytes → length bytes ≡ width → n ≡ number_of bytes → bytes_of width n ≡ bytes
bytes_of-number bytes width n are len e = ap (λ k. bytes_of k n) (sym len) ∙ ap (bytes_of (length bytes)) e ∙ bytes_of-number_of bytes are

-- A number that is turned and decoded is the value of its bytes.
pub value_of-number : (k : ValueKind) (o : Order) (bytes : List ℕ) (n : ℕ) → AreBytes bytes → length bytes ≡ width_of k → n ≡ number_of bytes
    → decoded k (turned (width_of k) n o) ≡ value_of k o bytes
value_of-number k o bytes n are len e =
    let Small : ℕ → Type 0 = λ m. n < 2 ^ (8 * m) in
    let below : n < 2 ^ (8 * length bytes) = rw e (number_of-lt bytes are) in
    ap (decoded k) (turned_number (width_of k) n o (subst Small len below)
    ∙ ap (λ bs. number_of (lowest_first o bs)) (bytes_of-number bytes (width_of k) n are len e))

-- A number that was got, turned and decoded.
pub got_value : (c : Caller) (id : ArenaId) (place width : ℕ) (k : ValueKind) (o : Order) (n m : ℕ) (v : Value) (own : List Entry)
    → width ≡ width_of k → m ≡ turned width n o → v ≡ decoded k m
    → DoesGet c id place width (Ok n) own → DoesGetValue c k o id place (Ok v) own
got_value c id place width k o n m v own w t e d =
    let got = subst (λ (j : ℕ). DoesGet c id place j (Ok n) own) w d in
    let r = got.1 in
    let are = bytes_read c id place (width_of k) own r.bytes r.visits in
    let value = e ∙ ap (decoded k) (t ∙ ap (λ j. turned j n o) w) ∙ value_of-number k o r.bytes n are.0 are.1 r.value in
    (got.0, record { bytes = r.bytes; visits = r.visits; value = value })

-- The bytes that a value is put as.
pub put_bytes : (v : Value) (o : Order) (width n m : ℕ) → width ≡ width_of (kind_of v) → m ≡ encoded v → n ≡ turned width m o
    → bytes_of width n ≡ bytes_of_value o v
put_bytes v o width n m w e t =
    ap (bytes_of width) (t ∙ ap (λ j. turned width j o) e) ∙ bytes_of-turned_order width (encoded v) o ∙ ap (λ j. lowest_first o (bytes_of j (encoded v))) w

-- ---- the bytes of a value

pub kind_of-decoded : (k : ValueKind) (n : ℕ) → kind_of (decoded k n) ≡ k
kind_of-decoded kind.Byte n = refl
kind_of-decoded kind.Boolean n = refl
kind_of-decoded kind.Char n = refl
kind_of-decoded kind.Short n = refl
kind_of-decoded kind.Int n = refl
kind_of-decoded kind.Long n = refl

-- A value that was got is of the kind.
pub got_kind : (c : Caller) (k : ValueKind) (o : Order) (id : ArenaId) (place : ℕ) (v : Value) (own : List Entry) → DoesGetValue c k o id place (Ok v) own
    → kind_of v ≡ k
got_kind c k o id place v own d = ap kind_of d.1.value ∙ kind_of-decoded k (number_of (lowest_first o d.1.bytes))

-- A value is put as bytes.
pub AreBytes-value : (o : Order) (v : Value) → AreBytes (bytes_of_value o v)
AreBytes-value Little v = AreBytes-bytes_of (width_of (kind_of v)) (encoded v)
AreBytes-value Big v = AreBytes-reverse (bytes_of (width_of (kind_of v)) (encoded v)) (AreBytes-bytes_of (width_of (kind_of v)) (encoded v))

-- They are as many as its kind is wide.
pub length-value : (o : Order) (v : Value) → length (bytes_of_value o v) ≡ width_of (kind_of v)
length-value Little v = length-bytes_of (width_of (kind_of v)) (encoded v)
length-value Big v = length-reverse (bytes_of (width_of (kind_of v)) (encoded v)) ∙ length-bytes_of (width_of (kind_of v)) (encoded v)

-- An order turned twice.
pub lowest_twice : (o : Order) (bytes : List ℕ) → lowest_first o (lowest_first o bytes) ≡ bytes
lowest_twice Little bytes = refl
lowest_twice Big bytes = reverse-reverse bytes

-- The bytes that a value is put as mean it.
pub means_itself : (k : ValueKind) (o : Order) (v : Value) → k ≡ kind_of v → encoded v < 2 ^ (8 * width_of (kind_of v)) → decoded (kind_of v) (encoded v) ≡ v
    → value_of k o (bytes_of_value o v) ≡ v
means_itself k o v same small back =
    let w = width_of (kind_of v) in
    ap (λ j. value_of j o (bytes_of_value o v)) same
    ∙ ap (λ bs. decoded (kind_of v) (number_of bs)) (lowest_twice o (bytes_of w (encoded v)))
    ∙ ap (decoded (kind_of v)) (number_of-bytes_of w (encoded v) small)
    ∙ back

-- ---- of the only caller

-- A value that it puts stands there, and all else stays.
pub puts_value : (old new : View) (k : ValueKind) (o : Order) (id : ArenaId) (place : ℕ) (v : Value) (u : Unit {0}) → kind_of v ≡ k
    → has_arena old.state id ≡ true
    → Did old new (DoesPut old.caller id place (bytes_of_value o v) (Ok u)) → IsByItself old → PutsValue old new k o id place v
puts_value old new k o id place v u kind known d alone =
    let width : length (bytes_of_value o v) ≡ width_of k = length-value o v ∙ ap width_of kind in
    let some : 0 < length (bytes_of_value o v) = (let bounds = width_of-bounds k in let least = bounds.0 in omega arith) in
    let put = puts_alone pieces_put old new id place (bytes_of_value o v) u (AreBytes-value o v) d alone in
    let within = put.1 some in
    record { bytes = changes old new id place (bytes_of_value o v) known put.0; within = omega arith }

-- What was put is got.
pub puts_then_gets : (k : ValueKind) (o : Order) (id : ArenaId) (place : ℕ) (v : Value) → kind_of v ≡ k
    → encoded v < 2 ^ (8 * width_of (kind_of v)) → decoded (kind_of v) (encoded v) ≡ v → PutsThenGets k o id place v
puts_then_gets k o id place v kind small back old between new got put found =
    let bytes = bytes_of_value o v in
    let all = bytes_of_arena old.state id in
    let width : length (bytes_of_value o v) ≡ width_of k = length-value o v ∙ ap width_of kind in
    let within = put.within in
    let room : place ≤ length (bytes_of_arena old.state id) = omega arith in
    let read : take (width_of k) (drop place (bytes_of_arena between.state id)) ≡ bytes_of_value o v =
    ap (λ bs. take (width_of k) (drop place bs)) put.bytes.changed
    ∙ ap (λ n. take n (drop place (with_bytes all place bytes))) (sym width)
    ∙ takes_put all place bytes room in
    found.value ∙ ap (value_of k o) read ∙ means_itself k o v (sym kind) small back
