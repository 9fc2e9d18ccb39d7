-- Each access to a segment stays below its end, and so is tidy.
use Rattle.std.proofs.Common.{◌≡◌, ℕ, ℤ, ◌+◌, ◌*◌, ◌<◌, ◌≤◌, ◌==◌, ◌&&◌, Bool, true, false, if◌then◌else◌, nat_le, nat_lt, Result, Ok, Err, List, length, replicate, refl, sym, subst, arith}
use Rattle.std.proofs.lemmas.{Bool.{leb-true}, List.{length-replicate, Elements.{All-replicate}}}
use Rattle.fm_base.specs.declared.{caller.Caller.{Caller}, arena_id.ArenaId.{ArenaId}, refusal.Refusal.{Refusal, TheVariants.{Bounds, ReadOnly, Unsupported}}}
use Rattle.fm_base.{specs.Calls.{Entry}, proofs.Faith.{Makes-alone}}
use Rattle.fm_lanes.specs.{declared.value.Value.{Value}, Coding.{value_of}, Kind.{width_of}, Value.{kind_of}}
use Rattle.fm_layout.specs.Tree as tree
use Rattle.fm_layout.specs.{Tree.{Tree, alignment_of}, Size.{size_of}}
use Rattle.fm_segment_access.{proofs.{Causes.{never, placed_ok}, Keeping.{read_kept}}, specs.Ranges.{DoesPut, DoesFill}}
use Rattle.fm_segment_copies.{specs.{declared.side.Side.{Side}, Sides.{side}, Copies.{DoesCopy}}, proofs.Keeping.{compare_kept, copy_kept}}
use Rattle.fm_handle.proofs.Places.{both_true}
use Rattle.fm_segment.specs.Access.{HasKind, place_of, DoesGetAt, DoesSetAt, writable_place_of, writable_place_at_index}
use Rattle.fm_segment.specs.{Comparisons.{DoesMismatch, common_size}, Copies.{checked_copy}, Fills.{DoesAfter, checked_write}, Puts.{checked_put}}
use Rattle.fm_segment.specs.Region.{Region}
use Rattle.fm_segment_laws.specs.Accesses.{DoesAccess, gets, sets, sets_at_index, fills, puts, copies, compares, AccessesAreTidy, LoneAccessesAreTidy}
use Rattle.fm_segment_laws.proofs.Putting.{put_stays, value_stays, put_all_stays}
use Rattle.fm_segment_laws.proofs.Staying.{StayBelow, stay_none, stay_unless, stay_puts, stay_kept, tidy_by, tidy_alone}

-- ---- tests that were passed

pub writable_on : {X : Type 0} (kept : Bool) (found : Result X Refusal) (x : X) → (if kept then Err ReadOnly else found) ≡ Ok x → found ≡ Ok x
writable_on true found x e = absurd (let no : ⊥ = cc in no)
writable_on false found x e = e

pub supported_on : (works : Bool) (found : Result ℕ Refusal) (p : ℕ) → (if works then found else Err Unsupported) ≡ Ok p → (works ≡ true) × (found ≡ Ok p)
supported_on true found p e = (refl, e)
supported_on false found p e = never p Unsupported (sym e)

abbrev done : Result (Unit {0}) Refusal
done = Ok tt

within_on : (fits : Bool) → (if fits then Ok tt else Err Bounds) ≡ done → fits ≡ true
within_on true e = refl
within_on false e = absurd (let no : ⊥ = cc in no)

-- What a call does after its checks.
after_stays : (a : ArenaId) (bound : ℕ) (checked : Result (Unit {0}) Refusal) (Does : Result (Unit {0}) Refusal → List Entry → Type 0)
    (result : Result (Unit {0}) Refusal) (own : List Entry) → (checked ≡ done → Does result own → StayBelow a bound own)
    → DoesAfter checked Does result own → StayBelow a bound own
after_stays a bound (Err e) Does result own f d = stay_none a bound own d.1
after_stays a bound (Ok u) Does result own f d = f refl d

-- ---- values

pub get_stays : (a : ArenaId) (bound : ℕ) (c : Caller) (id : ArenaId) (t : Tree) (place : Result ℕ Refusal) (result : Result Value Refusal) (own : List Entry)
    → DoesGetAt c id t place result own → StayBelow a bound own
get_stays a bound c id t (Err e) result own d = stay_none a bound own d.1
get_stays a bound c id (tree.Value k o l) (Ok p) result own d = read_kept (stay_kept a bound c) id (value_of k o) p (width_of k) result own d
get_stays a bound c id t (Ok p) result own d = absurd d

set_stays : (c : Caller) (id : ArenaId) (bound : ℕ) (t : Tree) (found : Result ℕ Refusal) (v : Value) (result : Result (Unit {0}) Refusal) (own : List Entry)
    → ((p : ℕ) → found ≡ Ok p → p + size_of t ≤ bound) → HasKind t (kind_of v) → DoesSetAt c id t found v result own → StayBelow id bound own
set_stays c id bound t (Err e) v result own h k d = stay_none id bound own d.1
set_stays c id bound (tree.Value kind o l) (Ok p) v result own h k d = value_stays c id bound p kind o v result own k (h p refl) d
set_stays c id bound t (Ok p) v result own h k d = absurd d

-- A value that may be put ends in the segment.
value_ends : (offset : ℕ) (t : Tree) (r : Region) (p : ℕ) → writable_place_of offset t r ≡ Ok p → p + size_of t ≤ r.first + r.size
value_ends offset t r p h =
    let found : Result ℕ Refusal = Ok (r.first + offset) in
    let placed = placed_ok offset (size_of t) (alignment_of t) r.first r.size found p (writable_on r.read_only (place_of offset t r) p h) in
    let within = placed.0 in
    let at : r.first + offset ≡ p = cc placed.2 in
    omega arith

-- ---- a fill

fill_stays : (c : Caller) (r : Region) (byte : ℕ) (result : Result (Unit {0}) Refusal) (own : List Entry) → byte < 256
    → DoesFill c r.arena r.first r.size byte result own → StayBelow r.arena (r.first + r.size) own
fill_stays c r byte result own b d =
    let len : length (replicate r.size byte) ≡ r.size = length-replicate r.size byte in
    stay_unless r.arena (r.first + r.size) (r.size == 0) result own (DoesPut c r.arena r.first (replicate r.size byte) result own)
    (put_stays c r.arena (r.first + r.size) r.first (replicate r.size byte) result own (All-replicate (λ n. n < 256) r.size byte b) (omega arith)) d

-- ---- a copy, and a comparison

copies_stay : (c : Caller) (a b : Side) (bound count : ℕ) (result : Result (Unit {0}) Refusal) (own : List Entry) → b.at + count ≤ bound
    → DoesCopy c a b count result own → StayBelow b.arena bound own
copies_stay c a b bound count result own h d =
    copy_kept (stay_kept b.arena bound c) a b count
    (λ p v es at inside small x. stay_puts c b.arena bound (b.at + p.offset) p.width v es small at.within_target (omega arith) x) result own d

mismatch_stays : (a : ArenaId) (bound : ℕ) (c : Caller) (r other : Region) (result : Result ℤ Refusal) (own : List Entry) → DoesMismatch c r other result own
    → StayBelow a bound own
mismatch_stays a bound c r other (Ok z) own d =
    compare_kept (stay_kept a bound c) (side r.arena r.first) (side other.arena other.first) (common_size r other) (Ok d.0) own d.1
mismatch_stays a bound c r other (Err e) own d =
    compare_kept (stay_kept a bound c) (side r.arena r.first) (side other.arena other.first) (common_size r other) (Err e) own d

-- ---- every access

access_stays : (c : Caller) (r : Region) (own : List Entry) → DoesAccess c r own → StayBelow r.arena (r.first + r.size) own
access_stays c r own (gets t place result d) = get_stays r.arena (r.first + r.size) c r.arena t place result own d
access_stays c r own (sets t offset v result k d) =
    set_stays c r.arena (r.first + r.size) t (writable_place_of offset t r) v result own (value_ends offset t r) k d
access_stays c r own (sets_at_index t index v result k d) =
    set_stays c r.arena (r.first + r.size) t (writable_place_at_index index t r) v result own
    (λ p h. value_ends (index * size_of t) t r p (supported_on (nat_le (alignment_of t) (size_of t)) (writable_place_of (index * size_of t) t r) p h).1) k d
access_stays c r own (fills byte result b d) =
    after_stays r.arena (r.first + r.size) (checked_write r.size r) _ result own (λ ok x. fill_stays c r byte result own b x) d
access_stays c r own (puts offset bytes result are d) =
    let fits = nat_le (offset + length bytes) r.size in
    after_stays r.arena (r.first + r.size) (checked_put r offset (length bytes)) _ result own (λ ok x.
    let within = leb-true (offset + length bytes) r.size (within_on fits (writable_on (nat_lt 0 (length bytes) && r.read_only) _ tt ok)) in
    put_all_stays c r.arena (r.first + r.size) (r.first + offset) bytes result own are (omega arith) x) d
access_stays c r own (copies src src_at dst_at n result d) =
    let source = nat_le (src_at + n) src.size in
    let target = nat_le (dst_at + n) r.size in
    after_stays r.arena (r.first + r.size) (checked_copy src src_at r dst_at n) _ result own (λ ok x.
    let fit = both_true source target (within_on (source && target) (writable_on (nat_lt 0 n && r.read_only) _ tt ok)) in
    let within = leb-true (dst_at + n) r.size fit.1 in
    copies_stay c (side src.arena (src.first + src_at)) (side r.arena (r.first + dst_at)) (r.first + r.size) n result own (omega arith) x) d
access_stays c r own (compares other result d) = mismatch_stays r.arena (r.first + r.size) c r other result own d

pub tidy : AccessesAreTidy
tidy old new r own makes known access =
    let below : StayBelow r.arena (r.first + r.size) own = access_stays old.caller r own access in
    tidy_by old.caller old.limit (r.first + r.size) r.arena old.state makes.all makes.legal known.given
    (subst (λ (es : List Entry). StayBelow r.arena (r.first + r.size) es) (sym makes.by_caller) below)

pub alone_tidy : LoneAccessesAreTidy
alone_tidy old new r own makes alone known access =
    let legal = (Makes-alone old new own alone makes).0 in
    tidy_alone old.limit (r.first + r.size) r.arena old.state own legal known.given (access_stays old.caller r own access)
