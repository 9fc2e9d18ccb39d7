-- Each call of a handle stays below the segment's end, and so is tidy.
use Rattle.std.proofs.Common.{◌≡◌, ℕ, ◌+◌, ◌*◌, ◌/◌, ◌%◌, ◌≤◌, inl, inr, Bool, true, false, nat_le, Result, Ok, Err, List, length, refl, sym, ap, subst, ◌∙◌, arith}
use Rattle.std.{proofs.lemmas.Bool.{leb-true}, specs.Int.{is_power_of_two}}
use Rattle.fm_base.specs.{Arenas.{only_caller}, declared.{caller.Caller.{Caller}, arena_id.ArenaId.{ArenaId}, refusal.Refusal.{Refusal}}}
use Rattle.fm_base.specs.{declared.refusal.Refusal.TheVariants.{IndexOut, WrongThread, Closed}, Calls.{Entry}, Visits.{Acts, Tries}}
use Rattle.fm_base.proofs.Faith.{Makes-alone}
use Rattle.fm_base_bytes.specs.Bytes.{number_of}
use Rattle.fm_lanes.specs.{declared.{order.Order.{Order}, value.Value.{Value}, value_kind.ValueKind.{ValueKind}}, Coding.{value_of, bytes_of_value}}
use Rattle.fm_lanes.specs.{Kind.{width_of}, Value.{kind_of}}
use Rattle.fm_lanes.specs.declared.value_kind.ValueKind.TheVariants as kind
use Rattle.fm_base_bytes.proofs.Powers.{IsPowerOfTwo-from_test}
use Rattle.fm_layout.{specs.{Tree.{Tree}, WellFormed.{IsWellFormed}}, proofs.Sound.{positive_power}}
use Rattle.fm_path.{specs.{Resolution.{Resolution, StaysInside}, declared.value_spec.ValueSpec.{ValueSpec}}, proofs.Resolving.{stays_inside}}
use Rattle.fm_path_meaning.{specs.Walk.{offset_at}, proofs.Inside.{divides_from, divides_gives, divides_add, divides_trans}}
use Rattle.fm_segment.specs.Region.{Region}
use Rattle.fm_segment_access.{specs.Found.{DoesAt}, proofs.{Causes.{never}, Values.{kind_of-decoded}, Keeping.{read_kept}}}
use Rattle.fm_handle.specs.{Access.{DoesVisit, Wins}, Acts.{Exchanges, puts, finds_another, CutOff, looked, missed, at_read, at_swap, with_value, sum_of}}
use Rattle.fm_handle.specs.Place.{if_writable, if_rooted, value_place, place_of, writable_place_of, update_place_of, can_update, fills_word, is_word, is_int_or_long, is_long, is_little}
use Rattle.fm_handle.proofs.{Causes.{tested, rooted}, Places.{rooted_is, both_true, multiple, word_by_kind}, Updating.{kind_of-sum_of, small_value}}
use Rattle.fm_segment_laws.specs.Handles.{DoesCall, gets, sets, sets_long, compares_and_sets, exchanges, exchanges_long, adds, adds_long, HandlesAreTidy, LoneHandlesAreTidy, PathsStayInside}
use Rattle.fm_segment_laws.proofs.Staying.{StayBelow, ActBelow, stay_none, stay_refused, stay_visit, stay_kept, tries_below, tidy_by, tidy_alone}
use Rattle.fm_segment_laws.proofs.{Tidying.{writable_on, supported_on}, Putting.{value_stays}}

-- ---- where the value lies

-- the value lies in the segment, at a multiple of its alignment
record Lies (h : Resolution) (r : Region) (place : ℕ) : Type 0 where
  inside : place + width_of h.value.kind ≤ r.first + r.size
  power : is_power_of_two h.value.alignment ≡ true
  aligned : place % h.value.alignment ≡ 0

lies : (base : ℕ) (is : List ℕ) (h : Resolution) (r : Region) (p : ℕ) → StaysInside h → length is ≡ length h.dims → writable_place_of base is h r ≡ Ok p
    → Lies h r p
lies base is h r p s len e =
    elim (tested 0 h.dims is (if_writable r (if_rooted base h r (Ok (value_place base is h r)))) len) [
      | inl all ↦
          let here = writable_on r.read_only (if_rooted base h r (Ok (value_place base is h r))) p (sym all.1 ∙ e) in
          let f = rooted base h r only_caller (value_place base is h r) p here in
          let at = rooted_is base is h r p here in
          let inside = s.inside is all.0 in
          let fits = s.aligned is all.0 in
          let pos = positive_power h.value.alignment (IsPowerOfTwo-from_test h.value.alignment fits.power) in
          let of_root = divides_trans h.value.alignment h.root_alignment (r.first + base) (divides_from h.value.alignment h.root_alignment fits.root)
          (divides_from h.root_alignment (r.first + base) f.1) in
          let of_value = divides_from h.value.alignment (offset_at h.offset h.dims is) fits.offset in
          record {
            inside = (let i = f.0 in omega arith);
            power = fits.power;
            aligned = subst (λ (n : ℕ). n % h.value.alignment ≡ 0) at
                (divides_gives h.value.alignment (r.first + base + offset_at h.offset h.dims is) pos
                (divides_add h.value.alignment (r.first + base) (offset_at h.offset h.dims is) of_root of_value));
          }
      | inr some ↦ never p (IndexOut some.0) (sym e ∙ some.2)
    ]

-- ---- in one word

long_width : (k : ValueKind) → is_long k ≡ true → width_of k ≡ 8
long_width kind.Long is = refl
long_width k is = absurd (let no : ⊥ = cc in no)

-- a value that can be updated
updated_in : (h : Resolution) (r : Region) (p : ℕ) → Lies h r p → can_update h.value ≡ true → p % 8 + width_of h.value.kind ≤ 8
updated_in h r p l e =
    let both = both_true (is_int_or_long h.value.kind) (nat_le (width_of h.value.kind) h.value.alignment) e in
    word_by_kind h.value.kind h.value.alignment p (IsPowerOfTwo-from_test h.value.alignment l.power) l.aligned both.0
    (leb-true (width_of h.value.kind) h.value.alignment both.1)

-- a long that fills a word
fills_in : (h : Resolution) (r : Region) (p : ℕ) → Lies h r p → fills_word h.value ≡ true → 8 * (p / 8) + 8 ≤ r.first + r.size
fills_in h r p l e =
    let both = both_true (is_long h.value.kind) (nat_le 8 h.value.alignment) e in
    let even = multiple p 8 h.value.alignment (3, refl) (IsPowerOfTwo-from_test h.value.alignment l.power) (leb-true 8 h.value.alignment both.1) l.aligned in
    let width : width_of h.value.kind ≡ 8 = long_width h.value.kind both.0 in
    let inside = l.inside in
    omega arith

-- ---- calls at a place

at_stays : {X : Type 0} (a : ArenaId) (bound : ℕ) (found : Result ℕ Refusal) (Does : ℕ → Result X Refusal → List Entry
    → Type 0) (result : Result X Refusal) (own : List Entry)
    → ((p : ℕ) → found ≡ Ok p → Does p result own → StayBelow a bound own) → DoesAt found Does result own → StayBelow a bound own
at_stays a bound (Err e) Does result own k d = stay_none a bound own d.1
at_stays a bound (Ok p) Does result own k d = k p refl d

visit_stays : {X : Type 0} (a : ArenaId) (bound : ℕ) (c : Caller) (Give : X → Acts → Type 0) (result : Result X Refusal) (own : List Entry)
    → ((x : X) (acts : Acts) → Give x acts → ActBelow a bound acts) → DoesVisit c a Give result own → StayBelow a bound own
visit_stays a bound c Give (Ok x) own k d =
    subst (λ (es : List Entry). StayBelow a bound es) (sym d.1.visits) (stay_visit a bound c a d.1.acts (k x d.1.acts d.1.are))
visit_stays a bound c Give (Err WrongThread) own k d = stay_none a bound own d.1
visit_stays a bound c Give (Err Closed) own k d = stay_refused a bound c a own d.1
visit_stays a bound c Give (Err e) own k d = absurd d

-- ---- updates

-- what was given up changed nothing
cut_below : (a : ArenaId) (bound : ℕ) (word : ℕ) (GivesUp : ℕ → Type 0) (found : ℕ) (acts : Acts) → CutOff a word GivesUp found acts → ActBelow a bound acts
cut_below a bound word GivesUp found acts (looked now rest d) = (tt, cut_below a bound word GivesUp found rest d)
cut_below a bound word GivesUp found acts (missed now old new rest n d) = ((λ e. absurd (n e)), cut_below a bound word GivesUp found rest d)
cut_below a bound word GivesUp found acts (at_read g) = (tt, tt)
cut_below a bound word GivesUp found acts (at_swap old new n g) = ((λ e. absurd (n e)), tt)

-- tries that put a value
value_below : (a : ArenaId) (bound place : ℕ) (o : Order) (v : Value) (word : ℕ) (acts : Acts) → place % 8 + width_of (kind_of v) ≤ 8
    → place + width_of (kind_of v) ≤ bound
    → Tries a (place / 8) (with_value o v (place % 8)) word acts → ActBelow a bound acts
value_below a bound place o v word acts fits ends t =
    tries_below a bound place (width_of (kind_of v)) (number_of (bytes_of_value o v)) word acts (small_value o v) fits ends t

exchange_below : (a : ArenaId) (bound place : ℕ) (o : Order) (expected v found : Value) (acts : Acts) → place % 8 + width_of (kind_of v) ≤ 8
    → place + width_of (kind_of v) ≤ bound
    → Exchanges o a place expected v found acts → ActBelow a bound acts
exchange_below a bound place o expected v found acts fits ends (puts word tried e t) = value_below a bound place o v word tried fits ends t
exchange_below a bound place o expected v found acts fits ends (finds_another word x tried e n d) = cut_below a bound (place / 8) _ word tried d

wins_below : (a : ArenaId) (bound place : ℕ) (o : Order) (expected v : Value) (won : Bool) (acts : Acts) → place % 8 + width_of (kind_of v) ≤ 8
    → place + width_of (kind_of v) ≤ bound
    → Wins (Exchanges o a place expected v) expected won acts → ActBelow a bound acts
wins_below a bound place o expected v true acts fits ends w = exchange_below a bound place o expected v expected acts fits ends w
wins_below a bound place o expected v false acts fits ends w = exchange_below a bound place o expected v w.0 acts fits ends w.2

-- ---- every call

module _ (c : Caller) (h : Resolution) (r : Region) (base : ℕ) (is : List ℕ) (s : StaysInside h) (len : length is ≡ length h.dims) where
  -- where the value of an update lies, and that the call works on it
  update_at : (works : ValueSpec → Bool) (p : ℕ) → update_place_of works base is h r ≡ Ok p → (works h.value ≡ true) × Lies h r p
  update_at works p e = let both = supported_on (works h.value) (writable_place_of base is h r) p e in (both.0, lies base is h r p s len both.1)

  -- a value of the handle's kind that is put in tries
  fits_at : (v : Value) (p : ℕ) → kind_of v ≡ h.value.kind → update_place_of can_update base is h r ≡ Ok p
      → (p % 8 + width_of (kind_of v) ≤ 8) × (p + width_of (kind_of v) ≤ r.first + r.size)
  fits_at v p k e =
      let u = update_at can_update p e in
      let same : width_of (kind_of v) ≡ width_of h.value.kind = ap width_of k in
      let word = updated_in h r p u.1 u.0 in
      let inside = u.1.inside in
      (omega arith, omega arith)

  -- an update, where its acts stay below
  update_stays : {X : Type 0} (works : ValueSpec → Bool) (Give : ℕ → X → Acts → Type 0) (result : Result X Refusal) (own : List Entry)
      → ((p : ℕ) (x : X) (acts : Acts) → update_place_of works base is h r ≡ Ok p → Give p x acts → ActBelow r.arena (r.first + r.size) acts)
      → DoesAt (update_place_of works base is h r) (λ p. DoesVisit c r.arena (Give p)) result own → StayBelow r.arena (r.first + r.size) own
  update_stays works Give result own k d =
      at_stays r.arena (r.first + r.size) (update_place_of works base is h r) _ result own
      (λ p e g. visit_stays r.arena (r.first + r.size) c (Give p) result own (λ x acts a. k p x acts e a) g) d

  -- a value of the handle's kind is put so
  puts_at : {X : Type 0} (Give : ℕ → X → Acts → Type 0) (result : Result X Refusal) (own : List Entry) (v : X → Value)
      → ((x : X) (p : ℕ) (acts : Acts) → Give p x acts → kind_of (v x) ≡ h.value.kind)
      → ((p : ℕ) (x : X) (acts : Acts) → p % 8 + width_of (kind_of (v x)) ≤ 8 → p + width_of (kind_of (v x)) ≤ r.first + r.size → Give p x acts
      → ActBelow r.arena (r.first + r.size) acts)
      → DoesAt (update_place_of can_update base is h r) (λ p. DoesVisit c r.arena (Give p)) result own → StayBelow r.arena (r.first + r.size) own
  puts_at Give result own v kind k d =
      update_stays can_update Give result own
      (λ p x acts e a. let f = fits_at (v x) p (kind x p acts a) e in k p x acts f.0 f.1 a) d

  call_stays : (own : List Entry) → DoesCall c h r base is own → StayBelow r.arena (r.first + r.size) own
  call_stays own (gets result d) = at_stays r.arena (r.first + r.size) (place_of base is h r) _ result own
      (λ p e g. read_kept (stay_kept r.arena (r.first + r.size) c) r.arena (value_of h.value.kind h.value.order) p (width_of h.value.kind) result own g) d
  call_stays own (sets v result k d) = at_stays r.arena (r.first + r.size) (writable_place_of base is h r) _ result own
      (λ p e g. value_stays c r.arena (r.first + r.size) p h.value.kind h.value.order v result own k (lies base is h r p s len e).inside g) d
  call_stays own (sets_long v result d) = update_stays fills_word _ result own
      (λ p x acts e a. let u = update_at fills_word p e in rw a ((refl, fills_in h r p u.1 u.0), tt)) d
  call_stays own (compares_and_sets expected v result k d) = puts_at _ result own (λ x. v) (λ x p acts a. k)
      (λ p x acts fits ends a. wins_below r.arena (r.first + r.size) p h.value.order expected v x acts fits ends a) d
  call_stays own (exchanges expected v result k d) = puts_at _ result own (λ x. v) (λ x p acts a. k)
      (λ p x acts fits ends a. exchange_below r.arena (r.first + r.size) p h.value.order expected v x acts fits ends a) d
  call_stays own (exchanges_long expected v result d) = update_stays fills_word _ result own
      (λ p x acts e a. let u = update_at fills_word p e in let fits = fills_in h r p u.1 u.0 in
      rw a.swaps ((λ is_old. (refl, (λ at l past. absurd (omega arith)))), tt)) d
  call_stays own (adds delta result k d) = puts_at _ result own (λ x. sum_of x delta)
      (λ x p acts a. kind_of-sum_of x delta ∙ (ap kind_of a.value ∙ (kind_of-decoded (kind_of delta) _ ∙ k)))
      (λ p x acts fits ends a. value_below r.arena (r.first + r.size) p h.value.order (sum_of x delta) a.word acts fits ends a.tries) d
  call_stays own (adds_long delta result d) = update_stays is_word _ result own
      (λ p x acts e a. let u = update_at is_word p e in
      rw a.adds ((refl, fills_in h r p u.1 (both_true (fills_word h.value) (is_little h.value.order) u.0).0), tt)) d

pub paths_inside : (t : Tree) → IsWellFormed t → PathsStayInside t
paths_inside t well path h i = stays_inside path t h.offset h.dims i.last h.value h.root_size h.root_alignment well i.leads i.value i.root_size i.root_alignment

pub handles_tidy : HandlesAreTidy
handles_tidy h s old new r base is own makes len known call =
    tidy_by old.caller old.limit (r.first + r.size) r.arena old.state makes.all makes.legal known.given
    (subst (λ (es : List Entry). StayBelow r.arena (r.first + r.size) es) (sym makes.by_caller) (call_stays old.caller h r base is s len own call))

pub lone_handles_tidy : LoneHandlesAreTidy
lone_handles_tidy h s old new r base is own makes alone len known call =
    let legal = (Makes-alone old new own alone makes).0 in
    tidy_alone old.limit (r.first + r.size) r.arena old.state own legal known.given (call_stays old.caller h r base is s len own call)
