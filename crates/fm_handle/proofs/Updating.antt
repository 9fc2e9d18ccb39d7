-- What a handle's updates of the only caller do to the bytes of an arena.
use Rattle.std.proofs.Common.{◌≡◌, ◌≢◌, ℕ, ℤ, ◌+◌, ◌*◌, ◌/◌, ◌%◌, ◌^◌, ◌<◌, ◌≤◌, Bool, true, false, MatchBool, List, [], ◌∷◌, ◌++◌, length, take, drop, Ok, Err, refl, sym, ap, subst, ◌∙◌, arith}
use Rattle.fm_base.specs.declared.{caller.Caller.{Caller}, arena_id.ArenaId.{ArenaId}, refusal.Refusal.{Refusal, TheVariants.{Closed, WrongThread}}}
use Rattle.fm_base.specs.{Arenas.{Arena, MayUse, State, arena_of, has_arena, changed, word_in}, Calls.{Leave, Fine, Found, Entry, entry_of}, Does.{DoesEnter}}
use Rattle.fm_base.specs.{Histories.{IsLegal, state_after}, Machine.{entered}, View.{View, Did, IsByItself}, Visits.{Acts, entries_of, visit, Tries}}
use Rattle.fm_base.proofs.{Faith.{Makes-alone}, Lookup.{lookup_changed, swapped_miss}, Making.{IsLegal-split}}
use Rattle.fm_base_bytes.{specs.{Bytes.{bytes_of, number_of, lane}, Words.{bytes_in}}, proofs.Bytes.{bytes_of-lane, bytes_of-number_of, number_of-lt}}
use Rattle.fm_base_bytes.proofs.Words.{length-bytes_in}
use Rattle.fm_lanes.specs.declared.{order.Order.{Order}, value.Value.{Value, TheVariants.{Int, Long}}, value_kind.ValueKind.{ValueKind}}
use Rattle.fm_lanes.specs.{Coding.{value_of, bytes_of_value}, Kind.{width_of}, Value.{kind_of}}
use Rattle.fm_path.specs.declared.value_spec.ValueSpec.{ValueSpec}
use Rattle.fm_segment_access.{specs.{Alone.{bytes_of_arena, StaysOut}, Pieces.{PutsBytes, whole}}, proofs.Alone.{changes}}
use Rattle.fm_segment_access.proofs.Visits.{visit_refused, VisitPuts, acts_visit, visit_puts, tries_put, tries_leave, visit_stays, lane_bytes, not_same}
use Rattle.fm_segment_access.proofs.Values.{AreBytes-value, length-value, kind_of-decoded}
use Rattle.fm_handle.specs.Access.{DoesVisit, OneVisit}
use Rattle.fm_handle.specs.Acts.{CutOff, looked, missed, at_read, at_swap, Exchanges, puts, finds_another, Adds, Stores, value_in, with_value, word_of, sum_of}
use Rattle.fm_handle.{specs.Alone.{value_at, PutsValue, ExchangesValue, SetsExpected, AddsValue}, proofs.Places.{LongAt, kind_fits}}

-- ---- refusals

-- The only caller isn't let in where the arena isn't open to it.
pub visit_shut : {old now : View} {id : ArenaId} (r : Refusal) → IsByItself old → Did old now (DoesEnter old.caller id (Err r)) → StaysOut old now id
visit_shut {old} {now} WrongThread alone d =
    let m = Makes-alone old now d.own alone d.makes in
    record { shut = λ o. d.does.0 o.usable; same = m.1 ∙ ap (state_after old.limit old.state) d.does.1 }
visit_shut {old} {now} {id} Closed alone d =
    let m = Makes-alone old now d.own alone d.makes in
    let v = visit_refused old.limit old.caller old.state id d.own d.does.1 m.0 in
    record { shut = λ o. v.over o.alive; same = m.1 ∙ v.same }
visit_shut r alone d = absurd d.does

-- ---- an update that was made is one visit at the place

-- what the visit of these acts left
pub record VisitOf (old now : View) (id : ArenaId) (acts : Acts) : Type 0 where
  pub legal : IsLegal old.limit old.state (visit old.caller id acts)
  pub inside : IsLegal old.limit (changed old.state id (entered old.caller)) (entries_of old.caller acts)
  pub after : now.state ≡ state_after old.limit old.state (visit old.caller id acts)

pub record VisitBy (old now : View) (id : ArenaId) (AreSo : Acts → Type 0) : Type 0 where
  pub acts : Acts
  pub are : AreSo acts
  pub left : VisitOf old now id acts

pub visit_alone : {old now : View} {id : ArenaId} {AreSo : Acts → Type 0} → Did old now (λ own. MayUse id old.caller × OneVisit old.caller id AreSo own)
    → IsByItself old → VisitBy old now id AreSo
visit_alone {old} {now} {id} d alone =
    let m = Makes-alone old now d.own alone d.makes in
    let one = d.does.1 in
    let s = changed old.state id (entered old.caller) in
    let legal = subst (λ (es : List Entry). IsLegal old.limit old.state es) one.visits m.0 in
    record {
      acts = one.acts;
      are = one.are;
      left = record {
        legal = legal;
        inside = (IsLegal-split old.limit s (entries_of old.caller one.acts) (entry_of old.caller (Leave id) Fine ∷ []) legal.2).0;
        after = m.1 ∙ ap (λ (es : List Entry). state_after old.limit old.state es) one.visits;
      };
    }

-- ---- the value in the word

-- A word means the value that the arena's bytes mean.
pub value_there : (s : State) (c : Caller) (id : ArenaId) (place : ℕ) (k : ValueKind) (o : Order) (word : ℕ) → has_arena s id ≡ true
    → place / 8 < length (arena_of (changed s id (entered c)) id).words → place % 8 + width_of k ≤ 8 → word ≡ word_in (changed s id (entered c)) id (place / 8)
    → value_in k o (place % 8) word ≡ value_of k o (take (width_of k) (drop place (bytes_of_arena s id)))
value_there s c id place k o word known within fits is =
    let words = (arena_of (changed s id (entered c)) id).words in
    let same : (arena_of (changed s id (entered c)) id).words ≡ (arena_of s id).words =
    ap (λ (a : Arena). a.words) (lookup_changed s id (entered c) (λ a. refl) known) in
    ap (value_of k o)
    (sym (bytes_of-lane 8 (place % 8) (width_of k) word fits)
    ∙ lane_bytes words place (width_of k) (lane word (place % 8) (width_of k)) word within fits is refl
    ∙ ap (λ ws. take (width_of k) (drop place (bytes_in ws))) same)

-- A value's bytes make a number of its width.
pub small_value : (o : Order) (v : Value) → number_of (bytes_of_value o v) < 2 ^ (8 * width_of (kind_of v))
small_value o v =
    let bytes = bytes_of_value o v in
    subst (λ (n : ℕ). number_of (bytes_of_value o v) < 2 ^ (8 * n)) (length-value o v) (number_of-lt bytes (AreBytes-value o v))

-- A visit that puts a value's number puts the value.
pub puts_value : {old now : View} (spec : ValueSpec) {id : ArenaId} {place : ℕ} {v : Value} → kind_of v ≡ spec.kind → place % 8 + width_of spec.kind ≤ 8
    → VisitPuts old.state now.state id place (width_of (kind_of v)) (number_of (bytes_of_value spec.order v)) → PutsValue old now spec id place v
puts_value {old} {now} spec {id} {place} {v} kind fits put =
    let bytes = bytes_of_value spec.order v in
    let w = width_of (kind_of v) in
    let all = bytes_of_arena old.state id in
    let n : length (bytes_of_value spec.order v) ≡ width_of (kind_of v) = length-value spec.order v in
    let b : bytes_of (width_of (kind_of v)) (number_of (bytes_of_value spec.order v)) ≡ bytes_of_value spec.order v =
    ap (λ k. bytes_of k (number_of bytes)) (sym n) ∙ bytes_of-number_of bytes (AreBytes-value spec.order v) in
    let within = put.within in
    record {
      bytes = changes old now id place bytes put.known (record {
        words = put.words;
        state = put.state;
        bytes = put.bytes
            ∙ ap (λ bs. take place all ++ (bs ++ drop (place + w) all)) b
            ∙ ap (λ k. take place all ++ (bytes ++ drop (place + k) all)) (sym n);
      });
      within = omega (arith, length-bytes_in (arena_of old.state id).words);
    }

-- ---- tries

-- the word that tries found means the value there, and v was put
record Tried (old now : View) (spec : ValueSpec) (id : ArenaId) (place word : ℕ) (v : Value) : Type 0 where
  pub value : value_in spec.kind spec.order (place % 8) word ≡ value_at old.state spec id place
  pub puts : PutsValue old now spec id place v

tried : {old now : View} {spec : ValueSpec} {id : ArenaId} {place word : ℕ} {v : Value} {acts : Acts} → kind_of v ≡ spec.kind
    → place % 8 + width_of spec.kind ≤ 8 → Tries id (place / 8) (with_value spec.order v (place % 8)) word acts → VisitOf old now id acts
    → Tried old now spec id place word v
tried {old} {now} {spec} {id} {place} {word} {v} {acts} kind fits t left =
    let c = old.caller in
    let s = old.state in
    let s1 = changed old.state id (entered old.caller) in
    let w = width_of (kind_of v) in
    let n = number_of (bytes_of_value spec.order v) in
    let room : place % 8 + width_of (kind_of v) ≤ 8 = subst (λ (k : ValueKind). place % 8 + width_of k ≤ 8) (sym kind) fits in
    let small = small_value spec.order v in
    let put = acts_visit old.limit c s id place w n acts (λ l. tries_put old.limit c s1 id place w n word acts t room small l) left.legal in
    let there = tries_leave old.limit c s1 id (place / 8) (with_value spec.order v (place % 8)) word acts t left.inside in
    record {
      value = value_there s c id place spec.kind spec.order word put.known there.within fits there.is;
      puts = puts_value spec kind fits (subst (λ (u : State). VisitPuts old.state u id place w n) (sym left.after) put);
    }

-- what tries leave that were given up
pub record CutLeaves (s t : State) (id : ArenaId) (word found : ℕ) : Type 0 where
  pub within : word < length (arena_of s id).words
  pub is : found ≡ word_in s id word
  pub same : t ≡ s

pub cut_leaves : (limit : ℕ) (c : Caller) (s : State) (id : ArenaId) (word : ℕ) (GivesUp : ℕ → Type 0) (found : ℕ) (acts : Acts) → CutOff id word GivesUp found acts
    → IsLegal limit s (entries_of c acts) → CutLeaves s (state_after limit s (entries_of c acts)) id word found
cut_leaves limit c s id word GivesUp found acts (looked now rest t) legal = cut_leaves limit c s id word GivesUp found rest t legal.2
cut_leaves limit c s id word GivesUp found acts (missed now old new rest n t) legal =
    let Here : State → Type 0 = λ u. IsLegal limit u (entries_of c rest) → CutLeaves s (state_after limit u (entries_of c rest)) id word found in
    subst Here (sym (swapped_miss s id word old new now (not_same now old n))) (λ l. cut_leaves limit c s id word GivesUp found rest t l) legal.2
cut_leaves limit c s id word GivesUp found acts (at_read g) legal =
    let reach = legal.0 in
    let is : Found found ≡ Found (word_in s id word) = legal.1 in
    record { within = reach.within; is = (cc); same = refl }
cut_leaves limit c s id word GivesUp found acts (at_swap old new n g) legal =
    let reach = legal.0 in
    let is : Found found ≡ Found (word_in s id word) = legal.1 in
    record { within = reach.within; is = (cc); same = swapped_miss s id word old new found (not_same found old n) }

-- ---- exchanges

exchanged : {old now : View} {spec : ValueSpec} {id : ArenaId} {place : ℕ} {expected v found : Value} {acts : Acts} → kind_of v ≡ spec.kind
    → place % 8 + width_of spec.kind ≤ 8 → Exchanges spec.order id place expected v found acts → VisitOf old now id acts
    → ExchangesValue old now spec id place expected v found
exchanged {spec = spec} {place = place} kind fits (puts word these value t) left =
    let d = tried {spec = spec} kind fits t left in
    record {
      value = sym value ∙ ap (λ (k : ValueKind). value_in k spec.order (place % 8) word) kind ∙ d.value;
      puts = λ e. d.puts;
      stays = λ n. absurd (n refl);
    }
exchanged {old} {now} {spec} {id} {place} {expected} {v} {found} {acts} kind fits (finds_another word other these value differs cut) left =
    let c = old.caller in
    let s = old.state in
    let s1 = changed old.state id (entered old.caller) in
    let GivesUp : ℕ → Type 0 = λ word. value_in (kind_of v) spec.order (place % 8) word ≢ expected in
    let there = cut_leaves old.limit c s1 id (place / 8) GivesUp word acts cut left.inside in
    record {
      value = value
          ∙ ap (λ (k : ValueKind). value_in k spec.order (place % 8) word) kind
          ∙ value_there s c id place spec.kind spec.order word left.legal.0.0 there.within fits there.is;
      puts = λ e. absurd (differs e);
      stays = λ n. left.after
          ∙ visit_stays old.limit c s id acts (λ l. (cut_leaves old.limit c s1 id (place / 8) GivesUp word acts cut l).same) left.legal;
    }

module _ {old now : View} {spec : ValueSpec} {id : ArenaId} {place : ℕ} {expected v found : Value} where
  -- An exchange of the only caller.
  pub exchange_alone : kind_of v ≡ spec.kind → place % 8 + width_of spec.kind ≤ 8
      → Did old now (DoesVisit old.caller id (Exchanges spec.order id place expected v) (Ok found)) → IsByItself old
      → ExchangesValue old now spec id place expected v found
  exchange_alone kind fits d alone = let o = visit_alone d alone in exchanged kind fits o.are o.left

  -- An exchange, seen by whether it won.
  pub expected_set : (b : Bool) → MatchBool b (found ≡ expected) (found ≢ expected) → ExchangesValue old now spec id place expected v found
      → SetsExpected old now spec id place expected v b
  expected_set true is e = (sym is ∙ e.value, e.puts is)
  expected_set false is e = ((λ q. is (e.value ∙ sym q)), e.stays is)

-- ---- sums

-- A sum is of its first value's kind.
pub kind_of-sum_of : (a b : Value) → kind_of (sum_of a b) ≡ kind_of a
kind_of-sum_of (Int a) (Int b) = refl
kind_of-sum_of (Long a) (Long b) = refl
kind_of-sum_of a b = refl

-- A sum that the only caller puts.
pub add_alone : {old now : View} {spec : ValueSpec} {id : ArenaId} {place : ℕ} {delta x : Value} → kind_of delta ≡ spec.kind
    → place % 8 + width_of spec.kind ≤ 8
    → Did old now (DoesVisit old.caller id (Adds spec.order id place delta) (Ok x)) → IsByItself old → AddsValue old now spec id place delta x
add_alone {spec = spec} {place = place} {delta} {x} kind fits d alone =
    let o = visit_alone d alone in
    let a = o.are in
    let same : kind_of (sum_of x delta) ≡ spec.kind =
    kind_of-sum_of x delta ∙ ap kind_of a.value ∙ kind_of-decoded (kind_of delta) _ ∙ kind in
    let t = tried {spec = spec} same fits a.tries o.left in
    record {
      value = a.value ∙ ap (λ (k : ValueKind). value_in k spec.order (place % 8) a.word) kind ∙ t.value;
      puts = t.puts;
    }

-- ---- longs

-- A long that the only caller stores.
pub store_alone : {old now : View} (spec : ValueSpec) {id : ArenaId} {place : ℕ} {z : ℤ} (u : Unit {0}) → LongAt spec place
    → Did old now (DoesVisit old.caller id (λ u. Stores id place (word_of spec.order z)) (Ok u)) → IsByItself old → PutsValue old now spec id place (Long z)
store_alone {old} {now} spec {id} {place} {z} u long d alone =
    let o = visit_alone d alone in
    let n = word_of spec.order z in
    let puts = subst (λ (these : Acts). PutsBytes id place 8 n these) (sym o.are) (whole refl) in
    let put = visit_puts old.limit old.caller old.state id place 8 n (visit old.caller id o.acts) (record { acts = o.acts; puts = puts; visits = refl })
    long.fits (small_value spec.order (Long z)) o.left.legal in
    puts_value spec (sym long.kind) (kind_fits spec place long) (subst (λ (t : State). VisitPuts old.state t id place 8 n) (sym o.left.after) put)
