-- What a handle's updates by the only caller, inside an arena, do to its bytes.
use Rattle.std.proofs.Common.{◌≡◌, ◌≢◌, ℕ, ℤ, ◌+◌, ◌/◌, ◌%◌, ◌^◌, ◌<◌, ◌≤◌, ◌==◌, true, List, ◌++◌, length, take, drop, slice_set, refl, sym, ap, subst, ◌∙◌, arith}
use Rattle.std.proofs.lemmas.Bool.Decides.{nat_tests}
use Rattle.fm_base.specs.declared.{arena_id.ArenaId.{ArenaId}}
use Rattle.fm_base.specs.{Arenas.{State, arena_of, word_in}, Calls.{Found, Entry}, Histories.{IsLegal, state_after}}
use Rattle.fm_base.specs.{View.{View, Did, IsByItself}, Visits.{Acts, entries_of, Tries}}
use Rattle.fm_base.proofs.{Faith.{Makes-alone}, Lookup.{swapped_hit, swapped_miss}}
use Rattle.fm_base_bytes.{specs.Bytes.{bytes_of, number_of, lane}, proofs.Bytes.{bytes_of-lane, bytes_of-number_of}}
use Rattle.fm_base_bytes.proofs.Words.{length-bytes_in}
use Rattle.fm_lanes.specs.declared.{order.Order.{Order, TheVariants.{Little}}, value.Value.{Value, TheVariants.{Long}}, value_kind.ValueKind.{ValueKind}}
use Rattle.fm_lanes.specs.{Coding.{value_of, bytes_of_value}, Kind.{width_of}, Value.{kind_of}}
use Rattle.fm_lanes.specs.declared.value_kind.ValueKind.TheVariants as kind
use Rattle.fm_path.specs.declared.value_spec.ValueSpec.{ValueSpec}
use Rattle.fm_segment_access.{specs.{Alone.{bytes_of_arena}, Pieces.{PutsBytes, whole}}, proofs.{Alone.{changes}, Values.{AreBytes-value, length-value, kind_of-decoded}}}
use Rattle.fm_segment_access.proofs.Visits.{ActsPut, acts_put, lane_bytes, not_same, tries_leave, tries_put, written_is}
use Rattle.fm_handle.specs.Acts.{Exchanges, puts, finds_another, Adds, AddsLong, ExchangesLong, Stores, value_in, with_value, word_of, sum_of}
use Rattle.fm_handle.specs.Alone.{value_at, PutsValue, ExchangesValue, AddsValue}
use Rattle.fm_handle.proofs.{Longs.{put_by, sum_number, word_again}, Places.{LongAt, kind_fits}, Updating.{cut_leaves, kind_of-sum_of, small_value}}
use Rattle.fm_visit.specs.Acts.{HasActs}

-- what the only caller's acts left
pub record Made (old now : View) (acts : Acts) : Type 0 where
  pub legal : IsLegal old.limit old.state (entries_of old.caller acts)
  pub after : now.state ≡ state_after old.limit old.state (entries_of old.caller acts)

pub made : {old now : View} {Do : Acts → Type 0} → (d : Did old now (HasActs old.caller Do)) → IsByItself old → Made old now d.does.acts
made {old} {now} d h =
    let m = Makes-alone old now d.own h d.makes in
    record {
      legal = subst (λ (es : List Entry). IsLegal old.limit old.state es) d.does.entries m.0;
      after = m.1 ∙ ap (state_after old.limit old.state) d.does.entries;
    }

-- A word means the value that the arena's bytes mean.
value_there : (s : State) (id : ArenaId) (place : ℕ) (k : ValueKind) (o : Order) (word : ℕ) → place / 8 < length (arena_of s id).words
    → place % 8 + width_of k ≤ 8 → word ≡ word_in s id (place / 8)
    → value_in k o (place % 8) word ≡ value_of k o (take (width_of k) (drop place (bytes_of_arena s id)))
value_there s id place k o word within fits is =
    ap (value_of k o)
    (sym (bytes_of-lane 8 (place % 8) (width_of k) word fits)
    ∙ lane_bytes (arena_of s id).words place (width_of k) (lane word (place % 8) (width_of k)) word within fits is refl)

-- Acts that put a value's number put the value.
puts_number : {old now : View} (spec : ValueSpec) {id : ArenaId} {place : ℕ} {v : Value} → kind_of v ≡ spec.kind → place % 8 + width_of spec.kind ≤ 8
    → ActsPut old.state now.state old.caller id place (width_of (kind_of v)) (number_of (bytes_of_value spec.order v)) → PutsValue old now spec id place v
puts_number {old} {now} spec {id} {place} {v} kind fits put =
    let bytes = bytes_of_value spec.order v in
    let w = width_of (kind_of v) in
    let all = bytes_of_arena old.state id in
    let n : length (bytes_of_value spec.order v) ≡ width_of (kind_of v) = length-value spec.order v in
    let b : bytes_of (width_of (kind_of v)) (number_of (bytes_of_value spec.order v)) ≡ bytes_of_value spec.order v =
    ap (λ k. bytes_of k (number_of bytes)) (sym n) ∙ bytes_of-number_of bytes (AreBytes-value spec.order v) in
    let within = put.within in
    record {
      bytes = changes old now id place bytes put.known (record {
        words = slice_set (arena_of old.state id).words (place / 8) put.word;
        state = put.after ∙ written_is old.state id (place / 8) put.word;
        bytes = put.bytes
            ∙ ap (λ bs. take place all ++ (bs ++ drop (place + w) all)) b
            ∙ ap (λ k. take place all ++ (bytes ++ drop (place + k) all)) (sym n);
      });
      within = omega (arith, length-bytes_in (arena_of old.state id).words);
    }

-- ---- tries

-- the word that tries found means the value there, and v was put
record Tried (old now : View) (spec : ValueSpec) (id : ArenaId) (place word : ℕ) (v : Value) : Type 0 where
  pub value : value_in spec.kind spec.order (place % 8) word ≡ value_at old.state spec id place
  pub puts : PutsValue old now spec id place v

tried : {old now : View} {spec : ValueSpec} {id : ArenaId} {place word : ℕ} {v : Value} {acts : Acts} → kind_of v ≡ spec.kind
    → place % 8 + width_of spec.kind ≤ 8 → Tries id (place / 8) (with_value spec.order v (place % 8)) word acts → Made old now acts
    → Tried old now spec id place word v
tried {old} {now} {spec} {id} {place} {word} {v} {acts} kind fits t m =
    let c = old.caller in
    let s = old.state in
    let w = width_of (kind_of v) in
    let n = number_of (bytes_of_value spec.order v) in
    let room : place % 8 + width_of (kind_of v) ≤ 8 = subst (λ (k : ValueKind). place % 8 + width_of k ≤ 8) (sym kind) fits in
    let put = tries_put old.limit c s id place w n word acts t room (small_value spec.order v) m.legal in
    let there = tries_leave old.limit c s id (place / 8) (with_value spec.order v (place % 8)) word acts t m.legal in
    record {
      value = value_there s id place spec.kind spec.order word there.within fits there.is;
      puts = puts_number spec kind fits (subst (λ (u : State). ActsPut old.state u c id place w n) (sym m.after) put);
    }

exchanged : {old now : View} {spec : ValueSpec} {id : ArenaId} {place : ℕ} {expected v found : Value} {acts : Acts} → kind_of v ≡ spec.kind
    → place % 8 + width_of spec.kind ≤ 8 → Exchanges spec.order id place expected v found acts → Made old now acts
    → ExchangesValue old now spec id place expected v found
exchanged {spec = spec} {place = place} kind fits (puts word these value t) m =
    let d = tried {spec = spec} kind fits t m in
    record {
      value = sym value ∙ ap (λ (k : ValueKind). value_in k spec.order (place % 8) word) kind ∙ d.value;
      puts = λ e. d.puts;
      stays = λ n. absurd (n refl);
    }
exchanged {old} {now} {spec} {id} {place} {expected} {v} {found} {acts} kind fits (finds_another word other these value differs cut) m =
    let GivesUp : ℕ → Type 0 = λ word. value_in (kind_of v) spec.order (place % 8) word ≢ expected in
    let there = cut_leaves old.limit old.caller old.state id (place / 8) GivesUp word acts cut m.legal in
    record {
      value = value
          ∙ ap (λ (k : ValueKind). value_in k spec.order (place % 8) word) kind
          ∙ value_there old.state id place spec.kind spec.order word there.within fits there.is;
      puts = λ e. absurd (differs e);
      stays = λ n. m.after ∙ there.same;
    }

-- The long in a word.
long_there : (s : State) (spec : ValueSpec) (id : ArenaId) (place word : ℕ) → LongAt spec place → place / 8 < length (arena_of s id).words
    → word ≡ word_in s id (place / 8) → value_in kind.Long spec.order 0 word ≡ value_at s spec id place
long_there s spec id place word long within is =
    let fits = long.fits in
    let even : 0 ≡ place % 8 = omega arith in
    ap (λ n. value_in kind.Long spec.order n word) even
    ∙ ap (λ (k : ValueKind). value_in k spec.order (place % 8) word) (sym long.kind)
    ∙ value_there s id place spec.kind spec.order word within (kind_fits spec place long) is

-- ---- the calls

module _ {old now : View} {spec : ValueSpec} {id : ArenaId} {place : ℕ} where
  -- An exchange,
  pub exchange_alone : {expected v found : Value} → kind_of v ≡ spec.kind → place % 8 + width_of spec.kind ≤ 8
      → Did old now (HasActs old.caller (Exchanges spec.order id place expected v found)) → IsByItself old
      → ExchangesValue old now spec id place expected v found
  exchange_alone kind fits d h = exchanged kind fits d.does.are (made d h)

  -- a sum,
  pub add_alone : {delta x : Value} → kind_of delta ≡ spec.kind → place % 8 + width_of spec.kind ≤ 8
      → Did old now (HasActs old.caller (Adds spec.order id place delta x)) → IsByItself old → AddsValue old now spec id place delta x
  add_alone {delta} {x} kind fits d h =
      let a = d.does.are in
      let same : kind_of (sum_of x delta) ≡ spec.kind =
      kind_of-sum_of x delta ∙ ap kind_of a.value ∙ kind_of-decoded (kind_of delta) _ ∙ kind in
      let t = tried {spec = spec} same fits a.tries (made d h) in
      record {
        value = a.value ∙ ap (λ (k : ValueKind). value_in k spec.order (place % 8) a.word) kind ∙ t.value;
        puts = t.puts;
      }

  -- a long that is stored,
  pub store_alone : {z : ℤ} → LongAt spec place → Did old now (HasActs old.caller (Stores id place (word_of spec.order z))) → IsByItself old
      → PutsValue old now spec id place (Long z)
  store_alone {z} long d h =
      let m = made d h in
      let n = word_of spec.order z in
      let these = subst (λ (acts : Acts). PutsBytes id place 8 n acts) (sym d.does.are) (whole refl) in
      let put = acts_put old.limit old.caller old.state id place 8 n d.does.acts these long.fits (small_value spec.order (Long z)) m.legal in
      puts_number spec (sym long.kind) (kind_fits spec place long) (subst (λ (t : State). ActsPut old.state t old.caller id place 8 n) (sym m.after) put)

  -- an exchange of whole words,
  pub exchange_long_alone : {expected v x : ℤ} → LongAt spec place → value_in kind.Long spec.order 0 (word_of spec.order expected) ≡ Long expected
      → Did old now (HasActs old.caller (ExchangesLong spec.order id place expected v x)) → IsByItself old
      → ExchangesValue old now spec id place (Long expected) (Long v) (Long x)
  exchange_long_alone {expected} {v} {x} long back d h =
      let s = old.state in
      let a = word_of spec.order expected in
      let b = word_of spec.order v in
      let e = d.does.are in
      let word = e.word in
      let m = subst (Made old now) e.swaps (made d h) in
      let is : Found e.word ≡ Found (word_in old.state id (place / 8)) = m.legal.1 in
      record {
        value = e.value ∙ long_there old.state spec id place word long m.legal.0.within (cc);
        puts = λ q.
            let same : e.word ≡ word_of spec.order expected =
            sym (word_again spec.order x word e.small e.value) ∙ ap (λ (y : Value). number_of (bytes_of_value spec.order y)) q in
            let hit : (e.word == word_of spec.order expected) ≡ true = grind (arith, nat_tests) in
            let put = put_by place b m.legal.0.under_way m.legal.0.within long.fits (m.after ∙ swapped_hit s id (place / 8) a b word hit) in
            puts_number spec (sym long.kind) (kind_fits spec place long) put;
        stays = λ n.
            let other : ¬ (e.word ≡ word_of spec.order expected) = λ q. n (e.value ∙ ap (value_in kind.Long spec.order 0) q ∙ back) in
            m.after ∙ swapped_miss s id (place / 8) a b word (not_same word a other);
      }

  -- and a sum of whole words.
  pub add_long_alone : {delta x : ℤ} → LongAt spec place → spec.order ≡ Little → Did old now (HasActs old.caller (AddsLong id place delta x)) → IsByItself old
      → AddsValue old now spec id place (Long delta) (Long x)
  add_long_alone {delta} {x} long little d h =
      let n = word_of Little delta in
      let e = d.does.are in
      let word = e.word in
      let m = subst (Made old now) e.adds (made d h) in
      let is : Found e.word ≡ Found (word_in old.state id (place / 8)) = m.legal.1 in
      let sum : (e.word + word_of Little delta) % 2 ^ 64 ≡ number_of (bytes_of_value spec.order (sum_of (Long x) (Long delta))) =
      sum_number x delta word e.value ∙ ap (λ (o : Order). number_of (bytes_of_value o (sum_of (Long x) (Long delta)))) (sym little) in
      let put = put_by place ((word + n) % 2 ^ 64) m.legal.0.under_way m.legal.0.within long.fits m.after in
      record {
        value = e.value ∙ ap (λ (o : Order). value_in kind.Long o 0 word) (sym little) ∙ long_there old.state spec id place word long m.legal.0.within (cc);
        puts = puts_number spec (sym long.kind) (kind_fits spec place long)
            (subst (λ (k : ℕ). ActsPut old.state now.state old.caller id place 8 k) sum put);
      }
