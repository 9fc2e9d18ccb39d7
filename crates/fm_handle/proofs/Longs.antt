-- What a handle's exchanges of and additions to whole words do, where the caller is the only one.
use Rattle.std.proofs.Common.{◌≡◌, ℕ, ℤ, ◌+◌, ◌/◌, ◌%◌, ◌^◌, ◌<◌, ◌≤◌, ◌==◌, true, [], ◌∷◌, length, Ok, refl, sym, ap, subst, ◌∙◌, arith}
use Rattle.std.{specs.Int.{w64, cast_unsigned}, proofs.lemmas.Bool.Decides.{nat_tests}}
use Rattle.fm_base.specs.{declared.{caller.Caller.{Caller}, arena_id.ArenaId.{ArenaId}}, Arenas.{IsUnderWay, State, arena_of, has_arena, changed, word_in}}
use Rattle.fm_base.specs.{Calls.{SwapIf, Add, Found}, Machine.{entered, written}, View.{View, Did, IsByItself}, Visits.{Acts}}
use Rattle.fm_base.proofs.{Lookup.{swapped_hit, swapped_miss}, Placing.{there_by_way}}
use Rattle.fm_base_bytes.{specs.{Bytes.{number_of, lane}, Signed.{unsigned_of}}, proofs.Bytes.{lane-lt, lane-whole, number_of-bytes_of_mod}}
use Rattle.fm_base_bytes.proofs.Signed.{unsigned_of-signed_of, unsigned_of-eight}
use Rattle.fm_lanes.specs.declared.{order.Order.{Order, TheVariants.{Little}}, value.Value.{Value, TheVariants.{Long}}, value_kind.ValueKind.{ValueKind}}
use Rattle.fm_lanes.{specs.Coding.{encoded, turned, bytes_of_value}, proofs.{Meaning.{value_of-lane}, Turning.{turned_number, turned-lt_width, turned-turned}}}
use Rattle.fm_lanes.specs.declared.value_kind.ValueKind.TheVariants as kind
use Rattle.fm_path.specs.declared.value_spec.ValueSpec.{ValueSpec}
use Rattle.fm_segment_access.proofs.Visits.{VisitPuts, ActsPut, acts_visit, visit_stays, whole_word, not_same}
use Rattle.fm_handle.specs.{Access.{DoesVisit}, Acts.{ExchangesLong, AddsLong, value_in, word_of, sum_of}, Alone.{value_at, ExchangesValue, AddsValue}}
use Rattle.fm_handle.proofs.{Places.{LongAt, kind_fits}, Updating.{VisitOf, visit_alone, value_there, puts_value}}

-- ---- longs and their words

-- The two's complement of the long that a word means.
pub long_code : (o : Order) (x : ℤ) (word : ℕ) → Long x ≡ value_in kind.Long o 0 word → unsigned_of 8 x ≡ turned 8 (lane word 0 8) o
long_code o x word means =
    let n = turned 8 (lane word 0 8) o in
    let below : turned 8 (lane word 0 8) o < 2 ^ 64 = turned-lt_width 8 (lane word 0 8) o (lane-lt word 0 8) in
    let small : turned 8 (lane word 0 8) o % 2 ^ 64 < 2 ^ 64 = omega arith in
    let keeps : turned 8 (lane word 0 8) o % 2 ^ 64 ≡ turned 8 (lane word 0 8) o = omega arith in
    ap encoded (means ∙ sym (value_of-lane kind.Long o word 0 (omega arith))) ∙ unsigned_of-signed_of 8 (n % 2 ^ 64) small ∙ keeps

-- A word means a long whose word it is.
pub word_again : (o : Order) (x : ℤ) (word : ℕ) → word < 2 ^ 64 → Long x ≡ value_in kind.Long o 0 word → word_of o x ≡ word
word_again o x word small means =
    let code = long_code o x word means in
    let fits : encoded (Long x) < 2 ^ 64 = rw code (turned-lt_width 8 (lane word 0 8) o (lane-lt word 0 8)) in
    sym (turned_number 8 (encoded (Long x)) o fits)
    ∙ ap (λ n. turned 8 n o) code
    ∙ turned-turned 8 (lane word 0 8) o
    ∙ lane-whole word 8 small

-- A sum of words is the word of the sum.
pub sum_number : (x delta : ℤ) (word : ℕ) → Long x ≡ value_in kind.Long Little 0 word
    → (word + word_of Little delta) % 2 ^ 64 ≡ number_of (bytes_of_value Little (sum_of (Long x) (Long delta)))
sum_number x delta word means =
    let m = (cast_unsigned w64 x + cast_unsigned w64 delta) % 2 ^ 64 in
    let small : m < 2 ^ 64 = omega arith in
    let left : cast_unsigned w64 x ≡ word % 2 ^ 64 = sym (unsigned_of-eight x) ∙ long_code Little x word means ∙ omega arith in
    let right : cast_unsigned w64 delta ≡ unsigned_of 8 delta = sym (unsigned_of-eight delta) in
    let d : word_of Little delta ≡ unsigned_of 8 delta % 2 ^ 64 = number_of-bytes_of_mod 8 (unsigned_of 8 delta) in
    let s : number_of (bytes_of_value Little (sum_of (Long x) (Long delta))) ≡ m = number_of-bytes_of_mod 8 (encoded (sum_of (Long x) (Long delta)))
    ∙ ap (λ n. n % 2 ^ 64) (unsigned_of-signed_of 8 m small) ∙ omega arith in
    let two : (word + word_of Little delta) % 2 ^ 64 ≡ m = omega arith in
    two ∙ sym s

-- ---- one act on a whole word

-- A word that was put puts its bytes.
pub put_by : {s t : State} {c : Caller} {id : ArenaId} (place word : ℕ) → IsUnderWay s c id → place / 8 < length (arena_of s id).words → place % 8 + 8 ≤ 8
    → t ≡ changed s id (written (place / 8) word) → ActsPut s t c id place 8 word
put_by {s} {t} {c} {id} place word way within fits after = record {
  word = word;
  known = there_by_way s c id way;
  within = within;
  after = after;
  bytes = whole_word (arena_of s id).words place word within fits;
}

-- The long in a word is the value that the arena's bytes mean.
long_there : (s : State) (c : Caller) (spec : ValueSpec) (id : ArenaId) (place word : ℕ) → LongAt spec place → has_arena s id ≡ true
    → place / 8 < length (arena_of (changed s id (entered c)) id).words → word ≡ word_in (changed s id (entered c)) id (place / 8)
    → value_in kind.Long spec.order 0 word ≡ value_at s spec id place
long_there s c spec id place word long known within is =
    let fits = long.fits in
    let even : 0 ≡ place % 8 = omega arith in
    ap (λ n. value_in kind.Long spec.order n word) even
    ∙ ap (λ (k : ValueKind). value_in k spec.order (place % 8) word) (sym long.kind)
    ∙ value_there s c id place spec.kind spec.order word known within (kind_fits spec place long) is

-- ---- the calls

-- An exchange of whole words. The word of the long that is expected means it.
pub exchange_long_alone : {old now : View} {spec : ValueSpec} {id : ArenaId} {place : ℕ} {expected v x : ℤ} → LongAt spec place
    → value_in kind.Long spec.order 0 (word_of spec.order expected) ≡ Long expected
    → Did old now (DoesVisit old.caller id (ExchangesLong spec.order id place expected v) (Ok x)) → IsByItself old
    → ExchangesValue old now spec id place (Long expected) (Long v) (Long x)
exchange_long_alone {old} {now} {spec} {id} {place} {expected} {v} {x} long back d alone =
    let c = old.caller in
    let s = old.state in
    let s1 = changed old.state id (entered old.caller) in
    let a = word_of spec.order expected in
    let b = word_of spec.order v in
    let o = visit_alone d alone in
    let e = o.are in
    let word = e.word in
    let act : Acts = (SwapIf id (place / 8) (word_of spec.order expected) (word_of spec.order v), Found e.word) ∷ [] in
    let left = subst (VisitOf old now id) e.swaps o.left in
    let is : Found e.word ≡ Found (word_in (changed old.state id (entered old.caller)) id (place / 8)) = left.inside.1 in
    record {
      value = e.value ∙ long_there s c spec id place word long left.legal.0.0 left.inside.0.within (cc);
      puts = λ q.
          let same : e.word ≡ word_of spec.order expected =
          sym (word_again spec.order x word e.small e.value) ∙ ap (λ (y : Value). number_of (bytes_of_value spec.order y)) q in
          let hit : (e.word == word_of spec.order expected) ≡ true = grind (arith, nat_tests) in
          let swapped = swapped_hit s1 id (place / 8) a b word hit in
          let put = acts_visit old.limit c s id place 8 b act (λ l. put_by place b l.0.under_way l.0.within long.fits swapped) left.legal in
          puts_value spec (sym long.kind) (kind_fits spec place long) (subst (λ (t : State). VisitPuts old.state t id place 8 b) (sym left.after) put);
      stays = λ n.
          let other : ¬ (e.word ≡ word_of spec.order expected) = λ q. n (e.value ∙ ap (value_in kind.Long spec.order 0) q ∙ back) in
          left.after ∙ visit_stays old.limit c s id act (λ l. swapped_miss s1 id (place / 8) a b word (not_same word a other)) left.legal;
    }

-- A sum of whole words.
pub add_long_alone : {old now : View} {spec : ValueSpec} {id : ArenaId} {place : ℕ} {delta x : ℤ} → LongAt spec place → spec.order ≡ Little
    → Did old now (DoesVisit old.caller id (AddsLong id place delta) (Ok x)) → IsByItself old → AddsValue old now spec id place (Long delta) (Long x)
add_long_alone {old} {now} {spec} {id} {place} {delta} {x} long little d alone =
    let c = old.caller in
    let s = old.state in
    let s1 = changed old.state id (entered old.caller) in
    let n = word_of Little delta in
    let o = visit_alone d alone in
    let e = o.are in
    let word = e.word in
    let act : Acts = (Add id (place / 8) (word_of Little delta), Found e.word) ∷ [] in
    let left = subst (VisitOf old now id) e.adds o.left in
    let is : Found e.word ≡ Found (word_in (changed old.state id (entered old.caller)) id (place / 8)) = left.inside.1 in
    let there = long_there s c spec id place word long left.legal.0.0 left.inside.0.within (cc) in
    let sum : (e.word + word_of Little delta) % 2 ^ 64 ≡ number_of (bytes_of_value spec.order (sum_of (Long x) (Long delta))) =
    sum_number x delta word e.value ∙ ap (λ (o : Order). number_of (bytes_of_value o (sum_of (Long x) (Long delta)))) (sym little) in
    let total = (word + n) % 2 ^ 64 in
    let put = acts_visit old.limit c s id place 8 total act (λ l. put_by place total l.0.under_way l.0.within long.fits refl) left.legal in
    let put_sum = subst (λ (t : State). VisitPuts old.state t id place 8 ((word + n) % 2 ^ 64)) (sym left.after) put in
    record {
      value = e.value ∙ ap (λ (o : Order). value_in kind.Long o 0 word) (sym little) ∙ there;
      puts = puts_value spec (sym long.kind) (kind_fits spec place long) (subst (λ (k : ℕ). VisitPuts old.state now.state id place 8 k) sum put_sum);
    }
