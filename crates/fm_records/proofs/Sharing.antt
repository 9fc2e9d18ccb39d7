-- Shares of a segment, each answered by Reads of one caller, which may have several.
use Rattle.std.proofs.Common.{◌≡◌, ℕ, ◌+◌, ◌-◌, ◌*◌, ◌/◌, ◌%◌, ◌<◌, ◌≤◌, Bool, Some, List, [], ◌∷◌, ◌++◌, length, get_or, map, refl, sym, ap, ◌∙◌, subst, inl, inr, arith}
use Rattle.std.{specs.{Prelude.{filter}, List.{AllByRecursion, range_with_len, slice_get}}, proofs.{Math.Nat.{zero-div}, lemmas.List.{map-append}}}
use Rattle.std.proofs.lemmas.Nat.{div-add-mod'}
use Rattle.fm_base_lists.proofs.{Among.{all_filtered}, Each.{all_among, all_of_among, all_split}, Ranges.{range_append}}
use Rattle.fm_base.specs.{Arenas.{State, arena_of}, declared.{arena_id.ArenaId.{ArenaId}, caller.Caller.{Caller}}, Calls.{Read, Entry}, Histories.{made_by}}
use Rattle.fm_base.{specs.Untouched.{FindsByte}, proofs.Untouched.{spared_found as byte_found}}
use Rattle.fm_base_bytes.specs.Words.{byte_at, byte_of}
use Rattle.fm_path.specs.Resolution.{Resolution}
use Rattle.fm_records_query.specs.Plan.{Plan, IsPlan}
use Rattle.fm_segment.specs.Region.{Region, part_of}
use Rattle.fm_records.specs.{Alone.{bytes_at_places}, Answers.{answer, found_over}, Bytes.{HasRead, FindsAs, FindAs, IsAnswered}, Few.{AreFew}, Joined.{joined}}
use Rattle.fm_records.specs.{Laws.{IsAsked}, Records.{records, pieces}}
use Rattle.fm_records.specs.Shares.{IsSpared, IsRunOf, SparedAreFound, Share, IsDone, behind, IsFirst, all_joined, SharesJoin, SharesAnswer, SharesRead}
use Rattle.fm_records.proofs.{Behind.{get_split, length-pieces, less_times}, AnsweringBytes.{answer_of_bytes, length-places, word_at_places}}
use Rattle.fm_records.proofs.{Covering.{asked_is_read, read_left, read_right}, Few.{answers_few, few_join, nothing_few}}
use Rattle.fm_records.proofs.{Joining.{records-append, answer-append}, Recording.{answer-none}}

-- ---- Reads of bytes that all spare

-- found byte by byte, and so entry by entry
by_entry : (now : State) (s : Region) (es : List Entry)
    → ((place : ℕ) → s.first ≤ place → place < s.first + s.size → AllByRecursion (FindsByte s.arena place (byte_at (arena_of now s.arena).words place)) es)
    → FindAs s (bytes_at_places now s) es
by_entry now s [] h = tt
by_entry now s (e ∷ es) h = (
  λ word n at call reply is.
      let words = (arena_of now s.arena).words in
      let in_word = is.in_word in
      let by_word : (8 * word + at) / 8 ≡ word = omega (arith, in_word) in
      let by_byte : (8 * word + at) % 8 ≡ at = omega (arith, in_word) in
      let here = (h (8 * word + at) is.from is.below).0 n (call ∙ ap (Read s.arena) (sym by_word)) reply in
      ap (byte_of n) (sym by_byte) ∙ here ∙ ap (λ w. byte_of (get_or words w 0) ((8 * word + at) % 8)) by_word
      ∙ ap (byte_of (get_or words word 0)) by_byte ∙ word_at_places now s word at is,
  by_entry now s es (λ place from below. (h place from below).1),
)

pub spared_found : SparedAreFound
spared_found limit now es s c h =
    all_filtered (FindsAs s (bytes_at_places now s)) _ es
    (by_entry now s es (λ place from below. byte_found limit now es s.arena place h.legal (h.spared place from below)))

-- ---- a run of a caller's entries

-- what holds of each of the caller's holds of each of a run
all_run : (P : Entry → Type 0) (c : Caller) (es own : List Entry) → IsRunOf c es own → AllByRecursion P (made_by c es) → AllByRecursion P own
all_run P c es own h all =
    let parts = all_split P h.earlier (own ++ h.later) (subst (AllByRecursion P) h.run all) in (all_split P own h.later parts.1).0

-- what was read in a run was read
read_in_run : (c : Caller) (id : ArenaId) (word : ℕ) (es own : List Entry) → IsRunOf c es own → HasRead c id word own → HasRead c id word (made_by c es)
read_in_run c id word es own h read =
    subst (HasRead c id word) (sym h.run) (read_right c id word h.earlier (own ++ h.later) (read_left c id word own h.later read))

-- ---- the segment's bytes, cut in two

bytes_cut : (now : State) (s : Region) (n : ℕ) → n ≤ s.size → bytes_at_places now s ≡ bytes_at_places now (part_of 0 n s) ++ bytes_at_places now (behind n s)
bytes_cut now s n within =
    let b = byte_at (arena_of now s.arena).words in
    let sum : s.size ≡ n + (s.size - n) = omega (arith, within) in
    let start : s.first ≡ s.first + 0 = omega arith in
    ap (λ k. map b (range_with_len s.first k)) sum
    ∙ ap (map b) (range_append s.first n (s.size - n))
    ∙ map-append b (range_with_len s.first n) (range_with_len (s.first + n) (s.size - n))
    ∙ ap (λ k. map b (range_with_len k n) ++ map b (range_with_len (s.first + n) (s.size - n))) start

-- no bytes have no records
places_none : (now : State) (s : Region) → s.size ≡ 0 → bytes_at_places now s ≡ []
places_none now s e = ap (λ n. map (byte_at (arena_of now s.arena).words) (range_with_len s.first n)) e

-- ---- the shares' answers

pub shares_join : SharesJoin
shares_join p s es [] plan cut done small = record {
  can = tt;
  few = subst (AreFew s.size p) (sym (answer-none p)) (subst (λ (n : ℕ). AreFew n p (found_over p [])) (sym cut) (nothing_few p.items));
}
shares_join p s es (w ∷ ws) plan cut done small =
    let n = w.region.size in
    let within = cut.0.within in
    let rest = shares_join p (behind w.region.size s) es ws plan cut.1 done.1 (omega (arith, small)) in
    let one = answers_few w.caller p w.region w.found w.own plan done.0.does in
    let sum : w.region.size + (s.size - w.region.size) ≡ s.size = omega (arith, within) in
    let joins = few_join p n (s.size - n) w.found (all_joined p ws) one rest.few (omega (arith, sum, small)) in
    record { can = (joins.can, rest.can); few = subst (λ (k : ℕ). AreFew k p (joined w.found (all_joined p ws))) sum joins.few }

-- Each part of a segment that is spared is so.
pub spared_part : (limit : ℕ) (now : State) (es : List Entry) (s : Region) (at n : ℕ) → at + n ≤ s.size → IsSpared limit now es s
    → IsSpared limit now es (part_of at n s)
spared_part limit now es s at n within h = record {
  legal = h.legal;
  spared = λ place from below. h.spared place (omega (arith, from)) (omega (arith, below, within));
}

-- its first share is answered
first_share : (limit : ℕ) (now : State) (es : List Entry) (p : Plan) (s : Region) (w : Share) → IsPlan p → IsSpared limit now es s → IsFirst p s w
    → IsDone p es w → IsAnswered w.caller p w.region (bytes_at_places now w.region) w.found w.own
first_share limit now es p s w plan h cut done =
    let mine = subst (IsSpared limit now es) (sym cut.region) (spared_part limit now es s 0 w.region.size (omega (arith, cut.within)) h) in
    record {
      plan = plan;
      size = length-places now w.region;
      finds = all_run (FindsAs w.region (bytes_at_places now w.region)) w.caller es w.own done.run (spared_found limit now es w.region w.caller mine);
      does = done.does;
    }

pub shares_answer : SharesAnswer
shares_answer limit now es p s [] plan h cut done = sym (ap (answer p) (places_none now s cut))
shares_answer limit now es p s (w ∷ ws) plan h cut done =
    let n = w.region.size in
    let within = cut.0.within in
    let a = bytes_at_places now (part_of 0 n s) in
    let b = bytes_at_places now (behind n s) in
    let one : w.found ≡ answer p (bytes_at_places now (part_of 0 w.region.size s)) =
    answer_of_bytes w.caller p w.region _ w.found _ (first_share limit now es p s w plan h cut.0 done.0)
    ∙ ap (λ (r : Region). answer p (bytes_at_places now r)) cut.0.region in
    let rest = shares_answer limit now es p (behind n s) ws plan (spared_part limit now es s n (s.size - n) (omega (arith, within)) h) cut.1 done.1 in
    ap (λ f. joined f (all_joined p ws)) one ∙ ap (joined (answer p a)) rest
    ∙ answer-append p a b plan.sized (ap (λ k. k % p.size) (length-places now (part_of 0 n s)) ∙ cut.0.whole)
    ∙ ap (answer p) (sym (bytes_cut now s n within))

-- ---- what was read

-- What is asked for of bytes is asked for of a part of them in which the record stands.
pub asked_of : (p : Plan) (all part : List ℕ) (i j : ℕ) (r : Resolution) (is : List ℕ) → (h : IsAsked p all i r is)
    → slice_get (records p.size part) j ≡ Some h.record_bytes → IsAsked p part j r is
asked_of p all part i j r is h e = record {
  record_bytes = h.record_bytes;
  stands = e;
  chosen = h.chosen;
  item = h.item;
  among = h.among;
  fold = h.fold;
  asks = h.asks;
  admitted = h.admitted;
}

pub shares_read : SharesRead
shares_read limit now es p s [] index r is word plan h cut done asks w =
    let none : records p.size (bytes_at_places now s) ≡ [] = ap (records p.size) (places_none now s cut) ∙ ap (λ k. pieces k p.size []) (zero-div p.size) in
    let no : slice_get [] index ≡ Some asks.record_bytes = ap (λ rs. slice_get rs index) (sym none) ∙ asks.stands in
    absurd (cc)
shares_read limit now es p s (w ∷ ws) index r is word plan h cut done asks is_word =
    let n = w.region.size in
    let within = cut.0.within in
    let a = bytes_at_places now (part_of 0 n s) in
    let b = bytes_at_places now (behind n s) in
    let long = length-places now (part_of 0 n s) in
    let whole : length (bytes_at_places now (part_of 0 w.region.size s)) % p.size ≡ 0 = ap (λ k. k % p.size) long ∙ cut.0.whole in
    let split : slice_get (records p.size a ++ records p.size b) index ≡ Some asks.record_bytes =
    ap (λ rs. slice_get rs index) (sym (ap (records p.size) (bytes_cut now s n within) ∙ records-append p.size a b plan.sized whole)) ∙ asks.stands in
    let start : w.region.first ≡ s.first + 0 = ap (λ (x : Region). x.first) cut.0.region in
    let same_arena : w.region.arena ≡ s.arena = ap (λ (x : Region). x.arena) cut.0.region in
    let above = is_word.above in
    let below = is_word.below in
    elim (get_split (records p.size a) (records p.size b) index asks.record_bytes split) [
      | inl here ↦
          let same : bytes_at_places now (part_of 0 w.region.size s) ≡ bytes_at_places now w.region = ap (bytes_at_places now) (sym cut.0.region) in
          let mine = asked_of p _ (bytes_at_places now w.region) index index r is asks (ap (λ bs. slice_get (records p.size bs) index) (sym same) ∙ here) in
          let read = asked_is_read w.caller p w.region _ w.found _ index r is word (first_share limit now es p s w plan h cut.0 done.0) mine
          (record { above = omega (arith, above, start); below = omega (arith, below, start) }) in
          record {
            share = w;
            among = inl refl;
            read = subst (λ (id : _). HasRead w.caller id word (made_by w.caller es)) same_arena
                (read_in_run w.caller w.region.arena word es w.own done.0.run read);
          }
      | inr there_behind ↦
          let count : length (records p.size a) ≡ w.region.size / p.size = length-pieces (length a / p.size) p.size a ∙ ap (λ k. k / p.size) long in
          let exact : w.region.size / p.size * p.size ≡ w.region.size = omega (arith, div-add-mod' w.region.size p.size, cut.0.whole) in
          let past : w.region.size / p.size ≤ index = omega (arith, count, there_behind.past) in
          let left : (index - w.region.size / p.size) * p.size + w.region.size / p.size * p.size ≡ index * p.size =
          less_times index (w.region.size / p.size) p.size past in
          let theirs = asked_of p _ (bytes_at_places now (behind w.region.size s)) index (index - w.region.size / p.size) r is asks
          (ap (λ k. slice_get (records p.size b) (index - k)) (sym count) ∙ there_behind.stands) in
          let rest = shares_read limit now es p (behind n s) ws (index - w.region.size / p.size) r is word plan
          (spared_part limit now es s n (s.size - n) (omega (arith, within)) h) cut.1 done.1 theirs
          (record { above = omega (arith, above, left, exact); below = omega (arith, below, left, exact) }) in
          record { share = rest.share; among = inr rest.among; read = rest.read }
    ]
