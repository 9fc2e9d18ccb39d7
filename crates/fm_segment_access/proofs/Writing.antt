-- What a Write of each of some words does to an arena.
use Rattle.std.proofs.Common.{◌≡◌, inl, inr, ℕ, zero, suc, ◌+◌, ◌-◌, ◌*◌, ◌/◌, ◌%◌, ◌<◌, ◌≤◌, true, List, [], ◌∷◌, ◌++◌, length, take, drop, slice_set, length-set, refl, sym, ap, ◌∙◌, arith}
use Rattle.std.proofs.{lemmas.{Bool.{cases_lt}, List.{length-drop, length-take-le, take-append-drop, Elements.{All-take, All-drop}}}, Math.Seq.{take-add}}
use Rattle.fm_base.specs.{declared.{caller.Caller.{Caller}, arena_id.ArenaId.{ArenaId}}, Arenas.{State, Arena, arena_of, has_arena, changed}, Calls.{Entry}}
use Rattle.fm_base.specs.{Machine.{written}, Histories.{IsLegal, state_after}, Visits.{entries_of, visit, writes}}
use Rattle.fm_base.proofs.Lookup.{changed_has, lookup_changed}
use Rattle.fm_base_bytes.{specs.{Bytes.{AreBytes, bytes_of, number_of}, Words.{bytes_in, words_from}}, proofs.Bytes.{bytes_of-number_of, length-bytes_of}}
use Rattle.fm_base_bytes.proofs.Words.{bytes_in-set, length-bytes_in, length-words_from}
use Rattle.fm_segment_access.{specs.{Alone.{bytes_of_arena, with_bytes}, Ranges.{putting}, Runs.{PutsWords}}, proofs.Alone.{Puts, puts_none, puts_both}}
use Rattle.fm_segment_access.proofs.{Splicing.{with_bytes-twice}, Visits.{written_is}}

-- The bytes of the first words of bytes are the first bytes.
bytes_in-first : (count : ℕ) (bytes : List ℕ) → AreBytes bytes → 8 * count ≤ length bytes → bytes_in (words_from count bytes) ≡ take (8 * count) bytes
unfolding bytes_in words_from
bytes_in-first zero bytes are h = refl
bytes_in-first (suc count) bytes are h =
    let eight : 8 ≤ length bytes = omega arith in
    let len : length (take 8 bytes) ≡ 8 = length-take-le 8 bytes eight in
    let first : bytes_of 8 (number_of (take 8 bytes)) ≡ take 8 bytes =
    ap (λ n. bytes_of n (number_of (take 8 bytes))) (sym len) ∙ bytes_of-number_of (take 8 bytes) (All-take (λ b. b < 256) 8 bytes are) in
    let left : length (drop 8 bytes) ≡ length bytes - 8 = length-drop 8 bytes in
    let more : 8 * count ≤ length (drop 8 bytes) = omega arith in
    let sum : 8 * suc count ≡ 8 + 8 * count = omega arith in
    rw (first, bytes_in-first count (drop 8 bytes) (All-drop (λ b. b < 256) 8 bytes are) more)
    (sym (take-add 8 (8 * count) bytes) ∙ ap (λ n. take n bytes) (sym sum))

-- what they leave: these words stand in the arena from the index on, which has room for them
pub record WritesLeave (s t : State) (id : ArenaId) (w : ℕ) (vs : List ℕ) : Type 0 where
  pub puts : Puts s t id (8 * w) (bytes_in vs)
  pub within : 0 < length vs → w + length vs ≤ length (arena_of s id).words

-- A word that is written puts its eight bytes.
write_puts : (s : State) (id : ArenaId) (w v : ℕ) → w < length (arena_of s id).words → Puts s (changed s id (written w v)) id (8 * w) (bytes_of 8 v)
write_puts s id w v h =
    let all = bytes_of_arena s id in
    record {
      words = slice_set (arena_of s id).words w v;
      state = written_is s id w v;
      bytes = bytes_in-set (arena_of s id).words w v h
          ∙ ap (λ n. take (8 * w) all ++ (bytes_of 8 v ++ drop (8 * w + n) all)) (sym (length-bytes_of 8 v));
    }

pub writes_leave : (limit : ℕ) (c : Caller) (s : State) (id : ArenaId) (w : ℕ) (vs : List ℕ) → has_arena s id ≡ true
    → IsLegal limit s (entries_of c (writes id w vs)) → WritesLeave s (state_after limit s (entries_of c (writes id w vs))) id w vs
unfolding bytes_in
writes_leave limit c s id w [] known legal = record { puts = puts_none s id (8 * w) (bytes_in []) refl; within = λ some. absurd (omega arith) }
writes_leave limit c s id w (v ∷ vs) known legal =
    let here : w < length (arena_of s id).words = legal.0.within in
    let more = writes_leave limit c (changed s id (written w v)) id (suc w) vs (changed_has (written w v) (λ a. refl) s id id ∙ known) legal.2 in
    let count : length (arena_of (changed s id (written w v)) id).words ≡ length (arena_of s id).words =
    ap (λ (a : Arena). length a.words) (lookup_changed s id (written w v) (λ a. refl) known) ∙ length-set (arena_of s id).words w v in
    let eight : length (bytes_of 8 v) ≡ 8 = length-bytes_of 8 v in
    let at : 8 * suc w ≡ 8 * w + length (bytes_of 8 v) = omega arith in
    let room : 8 * w ≤ length (bytes_of_arena s id) = omega (arith, length-bytes_in (arena_of s id).words) in
    record {
      puts = puts_both known (write_puts s id w v here) more.puts
          (ap (λ n. with_bytes (with_bytes (bytes_of_arena s id) (8 * w) (bytes_of 8 v)) n (bytes_in vs)) at
          ∙ with_bytes-twice (bytes_of_arena s id) (8 * w) (bytes_of 8 v) (bytes_in vs) room);
      within = λ some. elim (cases_lt 0 (length vs)) [ inl left ↦ (let rest = more.within left in omega arith) | inr none ↦ omega arith ];
    }

-- Whole words of bytes are put by one visit.
pub puts_words : (c : Caller) (id : ArenaId) (at count : ℕ) (bytes : List ℕ) (own : List Entry) → AreBytes bytes → at % 8 ≡ 0 → 0 < count
    → count ≡ length bytes / 8 → own ≡ visit c id (writes id (at / 8) (words_from count bytes))
    → PutsWords c id (putting at bytes) own (putting (at + 8 * count) (drop (8 * count) bytes))
puts_words c id at count bytes own are even some e vis =
    let len : length (words_from count bytes) ≡ count = length-words_from count bytes in
    let fits : 8 * count ≤ length bytes = omega arith in
    record {
      words = words_from count bytes;
      some = omega arith;
      even = even;
      bytes = sym (take-append-drop (8 * count) bytes) ∙ ap (λ bs. bs ++ drop (8 * count) bytes) (sym (bytes_in-first count bytes are fits));
      few = omega (arith, length-drop (8 * count) bytes);
      at = ap (λ n. at + 8 * n) (sym len);
      visits = vis;
    }
