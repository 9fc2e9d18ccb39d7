-- Bytes that were put to an arena's start with all their words in one visit.
use Rattle.std.proofs.Common.{◌≡◌, inl, ℕ, ◌+◌, ◌*◌, ◌/◌, ◌<◌, ◌≤◌, List, [], ◌++◌, length, take, drop, Ok, refl, sym, ap, subst, ◌∙◌, arith, length-append}
use Rattle.std.proofs.lemmas.List.{append-nil, take-append-le}
use Rattle.fm_base.specs.{declared.{arena_id.ArenaId.{ArenaId}, caller.Caller.{Caller}}, Arenas.{State}, Calls.{Entry}, View.{View, given_in}, Visits.{visit, writes}}
use Rattle.fm_base.proofs.Faith.{Makes-alone}
use Rattle.fm_base_bytes.{specs.{Bytes.{AreBytes}, Words.{bytes_in, word_count, words_of}}, proofs.Words.{length-bytes_in, length-words_from}}
use Rattle.fm_segment_access.specs.{Alone.{bytes_of_arena}, Learnt.{Visited}, Ranges.{Putting, putting}, Runs.{DoesPutWords, PutsWords}}
use Rattle.fm_segment_access.proofs.{Alone.{Puts, changes}, PuttingAlone.{words_put}}
use Rattle.fm_top_load.{specs.Held.{IsHeld}, proofs.Holding.{put_still}}
use Rattle.fm_c_calls.{specs.Held.{StandFirst}, proofs.Words.{AreBytes-bytes_in, first_bytes}}

count : (bytes : List ℕ) → length (words_of bytes) ≡ word_count (length bytes)
count bytes = length-words_from (word_count (length bytes)) bytes

length-all : (bytes : List ℕ) → length (bytes_in (words_of bytes)) ≡ 8 * word_count (length bytes)
length-all bytes = length-bytes_in (words_of bytes) ∙ ap (λ n. 8 * n) (count bytes)

-- nothing is left
abbrev last : List ℕ → Putting
last words = record { at = 0 + 8 * length words; bytes = [] }

step : (c : Caller) (a : ArenaId) (bytes : List ℕ) (own : List Entry) → 0 < length bytes → own ≡ visit c a (writes a (0 / 8) (words_of bytes))
    → PutsWords c a (putting 0 (bytes_in (words_of bytes))) own (last (words_of bytes))
step c a bytes own some is = record {
  words = words_of bytes;
  some = omega (arith, count bytes, some);
  even = refl;
  bytes = sym (append-nil (bytes_in (words_of bytes)));
  few = omega arith;
  at = refl;
  visits = is;
}

-- Bytes that were put stand first.
pub stand_first : {v w : View} {a : ArenaId} {bytes : List ℕ} → IsHeld v a → 8 * word_count (length bytes) ≤ given_in v a
    → 8 * word_count (length bytes) ≤ v.limit → AreBytes bytes → 0 < length bytes
    → Visited v w (DoesPutWords v.caller a 0 (word_count (length bytes)) bytes (Ok tt)) → StandFirst w a bytes
stand_first {v} {w} {a} {bytes} h given limit are some d =
    let words : List ℕ = words_of bytes in
    let all : List ℕ = bytes_in (words_of bytes) in
    let m = Makes-alone v w d.did.own h.by_itself d.did.makes in
    let p = words_put.leaves v.limit v.caller a v.state (putting 0 (bytes_in (words_of bytes))) (last (words_of bytes)) d.did.own
    (AreBytes-bytes_in (words_of bytes)) (inl (step v.caller a bytes d.did.own some d.did.does.1)) m.0 in
    let first : p.first ≡ bytes_in (words_of bytes) = sym (append-nil p.first) ∙ sym p.all in
    let puts : Puts v.state w.state a 0 p.first = subst (λ (s : State). Puts v.state s a 0 p.first) (sym m.1) p.puts in
    let ch = changes v w a 0 p.first p.known puts in
    let size : length p.first ≡ 8 * word_count (length bytes) = ap length first ∙ length-all bytes in
    let still = put_still v w d.did.own a 0 p.first h d.did.makes d.outside ch (omega (arith, size, limit)) in
    let rest : List ℕ = drop (0 + length p.first) (bytes_of_arena v.state a) in
    let now : bytes_of_arena w.state a ≡ bytes_in (words_of bytes) ++ drop (0 + length p.first) (bytes_of_arena v.state a) =
    ch.changed ∙ ap (λ bs. bs ++ rest) first in
    let within : length bytes ≤ length (bytes_in (words_of bytes)) = omega (arith, length-all bytes) in
    let cut : take (length bytes) (bytes_of_arena w.state a) ≡ bytes =
    ap (take (length bytes)) now ∙ take-append-le (length bytes) all rest within ∙ first_bytes (word_count (length bytes)) bytes are (omega arith) in
    record {
      held = still.held;
      given = omega (arith, still.given_is, given);
      room = omega (arith, ap length now, length-append all rest, within);
      stand = cut;
    }
