-- The bytes that an arena has given, and those that are put behind them.
use Rattle.std.proofs.Common.{◌≡◌, ℕ, ◌+◌, ◌%◌, ◌≤◌, List, ◌++◌, length, take, drop, refl, ap, sym, ◌∙◌, arith, append_assoc, length-append}
use Rattle.std.proofs.{lemmas.List.{length-take-le}, Math.Seq.{take-append_seam}}
use Rattle.fm_base.specs.{Machine.{rounded_up}, View.{View}}
use Rattle.fm_base_bytes.proofs.Words.{length-bytes_in}
use Rattle.fm_segment_access.specs.Alone.{bytes_of_arena, with_bytes}
use Rattle.fm_segment.specs.{Alone.{bytes_of_region}, Region.{Region}}
use Rattle.fm_top_load.specs.Held.{IsReady, loaded_in, words_at}

pub loaded_is : (v : View) (s : Region) → loaded_in v s ≡ bytes_of_region v.state s
unfolding loaded_in
loaded_is v s = refl

-- what was loaded stands from the arena's start on
pub loaded_first : (v : View) (s : Region) → s.first ≡ 0 → loaded_in v s ≡ take s.size (bytes_of_arena v.state s.arena)
unfolding loaded_in
loaded_first v s h = ap (λ n. take s.size (drop n (bytes_of_arena v.state s.arena))) h

-- the arena has bytes for all of it
pub ready_room : {v : View} {s : Region} → IsReady v s → s.size ≤ length (bytes_of_arena v.state s.arena)
ready_room {v} {s} r =
    let within = r.within in
    let size = r.held.size in
    omega (arith, length-bytes_in (words_at v s.arena))

-- and it is as much as the segment says
pub length-loaded : {v : View} {s : Region} → IsReady v s → length (loaded_in v s) ≡ s.size
length-loaded {v} {s} r = ap length (loaded_first v s r.whole) ∙ length-take-le s.size (bytes_of_arena v.state s.arena) (ready_room r)

-- bytes that were put behind the first ones
pub put_behind : (all bytes : List ℕ) (n : ℕ) → n ≤ length all → take (n + length bytes) (with_bytes all n bytes) ≡ take n all ++ bytes
put_behind all bytes n h =
    let rest = drop (n + length bytes) all in
    let count : length (take n all ++ bytes) ≡ n + length bytes = length-append (take n all) bytes ∙ ap (λ k. k + length bytes) (length-take-le n all h) in
    ap (take (n + length bytes)) (sym (append_assoc (take n all) bytes rest))
    ∙ ap (λ k. take k ((take n all ++ bytes) ++ rest)) (sym count)
    ∙ take-append_seam (take n all ++ bytes) rest

-- a whole number of words is rounded up to itself
pub rounded_whole : (n : ℕ) → n % 8 ≡ 0 → rounded_up n 8 ≡ n
rounded_whole n whole = omega arith
