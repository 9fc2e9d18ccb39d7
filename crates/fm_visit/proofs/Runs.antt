-- What acts on runs of bytes of the only caller find, and what they leave.
use Rattle.std.proofs.Common.{◌≡◌, inl, inr, ℕ, ◌+◌, ◌-◌, ◌/◌, ◌%◌, ◌<◌, ◌≤◌, List, [], ◌++◌, length, take, drop, slice_index, slice_set, length-append, refl, sym, ap, subst, ◌∙◌, arith, Option}
use Rattle.std.proofs.{lemmas.{Bool.{cases_lt}, List.{drop-drop, take_at, Elements.{All-take}}}, Math.Seq.{take-add}}
use Rattle.fm_base.specs.declared.{caller.Caller.{Caller}, arena_id.ArenaId.{ArenaId}}
use Rattle.fm_base.specs.{Arenas.{State, arena_of, word_in}, Calls.{Found}, Histories.{IsLegal, state_after}, Visits.{Acts, entries_of}}
use Rattle.fm_base.proofs.Making.{IsLegal-split, state_after-append}
use Rattle.fm_base_bytes.{specs.{Bytes.{AreBytes, bytes_of, number_of, lane}}, proofs.Bytes.{bytes_of-number_of, number_of-lt, length-bytes_of, lane-lt}}
use Rattle.fm_base_bytes.proofs.Words.{length-bytes_in}
use Rattle.fm_segment_access.specs.Alone.{bytes_of_arena}
use Rattle.fm_segment_access.proofs.{Alone.{Puts, puts_none, puts_both, bytes_there}, PuttingAlone.{left_bytes}, Splicing.{with_bytes-twice, keeps_count}}
use Rattle.fm_segment_access.proofs.Visits.{lane_bytes, acts_put, written_is}
use Rattle.fm_segment_copies.specs.{declared.side.{Side.{Side}, Piece.{Piece}, Way.{Way, TheVariants.{Up}}}, Sides.{IsWay, next_piece}}
use Rattle.fm_segment_copies.proofs.{Fitting.{next_piece_fits}, CopyingAlone.{Leaves, number_copied, leaves_on, leaves_end}}
use Rattle.fm_segment_copies.proofs.ComparingAlone.{bytes_from, difference_from, differs_next, agrees_next}
use Rattle.fm_visit.specs.Runs.{IsPiece, GetsFrom, PutsFrom, CopiesFrom, ComparesFrom, part_of}
use Rattle.fm_visit.specs.Runs as runs
use Rattle.fm_visit.proofs.Going.{entries_of-append}

-- ---- reading

pub record GetsFind (s t : State) (id : ArenaId) (place : ℕ) (bytes : List ℕ) : Type 0 where
  pub value : bytes ≡ take (length bytes) (drop place (bytes_of_arena s id))
  pub same : t ≡ s

-- Reads find the bytes that stand there, and change nothing.
pub gets_find : (limit : ℕ) (c : Caller) (s : State) (id : ArenaId) (place : ℕ) (bytes : List ℕ) (acts : Acts) → GetsFrom id place bytes acts
    → IsLegal limit s (entries_of c acts) → GetsFind s (state_after limit s (entries_of c acts)) id place bytes
gets_find limit c s id place bytes acts (runs.none p) legal = record { value = refl; same = refl }
gets_find limit c s id place bytes acts (runs.more p width word rest later is g) legal =
    let words = (arena_of s id).words in
    let all = bytes_of_arena s id in
    let long = is.longest in
    let fits : p % 8 + width ≤ 8 = omega arith in
    let found : Found word ≡ Found (word_in s id (p / 8)) = legal.1 in
    let same : word ≡ slice_index (arena_of s id).words (p / 8) = cc in
    let here = lane_bytes words p width (lane word (p % 8) width) word legal.0.within fits same refl in
    let more = gets_find limit c s id (p + width) rest later g legal.2 in
    let first = bytes_of width (lane word (p % 8) width) in
    let size : length (bytes_of width (lane word (p % 8) width) ++ rest) ≡ width + length rest =
    length-append first rest ∙ ap (λ n. n + length rest) (length-bytes_of width (lane word (p % 8) width)) in
    record {
      value = ap (λ bs. bs ++ rest) here
          ∙ ap (λ bs. take width (drop p all) ++ bs) (more.value ∙ ap (take (length rest)) (sym (drop-drop width p all)))
          ∙ sym (take-add width (length rest) (drop p all))
          ∙ ap (λ n. take n (drop p all)) (sym size);
      same = more.same;
    }

-- ---- putting

pub record PutsLeave (s t : State) (id : ArenaId) (place : ℕ) (bytes : List ℕ) : Type 0 where
  pub puts : Puts s t id place bytes
  pub within : 0 < length bytes → place + length bytes ≤ length (bytes_of_arena s id)

-- Bytes that are put stand there, and lie within the arena.
pub puts_leave : (limit : ℕ) (c : Caller) (id : ArenaId) (s : State) (place : ℕ) (bytes : List ℕ) (acts : Acts) → AreBytes bytes → PutsFrom id place bytes acts
    → IsLegal limit s (entries_of c acts) → PutsLeave s (state_after limit s (entries_of c acts)) id place bytes
puts_leave limit c id s place bytes acts are (runs.none p) legal = record { puts = puts_none s id p [] refl; within = λ some. absurd (omega arith) }
puts_leave limit c id s place bytes acts are (runs.more p first rest now later is put g) legal =
    let all = bytes_of_arena s id in
    let width = length first in
    let long = is.longest in
    let fits : p % 8 + length first ≤ 8 = omega arith in
    let t = state_after limit s (entries_of c now) in
    let parts = IsLegal-split limit s (entries_of c now) (entries_of c later) (rw (entries_of-append c now later) at legal) in
    let firsts : AreBytes first = subst AreBytes (take_at first rest (length first) refl) (All-take (λ b. b < 256) (length first) (first ++ rest) are) in
    let a = acts_put limit c s id p width (number_of first) now put fits (number_of-lt first firsts) parts.0 in
    let word = a.within in
    let one : Puts s t id p first = record {
      words = slice_set (arena_of s id).words (p / 8) a.word;
      state = a.after ∙ written_is s id (p / 8) a.word;
      bytes = a.bytes ∙ ap (λ bs. take p all ++ (bs ++ drop (p + width) all)) (bytes_of-number_of first firsts);
    } in
    let more = puts_leave limit c id t (p + length first) rest later (left_bytes first rest (first ++ rest) refl are) g parts.1 in
    let room : p + length first ≤ length (bytes_of_arena s id) = omega (arith, length-bytes_in (arena_of s id).words) in
    let begins : p ≤ length (bytes_of_arena s id) = omega arith in
    let same : length (bytes_of_arena t id) ≡ length (bytes_of_arena s id) = ap length (bytes_there a.known one) ∙ keeps_count all first p room in
    let size : length (first ++ rest) ≡ length first + length rest = length-append first rest in
    let after : state_after limit t (entries_of c later) ≡ state_after limit s (entries_of c (now ++ later)) =
    sym (ap (state_after limit s) (entries_of-append c now later) ∙ state_after-append limit s (entries_of c now) (entries_of c later)) in
    record {
      puts = subst (λ (u : State). Puts s u id p (first ++ rest)) after
          (puts_both a.known one more.puts (with_bytes-twice all p first rest begins));
      within = λ some. elim (cases_lt 0 (length rest)) [ inl left ↦ (let w = more.within left in omega arith) | inr none ↦ omega arith ];
    }

-- ---- a copy

-- A copy leaves in the target what stood in the source before.
pub copies_leave : (limit : ℕ) (c : Caller) (a b : Side) (count : ℕ) (way : Way) → IsWay a b way → (s : State) (left : ℕ) (acts : Acts) → left ≤ count
    → CopiesFrom a b count way left acts → IsLegal limit s (entries_of c acts)
    → Leaves way s (state_after limit s (entries_of c acts)) a b count left
copies_leave limit c a b count way is s left acts h runs.none legal = leaves_end way s a b count 0 refl
copies_leave limit c a b count way is s left acts h (runs.more n word now later some put g) legal =
    let p = next_piece way a b count n in
    let from = a.at + p.offset in
    let v = part_of a p word in
    let piece = next_piece_fits way a b count n some h in
    let fits = piece.at in
    let found : Found word ≡ Found (word_in s a.arena ((a.at + (next_piece way a b count n).offset) / 8)) = legal.1 in
    let same : word ≡ slice_index (arena_of s a.arena).words ((a.at + (next_piece way a b count n).offset) / 8) = cc in
    let read = lane_bytes (arena_of s a.arena).words from p.width v word legal.0.within fits.within_source same refl in
    let parts = IsLegal-split limit s (entries_of c now) (entries_of c later) (rw (entries_of-append c now later) at legal.2) in
    let t = state_after limit s (entries_of c now) in
    let q = acts_put limit c s b.arena (b.at + p.offset) p.width v now put fits.within_target (lane-lt word (from % 8) p.width) parts.0 in
    let copied = number_copied s t a b p v (slice_set (arena_of s b.arena).words ((b.at + p.offset) / 8) q.word) fits q.known read
    (q.after ∙ written_is s b.arena ((b.at + p.offset) / 8) q.word) q.bytes q.within in
    let more = copies_leave limit c a b count way is t (n - p.width) later (omega arith) g parts.1 in
    let after : state_after limit t (entries_of c later) ≡ state_after limit s (entries_of c (now ++ later)) =
    sym (ap (state_after limit s) (entries_of-append c now later) ∙ state_after-append limit s (entries_of c now) (entries_of c later)) in
    subst (λ (u : State). Leaves way s u a b count n) after
    (leaves_on way s t (state_after limit t (entries_of c later)) a b count n (n - p.width) is some h refl copied more)

-- ---- a comparison

pub record ComparesFind (s t : State) (a b : Side) (count left : ℕ) (found : Option ℕ) : Type 0 where
  pub first : found ≡ difference_from s a b (count - left) left
  pub same : t ≡ s

-- the bytes of a piece that were read stand there
read_of : (s : State) (a : Side) (p : Piece) (word : ℕ) → (a.at + p.offset) / 8 < length (arena_of s a.arena).words → (a.at + p.offset) % 8 + p.width ≤ 8
    → Found word ≡ Found (word_in s a.arena ((a.at + p.offset) / 8)) → bytes_of p.width (part_of a p word) ≡ take p.width (bytes_from s a p.offset)
read_of s a p word within fits found =
    let same : word ≡ slice_index (arena_of s a.arena).words ((a.at + p.offset) / 8) = cc in
    lane_bytes (arena_of s a.arena).words (a.at + p.offset) p.width (part_of a p word) word within fits same refl

-- A comparison finds the first difference, and leaves the state.
pub compares_find : (limit : ℕ) (c : Caller) (a b : Side) (count : ℕ) (s : State) (left : ℕ) (found : Option ℕ) (acts : Acts) → left ≤ count
    → ComparesFrom a b count left found acts → IsLegal limit s (entries_of c acts)
    → ComparesFind s (state_after limit s (entries_of c acts)) a b count left found
compares_find limit c a b count s left found acts h runs.none legal = record { first = refl; same = refl }
compares_find limit c a b count s left found acts h (runs.agrees n v w f later some same g) legal =
    let p = next_piece Up a b count n in
    let piece = next_piece_fits Up a b count n some h in
    let first = read_of s a p v legal.0.within piece.at.within_source legal.1 in
    let second = read_of s b p w legal.2.0.within piece.at.within_target legal.2.1 in
    let room = piece.room in
    let more = compares_find limit c a b count s (n - p.width) f later (omega arith) g legal.2.2 in
    let sum : count - n + (next_piece Up a b count n).width ≡ count - (n - (next_piece Up a b count n).width) = omega arith in
    record {
      first = more.first
          ∙ sym (agrees_next s a b (count - n) n p.width (part_of a p v) (count - (n - p.width)) piece.room sum first
          (ap (bytes_of p.width) same ∙ second));
      same = more.same;
    }
compares_find limit c a b count s left found acts h (runs.differs n v w at some d) legal =
    let p = next_piece Up a b count n in
    let piece = next_piece_fits Up a b count n some h in
    let first = read_of s a p v legal.0.within piece.at.within_source legal.1 in
    let second = read_of s b p w legal.2.0.within piece.at.within_target legal.2.1 in
    record { first = sym (differs_next s a b (count - n) n p.width (part_of a p v) (part_of b p w) at piece.room first second d); same = refl }
