-- What the only caller finds by a comparison.
use Rattle.std.proofs.Common.{◌≡◌, ℕ, ◌+◌, ◌-◌, ◌≤◌, List, ◌++◌, length, take, drop, refl, sym, ap, ◌∙◌, arith, Option, Some, None, Ok}
use Rattle.std.proofs.{lemmas.List.{drop-drop}, Math.Seq.{take-add}}
use Rattle.fm_base.specs.{declared.caller.Caller.{Caller}, Arenas.{State}, Calls.{Entry}, Histories.{IsLegal, state_after}, View.{View, Did, IsByItself}}
use Rattle.fm_base.{specs.Visits.{Run, ends, goes_on}, proofs.Faith.{Makes-alone}}
use Rattle.fm_base_bytes.{specs.Bytes.{bytes_of}, proofs.Bytes.{length-bytes_of}}
use Rattle.fm_segment_access.{specs.Alone.{bytes_of_arena}, proofs.Visits.{visit_reads}}
use Rattle.fm_segment_copies.specs.{declared.side.{Side.{Side}, Piece.{Piece}, Way.TheVariants.{Up}}, Sides.{IsPieceAt, next_piece}}
use Rattle.fm_segment_copies.specs.Comparisons.{IsDifference, ComparesPiece, AgreesOn, EndsComparing, Compares, DoesCompare}
use Rattle.fm_segment_copies.specs.Alone.{first_difference, FindsDifference}
use Rattle.fm_segment_copies.proofs.{Differences.{later, later-none, later-later, first_difference-append, differs_at}, Fitting.{next_piece_fits}}
use Rattle.fm_segment_copies.proofs.Refusing.{AreAlive, AreShut, both_legal, piece_refused}

-- the bytes of the side from this offset on
abbrev pub bytes_from : State → Side → ℕ → List ℕ
bytes_from s a offset = drop (a.at + offset) (bytes_of_arena s a.arena)

-- ---- one piece

-- a piece that was compared: both numbers are of the bytes that stand there, and the state stays
pub record IsCompared (s t : State) (a b : Side) (p : Piece) (found : Option ℕ) : Type 0 where
  pub v : ℕ
  pub w : ℕ
  pub first : bytes_of p.width v ≡ take p.width (bytes_from s a p.offset)
  pub second : bytes_of p.width w ≡ take p.width (bytes_from s b p.offset)
  pub answer : IsDifference p.width v w found
  pub same : t ≡ s

-- A piece that the only caller compares.
piece_compared : (limit : ℕ) (c : Caller) (s : State) (a b : Side) (p : Piece) (found : Option ℕ) (own : List Entry) → ComparesPiece c a b p found own
    → IsPieceAt a b p
    → IsLegal limit s own → IsCompared s (state_after limit s own) a b p found
piece_compared limit c s a b p found own q fits legal =
    let at_a = a.at + p.offset in
    let at_b = b.at + p.offset in
    let parts = both_legal limit s own q.first q.second q.visits legal in
    let one = visit_reads limit c s a.arena at_a p.width q.v q.first q.reads_first fits.within_source parts.first in
    let two = visit_reads limit c s b.arena at_b p.width q.w q.second q.reads_second fits.within_target (parts.rest one.same) in
    record { v = q.v; w = q.w; first = one.value; second = two.value; answer = q.answer; same = parts.after one.same ∙ two.same }

-- ---- all pieces

-- the first difference of the last `left` of `count` bytes, as an offset among all
abbrev pub difference_from : State → Side → Side → ℕ → ℕ → Option ℕ
difference_from s a b offset left = later offset (first_difference (take left (bytes_from s a offset)) (take left (bytes_from s b offset)))

-- a comparison answers the first difference, or stops as one of the arenas isn't alive
abbrev Answers : State → Side → Side → ℕ → ℕ → Option (Option ℕ) → Type 0
Answers s a b count left (Some found) = found ≡ difference_from s a b (count - left) left
Answers s a b count left None = ¬ (AreAlive s a b)

-- what a comparison of the last `left` bytes tells, and that it leaves the state
record RunCompares (s t : State) (a b : Side) (count left : ℕ) (answer : Option (Option ℕ)) : Type 0 where
  pub answers : Answers s a b count left answer
  pub same : t ≡ s

-- The first bytes, and those behind them.
take_two : (xs bytes : List ℕ) (width left : ℕ) → width ≤ left → bytes ≡ take width xs → take left xs ≡ bytes ++ take (left - width) (drop width xs)
take_two xs bytes width left h e =
    let sum : width + (left - width) ≡ left = omega arith in
    sym (ap (λ n. take n xs) sum) ∙ take-add width (left - width) xs ∙ ap (λ bs. bs ++ take (left - width) (drop width xs)) (sym e)

-- A piece that differs holds the first difference.
pub differs_next : (s : State) (a b : Side) (offset left width v w at : ℕ) → width ≤ left
    → bytes_of width v ≡ take width (bytes_from s a offset) → bytes_of width w ≡ take width (bytes_from s b offset) → IsDifference width v w (Some at)
    → difference_from s a b offset left ≡ Some (offset + at)
differs_next s a b offset left width v w at h first second d =
    let xs = bytes_from s a offset in
    let ys = bytes_from s b offset in
    let p = take (left - width) (drop width xs) in
    let q = take (left - width) (drop width ys) in
    rw (take_two xs (bytes_of width v) width left h first, take_two ys (bytes_of width w) width left h second)
    (ap (later offset) (differs_at width v w at p q d))

-- A piece that agrees leaves the first difference to the bytes behind it.
pub agrees_next : (s : State) (a b : Side) (offset left width v next : ℕ) → width ≤ left → offset + width ≡ next
    → bytes_of width v ≡ take width (bytes_from s a offset) → bytes_of width v ≡ take width (bytes_from s b offset)
    → difference_from s a b offset left ≡ difference_from s a b next (left - width)
agrees_next s a b offset left width v next h e first second =
    let xs = bytes_from s a offset in
    let ys = bytes_from s b offset in
    let rest = left - width in
    let p = bytes_of width v in
    let past : (side : Side) → drop width (bytes_from s side offset) ≡ bytes_from s side next =
    λ side. drop-drop width (side.at + offset) (bytes_of_arena s side.arena)
    ∙ ap (λ n. drop n (bytes_of_arena s side.arena)) (let d : side.at + offset + width ≡ side.at + next = omega arith in d) in
    let sum : offset + length (bytes_of width v) ≡ next = omega (arith, length-bytes_of width v) in
    rw (take_two xs p width left h first, take_two ys p width left h second)
    (ap (later offset) (first_difference-append p (take rest (drop width xs)) (take rest (drop width ys)))
    ∙ later-later offset (length p) next (first_difference (take rest (drop width xs)) (take rest (drop width ys))) sum
    ∙ rw (past a, past b) refl)

-- A piece that agrees, and the rest.
answers_on : (s : State) (a b : Side) (count left next width v : ℕ) (answer : Option (Option ℕ)) → width ≤ left → left ≤ count → next ≡ left - width
    → bytes_of width v ≡ take width (bytes_from s a (count - left)) → bytes_of width v ≡ take width (bytes_from s b (count - left))
    → Answers s a b count next answer → Answers s a b count left answer
answers_on s a b count left next width v None h k e first second more = more
answers_on s a b count left next width v (Some found) h k e first second more =
    let sum : count - left + width ≡ count - next = omega arith in
    more
    ∙ ap (λ n. difference_from s a b (count - next) n) e
    ∙ sym (agrees_next s a b (count - left) left width v (count - next) h sum first second)

module _ (limit : ℕ) (c : Caller) (a b : Side) (count : ℕ) where
  -- The end of a comparison.
  compare_ends : (s : State) (left : ℕ) (own : List Entry) (answer : Option (Option ℕ)) → left ≤ count
      → EndsComparing c a b count left own answer → IsLegal limit s own → RunCompares s (state_after limit s own) a b count left answer
  compare_ends s left own None h e legal =
      let shut = piece_refused limit c s a b (next_piece Up a b count left) own e.1 (next_piece_fits Up a b count left e.0 h).at legal in
      record { answers = shut.over; same = shut.same }
  compare_ends s left own (Some None) h e legal = record {
    answers = sym (ap (λ n. later (count - left) (first_difference (take n (bytes_from s a (count - left))) (take n (bytes_from s b (count - left))))) e.0);
    same = ap (λ (es : List Entry). state_after limit s es) e.1;
  }
  compare_ends s left own (Some (Some offset)) h e legal =
      let p = next_piece Up a b count left in
      let fits = next_piece_fits Up a b count left e.more h in
      let q = piece_compared limit c s a b p (Some e.at) own e.piece fits.at legal in
      record {
        answers = ap (λ n. Some n) e.offset_is ∙ sym (differs_next s a b (count - left) left p.width q.v q.w e.at fits.room q.first q.second q.answer);
        same = q.same;
      }

  -- A comparison finds the first difference, and leaves the state.
  compare_run : (s : State) (left : ℕ) (own : List Entry) (answer : Option (Option ℕ)) → left ≤ count
      → Run (AgreesOn c a b count) (EndsComparing c a b count) left own answer → IsLegal limit s own → RunCompares s
      (state_after limit s own) a b count left answer
  compare_run s left own answer h (ends e) legal = compare_ends s left own answer h e legal
  compare_run s left own answer h (goes_on next one rest step run) legal =
      let p = next_piece Up a b count left in
      let fits = next_piece_fits Up a b count left step.more h in
      let parts = both_legal limit s (one ++ rest) one rest refl legal in
      let q = piece_compared limit c s a b p None one step.piece fits.at parts.first in
      let below : next ≤ count = (let e = step.then in omega arith) in
      let more = compare_run s next rest answer below run (parts.rest q.same) in
      let second : bytes_of p.width q.v ≡ take p.width (bytes_from s b p.offset) = ap (bytes_of p.width) q.answer ∙ q.second in
      record {
        answers = answers_on s a b count left next p.width q.v answer fits.room h step.then q.first second more.answers;
        same = parts.after q.same ∙ more.same;
      }

-- ---- the call

-- The only caller finds the first difference.
pub compare_alone : (old new : View) (a b : Side) (count : ℕ) (found : Option ℕ) → Did old new (DoesCompare old.caller a b count (Ok found)) → IsByItself old
    → FindsDifference old new a b count found
compare_alone old new a b count found d alone =
    let m = Makes-alone old new d.own alone d.makes in
    let all = compare_run old.limit old.caller a b count old.state count d.own (Some found) (omega arith) d.does.visits m.0 in
    let none : count - count ≡ 0 = omega arith in
    let same : (n : ℕ) → n + 0 ≡ n = λ n. omega arith in
    record { first = rw (none, same a.at, same b.at) at all.answers ∙ later-none 0 _ refl; same = m.1 ∙ all.same }

-- A comparison that stops.
pub compare_stops : (old : View) (a b : Side) (count : ℕ) (own : List Entry) → Compares old.caller a b count own None → IsLegal old.limit old.state own
    → AreShut old.state (state_after old.limit old.state own) a b
compare_stops old a b count own d legal =
    let all = compare_run old.limit old.caller a b count old.state count own None (omega arith) d.visits legal in
    record { over = all.answers; same = all.same }
