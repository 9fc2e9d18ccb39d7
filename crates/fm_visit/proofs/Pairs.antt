-- Two ranges, gone through piece by piece inside an arena.
use Rattle.std.proofs.Common.{◌≡◌, ℕ, ℤ, ◌+◌, ◌-◌, ◌*◌, ◌/◌, ◌%◌, ◌^◌, ◌<◌, ◌≤◌, ◌&&◌, Bool, true, false, if◌then◌else◌, nat_le, nat_lt, List, [], ◌∷◌, ◌++◌, refl, sym, ap, subst, ◌∙◌, arith, Option, Some, None, Ok, Err}
use Rattle.std.{proofs.lemmas.Bool.{and_parts, leb-true}, specs.Option.{ForSome}}
use Rattle.fm_base.specs.declared.{arena_id.ArenaId.{ArenaId}, refusal.Refusal.{Refusal, TheVariants.{Bounds, ReadOnly}}}
use Rattle.fm_base.specs.{Arenas.{has_arena}, Calls.{Entry, Read, Found}, Histories.{IsLegal, state_after}, View.{View, Did, IsByItself, given_in}, Visits.{Acts, entries_of}}
use Rattle.fm_base.proofs.{Faith.{Makes-alone}, Outcomes.{Makes-lasts}}
use Rattle.fm_base_bytes.{proofs.Bytes.{lane-lt}}
use Rattle.fm_segment_access.{specs.Pieces.{DoesPutInside, PutsBytes}, proofs.Alone.{changes}}
use Rattle.fm_segment_copies.specs.{declared.side.{Side.{Side}, Piece.{Piece}, Way.{Way, TheVariants.{Up}}}, Sides.{IsWay, IsPieceOf, next_piece, side}}
use Rattle.fm_segment_copies.specs.{Alone.{bytes_at, first_difference, TakesBytes, FindsDifference}, Comparisons.{IsDifference}}
use Rattle.fm_segment_copies.proofs.{CopyingAlone.{all_put}, Differences.{later-none}}
use Rattle.fm_segment.specs.{Access.{IsKnown}, Alone.{common_bytes}, Comparisons.{common_size, mismatch_of}, Copies.{checked_copy, FitBoth}, Region.{Region}}
use Rattle.fm_segment.proofs.Access.{known_still}
use Rattle.fm_visit.specs.{Acts.{ActsAt, HasActs, IsOfArguments}, Runs.{Copies, CopiesFrom, CopiesPiece, ComparesFrom, ComparesPiece, part_of, reads_of}}
use Rattle.fm_visit.specs.Runs as runs
use Rattle.fm_visit.specs.Values.{AreIn, AfterCopy, AfterMismatch, CopiesHere, DoesMismatch, Reaches, ReachesBoth, ReadsPart, placed_at}
use Rattle.fm_visit.proofs.Going.{DidJust, UnderWay, did_then, has, just, way_starts, way_goes_on, way_ends}
use Rattle.fm_visit.proofs.{Learning.{after_refused}, Putting.{still_reaches}, Runs.{compares_find, copies_leave}, Values.{after_has, unit_ok}}

-- ---- pieces

-- The next piece can be reached on both sides.
module _ {old now : View} {a b : Side} {count left : ℕ} (acts : Acts) (r : ReachesBoth old a b count) (d : DidJust old now acts) (inside : now.inside ≡ Some a.arena)
    (p : Piece) (is : IsPieceOf a b count left p) where
  pub first_reaches : Reaches now a.arena (a.at + p.offset) p.width
  first_reaches = let i = is.inside in still_reaches acts (a.at + p.offset) p.width r.first d inside (omega arith)

  pub second_reaches : Reaches now b.arena (b.at + p.offset) p.width
  second_reaches = let i = is.inside in still_reaches acts (b.at + p.offset) p.width r.second d (inside ∙ ap Some (sym r.same)) (omega arith)

-- A piece that was read and put.
pub piece_copied : {x y z : View} {a b : Side} {p : Piece} {v : ℕ} → ReadsPart x y a.arena (a.at + p.offset) p.width v
    → Did y z (DoesPutInside y.caller b.arena (b.at + p.offset) p.width v) → Did x z (HasActs x.caller (CopiesPiece a b p))
piece_copied {a = a} {b} {p} {v} r d =
    let puts = subst (λ (n : ℕ). PutsBytes b.arena (b.at + p.offset) p.width n d.does.acts) r.value d.does.puts in
    has (reads_of a p r.word d.does.acts) (record { word = r.word; putting = d.does.acts; puts = puts; are = refl })
    (did_then ((Read a.arena ((a.at + p.offset) / 8), Found r.word) ∷ []) d.does.acts r.did (record { own = d.own; does = d.does.entries; makes = d.makes }))

-- Pieces of both that were read.
pub piece_compared : {x y z : View} {a b : Side} {p : Piece} {v w : ℕ} {found : Option ℕ} → ReadsPart x y a.arena (a.at + p.offset) p.width v
    → ReadsPart y z b.arena (b.at + p.offset) p.width w → IsDifference p.width v w found → Did x z (HasActs x.caller (ComparesPiece a b p found))
piece_compared {a = a} {b} {p} {v} {w} {found} r q is =
    has (reads_of a p r.word (reads_of b p q.word [])) (record {
      v = r.word;
      w = q.word;
      answer = subst (λ (m : ℕ). IsDifference p.width (part_of a p r.word) m found) q.value (subst (λ (m : ℕ). IsDifference p.width m w found) r.value is);
      are = refl;
    }) (did_then ((Read a.arena ((a.at + p.offset) / 8), Found r.word) ∷ []) ((Read b.arena ((b.at + p.offset) / 8), Found q.word) ∷ []) r.did q.did)

-- A number that was read is one of so many bytes.
-- ---- all pieces of a copy

abbrev pub CopiesLeft : Side → Side → ℕ → Way → ℕ → Unit {0} → Acts → Type 0
CopiesLeft a b count way left u acts = CopiesFrom a b count way left acts

-- of `count` bytes so many are left to be copied
pub record IsCopying (old now : View) (a b : Side) (count : ℕ) (way : Way) (left : ℕ) : Type 0 where
  pub below : left ≤ count
  pub way_is : UnderWay (CopiesLeft a b count way) old now a.arena count left

pub copy_starts : {old : View} (a b : Side) (count : ℕ) (way : Way) → old.inside ≡ Some a.arena → IsCopying old old a b count way count
copy_starts a b count way inside = record { below = omega arith; way_is = way_starts inside }

module _ {old now : View} {a b : Side} {count : ℕ} {way : Way} {left : ℕ} (w : IsCopying old now a b count way left) where
  pub copy_on : {next : View} (p : Piece) → 0 < left → p ≡ next_piece way a b count left → next.inside ≡ Some a.arena
      → Did now next (HasActs now.caller (CopiesPiece a b p)) → IsCopying old next a b count way (left - p.width)
  copy_on {next} p some is inside d =
      let c = d.does.are in
      let here = subst (λ (q : Piece). PutsBytes b.arena (b.at + q.offset) q.width (part_of a q c.word) c.putting) is c.puts in
      let acts = reads_of a p c.word c.putting in
      let did : DidJust now next (reads_of a p c.word c.putting) = subst (DidJust now next) c.are (just d) in
      let same : acts ≡ reads_of a (next_piece way a b count left) c.word c.putting = ap (λ (q : Piece). reads_of a q c.word c.putting) is in
      let below = w.below in
      record {
        below = omega arith;
        way_is = rw is (way_goes_on w.way_is (reads_of a (next_piece way a b count left) c.word c.putting) (left - (next_piece way a b count left).width) (subst (DidJust now next) same did) inside
            (λ u later f. runs.more left c.word c.putting later some here f));
      }

  pub copy_done : IsWay a b way → left ≡ 0 → Did old now (HasActs old.caller (Copies a b count))
  copy_done way_so none =
      let d = way_ends w.way_is tt (subst (λ (n : ℕ). CopiesFrom a b count way n []) (sym none) runs.none) in
      has d.does.acts (record { way = way; is_way = way_so; acts_are = d.does.are }) (just d)

-- ---- all pieces of a comparison

abbrev pub ComparesLeft : Side → Side → ℕ → ℕ → Option ℕ → Acts → Type 0
ComparesLeft a b count left found acts = ComparesFrom a b count left found acts

pub record IsComparing (old now : View) (a b : Side) (count left : ℕ) : Type 0 where
  pub below : left ≤ count
  pub way_is : UnderWay (ComparesLeft a b count) old now a.arena count left

pub compare_starts : {old : View} (a b : Side) (count : ℕ) → old.inside ≡ Some a.arena → IsComparing old old a b count count
compare_starts a b count inside = record { below = omega arith; way_is = way_starts inside }

module _ {old now : View} {a b : Side} {count left : ℕ} (w : IsComparing old now a b count left) where
  pub compare_on : {next : View} (p : Piece) → 0 < left → p ≡ next_piece Up a b count left → next.inside ≡ Some a.arena
      → Did now next (HasActs now.caller (ComparesPiece a b p None)) → IsComparing old next a b count (left - p.width)
  compare_on {next} p some is inside d =
      let c = d.does.are in
      let here = subst (λ (q : Piece). part_of a q c.v ≡ part_of b q c.w) is c.answer in
      let did : DidJust now next (reads_of a p c.v (reads_of b p c.w [])) = subst (DidJust now next) c.are (just d) in
      let same = ap (λ (q : Piece). reads_of a q c.v (reads_of b q c.w [])) is in
      let below = w.below in
      record {
        below = omega arith;
        way_is = rw is (way_goes_on w.way_is (reads_of a (next_piece Up a b count left) c.v (reads_of b (next_piece Up a b count left) c.w [])) (left - (next_piece Up a b count left).width) (subst (DidJust now next) same did) inside
            (λ found later f. runs.agrees left c.v c.w found later some here f));
      }

  pub compare_differs : {next : View} (p : Piece) (at offset : ℕ) → 0 < left → p ≡ next_piece Up a b count left → next.inside ≡ Some a.arena
      → offset ≡ p.offset + at → Did now next (HasActs now.caller (ComparesPiece a b p (Some at)))
      → Did old next (HasActs old.caller (ComparesFrom a b count count (Some offset)))
  compare_differs {next} p at offset some is inside o d =
      let c = d.does.are in
      let q = next_piece Up a b count left in
      let here = subst (λ (q : Piece). IsDifference q.width (part_of a q c.v) (part_of b q c.w) (Some at)) is c.answer in
      let did : DidJust now next (reads_of a p c.v (reads_of b p c.w [])) = subst (DidJust now next) c.are (just d) in
      let same = ap (λ (q : Piece). reads_of a q c.v (reads_of b q c.w [])) is in
      let offset_is : offset ≡ (next_piece Up a b count left).offset + at = o ∙ ap (λ (q : Piece). q.offset + at) is in
      let all = did_then w.way_is.so_far (reads_of a q c.v (reads_of b q c.w [])) w.way_is.did (subst (DidJust now next) same did) in
      has (w.way_is.so_far ++ reads_of a q c.v (reads_of b q c.w []))
      (w.way_is.onward (Some offset) (reads_of a q c.v (reads_of b q c.w []))
      (subst (λ (n : ℕ). ComparesFrom a b count left (Some n) (reads_of a (next_piece Up a b count left) c.v (reads_of b (next_piece Up a b count left) c.w [])))
      (sym offset_is) (runs.differs left c.v c.w at some here)))
      all

  pub compare_done : left ≡ 0 → Did old now (HasActs old.caller (ComparesFrom a b count count None))
  compare_done none = way_ends w.way_is None (subst (λ (n : ℕ). ComparesFrom a b count n None []) (sym none) runs.none)

-- ---- of the only caller

pub copy_alone : {old new : View} {a b : Side} {count : ℕ} → has_arena old.state b.arena ≡ true → Did old new (HasActs old.caller (Copies a b count))
    → IsByItself old → TakesBytes old new a b count
copy_alone {old} {new} {a} {b} {count} known d h =
    let m = Makes-alone old new d.own h d.makes in
    let c = d.does.are in
    let legal = subst (λ (es : List Entry). IsLegal old.limit old.state es) d.does.entries m.0 in
    let after : state_after old.limit old.state (entries_of old.caller d.does.acts) ≡ new.state = sym (m.1 ∙ ap (state_after old.limit old.state) d.does.entries) in
    let run = copies_leave old.limit old.caller a b count c.way c.is_way old.state count d.does.acts (omega arith) c.acts_are legal in
    let all = all_put c.way old.state new.state a b count (rw after at run) in
    record { all = all.all; bytes = changes old new b.arena b.at (bytes_at old.state a count) known all.puts }

pub compare_alone : {old new : View} {a b : Side} {count : ℕ} {found : Option ℕ} → Did old new (HasActs old.caller (ComparesFrom a b count count found))
    → IsByItself old → FindsDifference old new a b count found
compare_alone {old} {new} {a} {b} {count} {found} d h =
    let m = Makes-alone old new d.own h d.makes in
    let legal = subst (λ (es : List Entry). IsLegal old.limit old.state es) d.does.entries m.0 in
    let run = compares_find old.limit old.caller a b count old.state count found d.does.acts (omega arith) d.does.are legal in
    let none : count - count ≡ 0 = omega arith in
    let same : (n : ℕ) → n + 0 ≡ n = λ n. omega arith in
    record {
      first = rw (none, same a.at, same b.at) at run.first ∙ later-none 0 _ refl;
      same = m.1 ∙ ap (state_after old.limit old.state) d.does.entries ∙ run.same;
    }

-- ---- the calls

copy_err : (src : Region) (src_at : ℕ) (dst : Region) (dst_at n : ℕ) (e : Refusal) → checked_copy src src_at dst dst_at n ≡ Err e → IsOfArguments e
copy_err src src_at dst dst_at n e h = by_tests (nat_lt 0 n && dst.read_only) (nat_le (src_at + n) src.size && nat_le (dst_at + n) dst.size) h where
  by_tests : (b fits : Bool) → (if b then Err ReadOnly else (if fits then unit_ok else Err Bounds)) ≡ Err e → IsOfArguments e
  by_tests true fits h = let same : ReadOnly ≡ e = cc in subst IsOfArguments same tt
  by_tests false true h = absurd (cc)
  by_tests false false h = let same : Bounds ≡ e = cc in subst IsOfArguments same tt

pub copy_fits : (src : Region) (src_at : ℕ) (dst : Region) (dst_at n : ℕ) → checked_copy src src_at dst dst_at n ≡ Ok tt → FitBoth src src_at dst dst_at n
copy_fits src src_at dst dst_at n h =
    by_tests (nat_lt 0 n && dst.read_only) (nat_le (src_at + n) src.size && nat_le (dst_at + n) dst.size) refl h
  where
    by_tests : (b fits : Bool) → (nat_le (src_at + n) src.size && nat_le (dst_at + n) dst.size) ≡ fits
        → (if b then Err ReadOnly else (if fits then unit_ok else Err Bounds)) ≡ unit_ok → FitBoth src src_at dst dst_at n
    by_tests true fits e h = absurd (cc)
    by_tests false true e h =
        let both = and_parts (nat_le (src_at + n) src.size) (nat_le (dst_at + n) dst.size) e in
        record { source = leb-true (src_at + n) src.size both.0; target = leb-true (dst_at + n) dst.size both.1 }
    by_tests false false e h = absurd (cc)

module _ {x : View} {src dst : Region} (can : AreIn x src.arena src dst) (src_at dst_at n : ℕ) where
  pub copied : {y : View} → checked_copy src src_at dst dst_at n ≡ Ok tt
      → Did x y (HasActs x.caller (Copies (side src.arena (src.first + src_at)) (side dst.arena (dst.first + dst_at)) n)) → y.inside ≡ Some src.arena
      → AfterCopy x y src src_at dst dst_at n (Ok tt)
  copied is d inside =
      after_has {Do = ActsAt (placed_at (dst.first + dst_at) (checked_copy src src_at dst dst_at n)) (CopiesHere src src_at dst dst_at n)} can.first (rw is d) inside
      (λ h. copy_alone can.second.arena d h)

  pub not_copied : {e : Refusal} → checked_copy src src_at dst dst_at n ≡ Err e → AfterCopy x x src src_at dst dst_at n (Err e)
  not_copied {e} is =
      after_refused (CopiesHere src src_at dst dst_at n) (Err e) can.first (ap (placed_at (dst.first + dst_at)) is) refl (copy_err src src_at dst dst_at n e is)

-- What is learnt of a comparison.
pub compared : {x y : View} {a b : Region} {found : Option ℕ} {z : ℤ} → AreIn x a.arena a b → z ≡ mismatch_of a.size b.size found
    → Did x y (HasActs x.caller (ComparesFrom (side a.arena a.first) (side b.arena b.first) (common_size a b) (common_size a b) found)) → y.inside ≡ Some a.arena
    → AfterMismatch x y a b (Ok z)
compared {x} {y} {a} {b} {found} can is d inside =
    let same : common_size a b ≡ common_size b a = omega arith in
    after_has {Do = DoesMismatch a b} can.first
    (record { own = d.own; does = record { acts = d.does.acts; are = (found, d.does.are, is); entries = d.does.entries }; makes = d.makes }) inside
    (λ h.
    let f = compare_alone d h in
    record {
      first = is ∙ ap (mismatch_of a.size b.size) (f.first
          ∙ ap (λ n. first_difference (common_bytes x.state a b) (bytes_at x.state (side b.arena b.first) n)) same);
      same = f.same;
    })

-- ---- what is asked for of whole segments

module _ {x : View} {a b : Region} (can : AreIn x a.arena a b) where
  -- Bytes of both can be reached.
  pub both_reach : (at to n : ℕ) → at + n ≤ a.size → to + n ≤ b.size → a.first + a.size ≤ 2 ^ 40 → b.first + b.size ≤ 2 ^ 40
      → ReachesBoth x (side a.arena (a.first + at)) (side b.arena (b.first + to)) n
  both_reach at to n fits fits_to ends ends_to =
      let first : a.first + a.size ≤ given_in x a.arena = can.first.known.given in
      let second : b.first + b.size ≤ given_in x b.arena = can.second.given in
      record {
        first = record { inside = can.first.inside; given = omega arith; small = omega arith };
        second = record { inside = can.first.inside ∙ ap Some (sym can.same); given = omega arith; small = omega arith };
        same = can.same;
      }

  pub both_whole : (n : ℕ) → n ≤ a.size → n ≤ b.size → a.first + a.size ≤ 2 ^ 40 → b.first + b.size ≤ 2 ^ 40
      → ReachesBoth x (side a.arena a.first) (side b.arena b.first) n
  both_whole n fits fits_to ends ends_to =
      let first : a.first + a.size ≤ given_in x a.arena = can.first.known.given in
      let second : b.first + b.size ≤ given_in x b.arena = can.second.given in
      record {
        first = record { inside = can.first.inside; given = omega arith; small = omega arith };
        second = record { inside = can.first.inside ∙ ap Some (sym can.same); given = omega arith; small = omega arith };
        same = can.same;
      }

  -- The second is known still.
  pub second_known : {y : View} {P : List Entry → Type 0} → Did x y P → IsKnown y b
  second_known {y} d = known_still x y b (Makes-lasts x y d.own d.makes) can.second

-- An offset below a count is small where the count is.
pub small_found : (found : Option ℕ) (n : ℕ) → n ≤ 2 ^ 40 → ForSome found (λ offset. offset < n) → ForSome found (λ offset. offset < 2 ^ 40)
small_found found n small h = λ offset e. let below = h offset e in omega arith
