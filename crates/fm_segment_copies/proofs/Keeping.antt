-- What holds of all entries of a copy or a comparison, where it holds of those of each visit.
use Rattle.std.{proofs.Common.{ℕ, ◌+◌, ◌*◌, ◌%◌, ◌^◌, ◌<◌, ◌≤◌, Bool, true, false, List, arith, Option, Some, None, Result, Ok, Err}, specs.Prelude.{⊤}}
use Rattle.fm_base.specs.{declared.{caller.Caller.{Caller}, refusal.Refusal.{Refusal, TheVariants.{Closed, WrongThread}}}, Calls.{Entry}}
use Rattle.fm_base.specs.Visits.{refused_visit, Run}
use Rattle.fm_base_bytes.proofs.Bytes.{lane-lt}
use Rattle.fm_segment_access.{specs.Pieces.{PutsPiece}, proofs.Keeping.{IsKept, kept_as, kept_none, run_kept}}
use Rattle.fm_segment_copies.specs.declared.side.{Side.{Side}, Piece.{Piece}, Way.{Way, TheVariants.{Up}}}
use Rattle.fm_segment_copies.specs.{Comparisons.{ComparesPiece, AgreesOn, EndsComparing, DoesCompare}, Copies.{CopiesPiece, EndsCopy, Copies, DoesCopy}}
use Rattle.fm_segment_copies.{specs.Sides.{IsPieceAt, IsPieceOf, next_piece, StopsAt, first, second, DoesOnBoth}, proofs.Fitting.{next_piece_fits}}

module _ {c : Caller} {Holds : List Entry → Type 0} (k : IsKept c Holds) (a b : Side) (count : ℕ) where
  stops_kept : (p : Piece) (own : List Entry) → StopsAt c a b p own → Holds own
  stops_kept p own first = k.refused a.arena
  stops_kept p own (second v read r) =
      k.both read (refused_visit c b.arena) (k.reads a.arena (a.at + p.offset) p.width v read r) (k.refused b.arena)

  both_kept : {X : Type 0} (Answers : X → List Entry → Type 0) (Stops : List Entry → Type 0) (result : Result X Refusal) (own : List Entry)
      → ((x : X) → Answers x own → Holds own) → (Stops own → Holds own) → DoesOnBoth c a b count Answers Stops result own → Holds own
  both_kept Answers Stops (Ok x) own answers stops d = answers x d
  both_kept Answers Stops (Err WrongThread) own answers stops d = kept_none k d.1
  both_kept Answers Stops (Err Closed) own answers stops d = stops d
  both_kept Answers Stops (Err r) own answers stops d = absurd d

  -- A comparison.
  compared_kept : (p : Piece) (found : Option ℕ) (own : List Entry) → ComparesPiece c a b p found own → Holds own
  compared_kept p found own d =
      kept_as k d.visits (k.both d.first d.second (k.reads a.arena (a.at + p.offset) p.width d.v d.first d.reads_first)
      (k.reads b.arena (b.at + p.offset) p.width d.w d.second d.reads_second))

  compare_ends : (left : ℕ) (own : List Entry) (answer : Option (Option ℕ)) → EndsComparing c a b count left own answer → Holds own
  compare_ends left own (Some None) e = kept_none k e.1
  compare_ends left own (Some (Some offset)) e = compared_kept (next_piece Up a b count left) (Some e.at) own e.piece
  compare_ends left own None e = stops_kept (next_piece Up a b count left) own e.1

  compare_run_kept : (own : List Entry) (answer : Option (Option ℕ)) → Run (AgreesOn c a b count) (EndsComparing c a b count) count own answer → Holds own
  compare_run_kept own answer run =
      run_kept k (λ left. ⊤) (λ left then es g s. (compared_kept (next_piece Up a b count left) None es s.piece, tt))
      (λ left es x g e. compare_ends left es x e) count own answer tt run

  pub compare_kept : (result : Result (Option ℕ) Refusal) (own : List Entry) → DoesCompare c a b count result own → Holds own
  compare_kept result own d =
      both_kept _ _ result own (λ found s. compare_run_kept own (Some found) s.visits) (λ s. compare_run_kept own None s.visits) d

  -- A copy, each of whose pieces is put so that it holds.
  module _ (puts : (p : Piece) (v : ℕ) (own : List Entry) → IsPieceAt a b p → p.offset + p.width ≤ count → v < 2 ^ (8 * p.width)
      → PutsPiece c b.arena (b.at + p.offset) p.width v own → Holds own) where
    copied_kept : (left : ℕ) (p : Piece) (own : List Entry) → IsPieceOf a b count left p → CopiesPiece c a b p own → Holds own
    copied_kept left p own is d =
        let from = a.at + p.offset in
        let small : d.v < 2 ^ (8 * p.width) = rw d.reads.value (lane-lt d.reads.word (from % 8) p.width) in
        kept_as k d.visits (k.both d.reading d.putting (k.reads a.arena from p.width d.v d.reading d.reads)
        (puts p d.v d.putting is.at is.inside small d.puts))

    copy_ends : (way : Way) (left : ℕ) (own : List Entry) (whole : Bool) → EndsCopy c a b count way left own whole → Holds own
    copy_ends way left own true e = kept_none k e.1
    copy_ends way left own false e = stops_kept (next_piece way a b count left) own e.1

    copies_kept : (own : List Entry) (whole : Bool) → Copies c a b count own whole → Holds own
    copies_kept own whole s =
        run_kept k (λ left. left ≤ count)
        (λ left then es h x. (
          copied_kept left (next_piece s.way a b count left) es (next_piece_fits s.way a b count left x.more h) x.piece,
          (let e = x.then in omega arith),
        ))
        (λ left es x h e. copy_ends s.way left es x e) count own whole (omega arith) s.visits

    pub copy_kept : (result : Result (Unit {0}) Refusal) (own : List Entry) → DoesCopy c a b count result own → Holds own
    copy_kept result own d = both_kept _ _ result own (λ u s. copies_kept own true s) (λ s. copies_kept own false s) d
