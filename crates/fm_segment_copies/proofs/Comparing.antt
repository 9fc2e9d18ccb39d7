-- A comparison, as far as it has come.
use Rattle.std.proofs.Common.{◌≡◌, ℕ, ◌+◌, ◌-◌, ◌*◌, ◌%◌, ◌^◌, ◌<◌, [], ◌++◌, arith, refl, sym, subst, Option, Some, None, Ok, Err}
use Rattle.fm_base.specs.{declared.{caller.Caller.{Caller}, refusal.Refusal.{Refusal, TheVariants.{Closed}}}, View.{View, Did}}
use Rattle.fm_base.proofs.Making.{Makes-then, Makes-none}
use Rattle.fm_base_bytes.proofs.Bytes.{lane-lt}
use Rattle.fm_segment_access.{specs.Pieces.{ReadsPiece, DoesGetPiece}, proofs.Touching.{said}}
use Rattle.fm_segment_copies.specs.{declared.side.{Side.{Side}, Piece.{Piece}, Way.TheVariants.{Up}}, Sides.{next_piece}}
use Rattle.fm_segment_copies.specs.Comparisons.{IsDifference, ComparesPiece, DoesComparePiece, AgreesOn, EndsComparing, Compares, DoesCompare}
use Rattle.fm_segment_copies.proofs.{Stopping.{stops_same}, Touching.{IsUnderWay, way_goes_on, way_ends}}

-- ---- one piece

-- Both sides were read.
pub compared : {x y z : View} (a b : Side) (p : Piece) (v w : ℕ) {found : Option ℕ}
    → Did x y (DoesGetPiece x.caller a.arena (a.at + p.offset) p.width (Ok v))
    → Did y z (DoesGetPiece y.caller b.arena (b.at + p.offset) p.width (Ok w)) → IsDifference p.width v w found
    → Did x z (DoesComparePiece x.caller a b p (Ok found))
compared {x} {y} {z} a b p v w d e i = record {
  own = d.own ++ e.own;
  does = record {
    v = v;
    w = w;
    first = d.own;
    second = e.own;
    reads_first = d.does.1;
    reads_second = subst (λ (c : Caller). ReadsPiece c b.arena (b.at + p.offset) p.width w e.own) d.makes.same_caller e.does.1;
    visits = refl;
    answer = i;
  };
  makes = Makes-then x y z d.own e.own d.makes e.makes;
}

-- A number that was read is one of so many bytes.
pub read_fits : {x y : View} (a : Side) (p : Piece) (v : ℕ) → Did x y (DoesGetPiece x.caller a.arena (a.at + p.offset) p.width (Ok v))
    → v < 2 ^ (8 * p.width)
read_fits a p v d =
    let r = d.does.1 in
    subst (λ (n : ℕ). n < 2 ^ (8 * p.width)) (sym r.value) (lane-lt r.word ((a.at + p.offset) % 8) p.width)

-- ---- all pieces

abbrev pub IsComparing : View → View → Side → Side → ℕ → ℕ → Type 0
IsComparing old now a b count left = IsUnderWay (AgreesOn old.caller a b count) (EndsComparing old.caller a b count) old now a b count left

module _ {old now : View} {a b : Side} {count left : ℕ} (w : IsComparing old now a b count left) where
  -- A piece that was compared, as the old caller's next.
  next_compared : {next : View} (p : Piece) (found : Option ℕ) → p ≡ next_piece Up a b count left
      → (d : Did now next (DoesComparePiece now.caller a b p (Ok found))) → ComparesPiece old.caller a b (next_piece Up a b count left) found d.own
  next_compared p found e d =
      let piece : ComparesPiece old.caller a b p found d.own = subst (λ (k : Caller). ComparesPiece k a b p found d.own) w.makes.same_caller d.does in
      subst (λ (q : Piece). ComparesPiece old.caller a b q found d.own) e piece

  -- One piece more agrees.
  pub compare_goes_on : {next : View} (p : Piece) → 0 < left → p ≡ next_piece Up a b count left → next.inside ≡ None
      → Did now next (DoesComparePiece now.caller a b p (Ok None)) → IsComparing old next a b count (left - p.width)
  compare_goes_on p more e out d =
      let step : AgreesOn old.caller a b count left d.own (left - p.width) = rw e (record { more = more; piece = next_compared p None e d; then = refl }) in
      way_goes_on w (left - p.width) (omega arith) out (record { own = d.own; does = step; makes = d.makes })

  ends : {next : View} (answer : Option (Option ℕ)) → Did now next (λ es. EndsComparing old.caller a b count left es answer)
      → Did old next (λ es. Compares old.caller a b count es answer)
  ends answer d = said _ _ _ _ (λ own run. record { may_use = w.may_use; visits = run }) (way_ends w answer d)

  -- A piece that differs ends the comparison.
  pub compare_differs : {next : View} (p : Piece) (at offset : ℕ) → 0 < left → p ≡ next_piece Up a b count left → offset ≡ p.offset + at
      → Did now next (DoesComparePiece now.caller a b p (Ok (Some at))) → Did old next (DoesCompare old.caller a b count (Ok (Some offset)))
  compare_differs p at offset more e o d =
      let piece = next_compared p (Some at) e d in
      ends (Some (Some offset)) (record { own = d.own; does = record { more = more; at = at; piece = piece; offset_is = rw e at o }; makes = d.makes })

  -- A refused piece ends the comparison.
  pub compare_stops : {next : View} (p : Piece) (r : Refusal) → 0 < left → p ≡ next_piece Up a b count left
      → Did now next (DoesComparePiece now.caller a b p (Err r)) → Did old next (DoesCompare old.caller a b count (Err r))
  compare_stops p Closed more e d = ends None (said _ _ _ _ (λ own s. (more, stops_same a b w.makes.same_caller e s)) d)
  compare_stops p r more e d = absurd d.does

  -- All bytes agree.
  pub compare_done : left ≡ 0 → Did old now (DoesCompare old.caller a b count (Ok None))
  compare_done none = ends (Some None) (record { own = []; does = (none, refl); makes = Makes-none now })
