-- A copy, as far as it has come.
use Rattle.std.proofs.Common.{◌≡◌, ℕ, ◌+◌, ◌-◌, ◌<◌, List, [], ◌++◌, None, arith, refl, subst, Bool, true, false, Result, Ok, Err}
use Rattle.fm_base.specs.{declared.{caller.Caller.{Caller}, refusal.Refusal.{Refusal, TheVariants.{Closed}}}, Arenas.{MayUse}, Calls.{Entry}, View.{View, Did}}
use Rattle.fm_base.proofs.Making.{Makes-then, Makes-none}
use Rattle.fm_segment_access.{specs.Pieces.{PutsPiece, DoesGetPiece, DoesPutPiece}, proofs.Touching.{said}}
use Rattle.fm_segment_copies.specs.{declared.side.{Side.{Side}, Piece.{Piece}, Way.{Way}}, Sides.{IsWay, next_piece}}
use Rattle.fm_segment_copies.{specs.Copies.{CopiesPiece, DoesCopyPiece, CopiesOn, EndsCopy, Copies, DoesCopy}, proofs.Stopping.{stopped_second, stops_same}}
use Rattle.fm_segment_copies.proofs.Touching.{IsUnderWay, way_goes_on, way_ends}

-- ---- one piece

-- What was read is put, or the target was refused.
pub put_then : {x y z : View} (a b : Side) (p : Piece) (v : ℕ) (result : Result (Unit {0}) Refusal) → MayUse b.arena x.caller
    → Did x y (DoesGetPiece x.caller a.arena (a.at + p.offset) p.width (Ok v))
    → Did y z (DoesPutPiece y.caller b.arena (b.at + p.offset) p.width v result) → Did x z (DoesCopyPiece x.caller a b p result)
put_then {x} {y} {z} a b p v (Ok u) may d e = record {
  own = d.own ++ e.own;
  does = record {
    v = v;
    reading = d.own;
    putting = e.own;
    reads = d.does.1;
    puts = subst (λ (c : Caller). PutsPiece c b.arena (b.at + p.offset) p.width v e.own) d.makes.same_caller e.does.1;
    visits = refl;
  };
  makes = Makes-then x y z d.own e.own d.makes e.makes;
}
put_then {x} a b p v (Err r) may d e = stopped_second a b p (λ (u : Unit {0}) (own : List Entry). CopiesPiece x.caller a b p own) v r may d e

-- ---- all pieces

abbrev pub IsCopying : View → View → Side → Side → ℕ → Way → ℕ → Type 0
IsCopying old now a b count way left = IsUnderWay (CopiesOn old.caller a b count way) (EndsCopy old.caller a b count way) old now a b count left

module _ {old now : View} {a b : Side} {count : ℕ} {way : Way} {left : ℕ} (w : IsCopying old now a b count way left) where
  -- One piece more was copied.
  pub copy_goes_on : {next : View} (p : Piece) → 0 < left → p ≡ next_piece way a b count left → next.inside ≡ None
      → Did now next (DoesCopyPiece now.caller a b p (Ok tt)) → IsCopying old next a b count way (left - p.width)
  copy_goes_on p more e out d =
      let c = old.caller in
      let piece : CopiesPiece c a b p d.own = subst (λ (k : Caller). CopiesPiece k a b p d.own) w.makes.same_caller d.does in
      let step : CopiesOn c a b count way left d.own (left - p.width) = rw e (record { more = more; piece = rw e at piece; then = refl }) in
      way_goes_on w (left - p.width) (omega arith) out (record { own = d.own; does = step; makes = d.makes })

  copied : {next : View} (whole : Bool) → IsWay a b way → Did now next (λ es. EndsCopy old.caller a b count way left es whole)
      → Did old next (λ es. Copies old.caller a b count es whole)
  copied whole is d = said _ _ _ _ (λ own run. record { may_use = w.may_use; way = way; is_way = is; visits = run }) (way_ends w whole d)

  -- A refused piece ends the copy.
  pub copy_stops : {next : View} (p : Piece) (r : Refusal) → IsWay a b way → 0 < left → p ≡ next_piece way a b count left
      → Did now next (DoesCopyPiece now.caller a b p (Err r)) → Did old next (DoesCopy old.caller a b count (Err r))
  copy_stops p Closed is more e d = copied false is (said _ _ _ _ (λ own s. (more, stops_same a b w.makes.same_caller e s)) d)
  copy_stops p r is more e d = absurd d.does

  -- All is copied.
  pub copy_done : IsWay a b way → left ≡ 0 → Did old now (DoesCopy old.caller a b count (Ok tt))
  copy_done is none = copied true is (record { own = []; does = (none, refl); makes = Makes-none now })
