-- A piece of two sides that was refused.
use Rattle.std.proofs.Common.{◌≡◌, ℕ, ◌+◌, List, ◌++◌, sym, subst, Ok, Err}
use Rattle.fm_base.specs.{declared.{caller.Caller.{Caller}, refusal.Refusal.{Refusal}}, Arenas.{MayUse}, Calls.{Entry}, View.{View, Makes, Did}}
use Rattle.fm_base.{specs.{Visits.{refused_visit}, Does.{DoesEnter}}, proofs.{Making.{Makes-then}, Visiting.{refused_makes}}}
use Rattle.fm_segment_access.specs.Pieces.{DoesGetPiece}
use Rattle.fm_segment_copies.specs.{declared.side.{Side.{Side}, Piece.{Piece}}, Sides.{StopsAt, first, second, DoesOnPiece}}

module _ {X : Type 0} (a b : Side) (p : Piece) (Answers : X → List Entry → Type 0) where
  -- The first visit was refused.
  pub stopped_first : {x y : View} (r : Refusal) → MayUse a.arena x.caller → Did x y (DoesEnter x.caller a.arena (Err r))
      → Did x y (DoesOnPiece x.caller a b p Answers (Err r))
  stopped_first {x} {y} r may d =
      let m = refused_makes x y a.arena r may d in
      rw m.0 (record { own = refused_visit x.caller a.arena; does = first; makes = m.1 })

  -- The second visit was refused, after the first side's bytes were read.
  pub stopped_second : {x y z : View} (v : ℕ) (r : Refusal) → MayUse b.arena x.caller
      → Did x y (DoesGetPiece x.caller a.arena (a.at + p.offset) p.width (Ok v)) → Did y z (DoesEnter y.caller b.arena (Err r))
      → Did x z (DoesOnPiece x.caller a b p Answers (Err r))
  stopped_second {x} {y} {z} v r may d e =
      let same = d.makes.same_caller in
      let m = refused_makes y z b.arena r (subst (λ (c : Caller). MayUse b.arena c) (sym same) may) e in
      let last : Makes y z (refused_visit x.caller b.arena) = subst (λ (c : Caller). Makes y z (refused_visit c b.arena)) same m.1 in
      rw m.0 (record {
        own = d.own ++ refused_visit x.caller b.arena;
        does = second v d.own d.does.1;
        makes = Makes-then x y z d.own (refused_visit x.caller b.arena) d.makes last;
      })

-- A piece that was refused, of a caller and a piece named otherwise.
pub stops_same : {c k : Caller} {p q : Piece} {own : List Entry} (a b : Side) → k ≡ c → q ≡ p → StopsAt k a b q own → StopsAt c a b p own
stops_same {c} {k} {p} {q} {own} a b e f s = subst (λ (x : Piece). StopsAt c a b x own) f (subst (λ (x : Caller). StopsAt x a b q own) e s)
