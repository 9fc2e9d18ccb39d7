-- When the only caller is refused.
use Rattle.std.proofs.Common.{◌≡◌, ℕ, ◌+◌, List, ◌++◌, refl, ap, subst, ◌∙◌}
use Rattle.fm_base.specs.{declared.caller.Caller.{Caller}, Arenas.{State, Alive, arena_of}, Calls.{Entry}, Histories.{IsLegal, state_after}}
use Rattle.fm_base.{specs.Visits.{refused_visit}, proofs.Making.{IsLegal-split, state_after-append}}
use Rattle.fm_segment_access.proofs.Visits.{visit_refused, visit_reads}
use Rattle.fm_segment_copies.specs.{declared.side.{Side.{Side}, Piece.{Piece}}, Sides.{IsPieceAt, StopsAt, first, second}}

abbrev pub AreAlive : State → Side → Side → Type 0
AreAlive s a b = ((arena_of s a.arena).life ≡ Alive) × ((arena_of s b.arena).life ≡ Alive)

-- one of the two arenas isn't alive, and the state stays
pub record AreShut (s t : State) (a b : Side) : Type 0 where
  pub over : ¬ (AreAlive s a b)
  pub same : t ≡ s

-- two runs of entries, one after the other, the first of which leaves the state
pub record BothLegal (limit : ℕ) (s : State) (own one two : List Entry) : Type 0 where
  pub first : IsLegal limit s one
  pub rest : state_after limit s one ≡ s → IsLegal limit s two
  pub after : state_after limit s one ≡ s → state_after limit s own ≡ state_after limit s two

pub both_legal : (limit : ℕ) (s : State) (own one two : List Entry) → own ≡ one ++ two → IsLegal limit s own → BothLegal limit s own one two
both_legal limit s own one two e legal =
    let parts = IsLegal-split limit s one two (subst (λ (es : List Entry). IsLegal limit s es) e legal) in
    record {
      first = parts.0;
      rest = λ same. subst (λ (t : State). IsLegal limit t two) same parts.1;
      after = λ same. ap (λ (es : List Entry). state_after limit s es) e ∙ state_after-append limit s one two
          ∙ ap (λ (t : State). state_after limit t two) same;
    }

-- A piece that was refused leaves the state, and one of its arenas isn't alive.
pub piece_refused : (limit : ℕ) (c : Caller) (s : State) (a b : Side) (p : Piece) (own : List Entry) → StopsAt c a b p own → IsPieceAt a b p
    → IsLegal limit s own
    → AreShut s (state_after limit s own) a b
piece_refused limit c s a b p own first fits legal =
    let v = visit_refused limit c s a.arena (refused_visit c a.arena) refl legal in
    record { over = λ alive. v.over alive.0; same = v.same }
piece_refused limit c s a b p own (second v reads r) fits legal =
    let last = refused_visit c b.arena in
    let parts = both_legal limit s (reads ++ last) reads last refl legal in
    let read = visit_reads limit c s a.arena (a.at + p.offset) p.width v reads r fits.within_source parts.first in
    let shut = visit_refused limit c s b.arena last refl (parts.rest read.same) in
    record { over = λ alive. shut.over alive.1; same = parts.after read.same ∙ shut.same }
