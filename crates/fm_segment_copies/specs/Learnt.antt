-- What calls on two ranges ask for, and what their caller learns: one record each.
use Rattle.std.specs.{Prelude.{◌≡◌, ℕ, ◌+◌, ◌^◌, ◌<◌, ◌≤◌, true, None, Option, Result, ⊤}, Option.{ForSome}}
use Rattle.fm_base.specs.declared.{arena_id.ArenaId.{ArenaId}, caller.Caller.{Caller}, refusal.Refusal.{Refusal, TheVariants.{Closed, WrongThread}}}
use Rattle.fm_base.specs.{Arenas.{has_arena}, View.{View, given_in}}
use Rattle.fm_segment_access.specs.Learnt.{After, CanTouchPiece}
use Rattle.fm_segment_copies.specs.{declared.side.{Piece.{Piece}, Side.{Side}}, Alone.{TakesBytes, FindsDifference, StaysOutOf}, Comparisons.{DoesCompare}}
use Rattle.fm_segment_copies.specs.{Copies.{DoesCopy}, Sides.{MayUseBoth}}

-- in no arena; both arenas are known, and have given the `count` bytes
pub record CanTouchBoth (v : View) (a b : Side) (count : ℕ) : Type 0 where
  pub outside : v.inside ≡ None
  pub first_known : has_arena v.state a.arena ≡ true
  pub second_known : has_arena v.state b.arena ≡ true
  pub first_given : a.at + count ≤ given_in v a.arena
  pub second_given : b.at + count ≤ given_in v b.arena
  pub first_small : a.at + count ≤ 2 ^ 40
  pub second_small : b.at + count ≤ 2 ^ 40

-- in no arena; the caller may use both arenas, which are known and have given this piece
pub record CanTouchPieces (v : View) (a b : Side) (p : Piece) : Type 0 where
  pub may_use : MayUseBoth v.caller a b
  pub first : CanTouchPiece v a.arena (a.at + p.offset) p.width
  pub second : CanTouchPiece v b.arena (b.at + p.offset) p.width
  pub first_small : a.at + p.offset ≤ 2 ^ 40
  pub second_small : b.at + p.offset ≤ 2 ^ 40

-- why a call is refused: by the arenas, where there is a byte
abbrev pub BothCause : Side → Side → ℕ → Caller → Refusal → Type 0
BothCause a b count c WrongThread = (0 < count) × ¬ (MayUseBoth c a b)
BothCause a b count c Closed = (0 < count) × MayUseBoth c a b
BothCause a b count c e = ⊥

pub record KnowsBoth (a b : ArenaId) (v : View) : Type 0 where
  pub first : has_arena v.state a ≡ true
  pub second : has_arena v.state b ≡ true

-- of `copy_range`
abbrev pub AfterCopy : View → View → Side → Side → ℕ → Result (Unit {0}) Refusal → Type 0
AfterCopy old new a b count =
    After old new (DoesCopy old.caller a b count) (BothCause a b count old.caller)
    (λ u. TakesBytes old new a b count) (StaysOutOf old new a.arena b.arena) (KnowsBoth a.arena b.arena) (λ u. ⊤)

-- of `mismatch_range`
abbrev pub AfterCompare : View → View → Side → Side → ℕ → Result (Option ℕ) Refusal → Type 0
AfterCompare old new a b count =
    After old new (DoesCompare old.caller a b count) (BothCause a b count old.caller)
    (FindsDifference old new a b count) (StaysOutOf old new a.arena b.arena) (KnowsBoth a.arena b.arena)
    (λ found. ForSome found (λ offset. offset < count))
