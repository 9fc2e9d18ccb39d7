-- Two ranges, as far as a loop has gone through them.
use Rattle.std.proofs.Common.{◌≡◌, ℕ, ◌+◌, ◌<◌, ◌≤◌, List, [], ◌++◌, None, arith, subst, sym}
use Rattle.fm_base.{specs.{declared.caller.Caller.{Caller}, Calls.{Entry}, View.{View, Makes, Did}, Visits.{Run}}, proofs.Making.{Makes-then, Makes-none}}
use Rattle.fm_base.proofs.{Outcomes.{Makes-lasts}, Running.{Led, led_start, led_more, led_ends}}
use Rattle.fm_segment_access.proofs.Touching.{can_touch}
use Rattle.fm_segment_copies.specs.{declared.side.{Piece.{Piece}, Side.{Side}}, Learnt.{CanTouchBoth, CanTouchPieces}, Sides.{IsPieceOf, MayUseBoth}}

-- `left` of `count` bytes are left, and the visits so far led there
pub record IsUnderWay {Y : Type 0} (Step : ℕ → List Entry → ℕ → Type 0) (Ends : ℕ → List Entry → Y → Type 0) (old now : View) (a b : Side) (count left : ℕ) :
    Type 0 where
  pub may_use : 0 < count → MayUseBoth old.caller a b
  pub below : left ≤ count
  pub outside : now.inside ≡ None
  pub own : List Entry
  pub makes : Makes old now own
  pub led : Led Step Ends count left own

-- No piece was gone through.
pub way_starts : {Y : Type 0} {Step : ℕ → List Entry → ℕ → Type 0} {Ends : ℕ → List Entry → Y → Type 0} {old : View} {a b : Side} {count : ℕ}
    → (0 < count → MayUseBoth old.caller a b) → old.inside ≡ None → IsUnderWay Step Ends old old a b count count
way_starts {Step = Step} {Ends = Ends} {old = old} {count = count} may out =
    record { may_use = may; below = omega arith; outside = out; own = []; makes = Makes-none old; led = led_start Step Ends count }

module _ {Y : Type 0} {Step : ℕ → List Entry → ℕ → Type 0} {Ends : ℕ → List Entry → Y → Type 0} {old now : View} {a b : Side} {count left : ℕ}
    (w : IsUnderWay Step Ends old now a b count left) where
  -- One piece more.
  pub way_goes_on : {next : View} (then : ℕ) → then ≤ left → next.inside ≡ None → Did now next (λ es. Step left es then)
      → IsUnderWay Step Ends old next a b count then
  way_goes_on {next} then fewer out d =
      let below = w.below in
      record {
        may_use = w.may_use;
        below = omega arith;
        outside = out;
        own = w.own ++ d.own;
        makes = Makes-then old now next w.own d.own w.makes d.makes;
        led = led_more Step Ends count left then w.own d.own w.led d.does;
      }

  -- The end.
  pub way_ends : {next : View} (answer : Y) → Did now next (λ es. Ends left es answer) → Did old next (λ es. Run Step Ends count es answer)
  way_ends {next} answer d = record {
    own = w.own ++ d.own;
    does = led_ends Step Ends count left w.own d.own answer w.led d.does;
    makes = Makes-then old now next w.own d.own w.makes d.makes;
  }

  -- The next piece of bytes that both arenas had given before they went on.
  pub can_touch_pieces : (p : Piece) → CanTouchBoth old a b count → 0 < left → IsPieceOf a b count left p → CanTouchPieces now a b p
  can_touch_pieces p can more is =
      let lasts = Makes-lasts old now w.own w.makes in
      let below = w.below in
      let inside = is.inside in
      let at = is.at in
      let small = can.first_small in
      let second_small = can.second_small in
      let first : a.at + p.offset + p.width ≤ a.at + count = omega arith in
      let second : b.at + p.offset + p.width ≤ b.at + count = omega arith in
      record {
        may_use = subst (λ (c : Caller). MayUseBoth c a b) (sym lasts.caller) (w.may_use (omega arith));
        first = can_touch (a.at + p.offset) p.width can.first_known can.first_given lasts w.outside at.some at.within_source first;
        second = can_touch (b.at + p.offset) p.width can.second_known can.second_given lasts w.outside at.some at.within_target second;
        first_small = omega arith;
        second_small = omega arith;
      }
