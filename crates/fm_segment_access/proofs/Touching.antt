-- Pieces of the bytes that a call may touch.
use Rattle.std.proofs.Common.{◌≡◌, ℕ, ◌+◌, ◌%◌, ◌≤◌, List, true, Some, None, Ok, subst, arith}
use Rattle.fm_base.specs.{declared.arena_id.ArenaId.{ArenaId}, Arenas.{has_arena, MayUse}, Calls.{Entry}, Does.{DidEnter}, Learnt.{AfterLeave}}
use Rattle.fm_base.{specs.{Outcomes.{Lasts}, View.{View, Makes, Did, given_in}, Visits.{Acts, entries_of, visit}}, proofs.Outcomes.{Did-lasts}}
use Rattle.fm_base.proofs.Visiting.{entered_makes, visit_of_inside}
use Rattle.fm_segment_access.specs.Learnt.{CanTouch, CanTouchPiece, Visited}

-- A piece of bytes that the arena had given before it went on.
pub can_touch : {old now : View} {id : ArenaId} {end : ℕ} (at width : ℕ) → has_arena old.state id ≡ true → end ≤ given_in old id → Lasts old now
    → now.inside ≡ None → 1 ≤ width → at % 8 + width ≤ 8 → at + width ≤ end → CanTouchPiece now id at width
can_touch {old} {now} {id} {end} at width known given lasts out some within below =
    let more = lasts.given id in
    record { outside = out; known = lasts.known id known; some = some; within = within; given = omega arith }

-- Bytes of a range that may be touched, later on.
pub touch_later : {old now : View} {id : ArenaId} {place size : ℕ} (at n : ℕ) → CanTouch old id place size → Lasts old now → now.inside ≡ None
    → at + n ≤ place + size → CanTouch now id at n
touch_later {id = id} at n can lasts out below =
    let more = lasts.given id in
    let given = can.given in
    let small = can.small in
    record { outside = out; known = lasts.known id can.known; given = omega arith; small = omega arith }

-- After another visit it may be touched still.
pub touch_again : {old now : View} {Does : List Entry → Type 0} {id : ArenaId} {place width : ℕ} → CanTouchPiece old id place width → Visited old now Does
    → CanTouchPiece now id place width
touch_again {place = place} {width = width} can v =
    let below : place + width ≤ place + width = omega arith in
    can_touch place width can.known can.given v.lasts v.outside can.some can.within below

-- What was done, said otherwise.
pub said : (old new : View) (P Q : List Entry → Type 0) → ((own : List Entry) → P own → Q own) → Did old new P → Did old new Q
said old new P Q f d = record { own = d.own; does = f d.own d.does; makes = d.makes }

-- What is learnt of a visit, by what it did.
pub visited : {old now : View} {Does : List Entry → Type 0} → Did old now Does → now.inside ≡ None → Visited old now Does
visited {old} {now} {Does} d out = record { did = d; outside = out; lasts = Did-lasts old now Does d }

-- What is learnt of a visit that was let in, by what was done inside.
pub visited_inside : {x y u v : View} {id : ArenaId} {P Does : List Entry → Type 0} (acts : Acts) → DidEnter x y id (Ok tt) → u.inside ≡ Some id
    → (d : Did y u P) → d.own ≡ entries_of y.caller acts → AfterLeave u v → (MayUse id x.caller → Does (visit x.caller id acts)) → Visited x v Does
visited_inside {x} {y} {u} {v} {id} acts enter inside d is leave does =
    let e = entered_makes x y id tt enter in
    let made = subst (λ (es : List Entry). Makes y u es) is d.makes in
    visited (record { own = visit x.caller id acts; does = does e.0; makes = visit_of_inside x y u v id acts inside e.1 made leave.did }) leave.outside

-- The same, said otherwise.
pub visited_as : {old new : View} {Does More : List Entry → Type 0} → Visited old new Does → ((own : List Entry) → Does own → More own) → Visited old new More
visited_as {old} {new} {Does} {More} v f = record { did = said old new Does More f v.did; outside = v.outside; lasts = v.lasts }
