-- What a caller by itself finds of a stretch that it put into an arena.
use Rattle.std.proofs.Common.{◌≡◌, ℕ, ◌+◌, ◌≤◌, List, ◌++◌, length, take, Option, None, Some, Ok, Err, ap, sym, subst, ◌∙◌, append_assoc, arith}
use Rattle.std.proofs.lemmas.List.Elements.{Contains-append_right}
use Rattle.fm_base.specs.{declared.{refusal.Refusal.{Refusal}}, Arenas.{State}, Calls.{Entry}, Finds.{Find, is_page}}
use Rattle.fm_base.specs.{Machine.{rounded_up}, Outcomes.{Nature, FoundNoneFree}, View.{View, Told, TellsOn, Makes, Did, IsByItself, given_in}}
use Rattle.fm_base.specs.declared.refusal.Refusal.TheVariants as refusal
use Rattle.fm_io.specs.Files.{Contents}
use Rattle.fm_segment_access.specs.Alone.{bytes_of_arena}
use Rattle.fm_top_load.specs.{Filled.{AfterPutPortion, Fills, HoldsFor, HoldsRoom, given_behind}, Held.{FoundFull, IsHeld, OnlyIn, Wants}}
use Rattle.fm_top_load.specs.{Portions.{PortionView}, Putting.{ArePut, PutsStretch, arena_in}, Whole.{ByReads, IsCut}}
use Rattle.fm_top_load.specs.declared.{load_fault.LoadFault.{LoadFault, TheVariants.{Refused}}, reached.Reached.{Reached}, room.Room.{Room, TheVariants.{Given, Growing}}}
use Rattle.fm_top_load.specs.declared.stretch.Stretch.{Stretch}
use Rattle.fm_top_load.proofs.{GivenBytes.{rounded_whole}, Lone.{HoldsFirst, puts_stand}, Machine.{held_back, held_lone, is_alone, lone}, Placing.{only_then}}
use Rattle.fm_top_load.proofs.{Puts.{AreWords, PutSoFar}}

-- ---- what was found

since : (t u w : Option Told) (all own : List Entry) → TellsOn t u all own → FoundNoneFree is_page u w → FoundNoneFree is_page t w
since None u w all own on found = tt
since (Some t) None w all own on found = absurd on
since (Some t) (Some u) None all own on found = tt
since (Some t) (Some u) (Some w) all own on found = record {
  more = on.finds.more ++ found.more;
  grown = found.grown ∙ ap (λ (fs : List Find). fs ++ found.more) on.finds.grown ∙ append_assoc t.finds on.finds.more found.more;
  find = found.find;
  among = Contains-append_right on.finds.more found.more found.find found.among;
  step = found.step;
  nothing = found.nothing;
}

-- what was found in a later call was found since an earlier one
pub found_since : {x y : View} (z : View) {own : List Entry} (nature : Nature) → Makes x y own → FoundFull nature y z → FoundFull nature x z
found_since {x} {y} z {own} nature makes found = (found.0, since x.told y.told z.told makes.all own makes.told found.1)

wants_since : {x y : View} (z : View) {own : List Entry} (nature : Nature) (r : Refusal) → Makes x y own → Wants nature y z r → Wants nature x z r
wants_since z nature refusal.Memory makes wants = wants
wants_since z nature refusal.PoolFull makes wants = found_since z nature makes wants
wants_since z nature r makes wants = absurd wants

-- ---- what stands

module _ (stretch : Stretch) (x : View) (room : Room) where
  by_itself : HoldsRoom stretch x room → IsByItself x
  by_itself h = elim room as (λ (k : Room). HoldsRoom stretch x k → IsByItself x) [
    | Given a ↦ (λ g. g.0.by_itself)
    | Growing a ↦ (λ g. g.empty.held.by_itself)
  ] h

  holds_first : HoldsRoom stretch x room → HoldsFirst x.limit x.caller x.state room
  holds_first h = elim room as (λ (k : Room). HoldsRoom stretch x k → HoldsFirst x.limit x.caller x.state k) [
    | Given a ↦ (λ g. held_lone g.0)
    | Growing a ↦ (λ g. record { held = held_lone g.empty.held; none = g.empty.none })
  ] h

  -- bytes of the stretch are within the arena's limit
  within : HoldsRoom stretch x room → (n : ℕ) → n ≤ stretch.most → stretch.at + n ≤ stretch.limit → n ≤ x.limit
  within h n most short = elim room as (λ (k : Room). HoldsRoom stretch x k → n ≤ x.limit) [
    | Given a ↦ (λ g. let all = g.1 in omega (arith, most, all))
    | Growing a ↦ (λ g. let all = g.room in omega (arith, short, all))
  ] h

-- the bytes stand at the arena's start, which is held, and nothing else changed
pub record Stands (x z : View) (room : Room) (bytes : List ℕ) : Type 0 where
  pub held : IsHeld z (arena_in room)
  pub given : given_in z (arena_in room) ≡ given_behind room (given_in x (arena_in room)) (length bytes)
  pub stand : take (length bytes) (bytes_of_arena z.state (arena_in room)) ≡ bytes
  pub elsewhere : OnlyIn (arena_in room) x.state z.state

module _ (stretch : Stretch) {x z : View} {room : Room} (h : HoldsRoom stretch x room) (out : z.inside ≡ None) where
  pub stands : (bytes : List ℕ) (own : List Entry) → length bytes ≤ stretch.most → stretch.at + length bytes ≤ stretch.limit → Makes x z own
      → ArePut x.caller room bytes own → Stands x z room bytes
  stands bytes own most short makes put =
      let alone = is_alone (by_itself stretch x room h) makes in
      let at = puts_stand x.limit x.caller x.state room bytes own put (holds_first stretch x room h) (within stretch x room h (length bytes) most short) alone.legal alone.mine in
      let a = arena_in room in
      record {
        held = held_back (by_itself stretch x room h) makes out (subst (λ (s : State). IsHeld (lone x.limit x.caller s) (arena_in room)) (sym alone.state) at.held);
        given = ap (λ (s : State). given_in (lone x.limit x.caller s) a) alone.state ∙ at.given;
        stand = ap (λ (s : State). take (length bytes) (bytes_of_arena s a)) alone.state ∙ at.stand;
        elsewhere = subst (λ (s : State). OnlyIn (arena_in room) x.state s) (sym alone.state) at.elsewhere;
      }

  -- The stretch was put.
  pub fills : {nature : Nature} {told : Option Contents} {first : PortionView} {reached : Reached} → Did x z (PutsStretch stretch told x.caller room first reached)
      → Fills nature stretch told x z room (Ok reached)
  fills {nature} {told} {first} {reached} did =
      let put = did.does in
      let stand = stands put.bytes did.own put.cut.within put.cut.short did.makes put.put in
      record {
        held = stand.held;
        elsewhere = stand.elsewhere;
        given = stand.given ∙ ap (given_behind room (given_in x (arena_in room))) put.count;
        stand = subst (λ (bs : List ℕ). IsCut stretch.limit stretch.most told stretch.name.now stretch.at bs reached.ended)
            (sym stand.stand ∙ ap (λ n. take n (bytes_of_arena z.state (arena_in room))) put.count) put.cut;
        wants = λ r e. absurd (cc);
      }

  -- A read came to nothing behind what was put.
  pub fills_some : {nature : Nature} {told : Option Contents} {size : ℕ} {fault : LoadFault}
      → Did x z (PutSoFar told stretch.name.now stretch.at x.caller room size) → size ≤ stretch.most → stretch.at + size ≤ stretch.limit → ByReads fault
      → Fills nature stretch told x z room (Err fault)
  fills_some {nature} {told} {size} {fault} did most short by =
      let put = did.does in
      let count = put.count in
      let stand = stands put.bytes did.own (omega (arith, count, most)) (omega (arith, count, short)) did.makes put.put in
      record { held = stand.held; elsewhere = stand.elsewhere; given = tt; stand = tt; wants = λ r e. let is : fault ≡ Refused r = cc in absurd (subst ByReads is by) }

-- ---- a portion that is refused

holds_for : {x y : View} (stretch : Stretch) (size n : ℕ) (room : Room) (bytes : List ℕ) → Stands x y room bytes → HoldsRoom stretch x room → y.limit ≡ x.limit
    → length bytes ≡ size → AreWords room size → stretch.at + (size + n) ≤ stretch.limit → HoldsFor y room n
holds_for stretch size n (Given a) bytes stand h limit count even short = stand.held
holds_for {x} {y} stretch size n (Growing a) bytes stand h limit count even short =
    let given = stand.given in
    let all = h.room in
    let at : rounded_up (given_in y a) 8 ≡ size = ap (λ n. rounded_up n 8) (given ∙ count) ∙ rounded_whole size even in
    record { held = stand.held; room = omega (arith, at, short, all, limit) }

module _ (stretch : Stretch) {x y z : View} (nature : Nature) {told : Option Contents} (size : ℕ) (p : PortionView) (r : Refusal) where
  refused_in : (room : Room) → HoldsRoom stretch x room → (bytes : List ℕ) → Stands x y room bytes → (own : List Entry) → Makes x y own → length bytes ≡ size
      → stretch.at + (size + length p.bytes) ≤ stretch.limit → AreWords room size → AfterPutPortion nature y z room size p.bytes (Err r)
      → Fills nature stretch told x z room (Err (Refused r))
  refused_in (Given a) h bytes stand own makes count short even after = absurd (after.alone stand.held)
  refused_in (Growing a) h bytes stand own makes count short even after =
      let stays = after.alone (holds_for stretch size (length p.bytes) (Growing a) bytes stand h makes.same_limit count even short) in
      record {
        held = stays.held;
        elsewhere = only_then stand.elsewhere stays.elsewhere;
        given = tt;
        stand = tt;
        wants = λ s e. let is : r ≡ s = cc in subst (Wants nature x z) is (wants_since z nature r makes stays.wants);
      }

  pub fills_refused : (room : Room) → HoldsRoom stretch x room → y.inside ≡ None → (d : Did x y (PutSoFar told stretch.name.now stretch.at x.caller room size))
      → size + length p.bytes ≤ stretch.most → stretch.at + (size + length p.bytes) ≤ stretch.limit → AreWords room size
      → AfterPutPortion nature y z room size p.bytes (Err r) → Fills nature stretch told x z room (Err (Refused r))
  fills_refused room h out d most short even after =
      let put = d.does in
      let count = put.count in
      let stand = stands stretch h out put.bytes d.own (omega (arith, count, most)) (omega (arith, count, short)) d.makes put.put in
      refused_in room h put.bytes stand d.own d.makes put.count short even after
