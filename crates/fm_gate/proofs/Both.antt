-- Holds beside others.
use Rattle.std.proofs.Common.{◌≡◌, ◌∙◌, ◌<◌, List, ◌∷◌, sym, ap, subst, arith, Result, Ok, Err, inr}
use Rattle.fm_base.specs.{declared.{arena_id.ArenaId.{ArenaId}, refusal.Refusal.{Refusal}}, Arenas.{same_id}, Calls.{Entry}, Finds.{Rest}}
use Rattle.fm_base.proofs.Names.{same_id-self}
use Rattle.fm_rule_facts.{specs.{Views.{View, In}, Holds.{released, one_if, how_many}}, proofs.Summing.{some_hold, one_less}}
use Rattle.fm_rule.specs.declared.pool.Pool.{Pool}
use Rattle.fm_rule_calls.{specs.Kept.{Goes}, proofs.Going.{known_on}}
use Rattle.fm_gate.specs.{declared.held.Hold.{Hold}, Needs.{CanUnhold}, Learnt.{holds_taken}}
use Rattle.fm_gate.{specs.HoldLaws.{StandsAtHold, BothAtHold, BothStand, OneIsLeft, OthersAreLeft, HoldsStand}, proofs.Counted.{some_in, in_released}}
use Rattle.fm_gate.proofs.Outside.{made_on, of_on}

-- A hold whose arena the pass still has among its holds can still be spent.
held_on : (pool : Pool) {p q : View} {own : List Entry} (hold : Hold) → Goes p q own → In hold.arena q.holds → CanUnhold pool p hold
    → CanUnhold pool q hold
held_on pool hold g i can = record {
  of = of_on pool g can.of;
  maker = can.maker ∙ sym (made_on g);
  known = known_on g hold.arena can.known;
  held = i;
  by_hand = can.by_hand;
}

-- What is held is held once another hold was taken, or refused.
pub in_taken : (a b : ArenaId) (result : Result Hold Refusal) (hs : List ArenaId) → In a hs → In a (holds_taken b result hs)
in_taken a b (Ok h) hs i = inr i
in_taken a b (Err r) hs i = i

at_hold : StandsAtHold
at_hold pool old new other result hold a can =
    let e : new.holds ≡ holds_taken other result old.holds = ap (λ (r : Rest). r.holds) a.did.rest in
    held_on pool hold a.did.goes (subst (λ (hs : List ArenaId). In hold.arena hs) (sym e) (in_taken hold.arena other result old.holds can.held)) can

both : BothAtHold
both pool old new (Err r) first a can = tt
both pool old new (Ok second) first a can =
    let e : new.holds ≡ first.arena ∷ old.holds = ap (λ (r : Rest). r.holds) a.did.rest in
    let c : how_many first.arena new.holds ≡ how_many first.arena (first.arena ∷ old.holds) = ap (how_many first.arena) e in
    let one : one_if (same_id first.arena first.arena) ≡ 1 = ap one_if (same_id-self first.arena) in
    let before = some_hold first.arena old.holds can.held in
    record { first = at_hold pool old new first.arena (Ok second) first a can; second = a.held; same = a.did.does.0; two = omega arith }

stand : BothStand
stand pool old new own closes first second g rest b =
    let e : new.holds ≡ old.holds = ap (λ (r : Rest). r.holds) rest in
    record {
      first = held_on pool first g (subst (λ (hs : List ArenaId). In first.arena hs) (sym e) b.first.held) b.first;
      second = held_on pool second g (subst (λ (hs : List ArenaId). In second.arena hs) (sym e) b.second.held) b.second;
      same = b.same;
      two = subst (λ (hs : List ArenaId). 1 < how_many first.arena hs) (sym e) b.two;
    }

one_left : OneIsLeft
one_left pool old new first second b a =
    let e : new.holds ≡ released first.arena old.holds = ap (λ (r : Rest). r.holds) a.did.rest in
    let less = one_less first.arena first.arena old.holds b.first.held in
    let one : one_if (same_id first.arena first.arena) ≡ 1 = ap one_if (same_id-self first.arena) in
    let two : 1 < how_many first.arena old.holds = b.two in
    let left : In first.arena new.holds =
    subst (λ (hs : List ArenaId). In first.arena hs) (sym e) (some_in first.arena (released first.arena old.holds) (omega arith)) in (
      held_on pool first a.did.goes left b.first,
      held_on pool second a.did.goes (subst (λ (x : ArenaId). In x new.holds) (sym b.same) left) b.second,
    )

others_left : OthersAreLeft
others_left pool old new other hold a n can =
    let e : new.holds ≡ released other old.holds = ap (λ (r : Rest). r.holds) a.did.rest in
    held_on pool hold a.did.goes
    (subst (λ (hs : List ArenaId). In hold.arena hs) (sym e) (in_released other hold.arena old.holds (λ q. n (sym q)) can.held)) can

pub stands : HoldsStand
stands = record { at_hold = at_hold; both = both; stand = stand; one_left = one_left; others_left = others_left }
