-- Holds and handles beside others of their pass.
use Rattle.std.{proofs.Common.{◌≡◌, ◌<◌, List, ◌∷◌, ap, sym, subst, arith, Result, Ok, Err}, specs.Prelude.{IfOk}}
use Rattle.fm_base.{specs.{declared.{arena_id.ArenaId.{ArenaId}, refusal.Refusal.{Refusal}}, Arenas.{same_id}, Finds.{Rest}}, proofs.Names.{same_id-self}}
use Rattle.fm_base.specs.declared.kind.Kind.TheVariants.{Automatic}
use Rattle.fm_rule_facts.{specs.{Views.{View, In}, Holds.{how_many, one_if, released}}, proofs.Summing.{some_hold, one_less}}
use Rattle.fm_gate.{specs.declared.held.Hold.{Hold}, proofs.{Counted.{some_in, in_released}, Outside.{made_on}, Both.{in_taken}}}
use Rattle.fm_gate.proofs.Outliving.{in_again, in_opened}
use Rattle.fm_arena.specs.{declared.handle.AutoHandle.{AutoHandle}, Learnt.{AfterHold, CanUnhold}, Handles.{HasHandle, AfterAgain, named, whether}}
use Rattle.fm_arena.specs.Lasting.{AreTwo, HasBoth, HoldsStand, HasTwo, HandlesStand, HoldLasts, HandleLasts}
use Rattle.fm_arena.proofs.Lasting.{hold_on, hold_same, hold_after, handle_on, handle_same, handle_after}

-- Of two in a list one is left where one is left out.
left_of_two : (a : ArenaId) (hs ks : List ArenaId) → ks ≡ released a hs → In a hs → 1 < how_many a hs → In a ks
left_of_two a hs ks is has two =
    let less = one_less a a hs has in
    let one : one_if (same_id a a) ≡ 1 = ap one_if (same_id-self a) in
    subst (λ (xs : List ArenaId). In a xs) (sym is) (some_in a (released a hs) (omega arith))

-- One more makes two.
two_of_one : (a : ArenaId) (hs ks : List ArenaId) → ks ≡ a ∷ hs → In a hs → 1 < how_many a ks
two_of_one a hs ks is has =
    let c : how_many a ks ≡ how_many a (a ∷ hs) = ap (how_many a) is in
    let one : one_if (same_id a a) ≡ 1 = ap one_if (same_id-self a) in
    let before = some_hold a hs has in omega arith

module _ {A : Type 0} {Can CanStill : A → Type 0} {arena : A → ArenaId} {hs ks : List ArenaId} {a b : A} (two : AreTwo Can arena hs a b) where
  -- Two stay two where the pass has what it had.
  still_two : ((x : A) → Can x → CanStill x) → ks ≡ hs → AreTwo CanStill arena ks a b
  still_two can same = record {
    first = can a two.first;
    second = can b two.second;
    same = two.same;
    two = subst (λ (xs : List ArenaId). 1 < how_many (arena a) xs) (sym same) two.two;
  }

  -- Where one is spent what is left is enough for either.
  either_left : ((x : A) → In (arena x) ks → Can x → CanStill x) → In (arena a) hs → ks ≡ released (arena a) hs → CanStill a × CanStill b
  either_left can has is =
      let left = left_of_two (arena a) hs ks is has two.two in
      (can a left two.first, can b (subst (λ (x : ArenaId). In x ks) (sym two.same) left) two.second)

-- ---- holds

holds_beside : HoldsStand
holds_beside = record {
  at_hold = at_hold;
  both = λ p q result first a can. both p q result first a can;
  both_by_memory = λ p q own first second m b. still_two b (λ x can. hold_after p q own x m can) (ap (λ (x : Rest). x.holds) m.told.rest);
  one_left = λ p q first second b a.
      either_left b (λ x has can. hold_on p q x a.lasts.known (made_on a.did.goes) has can) b.first.held (ap (λ (x : Rest). x.holds) a.did.rest);
  others_left = λ p q other hold a n can.
      hold_on p q hold a.lasts.known (made_on a.did.goes)
      (subst (λ (hs : List ArenaId). In hold.arena hs) (sym (ap (λ (x : Rest). x.holds) a.did.rest))
      (in_released other hold.arena p.holds (λ e. n (sym e)) can.held)) can;
}
  where
    at_hold : (p q : View) (id : ArenaId) (result : Result Hold Refusal) (hold : Hold) → AfterHold p q id result → CanUnhold p hold → CanUnhold q hold
    at_hold p q id result hold a can =
        hold_on p q hold a.lasts.known (made_on a.did.goes)
        (subst (λ (hs : List ArenaId). In hold.arena hs) (sym (ap (λ (x : Rest). x.holds) a.did.rest)) (in_taken hold.arena id result p.holds can.held)) can

    both : (p q : View) (result : Result Hold Refusal) (first : Hold) → AfterHold p q first.arena result → CanUnhold p first
        → IfOk result (λ second. HasBoth q first second)
    both p q (Err r) first a can = tt
    both p q (Ok second) first a can = record {
      first = at_hold p q first.arena (Ok second) first a can;
      second = a.held;
      same = a.did.does.0;
      two = two_of_one first.arena p.holds q.holds (ap (λ (x : Rest). x.holds) a.did.rest) can.held;
    }

-- ---- handles

handles_beside : HandlesStand
handles_beside = record {
  at_start = λ p q result handle a can.
      handle_on p q handle a.lasts.known (made_on a.did.goes)
      (subst (λ (hs : List ArenaId). In handle.arena hs) (sym (ap (λ (x : Rest). x.handles) a.did.rest))
      (in_opened handle.arena Automatic (named result) p.handles can.handled.has)) can;
  at_again = at_again;
  both = λ p q first result a can. both p q first result a can;
  both_by_memory = λ p q own first second m b. still_two b (λ x can. handle_after p q own x m can) (ap (λ (x : Rest). x.handles) m.told.rest);
  one_left = λ p q first second result b a.
      either_left b (λ x has can. handle_on p q x a.lasts.known (made_on a.did.goes) has can) b.first.handled.has (ap (λ (x : Rest). x.handles) a.did.rest);
  others_left = λ p q other result handle a n can.
      handle_on p q handle a.lasts.known (made_on a.did.goes)
      (subst (λ (hs : List ArenaId). In handle.arena hs) (sym (ap (λ (x : Rest). x.handles) a.did.rest))
      (in_released other handle.arena p.handles (λ e. n (sym e)) can.handled.has)) can;
}
  where
    at_again : (p q : View) (of handle : AutoHandle) (result : Result AutoHandle Refusal) → AfterAgain p q of result → HasHandle p handle → HasHandle q handle
    at_again p q of handle result a can =
        handle_on p q handle a.lasts.known (made_on a.did.goes)
        (subst (λ (hs : List ArenaId). In handle.arena hs) (sym (ap (λ (x : Rest). x.handles) a.did.rest))
        (in_again handle.arena of.arena (whether result) p.handles can.handled.has)) can

    both : (p q : View) (first : AutoHandle) (result : Result AutoHandle Refusal) → AfterAgain p q first result → HasHandle p first
        → IfOk result (λ second. HasTwo q first second)
    both p q first (Err r) a can = tt
    both p q first (Ok second) a can = record {
      first = a.has;
      second = a.other;
      same = a.same;
      two = two_of_one first.arena p.handles q.handles (ap (λ (x : Rest). x.handles) a.did.rest) can.handled.has;
    }

-- ---- the laws

pub holds : HoldLasts
holds = record {
  on = λ p q hold l made same can. hold_same p q hold l.known made same can;
  by_memory = hold_after;
  beside = holds_beside;
}

pub handles : HandleLasts
handles = record {
  on = λ p q handle l made same can. handle_same p q handle l.known made same can;
  by_memory = handle_after;
  beside = handles_beside;
}
