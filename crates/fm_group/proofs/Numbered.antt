-- What `number_at` asks for and does.
use Rattle.std.{proofs.Common.{◌≡◌, ℕ, List, [], refl, None, Result, Ok, Err}, specs.Prelude.{ℤ}}
use Rattle.fm_base.specs.{declared.refusal.Refusal.{Refusal, TheVariants.{Closed, Memory, WrongThread}}, Arenas.{MayUse}, Calls.{Entry}, View.{Did, View}}
use Rattle.fm_base.proofs.{Making.{Makes-none}, Outcomes.{Makes-lasts}}
use Rattle.fm_segment.proofs.Access.{known_still}
use Rattle.fm_group.specs.{Asked.{CanNumber, CanValue}, Counting.{ReadsValue}, Learnt.{AfterNumber, DoesNumber}, Values.{AreValued, Valued}}

pub can_number : {x : View} {v : Valued} {n : ℕ} → AreValued v → CanNumber x v n → MayUse v.records.arena x.caller → CanValue x v n
can_number are can may = record { are = are; outside = can.outside; known = can.known; may = may; below = can.below }

module _ {x : View} {v : Valued} {n : ℕ} (can : CanNumber x v n) where
  learnt : {y : View} (r : Result ℤ Refusal) → Did x y (DoesNumber x.caller v n r) → y.inside ≡ None → AfterNumber x y v n r
  learnt {y} r d outside =
      let lasts = Makes-lasts x y d.own d.makes in
      record { did = d; outside = outside; known = known_still x y v.records lasts can.known; lasts = lasts }

  -- Another caller's arena.
  pub may_not_number : ¬ (MayUse v.records.arena x.caller) → AfterNumber x x v n (Err WrongThread)
  may_not_number not = learnt (Err WrongThread) (record { own = []; does = (not, refl); makes = Makes-none x }) can.outside

  -- The value was read.
  pub after_number : {y : View} (r : Result ℤ Refusal) → MayUse v.records.arena x.caller → Did x y (ReadsValue x.caller v n r) → y.inside ≡ None → AfterNumber x y v n r
  after_number {y} r may d outside = learnt r (record { own = d.own; does = by r d.own d.does; makes = d.makes }) outside
    where
      by : (q : Result ℤ Refusal) (own : List Entry) → ReadsValue x.caller v n q own → DoesNumber x.caller v n q own
      by (Ok z) own h = (may, h)
      by (Err Closed) own h = (may, h)
      by (Err Memory) own h = (may, h)
      by (Err WrongThread) own h = absurd h.to
      by (Err q) own h = (may, h)
