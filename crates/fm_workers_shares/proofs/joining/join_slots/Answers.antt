use Rattle.std.proofs.{Common.{[], ◌∷◌, sym, subst}, lemmas.List.{append-nil}}
use Rattle.fm_workers_shares.{specs.{Joining.{CanJoinAll}, Placing.{Slot}}, proofs.{Joins.{can_one, can_slot, joins_more}, Popping.{split_more}}}
use Rattle.fm_workers_shares.proofs.joining.join_slots.Goals as goal

pub loop-slot-init : goal.loop-slot-init
loop-slot-init c = record {
  gone = [];
  split = sym (append-nil c.args.slots.items);
  comes = c.of_no_records-behind.ensures.answer;
  memory = c.of_no_records-behind.ensures.memory;
}

pub join-behind-requires-clause-can : goal.join-behind-requires-clause-can
join-behind-requires-clause-can c =
    let i = c.loop-slot.invariant in
    let slot : Slot = c.in-Some.slot in
    let split = split_more c.args.slots.items c.loop-slot.slots.items c.pop.new.self.items i.gone slot i.split c.in-Some.ensures.items in
    can_slot c.args.q.now slot i.gone c.loop-slot.behind
    (can_one c.args.q.now c.pop.new.self.items i.gone slot (subst (CanJoinAll c.args.q.now) split c.requires)) i.comes

pub loop-slot-preserved : goal.loop-slot-preserved
loop-slot-preserved c =
    let i = c.loop-slot.invariant in
    let slot : Slot = c.in-Some.slot in
    record {
      gone = slot ∷ i.gone;
      split = split_more c.args.slots.items c.loop-slot.slots.items c.pop.new.self.items i.gone slot i.split c.in-Some.ensures.items;
      comes = joins_more c.args.q.now slot i.gone c.loop-slot.behind c.join-behind.result i.comes c.join-behind.ensures.joins;
      memory = c.join-behind.ensures.memory;
    }
