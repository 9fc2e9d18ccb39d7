-- What `read_groups` asks for and does.
use Rattle.std.{proofs.Common.{◌≡◌, ◌≢◌, List, [], refl, arith, None, Result, Ok, Err}}
use Rattle.fm_base.specs.{declared.refusal.Refusal.{Refusal, TheVariants.{Closed, Memory, WrongThread}}, Calls.{Entry}}
use Rattle.fm_base.{specs.{View.{Did, Makes, View}}, proofs.{Making.{Makes-none}, Outcomes.{Makes-lasts}}}
use Rattle.fm_segment.proofs.Access.{known_still}
use Rattle.fm_group_lists.specs.Groups.{AreSummed, Group}
use Rattle.fm_group.specs.{Asked.{CanTry, IsReady}, Counting.{MayCount}, Learnt.{AfterReadGroups}, Reading.{DoesReadGroups, DoesReadPlaces, at_end}, Table.{CanTable, Counter}}

pub can_read_places : {x : View} {w : Counter} → CanTable w → IsReady x w → MayCount x.caller w → CanTry x w 0
can_read_places table ready may = record { table = table; outside = ready.outside; records = ready.records; known = ready.table; may = may; below = omega arith }

module _ {x y : View} {w : Counter} (ready : IsReady x w) where
  learnt : (r : Result (List Group) Refusal) → Did x y (DoesReadGroups x.caller w r) → y.inside ≡ None → AfterReadGroups x y w r
  learnt r d outside =
      let lasts = Makes-lasts x y d.own d.makes in
      record {
        did = d;
        ready = record { outside = outside; records = known_still x y w.values.records lasts ready.records; table = known_still x y w.table lasts ready.table };
        lasts = lasts;
      }

  module _ (may : MayCount x.caller w) where
    -- Not all places were read.
    pub groups_unread : (r : Refusal) → Did x y (DoesReadPlaces x.caller w (Err r)) → y.inside ≡ None → AfterReadGroups x y w (Err r)
    groups_unread r d outside = by r d.own d.makes d.does
      where
        by : (q : Refusal) (own : List Entry) → Makes x y own → DoesReadPlaces x.caller w (Err q) own → AfterReadGroups x y w (Err q)
        by Closed own makes h = learnt (Err Closed) (record { own = own; does = (may, h); makes = makes }) outside
        by Memory own makes h = learnt (Err Memory) (record { own = own; does = (may, h); makes = makes }) outside
        by q own makes h = absurd h

    module _ (xs : List Group) (d : Did x y (DoesReadPlaces x.caller w (Ok xs))) (outside : y.inside ≡ None) where
      -- All were, and summed up,
      pub groups_read : (gs : List Group) → AreSummed xs gs → AfterReadGroups x y w (Ok gs)
      groups_read gs summed =
          learnt (Ok gs) (record { own = d.own; does = (may, record { found = xs; reads = d.does; summed = summed }); makes = d.makes }) outside

      -- or there was no memory to.
      pub groups_unsummed : xs ≢ [] → AfterReadGroups x y w (Err Memory)
      groups_unsummed some =
          learnt (Err Memory) (record { own = d.own; does = (may, at_end xs d.own d.does some); makes = d.makes }) outside

-- Another caller's arena.
pub groups_may_not : {x : View} {w : Counter} → IsReady x w → ¬ (MayCount x.caller w) → AfterReadGroups x x w (Err WrongThread)
groups_may_not {x} ready not = learnt ready (Err WrongThread) (record { own = []; does = (not, refl); makes = Makes-none x }) ready.outside
