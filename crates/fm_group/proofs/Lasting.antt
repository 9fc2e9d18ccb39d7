-- What is asked for stands behind each step of a count.
use Rattle.std.{proofs.Common.{◌≡◌, ℕ, ◌<◌, List, sym, subst, arith, None}}
use Rattle.fm_base.specs.{declared.{caller.Caller.{Caller}}, Arenas.{MayUse}, Calls.{Entry}}
use Rattle.fm_base.{specs.{View.{Did, Makes, View}}, proofs.{Outcomes.{Makes-lasts}}}
use Rattle.fm_segment.{proofs.Access.{known_still}}
use Rattle.fm_group.specs.{Asked.{CanCount, CanTry, CanTryAt, CanValue}, Counting.{MayCount}, Table.{CanTable, Counter}, Values.{count_of}}

pub later : {x y : View} {own : List Entry} {w : Counter} {n : ℕ} → CanTry x w n → Makes x y own → y.inside ≡ None → CanTry y w n
later {x} {y} {own} {w} can makes outside =
    let lasts = Makes-lasts x y own makes in
    record {
      table = can.table;
      outside = outside;
      records = known_still x y w.values.records lasts can.records;
      known = known_still x y w.table lasts can.known;
      may = subst (λ (c : Caller). MayCount c w) (sym makes.same_caller) can.may;
      below = can.below;
    }

pub can_later : {x y : View} {w : Counter} {n p : ℕ} {P : List Entry → Type 0} → CanTryAt x w n p → Did x y P → y.inside ≡ None → CanTryAt y w n p
can_later can d outside = record { can = later can.can d.makes outside; within = can.within }

pub can_value : {x y : View} {w : Counter} {n p m : ℕ} {P : List Entry → Type 0} → CanTryAt x w n p → Did x y P → y.inside ≡ None → m < count_of w.values
    → CanValue y w.values m
can_value can d outside below =
    let c = later can.can d.makes outside in
    record { are = c.table.values; outside = outside; known = c.records; may = c.may.records; below = below }

pub can_less : {x : View} {w : Counter} {n p : ℕ} → CanTryAt x w n p → CanTryAt x w 0 p
can_less h =
    let c = h.can in
    record {
      can = record { table = c.table; outside = c.outside; records = c.records; known = c.known; may = c.may; below = omega arith };
      within = h.within;
    }

pub can_read : {x : View} {w : Counter} {n : ℕ} → CanTable w → CanCount x w n → MayUse w.values.records.arena x.caller → CanValue x w.values n
can_read table can may = record { are = table.values; outside = can.ready.outside; known = can.ready.records; may = may; below = can.below }
