-- A whole count, from its reading and its tries.
use Rattle.std.{proofs.Common.{◌≡◌, ℕ, List, [], ◌++◌, refl, subst, inl, inr, arith, None, Result, Ok, Err}, specs.Prelude.{ℤ}}
use Rattle.fm_base.specs.{declared.{caller.Caller.{Caller}, refusal.Refusal.{Refusal, TheVariants.{Closed, Memory, TableFull, WrongThread}}}, Calls.{Entry}}
use Rattle.fm_base.{specs.{Outcomes.{Lasts}, View.{Did, Makes, View}}, proofs.{Making.{Makes-none, Makes-then}, Outcomes.{Makes-lasts}}}
use Rattle.fm_segment.{proofs.Access.{known_still}}
use Rattle.fm_group.proofs.Lasting.{later}
use Rattle.fm_group.specs.{Asked.{CanCount, CanTry, IsReady}, Counting.{DoesCount, DoesTries, MayCount, ReadsAndTries, ReadsValue}, Learnt.{AfterCount}, Table.{CanTable, Counter}}

pub count_may_not : {x : View} (w : Counter) (n : ℕ) → ¬ (MayCount x.caller w) → Did x x (DoesCount x.caller w n (Err WrongThread))
count_may_not {x} w n not = record { own = []; does = (not, refl); makes = Makes-none x }

pub can_try : {x y : View} {w : Counter} {n : ℕ} (z : ℤ) → CanTable w → CanCount x w n → MayCount x.caller w → Did x y (ReadsValue x.caller w.values n (Ok z)) → y.inside ≡ None → CanTry y w n
can_try {x} {y} {w} {n} z table can may d outside =
    let below = can.below in
    later (record {
      table = table;
      outside = can.ready.outside;
      records = can.ready.records;
      known = can.ready.table;
      may = may;
      below = omega (arith, below);
    }) d.makes outside

module _ {x y : View} (w : Counter) (n : ℕ) (may : MayCount x.caller w) where
  pub count_unread : (r : Refusal) → Did x y (ReadsValue x.caller w.values n (Err r)) → Did x y (DoesCount x.caller w n (Err r))
  count_unread r d = by r d.own d.makes d.does
    where
      by : (q : Refusal) (own : List Entry) → Makes x y own → ReadsValue x.caller w.values n (Err q) own → Did x y (DoesCount x.caller w n (Err q))
      by Closed own makes h = record { own = own; does = (may, inl h); makes = makes }
      by Memory own makes h = absurd h.does
      by q own makes h = absurd h.to

  module _ (z : ℤ) (d : Did x y (ReadsValue x.caller w.values n (Ok z))) where
    tries_behind : (r : Result ℕ Refusal) (own : List Entry) → DoesTries y.caller w n z r own → ReadsAndTries x.caller w n r (d.own ++ own)
    tries_behind r own h = record {
      number = z;
      reads = d.own;
      read = d.does;
      tries = own;
      tried = subst (λ (c : Caller). DoesTries c w n z r own) d.makes.same_caller h;
      parts = refl;
    }

    pub counted_then : {u : View} (r : Result ℕ Refusal) → Did y u (DoesTries y.caller w n z r) → Did x u (DoesCount x.caller w n r)
    counted_then {u} r e = by r e.own e.makes e.does
      where
        by : (q : Result ℕ Refusal) (own : List Entry) → Makes y u own → DoesTries y.caller w n z q own → Did x u (DoesCount x.caller w n q)
        by (Ok p) own makes h =
            record { own = d.own ++ own; does = (may, tries_behind (Ok p) own h); makes = Makes-then x y u d.own own d.makes makes }
        by (Err Closed) own makes h =
            record { own = d.own ++ own; does = (may, inr (tries_behind (Err Closed) own h)); makes = Makes-then x y u d.own own d.makes makes }
        by (Err TableFull) own makes h =
            record { own = d.own ++ own; does = (may, tries_behind (Err TableFull) own h); makes = Makes-then x y u d.own own d.makes makes }
        by (Err q) own makes h = absurd h

-- who may call again
pub ready_still : {x y : View} {w : Counter} {n : ℕ} → CanCount x w n → Lasts x y → y.inside ≡ None → IsReady y w
ready_still {x} {y} {w} can lasts outside = record {
  outside = outside;
  records = known_still x y w.values.records lasts can.ready.records;
  table = known_still x y w.table lasts can.ready.table;
}

pub after_count : {x y : View} {w : Counter} {n : ℕ} (r : Result ℕ Refusal) → CanCount x w n → Did x y (DoesCount x.caller w n r) → y.inside ≡ None → AfterCount x y w n r
after_count {x} {y} r can d outside =
    let lasts = Makes-lasts x y d.own d.makes in
    record { did = d; ready = ready_still can lasts outside; lasts = lasts }

pub after_none : {x : View} {w : Counter} {n : ℕ} → CanCount x w n → ¬ (MayCount x.caller w) → AfterCount x x w n (Err WrongThread)
after_none {x} {w} {n} can not = after_count (Err WrongThread) can (count_may_not w n not) can.ready.outside
