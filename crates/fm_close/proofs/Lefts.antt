-- Which handles are left after one was given back.
use Rattle.std.proofs.Common.{◌≡◌, List, sym, ap, subst, arith}
use Rattle.fm_base.{specs.{declared.arena_id.ArenaId.{ArenaId}, Arenas.{same_id}, Finds.{Rest}}, proofs.Names.{same_id-self}}
use Rattle.fm_rule_facts.{specs.{Views.{In}, Holds.{released, one_if}}, proofs.Summing.{one_less}}
use Rattle.fm_gate.proofs.{Counted.{some_in, in_released}, Outliving.{has_on}}
use Rattle.fm_close.specs.Handles.{HandlesAreLeft}

pub left : HandlesAreLeft
left = record {
  own = λ pool old new id result a two can.
      let e : new.handles ≡ released id old.handles = ap (λ (r : Rest). r.handles) a.did.rest in
      let less = one_less id id old.handles can.has in
      let one : one_if (same_id id id) ≡ 1 = ap one_if (same_id-self id) in
      has_on pool id a.did.goes (subst (λ (hs : List ArenaId). In id hs) (sym e) (some_in id (released id old.handles) (omega arith))) can;
  others = λ pool old new id result other a n can.
      let e : new.handles ≡ released id old.handles = ap (λ (r : Rest). r.handles) a.did.rest in
      has_on pool other a.did.goes (subst (λ (hs : List ArenaId). In other hs) (sym e) (in_released id other old.handles n can.has)) can;
}
