-- What is told of a pass tells whether it has anything.
use Rattle.std.proofs.Common.{subst, sym}
use Rattle.fm_gate.{specs.Crews.{HasNothing}, proofs.Crews.{nothing_told, stands}}
use Rattle.fm_arena.specs.WorkerLaws.{WorkerLasts}

pub lasts : WorkerLasts
lasts = record {
  by_memory = λ p q own m. nothing_told p q m.told.rest;
  at_meet = λ p q seen a. nothing_told p q a.did.rest;
  -- a pass that is outside and has nothing can be gathered
  can_gather = λ pool p q of into nothing. stands.can_gather pool q (into.outside pool of) (subst HasNothing (sym into.same) nothing);
}
