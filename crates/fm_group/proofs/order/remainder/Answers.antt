use Rattle.std.proofs.{Common.{refl}, lemmas.Nat.{and_mask}}
use Rattle.fm_group.proofs.order.remainder.Goals as goal

pub returns-then-power : goal.returns-then-power
returns-then-power c = let p = c.requires.power c.if-power.true in rw (p.1, and_mask c.args.bits p.0) refl
