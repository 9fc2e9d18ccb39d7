use Rattle.std.proofs.{Common.{refl}, lemmas.Nat.{and_mask}}
use Rattle.fm_segment.proofs.alignment.is_aligned.Goals as goal

pub returns : goal.returns
returns c = rw (c.requires.1, and_mask c.args.place c.requires.0) refl
