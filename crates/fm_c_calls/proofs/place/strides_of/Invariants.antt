use Rattle.std.proofs.Common.{◌≡◌, take}
use Rattle.fm_c_calls.specs.Placed.{strides_of}
use Rattle.fm_c_calls.proofs.place.strides_of.Given as goal

abbrev pub invariant-loop-dim : goal.invariant-loop-dim
invariant-loop-dim l = l.strides.items ≡ strides_of (take l.dim-index l.dims)
