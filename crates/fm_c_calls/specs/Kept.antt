-- What a handle owns.
use Rattle.std.specs.Prelude.{Option, None, Some}
use base.Fml.{Fml, ftrue}
use denote.RattleType.{RattleType}
use denote.RawPtr.{Ptr}
use Rattle.std.specs.declared.alloc.Global.{Global}
use Rattle.std.specs.contracts.impls.GlobalAllocator.TheImpl.{ghosts}
use Rattle.std.specs.Box.Ownership.{box_owns}

-- the heap's handle, which is one value
abbrev pub heap : Global
heap = record { memory = record { seal = tt } }

-- a box of this value at the address, or nothing
abbrev pub kept : (R : RattleType) → Ptr → Option R.Denot → Fml
kept R p None = ftrue
kept R p (Some x) = box_owns (ghosts.dealloc_token heap) R p x

-- something is kept
abbrev pub Keeps : {X : Type 0} → Option X → Type 0
Keeps None = ⊥
Keeps (Some x) = Unit {0}
