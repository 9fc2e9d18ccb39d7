use Rattle.fm_mono.proofs.{Inside.{entered_of}, Steps.{goes_out}}
use Rattle.fm_mono.proofs.mono.Mono.go_out.Goals as goal

pub invariant_of-self : goal.invariant_of-self
invariant_of-self c = let i = c.self.invariant.arenas in
    record { arenas = record { small = i.small; few = i.few; names = i.names; fit = i.fit; there = tt }; place = tt }

pub returns : goal.returns
returns c = rw (← c.self.view_is)
    (goes_out c.self.inside.limit (entered_of c.self.inside) c.self.inside.arenas.items c.self.invariant.arenas (rw (← c.self.view_is) at c.requires))
