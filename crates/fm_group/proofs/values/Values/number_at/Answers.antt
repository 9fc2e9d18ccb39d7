use Rattle.std.proofs.Common.{ap, sym, ◌∙◌, subst, refl}
use Rattle.fm_base.specs.Arenas.{MayUse}
use Rattle.fm_group.{specs.{Values.{AreValued, Valued}}, proofs.Numbered.{after_number, can_number, may_not_number}}
use Rattle.fm_group.proofs.values.Values.number_at.Goals as goal

pub returns-then-not-may_use : goal.returns-then-not-may_use
returns-then-not-may_use g c =
    let v = g.M.Memory.view c.args.m.now in
    let same = c.arena.ensures ∙ ap (λ (u : Valued). u.records.arena) c.self.view_is in
    may_not_number c.requires (λ may. c.if-not-may_use.ensures.no refl (subst (λ a. MayUse a v.caller) (sym same) may))

pub number-requires : goal.number-requires
number-requires g c =
    let v = g.M.Memory.view c.args.m.now in
    let same = c.arena.ensures ∙ ap (λ (u : Valued). u.records.arena) c.self.view_is in
    can_number (subst AreValued c.self.view_is c.self.invariant.0) c.requires (subst (λ a. MayUse a v.caller) same (c.if-not-may_use.ensures.yes refl))

pub returns : goal.returns
returns g c =
    let v = g.M.Memory.view c.args.m.now in
    let same = c.arena.ensures ∙ ap (λ (u : Valued). u.records.arena) c.self.view_is in
    after_number c.requires c.number.result (subst (λ a. MayUse a v.caller) same (c.if-not-may_use.ensures.yes refl)) c.number.ensures.did c.number.ensures.outside
