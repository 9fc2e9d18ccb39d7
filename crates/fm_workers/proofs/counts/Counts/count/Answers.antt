use Rattle.std.{proofs.{Common.{◌≡◌, ◌∙◌, None, sym, subst}, lemmas.Int.{to_z-of_z}}, specs.Int.{w64}}
use Rattle.fm_workers.{specs.Counts.{AreCounts}, proofs.Numbers.{none_more, one_counted}}
use Rattle.fm_workers.proofs.counts.Counts.count.Goals as goal

pub returns-in_default : goal.returns-in_default
returns-in_default c ns h =
    let same = to_z-of_z w64 c.args.number c.ranges.number in
    let none : c.place_of.result ≡ None = c.in_default.is in
    none_more ns c.args.number c.args.self.now (λ k below e. c.place_of.ensures.none none k below (same ∙ e)) h

pub returns : goal.returns
returns c ns h =
    let same = to_z-of_z w64 c.args.number c.ranges.number in
    let e : c.args.self.now ≡ c.self.inside.items = sym c.self.view_is in
    one_counted ns c.args.number c.self.inside.items c.in-Some.place c.in-Some.ensures.some.0 (sym same ∙ c.in-Some.ensures.some.1) (subst (AreCounts ns) e h)
