use Rattle.std.proofs.Common.{sym, ap, ◌∙◌, get_or, ℕ, subst}
use Rattle.fm_words.specs.{declared.shape.Shape.{Shape}, Places.{at, session}}
use Rattle.fm_rule_facts.specs.Views.{Fits}
use Rattle.fm_rule.proofs.{Knowing.{place_below}, GivenBytes.{shape_in, finished_in, alive_by, unalive_by, unfit_by}}
use Rattle.fm_rule.proofs.finishing.Finished.shows_alive.Goals as goal

pub returns-then-not-can_have : goal.returns-then-not-can_have
returns-then-not-can_have c =
    unfit_by _ (finished_in _ _ c.self.view_is c.self.invariant) c.args.id
    (λ fit.
    let t = c.can_have.ensures.1 (subst (λ (z : Shape). Fits z c.args.id) (sym (shape_in _ _ c.self.view_is)) fit) in
    let f = c.if-not-can_have.true in absurd (cc))

pub word-word-requires : goal.word-word-requires
word-word-requires c =
    let z = c.args.self.now.shape in
    let same = shape_in _ _ c.self.view_is in
    place_below z (session c.args.id.slot) (subst (λ (x : Shape). Fits x c.args.id) same (c.can_have.ensures.0 c.if-not-can_have.false)).slot
    (c.session_place.ensures ∙ ap (λ (x : Shape). at x (session c.args.id.slot)) same)

pub returns-in-Some : goal.returns-in-Some
returns-in-Some c =
    let same = shape_in _ _ c.self.view_is in
    alive_by _ (finished_in _ _ c.self.view_is c.self.invariant) c.args.id
    (subst (λ (x : Shape). Fits x c.args.id) same (c.can_have.ensures.0 c.if-not-can_have.false)) c.requires c.in-Some.field-0 c.word-word.result
    (c.word-word.ensures ∙ ap (λ (n : ℕ). get_or c.args.self.now.words n 0)
    (c.session_place.ensures ∙ ap (λ (x : Shape). at x (session c.args.id.slot)) same))
    (sym c.alive_holds.ensures ∙ c.in-Some.is)

pub returns-in-None : goal.returns-in-None
returns-in-None c =
    let same = shape_in _ _ c.self.view_is in
    unalive_by _ (finished_in _ _ c.self.view_is c.self.invariant) c.args.id c.word-word.result
    (c.word-word.ensures ∙ ap (λ (n : ℕ). get_or c.args.self.now.words n 0)
    (c.session_place.ensures ∙ ap (λ (x : Shape). at x (session c.args.id.slot)) same))
    (sym c.alive_holds.ensures ∙ c.in-None.is)
