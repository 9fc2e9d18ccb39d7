use Rattle.std.proofs.Common.{ap, ◌∙◌, arith}
use Rattle.fm_rule_facts.specs.Views.{View}
use Rattle.fm_rule_steps.proofs.Gathering.{gather_joins}
use Rattle.fm_rule.{specs.Views.{numbers_of}, proofs.{Knowing.{one_table, in_pool}, Making.{can_look}, Noting.{some_words}}}
use Rattle.fm_rule.proofs.Halves.{at_rest, gathers, gather_keeps, few_after}
use Rattle.fm_rule.proofs.pool.Pool.join_in.Goals as goal

pub join_seat-requires : goal.join_seat-requires
join_seat-requires c = (
  one_table _ _ (ap (λ (x : View). x.home) c.pass.view_is ∙ c.requires.pass.0),
  one_table _ _ (ap (λ (x : View). x.home) c.other.view_is ∙ c.requires.other.of.0),
  c.other.invariant.empty,
  some_words _ _ c.args.self.now.sized,
  λ s h at ne at'. gather_joins _ _ _ h _ _ _ _ at ne at' c.pass.invariant.live (ap (λ (x : View). x.number) c.pass.view_is ∙ c.requires.none)
      (at_rest _ c.other.inside.seat.me.0 _ c.other.view_is c.other.invariant.live c.other.invariant.met c.requires.other),
)

pub load_as-requires-clause-can : goal.load_as-requires-clause-can
load_as-requires-clause-can c =
    can_look (c.join_seat.ensures.0 ∙ in_pool _ c.pass.inside.seat.me.0 _ c.args.self.now c.pass.view_is c.requires.pass)
    ((λ j. (c.join_seat.ensures.2 j).0.live) ∙ c.pass.invariant.live) c.front_place-place.ensures

pub invariant_of-pass : goal.invariant_of-pass
invariant_of-pass c =
    gather_keeps c.pass.inside.seat.me.0 c.other.inside.seat.me.0 _ _ _ (λ j. (c.join_seat.ensures.2 j).0) c.pass.invariant.met c.load_as.ensures.tells
    _ _ _ _ _ _ _ c.pass.invariant c.other.invariant.counted (c.load_as.ensures.slots ∙ (λ j. (c.join_seat.ensures.2 j).1))

pub returns : goal.returns
returns c =
    gathers c.pass.inside.seat.me.0 c.other.inside.seat.me.0 _ _ _ (λ j. (c.join_seat.ensures.2 j).0) c.pass.invariant.met c.load_as.ensures.tells
    _ _ _ _ _ c.pass.view_is c.other.view_is (ap numbers_of (c.load_as.ensures.table ∙ c.join_seat.ensures.0))

pub overflow_add-pass-2 : goal.overflow_add-pass-2
overflow_add-pass-2 c =
    let f = few_after c.pass.inside.seat.me.0 c.other.inside.seat.me.0 _ _ _ (λ j. (c.join_seat.ensures.2 j).0) c.pass.invariant.met c.load_as.ensures.tells
    _ _ c.pass.invariant.counted c.other.invariant.counted in
    omega (arith, f)
