use Rattle.std.proofs.Common.{refl, sym, ◌∙◌}
use Rattle.fm_words.specs.Places.{given}
use Rattle.fm_rule.proofs.Knowing.{place_below, inside_slot}
use Rattle.fm_rule.proofs.updates.guess_given.Goals as goal

pub given_place-requires : goal.given_place-requires
given_place-requires c =
    inside_slot {home = c.args.pass.now.home} {v = c.args.pass.now} (record { is = refl; of = c.requires.1; sound = c.inside.ensures.sound })
    (sym c.inside.ensures.inside ∙ c.in-Some.is)

pub peek-requires : goal.peek-requires
peek-requires c =
    place_below _ (given _) (inside_slot {home = c.args.pass.now.home} {v = c.args.pass.now} (record { is = refl; of = c.requires.1; sound = c.inside.ensures.sound })
    (sym c.inside.ensures.inside ∙ c.in-Some.is)) c.given_place.ensures
