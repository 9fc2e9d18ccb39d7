use Rattle.std.proofs.Common.{◌+◌, ◌/◌, [], ◌∷◌, arith, sym, ◌∙◌}
use Rattle.fm_base.specs.Calls.{Read, Found}
use Rattle.fm_visit.proofs.{Getting.{part_fits}, Pairs.{piece_copied}, Putting.{reaches_word, still_reaches}}
use Rattle.fm_visit.proofs.sides.copy_piece.Goals as goal

pub get_piece-v-requires-clause-inside : goal.get_piece-v-requires-clause-inside
get_piece-v-requires-clause-inside g c = c.requires.first.inside

pub get_piece-v-requires-clause-reach : goal.get_piece-v-requires-clause-reach
get_piece-v-requires-clause-reach g c = reaches_word c.requires.first c.requires.at.some

pub put_inside-requires-clause-inside : goal.put_inside-requires-clause-inside
put_inside-requires-clause-inside g c = c.get_piece-v.ensures.inside ∙ sym c.requires.first.inside ∙ c.requires.second.inside

pub put_inside-requires-clause-reach : goal.put_inside-requires-clause-reach
put_inside-requires-clause-reach g c =
    let p = c.get_piece-v.ensures in
    let e = sym c.requires.first.inside ∙ c.requires.second.inside in
    reaches_word (still_reaches ((Read c.args.from.arena ((c.args.from.at + c.args.piece.offset) / 8), Found p.word) ∷ []) (c.args.to.at + c.args.piece.offset)
    c.args.piece.width c.requires.second p.did (p.inside ∙ e) (omega arith)) c.requires.at.some

pub put_inside-requires-clause-fits : goal.put_inside-requires-clause-fits
put_inside-requires-clause-fits g c = part_fits c.get_piece-v.ensures

pub returns-clause-did : goal.returns-clause-did
returns-clause-did g c = piece_copied c.get_piece-v.ensures c.put_inside.ensures.did

pub returns-clause-inside : goal.returns-clause-inside
returns-clause-inside g c = c.put_inside.ensures.inside ∙ sym c.requires.second.inside ∙ c.requires.first.inside
