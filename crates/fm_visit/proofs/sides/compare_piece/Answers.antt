use Rattle.std.proofs.Common.{◌+◌, ◌/◌, [], ◌∷◌, arith, sym, ◌∙◌}
use Rattle.fm_base.specs.Calls.{Read, Found}
use Rattle.fm_visit.proofs.{Getting.{part_fits}, Pairs.{piece_compared}, Putting.{reaches_word, still_reaches}}
use Rattle.fm_visit.proofs.sides.compare_piece.Goals as goal

pub get_piece-v-requires-clause-inside : goal.get_piece-v-requires-clause-inside
get_piece-v-requires-clause-inside g c = c.requires.first.inside

pub get_piece-v-requires-clause-reach : goal.get_piece-v-requires-clause-reach
get_piece-v-requires-clause-reach g c = reaches_word c.requires.first c.requires.at.some

pub get_piece-w-requires-clause-inside : goal.get_piece-w-requires-clause-inside
get_piece-w-requires-clause-inside g c = c.get_piece-v.ensures.inside ∙ sym c.requires.first.inside ∙ c.requires.second.inside

pub get_piece-w-requires-clause-reach : goal.get_piece-w-requires-clause-reach
get_piece-w-requires-clause-reach g c =
    let p = c.get_piece-v.ensures in
    let e = sym c.requires.first.inside ∙ c.requires.second.inside in
    reaches_word (still_reaches ((Read c.args.first.arena ((c.args.first.at + c.args.piece.offset) / 8), Found p.word) ∷ []) (c.args.second.at + c.args.piece.offset)
    c.args.piece.width c.requires.second p.did (p.inside ∙ e) (omega arith)) c.requires.at.some

pub first_difference-requires-clause-first : goal.first_difference-requires-clause-first
first_difference-requires-clause-first g c = part_fits c.get_piece-v.ensures

pub first_difference-requires-clause-second : goal.first_difference-requires-clause-second
first_difference-requires-clause-second g c = part_fits c.get_piece-w.ensures

pub returns-clause-did : goal.returns-clause-did
returns-clause-did g c = piece_compared c.get_piece-v.ensures c.get_piece-w.ensures c.first_difference.ensures

pub returns-clause-inside : goal.returns-clause-inside
returns-clause-inside g c = c.get_piece-w.ensures.inside ∙ sym c.requires.second.inside ∙ c.requires.first.inside
