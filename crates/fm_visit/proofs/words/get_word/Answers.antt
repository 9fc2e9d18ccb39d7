use Rattle.std.proofs.{Common.{sym, ◌∙◌}, lemmas.Result.{err_from_is_err_and}}
use Rattle.fm_visit.proofs.{Learning.{word_got, word_not_got}, Places.{word_reaches}}
use Rattle.fm_visit.proofs.words.get_word.Goals as goal

pub returns-in_err-place : goal.returns-in_err-place
returns-in_err-place g c =
    let p = err_from_is_err_and c.from_residual.result c.from_residual.ensures.1 in
    rw (p.1, p.2) (word_not_got c.requires c.args.offset (sym c.place_of.ensures.place ∙ c.in_err-place.was))

pub load-requires : goal.load-requires
load-requires g c = word_reaches c.args.offset c.requires (sym c.place_of.ensures.place ∙ c.in_ok-place.was)

pub returns : goal.returns
returns g c = word_got c.requires c.args.offset c.load.result (sym c.place_of.ensures.place ∙ c.in_ok-place.was) c.load.ensures
