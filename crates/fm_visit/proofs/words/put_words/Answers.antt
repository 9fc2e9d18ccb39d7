use Rattle.std.proofs.{Common.{sym, length, ◌∙◌}, lemmas.Result.{err_from_is_err_and}}
use Rattle.fm_visit.proofs.{Learning.{words_put, words_not_put}, Places.{put_ok, words_reach}}
use Rattle.fm_visit.proofs.words.put_words.Goals as goal

pub returns-in_err-place : goal.returns-in_err-place
returns-in_err-place g c =
    let p = err_from_is_err_and c.from_residual.result c.from_residual.ensures.1 in
    rw (p.1, p.2) (words_not_put c.requires.inside c.args.offset c.args.words.now (sym c.writable_place_of.ensures.place ∙ c.in_err-place.was))

pub store_words-requires : goal.store_words-requires
store_words-requires g c =
    let n = length c.args.words.now in
    words_reach c.args.offset n c.requires.inside
    (put_ok c.args.offset n c.args.s.now c.in_ok-place.place (sym c.writable_place_of.ensures.place ∙ c.in_ok-place.was))
    (search (c.in_ok-place.ensures))

pub returns : goal.returns
returns g c =
    words_put c.requires.inside c.args.offset c.args.words.now (sym c.writable_place_of.ensures.place ∙ c.in_ok-place.was) c.store_words.ensures
