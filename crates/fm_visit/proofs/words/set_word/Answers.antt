use Rattle.std.proofs.{Common.{sym, ◌∙◌, [], ◌∷◌}, lemmas.Result.{err_from_is_err_and}}
use Rattle.fm_visit.proofs.{Learning.{word_put, words_not_put}, Places.{put_ok, word_reaches}}
use Rattle.fm_visit.proofs.words.set_word.Goals as goal

pub returns-in_err-place : goal.returns-in_err-place
returns-in_err-place g c =
    let p = err_from_is_err_and c.from_residual.result c.from_residual.ensures.1 in
    rw (p.1, p.2) (words_not_put c.requires c.args.offset (c.args.v ∷ []) (sym c.writable_place_of.ensures.place ∙ c.in_err-place.was))

pub store-requires : goal.store-requires
store-requires g c =
    word_reaches c.args.offset c.requires
    (put_ok c.args.offset 1 c.args.s.now c.in_ok-place.place (sym c.writable_place_of.ensures.place ∙ c.in_ok-place.was))

pub returns : goal.returns
returns g c = word_put c.requires c.args.offset c.args.v (sym c.writable_place_of.ensures.place ∙ c.in_ok-place.was) c.store.ensures
