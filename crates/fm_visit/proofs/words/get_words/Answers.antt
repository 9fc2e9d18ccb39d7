use Rattle.std.proofs.{Common.{sym, ap, length, ◌∙◌}, lemmas.Result.{err_from_is_err_and}}
use Rattle.fm_visit.{specs.Learnt.{place_of_words}, proofs.{Learning.{words_got, words_not_got}, Places.{words_reach}}}
use Rattle.fm_visit.proofs.words.get_words.Goals as goal

pub returns-in_err-place-clause-got : goal.returns-in_err-place-clause-got
returns-in_err-place-clause-got g c =
    let p = err_from_is_err_and c.from_residual.result c.from_residual.ensures.1 in
    rw (p.1, p.2) (words_not_got c.requires.inside c.args.offset c.args.into.now (sym c.place_of.ensures.place ∙ c.in_err-place.was))

pub load_words-requires : goal.load_words-requires
load_words-requires g c =
    words_reach c.args.offset (length c.args.into.now) c.requires.inside (sym c.place_of.ensures.place ∙ c.in_ok-place.was)
    (search (c.in_ok-place.ensures))

pub returns-clause-got : goal.returns-clause-got
returns-clause-got g c =
    words_got c.requires.inside c.args.offset c.load_words.new.words
    (ap (λ n. place_of_words c.args.offset n c.args.s.now) c.load_words.auto.words ∙ sym c.place_of.ensures.place ∙ c.in_ok-place.was)
    c.load_words.ensures
