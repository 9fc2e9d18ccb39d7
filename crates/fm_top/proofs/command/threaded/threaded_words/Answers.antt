use Rattle.std.proofs.lemmas.Option.{IfSome_then}
use Rattle.fm_top.proofs.{Threaded.{is_threaded, is_same, none_by, of_some, texts_cut}, Numbers.{on_none}}
use Rattle.fm_top.proofs.command.threaded.threaded_words.Goals as goal

pub returns-in-Some-clause-found : goal.returns-in-Some-clause-found
returns-in-Some-clause-found c =
    IfSome_then c.threaded_by.result c.threaded_by.ensures.found
    (λ said. is_threaded (texts_cut c.args.words.now c.in-len1-up.len_at_least c.first-item.is c.as_str.ensures.value) (is_same c.ne.ensures c.if-ne.false)
    (of_some _ c.in-Some.is c.in_ok-options.ensures.found))

pub returns-in-Some-clause-none : goal.returns-in-Some-clause-none
returns-in-Some-clause-none c =
    on_none c.threaded_by.result
    (none_by (texts_cut c.args.words.now c.in-len1-up.len_at_least c.first-item.is c.as_str.ensures.value)
    (of_some _ c.in-Some.is c.in_ok-options.ensures.found))
    c.threaded_by.ensures.none
