use Rattle.fm_top_options.specs.Options.{texts}
use Rattle.fm_top.{specs.Words.{four}, proofs.Numbers.{four_texts, no_texts, on_none}}
use Rattle.fm_top.proofs.command.texts.texts_words.Goals as goal

pub returns-clause-none : goal.returns-clause-none
returns-clause-none c =
    on_none c.texts_of.result
    (no_texts (texts c.args.words.now) (four c.deref.result.now c.deref-2.result.now c.deref-3.result.now c.deref-4.result.now)
    (four_texts c.args.words.now c.command-item.result c.layout-item.result c.path-item.result c.file-item.result
    c.deref.result.now c.deref-2.result.now c.deref-3.result.now c.deref-4.result.now c.in-len4.len_at_least c.in-len4.len_below
    c.command-item.is c.layout-item.is c.path-item.is c.file-item.is
    c.deref.ensures c.deref-2.ensures c.deref-3.ensures c.deref-4.ensures))
    c.texts_of.ensures.none
