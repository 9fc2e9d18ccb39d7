use Rattle.fm_top_options.specs.Options.{texts}
use Rattle.fm_top.{specs.Words.{five}, proofs.Numbers.{five_texts, none_summed, on_none}}
use Rattle.fm_top.proofs.command.sum.sum_words.Goals as goal

pub returns-clause-none : goal.returns-clause-none
returns-clause-none c =
    on_none c.sum_command.result
    (none_summed (texts c.args.words.now) (five c.deref.result.now c.deref-2.result.now c.deref-3.result.now c.deref-4.result.now c.deref-5.result.now)
    (five_texts c.args.words.now c.command-item.result c.size-item.result c.at-item.result c.kind-item.result c.file-item.result
    c.deref.result.now c.deref-2.result.now c.deref-3.result.now c.deref-4.result.now c.deref-5.result.now c.in-len5.len_at_least c.in-len5.len_below
    c.command-item.is c.size-item.is c.at-item.is c.kind-item.is c.file-item.is
    c.deref.ensures c.deref-2.ensures c.deref-3.ensures c.deref-4.ensures c.deref-5.ensures))
    c.sum_command.ensures.none
