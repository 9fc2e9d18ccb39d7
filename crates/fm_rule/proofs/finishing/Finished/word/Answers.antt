use Rattle.std.{proofs.Common.{ap, ◌∙◌, get_or}, specs.Mem.Slots.{slots_items}}
use Rattle.fm_rule.{specs.Finishing.{FinishedView}, proofs.Resting.{read_at}}
use Rattle.fm_rule.proofs.finishing.Finished.word.Goals as goal

pub returns : goal.returns
returns c =
    read_at (slots_items c.self.inside.table.words) c.args.place c.word.result c.word.ensures
    ∙ ap (λ (f : FinishedView). get_or f.words c.args.place 0) c.self.view_is
