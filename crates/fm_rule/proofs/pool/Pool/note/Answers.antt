use Rattle.fm_rule.proofs.{Knowing.{one_table}, Noting.{some_words}}
use Rattle.std.proofs.Common.{ap, ◌∙◌}
use Rattle.fm_rule_facts.specs.Views.{View}
use Rattle.fm_rule_steps.proofs.Splitting.{note_splits}
use Rattle.fm_rule.proofs.pool.Pool.note.Goals as goal

pub split_seat-seat-requires : goal.split_seat-seat-requires
split_seat-seat-requires c =
    (one_table _ _ (ap (λ (x : View). x.home) c.pass.view_is ∙ c.requires.0), some_words _ _ c.args.self.now.sized, λ s h at. note_splits _ _ _ h _ _ at)
