use Rattle.std.proofs.Common.{◌++◌, ap, sym, ◌∙◌}
use Rattle.fm_top_demo.{specs.Records.{made_record, made_records}, proofs.Made.{made_more}}
use Rattle.fm_top_demo.proofs.records.made_records.Goals as goal

pub loop-k-preserved : goal.loop-k-preserved
loop-k-preserved c =
    c.in_ok-push_record.ensures ∙ ap (λ bs. bs ++ made_record c.from.result) c.loop-k.invariant
    ∙ ap (λ k. made_records c.loop-k.k ++ made_record k) c.from.ensures ∙ sym (made_more c.loop-k.k)
