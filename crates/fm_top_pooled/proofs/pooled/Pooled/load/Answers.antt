use Rattle.std.proofs.Common.{◌≡◌, ◌%◌, ℕ, subst, sym, ◌∙◌}
use Rattle.fm_top_load.{specs.Records.{IsRest}, proofs.Telling.{read_quietly, tells_ragged}}
use Rattle.fm_top_pooled.specs.Stocked.{bytes_in_pool}
use Rattle.fm_top_pooled.proofs.Shows.{length-pooled}
use Rattle.fm_top_pooled.proofs.pooled.Pooled.load.Goals as goal

pub returns-in-Ok-check_records-clause-even : goal.returns-in-Ok-check_records-clause-even
returns-in-Ok-check_records-clause-even g c =
    let s = c.in-Ok.stock in
    subst (λ (n : ℕ). n % c.args.file.now.record_size ≡ 0) (c.size.ensures.size ∙ sym (length-pooled s.pass s.segment)) c.in-Ok-check_records.ensures.whole

pub returns-in-Err-check_records-clause-tells : goal.returns-in-Err-check_records-clause-tells
returns-in-Err-check_records-clause-tells g c =
    let s = c.in-Ok.stock in
    let holds = c.in-Ok.ensures.holds in
    tells_ragged (bytes_in_pool s.pass s.segment) (read_quietly c.in-Ok.ensures.tells) holds.whole holds.short
    (subst (λ (n : ℕ). IsRest n c.args.file.now.record_size c.in-Err-check_records.fault) (c.size.ensures.size ∙ sym (length-pooled s.pass s.segment))
    c.in-Err-check_records.ensures.ragged)
