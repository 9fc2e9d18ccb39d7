use Rattle.std.proofs.Common.{sym, ◌∙◌}
use Rattle.fm_segment.proofs.Exits.{gave}
use Rattle.fm_handle.proofs.Places.{out, read_only_refused}
use Rattle.fm_handle.proofs.handle.VarHandle.writable_place_of.Goals as goal

pub returns-in_err-offset_at-clause-place : goal.returns-in_err-offset_at-clause-place
returns-in_err-offset_at-clause-place c =
    gave c.from_residual.ensures.1 ∙ sym (out 0 c.args.self.now.dims c.args.indices.now _ _ (rw c.self.view_is at c.in_err-offset_at.ensures.out))

pub returns-then-is_read_only-clause-place : goal.returns-then-is_read_only-clause-place
returns-then-is_read_only-clause-place c =
    sym (read_only_refused c.args.base c.args.indices.now c.args.self.now c.args.s.now (rw c.self.view_is at c.in_ok-offset_at.ensures.admitted)
    (sym c.is_read_only.ensures ∙ c.if-is_read_only.true))
