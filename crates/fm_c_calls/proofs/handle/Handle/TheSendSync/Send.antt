-- A handle may go to another thread, since what it keeps may. Assumes nothing.
use Rattle.std.proofs.Common.{Option, None, Some}
use mir.Raw.{raw}
use base.Fraction.{full_share}
use base.Shift.{Keyless}
use denote.Memory.{lone}
use denote.RattleType.{RattleType}
use denote.RawPtr.{Ptr, block_ptr, null_ptr, lies_at}
use denote.Exit.{Exit, hidden, under, unchanged, leaves}
use denote.Param.Send.{IsSend, Quiet, owning_send, struct_send, sendable, part_keyless}
use denote.Builtin.{RawPtr}
use denote.Struct.Struct.{exits_of}
use denote.Struct.Owning.{shape, fields, to}
use Rattle.std.proofs.Crossing.{frees}
use Rattle.fm_c_calls.specs.Kept.{heap, kept}
use Rattle.fm_c_calls.specs.contracts.handle.Handle.{the_row, the_type}
use Rattle.fm_records_query.specs.contracts.query.Query as asked
use Rattle.fm_records_query.proofs.query.Query.TheSendSync as sent

quiet : {D X : Type 0} (to : D → X) (e : Exit X) → Quiet e → Quiet (hidden (under to e))
quiet to unchanged q = λ x w. tt
quiet to (leaves L l S s r₀) q = λ d. q (to d)

lies : (R : RattleType) → IsSend R → (p : Ptr) (x : R.Denot) → Keyless (lies_at R full_share p x)
lies R s (block_ptr b o) x = part_keyless R s full_share x b o
lies R s null_ptr x = tt

keyless : (R : RattleType) → IsSend R → (p : Ptr) (x : Option R.Denot) → Keyless (kept R p x)
keyless R s p None = tt
keyless R s p (Some x) = (lies R s p x, frees.frees heap (raw (lone R.mir)) p)

pub send : IsSend the_row
send = let O = the_type in let ps : IsSend RawPtr = search sendable in
    owning_send O (ps, tt) (λ d. keyless asked.the_row sent.the_send d.at d.query)
    (λ k. quiet (to O) (exits_of k (fields O)) ((struct_send (shape O) (ps, tt)).leaving k))
