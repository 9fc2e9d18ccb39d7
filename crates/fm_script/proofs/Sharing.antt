-- What keeps a note of its maker may be lent to other threads.
use denote.Ref.{NamedLft}
use denote.RattleType.{RattleType}
use denote.Param.Send.{IsSend, IsSync, part_keyless, sendable}
use Rattle.std.proofs.{Crossing.{crosses}, MapsCrossing.{crosses as maps_cross}, MapsCrossingOver.{crosses as more_maps_cross}}
use Rattle.atomic_table.{specs.contracts.shared.Seat.{the_row as seat_row}, proofs.Sent.{seat_keyless}}
use Rattle.fm_gate.specs.contracts.held.Hold.{the_row as hold_row}
use Rattle.fm_arena.specs.contracts.handle.AutoHandle.{the_row as handle_row}
use Rattle.fm_script_lines.specs.contracts.{standing.Standing.{the_row as standing_row}, numbers.Numbers.{the_row as numbers_row}}
use Rattle.fm_script_text.specs.contracts.line.Line.{the_row as line_row}
use Rattle.fm_script.specs.contracts.lines.Lines.{the_row as lines_row}

-- A seat may be moved to another thread,
seat_send : (S V : RattleType) → IsSend S → IsSend (seat_row S V)
seat_send S V s = record {
  owned = λ d vs. ((λ vss. (tt, ((λ uss. (tt, tt)), tt))), seat_keyless S s V.coded.code d.table_id d.id d.me);
  leaving = λ k f vs. tt;
}

-- and lent, since who has it behind a reference can do nothing with it.
seat_sync : (S V : RattleType) → IsSend S → IsSync (seat_row S V)
seat_sync S V s = record { shared = λ d b o ν q. part_keyless (seat_row S V) (seat_send S V s) q d b o }

-- A hold keeps a note of its maker, which is lent as the rest is,
hold_sync : IsSync hold_row
hold_sync = search (sendable, seat_sync) depth 20

-- and so does a handle.
handle_sync : IsSync handle_row
handle_sync = search (sendable, seat_sync) depth 20

-- So what names stand for may be lent,
standing_sync : IsSync standing_row
standing_sync = search (sendable, hold_sync, handle_sync) depth 40

-- the numbers of names,
numbers_sync : IsSync numbers_row
numbers_sync = search (sendable, crosses, maps_cross, more_maps_cross) depth 60

-- lines,
line_sync : IsSync line_row
line_sync = search (sendable, crosses, maps_cross) depth 60 fits 100000

-- and what workers play, where runtime and gate may.
pub lines_sync : (ℓ : NamedLft) (R G : RattleType) → IsSync R → IsSync G → IsSync (lines_row ℓ R G)
lines_sync ℓ R G r g = search (sendable, standing_sync, numbers_sync, line_sync) depth 60
