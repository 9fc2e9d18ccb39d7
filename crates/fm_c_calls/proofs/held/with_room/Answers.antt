use Rattle.fm_c_calls.proofs.Room.{room_held, room_given, room_wanting}
use Rattle.fm_c_calls.proofs.held.with_room.Goals as goal

pub returns-in-Ok-allot-clause-held : goal.returns-in-Ok-allot-clause-held
returns-in-Ok-allot-clause-held c = room_held c.make-memory.ensures c.in-Ok.ensures.got c.in-Ok-allot.ensures.got

pub returns-in-Ok-allot-clause-given : goal.returns-in-Ok-allot-clause-given
returns-in-Ok-allot-clause-given c = room_given c.make-memory.ensures c.in-Ok.ensures.got c.in-Ok-allot.ensures.got

pub returns-in-Err-allot-clause-memory : goal.returns-in-Err-allot-clause-memory
returns-in-Err-allot-clause-memory c = room_wanting c.make-memory.ensures c.in-Ok.ensures.got c.requires c.in-Err-allot.ensures.got
