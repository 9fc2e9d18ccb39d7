use Rattle.fm_top_pooled.proofs.{Filling.{only_keeps}, Beside.{beside, bytes_beside, second_free, second_pages, second_room, stocked_beside}}
use Rattle.fm_top_pooled.proofs.stocking.open_beside.Goals as goal

pub open_shared-arena-requires-clause-free : goal.open_shared-arena-requires-clause-free
open_shared-arena-requires-clause-free g c = second_free c.requires.can

pub give-requires-clause-room : goal.give-requires-clause-room
give-requires-clause-room g c = second_room c.requires.can

pub give-requires-clause-pages : goal.give-requires-clause-pages
give-requires-clause-pages g c = second_pages c.requires.can c.open_shared-arena.ensures

pub returns-clause-stocked : goal.returns-clause-stocked
returns-clause-stocked g c =
    let opened = c.open_shared-arena in
    stocked_beside c.requires.stocked
    (only_keeps c.args.pass.now opened.new.pass c.give.new.pass opened.result opened.ensures.unknown opened.ensures.keeps c.give.ensures.elsewhere)
    c.give.ensures.lone

pub returns-clause-bytes : goal.returns-clause-bytes
returns-clause-bytes g c =
    let opened = c.open_shared-arena in
    bytes_beside c.requires.stocked
    (only_keeps c.args.pass.now opened.new.pass c.give.new.pass opened.result opened.ensures.unknown opened.ensures.keeps c.give.ensures.elsewhere)

pub returns-clause-beside : goal.returns-clause-beside
returns-clause-beside g c =
    beside c.args.pass.now c.open_shared-arena.new.pass c.give.ensures.held c.open_shared-arena.ensures.zero c.open_shared-arena.ensures.shared c.of.ensures c.requires.stocked.known.arena
    c.open_shared-arena.ensures.unknown
