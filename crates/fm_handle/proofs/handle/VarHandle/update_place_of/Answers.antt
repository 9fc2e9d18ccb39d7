use Rattle.std.proofs.Common.{rules}
use Rattle.fm_handle.proofs.Touching.{lies}
use Rattle.fm_handle.proofs.handle.VarHandle.update_place_of.Goals as goal

pub returns-clause-lies : goal.returns-clause-lies
returns-clause-lies c =
    lies c.args.base c.args.indices.now c.args.self.now c.args.s.now c.args.support _
    (record { place = search rules; stands = c.writable_place_of.ensures.stands })
