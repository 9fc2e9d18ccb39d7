use Rattle.std.proofs.Common.{codes}
use Rattle.fm_script_text.proofs.Commands.{differs}
use Rattle.fm_script_text.proofs.reading.bytes_command_of.Goals as goal

pub returns-in_default : goal.returns-in_default
returns-in_default c =
    rw (
      differs c.args.verb.now (codes "get") c.in_default.not-get,
      differs c.args.verb.now (codes "set") c.in_default.not-set,
      differs c.args.verb.now (codes "add") c.in_default.not-add,
      differs c.args.verb.now (codes "cas") c.in_default.not-cas,
      differs c.args.verb.now (codes "fill") c.in_default.not-fill,
      differs c.args.verb.now (codes "copy") c.in_default.not-copy,
      differs c.args.verb.now (codes "mismatch") c.in_default.not-mismatch,
    ) c.arena_command_of.ensures
