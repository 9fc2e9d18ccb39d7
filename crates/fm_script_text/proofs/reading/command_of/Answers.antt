use Rattle.std.proofs.Common.{codes}
use Rattle.fm_script_text.proofs.Commands.{differs}
use Rattle.fm_script_text.proofs.reading.command_of.Goals as goal

pub returns-in_default : goal.returns-in_default
returns-in_default c =
    rw (
      differs c.args.verb.now (codes "open") c.in_default.not-open,
      differs c.args.verb.now (codes "alloc") c.in_default.not-alloc,
      differs c.args.verb.now (codes "slice") c.in_default.not-slice,
      differs c.args.verb.now (codes "readonly") c.in_default.not-readonly,
    ) c.bytes_command_of.ensures
