use Rattle.std.proofs.Common.{sym, ap, ◌∙◌}
use Rattle.fm_lanes.{specs.Coding.{turned}, proofs.Turning.{turned_is, turned_fits, turned_back}}
use Rattle.fm_lanes.proofs.coding.turned.Goals as goal

pub overflow_add-result : goal.overflow_add-result
overflow_add-result c =
    turned_fits c.args.width c.args.v c.read-low.result c.swap_bytes.result c.requires.low c.requires.high c.ranges.v.fits c.read-low.ensures
    c.swap_bytes.ensures

pub returns-in-Big-clause-turned : goal.returns-in-Big-clause-turned
returns-in-Big-clause-turned c =
    turned_is c.args.width c.args.v c.read-low.result c.swap_bytes.result c.requires.low c.requires.high c.read-low.ensures c.swap_bytes.ensures
    ∙ ap (turned c.args.width c.args.v) (sym c.in-Big.is)

pub returns-in-Big-clause-twice : goal.returns-in-Big-clause-twice
returns-in-Big-clause-twice c =
    rw c.in-Big.is (turned_back c.args.width c.args.v c.read-low.result c.swap_bytes.result c.requires.low c.requires.high c.read-low.ensures
    c.swap_bytes.ensures)
