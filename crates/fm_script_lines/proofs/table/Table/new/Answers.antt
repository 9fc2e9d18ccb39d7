use Rattle.std.proofs.Common.{List, refl, subst, sym}
use Rattle.fm_script_lines.{specs.{declared.standing.Standing.{Standing}, Tokens.{Backs}}, proofs.Ending.{backs_none}}
use Rattle.fm_script_lines.proofs.table.Table.new.Goals as goal

pub returns : goal.returns
returns c =
    let e = c.in_ok-own.ensures in
    record {
      names = refl;
      base = refl;
      start = refl;
      own = e.items;
      room = e.capacity;
      backs = λ p known.
          subst (λ (xs : List Standing). Backs p p.holds p.handles c.args.base.now xs) (sym e.items) (backs_none p c.args.base.now known);
    }
