use Rattle.std.{proofs.{Common.{sym, ap, ◌∙◌, ℕ, if◌then◌else◌, List, Option, Some}, lemmas.List.{take_all}}, specs.Borrow.{Bor}}
use Rattle.fm_script_text.specs.{declared.line.Line.{Line}, Rules.{made}}
use Rattle.fm_script_lines.{specs.{Numbers.{is_made, number_from}, Ordering.{lines_at}}, proofs.Numbering.{number_from-next}}
use Rattle.fm_script_lines.proofs.numbers.Numbers.of_lines.Goals as goal

pub loop-number-preserved : goal.loop-number-preserved
loop-number-preserved c name =
    let line : Bor Line = c.index-lines-number.result in
    let k = c.loop-number.number in
    c.in_ok-note.ensures name
    ∙ (ap (λ (o : Option ℕ). if is_made name (made line.now.command) then Some k else o) (c.loop-number.invariant name)
    ∙ sym (number_from-next c.args.lines.now k line name c.loop-number-test.true (sym c.index-lines-number.is)))

pub returns : goal.returns
returns c name =
    c.loop-number.invariant name
    ∙ ap (λ (ls : List (Bor Line)). number_from 0 (lines_at ls) name) (take_all c.loop-number.number c.args.lines.now c.loop-number-test.false)
