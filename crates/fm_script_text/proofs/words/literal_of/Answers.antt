use Rattle.std.proofs.Common.{ap, sym, ◌∙◌}
use Rattle.fm_script_text.{specs.Reader.{is_of_kind}, proofs.Numbers.{literal_found, literal_missed, held}}
use Rattle.fm_script_text.proofs.words.literal_of.Goals as goal

pub returns-then-is_of_kind : goal.returns-then-is_of_kind
returns-then-is_of_kind c =
    literal_found c.args.kind c.in_ok-n.n c.args.word.now c.in_ok-n.ensures.fits c.in_ok-n.ensures.found
    (ap (is_of_kind c.args.kind) (sym (held c.in_ok-n.n c.in_ok-n.ensures.fits)) ∙ sym c.is_of_kind.ensures ∙ c.if-is_of_kind.true)

pub returns-else-is_of_kind : goal.returns-else-is_of_kind
returns-else-is_of_kind c =
    literal_missed c.args.kind c.in_ok-n.n c.args.word.now c.in_ok-n.ensures.fits c.in_ok-n.ensures.found
    (ap (is_of_kind c.args.kind) (sym (held c.in_ok-n.n c.in_ok-n.ensures.fits)) ∙ sym c.is_of_kind.ensures ∙ c.if-is_of_kind.false)
