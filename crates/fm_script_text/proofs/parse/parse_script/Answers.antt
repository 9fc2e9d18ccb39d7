use Rattle.std.{proofs.Common.{refl, ap, subst, sym, ◌∙◌, List}, specs.Option.{option_map}}
use Rattle.fm_script_text.{proofs.Answering.{from_the_first, lines_refused, kept_found, script_read}, specs.declared.line.Line.{Line}}
use Rattle.fm_script_text.specs.{Scripts.{IsScript, bad_pool, not_settled, lines_of, numbered, source}, Taking.{first_kept}}
use Rattle.fm_script_text.proofs.parse.parse_script.Goals as goal

pub returns-in_default-shape_of-clause-refused : goal.returns-in_default-shape_of-clause-refused
returns-in_default-shape_of-clause-refused c =
    bad_pool (source c.in-Some.pool.number c.in-Some.pool.text.now) (numbered c.next.new.self.number (lines_of c.next.new.self.rest.now))
    (from_the_first c.args.bytes.now c.of-sources.result.rest.now c.of-sources.result.number c.of-sources.ensures.rest c.of-sources.ensures.number
    ∙ c.in-Some.ensures.next) c.in_default-shape_of.ensures.none refl

pub returns-in-Err-clause-refused : goal.returns-in-Err-clause-refused
returns-in-Err-clause-refused c =
    lines_refused c.args.bytes.now (source c.in-Some.pool.number c.in-Some.pool.text.now)
    (numbered c.next.new.self.number (lines_of c.next.new.self.rest.now)) c.in-Some-shape_of.shape c.in-Err.refusal
    (from_the_first c.args.bytes.now c.of-sources.result.rest.now c.of-sources.result.number c.of-sources.ensures.rest c.of-sources.ensures.number
    ∙ c.in-Some.ensures.next) c.in-Some-shape_of.ensures.found c.in-Err.ensures.refused

pub returns-in-Some-kept_at-clause-refused : goal.returns-in-Some-kept_at-clause-refused
returns-in-Some-kept_at-clause-refused c =
    let all = c.in-Ok.ensures.all in
    not_settled (source c.in-Some.pool.number c.in-Some.pool.text.now) (numbered c.next.new.self.number (lines_of c.next.new.self.rest.now))
    c.in-Some-shape_of.shape c.in-Ok.read.lines.items
    (from_the_first c.args.bytes.now c.of-sources.result.rest.now c.of-sources.result.number c.of-sources.ensures.rest c.of-sources.ensures.number
    ∙ c.in-Some.ensures.next) c.in-Some-shape_of.ensures.found all.lines
    (kept_found c.in-Ok.read.names c.in-Ok.read.lines.items c.in-Some-kept_at.number all.knows
    (ap (λ (ls : List Line). option_map (λ (l : Line). l.number) (first_kept c.in-Ok.read.names ls)) (sym c.as_slice.ensures.value)
    ∙ sym c.kept_at.ensures ∙ c.in-Some-kept_at.is))

pub returns-in-None-clause-script : goal.returns-in-None-clause-script
returns-in-None-clause-script c =
    subst (IsScript c.args.bytes.now) (sym c.of.ensures)
    (script_read c.args.bytes.now (source c.in-Some.pool.number c.in-Some.pool.text.now)
    (numbered c.next.new.self.number (lines_of c.next.new.self.rest.now)) c.in-Some-shape_of.shape c.in-Ok.read.lines.items c.in-Ok.read.names
    (from_the_first c.args.bytes.now c.of-sources.result.rest.now c.of-sources.result.number c.of-sources.ensures.rest c.of-sources.ensures.number
    ∙ c.in-Some.ensures.next) c.in-Some-shape_of.ensures.found c.in-Ok.ensures.all c.in-Ok.read.names.few.0 c.in-Ok.read.names.few.1
    (ap (λ (ls : List Line). option_map (λ (l : Line). l.number) (first_kept c.in-Ok.read.names ls)) (sym c.as_slice.ensures.value)
    ∙ sym c.kept_at.ensures ∙ c.in-None.is))
