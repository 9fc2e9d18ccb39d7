use Rattle.std.proofs.Common.{◌≡◌, ◌++◌, ◌∷◌, [], List, map, ap, subst, sym, ◌∙◌}
use Rattle.fm_script_text.{proofs.Taking.{left_more, lines_more, none_taken}, specs.{declared.line.Line.{Line}, Knowing.{Knows}}}
use Rattle.fm_script_text.specs.Scripts.{AreLines, Source, lines_of, numbered, source, source_of}
use Rattle.fm_script_text.proofs.parse.read_lines.Goals as goal

-- the line that was taken stands behind the others
pub loop-source-preserved : goal.loop-source-preserved
loop-source-preserved c =
    let old = c.loop-source.lines.items in
    let known = c.loop-source.invariant in
    let taken = c.in-Ok.ensures.taken in
    let left = numbered c.next.new.self.number (lines_of c.next.new.self.rest.now) in
    let items : c.push.new.self.items ≡ old ++ c.in-Ok.line ∷ [] = c.in-Ok-push.ensures.items in
    record {
      left =
          left_more (numbered c.args.sources.number (lines_of c.args.sources.rest.now)) old c.in-Ok.line
          (source c.in-Some.source.number c.in-Some.source.text.now)
          (numbered c.loop-source.sources.number (lines_of c.loop-source.sources.rest.now)) left known.left c.in-Some.ensures.next taken.source
          ∙ ap (λ (ls : List Line). map source_of ls ++ left) (sym items);
      taken = subst (λ (ls : List Line). AreLines (map source_of ls) ls) (sym items)
          (lines_more old c.in-Ok.line known.taken taken.said (taken.admitted old known.knows));
      knows = subst (λ (ls : List Line). Knows c.read_line.new.names ls) (sym items) (taken.knows old known.knows);
    }

-- the line that isn't taken stands behind those that were
pub returns-in-Err-clause-refused : goal.returns-in-Err-clause-refused
returns-in-Err-clause-refused c =
    let old = c.loop-source.lines.items in
    let known = c.loop-source.invariant in
    let left = numbered c.next.new.self.number (lines_of c.next.new.self.rest.now) in
    none_taken (numbered c.args.sources.number (lines_of c.args.sources.rest.now)) old c.loop-source.names c.in-Some.source.number
    c.in-Some.source.text.now left c.in-Err.refusal (known.left ∙ ap (λ (ss : List Source). map source_of old ++ ss) c.in-Some.ensures.next)
    known.taken known.knows c.in-Err.ensures.refused
