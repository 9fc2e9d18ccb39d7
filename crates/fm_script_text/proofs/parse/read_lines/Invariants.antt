use Rattle.std.proofs.Common.{◌≡◌, ◌++◌, length, map}
use Rattle.fm_script_text.specs.{Knowing.{Knows}, Scripts.{AreLines, lines_of, numbered, source_of}}
use Rattle.fm_script_text.proofs.parse.read_lines.Given as goal

abbrev pub invariant-loop-source : goal.invariant-loop-source
invariant-loop-source l = record {
  left : numbered l.initial.sources.number (lines_of l.initial.sources.rest.now)
      ≡ map source_of l.lines.items ++ numbered l.sources.number (lines_of l.sources.rest.now);
  taken : AreLines (map source_of l.lines.items) l.lines.items;
  knows : Knows l.names l.lines.items;
}

abbrev pub decreases-loop-source : goal.decreases-loop-source
decreases-loop-source l = length l.sources.rest.now
