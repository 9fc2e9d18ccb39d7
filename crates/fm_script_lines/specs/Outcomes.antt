-- What lines come to.
use Rattle.fm_script_lines.specs.declared.{outcome.LineOutcome.{LineOutcome}, reply.Reply.{Reply}, standing.Standing.{Standing, TheVariants.{Nothing}}}

abbrev pub outcome : Reply → Standing → LineOutcome
outcome reply made = record { reply = reply; made = made }

abbrev pub plain : Reply → LineOutcome
plain reply = outcome reply Nothing
