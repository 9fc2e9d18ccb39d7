-- The text of a report.
use Rattle.std.specs.{Prelude.{ℕ, Bool, true, false, List, [], ◌∷◌, ◌++◌, codes}, Fmt.{decimal, signed_decimal}, List.{flat_map}}
use Rattle.fm_base.specs.Printed.{refusal_text}
use Rattle.fm_base_text.specs.Hex.{hex_text}
use Rattle.fm_script_lines.specs.declared.reply.Reply.{Reply, TheVariants.{Fine, Place, Number, Truth, Kept, Ended, Refused, Skipped}}
use Rattle.fm_script_report.specs.{declared.{arena.AliveArena.{AliveArena}, line.ReportLine.{ReportLine}}, Views.{ReportView}}

abbrev pub truth_text : Bool → List ℕ
truth_text true = codes "true"
truth_text false = codes "false"

abbrev pub reply_text : Reply → List ℕ
reply_text Fine = codes "ok"
reply_text (Place place) = codes "ok " ++ decimal place
reply_text (Number number) = signed_decimal number
reply_text (Truth truth) = truth_text truth
reply_text Kept = codes "kept"
reply_text Ended = codes "ended"
reply_text (Refused refusal) = codes "refused " ++ refusal_text refusal
reply_text Skipped = codes "skipped"

-- a line's text, an arrow, and the reply
abbrev pub line_text : ReportLine → List ℕ
line_text l = l.text ++ (codes " -> " ++ (reply_text l.reply ++ 10 ∷ []))

abbrev pub arena_text : AliveArena → List ℕ
arena_text a = codes "bytes " ++ (a.name ++ (hex_text a.bytes ++ 10 ∷ []))

-- all lines with their replies, and then the arenas that are alive
abbrev pub report_text : ReportView → List ℕ
report_text r = flat_map line_text r.lines ++ flat_map arena_text r.alive
