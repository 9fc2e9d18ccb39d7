use Rattle.std.proofs.Common.{ap, ◌∙◌}
use Rattle.serde_json.specs.View.{view}
use Rattle.fm_ljson.specs.Documents.{text_by, text_of}
use Rattle.fm_ljson.proofs.document.text_of.Goals as goal

pub returns-in-Some : goal.returns-in-Some
unfolding text_of
returns-in-Some c = c.text_in.ensures ∙ ap (text_by (view c.args.value.now)) c.in-Some.ensures

pub returns-in-None : goal.returns-in-None
unfolding text_of
returns-in-None c = ap (text_by (view c.args.value.now)) c.in-None.ensures
