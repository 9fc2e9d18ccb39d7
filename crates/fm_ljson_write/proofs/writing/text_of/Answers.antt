use Rattle.std.proofs.{Common.{◌∙◌, ◌≡◌, ◌≤◌, ap, false, arith, inl, inr}, lemmas.Str.{is_utf8-from_IsUtf8}}
use Rattle.serde_json.specs.{Data.{depth}, Read.{max_depth}, View.{view}, Written.{has_float}}
use Rattle.fm_ljson_write.proofs.{Again.{stands_again}, Deep.{document_depth, json_depth}, Floats.{no_float, no_float_document}}
use Rattle.fm_ljson_write.proofs.writing.text_of.Goals as goal

pub returns-clause-text : goal.returns-clause-text
returns-clause-text c =
    let t = c.args.layout.now in
    let plain : has_float (view c.args.json.now) ≡ false = elim c.requires [
      | inl is ↦ ap has_float is ∙ no_float t
      | inr is ↦ ap has_float is ∙ no_float_document t
    ] in
    c.in_ok-to_vec.ensures.text plain

pub returns-clause-reads_back : goal.returns-clause-reads_back
returns-clause-reads_back c = λ within.
    let t = c.args.layout.now in
    let known = c.size-size.ensures in
    let shallow : depth (view c.args.json.now) ≤ max_depth = elim c.requires [
      | inl is ↦ omega (arith, ap depth is, json_depth t, within.levels)
      | inr is ↦ omega (arith, ap depth is, document_depth t, within.levels)
    ] in
    stands_again t c.in_ok-to_vec.field-0.items known.well_formed known.named within (is_utf8-from_IsUtf8 c.in_ok-to_vec.field-0.items c.in_ok-to_vec.ensures.utf8)
    c.requires (c.in_ok-to_vec.ensures.reads_back shallow)
