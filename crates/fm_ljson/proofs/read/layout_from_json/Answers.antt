-- The bytes have a reading, or they are no JSON.
use Rattle.std.proofs.Common.{◌≡◌, inr, None, Err, IsUtf8}
use Rattle.serde_json.specs.{Read.{read}, View.{view}}
use Rattle.fm_base.specs.declared.refusal.Refusal.TheVariants.{BadJson}
use Rattle.fm_ljson.{specs.{Answer.{layout_of_json}, Built.{OrMemory}, Causes.{IsJsonOf}}, proofs.Causing.{refused_read, refused_unread}}
use Rattle.fm_ljson.proofs.Reading.{value_read, not_read, not_so}
use Rattle.fm_ljson.proofs.read.layout_from_json.Goals as goal

pub returns-in-Ok : goal.returns-in-Ok
returns-in-Ok c =
    let is : IsJsonOf c.args.bytes.now (view c.in-Ok.value) = record { utf8 = c.in-Ok.ensures.ok.0; reading = c.in-Ok.ensures.ok.1 } in
    record {
      read = value_read c.args.bytes.now (view c.in-Ok.value) c.layout_of.result is c.layout_of.ensures;
      refused = refused_read c.args.bytes.now (view c.in-Ok.value) c.layout_of.result is c.layout_of.ensures;
    }

pub returns-else-is_memory : goal.returns-else-is_memory
returns-else-is_memory c =
    let none : IsUtf8 c.args.bytes.now → read c.args.bytes.now ≡ None =
    c.in-Err.ensures.err (not_so c.is_memory.result _ c.is_memory.ensures.1 c.if-is_memory.false) in
    let answer : OrMemory (Err BadJson) (layout_of_json c.args.bytes.now) = inr (not_read c.args.bytes.now none) in
    record { read = answer; refused = refused_unread c.args.bytes.now none }
