use Rattle.std.proofs.Common.{rules, ◌≡◌, ◌++◌, ◌∙◌, length, codes, string_bytes}
use Rattle.hex.specs.Hex.{encode_lower}
use Rattle.fm_base_text.proofs.Digits.{one_piece, spelled}
use Rattle.fm_base_text.proofs.bytes.push_bytes.Goals as goal

pub loop-rest-preserved : goal.loop-rest-preserved
loop-rest-preserved c =
    let added : string_bytes c.push_piece.new.text ≡ string_bytes c.loop-rest.text ++ encode_lower c.split_at.result.0.now = search rules in
    one_piece (string_bytes c.loop-rest.text) (string_bytes c.push_piece.new.text) c.loop-rest.rest.now c.split_at.result.0.now c.split_at.result.1.now _
    added c.split_at.ensures.front c.split_at.ensures.back ∙ c.loop-rest.invariant

pub returns : goal.returns
returns c =
    let space : string_bytes c.push.new.self ≡ string_bytes c.args.text.now ++ codes " " = search rules in
    let none : length c.loop-rest.rest.now ≡ 0 = search rules in
    spelled (string_bytes c.args.text.now) (string_bytes c.push.new.self) (string_bytes c.loop-rest.text) c.loop-rest.rest.now c.args.bytes.now
    space none (λ e. search rules) c.loop-rest.invariant
