use Rattle.std.proofs.Common.{ℕ, List, ◌∷◌, [], subst}
use Rattle.fm_io.{proofs.Sent.{prefix-after}, specs.Sink.{Appends}}
use Rattle.fm_top.proofs.outcome.telling.write_name.Goals as goal

pub returns-clause-prefix : goal.returns-clause-prefix
returns-clause-prefix g c =
    let told = g.O.Sink.view in
    let all = subst (λ (bytes : List ℕ). Appends (told c.args.out.now).written (told c.write_text.new.out).written bytes) c.as_bytes.ensures.value
    c.in_ok-write_text.ensures.whole in
    prefix-after (told c.args.out.now).written (told c.write_text.new.out).written (told c.write_text-2.new.out).written c.args.text.now (10 ∷ []) all
    c.write_text-2.ensures.prefix
