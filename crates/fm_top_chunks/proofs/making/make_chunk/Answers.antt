use Rattle.std.proofs.Common.{◌≡◌, ◌%◌, refl, ap, sym, subst}
use Rattle.fm_rule.specs.Views.{NoteView}
use Rattle.fm_rule_facts.specs.Views.{View}
use Rattle.fm_top_chunks.specs.{Making.{IsMade}, declared.made.Made.{Made}}
use Rattle.fm_top_chunks.proofs.Standing.{is_made}
use Rattle.fm_top_chunks.proofs.making.make_chunk.Goals as goal

pub returns-clause-made : goal.returns-clause-made
returns-clause-made g c =
    let x = c.args.filling.now in
    let told = (g.F.Files.view c.args.files.now).holds in
    let reached = c.in-Ok.reached in
    let now = c.put_stretch.new.m in
    let r : Made = record {
      chunk = record { number = x.number; arena = x.arena; count = reached.count; note = c.note.result };
      ended = reached.ended;
    } in
    let even = subst (λ n. reached.count % n ≡ 0) c.record_size.ensures.size c.in_default.ensures.whole in
    subst (λ (v : View). IsMade x told v r) (sym c.note.ensures.pass) (is_made now c.requires reached r c.in-Ok.ensures.did even refl refl refl
    (ap (λ (n : NoteView). n.home) c.note.ensures.note) (ap (λ (n : NoteView). n.seen) c.note.ensures.note))
