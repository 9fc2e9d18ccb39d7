use Rattle.std.proofs.Common.{subst, sym}
use Rattle.fm_rule_facts.specs.Views.{View}
use Rattle.fm_rule.specs.Passes.{IsOf}
use Rattle.fm_script_lines.specs.{Learnt.{AfterLines, CanRunLines}, Ordering.{is_by}, Report.{lines_by}}
use Rattle.fm_script.proofs.Outside.{still_of}
use Rattle.fm_script.proofs.main_lines.play_main.Goals as goal

pub play-played-requires : goal.play-played-requires
play-played-requires g c =
    subst (λ (p : View). CanRunLines p c.args.table.now c.args.lines.now c.args.who c.args.replies.now) (sym c.new-memory.ensures) c.requires.can

pub returns-clause-after : goal.returns-clause-after
returns-clause-after g c =
    let lines = lines_by (is_by c.args.who) c.args.lines.now in
    let t = c.args.table.now in
    let u = c.play-played.new.table in
    let replies = c.play-played.new.replies.items in
    subst (λ (q : View). AfterLines c.args.pass q t u lines replies c.play-played.result) (sym c.into_pass-pass.ensures.same)
    (subst (λ (p : View). AfterLines p c.play-played.new.m t u lines replies c.play-played.result) c.new-memory.ensures c.play-played.ensures)

pub returns-clause-outside : goal.returns-clause-outside
returns-clause-outside g c = record {
  outside = c.into_pass-pass.ensures.outside c.args.pool.now
      (still_of c.args.pool.now c.new-memory.result c.play-played.new.m c.play-played.ensures.went.went
      (subst (λ (p : View). IsOf c.args.pool.now p) (sym c.new-memory.ensures) c.requires.outside.outside.of));
  no_page = c.into_pass-pass.ensures.no_page;
}
