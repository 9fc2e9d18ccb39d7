use Rattle.std.proofs.Common.{◌∙◌, ap, subst, IfOk}
use Rattle.fm_base.specs.Finds.{Rest}
use Rattle.fm_gate.specs.Learnt.{IsNew}
use Rattle.fm_script_tests.proofs.tests.reports.stocked.Goals as goal

pub allocate-requires : goal.allocate-requires
allocate-requires g c =
    let new = subst (λ r. IfOk r (λ id. IsNew c.args.pass.now c.open_arena.new.pass id)) c.expect-a.ensures c.open_arena.ensures.is_new in
    record {
      visit = record { outside = c.open_arena.ensures.outside; known = new.known };
      no_page = ap (λ (x : Rest). x.pages) c.open_arena.ensures.did.rest ∙ c.requires.no_page;
    }
