use Rattle.std.proofs.{Common.{subst, List, ℕ}, lemmas.Result.{IfErr-weaker}}
use Rattle.fm_path.specs.Resolution.{IsRefusal}
use Rattle.fm_path_text.specs.{declared.step.PathStep.{PathStep}, Grammar.{IsTextOf, IsNoPath}}
use Rattle.fm_c_calls.specs.Placed.{no_text, no_path, not_resolved}
use Rattle.fm_c_calls.proofs.place.resolve_in.Goals as goal

pub returns-in-Err-clause-refused : goal.returns-in-Err-clause-refused
returns-in-Err-clause-refused c = no_text c.in-Err.ensures.refused

pub returns-in-Err-parse_path-clause-refused : goal.returns-in-Err-parse_path-clause-refused
returns-in-Err-parse_path-clause-refused c =
    no_path (subst (λ (bytes : List ℕ). IsNoPath bytes c.in-Err-parse_path.refusal) c.in-Ok.ensures.text c.in-Err-parse_path.ensures.refused)

pub returns-clause-refused : goal.returns-clause-refused
returns-clause-refused c =
    let t = c.args.layout.now in
    let steps = c.in-Ok-parse_path.steps.items in
    IfErr-weaker c.resolve.result _ _
    (λ e denied. not_resolved steps
    (subst (λ (bytes : List ℕ). IsTextOf bytes steps) c.in-Ok.ensures.text c.in-Ok-parse_path.ensures.path)
    (subst (λ (path : List PathStep). IsRefusal path t e) c.deref.ensures.value denied)) c.resolve.ensures.refused
