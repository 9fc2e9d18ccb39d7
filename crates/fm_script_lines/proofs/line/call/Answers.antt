use Rattle.std.{proofs.Common.{◌≡◌, subst, sym, List, ℕ, Option}, specs.Prelude.{IfSome}}
use Rattle.fm_arena.specs.{declared.handle.AutoHandle.{AutoHandle}, Handles.{HasHandle}}
use Rattle.fm_base.specs.Calls.{Entry}
use Rattle.fm_rule_facts.specs.Views.{View}
use Rattle.fm_rule_calls.specs.Told.{view_of_pass}
use Rattle.fm_script_lines.specs.{declared.{outcome.LineOutcome.{LineOutcome}, table.Table.{Table}}, Tokens.{IsReady}, Calls.{On}, Learnt.{CallRan, stands_by}}
use Rattle.fm_script_lines.specs.{Numbers.{number_at}, Runs.{RanLine}, Standings.{handle_in, segment_of}}
use Rattle.fm_script_lines.proofs.Backing.{is_handled, name_known, segment_known, some_mapped}
use Rattle.fm_segment.specs.{Access.{IsKnown}, Region.{Region}}
use Rattle.fm_script_text.specs.declared.command.Command.{Command}
use Rattle.fm_script_lines.proofs.line.call.Goals as goal

pub again-requires-clause-has : goal.again-requires-clause-has
again-requires-clause-has g c =
    let p = c.args.m.now in
    let t = c.args.table.now in
    let name = c.in-Again.handle in
    some_mapped (λ (h : AutoHandle). HasHandle p h) _ c.handle.result (handle_in (stands_by t name)) c.handle.ensures
    (λ h is. is_handled p c.requires.can.ready.backs t.start (number_at t.names.now name) h is)

-- A call on the segment that a name stands for, which the pass knows.
on_segment : (p : View) (t : Table) (name : List ℕ) (Does : Region → LineOutcome → List Entry → Type 0) (out : LineOutcome) (o : Option Region)
    → IsReady p t.base.now t.own.items → o ≡ segment_of (stands_by t name) → (IfSome o (IsKnown (view_of_pass p)) → RanLine p p (On o Does) out)
    → RanLine p p (On (segment_of (stands_by t name)) Does) out
on_segment p t name Does out o ready is ran =
    subst (λ (o : Option Region). RanLine p p (On o Does) out) is (ran (subst (λ (o : Option Region). IfSome o (IsKnown (view_of_pass p))) (sym is)
    (segment_known p (stands_by t name) (name_known p ready.backs t.start (number_at t.names.now name)))))

pub returns-in-Slice-clause-ran : goal.returns-in-Slice-clause-ran
returns-in-Slice-clause-ran g c =
    let p = c.args.m.now in
    let t = c.args.table.now in
    subst (λ (x : Command). CallRan p p (stands_by t) x c.slice.result) (sym c.in-Slice.is) (record {
      ran = on_segment p t c.in-Slice.segment _ _ _ c.requires.can.ready c.at-in-Slice.ensures.segment (c.slice.ensures p c.requires.can.outside);
      slots = λ o. absurd (cc);
      pages = tt;
    })

pub returns-in-Readonly-clause-ran : goal.returns-in-Readonly-clause-ran
returns-in-Readonly-clause-ran g c =
    let p = c.args.m.now in let t = c.args.table.now in
    subst (λ (x : Command). CallRan p p (stands_by t) x c.read_only.result) (sym c.in-Readonly.is) (record {
      ran = on_segment p t c.in-Readonly.segment _ _ _ c.requires.can.ready c.at-in-Readonly.ensures.segment (c.read_only.ensures p c.requires.can.outside);
      slots = λ o. absurd (cc);
      pages = tt;
    })
