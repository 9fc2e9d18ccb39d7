use Rattle.std.proofs.Common.{ℕ, List, [], ◌∷◌, ◌++◌, refl, ap, ◌∙◌}
use Rattle.fm_base.specs.{declared.arena_id.ArenaId.{ArenaId}, Arenas.{State, has_arena}, Calls.{Entry, Open, Fine, entry_of}, Histories.{state_after}}
use Rattle.fm_base.{specs.Machine.{opened}, proofs.{Lookup.{has_arena-opened}, Making.{state_after-append}}}
use Rattle.fm_rule_facts.specs.{Steps.{Stepped, none_noted}, Views.{View, IsKnown, limit_of}}
use Rattle.fm_rule_calls.proofs.Going.{goes_step, known_on, no_draws}
use Rattle.fm_rule_tests.proofs.tests.pages.entered.Goals as goal

-- an arena that was opened is known
opened_known : {p q part : View} (a : ArenaId) → Stepped p q part (entry_of p.caller (Open a) Fine ∷ []) none_noted → IsKnown q a
opened_known {p = p} {q = q} a s =
    let limit : ℕ = limit_of q.shape in
    let before : List Entry = p.seen ++ s.others in
    let last : List Entry = entry_of p.caller (Open a) Fine ∷ [] in
    ap (λ (es : List Entry). has_arena (state_after limit [] es) a) s.seen
    ∙ (ap (λ (t : State). has_arena t a) (state_after-append limit [] before last) ∙ has_arena-opened (state_after limit [] before) (opened limit a))

pub step_mark-requires-clause-known : goal.step_mark-requires-clause-known
step_mark-requires-clause-known g c = opened_known c.step_open-opened.result c.step_open-opened.ensures.stepped

pub step_check-requires-clause-known : goal.step_check-requires-clause-known
step_check-requires-clause-known g c =
    known_on (goes_step c.step_mark.ensures refl refl refl no_draws)
    c.step_open-opened.result (opened_known c.step_open-opened.result c.step_open-opened.ensures.stepped)
