-- An arena that a pass has a hold or a handle of is open to it.
use Rattle.std.proofs.Common.{◌≡◌, ◌≢◌, List, ap, sym, ◌∙◌, subst, All}
use Rattle.fm_base.specs.{declared.arena_id.ArenaId.{ArenaId}, Arenas.{State, arena_of}, Calls.{Enter, Closed, Entry}, Finds.{Rest}, View.{Makes}}
use Rattle.fm_rule_facts.specs.Views.{View, In, IsSound, grips, limit_of, state_in}
use Rattle.fm_rule_calls.specs.Told.{view_of_pass}
use Rattle.fm_gate.proofs.Living.{none_shut_out, grips_are}
use Rattle.fm_arena.specs.OpenLaws.{HeldIsOpen}

-- What is alive behind the entries of a call shut nobody out between them.
never : (p q : View) (own : List Entry) (id : ArenaId) → Makes (view_of_pass p) (view_of_pass q) own → IsSound q → In id (grips id p)
    → All (λ e. e.call ≡ Enter id → e.reply ≢ Closed) own
never p q own id m sound held =
    let same = grips_are p q id (ap (λ (r : Rest). r.holds) m.told.rest) (ap (λ (r : Rest). r.handles) m.told.rest) in
    let alive = sound.held id (subst (λ (xs : List ArenaId). In id xs) (sym same) held) in
    none_shut_out (limit_of p.shape) (state_in p) p.caller m.all own id m.legal (sym (ap (λ (s : State). (arena_of s id).life) m.reached) ∙ alive.1) m.by_caller

pub held_open : HeldIsOpen
held_open = record { alive = λ p id sound held. sound.held id held; never_shut_out = never }
