-- One entry more, beside the functions.
use Rattle.std.proofs.Common.{[], ◌∷◌, sym, subst}
use Rattle.fm_base.{specs.{Arenas.{State}, Calls.{entry_of}, Histories.{state_after}}, proofs.Making.{state_after-append, IsLegal-append}}
use Rattle.fm_base_machine.{specs.{Functions.{Depicts, reply_by, moved}, Steps.{AlwaysGoesOn}}, proofs.{Depicting.{depicts_by}, Allowing.{allows}}}

pub goes_on : AlwaysGoesOn
goes_on limit h t c call l d m =
    let s = state_after limit [] h in
    let reply = reply_by limit t call in
    let e = entry_of c call reply in
    let a = allows limit s t c call d m in (
      IsLegal-append limit [] h (e ∷ []) l (a.0, a.1, tt),
      subst (λ (x : State). Depicts limit x (moved t c call reply)) (sym (state_after-append limit [] h (e ∷ []))) (depicts_by limit s t c call reply d a.0),
    )
