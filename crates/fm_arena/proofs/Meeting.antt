-- Meeting what another pass has seen.
use Rattle.std.proofs.Common.{◌≡◌, ℕ, List, [], ◌++◌, refl, ap, sym, ◌∙◌, subst}
use Rattle.fm_base.{specs.{Arenas.{State}, Calls.{Entry}, Histories.{IsLegal, state_after}}, proofs.Growing.{Grows, Grows-state_after}}
use Rattle.fm_base.proofs.Making.{state_after-append, IsLegal-split}
use Rattle.fm_rule_facts.specs.{Views.{View, limit_of}, Steps.{Stepped, none_noted}}
use Rattle.fm_rule.specs.Passes.{GoesOnFrom}
use Rattle.fm_rule_calls.{specs.Kept.{Goes}, proofs.{Going.{rest_is, inside_is, lasts_on}, Waiting.{waits_by}}}
use Rattle.fm_arena.specs.Learnt.{AfterMeet}

-- From the beginning of a legal history to its end arenas and what they gave are never fewer.
grown : (limit : ℕ) (seen later all : List Entry) → all ≡ seen ++ later → IsLegal limit [] all
    → Grows (state_after limit [] seen) (state_after limit [] all)
grown limit seen later all is legal =
    let parts = IsLegal-split limit [] seen later (subst (λ (es : List Entry). IsLegal limit [] es) is legal) in
    subst (λ (s : State). Grows (state_after limit [] seen) s)
    (sym (ap (λ (es : List Entry). state_after limit [] es) is ∙ state_after-append limit [] seen later))
    (Grows-state_after limit (state_after limit [] seen) later parts.1)

-- What is learnt of `meet`.
pub meets : {p q : View} {seen : List Entry} → Stepped p q p [] none_noted → GoesOnFrom seen q.seen → AfterMeet p q seen
meets {p = p} {q = q} {seen = seen} s on =
    let goes : Goes p q [] = waits_by s in
    let g = grown (limit_of q.shape) seen on.0 q.seen on.1 goes.sound.legal in
    record {
      did = record { own = []; does = refl; goes = goes; rest = rest_is s };
      met = on;
      known = g.has;
      given = g.given;
      inside = inside_is s;
      lasts = lasts_on goes;
    }
