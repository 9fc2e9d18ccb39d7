-- Which pages a pass has in its hand after a call.
use Rattle.std.proofs.Common.{◌≡◌, List, [], ap, ◌∙◌, subst, Result, Ok, IfOk}
use Rattle.fm_base.specs.{declared.{arena_id.ArenaId.{ArenaId}, kind.Kind.{Kind}, refusal.Refusal.{Refusal}}, Calls.{Entry}, Finds.{Rest}}
use Rattle.fm_rule.specs.declared.pool.Pool.{Pool}
use Rattle.fm_rule_facts.specs.Views.{View}
use Rattle.fm_rule_calls.specs.Kept.{KeptAs}
use Rattle.fm_gate.specs.{Learnt.{AfterOpen, IsNew}, Needs.{CanAllocate}}

-- It has those that the call leaves it.
pub pages_kept : {p q : View} {things : Rest} {P : List Entry → Type 0} → KeptAs p q things P → q.pages ≡ things.pages
pages_kept k = ap (λ (x : Rest). x.pages) k.rest

-- A pass with no page in its hand can allocate in an arena that it has just opened.
pub can_allocate : {pool : Pool} {p q : View} {kind : Kind} {r : Result ArenaId Refusal} {a : ArenaId} → AfterOpen pool p q kind r → r ≡ Ok a
    → p.pages ≡ [] → CanAllocate pool q a
can_allocate {p = p} {q = q} o is none =
    let new = subst (λ r. IfOk r (λ id. IsNew p q id)) is o.is_new in
    record { visit = record { outside = o.outside; known = new.known }; no_page = pages_kept o.did ∙ none }
