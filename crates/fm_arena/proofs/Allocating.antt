-- Where a pass finds no page.
use Rattle.std.proofs.Common.{ℕ, List, subst, Result}
use Rattle.fm_base.specs.{declared.{arena_id.ArenaId.{ArenaId}, refusal.Refusal.{Refusal}}, Calls.{Entry}}
use Rattle.fm_rule_facts.specs.Views.{View}
use Rattle.fm_rule.specs.declared.pool.Pool.{Pool}
use Rattle.fm_gate.specs.{Learnt.{AfterAllocate}, Pages.{AllocatesSo, LendsNone}}
use Rattle.fm_arena.{specs.Allocating.{AllocatesExactly}, proofs.Own.{own_by}}

-- What the gate's call teaches of it.
pub allocates_exactly : {pool : Pool} {p q : View} {id : ArenaId} {size align : ℕ} {result : Result ℕ Refusal} → AfterAllocate pool p q id size align result
    → AllocatesExactly p q id size align result
allocates_exactly {p = p} {q = q} {id = id} {size = size} {align = align} {result = result} a =
    let own = own_by a.did.goes in
    record {
      exact = λ whole closes none. a.exact whole closes none.sweeps;
      found = a.no_page;
      lends = λ more seen. subst (λ (es : List Entry). AllocatesSo p q id size align result es) (own more seen) a.lends;
      lent = a.lent;
      no_room = λ more seen whole given e. subst (λ (es : List Entry). LendsNone p.caller id size align given es) (own more seen) (a.no_room whole given e);
    }
