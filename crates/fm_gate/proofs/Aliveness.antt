-- What a visit without acts tells of an arena.
use Rattle.std.proofs.Common.{◌≡◌, true, false, List, [], ◌∷◌, ◌++◌, refl, ap, ◌∙◌, subst, Option, Ok, Err}
use Rattle.fm_base.specs.{declared.{caller.Caller.{Caller}, arena_id.ArenaId.{ArenaId}, refusal.Refusal.TheVariants.{Closed}}, Does.{DoesAct}}
use Rattle.fm_base.specs.Calls.{Enter, Leave, Fine, Entry, entry_of}
use Rattle.fm_rule_facts.specs.Views.{View}
use Rattle.fm_rule.specs.declared.pool.Pool.{Pool}
use Rattle.fm_rule_calls.proofs.Going.{goes_then, lasts_on}
use Rattle.fm_gate.specs.Learnt.{AfterEnter, AfterIsAlive, AfterLeave}

pub after_inside : {pool : Pool} {p q r : View} {a : ArenaId} (u : Unit {0}) → AfterEnter pool p q a (Ok u) → AfterLeave pool q r
    → AfterIsAlive pool p r a (Ok true)
after_inside {p = p} {q = q} {r = r} {a = a} u enters leaves =
    let same : q.caller ≡ p.caller = enters.did.goes.same_caller in
    let left : leaves.did.own ≡ entry_of p.caller (Leave a) Fine ∷ [] =
    subst (λ (i : Option ArenaId). DoesAct i p.caller Leave Fine leaves.did.own) (enters.inside).inside
    (subst (λ (c : Caller). DoesAct q.inside c Leave Fine leaves.did.own) same leaves.did.does) in
    record {
      did = record {
        own = enters.did.own ++ leaves.did.own;
        does = (enters.did.does.0, ap (λ (es : List Entry). es ++ leaves.did.own) enters.did.does.1 ∙ ap (λ (es : List Entry). entry_of p.caller (Enter a) Fine ∷ es) left);
        goes = goes_then enters.did.goes leaves.did.goes;
        rest = leaves.did.rest ∙ enters.did.rest;
      };
      held = λ i. refl;
      outside = leaves.outside;
      wrong_thread = λ e. absurd (cc);
      lasts = lasts_on (goes_then enters.did.goes leaves.did.goes);
    }

pub after_closed : {pool : Pool} {p q : View} {a : ArenaId} → AfterEnter pool p q a (Err Closed) → AfterIsAlive pool p q a (Ok false)
after_closed enters = record {
  did = record { own = enters.did.own; does = enters.did.does; goes = enters.did.goes; rest = enters.did.rest };
  held = λ i. absurd (enters.held i refl);
  outside = enters.outside;
  wrong_thread = λ e. absurd (cc);
  lasts = enters.lasts;
}
