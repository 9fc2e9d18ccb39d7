-- What a visit's call does with a segment of another arena.
use Rattle.std.proofs.Common.{◌≡◌, ℕ, inl, inr, [], refl, sym, subst, ◌∙◌, List, Result, Err}
use Rattle.fm_base.specs.declared.{arena_id.ArenaId.{ArenaId}, refusal.Refusal.{Refusal, TheVariants.{Unsupported}}}
use Rattle.fm_base.specs.{View.{View}, Visits.{Acts}}
use Rattle.fm_base.proofs.{Making.{Makes-none}, Outcomes.{Makes-lasts}}
use Rattle.fm_segment.specs.Region.{Region}
use Rattle.fm_visit.specs.{Learnt.{IsIn, AfterInside}, Handles.{CanCall, CanExchange, CanPut}, Values.{AreIn}, Visiting.{ActsIn, ActsInBoth, AreOf}}
use Rattle.fm_path.specs.Resolution.{Resolution}
use Rattle.fm_lanes.specs.declared.value.Value.{Value}
use Rattle.fm_segment.specs.Access.{IsKnown}

-- The refusal of a segment of another arena.
pub visited_elsewhere : {X : Type 0} {x : View} {id : ArenaId} {r : Region} {Do : Result X Refusal → Acts → Type 0} {Alone : X → Type 0}
    → IsIn x id r → ¬ (r.arena ≡ id) → AfterInside x x id r (ActsIn id r Do) Alone (Err Unsupported)
visited_elsewhere {x = x} can other = record {
  did = record { own = []; does = record { acts = []; are = inr (other, refl, refl); entries = refl }; makes = Makes-none x };
  refused = tt;
  alone = λ h. tt;
  still = can;
  inside = refl;
  lasts = Makes-lasts x x [] (Makes-none x);
}

-- A segment of the visit's arena is one that the plain calls take,
pub here_in : {x : View} {id : ArenaId} {r : Region} → IsIn x id r → r.arena ≡ id → IsIn x r.arena r
here_in {x} {id} {r} can same = subst (λ (i : ArenaId). IsIn x i r) (sym same) can

-- also by a handle,
pub call_here : {x : View} {id : ArenaId} {h : Resolution} {r : Region} {is : List ℕ} → CanCall x id h r is → r.arena ≡ id → CanCall x r.arena h r is
call_here can same = record { inside = here_in can.inside same; indices = can.indices }

pub put_here : {x : View} {id : ArenaId} {h : Resolution} {r : Region} {is : List ℕ} {v : Value} → CanPut x id h r is v → r.arena ≡ id → CanPut x r.arena h r is v
put_here can same = record { call = call_here can.call same; value = can.value }

pub exchange_here : {x : View} {id : ArenaId} {h : Resolution} {r : Region} {is : List ℕ} {w v : Value} → CanExchange x id h r is w v → r.arena ≡ id
    → CanExchange x r.arena h r is w v
exchange_here can same = record { call = call_here can.call same; expected = can.expected; value = can.value }

-- and two segments of it are.
pub both_here : {x : View} {id : ArenaId} {a b : Region} → IsIn x id a → IsKnown x b → AreOf id a b → AreIn x a.arena a b
both_here can second same = record { first = here_in can same.0; second = second; same = same.1 ∙ sym same.0 }

-- What is learnt of a segment of the arena,
pub visited_here : {X : Type 0} {x y : View} {id : ArenaId} {r : Region} {Do : Result X Refusal → Acts → Type 0} {Alone : X → Type 0} {result : Result X Refusal}
    → r.arena ≡ id → AfterInside x y r.arena r Do Alone result → AfterInside x y id r (ActsIn id r Do) Alone result
visited_here {y = y} {r = r} same a = record {
  did = record { own = a.did.own; does = record { acts = a.did.does.acts; are = inl (same, a.did.does.are); entries = a.did.does.entries }; makes = a.did.makes };
  refused = a.refused;
  alone = a.alone;
  still = subst (λ (i : ArenaId). IsIn y i r) same a.still;
  inside = a.inside;
  lasts = a.lasts;
}

-- of two,
pub visited_both : {X : Type 0} {x y : View} {id : ArenaId} {a : Region} (b : Region) {Do : Result X Refusal → Acts → Type 0} {Alone : X → Type 0} {result : Result X Refusal}
    → AreOf id a b → AfterInside x y a.arena a Do Alone result → AfterInside x y id a (ActsInBoth id a b Do) Alone result
visited_both {y = y} {a = r} b same a = record {
  did = record { own = a.did.own; does = record { acts = a.did.does.acts; are = inl (same, a.did.does.are); entries = a.did.does.entries }; makes = a.did.makes };
  refused = a.refused;
  alone = a.alone;
  still = subst (λ (i : ArenaId). IsIn y i r) same.0 a.still;
  inside = a.inside;
  lasts = a.lasts;
}

-- and of two that aren't both of it.
pub apart_elsewhere : {X : Type 0} {x : View} {id : ArenaId} {a : Region} (b : Region) {Do : Result X Refusal → Acts → Type 0} {Alone : X → Type 0}
    → IsIn x id a → ¬ (AreOf id a b) → AfterInside x x id a (ActsInBoth id a b Do) Alone (Err Unsupported)
apart_elsewhere {x = x} b can other = record {
  did = record { own = []; does = record { acts = []; are = inr (other, refl, refl); entries = refl }; makes = Makes-none x };
  refused = tt;
  alone = λ h. tt;
  still = can;
  inside = refl;
  lasts = Makes-lasts x x [] (Makes-none x);
}
