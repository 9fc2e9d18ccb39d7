-- A pass that waits for a slot or a page, which changes no arena.
use Rattle.std.proofs.Common.{◌≡◌, ℕ, ◌+◌, ◌≤◌, List, [], ◌∷◌, ◌++◌, Ok, Err, refl, ap, sym, ◌∙◌, subst, inl, inr, ⊎_elim, arith}
use Rattle.fm_base.specs.declared.{arena_id.ArenaId.{ArenaId}, kind.Kind.TheVariants.{Shared}, refusal.Refusal.{Refusal}, caller.Caller.{Caller}}
use Rattle.fm_base.specs.{Arenas.{State, arena_of, has_arena}, Calls.{Entry}, Does.{DidAllocate, DoesAllocate, DoesOpen}, Machine.{rounded_up}}
use Rattle.fm_base.specs.View.{but_loans, given_in}
use Rattle.fm_base.specs.declared.refusal.Refusal.TheVariants as refusal
use Rattle.fm_rule_calls.{specs.Told.{view_of_pass}, proofs.Telling.{did_of}}
use Rattle.fm_gate.specs.Learnt.{AfterAllocate, AfterOpen}
use Rattle.fm_rule_facts.specs.{Loans.{loans_of}, Views.{View, IsKnown, limit_of, state_in}}
use Rattle.fm_rule.specs.declared.pool.Pool.{Pool}
use Rattle.fm_top_load.{specs.Held.{HoldsThen, IsEmpty, OnlyIn, names_in}, proofs.Holding.{did_only, refusal_stays, refused_held}}
use Rattle.fm_top_pooled.{specs.Stocked.{IsAlone}, proofs.{Allocating.{first_held, first_only}, Opening.{opens}, Tidying.{AllChangeNone}}}
use Rattle.fm_top_stream.{specs.Steps.{Gives, GoesOn, Opens}, proofs.Going.{alone_still, goes_here, goes_then, kept_goes}}

-- it waited, and the arenas are as they were
pub record Waits (pool : Pool) (p m : View) : Type 0 where
  pub goes : GoesOn pool p m
  pub state : state_in m ≡ state_in p
  pub loans : loans_of m.seen ≡ loans_of p.seen

-- ---- for a slot

pub waits_none : {pool : Pool} {p : View} → IsAlone p.gathered pool p → Waits pool p p
waits_none alone = record { goes = goes_here alone; state = refl; loans = refl }

module _ {pool : Pool} {p m q : View} (w : Waits pool p m) where
  pub waits_more : (r : Refusal) → AfterOpen pool m q Shared (Err r) → Waits pool p q
  waits_more r after =
      let alone = w.goes.alone in
      let none : but_loans after.did.own ≡ [] =
      subst (λ (x : Refusal). DoesOpen m.caller Shared (Err x) (but_loans after.did.own)) after.no_slot.0 after.did.does in
      let did = did_of m q (λ own. DoesOpen m.caller Shared (Err r) (but_loans own)) after.did in
      record {
        goes = goes_then w.goes (kept_goes alone after.did after.outside (subst AllChangeNone (sym none) tt));
        state = (did_only (view_of_pass m) (view_of_pass q) did.own [] (inr alone.whole) did.makes
            (subst (λ (x : Refusal). DoesOpen m.caller Shared (Err x) (but_loans did.own)) after.no_slot.0 did.does)).state ∙ w.state;
        loans = after.lends alone.whole ∙ w.loans;
      }

  -- What was opened then was opened since the wait began.
  pub opened_then : (a : ArenaId) → AfterOpen pool m q Shared (Ok a) → Opens pool p q a
  opened_then a after =
      let alone = w.goes.alone in
      let o = opens pool m q a alone after in
      let did = did_of m q (λ own. DoesOpen m.caller Shared (Ok a) (but_loans own)) after.did in
      record {
        goes = goes_then w.goes (kept_goes alone after.did after.outside (subst AllChangeNone (sym after.did.does.2) (tt, tt)));
        opened = record {
          lone = alone_still o.lone;
          empty = o.empty;
          zero = o.zero;
          shared = o.shared;
          unknown = λ k. o.unknown (ap (λ (s : State). has_arena s a) w.state ∙ k);
          only = λ b k. ⊎_elim (λ (e : b ≡ a). inl e) (λ (was : IsKnown m b). inr (ap (λ (s : State). has_arena s b) (sym w.state) ∙ was)) (o.only b k);
          keeps = record {
            known = λ b k. o.keeps.known b (ap (λ (s : State). has_arena s b) w.state ∙ k);
            same = λ b k. o.keeps.same b (ap (λ (s : State). has_arena s b) w.state ∙ k) ∙ ap (λ (s : State). arena_of s b) w.state;
          };
          names = o.names ∙ ap (λ (s : State). names_in s ++ a ∷ []) w.state;
          loans = o.loans ∙ w.loans;
        };
      }

-- ---- for a page

refused_none : (c : Caller) (a : ArenaId) (size : ℕ) (r : Refusal) (es : List Entry) → DoesAllocate c a size 8 (Err r) es → AllChangeNone es
refused_none c a size refusal.BadAlignment es does = subst AllChangeNone (sym does.1) tt
refused_none c a size refusal.WrongThread es does = subst AllChangeNone (sym does.2) tt
refused_none c a size refusal.Closed es does = subst AllChangeNone (sym does.2) (tt, tt)
refused_none c a size (refusal.NoRoom given) es does = subst AllChangeNone (sym does.2) (tt, (tt, (tt, tt)))
refused_none c a size refusal.PoolFull es does = subst AllChangeNone (sym does.2) (tt, (tt, tt))
refused_none c a size refusal.Memory es does = subst AllChangeNone (sym does.2) tt
refused_none c a size r es does = absurd does

-- it waited for a page of the arena, which has given nothing
pub record WaitsFor (pool : Pool) (p m : View) (a : ArenaId) : Type 0 where
  pub goes : GoesOn pool p m
  pub state : state_in m ≡ state_in p
  pub empty : IsEmpty (view_of_pass m) a

-- So many bytes have room.
module _ {pool : Pool} {p m : View} (a : ArenaId) (size : ℕ) (w : WaitsFor pool p m a) where
  room : size ≤ limit_of pool.shape → rounded_up (given_in (view_of_pass m) a) 8 + size ≤ limit_of m.shape
  room fits =
      let none : rounded_up (given_in (view_of_pass m) a) 8 ≡ 0 = ap (λ n. rounded_up n 8) w.empty.none in
      let limit : limit_of m.shape ≡ limit_of pool.shape = ap limit_of w.goes.alone.outside.of.1 in
      omega (arith, none, limit, fits)

module _ {pool : Pool} {p m q : View} (a : ArenaId) (size : ℕ) (w : WaitsFor pool p m a) where
  pub waits_on : (r : Refusal) → size ≤ limit_of pool.shape → AfterAllocate pool m q a size 8 (Err r) → WaitsFor pool p q a
  waits_on r fits after =
      let did : DidAllocate (view_of_pass m) (view_of_pass q) a size 8 (Err r) =
      did_of m q (λ own. DoesAllocate m.caller a size 8 (Err r) (but_loans own)) after.did in
      let held = refused_held (view_of_pass m) (view_of_pass q) a size r w.empty.held (room a size w fits) after.outside.outside did in
      record {
        goes = goes_then w.goes (kept_goes w.goes.alone after.did after.outside (refused_none m.caller a size r (but_loans after.did.own) after.did.does));
        state = refusal_stays (view_of_pass m) (view_of_pass q) a size r w.empty.held (room a size w fits) did ∙ w.state;
        empty = record { held = held.held; none = held.given_is ∙ w.empty.none };
      }

  pub gives_then : (place : ℕ) → AfterAllocate pool m q a size 8 (Ok place) → Gives pool p q a size
  gives_then place after =
      let held = first_held a size w.goes.alone w.empty place after in
      record {
        goes = goes_then w.goes (kept_goes w.goes.alone after.did after.outside (subst AllChangeNone (sym after.did.does.2) (tt, (tt, (tt, tt)))));
        held = subst (λ (s : State). HoldsThen (view_of_pass q) a size (arena_of s a).words) w.state held;
        elsewhere = subst (λ (s : State). OnlyIn a s (state_in q)) w.state (first_only a size w.goes.alone w.empty place after);
      }
