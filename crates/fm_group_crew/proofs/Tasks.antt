-- Values counted one after the other.
use Rattle.std.proofs.Common.{◌≡◌, ℕ, ◌+◌, ◌<◌, ◌≤◌, List, [], ◌∷◌, ◌++◌, refl, sym, subst, arith, Result, Ok, Err}
use Rattle.fm_base.specs.{declared.{caller.Caller.{Caller}, refusal.Refusal.{Refusal}}, View.{Did, View}}
use Rattle.fm_base.proofs.Making.{Makes-none, Makes-then}
use Rattle.fm_group.specs.{Asked.{CanCount}, Counting.{DoesCount, MayCount}, Learnt.{AfterCount}, Table.{Counter}}
use Rattle.fm_group_laws.specs.Shares.{CountsTo, DoesShare, none_counted, one_counted}
use Rattle.fm_group_crew.specs.{Ends.{Concludes}, Tasks.{CanCountShare, IsForAll}}

-- so far they were counted, at some places
pub record CountedSoFar (x y : View) (w : Counter) (from to k : ℕ) : Type 0 where
  pub places : List ℕ
  pub did : Did x y (CountsTo x.caller w from k places)
  pub can : CanCountShare y w from to
  pub above : from ≤ k

pub counted_none : {x : View} {w : Counter} {from to : ℕ} → CanCountShare x w from to → CountedSoFar x x w from to from
counted_none {x} can = record { places = []; did = record { own = []; does = none_counted; makes = Makes-none x }; can = can; above = omega arith }

module _ {x y : View} {w : Counter} {from to k : ℕ} (h : CountedSoFar x y w from to k) where
  pub can_count : k < to → CanCount y w k
  can_count below = let most = h.can.below in record { ready = h.can.ready; below = omega (arith, below, most) }

  pub counted_more : {u : View} (p : ℕ) → AfterCount y u w k (Ok p) → CountedSoFar x u w from to (k + 1)
  counted_more {u} p a =
      let above = h.above in
      let d = a.did in
      record {
        places = h.places ++ p ∷ [];
        did = record {
          own = h.did.own ++ d.own;
          does = one_counted p h.did.own d.own h.did.does (subst (λ (c : Caller). DoesCount c w k (Ok p) d.own) h.did.makes.same_caller d.does);
          makes = Makes-then x y u h.did.own d.own h.did.makes d.makes;
        };
        can = record {
          ready = a.ready;
          may = subst (λ (c : Caller). MayCount c w) (sym d.makes.same_caller) h.can.may;
          order = h.can.order;
          below = h.can.below;
        };
        above = omega (arith, above);
      }

  pub counted_stops : {u : View} → k < to → (r : Refusal) → AfterCount y u w k (Err r) → Did x u (DoesShare x.caller w from to (Err r))
  counted_stops {u} below r a =
      let d = a.did in
      record {
        own = h.did.own ++ d.own;
        does = record {
          at = k;
          above = h.above;
          below = below;
          places = h.places;
          before = h.did.own;
          counted = h.did.does;
          last = d.own;
          refused = subst (λ (c : Caller). DoesCount c w k (Err r) d.own) h.did.makes.same_caller d.does;
          parts = refl;
        };
        makes = Makes-then x y u h.did.own d.own h.did.makes d.makes;
      }

  pub counted_all : k ≡ to → Did x y (DoesShare x.caller w from to (Ok tt))
  counted_all all = record {
    own = h.did.own;
    does = (h.places, subst (λ (n : ℕ). CountsTo x.caller w from n h.places h.did.own) all h.did.does);
    makes = h.did.makes;
  }

-- Any pass may use arenas that aren't confined.
pub may_any : (c : Caller) (w : Counter) → IsForAll w → MayCount c w
may_any c w h = record { records = λ e. absurd (h.records e); table = λ e. absurd (h.table e) }

-- ---- behind the shares

pub concluded_refused : {x : View} (w : Counter) (end : Result (Unit {0}) Refusal) (r : Refusal) → end ≡ Err r
    → Did x x (Concludes w end (Err r) x.caller)
concluded_refused {x} w end r is =
    subst (λ (e : Result (Unit {0}) Refusal). Did x x (Concludes w e (Err r) x.caller)) (sym is)
    (record { own = []; does = (refl, refl); makes = Makes-none x })
