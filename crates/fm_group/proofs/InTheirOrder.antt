-- Places in their order.
use Rattle.std.{proofs.Common.{◌≡◌, ℕ, ◌+◌, ◌%◌, ◌<◌, true, false, List, [], ◌++◌, refl, sym, ap, ◌∙◌, subst, arith, None, Ok, Err}, specs.Prelude.{ℤ}}
use Rattle.fm_base.specs.{declared.{caller.Caller.{Caller}, refusal.Refusal.{Refusal, TheVariants.{Closed, TableFull}}}, Calls.{Entry}}
use Rattle.fm_base.{specs.{View.{Did, Makes, View}}, proofs.{Making.{Makes-none, Makes-then}}}
use Rattle.std.proofs.Math.Nat.{add-mod, mod-eq_of_lt, mod-mod}
use Rattle.fm_group.proofs.{FirstPlaces.{first_below}, Lasting.{later}}
use Rattle.fm_group.specs.{Asked.{CanTry}, Counting.{CountsAt, DoesTries, DoesTry, PassesBy, PassesFirst, StopsAt, none_yet, one_more}, Order.{first_of}, Table.{CanTable, Counter, places_in, tried_at}}

-- so many places were passed by
pub record PassedTo (x y : View) (w : Counter) (n : ℕ) (z : ℤ) (k : ℕ) : Type 0 where
  pub did : Did x y (PassesFirst x.caller w n z k)
  pub can : CanTry y w n

pub passed_none : {x : View} (w : Counter) (n : ℕ) (z : ℤ) → CanTry x w n → PassedTo x x w n z 0
passed_none {x} w n z can = record { did = record { own = []; does = none_yet; makes = Makes-none x }; can = can }

module _ {x y u : View} {w : Counter} {n : ℕ} {z : ℤ} {k p : ℕ} (h : PassedTo x y w n z k) (at : p ≡ tried_at w z k) where
  pub passed_more : Did y u (DoesTry y.caller w n z p (Ok false)) → u.inside ≡ None → PassedTo x u w n z (k + 1)
  passed_more d outside = record {
    did = record {
      own = h.did.own ++ d.own;
      does = one_more h.did.own d.own h.did.does
          (subst (λ (q : ℕ). PassesBy x.caller w n z q d.own) at (subst (λ (c : Caller). PassesBy c w n z p d.own) h.did.makes.same_caller d.does));
      makes = Makes-then x y u h.did.own d.own h.did.makes d.makes;
    };
    can = later h.can d.makes outside;
  }

  pub counted_now : k < places_in w.table → Did y u (DoesTry y.caller w n z p (Ok true)) → Did x u (DoesTries x.caller w n z (Ok p))
  counted_now within d = record {
    own = h.did.own ++ d.own;
    does = record {
      k = k;
      within = within;
      place = at;
      before = h.did.own;
      passed = h.did.does;
      last = d.own;
      ended = subst (λ (c : Caller). CountsAt c w n z p d.own) h.did.makes.same_caller d.does;
      parts = refl;
    };
    makes = Makes-then x y u h.did.own d.own h.did.makes d.makes;
  }

  pub stopped_now : k < places_in w.table → (r : Refusal) → Did y u (DoesTry y.caller w n z p (Err r)) → Did x u (DoesTries x.caller w n z (Err r))
  stopped_now within r d = by r d.own d.makes d.does
    where
      by : (q : Refusal) (own : List Entry) → Makes y u own → DoesTry y.caller w n z p (Err q) own → Did x u (DoesTries x.caller w n z (Err q))
      by Closed own makes e = record {
        own = h.did.own ++ own;
        does = (
          p,
          record {
            k = k;
            within = within;
            place = at;
            before = h.did.own;
            passed = h.did.does;
            last = own;
            ended = subst (λ (c : Caller). StopsAt c w n z p own) h.did.makes.same_caller e;
            parts = refl;
          },
        );
        makes = Makes-then x y u h.did.own own h.did.makes makes;
      }
      by q own makes e = absurd e

pub passed_all : {x y : View} (w : Counter) (n : ℕ) (z : ℤ) (k : ℕ) → PassedTo x y w n z k → k ≡ places_in w.table → Did x y (DoesTries x.caller w n z (Err TableFull))
passed_all {x} {y} w n z k h all = record { own = h.did.own; does = subst (λ (m : ℕ). PassesFirst x.caller w n z m h.did.own) all h.did.does; makes = h.did.makes }

-- the place behind one
pub place_behind : (w : Counter) (z : ℤ) (k p q : ℕ) → p ≡ tried_at w z k → q ≡ (p + 1) % places_in w.table → q ≡ tried_at w z (k + 1)
place_behind w z k p q at is = is ∙ ap (λ m. (m + 1) % places_in w.table) at ∙ next (places_in w.table) (first_of w.order (places_in w.table) z) k
  where
    next : (most start j : ℕ) → ((start + j) % most + 1) % most ≡ (start + (j + 1)) % most
    next most start j =
        let sum : start + (j + 1) ≡ start + j + 1 = omega arith in
        add-mod ((start + j) % most) 1 most ∙ ap (λ m. (m + 1 % most) % most) (mod-mod (start + j) most)
        ∙ sym (add-mod (start + j) 1 most) ∙ ap (λ m. m % most) (sym sum)

pub first_tried : (w : Counter) (z : ℤ) (p : ℕ) → p ≡ first_of w.order (places_in w.table) z → 0 < places_in w.table → p ≡ tried_at w z 0
first_tried w z p is some =
    let first = first_of w.order (places_in w.table) z in
    let plain : first_of w.order (places_in w.table) z + 0 ≡ first_of w.order (places_in w.table) z = omega arith in
    is ∙ sym (ap (λ m. m % places_in w.table) plain ∙ mod-eq_of_lt (first_below w.order (places_in w.table) z some))

pub has_places : {w : Counter} → CanTable w → 0 < places_in w.table
has_places can = let a = can.table.some in let b = can.table.even in omega (arith, a, b)
