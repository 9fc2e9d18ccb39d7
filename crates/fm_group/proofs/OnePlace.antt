-- One place is tried.
use Rattle.std.{proofs.Common.{◌≡◌, ◌≢◌, ℕ, true, false, List, ◌++◌, refl, sym, ap, subst, None, Some, Result, Ok, Err}, specs.Prelude.{ℤ}}
use Rattle.fm_base.specs.{declared.{caller.Caller.{Caller}, refusal.Refusal.{Refusal, TheVariants.{Closed, Memory}}}, Calls.{Entry}}
use Rattle.fm_base.{specs.{View.{Did, Makes, View}}, proofs.{Making.{Makes-then}}}
use Rattle.fm_group.specs.{Counting.{Claims, CountsAt, DoesAddOne, DoesClaim, DoesTry, FindsClaim, PassesBy, ReadsValue, StopsAt, claim_try, claims, finds, meets, other, puts, shut, uncounted, unnamed, unread}, Table.{Counter, named_by}}

module _ {x y : View} {w : Counter} {n p claim : ℕ} (z : ℤ) (d : Did x y (DoesClaim x.caller w n p (Ok claim))) where
  -- It was free,
  pub counts_there : claim ≡ 0 → Did x y (DoesTry x.caller w n z p (Ok true))
  counts_there none = record { own = d.own; does = by claim d.own none d.does; makes = d.makes }
    where
      by : (found : ℕ) (own : List Entry) → found ≡ 0 → Claims x.caller w n p found own → CountsAt x.caller w n z p own
      by found own none (puts count) = claims count
      by found own none (finds k some) = absurd (some none)

  found_own : claim ≢ 0 → d.own ≡ claim_try x.caller w n p claim
  found_own some = by claim d.own some d.does
    where
      by : (found : ℕ) (own : List Entry) → found ≢ 0 → Claims x.caller w n p found own → own ≡ claim_try x.caller w n p found
      by found own some (puts count) = absurd (some refl)
      by found own some (finds k more) = refl

  -- or its claim names no value,
  pub passes_unnamed : claim ≢ 0 → named_by w.values claim ≡ None → Did x y (DoesTry x.caller w n z p (Ok false))
  passes_unnamed some none = record {
    own = d.own;
    does = subst (λ (es : List Entry). PassesBy x.caller w n z p es) (sym (found_own some)) (unnamed claim some none);
    makes = d.makes;
  }

  -- or it is that of a value, which is read.
  module _ (some : claim ≢ 0) {m : ℕ} (names : named_by w.values claim ≡ Some m) {u : View} where
    finds_value : (r : Result ℤ Refusal) → (e : Did y u (ReadsValue y.caller w.values m r)) → FindsClaim x.caller w n z p r (d.own ++ e.own)
    finds_value r e = record {
      found = claim;
      value = m;
      names = names;
      reads = e.own;
      read = subst (λ (c : Caller). ReadsValue c w.values m r e.own) d.makes.same_caller e.does;
      parts = ap (λ (es : List Entry). es ++ e.own) (found_own some);
    }

    both_make : {P : List Entry → Type 0} → (e : Did y u P) → Makes x u (d.own ++ e.own)
    both_make e = Makes-then x y u d.own e.own d.makes e.makes

    pub passes_other : (f : ℤ) → f ≢ z → Did y u (ReadsValue y.caller w.values m (Ok f)) → Did x u (DoesTry x.caller w n z p (Ok false))
    passes_other f apart e = record { own = d.own ++ e.own; does = other f (d.own ++ e.own) apart (finds_value (Ok f) e); makes = both_make e }

    pub stops_unread : (r : Refusal) → Did y u (ReadsValue y.caller w.values m (Err r)) → Did x u (DoesTry x.caller w n z p (Err r))
    stops_unread r e = by r e.own e.makes e.does
      where
        by : (q : Refusal) (own : List Entry) → Makes y u own → ReadsValue y.caller w.values m (Err q) own → Did x u (DoesTry x.caller w n z p (Err q))
        by Closed own makes h =
            let f : Did y u (ReadsValue y.caller w.values m (Err Closed)) = record { own = own; does = h; makes = makes } in
            record { own = d.own ++ own; does = unread (d.own ++ own) (finds_value (Err Closed) f); makes = both_make f }
        by Memory own makes h = absurd h.does
        by q own makes h = absurd h.to

    module _ (f : ℤ) (same : f ≡ z) (e : Did y u (ReadsValue y.caller w.values m (Ok f))) where
      found_same : FindsClaim x.caller w n z p (Ok z) (d.own ++ e.own)
      found_same = subst (λ (i : ℤ). FindsClaim x.caller w n z p (Ok i) (d.own ++ e.own)) same (finds_value (Ok f) e)

      pub counts_same : {v : View} (k : Unit {0}) → Did u v (DoesAddOne u.caller w p (Ok k)) → Did x v (DoesTry x.caller w n z p (Ok true))
      counts_same {v} k a =
          let one = subst (λ (c : Caller). DoesAddOne c w p (Ok k) a.own) (both_make e).same_caller a.does in
          record {
            own = (d.own ++ e.own) ++ a.own;
            does = subst (λ (es : List Entry). CountsAt x.caller w n z p ((d.own ++ e.own) ++ es)) (sym one.1) (meets one.0 (d.own ++ e.own) found_same);
            makes = Makes-then x u v (d.own ++ e.own) a.own (both_make e) a.makes;
          }

      pub stops_uncounted : {v : View} (r : Refusal) → Did u v (DoesAddOne u.caller w p (Err r)) → Did x v (DoesTry x.caller w n z p (Err r))
      stops_uncounted {v} r a = by r a.own a.makes (subst (λ (c : Caller). DoesAddOne c w p (Err r) a.own) (both_make e).same_caller a.does)
        where
          by : (q : Refusal) (own : List Entry) → Makes u v own → DoesAddOne x.caller w p (Err q) own → Did x v (DoesTry x.caller w n z p (Err q))
          by Closed own makes h = record {
            own = (d.own ++ e.own) ++ own;
            does = subst (λ (es : List Entry). StopsAt x.caller w n z p ((d.own ++ e.own) ++ es)) (sym h) (uncounted (d.own ++ e.own) found_same);
            makes = Makes-then x u v (d.own ++ e.own) own (both_make e) makes;
          }
          by q own makes h = absurd h

pub stops_shut : {x y : View} (w : Counter) (n p : ℕ) (z : ℤ) (r : Refusal) → Did x y (DoesClaim x.caller w n p (Err r)) → Did x y (DoesTry x.caller w n z p (Err r))
stops_shut {x} {y} w n p z r d = by r d.own d.makes d.does
  where
    by : (q : Refusal) (own : List Entry) → Makes x y own → DoesClaim x.caller w n p (Err q) own → Did x y (DoesTry x.caller w n z p (Err q))
    by Closed own makes h = record { own = own; does = subst (λ (es : List Entry). StopsAt x.caller w n z p es) (sym h) shut; makes = makes }
    by q own makes h = absurd h
