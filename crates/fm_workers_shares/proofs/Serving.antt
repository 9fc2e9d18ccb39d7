-- A taker does a share, and then the next.
use Rattle.std.proofs.Common.{◌≡◌, ℕ, ◌+◌, ◌-◌, ◌*◌, ◌/◌, ◌%◌, ◌^◌, ◌<◌, ◌≤◌, List, [], ◌∷◌, ◌++◌, None, Some, refl, sym, ap, ◌∙◌, subst, arith, inl, le_trans, Ok, Err}
use Rattle.std.proofs.{Math.Nat.{mul-mod_left, dvd-add}, lemmas.{List.{map-append}, Nat.Gcd.{dvd_of_mod-eq-zero, mod-eq-zero_of_dvd, dvd_trans}}}
use Rattle.fm_base.specs.{declared.{caller.Caller.{Caller}, refusal.Refusal.{Refusal, TheVariants.{Memory}}}, Calls.{Entry}, View.{Did, Makes, View}}
use Rattle.fm_base.proofs.{Making.{Makes-none, Makes-then}, Outcomes.{Makes-lasts}}
use Rattle.fm_workers_jobs.specs.{declared.{account.Account.{Account}, jobs.Jobs.{Jobs}}, Accounts.{after_take}, Turns.{CanTake, HasAccount, account_of}}
use Rattle.fm_segment.{specs.Region.{Region}, proofs.Access.{known_still}}
use Rattle.fm_records_query.specs.Plan.{IsPlan, Plan}
use Rattle.fm_records.{specs.{Learnt.{CanQuery}, Query.{DoesQuery}}, proofs.Visiting.{AreReads-none}}
use Rattle.fm_workers_shares.specs.{declared.{answers.Done.{Done}, taker.Taker.{Taker}}, Asking.{CanAsk, asking}, Shares.{Cut, IsCut, cut, each_of, many_of, share_of, start_of}}
use Rattle.fm_workers_shares.specs.Taking.{DoesEach, DoesShare, IsReady, KnowsOn, Making, MakesNext, Takes, jobs_of, to_a_refusal, to_its_stop, took}
use Rattle.fm_workers_shares.proofs.{Each.{DoesEach-more}, Numbers.{few_shares, run_fits, start_order, start_within}}

-- ---- one share of a query

-- At most 64 shares of whole records.
pub is_cut : (p : Plan) (s : Region) (threads n m each : ℕ) → IsPlan p → s.size % p.size ≡ 0 → s.size ≤ 2 ^ 40 → 0 < threads → threads ≤ 16 → n ≡ s.size
    → m ≡ p.size → each ≡ each_of (n / m) threads → 0 < each → IsCut (cut p s each)
is_cut p s threads n m each plan even small some few size record_size is any = record {
  plan = plan;
  even = even;
  some = any;
  small = small;
  few = subst (λ k. many_of (s.size / p.size) k ≤ 64) (sym (is ∙ (λ i. each_of (size i / record_size i) threads)))
      (few_shares (s.size / p.size) threads some few);
}

-- A record of an aligned segment is aligned.
pub aligned_at : (p : Plan) (first n : ℕ) → IsPlan p → first % p.alignment ≡ 0 → (first + n * p.size) % p.alignment ≡ 0
aligned_at p first n plan e = mod-eq-zero_of_dvd p.alignment (dvd-add p.alignment (dvd_of_mod-eq-zero p.alignment e)
    (dvd_trans p.alignment (dvd_of_mod-eq-zero p.alignment plan.even) (dvd_of_mod-eq-zero p.size (mul-mod_left n p.size))))

pub can_query_share : (k : Cut) (v : View) (number : ℕ) → IsCut k → v.inside ≡ None → CanAsk k v
    → CanQuery v k.plan (share_of k.plan k.segment k.each number)
can_query_share k v number is outside can =
    let count = k.segment.size / k.plan.size in
    let fits = run_fits (start_of (k.segment.size / k.plan.size) k.each number) (start_of (k.segment.size / k.plan.size) k.each (number + 1)) k.plan.size
    k.segment.size (start_order (k.segment.size / k.plan.size) k.each number) (start_within (k.segment.size / k.plan.size) k.each (number + 1)) in
    let given = can.known.given in
    record {
      outside = outside;
      known = record { arena = can.known.arena; given = le_trans (omega (arith, fits)) given };
      aligned = aligned_at k.plan k.segment.first (start_of (k.segment.size / k.plan.size) k.each number) is.plan can.aligned;
    }

-- Memory was wanting for the answer.
pub served_wants : (k : Cut) (v : View) (number : ℕ) (old new : List Done) → CanAsk k v
    → Did v v (MakesNext (asking k) v.caller number old new (Err Memory))
served_wants k v number old new can = record {
  own = [];
  does = (
    mul-mod_left (start_of (k.segment.size / k.plan.size) k.each (number + 1) - start_of (k.segment.size / k.plan.size) k.each number) k.plan.size,
    (λ is. absurd (can.open_to_all is)),
    AreReads-none v.caller (share_of k.plan k.segment k.each number),
    inl refl,
  );
  makes = Makes-none v;
}

-- It was answered.
pub served_one : (k : Cut) {v u : View} (old new : List Done) (d : Done) (o : Unit {0})
    → Did v u (DoesQuery v.caller k.plan (share_of k.plan k.segment k.each d.job) (Ok d.answer)) → new ≡ old ++ d ∷ []
    → Did v u (MakesNext (asking k) v.caller d.job old new (Ok o))
served_one k old new d o did is = record {
  own = did.own;
  does = (d, refl, did.does, λ ds same. is ∙ ap (λ (xs : List Done). xs ++ d ∷ []) same);
  makes = did.makes;
}

-- ---- one after the other

-- what a taker did so far
pub record HasServed {P : Type 0} (w : Making P) (jobs : Jobs) (old now : View) (t : Taker P) : Type 0 where
  pub own : List Entry
  pub done : List Done
  pub does : DoesEach w.cut.plan w.cut.segment w.cut.each old.caller done own
  pub holds : w.holds done t.part
  pub makes : Makes old now own
  pub outside : now.inside ≡ None
  pub account : HasAccount jobs t.turn (took (jobs_of done) 0)

pub served_none : {P : Type 0} {w : Making P} {jobs : Jobs} {v : View} {t : Taker P} → v.inside ≡ None → IsReady w jobs t → HasServed w jobs v v t
served_none {v = v} outside ready = record {
  own = [];
  done = [];
  does = refl;
  holds = ready.none;
  makes = Makes-none v;
  outside = outside;
  account = ready.turn;
}

module _ {P : Type 0} {w : Making P} {jobs : Jobs} {old now : View} {t : Taker P} (h : HasServed w jobs old now t) where
  pub can_take : CanTake jobs t.turn
  can_take = record {
    taker = record { is_of = h.account.is_of; role = ap (λ (v : Account). v.role) h.account.is };
    goes_on = ap (λ (v : Account). v.ended) h.account.is;
  }

  pub knows_on : KnowsOn old now
  knows_on s known = known_still old now s (Makes-lasts old now h.own h.makes) known

  module _ {next : View} {u : Taker P} where
    -- The taker took its stop, and came to its end.
    pub took_stop : Did now next (w.ends now.caller t.part u.end) → HasAccount jobs u.turn (after_take (account_of t.turn) None) → u.part ≡ t.part
        → Did old next (Takes w jobs old.caller u)
    took_stop d account same = record {
      own = h.own ++ d.own;
      does = to_its_stop h.done
          (record { is_of = account.is_of; is = account.is ∙ ap (λ (v : Account). after_take v None) h.account.is })
          (record {
            served = h.own;
            last = d.own;
            parts = refl;
            does = h.does;
            holds = subst (w.holds h.done) (sym same) h.holds;
            ends = subst (λ c. w.ends c u.part u.end d.own) h.makes.same_caller (subst (λ p. w.ends now.caller p u.end d.own) (sym same) d.does);
          });
      makes = Makes-then old now next h.own d.own h.makes d.makes;
    }

    module _ (number : ℕ) where
      -- It did one more.
      pub served_more : {new : P} (o : Unit {0}) → Did now next (MakesNext w now.caller number t.part new (Ok o)) → next.inside ≡ None
          → HasAccount jobs u.turn (after_take (account_of t.turn) (Some number)) → u.part ≡ new → HasServed w jobs old next u
      served_more o d outside account is =
          let one = d.does.0 in
          let by : DoesShare w.cut.plan w.cut.segment w.cut.each old.caller d.does.0 d.own =
          subst (λ (c : Caller). DoesShare w.cut.plan w.cut.segment w.cut.each c d.does.0 d.own) h.makes.same_caller d.does.2 in
          let taken : jobs_of (h.done ++ d.does.0 ∷ []) ≡ jobs_of h.done ++ number ∷ [] =
          map-append (λ (x : Done). x.job) h.done (one ∷ []) ∙ ap (λ (j : ℕ). jobs_of h.done ++ j ∷ []) d.does.1 in
          record {
            own = h.own ++ d.own;
            done = h.done ++ one ∷ [];
            does = DoesEach-more w.cut.plan w.cut.segment w.cut.each old.caller h.done one h.own d.own h.does by;
            holds = subst (w.holds (h.done ++ one ∷ [])) (sym is) (d.does.3 h.done h.holds);
            makes = Makes-then old now next h.own d.own h.makes d.makes;
            outside = outside;
            account = record {
              is_of = account.is_of;
              is = account.is ∙ ap (λ (v : Account). after_take v (Some number)) h.account.is ∙ ap (λ (js : List ℕ). took js 0) (sym taken);
            };
          }

      -- A share was refused.
      pub took_refused : (new : P) (r : Refusal) → Did now next (MakesNext w now.caller number t.part new (Err r))
          → HasAccount jobs u.turn (after_take (account_of t.turn) (Some number)) → u.end ≡ Err r → Did old next (Takes w jobs old.caller u)
      took_refused new r d account end = record {
        own = h.own ++ d.own;
        does = to_a_refusal h.done number r
            (record { is_of = account.is_of; is = account.is ∙ ap (λ (v : Account). after_take v (Some number)) h.account.is })
            end
            (record {
              served = h.own;
              last = d.own;
              parts = refl;
              does = h.does;
              refuses = subst (λ (c : Caller). w.refuses c number r d.own) h.makes.same_caller d.does;
            });
        makes = Makes-then old now next h.own d.own h.makes d.makes;
      }
