-- Once all turns were taken back, all shares were taken.
use Rattle.std.{proofs.Common.{◌≡◌, ℕ, ◌+◌, ◌-◌, ◌<◌, List, [], ◌∷◌, ◌++◌, length, refl, ap, ◌∙◌, arith}, specs.List.{AllZip, range_with_len}}
use Rattle.std.proofs.lemmas.List.{map-append}
use Rattle.fm_workers_jobs.specs.{declared.{account.Account.{Account}, jobs.Jobs.{Jobs}}, Accounts.{after_absorb}}
use Rattle.fm_workers_jobs.specs.Turns.{CanSettle, HasAccount, IsGiver, IsSettled, Turn, account_of, times}
use Rattle.fm_workers_shares.specs.{declared.answers.Done.{Done}, Answered.{all_of}, Batches.{begun}, Placing.{absorbed}, Taking.{jobs_of, took}}
use Rattle.fm_workers_shares.proofs.Once.{times-append}

role_absorbed : (v : Account) (us : List Turn) → (absorbed v us).role ≡ v.role
role_absorbed v [] = refl
role_absorbed v (u ∷ us) = role_absorbed v us

out_absorbed : (v : Account) (us : List Turn) → (absorbed v us).out ≡ v.out - length us
out_absorbed v [] = omega arith
out_absorbed v (u ∷ us) = let rest = out_absorbed v us in omega (arith, rest)

pushed_absorbed : (v : Account) (us : List Turn) → (absorbed v us).pushed ≡ v.pushed
pushed_absorbed v [] = refl
pushed_absorbed v (u ∷ us) = pushed_absorbed v us

-- No turn was taken back yet.
pub absorbed_none : {jobs : Jobs} {turn : Turn} → IsGiver jobs turn → HasAccount jobs turn (absorbed (account_of turn) [])
absorbed_none giver = record { is_of = giver.is_of; is = refl }

-- One more is.
pub absorbed_one : {jobs : Jobs} {home later : Turn} (v : Account) (us : List Turn) (u : Turn) → HasAccount jobs home (absorbed v us)
    → HasAccount jobs later (after_absorb (account_of home) (account_of u)) → HasAccount jobs later (absorbed v (u ∷ us))
absorbed_one v us u h one = record { is_of = one.is_of; is = one.is ∙ ap (λ (a : Account). after_absorb a (account_of u)) h.is }

module _ {jobs : Jobs} {turn home : Turn} (us : List Turn) (giver : IsGiver jobs turn) (account : HasAccount jobs home (absorbed (account_of turn) us)) where
  -- Who takes turns back stays the giver.
  pub still_giver : IsGiver jobs home
  still_giver = record {
    is_of = account.is_of;
    role = ap (λ (v : Account). v.role) account.is ∙ role_absorbed (account_of turn) us ∙ giver.role;
  }

  -- Where no other is out, it can be settled what became of the shares.
  pub settles : (account_of turn).out ≡ length us → CanSettle jobs home
  settles many = record {
    giver = still_giver;
    home = (
        let out = ap (λ (v : Account). v.out) account.is in
        let rest = out_absorbed (account_of turn) us in
        omega (arith, out, rest, many)
        );
  }

-- the turn took these shares, and its stop
abbrev pub TookShares : Jobs → Turn → List Done → Type 0
TookShares jobs u ds = HasAccount jobs u (took (jobs_of ds) 1)

module _ (jobs : Jobs) (v : Account) where
  ended_absorbed : (us : List Turn) (taken : List (List Done)) → AllZip (TookShares jobs) us taken → (absorbed v us).ended ≡ v.ended + length us
  ended_absorbed [] [] h = omega arith
  ended_absorbed (u ∷ us) (ds ∷ taken) h =
      let rest = ended_absorbed us taken h.1 in
      let one : (account_of u).ended ≡ 1 = ap (λ (a : Account). a.ended) h.0.is in
      omega (arith, rest, one)
  ended_absorbed us taken h = absurd h

  times_absorbed : (us : List Turn) (taken : List (List Done)) (k : ℕ) → AllZip (TookShares jobs) us taken
      → times k (absorbed v us).taken ≡ times k v.taken + times k (jobs_of (all_of taken))
  times_absorbed [] [] k h = omega arith
  times_absorbed (u ∷ us) (ds ∷ taken) k h =
      let rest = times_absorbed us taken k h.1 in
      let both = times-append k (absorbed v us).taken (account_of u).taken in
      let mine : times k (account_of u).taken ≡ times k (jobs_of ds) = ap (λ (a : Account). times k a.taken) h.0.is in
      let all : times k (jobs_of (ds ++ all_of taken)) ≡ times k (jobs_of ds ++ jobs_of (all_of taken)) =
      ap (times k) (map-append (λ (d : Done). d.job) ds (all_of taken)) in
      let parts = times-append k (jobs_of ds) (jobs_of (all_of taken)) in
      omega (arith, rest, both, mine, all, parts)
  times_absorbed us taken k h = absurd h

-- Each share was taken once, and nothing else.
pub each_once : (jobs : Jobs) (n : ℕ) (v : Account) (us : List Turn) (taken : List (List Done)) → v ≡ begun n (length us) → IsSettled (absorbed v us)
    → 0 < length us → AllZip (TookShares jobs) us taken → (k : ℕ) → times k (jobs_of (all_of taken)) ≡ times k (range_with_len 0 n)
each_once jobs n v us taken is settled some h k =
    let count = ended_absorbed jobs v us taken h in
    let whole : n - 0 ≡ n = omega arith in
    let pushed : times k (absorbed v us).pushed ≡ times k (range_with_len 0 n) =
    ap (times k) (pushed_absorbed v us) ∙ ap (λ (a : Account). times k a.pushed) is ∙ ap (λ (m : ℕ). times k (range_with_len 0 m)) whole in
    let none : times k v.taken ≡ 0 = ap (λ (a : Account). times k a.taken) is in
    let all = times_absorbed jobs v us taken k h in
    let once = settled.each_once (omega (arith, count, some)) k in
    omega (arith, once, pushed, none, all)
