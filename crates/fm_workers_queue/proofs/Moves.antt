-- Each move keeps the rule of the queue.
use Rattle.std.{proofs.Common.{◌≡◌, ◌+◌, ◌<◌, ℕ, List, [], ◌∷◌, ◌++◌, set, sym, refl, ap, ◌∙◌, subst, arith}, specs.Prelude.{sum_by}}
use Rattle.std.specs.List.{AllByRecursion}
use Rattle.std.proofs.lemmas.List.Sums.{sum_by-append, sum_by-cons, sum_by_push}
use mathlib.Core.Option.{some}
use lib.ListN.{get_elem?}
use Rattle.crossbeam_queue.specs.Fifo.{Pushes, Pops, Forks, Merges, Learns}
use Rattle.fm_workers_queue.specs.declared.account.{Account.{Account}, Role.{Role, TheVariants.{Owner, User, Spent}}}
use Rattle.fm_workers_queue.specs.Accounts.{owner, user, spent, after_push, after_take, after_turn, after_absorb}
use Rattle.fm_workers_queue.specs.Rule.{owns, uses, DidNothing, Fits, IsFair, AddsUp}
use Rattle.fm_workers_queue.proofs.{Places.{each_set, each_snoc, each_one, at_other}, Sums.{sum_by-set, own-le-sum_by, sum_by-own, sum_by-both}}

-- ---- roles

-- who isn't the owner has made no turns
not_owner : {T : Type 0} (role : Role) (v : Account T) → owns role ≡ 0 → Fits role v → v.out ≡ 0
not_owner Owner v none fits = absurd (omega arith)
not_owner User v none fits = fits
not_owner Spent v none fits = fits.0

-- and who is no user either did nothing
not_user : {T : Type 0} (role : Role) (v : Account T) → owns role + uses role ≡ 0 → Fits role v → DidNothing v
not_user Owner v none fits = absurd (omega arith)
not_user User v none fits = absurd (omega arith)
not_user Spent v none fits = fits.1

fits_as : {T : Type 0} (role : Role) (v : Account T) → v.role ≡ role → Fits role v → Fits v.role v
fits_as role v e fits = subst (λ r. Fits r v) (sym e) fits

-- who is at work stays as fit while the turns that it made are the same
fits_on : {T : Type 0} (role : Role) (v w : Account T) → owns role + uses role ≡ 1 → w.out ≡ v.out → Fits role v → Fits role w
fits_on Owner v w at out fits = tt
fits_on User v w at out fits = out ∙ fits
fits_on Spent v w at out fits = absurd (omega arith)

-- ---- what is left keeps its promise

all_snoc : {T : Type 0} (P : T → Type 0) (xs : List T) (x : T) → AllByRecursion P xs → P x → AllByRecursion P (xs ++ x ∷ [])
all_snoc P [] x all one = (one, tt)
all_snoc P (y ∷ ys) x all one = (all.0, all_snoc P ys x all.1 one)

module _ {T : Type 0} {Promises : T → Type 0} where
  -- ---- what the owner knows

  adds_up : (items : List T) (turns : List (Account T)) (place : ℕ) (v : Account T) → IsFair Promises items turns → get_elem? turns place ≡ some v
      → v.role ≡ Owner → v.out ≡ 0 → AddsUp v items
  adds_up items turns place v fair at role home weight =
      let outs : sum_by (λ u. u.out) turns ≡ v.out = sum_by-own (λ u. owns u.role) (λ u. u.out) turns place v
      (λ j u e z. not_owner u.role u z (fair.roles j u e)) at (fair.owner ∙ sym (ap owns role)) in
      let g : Account T → ℕ = λ u. owns u.role + uses u.role in
      let both = sum_by-both (λ u. owns u.role) (λ u. uses u.role) turns in
      let one = fair.owner in
      let no_user = fair.users in
      let mine : owns v.role + uses v.role ≡ 1 = ap (λ r. owns r + uses r) role in
      let alone : sum_by g turns ≡ g v = omega arith in
      let pushed : sum_by (λ u. sum_by weight u.pushed) turns ≡ sum_by weight v.pushed = sum_by-own g (λ u. sum_by weight u.pushed) turns place v
      (λ j u e z. ap (sum_by weight) (not_user u.role u z (fair.roles j u e)).pushed) at alone in
      let taken : sum_by (λ u. sum_by weight u.taken) turns ≡ sum_by weight v.taken = sum_by-own g (λ u. sum_by weight u.taken) turns place v
      (λ j u e z. ap (sum_by weight) (not_user u.role u z (fair.roles j u e)).taken) at alone in
      let f = fair.jobs weight in omega arith

  -- Where no other turn is out it knows what became of all jobs.
  pub knows_all : (place : ℕ) (v : Account T) → v.role ≡ Owner → v.out ≡ 0 → Learns (IsFair Promises) place v (AddsUp v)
  knows_all place v role home items turns fair at = adds_up items turns place v fair at role home

  -- ---- moves

  pub begins : IsFair Promises [] (owner ∷ [])
  begins = record {
    owner = refl;
    users = refl;
    roles = each_one (λ v. Fits v.role v) owner tt;
    jobs = λ weight. refl;
    kept = tt;
  }

  -- A turn went on, as whose it was, and with as many turns out: the items make up for what it pushed and took.
  one_changed : (items later : List T) (turns : List (Account T)) (place : ℕ) (v w : Account T) → IsFair Promises items turns
      → get_elem? turns place ≡ some v → w.role ≡ v.role → w.out ≡ v.out → Fits w.role w
      → ((weight : T → ℕ) → sum_by weight w.pushed + sum_by weight v.taken + sum_by weight items
      ≡ sum_by weight v.pushed + sum_by weight w.taken + sum_by weight later)
      → AllByRecursion Promises later → IsFair Promises later (set turns place w)
  one_changed items later turns place v w fair at role out fits jobs kept = record {
    owner =
        let s = sum_by-set (λ u. owns u.role) turns place v w at in
        let same = ap owns role in
        let g = fair.owner in omega arith;
    users =
        let s = sum_by-set (λ u. uses u.role) turns place v w at in
        let t = sum_by-set (λ u. u.out) turns place v w at in
        let same = ap uses role in
        let f = fair.users in omega arith;
    roles = each_set (λ u. Fits u.role u) turns place w fits fair.roles;
    jobs = λ weight.
        let s = sum_by-set (λ u. sum_by weight u.pushed) turns place v w at in
        let t = sum_by-set (λ u. sum_by weight u.taken) turns place v w at in
        let f = fair.jobs weight in
        let change = jobs weight in omega arith;
    kept = kept;
  }

  -- A job is pushed.
  pub pushes : (n place : ℕ) (v : Account T) (job : T) → owns v.role + uses v.role ≡ 1 → Promises job
      → Pushes (IsFair Promises) n place v job (λ w. w ≡ after_push v job)
  pushes n place v job works promise items turns room fair at =
      let w = after_push v job in (
        w,
        one_changed items (items ++ job ∷ []) turns place v w fair at refl refl (fits_on v.role v w works refl (fair.roles place v at))
            (λ weight. omega (arith, sum_by_push weight v.pushed job, sum_by_push weight items job)) (all_snoc Promises items job fair.kept promise),
        refl,
      )

  -- A job is taken.
  pub pops : (place : ℕ) (v : Account T) → owns v.role + uses v.role ≡ 1
      → Pops (IsFair Promises) place v (λ job w. (w ≡ after_take v job) × Promises job)
  pops place v works job items turns fair at =
      let w = after_take v job in (
        w,
        one_changed (job ∷ items) items turns place v w fair at refl refl (fits_on v.role v w works refl (fair.roles place v at))
            (λ weight. omega (arith, sum_by_push weight v.taken job, sum_by-cons weight job items)) fair.kept.1,
        (refl, fair.kept.0),
      )

  -- A user's turn is made of the owner's.
  pub forks : (place : ℕ) (v : Account T) → v.role ≡ Owner → Forks (IsFair Promises) place v (after_turn v) user
  forks place v role items turns fair at =
      let w = after_turn v in
      let vs = set turns place w in
      let new : Account T = user in
      record {
        owner = let s = sum_by-set (λ u. owns u.role) turns place v w at in let g = fair.owner in omega (arith, sum_by_push (λ u. owns u.role) vs new);
        users =
            let s = sum_by-set (λ u. uses u.role) turns place v w at in
            let t = sum_by-set (λ u. u.out) turns place v w at in
            let f = fair.users in
            omega (arith, sum_by_push (λ u. uses u.role) vs new, sum_by_push (λ u. u.out) vs new);
        roles = each_snoc (λ u. Fits u.role u) vs new refl (each_set (λ u. Fits u.role u) turns place w (fits_as Owner w role tt) fair.roles);
        jobs = λ weight.
            let s = sum_by-set (λ u. sum_by weight u.pushed) turns place v w at in
            let t = sum_by-set (λ u. sum_by weight u.taken) turns place v w at in
            let f = fair.jobs weight in
            omega (arith, sum_by_push (λ u. sum_by weight u.pushed) vs new, sum_by_push (λ u. sum_by weight u.taken) vs new);
        kept = fair.kept;
      }

  -- It is absorbed again.
  pub merges : (place : ℕ) (v : Account T) (other : ℕ) (u : Account T) → v.role ≡ Owner → u.role ≡ User
      → Merges (IsFair Promises) place v other u (after_absorb v u) spent
  merges place v other u role role' items turns fair at apart at' =
      let w = after_absorb v u in
      let vs = set turns place w in
      let gone : Account T = spent in
      let before = at_other turns place other w u apart at' in
      let none_out : u.out ≡ 0 = subst (λ r. Fits r u) role' (fair.roles other u before) in
      let uses_u : uses u.role ≡ 1 = ap uses role' in
      let owns_u : owns u.role ≡ 0 = ap owns role' in
      let outs : sum_by (λ y. y.out) turns ≡ v.out = sum_by-own (λ y. owns y.role) (λ y. y.out) turns place v
      (λ j y e z. not_owner y.role y z (fair.roles j y e)) at (fair.owner ∙ sym (ap owns role)) in
      let le = own-le-sum_by (λ y. uses y.role) turns other u before in
      let f = fair.users in
      let some_out : 0 < v.out = omega arith in
      record {
        owner =
            let s = sum_by-set (λ y. owns y.role) turns place v w at in
            let t = sum_by-set (λ y. owns y.role) vs other u gone at' in let g = fair.owner in omega arith;
        users =
            let s = sum_by-set (λ y. uses y.role) turns place v w at in
            let t = sum_by-set (λ y. uses y.role) vs other u gone at' in
            let s' = sum_by-set (λ y. y.out) turns place v w at in
            let t' = sum_by-set (λ y. y.out) vs other u gone at' in omega arith;
        roles = each_set (λ y. Fits y.role y) vs other gone (refl, record { pushed = refl; taken = refl })
            (each_set (λ y. Fits y.role y) turns place w (fits_as Owner w role tt) fair.roles);
        jobs = λ weight.
            let s = sum_by-set (λ y. sum_by weight y.pushed) turns place v w at in
            let t = sum_by-set (λ y. sum_by weight y.pushed) vs other u gone at' in
            let s' = sum_by-set (λ y. sum_by weight y.taken) turns place v w at in
            let t' = sum_by-set (λ y. sum_by weight y.taken) vs other u gone at' in
            let j = fair.jobs weight in
            omega (arith, sum_by-append weight v.taken u.taken, sum_by-append weight v.pushed u.pushed);
        kept = fair.kept;
      }
