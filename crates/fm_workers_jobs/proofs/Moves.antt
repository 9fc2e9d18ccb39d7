-- Each move keeps the rule of the queue.
use Rattle.std.{proofs.Common.{◌≡◌, ◌+◌, ◌<◌, ℕ, zero, suc, List, [], ◌∷◌, ◌++◌, length, set, sym, refl, ap, ◌∙◌, subst, arith}, specs.Prelude.{sum_by}}
use Rattle.std.proofs.lemmas.List.Sums.{sum_by-append, sum_by-cons, sum_by_push}
use mathlib.Core.Option.{some}
use lib.ListN.{get_elem?}
use Rattle.crossbeam_queue.specs.Fifo.{Pushes, Pops, Forks, Merges, Learns}
use Rattle.fm_workers_jobs.specs.declared.{account.{Account.{Account}, Role.{Role, TheVariants.{Giver, Taker, Spent}}}, item.Item.{Item}}
use Rattle.fm_workers_jobs.specs.{declared.item.Item.TheVariants.{Job, Stop}, Accounts.{giver, taker, spent, after_push, after_pop, after_turn, after_absorb}}
use Rattle.fm_workers_jobs.specs.Items.{jobs_in, stops_in, AreLined}
use Rattle.fm_workers_jobs.specs.{Rule.{gives, takes, PushedNothing, TookNothing, Fits, Each, Knows, IsFair, AtMostPushed, AddsUp}, Turns.{MayFollow}}
use Rattle.fm_workers_jobs.proofs.Items.{jobs_in-job, jobs_in-stop, stops_in-job, stops_in-stop, lined_job, lined_stop, length-items, length-jobs}
use Rattle.fm_workers_jobs.proofs.{Places.{each_set, each_snoc, each_one, at_other}, Sums.{sum_by-set, own-le-sum_by, sum_by-own, sum_by-both}}

-- ---- roles

-- who isn't the giver pushed nothing
not_giver : (role : Role) (v : Account) → gives role ≡ 0 → Fits role v → PushedNothing v
not_giver Giver v none fits = absurd (omega arith)
not_giver Taker v none fits = fits
not_giver Spent v none fits = fits.0

-- and who is no taker either took nothing
not_taker : (role : Role) (v : Account) → gives role + takes role ≡ 0 → Fits role v → TookNothing v
not_taker Giver v none fits = absurd (omega arith)
not_taker Taker v none fits = absurd (omega arith)
not_taker Spent v none fits = fits.1

fits_as : (role : Role) (v : Account) → v.role ≡ role → Fits role v → Fits v.role v
fits_as role v e fits = subst (λ r. Fits r v) (sym e) fits

-- ---- what the giver knows

module _ (items : List Item) (turns : List Account) (place : ℕ) (v : Account) (fair : IsFair items turns) (at : get_elem? turns place ≡ some v)
    (role : v.role ≡ Giver) where
  -- what pushes alone come to is its own
  pushed_own : (f : Account → ℕ) → ((u : Account) → PushedNothing u → f u ≡ 0) → sum_by f turns ≡ f v
  pushed_own f none = sum_by-own (λ u. gives u.role) f turns place v
      (λ j u e z. none u (not_giver u.role u z (fair.roles j u e))) at (fair.giver ∙ sym (ap gives role))

  pushed_jobs : (weight : ℕ → ℕ) → sum_by (λ u. sum_by weight u.pushed) turns ≡ sum_by weight v.pushed
  pushed_jobs weight = pushed_own (λ u. sum_by weight u.pushed) (λ u none. ap (sum_by weight) none.pushed)

  pushed_stops : sum_by (λ u. u.stops) turns ≡ v.stops
  pushed_stops = pushed_own (λ u. u.stops) (λ u none. none.stops)

  turns_out : sum_by (λ u. u.out) turns ≡ v.out
  turns_out = pushed_own (λ u. u.out) (λ u none. none.out)

  at_most_pushed : AtMostPushed v items
  at_most_pushed =
      let jobs = fair.jobs (λ x. 1) in
      let own = pushed_jobs (λ x. 1) in
      let all_stops = pushed_stops in
      let stops = fair.stops in
      let left = length-jobs (jobs_in items) in
      let were = length-jobs v.pushed in
      omega (arith, length-items items)

  -- where no other turn is out, what was taken is its own too
  taken_own : v.out ≡ 0 → (f : Account → ℕ) → ((u : Account) → TookNothing u → f u ≡ 0) → sum_by f turns ≡ f v
  taken_own home f none =
      let g : Account → ℕ = λ u. gives u.role + takes u.role in
      let both = sum_by-both (λ u. gives u.role) (λ u. takes u.role) turns in
      let one = fair.giver in
      let no_taker = fair.takers in
      let out = turns_out in
      let mine : gives v.role + takes v.role ≡ 1 = ap (λ r. gives r + takes r) role in
      sum_by-own g f turns place v (λ j u e z. none u (not_taker u.role u z (fair.roles j u e))) at (omega arith)

  adds_up : v.out ≡ 0 → AddsUp v items
  adds_up home = record {
    jobs = λ weight. sym (pushed_jobs weight) ∙ fair.jobs weight
        ∙ ap (λ n. n + sum_by weight (jobs_in items)) (taken_own home (λ u. sum_by weight u.taken) (λ u none. ap (sum_by weight) none.taken));
    stops = sym pushed_stops ∙ fair.stops ∙ ap (λ n. n + stops_in items) (taken_own home (λ u. u.ended) (λ u none. none.ended));
    done = fair.done place v at;
  }

-- The giver knows at most how many items there are.
pub knows_most : (place : ℕ) (v : Account) → v.role ≡ Giver → Learns IsFair place v (AtMostPushed v)
knows_most place v role items turns fair at = at_most_pushed items turns place v fair at role

-- Where no other turn is out it knows what became of all jobs.
pub knows_all : (place : ℕ) (v : Account) → v.role ≡ Giver → v.out ≡ 0 → Learns IsFair place v (AddsUp v)
knows_all place v role home items turns fair at = adds_up items turns place v fair at role home

-- ---- moves

pub begins : IsFair [] (giver ∷ [])
begins = record {
  giver = refl;
  takers = refl;
  roles = each_one (λ v. Fits v.role v) giver tt;
  jobs = λ weight. refl;
  stops = refl;
  lined = tt;
  done = each_one (Knows []) giver (λ some_stop. refl);
}

-- A turn went on, as whose it was, and with as many turns out: the items make up for what it pushed and took.
one_changed : (items later : List Item) (turns : List Account) (place : ℕ) (v w : Account) → IsFair items turns → get_elem? turns place ≡ some v
    → w.role ≡ v.role → w.out ≡ v.out → Fits w.role w
    → ((weight : ℕ → ℕ) → sum_by weight w.pushed + sum_by weight v.taken + sum_by weight (jobs_in items)
    ≡ sum_by weight v.pushed + sum_by weight w.taken + sum_by weight (jobs_in later))
    → w.stops + v.ended + stops_in items ≡ v.stops + w.ended + stops_in later → AreLined later → Knows later w → Each (Knows later) turns
    → IsFair later (set turns place w)
one_changed items later turns place v w fair at role out fits jobs stops lined mine others = record {
  giver =
      let s = sum_by-set (λ u. gives u.role) turns place v w at in
      let same = ap gives role in
      let g = fair.giver in omega arith;
  takers =
      let s = sum_by-set (λ u. takes u.role) turns place v w at in
      let t = sum_by-set (λ u. u.out) turns place v w at in
      let same = ap takes role in
      let f = fair.takers in omega arith;
  roles = each_set (λ u. Fits u.role u) turns place w fits fair.roles;
  jobs = λ weight.
      let s = sum_by-set (λ u. sum_by weight u.pushed) turns place v w at in
      let t = sum_by-set (λ u. sum_by weight u.taken) turns place v w at in
      let f = fair.jobs weight in
      let change = jobs weight in omega arith;
  stops =
      let s = sum_by-set (λ u. u.stops) turns place v w at in
      let t = sum_by-set (λ u. u.ended) turns place v w at in
      let f = fair.stops in omega arith;
  lined = lined;
  done = each_set (Knows later) turns place w mine others;
}

-- The giver pushes a job, where it pushed no stop.
pub pushes_job : (n place : ℕ) (v : Account) (job : ℕ) → v.role ≡ Giver → v.stops ≡ 0
    → Pushes IsFair n place v (Job job) (λ w. w ≡ after_push v (Job job))
pushes_job n place v job role unstopped items turns room fair at =
    let w = after_push v (Job job) in
    let all_stops = pushed_stops items turns place v fair at role in
    let stops = fair.stops in
    let none_left : stops_in items ≡ 0 = omega arith in
    let none_ended : (u : Account) (j : ℕ) → get_elem? turns j ≡ some u → u.ended ≡ 0 = λ u j e.
    let le = own-le-sum_by (λ y. y.ended) turns j u e in omega arith in (
      w,
      one_changed items (items ++ Job job ∷ []) turns place v w fair at refl refl (fits_as Giver w role tt)
          (λ weight. let more = ap (sum_by weight) (jobs_in-job items job) in
          omega (arith, sum_by_push weight v.pushed job, sum_by_push weight (jobs_in items) job))
          (omega (arith, stops_in-job items job)) (lined_job items job none_left)
          (λ ended. let z = none_ended v place at in absurd (omega arith)) (λ j u e ended. let z = none_ended u j e in absurd (omega arith)),
      refl,
    )

-- It pushes a stop.
pub pushes_stop : (n place : ℕ) (v : Account) → v.role ≡ Giver → Pushes IsFair n place v Stop (λ w. w ≡ after_push v Stop)
pushes_stop n place v role items turns room fair at =
    let w = after_push v Stop in (
      w,
      one_changed items (items ++ Stop ∷ []) turns place v w fair at refl refl (fits_as Giver w role tt)
          (λ weight. let same = ap (sum_by weight) (jobs_in-stop items) in omega arith) (omega (arith, stops_in-stop items))
          (lined_stop items fair.lined) (λ ended. jobs_in-stop items ∙ fair.done place v at ended)
          (λ j u e ended. jobs_in-stop items ∙ fair.done j u e ended),
      refl,
    )

-- Either, as it may follow.
pub pushes : (n place : ℕ) (v : Account) (item : Item) → v.role ≡ Giver → MayFollow item v
    → Pushes IsFair n place v item (λ w. w ≡ after_push v item)
pushes n place v (Job job) role follows = pushes_job n place v job role follows
pushes n place v Stop role follows = pushes_stop n place v role

-- What a taker takes leaves it as fit.
fits_popped : (v : Account) (item : Item) → v.role ≡ Taker → Fits v.role v → Fits v.role (after_pop v item)
fits_popped v (Job job) role fits =
    let none = subst (λ r. Fits r v) role fits in
    subst (λ r. Fits r (after_pop v (Job job))) (sym role) (record { out = none.out; pushed = none.pushed; stops = none.stops })
fits_popped v Stop role fits =
    let none = subst (λ r. Fits r v) role fits in
    subst (λ r. Fits r (after_pop v Stop)) (sym role) (record { out = none.out; pushed = none.pushed; stops = none.stops })

-- A taker takes a job.
takes_job : (place : ℕ) (v : Account) (job : ℕ) (items : List Item) (turns : List Account) → v.role ≡ Taker → IsFair (Job job ∷ items) turns
    → get_elem? turns place ≡ some v → IsFair items (set turns place (after_pop v (Job job)))
takes_job place v job items turns role fair at =
    one_changed (Job job ∷ items) items turns place v (after_pop v (Job job)) fair at refl refl
    (fits_popped v (Job job) role (fair.roles place v at))
    (λ weight. omega (arith, sum_by_push weight v.taken job, sum_by-cons weight job (jobs_in items))) (omega arith) fair.lined
    (λ ended. let no = ap length (fair.done place v at ended) in absurd (omega arith))
    (λ j u e ended. let no = ap length (fair.done j u e ended) in absurd (omega arith))

-- A taker takes a stop: no job is behind it.
takes_stop : (place : ℕ) (v : Account) (items : List Item) (turns : List Account) → v.role ≡ Taker → IsFair (Stop ∷ items) turns
    → get_elem? turns place ≡ some v → IsFair items (set turns place (after_pop v Stop))
takes_stop place v items turns role fair at =
    one_changed (Stop ∷ items) items turns place v (after_pop v Stop) fair at refl refl (fits_popped v Stop role (fair.roles place v at))
    (λ weight. omega arith) (omega arith) (all_stops items fair.lined) (λ ended. fair.lined) (λ j u e ended. fair.lined)
  where
    all_stops : (xs : List Item) → jobs_in xs ≡ [] → AreLined xs
    all_stops [] none = tt
    all_stops (Job x ∷ xs) none = let no = ap length none in absurd (omega arith)
    all_stops (Stop ∷ xs) none = none

pub pops : (place : ℕ) (v : Account) → v.role ≡ Taker → Pops IsFair place v (λ item w. w ≡ after_pop v item)
pops place v role (Job job) items turns fair at = (after_pop v (Job job), takes_job place v job items turns role fair at, refl)
pops place v role Stop items turns fair at = (after_pop v Stop, takes_stop place v items turns role fair at, refl)

-- A taker's turn is made of the giver's.
pub forks : (place : ℕ) (v : Account) → v.role ≡ Giver → Forks IsFair place v (after_turn v) taker
forks place v role items turns fair at =
    let w = after_turn v in
    let vs = set turns place w in
    record {
      giver = let s = sum_by-set (λ u. gives u.role) turns place v w at in let g = fair.giver in omega (arith, sum_by_push (λ u. gives u.role) vs taker);
      takers =
          let s = sum_by-set (λ u. takes u.role) turns place v w at in
          let t = sum_by-set (λ u. u.out) turns place v w at in
          let f = fair.takers in
          omega (arith, sum_by_push (λ u. takes u.role) vs taker, sum_by_push (λ u. u.out) vs taker);
      roles = each_snoc (λ u. Fits u.role u) vs taker (record { out = refl; pushed = refl; stops = refl })
          (each_set (λ u. Fits u.role u) turns place w (fits_as Giver w role tt) fair.roles);
      jobs = λ weight.
          let s = sum_by-set (λ u. sum_by weight u.pushed) turns place v w at in
          let t = sum_by-set (λ u. sum_by weight u.taken) turns place v w at in
          let f = fair.jobs weight in
          omega (arith, sum_by_push (λ u. sum_by weight u.pushed) vs taker, sum_by_push (λ u. sum_by weight u.taken) vs taker);
      stops =
          let s = sum_by-set (λ u. u.stops) turns place v w at in
          let t = sum_by-set (λ u. u.ended) turns place v w at in
          let f = fair.stops in
          omega (arith, sum_by_push (λ u. u.stops) vs taker, sum_by_push (λ u. u.ended) vs taker);
      lined = fair.lined;
      done = each_snoc (Knows items) vs taker (λ ended. absurd (omega arith)) (each_set (Knows items) turns place w (fair.done place v at) fair.done);
    }

-- It is absorbed again.
pub merges : (place : ℕ) (v : Account) (other : ℕ) (u : Account) → v.role ≡ Giver → u.role ≡ Taker
    → Merges IsFair place v other u (after_absorb v u) spent
merges place v other u role role' items turns fair at apart at' =
    let w = after_absorb v u in
    let vs = set turns place w in
    let before = at_other turns place other w u apart at' in
    let nothing : PushedNothing u = subst (λ r. Fits r u) role' (fair.roles other u before) in
    let takes_u : takes u.role ≡ 1 = ap takes role' in
    let gives_u : gives u.role ≡ 0 = ap gives role' in
    let out = turns_out items turns place v fair at role in
    let le = own-le-sum_by (λ y. takes y.role) turns other u before in
    let f = fair.takers in
    let some_out : 0 < v.out = omega arith in
    record {
      giver =
          let s = sum_by-set (λ y. gives y.role) turns place v w at in
          let t = sum_by-set (λ y. gives y.role) vs other u spent at' in let g = fair.giver in omega arith;
      takers =
          let s = sum_by-set (λ y. takes y.role) turns place v w at in
          let t = sum_by-set (λ y. takes y.role) vs other u spent at' in
          let s' = sum_by-set (λ y. y.out) turns place v w at in
          let t' = sum_by-set (λ y. y.out) vs other u spent at' in
          let z = nothing.out in omega arith;
      roles = each_set (λ y. Fits y.role y) vs other spent
          ((record { out = refl; pushed = refl; stops = refl }), record { taken = refl; ended = refl })
          (each_set (λ y. Fits y.role y) turns place w (fits_as Giver w role tt) fair.roles);
      jobs = λ weight.
          let s = sum_by-set (λ y. sum_by weight y.pushed) turns place v w at in
          let t = sum_by-set (λ y. sum_by weight y.pushed) vs other u spent at' in
          let s' = sum_by-set (λ y. sum_by weight y.taken) turns place v w at in
          let t' = sum_by-set (λ y. sum_by weight y.taken) vs other u spent at' in
          let z = ap (sum_by weight) nothing.pushed in
          let j = fair.jobs weight in
          omega (arith, sum_by-append weight v.taken u.taken);
      stops =
          let s = sum_by-set (λ y. y.stops) turns place v w at in
          let t = sum_by-set (λ y. y.stops) vs other u spent at' in
          let s' = sum_by-set (λ y. y.ended) turns place v w at in
          let t' = sum_by-set (λ y. y.ended) vs other u spent at' in
          let z = nothing.stops in
          let j = fair.stops in omega arith;
      lined = fair.lined;
      done = each_set (Knows items) vs other spent (λ ended. absurd (omega arith))
          (each_set (Knows items) turns place w (either v.ended u.ended (fair.done place v at) (fair.done other u before)) fair.done);
    }
  where
    either : (m n : ℕ) {A : Type 0} → (0 < m → A) → (0 < n → A) → 0 < m + n → A
    either zero n f g some_ended = g (omega arith)
    either (suc m) n f g some_ended = f (omega arith)
