-- What a call asks of a turn, and what is known of the turn behind it.
use Rattle.std.specs.Prelude.{◌≡◌, ◌+◌, ◌-◌, ◌<◌, ◌≤◌, ◌==◌, ℕ, List, length, sum_by, count_by, ⊤}
use Rattle.crossbeam_queue.specs.Passes.{Pass, IsPassOf, ruled_capacity, view}
use Rattle.fm_workers_jobs.specs.declared.{account.{Account.{Account}, Role.TheVariants.{Giver, Taker}}, item.Item.{Item, TheVariants.{Job, Stop}}}
use Rattle.fm_workers_jobs.specs.declared.jobs.Jobs.{Jobs}

abbrev pub Turn : Type 0
Turn = Pass Item Account

-- how many jobs and stops there is room for
abbrev pub capacity_of : Jobs → ℕ
capacity_of jobs = ruled_capacity jobs.queue

abbrev pub account_of : Turn → Account
account_of turn = view turn

-- it is a turn at these jobs
abbrev pub IsOf : Jobs → Turn → Type 0
IsOf jobs turn = IsPassOf jobs.queue turn

-- it is a turn at these jobs, with this account
pub record HasAccount (jobs : Jobs) (turn : Turn) (account : Account) : Type 0 where
  pub is_of : IsOf jobs turn
  pub is : account_of turn ≡ account

-- it is the giver's turn
pub record IsGiver (jobs : Jobs) (turn : Turn) : Type 0 where
  pub is_of : IsOf jobs turn
  pub role : (account_of turn).role ≡ Giver

-- it is a taker's turn
pub record IsTaker (jobs : Jobs) (turn : Turn) : Type 0 where
  pub is_of : IsOf jobs turn
  pub role : (account_of turn).role ≡ Taker

-- ---- what a call asks

-- jobs come before all stops
abbrev pub MayFollow : Item → Account → Type 0
MayFollow (Job job) v = v.stops ≡ 0
MayFollow Stop v = ⊤

pub record CanPush (jobs : Jobs) (turn : Turn) (item : Item) : Type 0 where
  pub giver : IsGiver jobs turn
  pub follows : MayFollow item (account_of turn)
  pub room : length (account_of turn).pushed + (account_of turn).stops < capacity_of jobs

-- so many stops
pub record CanPushStops (jobs : Jobs) (turn : Turn) (count : ℕ) : Type 0 where
  pub giver : IsGiver jobs turn
  pub room : length (account_of turn).pushed + (account_of turn).stops + count ≤ capacity_of jobs

-- the jobs `from` to `to - 1`, and a stop for each taker
pub record CanPushBatch (jobs : Jobs) (turn : Turn) (from to takers : ℕ) : Type 0 where
  pub giver : IsGiver jobs turn
  pub unstopped : (account_of turn).stops ≡ 0
  pub room : length (account_of turn).pushed + (to - from) + takers ≤ capacity_of jobs

-- the taker hasn't ended
pub record CanTake (jobs : Jobs) (turn : Turn) : Type 0 where
  pub taker : IsTaker jobs turn
  pub goes_on : (account_of turn).ended ≡ 0

-- no other turn is out
pub record CanSettle (jobs : Jobs) (turn : Turn) : Type 0 where
  pub giver : IsGiver jobs turn
  pub home : (account_of turn).out ≡ 0

-- ---- what became of the jobs

-- how often a job stands in a list
abbrev pub times : ℕ → List ℕ → ℕ
times job jobs = count_by (λ x. x == job) jobs

-- No job was taken oftener than it was pushed; where a stop was taken, each as often. Likewise for weights of jobs.
pub record IsSettled (v : Account) : Type 0 where
  pub none_twice : (job : ℕ) → times job v.taken ≤ times job v.pushed
  pub at_most : (weight : ℕ → ℕ) → sum_by weight v.taken ≤ sum_by weight v.pushed
  pub each_once : 0 < v.ended → (job : ℕ) → times job v.taken ≡ times job v.pushed
  pub all : 0 < v.ended → (weight : ℕ → ℕ) → sum_by weight v.taken ≡ sum_by weight v.pushed
