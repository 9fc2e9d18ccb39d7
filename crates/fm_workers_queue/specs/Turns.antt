-- What a call asks of a turn, and what is known of the turn behind it.
use Rattle.std.specs.Prelude.{◌≡◌, ◌+◌, ◌≤◌, ℕ, Option, Some, None, length, sum_by}
use Rattle.crossbeam_queue.specs.Passes.{Pass, IsPassOf, ruled_capacity, view}
use Rattle.fm_workers_queue.specs.declared.{account.{Account.{Account}, Role.TheVariants.{Owner, User}}, queue.Queue.{Queue}}
use Rattle.fm_workers_queue.specs.{Accounts.{after_take}, Rule.{owns, uses}}

module _ {T P : Type 0} where
  -- how many jobs there is room for
  abbrev pub capacity_of : Queue T P → ℕ
  capacity_of q = ruled_capacity q.jobs

  -- it is a turn at this queue
  abbrev pub IsOf : Queue T P → Pass T (Account T) → Type 0
  IsOf q turn = IsPassOf q.jobs turn

module _ {T : Type 0} where
  abbrev pub account_of : Pass T (Account T) → Account T
  account_of turn = view turn

  -- what `try_take` answers: a job, or none
  abbrev pub after_try : Account T → Option T → Account T
  after_try v (Some job) = after_take v job
  after_try v None = v

module _ {T P : Type 0} where
  -- it is a turn at this queue, with this account
  pub record HasAccount (q : Queue T P) (turn : Pass T (Account T)) (account : Account T) : Type 0 where
    pub is_of : IsOf q turn
    pub is : account_of turn ≡ account

  -- it is the owner's turn
  pub record IsOwner (q : Queue T P) (turn : Pass T (Account T)) : Type 0 where
    pub is_of : IsOf q turn
    pub role : (account_of turn).role ≡ Owner

  -- it is another's
  pub record IsUser (q : Queue T P) (turn : Pass T (Account T)) : Type 0 where
    pub is_of : IsOf q turn
    pub role : (account_of turn).role ≡ User

  -- it is the owner's or another's that wasn't absorbed
  pub record IsAtWork (q : Queue T P) (turn : Pass T (Account T)) : Type 0 where
    pub is_of : IsOf q turn
    pub role : owns (account_of turn).role + uses (account_of turn).role ≡ 1

  -- no other turn is out
  pub record CanSettle (q : Queue T P) (turn : Pass T (Account T)) : Type 0 where
    pub owner : IsOwner q turn
    pub home : (account_of turn).out ≡ 0

module _ {T : Type 0} where
  -- Whatever the jobs weigh, those that were taken weigh no more than those that were pushed; and where they are as many, they weigh as much
  pub record IsSettled (v : Account T) : Type 0 where
    pub at_most : (weight : T → ℕ) → sum_by weight v.taken ≤ sum_by weight v.pushed
    pub all : length v.taken ≡ length v.pushed → (weight : T → ℕ) → sum_by weight v.taken ≡ sum_by weight v.pushed
