-- The rule of a queue of jobs: what its turns pushed and took, and what is left.
use Rattle.std.specs.Prelude.{◌≡◌, ◌+◌, ◌<◌, ◌≤◌, ℕ, List, [], length, sum_by, ⊤}
use mathlib.Core.Option.{some}
use lib.ListN.{get_elem?}
use Rattle.fm_workers_jobs.specs.declared.{account.{Account.{Account}, Role.{Role, TheVariants.{Giver, Taker, Spent}}}, item.Item.{Item}}
use Rattle.fm_workers_jobs.specs.Items.{jobs_in, stops_in, AreLined}

-- ---- roles

-- 1 of the giver
abbrev pub gives : Role → ℕ
gives Giver = 1
gives Taker = 0
gives Spent = 0

-- 1 of a taker
abbrev pub takes : Role → ℕ
takes Giver = 0
takes Taker = 1
takes Spent = 0

pub record PushedNothing (v : Account) : Type 0 where
  pub out : v.out ≡ 0
  pub pushed : v.pushed ≡ []
  pub stops : v.stops ≡ 0

pub record TookNothing (v : Account) : Type 0 where
  pub taken : v.taken ≡ []
  pub ended : v.ended ≡ 0

-- what the account of a turn of this role may have
abbrev pub Fits : Role → Account → Type 0
Fits Giver v = ⊤
Fits Taker v = PushedNothing v
Fits Spent v = PushedNothing v × TookNothing v

-- ---- the rule

-- of each turn
abbrev pub Each : (Account → Type 0) → List Account → Type 0
Each P turns = (place : ℕ) (v : Account) → get_elem? turns place ≡ some v → P v

-- who has taken a stop knows that no job is left
abbrev pub Knows : List Item → Account → Type 0
Knows items v = 0 < v.ended → jobs_in items ≡ []

-- What was pushed was taken once or is left. Whatever each job weighs, the sums of the weights agree.
pub record IsFair (items : List Item) (turns : List Account) : Type 0 where
  pub giver : sum_by (λ v. gives v.role) turns ≡ 1
  pub takers : sum_by (λ v. takes v.role) turns ≡ sum_by (λ v. v.out) turns
  pub roles : Each (λ v. Fits v.role v) turns
  pub jobs : (weight : ℕ → ℕ) → sum_by (λ v. sum_by weight v.pushed) turns
      ≡ sum_by (λ v. sum_by weight v.taken) turns + sum_by weight (jobs_in items)
  pub stops : sum_by (λ v. v.stops) turns ≡ sum_by (λ v. v.ended) turns + stops_in items
  pub lined : AreLined items
  pub done : Each (Knows items) turns

-- ---- what a turn learns

-- there are no more items than the giver pushed
abbrev pub AtMostPushed : Account → List Item → Type 0
AtMostPushed v items = length items ≤ length v.pushed + v.stops

-- what the giver knows where no other turn is out
pub record AddsUp (v : Account) (items : List Item) : Type 0 where
  pub jobs : (weight : ℕ → ℕ) → sum_by weight v.pushed ≡ sum_by weight v.taken + sum_by weight (jobs_in items)
  pub stops : v.stops ≡ v.ended + stops_in items
  pub done : Knows items v
