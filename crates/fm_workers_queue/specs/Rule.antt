-- The rule of a queue of jobs: what its turns pushed and took, and what is left.
use Rattle.std.specs.{Prelude.{◌≡◌, ◌+◌, ℕ, List, sum_by, ⊤}, List.{AllByRecursion}}
use Rattle.std.specs.Prelude.{[]}
use mathlib.Core.Option.{some}
use lib.ListN.{get_elem?}
use Rattle.fm_workers_queue.specs.declared.account.{Account.{Account}, Role.{Role, TheVariants.{Owner, User, Spent}}}

-- ---- roles

-- 1 of the owner
abbrev pub owns : Role → ℕ
owns Owner = 1
owns User = 0
owns Spent = 0

-- 1 of a user
abbrev pub uses : Role → ℕ
uses Owner = 0
uses User = 1
uses Spent = 0

module _ {T : Type 0} where
  pub record DidNothing (v : Account T) : Type 0 where
    pub pushed : v.pushed ≡ []
    pub taken : v.taken ≡ []

  -- what the account of a turn of this role may have
  abbrev pub Fits : Role → Account T → Type 0
  Fits Owner v = ⊤
  Fits User v = v.out ≡ 0
  Fits Spent v = (v.out ≡ 0) × DidNothing v

  -- ---- the rule

  -- of each turn
  abbrev pub Each : (Account T → Type 0) → List (Account T) → Type 0
  Each P turns = (place : ℕ) (v : Account T) → get_elem? turns place ≡ some v → P v

  -- What was pushed was taken once or is left: whatever each job weighs, the sums of the weights agree. What is left keeps its promise
  pub record IsFair (Promises : T → Type 0) (items : List T) (turns : List (Account T)) : Type 0 where
    pub owner : sum_by (λ v. owns v.role) turns ≡ 1
    pub users : sum_by (λ v. uses v.role) turns ≡ sum_by (λ v. v.out) turns
    pub roles : Each (λ v. Fits v.role v) turns
    pub jobs : (weight : T → ℕ) → sum_by (λ v. sum_by weight v.pushed) turns ≡ sum_by (λ v. sum_by weight v.taken) turns + sum_by weight items
    pub kept : AllByRecursion Promises items

  -- ---- what the owner learns where no other turn is out

  abbrev pub AddsUp : Account T → List T → Type 0
  AddsUp v items = (weight : T → ℕ) → sum_by weight v.pushed ≡ sum_by weight v.taken + sum_by weight items
