-- A batch before its shares are taken.
use Rattle.std.specs.{Prelude.{◌≡◌, ℕ, zero, suc, ◌+◌, List, [], ◌∷◌, None, length, map}, List.{AllByRecursion, range_with_len}}
use Rattle.fm_workers_jobs.specs.{declared.account.Account.{Account}, Accounts.{after_batch, giver}, Turns.{HasAccount}}
use Rattle.fm_workers_shares.specs.{declared.batch.Batch.{Batch}, Placing.{Slot}, Shares.{shares_in}, Taking.{IsReady, Making}}

-- so many turns more are out
abbrev pub after_turns : Account → ℕ → Account
after_turns v count = record v { out = v.out + count }

-- so many places with no answer
abbrev pub nones : ℕ → List Slot
nones zero = []
nones (suc n) = None ∷ nones n

-- the giver pushed so many shares, and a stop for each taker, and made the takers' turns
abbrev pub begun : (shares takers : ℕ) → Account
begun shares takers = after_turns (after_batch giver 0 shares takers) takers

pub record IsBegun {P : Type 0} (w : Making P) (threads : ℕ) (b : Batch P) : Type 0 where
  pub giver : HasAccount b.jobs b.giver (begun (shares_in w.cut) threads)
  pub takers : AllByRecursion (IsReady w b.jobs) b.takers.items
  pub count : length b.takers.items ≡ threads
  pub numbers : map (λ t. t.number) b.takers.items ≡ range_with_len 1 threads
