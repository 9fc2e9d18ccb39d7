-- What comes of a batch.
use Rattle.std.specs.{Prelude.{◌≡◌, List, length, Result, Ok, Err}, List.{AllByRecursion}}
use Rattle.fm_base.specs.declared.refusal.Refusal.{Refusal}
use Rattle.fm_workers_jobs.specs.{declared.{account.Account.{Account}, jobs.Jobs.{Jobs}}, Turns.{IsGiver, IsSettled, IsTaker, Turn, account_of}}
use Rattle.fm_workers_shares.specs.{declared.taker.Taker.{Taker}, Placing.{AreJoined, absorbed, end_of, parts_of, turns_of}}

module _ {P : Type 0} where
  -- the giver's turn can take all of theirs back, and no other is out
  pub record CanFinish (jobs : Jobs) (turn : Turn) (ts : List (Taker P)) : Type 0 where
    pub giver : IsGiver jobs turn
    pub out : (account_of turn).out ≡ length ts
    pub takers : AllByRecursion (λ t. IsTaker jobs t.turn) ts

  -- none was refused, and it is known what became of the shares
  pub record HaveEnded (v : Account) (ts : List (Taker P)) : Type 0 where
    pub end : end_of ts ≡ Ok tt
    pub settled : IsSettled (absorbed v (turns_of ts))

  -- then all parts were joined; or the first taker that was refused is refused so
  abbrev pub Finishes : {W : Type 0} → (W → P → W → Type 0) → Account → List (Taker P) → (start whole : W) → Result (Unit {0}) Refusal → Type 0
  Finishes joins v ts start whole (Ok u) = HaveEnded v ts × AreJoined joins start (parts_of ts) whole
  Finishes joins v ts start whole (Err r) = (end_of ts ≡ Err r) × (whole ≡ start)
