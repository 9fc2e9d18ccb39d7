-- What takers leave: their ends, their turns and their parts, and answers put at their shares' places.
use Rattle.std.specs.Prelude.{◌≡◌, List, [], ◌∷◌, map, set, Option, Some, Result, Ok, Err}
use Rattle.fm_base.specs.declared.refusal.Refusal.{Refusal}
use Rattle.fm_workers_jobs.specs.{declared.account.Account.{Account}, Accounts.{after_absorb}, Turns.{Turn, account_of}}
use Rattle.fm_records.specs.declared.found.Found.{Found}
use Rattle.fm_workers_shares.specs.declared.{answers.Done.{Done}, taker.Taker.{Taker}}

-- the refusal of the first that was refused
abbrev pub or_later : Result (Unit {0}) Refusal → Result (Unit {0}) Refusal → Result (Unit {0}) Refusal
or_later (Ok u) later = later
or_later (Err r) later = Err r

module _ {P : Type 0} where
  abbrev pub end_of : List (Taker P) → Result (Unit {0}) Refusal
  end_of [] = Ok tt
  end_of (t ∷ ts) = or_later t.end (end_of ts)

  abbrev pub turns_of : List (Taker P) → List Turn
  turns_of ts = map (λ t. t.turn) ts

  abbrev pub parts_of : List (Taker P) → List P
  parts_of ts = map (λ t. t.part) ts

-- the account that took all these turns back, the last one first
abbrev pub absorbed : Account → List Turn → Account
absorbed v [] = v
absorbed v (u ∷ us) = after_absorb (absorbed v us) (account_of u)

-- the parts were joined, the last one first, each with what those behind it came to
abbrev pub AreJoined : {P W : Type 0} → (W → P → W → Type 0) → (start : W) → List P → W → Type 0
AreJoined joins start [] whole = whole ≡ start
AreJoined {W = W} joins start (p ∷ ps) whole = (behind : W) × AreJoined joins start ps behind × joins behind p whole

-- ---- answers at their shares' places

abbrev pub Slot : Type 0
Slot = Option (List Found)

-- each answer at its share's place, the last one first
abbrev pub placed : List Slot → List Done → List Slot
placed slots [] = slots
placed slots (d ∷ ds) = set (placed slots ds) d.job (Some d.answer)
