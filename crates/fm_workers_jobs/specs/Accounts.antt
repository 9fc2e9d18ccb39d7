-- What a turn pushed and took, and how its account goes on.
use Rattle.std.specs.{Prelude.{◌+◌, ◌-◌, ℕ, Option, Some, None, [], ◌∷◌, ◌++◌}, List.{range_with_len}}
use Rattle.fm_workers_jobs.specs.declared.{account.{Account.{Account}, Role.{Role, TheVariants.{Giver, Taker, Spent}}}, item.Item.{Item}}
use Rattle.fm_workers_jobs.specs.declared.item.Item.TheVariants.{Job, Stop}

-- nothing pushed, nothing taken
abbrev pub empty_account : Role → Account
empty_account role = record { role = role; out = 0; pushed = []; stops = 0; taken = []; ended = 0 }

-- the turn that comes with the queue
abbrev pub giver : Account
giver = empty_account Giver

abbrev pub taker : Account
taker = empty_account Taker

-- a taker's turn once it was absorbed
abbrev pub spent : Account
spent = empty_account Spent

abbrev pub after_push : Account → Item → Account
after_push v (Job job) = record v { pushed = v.pushed ++ job ∷ [] }
after_push v Stop = record v { stops = v.stops + 1 }

abbrev pub after_pop : Account → Item → Account
after_pop v (Job job) = record v { taken = v.taken ++ job ∷ [] }
after_pop v Stop = record v { ended = v.ended + 1 }

-- what `take` answers: a job, or none at a stop
abbrev pub after_take : Account → Option ℕ → Account
after_take v (Some job) = after_pop v (Job job)
after_take v None = after_pop v Stop

-- one turn more is out
abbrev pub after_turn : Account → Account
after_turn v = record v { out = v.out + 1 }

abbrev pub after_absorb : Account → Account → Account
after_absorb v other =
    record v { out = v.out - 1; taken = v.taken ++ other.taken; ended = v.ended + other.ended }

-- ---- several at once

-- the jobs `from` to `to - 1` were pushed
abbrev pub after_jobs : Account → ℕ → ℕ → Account
after_jobs v from to = record v { pushed = v.pushed ++ range_with_len from (to - from) }

abbrev pub after_stops : Account → ℕ → Account
after_stops v count = record v { stops = v.stops + count }

abbrev pub after_batch : Account → ℕ → ℕ → ℕ → Account
after_batch v from to takers = after_stops (after_jobs v from to) takers
