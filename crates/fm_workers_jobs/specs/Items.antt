-- What stands in the queue: jobs, and stops behind them.
use Rattle.std.specs.Prelude.{◌≡◌, ◌+◌, ℕ, List, [], ◌∷◌, ⊤}
use Rattle.fm_workers_jobs.specs.declared.item.Item.{Item, TheVariants.{Job, Stop}}

abbrev pub jobs_in : List Item → List ℕ
jobs_in [] = []
jobs_in (Job job ∷ items) = job ∷ jobs_in items
jobs_in (Stop ∷ items) = jobs_in items

abbrev pub stops_in : List Item → ℕ
stops_in [] = 0
stops_in (Job job ∷ items) = stops_in items
stops_in (Stop ∷ items) = 1 + stops_in items

-- no job stands behind a stop
abbrev pub AreLined : List Item → Type 0
AreLined [] = ⊤
AreLined (Job job ∷ items) = AreLined items
AreLined (Stop ∷ items) = jobs_in items ≡ []
