-- Items at the end of the queue, and how many there are.
use Rattle.std.{proofs.{Common.{◌≡◌, ◌+◌, ℕ, List, [], ◌∷◌, ◌++◌, length, refl, ap, ◌∙◌, arith}, lemmas.List.Sums.{sum_by-cons}}, specs.Prelude.{sum_by}}
use Rattle.fm_workers_jobs.specs.{declared.item.Item.{Item, TheVariants.{Job, Stop}}, Items.{jobs_in, stops_in, AreLined}}

pub jobs_in-job : (items : List Item) (job : ℕ) → jobs_in (items ++ Job job ∷ []) ≡ jobs_in items ++ job ∷ []
jobs_in-job [] job = refl
jobs_in-job (Job x ∷ items) job = ap (λ xs. x ∷ xs) (jobs_in-job items job)
jobs_in-job (Stop ∷ items) job = jobs_in-job items job

pub jobs_in-stop : (items : List Item) → jobs_in (items ++ Stop ∷ []) ≡ jobs_in items
jobs_in-stop [] = refl
jobs_in-stop (Job x ∷ items) = ap (λ xs. x ∷ xs) (jobs_in-stop items)
jobs_in-stop (Stop ∷ items) = jobs_in-stop items

pub stops_in-job : (items : List Item) (job : ℕ) → stops_in (items ++ Job job ∷ []) ≡ stops_in items
stops_in-job [] job = refl
stops_in-job (Job x ∷ items) job = stops_in-job items job
stops_in-job (Stop ∷ items) job = let rest = stops_in-job items job in omega arith

pub stops_in-stop : (items : List Item) → stops_in (items ++ Stop ∷ []) ≡ stops_in items + 1
stops_in-stop [] = refl
stops_in-stop (Job x ∷ items) = stops_in-stop items
stops_in-stop (Stop ∷ items) = let rest = stops_in-stop items in omega arith

-- A job may come where there is no stop.
pub lined_job : (items : List Item) (job : ℕ) → stops_in items ≡ 0 → AreLined (items ++ Job job ∷ [])
lined_job [] job none = tt
lined_job (Job x ∷ items) job none = lined_job items job none
lined_job (Stop ∷ items) job none = absurd (omega arith)

-- A stop may come at any time.
pub lined_stop : (items : List Item) → AreLined items → AreLined (items ++ Stop ∷ [])
lined_stop [] lined = refl
lined_stop (Job x ∷ items) lined = lined_stop items lined
lined_stop (Stop ∷ items) lined = jobs_in-stop items ∙ lined

-- The items are the jobs and the stops.
pub length-items : (items : List Item) → length items ≡ length (jobs_in items) + stops_in items
length-items [] = refl
length-items (Job x ∷ items) = let rest = length-items items in omega arith
length-items (Stop ∷ items) = let rest = length-items items in omega arith

-- Where each job weighs 1, they weigh as many as they are.
pub length-jobs : (jobs : List ℕ) → sum_by (λ x. 1) jobs ≡ length jobs
length-jobs [] = refl
length-jobs (x ∷ xs) = let rest = length-jobs xs in omega (arith, sum_by-cons (λ (n : ℕ). 1) x xs)
