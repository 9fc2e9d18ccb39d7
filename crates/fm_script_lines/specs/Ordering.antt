-- The order in which a script's lines are printed: the first lines, each worker's, the last ones.
use Rattle.std.specs.{Prelude.{◌≡◌, ℕ, ◌+◌, ◌<◌, zero, suc, Bool, List, [], ◌++◌, get_or, length, map}, Borrow.{Bor}}
use Rattle.fm_script_text.specs.declared.{line.Line.{Line}, who.Who.{Who, TheVariants.{First, Worker, Last}}}
use Rattle.fm_script_lines.specs.Report.{is_first, is_last, is_worker, lines_by}

-- lines that are kept by reference
abbrev pub lines_at : List (Bor Line) → List Line
lines_at ls = map (λ l. l.now) ls

-- whose lines they are
abbrev pub is_by : Who → Who → Bool
is_by First = is_first
is_by (Worker number) = is_worker number
is_by Last = is_last

-- the lines of so many workers, from number k on
abbrev pub worker_lines : ℕ → ℕ → List Line → List Line
worker_lines zero k ls = []
worker_lines (suc n) k ls = lines_by (is_worker k) ls ++ worker_lines n (k + 1) ls

-- all lines, where there are so many workers
abbrev pub in_order : ℕ → List Line → List Line
in_order workers ls = lines_by is_first ls ++ (worker_lines workers 1 ls ++ lines_by is_last ls)

-- the places of the workers' first lines in that order
pub record AreStarts (ls : List Line) (workers : ℕ) (starts : List ℕ) : Type 0 where
  pub many : length starts ≡ workers
  pub are : (k : ℕ) → k < workers → get_or starts k 0 ≡ length (lines_by is_first ls ++ worker_lines k 1 ls)
