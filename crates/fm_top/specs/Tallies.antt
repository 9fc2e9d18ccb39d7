-- Which texts name values that are counted, why others are refused, and what is printed.
use Rattle.std.specs.{Prelude.{◌≢◌, ℕ, List, ℤ, map}, List.{range_with_len}}
use Rattle.fm_base.specs.declared.refusal.Refusal.{Refusal, TheVariants.{Memory, Unsupported}}
use Rattle.fm_layout.specs.Tree.{Tree}
use Rattle.fm_records_query.specs.{Lists.{IsList, IsNoList}, Plan.{Plan}}
use Rattle.fm_workers.specs.{Counts.{IsTally, how_many, number_of}, Printed.{counts_text}}

-- the text is that of a path to bytes or booleans, and the plan lists them
pub record IsTallied (text : List ℕ) (t : Tree) (p : Plan) : Type 0 where
  pub list : IsList text t p
  pub bytes : IsTally p

-- why it is refused, but for want of memory: as a path is; else since it leads to no byte or boolean
pub data IsPathRefused (text : List ℕ) (t : Tree) : Refusal → Type 0 where
  no_list : (e : Refusal) → IsNoList text t e → e ≢ Memory → IsPathRefused text t e
  no_bytes : (p : Plan) → IsList text t p → ¬ (IsTally p) → IsPathRefused text t Unsupported

-- how often each number from -128 to 127 is one of these, those below 0 behind the others
abbrev pub counts_of : List ℤ → List ℕ
counts_of ns = map (λ place. how_many (number_of place) ns) (range_with_len 0 256)

-- a line for each number that comes, in rising order, with how often; and `total` with how many there are
abbrev pub tally_text : List ℤ → List ℕ
tally_text ns = counts_text (counts_of ns)
