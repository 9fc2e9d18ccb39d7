-- Which path's values are grouped, why a path is refused, and how `group` ends over whole records.
use Rattle.std.specs.Prelude.{◌≡◌, ◌≢◌, ℕ, ◌<◌, ◌≤◌, List, length}
use Rattle.fm_base.specs.declared.refusal.Refusal.{Refusal, TheVariants.{Memory}}
use Rattle.fm_group.specs.Values.{all_numbers}
use Rattle.fm_group_lists.specs.Groups.{AreGroups, Group}
use Rattle.fm_group_text.specs.Printed.{groups_text}
use Rattle.fm_layout.specs.Tree.{Tree}
use Rattle.fm_path.specs.Resolution.{IsResolved, Resolution}
use Rattle.fm_path_text.specs.{Grammar.{IsTextOf}, declared.step.PathStep.{PathStep}}
use Rattle.fm_records_query.specs.Lists.{IsNoList}
use Rattle.fm_rule.specs.Finishing.{FinishedView}
use Rattle.fm_top_pooled.specs.Grouped.{ShowsValues, values_in}
use Rattle.fm_top.specs.Outcome.{Outcome, answered_by_pool, too_long}

-- the text is that of a path, which is resolved to this: its values may be of any kind
pub record IsGroupPlanned (text : List ℕ) (t : Tree) (r : Resolution) : Type 0 where
  pub path : List PathStep
  pub is_text : IsTextOf text path
  pub resolved : IsResolved path t r

-- or it is refused as a list of the path's values is, and not for want of memory
pub record IsGroupRefused (text : List ℕ) (t : Tree) (e : Refusal) : Type 0 where
  pub no_list : IsNoList text t e
  pub refused : e ≢ Memory

-- the most values that are grouped
abbrev pub most_values : ℕ
most_values = 1048576

-- the groups of all numbers, a line each, and the pool that is kept, whose history shows that they were read
pub record IsGroupAnswered (r : Resolution) (bytes : List ℕ) (o : Outcome) : Type 0 where
  pub groups : List Group
  pub are_groups : AreGroups (all_numbers r bytes) groups
  pub finished : FinishedView
  pub outcome : o ≡ answered_by_pool (groups_text groups) finished
  pub shows : ShowsValues finished r bytes

-- how it ends over whole records: more values than may be grouped are told as a file that is too long
pub data GroupEnds (r : Resolution) (bytes : List ℕ) : Outcome → Type 0 where
  many : most_values < values_in r (length bytes) → GroupEnds r bytes too_long
  grouped : (o : Outcome) → values_in r (length bytes) ≤ most_values → IsGroupAnswered r bytes o → GroupEnds r bytes o
