-- For which files a request ends so, by what is found under the names of its first and its last file: each cause where none before it applies.
use Rattle.std.specs.Prelude.{◌≡◌, ◌≢◌, ℕ, ◌%◌, ◌<◌, ◌≤◌, ◌⊎◌, List, length, None, Option, IsSomeAnd, Result, Err}
use Rattle.fm_base.specs.declared.refusal.Refusal.{Refusal}
use Rattle.fm_io.specs.Files.{Contents}
use Rattle.fm_layout.specs.Tree.{Tree}
use Rattle.fm_ljson.specs.Answer.{layout_of_json}
use Rattle.fm_script_text.specs.Scripts.{IsRefused as IsScriptRefused}
use Rattle.fm_top_load.specs.Limits.{record_file_limit}
use Rattle.fm_top_pooled.specs.Grouped.{values_in}
use Rattle.fm_top.specs.{Found.{file_under}, Grouped.{most_values}, Outcome.{layout_file_limit, script_file_limit}}
use Rattle.fm_top.specs.Queries.{IsRecordLayout, IsLayoutRefused, PlanOf, size_in, ComesTo, ComesToNone, records_limit}
use Rattle.fm_top.specs.{Words.{Request, Sum, Layout, Ask, Demo, Run, first_file, last_file}, declared.command.wish.Wish.{Wish, TheVariants.{Group}}}

-- it holds of what these files have under the request's names
abbrev pub OverFiles : (Request → Option (List ℕ) → Option (List ℕ) → Type 0) → Request → Contents → Type 0
OverFiles Has request contents = Has request (file_under contents (first_file request)) (file_under contents (last_file request))

-- it is refused
abbrev pub IsRefused : Result Tree Refusal → Type 0
IsRefused r = (refusal : Refusal) × (r ≡ Err refusal)

-- over records of the layout that was found the text comes to this plan
abbrev pub IsAsked : (w : Wish) → Option (List ℕ) → List ℕ → PlanOf w → Type 0
IsAsked w found text p = IsSomeAnd found (λ bytes. (t : Tree) × IsRecordLayout w bytes t × ComesTo w text t p)

-- a file is missing
abbrev pub LacksFile : Request → Option (List ℕ) → Option (List ℕ) → Type 0
LacksFile (Ask w layout text file) first last = (first ≡ None) ⊎ ((p : PlanOf w) × IsAsked w first text p × (last ≡ None))
LacksFile (Demo threads count) first last = ⊥
LacksFile request first last = first ≡ None

-- what was found has more bytes than the limit
abbrev pub IsLong : Option (List ℕ) → ℕ → Type 0
IsLong found limit = IsSomeAnd found (λ bytes. limit < length bytes)

-- whole records have more values than are grouped
abbrev pub HasManyValues : (w : Wish) → PlanOf w → List ℕ → Type 0
HasManyValues (Group threads) p bytes = (length bytes % p.root_size ≡ 0) × (most_values < values_in p (length bytes))
HasManyValues w p bytes = ⊥

-- what was found has more bytes than a record file may have, or more values than are grouped
abbrev pub IsLongFor : (w : Wish) → PlanOf w → Option (List ℕ) → Type 0
IsLongFor w p found = IsSomeAnd found (λ bytes. (records_limit w < length bytes) ⊎ HasManyValues w p bytes)

-- a file is too long
abbrev pub HasLongFile : Request → Option (List ℕ) → Option (List ℕ) → Type 0
HasLongFile (Sum size at kind file) first last = IsLong first record_file_limit
HasLongFile (Layout text file) first last = IsLong first layout_file_limit
HasLongFile (Ask w layout text file) first last =
    IsLong first layout_file_limit ⊎ ((p : PlanOf w) × IsAsked w first text p × IsLongFor w p last)
HasLongFile (Demo threads count) first last = ⊥
HasLongFile (Run file) first last = IsLong first script_file_limit

-- the layout is refused
abbrev pub HasRefusedLayout : Request → Option (List ℕ) → Option (List ℕ) → Type 0
HasRefusedLayout (Layout text file) first last =
    IsSomeAnd first (λ bytes. (length bytes ≤ layout_file_limit) × IsRefused (layout_of_json bytes))
HasRefusedLayout (Ask w layout text file) first last = IsSomeAnd first (λ bytes. (e : Refusal) × IsLayoutRefused w bytes e)
HasRefusedLayout request first last = ⊥

-- the query or the path is refused
abbrev pub HasRefusedQuery : Request → Option (List ℕ) → Option (List ℕ) → Type 0
HasRefusedQuery (Ask w layout text file) first last =
    IsSomeAnd first (λ bytes. (t : Tree) × IsRecordLayout w bytes t × (e : Refusal) × ComesToNone w text t e)
HasRefusedQuery request first last = ⊥

-- what was found is within the limit, and its length is no multiple of the size
abbrev pub IsUneven : Option (List ℕ) → (limit size : ℕ) → Type 0
IsUneven found limit size = IsSomeAnd found (λ bytes. (length bytes ≤ limit) × (length bytes % size ≢ 0))

-- the record file is no whole number of records
abbrev pub HasRaggedFile : Request → Option (List ℕ) → Option (List ℕ) → Type 0
HasRaggedFile (Sum size at kind file) first last = IsUneven first record_file_limit size
HasRaggedFile (Ask w layout text file) first last = (p : PlanOf w) × IsAsked w first text p × IsUneven last (records_limit w) (size_in w p)
HasRaggedFile request first last = ⊥

-- the script is refused
abbrev pub HasRefusedScript : Request → Option (List ℕ) → Option (List ℕ) → Type 0
HasRefusedScript (Run file) first last =
    IsSomeAnd first (λ bytes. (length bytes ≤ script_file_limit) × ((line : ℕ) × IsScriptRefused bytes line))
HasRefusedScript request first last = ⊥
