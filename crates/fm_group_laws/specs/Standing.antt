-- What a history leaves of a table, by its last words, and what counts found that fits them.
use Rattle.std.specs.{Prelude.{ℕ, ◌+◌, ◌<◌, List, ℤ, Option, Some, None}, List.{AllByRecursion}}
use Rattle.fm_base.specs.Calls.{Entry}
use Rattle.fm_base_laws.specs.{Claims.{LeavesAs, claims_by}}
use Rattle.fm_records.specs.Bytes.{FindAs}
use Rattle.fm_group.specs.{Values.{Valued, number_in}, Table.{Counter, claim_word, named_by, places_in}}
use Rattle.std.proofs.Common.{zero, suc}

-- the number of a value, where there is one
abbrev pub number_if : Valued → List ℕ → Option ℕ → Option ℤ
number_if v bytes None = None
number_if v bytes (Some n) = Some (number_in v bytes n)

-- where these are the records' bytes, and these the last words of the table's arena
module _ (w : Counter) (bytes : List ℕ) (word : ℕ → ℕ) where
  -- the number that stands at a place
  abbrev pub key_at : ℕ → Option ℤ
  key_at p = number_if w.values bytes (named_by w.values (word (claim_word w.table p)))

  -- what these entries found or put at claims stands, and they found the records' bytes
  pub record Fit (own : List Entry) : Type 0 where
    pub claims : (p : ℕ) → p < places_in w.table → AllByRecursion (LeavesAs w.table.arena (claim_word w.table p) (word (claim_word w.table p))) own
    pub finds : FindAs w.values.records bytes own

-- how many of the places below p the entry claimed
abbrev pub claims_to : Counter → ℕ → Entry → ℕ
claims_to w zero e = 0
claims_to w (suc p) e = claims_to w p e + claims_by w.table.arena (claim_word w.table p) e.call e.reply
