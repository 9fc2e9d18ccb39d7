-- The reads of a stream, each behind those before.
use Rattle.std.proofs.Common.{◌≡◌, ℕ, ◌+◌, List, false, Option, Some, None, refl, subst, ◌∙◌}
use Rattle.fm_io.{specs.{Files.{Contents}, Reads.{Read, Next, ReadsFile, At}, View.{FilesView, Leaves}}, proofs.Left.{leaves_none, leaves_then}}
use Rattle.fm_top_load.specs.{declared.load_fault.LoadFault.{LoadFault, TheVariants.{Memory}}, Reading.{GoesBy, ReadsFurther, portion_limit}, Records.{ByRecords, TellsRecords}, Whole.{ByReads, TellsLoad}}
use Rattle.fm_top_load.proofs.{Following.{same_reads, reads_then}, Portions.{further_says}, Telling.{read_quietly, tells_memory, tells_then}}

-- They were read on, and on.
pub further_then : (limit : ℕ) {old mid new : Option (List Read)} {name : List ℕ} {Starts Goes Says : Next → Type 0} → ReadsFurther old mid name limit Starts Goes
    → ReadsFurther mid new name limit Goes Says → ReadsFurther old new name limit Starts Says
further_then limit first next before from h = next before from (first before from h)

-- Whatever follows.
pub further_some : (limit : ℕ) {old new : Option (List Read)} {name : List ℕ} {Starts Goes : Next → Type 0} → ReadsFurther old new name limit Starts Goes
    → ReadsFurther old new name limit Starts (λ next. Unit {0})
further_some limit reads = further_says limit reads (λ next goes. tt)

-- The next portion was read.
pub further_by : (limit : ℕ) {at : ℕ} {old new : Option (List Read)} {name : List ℕ} {Goes : Next → Type 0} → ReadsFile old new name portion_limit (limit + 1) at Goes
    → ReadsFurther old new name limit (GoesBy false at) Goes
further_by limit {at = at} {Goes = Goes} reads before from h =
    reads_then {Goes = Goes} {Says = Goes} (same_reads {Goes = GoesBy false at} {Says = λ next. next ≡ At at} h refl (λ next goes. goes.1 refl)) reads (λ next goes. goes)

-- What was read first, and then on.
pub reads_further : (limit : ℕ) {old mid new : Option (List Read)} {name : List ℕ} {from : ℕ} {Starts Says : Next → Type 0}
    → ReadsFile old mid name portion_limit (limit + 1) from Starts → ReadsFurther mid new name limit Starts Says
    → ReadsFile old new name portion_limit (limit + 1) from Says
reads_further limit {old = old} {from = from} first rest = rest old from first

module _ {limit : ℕ} {old mid stretch : FilesView} {name : List ℕ} (before : Leaves ⊥ ⊥ old mid) (first : TellsLoad ByReads limit mid stretch name None) where
  -- Where the first portion came to something, the load tells what the rest of the chunk tells.
  pub chunk_tells : {new : FilesView} {fault : Option LoadFault} → TellsLoad ByReads limit stretch new name fault → TellsLoad ByReads limit old new name fault
  chunk_tells rest = tells_then (leaves_then before (read_quietly first)) rest

  -- Where both came to something, the files are left as they were.
  pub chunk_leaves : {new : FilesView} → TellsLoad ByReads limit stretch new name None → Leaves ⊥ ⊥ old new
  chunk_leaves rest = leaves_then (leaves_then before (read_quietly first)) (read_quietly rest)

  -- The files tell the same then as before all reads.
  pub held_before : stretch.holds ≡ old.holds
  held_before = (read_quietly first).held ∙ before.held

-- Nothing was read where memory was wanting before that.
pub tells_no_memory : (v : FilesView) {Says : LoadFault → Type 0} {limit : ℕ} {name : List ℕ} → Says Memory → TellsLoad Says limit v v name (Some Memory)
tells_no_memory v says = tells_memory says (leaves_none v (λ e. e) (λ e. e))

-- Such reads, and then a load of records.
pub records_then : {limit size : ℕ} {old mid new : FilesView} {name : List ℕ} {fault : Option LoadFault} → Leaves ⊥ ⊥ old mid
    → TellsRecords limit mid new name size fault → TellsRecords limit old new name size fault
records_then {limit} {size} {mid = mid} {new = new} {name = name} {fault = fault} first then =
    tells_then first (subst (λ (told : Option Contents). TellsLoad (ByRecords limit told name size) limit mid new name fault) first.held then)
