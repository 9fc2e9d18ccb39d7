-- What loads tell of the files.
use Rattle.std.{proofs.Common.{◌≤◌, ℕ, List, length, Option, None, Some, refl, sym, subst}, specs.Prelude.{IfSome}}
use Rattle.fm_io.{specs.{Files.{Contents, IsAbsent}, View.{FilesView, Leaves}}, proofs.Left.{leaves_none, leaves_quiet, leaves_then}}
use Rattle.fm_top_load.specs.{Records.{ByRecords, IsRagged, IsRest, TellsRecords}, Whole.{ByPuts, ByReads, IsOver, IsWhole, TellsLoad}}
use Rattle.fm_top_load.specs.declared.load_fault.LoadFault.{LoadFault, TheVariants.{Memory, Ragged, Refused}}
use Rattle.fm_base.specs.declared.refusal.Refusal.{Refusal}

-- reads that came to something
pub read_quietly : {Says : LoadFault → Type 0} {limit : ℕ} {old new : FilesView} {name : List ℕ} → TellsLoad Says limit old new name None → Leaves ⊥ ⊥ old new
read_quietly tells = leaves_quiet tells.left (λ e. absurd {A = ⊥} (cc)) (λ e. absurd {A = ⊥} (cc))

-- reads that came to something are told as such
pub tells_none : {Says : LoadFault → Type 0} {limit : ℕ} {old new : FilesView} {name : List ℕ} → Leaves ⊥ ⊥ old new → TellsLoad Says limit old new name None
tells_none {new = new} left = record {
  left = leaves_then left (leaves_none new (λ e. absurd (cc)) (λ e. absurd (cc)));
  too_long = λ e. absurd (cc);
  absent = λ e. absurd (cc);
  other = tt;
}

-- such reads, and then a load
pub tells_then : {Says : LoadFault → Type 0} {limit : ℕ} {old mid new : FilesView} {name : List ℕ} {fault : Option LoadFault} → Leaves ⊥ ⊥ old mid
    → TellsLoad Says limit mid new name fault → TellsLoad Says limit old new name fault
tells_then {Says} {limit} {old} {mid} {new} {name} first then = record {
  left = leaves_then first then.left;
  too_long = λ is. subst (λ (told : Option Contents). IsOver told name limit) first.held (then.too_long is);
  absent = λ is. subst (λ (told : Option Contents). IsAbsent told name) first.held (then.absent is);
  other = then.other;
}

-- other words for the fault
pub tells_of : {Says More : LoadFault → Type 0} {limit : ℕ} {old new : FilesView} {name : List ℕ} {fault : Option LoadFault} → (IfSome fault Says → IfSome fault More)
    → TellsLoad Says limit old new name fault → TellsLoad More limit old new name fault
tells_of more tells = record { left = tells.left; too_long = tells.too_long; absent = tells.absent; other = more tells.other }

-- such reads, and then want of memory
pub tells_memory : {Says : LoadFault → Type 0} {limit : ℕ} {old new : FilesView} {name : List ℕ} → Says Memory → Leaves ⊥ ⊥ old new
    → TellsLoad Says limit old new name (Some Memory)
tells_memory {Says} {limit} {old} {new} {name} says first = tells_then first (record {
  left = leaves_none new (λ e. absurd {A = ⊥} (cc)) (λ e. absurd {A = ⊥} (cc));
  too_long = λ e. absurd (cc);
  absent = λ e. absurd (cc);
  other = says;
})

-- such reads, and then a refusal
pub tells_refused : {Says : LoadFault → Type 0} {limit : ℕ} {old new : FilesView} {name : List ℕ} (r : Refusal) → Says (Refused r) → Leaves ⊥ ⊥ old new
    → TellsLoad Says limit old new name (Some (Refused r))
tells_refused {Says} {limit} {old} {new} {name} r says first = tells_then first (record {
  left = leaves_none new (λ e. absurd {A = ⊥} (cc)) (λ e. absurd {A = ⊥} (cc));
  too_long = λ e. absurd (cc);
  absent = λ e. absurd (cc);
  other = says;
})

-- ---- records

-- what reads come to may come where records are loaded
record_too : (limit : ℕ) (told : Option Contents) (name : List ℕ) (size : ℕ) (f : LoadFault) → ByReads f → ByRecords limit told name size f
record_too limit told name size (Refused r) by = by
record_too limit told name size (Ragged rest) by = absurd by
record_too limit told name size f by = tt

pub by_records : {limit : ℕ} {old new : FilesView} {name : List ℕ} (size : ℕ) (fault : Option LoadFault) → TellsLoad ByReads limit old new name fault
    → TellsRecords limit old new name size fault
by_records {limit} {old} {new} {name} size None tells = tells_of (λ by. by) tells
by_records {limit} {old} {new} {name} size (Some f) tells = tells_of (record_too limit old.holds name size f) tells

-- such reads, and then a rest
pub tells_rest : {limit size rest : ℕ} {old new : FilesView} {name : List ℕ} → Leaves ⊥ ⊥ old new → IsRagged limit old.holds name size rest
    → TellsRecords limit old new name size (Some (Ragged rest))
tells_rest {new = new} left ragged = record {
  left = leaves_then left (leaves_none new (λ e. absurd {A = ⊥} (cc)) (λ e. absurd {A = ⊥} (cc)));
  too_long = λ e. absurd (cc);
  absent = λ e. absurd (cc);
  other = ragged;
}

-- the bytes that were loaded leave one
pub tells_ragged : {limit size : ℕ} {old new : FilesView} {name : List ℕ} (bytes : List ℕ) {fault : LoadFault} → Leaves ⊥ ⊥ old new → IsWhole old.holds name bytes
    → length bytes ≤ limit → IsRest (length bytes) size fault → TellsRecords limit old new name size (Some fault)
tells_ragged {limit} {size} {old} {new} {name} bytes {fault} left whole short rest =
    subst (λ (f : LoadFault). TellsRecords limit old new name size (Some f)) (sym rest.is) (tells_rest left (record {
      bytes = bytes;
      is_file = whole;
      short = short;
      is = refl;
      some = rest.some;
    }))
