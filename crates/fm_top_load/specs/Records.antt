-- What is told of a file of records that was loaded, or left a rest.
use Rattle.std.specs.Prelude.{◌≡◌, ℕ, ◌%◌, ◌<◌, ◌≤◌, ⊤, List, length, Option}
use Rattle.fm_io.specs.{Files.{Contents}, View.{FilesView}}
use Rattle.fm_top_load.specs.{Whole.{IsWhole, TellsLoad}, declared.load_fault.LoadFault.{LoadFault, TheVariants.{Ragged, Refused}}}

-- so many bytes are left of others, which are no whole number of records of this size
pub record IsRest (bytes size : ℕ) (fault : LoadFault) : Type 0 where
  pub is : fault ≡ Ragged (bytes % size)
  pub some : 0 < bytes % size

-- the bytes of the file, which may have so many, leave this rest
pub record IsRagged (limit : ℕ) (told : Option Contents) (name : List ℕ) (size rest : ℕ) : Type 0 where
  pub bytes : List ℕ
  pub is_file : IsWhole told name bytes
  pub short : length bytes ≤ limit
  pub is : rest ≡ length bytes % size
  pub some : 0 < rest

-- a fault that reads alone may come to, or that the file leaves a rest
abbrev pub ByRecords : (limit : ℕ) → Option Contents → List ℕ → (size : ℕ) → LoadFault → Type 0
ByRecords limit told name size (Refused r) = ⊥
ByRecords limit told name size (Ragged rest) = IsRagged limit told name size rest
ByRecords limit told name size fault = ⊤

-- what a load tells of a file of records of this size
abbrev pub TellsRecords : (limit : ℕ) → FilesView → FilesView → List ℕ → (size : ℕ) → Option LoadFault → Type 0
TellsRecords limit old new name size fault = TellsLoad (ByRecords limit old.holds name size) limit old new name fault
