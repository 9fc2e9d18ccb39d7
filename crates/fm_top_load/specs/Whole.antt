-- What files tell of a file that was read, or was too long.
use Rattle.std.specs.Prelude.{◌≡◌, ℕ, ◌+◌, ◌<◌, ◌≤◌, ⊤, List, ◌^◌, length, min, Bool, true, false, Option, Some, IfSome, IsSomeAnd}
use Rattle.fm_io.specs.{Files.{Contents, file_of, AreBytesFrom, EndsBefore, IsAbsent}, View.{FilesView, Leaves}}
use Rattle.fm_top_load.specs.{Portions.{PortionView, front}, Reading.{portion_limit}, declared.load_fault.LoadFault.{LoadFault, TheVariants.{Missing, Failed, TooLong, Ragged, Refused}}}

-- where the files tell, these are the bytes of the file of that name
abbrev pub IsWhole : Option Contents → List ℕ → List ℕ → Type 0
IsWhole told name bytes = IfSome told (λ contents. file_of contents name ≡ Some bytes)

-- where the files tell, the file of that name has more bytes than the limit
abbrev pub IsOver : Option Contents → List ℕ → ℕ → Type 0
IsOver told name limit = IfSome told (λ contents.
    IsSomeAnd (file_of contents name) (λ file. limit < length file))

-- a fault that reads alone may come to
abbrev pub ByReads : LoadFault → Type 0
ByReads (Refused r) = ⊥
ByReads (Ragged rest) = ⊥
ByReads fault = ⊤

-- and one that may come where bytes are put, too
abbrev pub ByPuts : LoadFault → Type 0
ByPuts (Ragged rest) = ⊥
ByPuts fault = ⊤

-- What a load tells of the files, whose file may have so many bytes: what it leaves of them, and why it came to nothing, where it came to this
-- fault, of which `Says` holds.
pub record TellsLoad (Says : LoadFault → Type 0) (limit : ℕ) (old new : FilesView) (name : List ℕ) (fault : Option LoadFault) : Type 0 where
  pub left : Leaves (fault ≡ Some Failed) (fault ≡ Some Missing) old new
  pub too_long : fault ≡ Some TooLong → IsOver old.holds name limit
  pub absent : fault ≡ Some Missing → IsAbsent old.holds name
  pub other : IfSome fault Says

-- These are the next bytes of the file of that name, which may have so many, from the place on. They are as many as one read may bring, and at
-- most `most`; fewer only where it ends.
pub record IsPortion (limit most : ℕ) (told : Option Contents) (name : List ℕ) (place : ℕ) (p : PortionView) : Type 0 where
  pub are : AreBytesFrom told name place p.bytes
  pub short : place + length p.bytes ≤ limit
  pub within : length p.bytes ≤ min portion_limit most
  pub full : p.ended ≡ false → length p.bytes ≡ min portion_limit most
  pub ends : p.ended ≡ true → EndsBefore told name (place + length p.bytes)

-- they lie at the front of a buffer
pub record IsFront (limit most : ℕ) (told : Option Contents) (name : List ℕ) (place : ℕ) (buffer : List ℕ) (count : ℕ) (ended : Bool) : Type 0 where
  pub small : count ≤ portion_limit
  pub is : IsPortion limit most told name place (front buffer count ended)

-- These are the bytes of a file that may have so many from the place on, at most `most` of them; `ended` says that it ends with them. Fewer are
-- they only where it ends.
pub record IsCut (limit most : ℕ) (told : Option Contents) (name : List ℕ) (place : ℕ) (bytes : List ℕ) (ended : Bool) : Type 0 where
  pub bytes_are : AreBytesFrom told name place bytes
  pub short : place + length bytes ≤ limit
  pub within : length bytes ≤ most
  pub full : ended ≡ false → length bytes ≡ most
  pub ends : ended ≡ true → EndsBefore told name (place + length bytes)

-- a file may have so many bytes, and is read from this place on
pub record CanRead (limit at : ℕ) : Type 0 where
  pub small : limit ≤ 2 ^ 40
  pub short : at ≤ limit
