-- How a file is read: in portions, and no further than up to the first byte past its limit.
use Rattle.std.specs.Prelude.{◌≡◌, ℕ, ◌+◌, List, Bool, true, false, Option}
use Rattle.fm_io.specs.Reads.{Read, Next, At, Ended, ReadsFile}

-- the most bytes of one read
abbrev pub portion_limit : ℕ
portion_limit = 65536

-- what follows on a portion of a file: nothing, where the file ended with it, and else a read behind it
abbrev pub GoesBy : Bool → ℕ → Next → Type 0
GoesBy ended place next = (ended ≡ true → next ≡ Ended) × (ended ≡ false → next ≡ At place)

-- A file was read from its beginning, in portions, and up to the first byte past the limit at most; `Goes` is said of what may follow.
abbrev pub ReadsUpTo : Option (List Read) → Option (List Read) → List ℕ → ℕ → (Next → Type 0) → Type 0
ReadsUpTo old new name limit Goes = ReadsFile old new name portion_limit (limit + 1) 0 Goes

-- the same, whatever may follow
abbrev pub ReadsSome : Option (List Read) → Option (List Read) → List ℕ → ℕ → Type 0
ReadsSome old new name limit = ReadsUpTo old new name limit (λ next. Unit {0})

-- What was read before, and is followed so, was read on, and is followed as `Says` says then.
abbrev pub ReadsFurther : Option (List Read) → Option (List Read) → List ℕ → ℕ → (Next → Type 0) → (Next → Type 0) → Type 0
ReadsFurther old new name limit Goes Says = (before : Option (List Read)) (from : ℕ) → ReadsFile before old name portion_limit (limit + 1) from Goes
    → ReadsFile before new name portion_limit (limit + 1) from Says
