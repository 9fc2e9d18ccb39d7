-- The reads that a source tells: what each asked for, and what it was answered.
use Rattle.std.specs.{Prelude.{◌≡◌, ◌≢◌, ℕ, ◌+◌, ◌≤◌, List, [], ◌∷◌, ◌++◌, Option, Result, Ok, Err}, Option.{option_map}}
use Rattle.fm_io.specs.declared.{fault.Fault.{Fault}, files.Piece.{Piece, TheVariants.{Got, End, Missing}}}

-- one read: the file's name, the place, how many bytes there was room for, and the answer
pub record Read : Type 0 where
  pub name : List ℕ
  pub place : ℕ
  pub room : ℕ
  pub answer : Result Piece Fault

abbrev pub read : List ℕ → ℕ → ℕ → Result Piece Fault → Read
read name place room answer = record { name = name; place = place; room = room; answer = answer }

-- where the reads are told, these came behind those before
abbrev pub ReadsOn : Option (List Read) → Option (List Read) → List Read → Type 0
ReadsOn old new reads = new ≡ option_map (λ before. before ++ reads) old

-- what may follow on reads of a file: a read from this place, or none, since the file ended or the read failed
pub data Next : Type 0 where
  At : ℕ → Next
  Ended : Next
  Stopped : Next

-- what follows on a read at this place that was answered so
abbrev pub next_by : ℕ → Result Piece Fault → Next
next_by place (Ok (Got n)) = At (place + n)
next_by place (Ok End) = Ended
next_by place (Ok Missing) = Stopped
next_by place (Err fault) = Stopped

-- the read is of this file, begins at this place, and has room for at most `most` bytes, none of them at or past `end`
pub record IsReadAt (name : List ℕ) (most end place : ℕ) (r : Read) : Type 0 where
  pub named : r.name ≡ name
  pub from : r.place ≡ place
  pub small : r.room ≤ most
  pub within : place + r.room ≤ end

-- The reads are of this file and follow one another: each begins where the bytes of the one before end, and behind any other answer there is none.
abbrev pub Follow : List ℕ → ℕ → ℕ → Next → List Read → Type 0
Follow name most end next [] = Unit {0}
Follow name most end Ended (r ∷ rs) = ⊥
Follow name most end Stopped (r ∷ rs) = ⊥
Follow name most end (At place) (r ∷ rs) =
    IsReadAt name most end place r × Follow name most end (next_by place r.answer) rs

-- what follows on reads that follow one another
abbrev pub next_after : Next → List Read → Next
next_after next [] = next
next_after Ended (r ∷ rs) = Ended
next_after Stopped (r ∷ rs) = Stopped
next_after (At place) (r ∷ rs) = next_after (next_by place r.answer) rs

-- What was read of a file from a place on, by reads that follow one another; `Goes` is said of what may follow.
pub record ReadsFile (old new : Option (List Read)) (name : List ℕ) (most end from : ℕ) (Goes : Next → Type 0) : Type 0 where
  pub reads : List Read
  pub noted : ReadsOn old new reads
  pub follow : Follow name most end (At from) reads
  pub goes : Goes (next_after (At from) reads)

-- so many bytes of so many came: a next read would begin behind them; fewer came only where the file ended
abbrev pub GoesOn : ℕ → ℕ → ℕ → Next → Type 0
GoesOn at room n next = (n ≡ room → next ≡ At (at + n)) × (n ≢ room → next ≡ Ended)
