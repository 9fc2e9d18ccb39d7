-- What is asked of the system, and what its answers come to.
use Rattle.std.specs.Prelude.{◌≡◌, ◌≢◌, ℕ, ◌+◌, ◌^◌, ◌<◌, ◌==◌, List, [], ◌∷◌, ◌++◌, Option, None, Some, Result, Ok, Err, MatchResult, SomeIff, if◌then◌else◌}
use Rattle.std.specs.{Option.{option_map}, Str.{bytes_eq}, IoError.{error_kind}, declared.io.{Error.{Error}, ErrorKind.TheVariants.{NotFound}}}
use Rattle.fm_io.specs.declared.{fault.Fault.{Fault, TheVariants.{Failed, Memory}}, files.Piece.{Piece, TheVariants.{Got, End, Missing}}, system.Way.{Way}}
use Rattle.fm_io.specs.declared.system.Way.TheVariants.{Open, Seek, Follow}

-- one question: how the place is come by, the file's name, the place, how many bytes there was room for, and the answer
pub record Question : Type 0 where
  pub way : Way
  pub name : List ℕ
  pub place : ℕ
  pub room : ℕ
  pub answer : Result ℕ Error

abbrev pub question : Way → List ℕ → ℕ → ℕ → Result ℕ Error → Question
question way name place room answer = record { way = way; name = name; place = place; room = room; answer = answer }

-- where the questions are told, this came behind those before
abbrev pub AsksOn : Option (List Question) → Option (List Question) → Question → Type 0
AsksOn old new asked = new ≡ option_map (λ before. before ++ (asked ∷ [])) old

-- how a place in a file is come by: the file that was opened last is read on or sought in where it has that name, and else the name is opened
abbrev pub way_to : Option ℕ → List ℕ → List ℕ → ℕ → Way
way_to None kept name at = Open
way_to (Some next) kept name at = if bytes_eq kept name then (if next == at then Follow else Seek) else Open

-- where the next read would follow on a read that was answered so: behind its bytes, and nowhere if it failed
abbrev pub EndsAt : ℕ → Result ℕ Error → Option ℕ → Type 0
EndsAt at answer next = MatchResult answer (λ n. SomeIff next (at + n < 2 ^ 64) (at + n)) (λ e. next ≡ None)

-- so many bytes; no byte is the end
abbrev pub piece_of : ℕ → Piece
piece_of n = if n == 0 then End else Got n

-- what an answer of the system comes to: only a name that doesn't exist is missing, every other error is a fault
abbrev pub ComesTo : Result ℕ Error → Result Piece Fault → Type 0
ComesTo answer result = MatchResult answer (λ n. result ≡ Ok (piece_of n))
    (λ e. (error_kind e ≡ NotFound → result ≡ Ok Missing) × (error_kind e ≢ NotFound → result ≡ Err Failed))

-- A read of a file: one question to the system, what its answer came to, and where the next read would follow.
pub record Asks (old new : Option (List Question)) (way : Way) (name : List ℕ) (place room : ℕ) (result : Result Piece Fault) (next : Option ℕ) : Type 0 where
  pub answer : Result ℕ Error
  pub noted : AsksOn old new (question way name place room answer)
  pub told : ComesTo answer result
  pub left : EndsAt place answer next

-- One question is put to the system, and its answer is handed on, unless the name of a file that is to be opened couldn't be kept. The
-- system, the name that is kept and where the next read would follow are those before and after.
pub record AsksOnce {S : Type 0} (told : S → Option (List Question)) (old new : S) (next : Option ℕ) (had has name : List ℕ) (place room : ℕ)
    (result : Result Piece Fault) (after : Option ℕ) : Type 0 where
  pub asked : result ≢ Err Memory → Asks (told old) (told new) (way_to next had name place) name place room result after
  pub kept : result ≢ Err Memory → has ≡ name
  pub opens : result ≡ Err Memory → way_to next had name place ≡ Open
  pub unasked : result ≡ Err Memory → new ≡ old
  pub closed : result ≡ Err Memory → after ≡ None
