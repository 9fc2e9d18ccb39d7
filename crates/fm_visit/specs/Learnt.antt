-- What calls inside an arena ask for, and what their caller learns: one record each.
use Rattle.std.specs.Prelude.{◌≡◌, ℕ, ◌+◌, ◌*◌, ◌&&◌, List, [], ◌∷◌, length, take, drop, nat_lt, Some, Result, Ok, Err, IfOk, IfErr, if◌then◌else◌}
use Rattle.fm_base.specs.declared.{arena_id.ArenaId.{ArenaId}, refusal.Refusal.{Refusal, TheVariants.{ReadOnly}}}
use Rattle.fm_base.specs.{Outcomes.{Lasts}, View.{View, Did, IsByItself}, Visits.{Acts}}
use Rattle.fm_base_bytes.specs.Words.{bytes_in}
use Rattle.fm_segment_access.specs.{Alone.{bytes_of_arena, ChangesBytes}, Found.{if_placed}}
use Rattle.fm_segment.specs.{Access.{IsKnown}, Region.{Region}}
use Rattle.fm_visit.specs.Acts.{HasActs, ActsAt, GetsWord, GetsWords, PutsWords, IsOfArguments}

-- inside the arena of this name; the memory knows the segment
pub record IsIn (v : View) (id : ArenaId) (r : Region) : Type 0 where
  pub known : IsKnown v r
  pub inside : v.inside ≡ Some id

-- What is learnt of a call inside
pub record AfterInside {X : Type 0} (old new : View) (id : ArenaId) (r : Region) (Do : Result X Refusal → Acts → Type 0)
    (Alone : X → Type 0) (result : Result X Refusal) : Type 0 where
  -- the caller's own acts, and the answer
  pub did : Did old new (HasActs old.caller (Do result))
  -- it is refused by its arguments alone: not `Closed`, and not `WrongThread`
  pub refused : IfErr result IsOfArguments
  -- what is found or changed where the caller is by itself
  pub alone : IsByItself old → IfOk result Alone
  -- it may go on
  pub still : IsIn new id r
  pub inside : new.inside ≡ old.inside
  pub lasts : Lasts old new

-- ---- where words stand

-- so many words at an offset, or the first refusal that applies
abbrev pub place_of_words : ℕ → ℕ → Region → Result ℕ Refusal
place_of_words offset count r = if_placed offset (8 * count) 8 r.first r.size (Ok (r.first + offset))

-- the same for a write
abbrev pub place_to_put : ℕ → ℕ → Region → Result ℕ Refusal
place_to_put offset count r = if nat_lt 0 count && r.read_only then Err ReadOnly else place_of_words offset count r

-- the bytes of these words are those that stand there, and the state stays
pub record FindsWords (old new : View) (id : ArenaId) (place : ℕ) (words : List ℕ) : Type 0 where
  pub value : bytes_in words ≡ take (8 * length words) (drop place (bytes_of_arena old.state id))
  pub same : new.state ≡ old.state

-- ---- of each call

module _ (old new : View) (r : Region) where
  -- of `get_word`
  abbrev pub AfterGetWord : ℕ → Result ℕ Refusal → Type 0
  AfterGetWord offset =
      AfterInside old new r.arena r (ActsAt (place_of_words offset 1 r) (GetsWord r.arena))
      (λ v. FindsWords old new r.arena (r.first + offset) (v ∷ []))

  -- of `get_words`
  abbrev pub AfterGetWords : ℕ → List ℕ → Result (Unit {0}) Refusal → Type 0
  AfterGetWords offset words =
      AfterInside old new r.arena r (ActsAt (place_of_words offset (length words) r) (GetsWords r.arena words))
      (λ u. FindsWords old new r.arena (r.first + offset) words)

  -- of `put_words`, and of `set_word`
  abbrev pub AfterPutWords : ℕ → List ℕ → Result (Unit {0}) Refusal → Type 0
  AfterPutWords offset words =
      AfterInside old new r.arena r (ActsAt (place_to_put offset (length words) r) (PutsWords r.arena words))
      (λ u. ChangesBytes old new r.arena (r.first + offset) (bytes_in words))
