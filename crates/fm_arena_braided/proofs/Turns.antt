-- Words of a run, each read or put in a turn of its own.
use Rattle.std.proofs.{Common.{◌≢◌, ℕ, zero, suc, ◌+◌, ◌<◌, ◌≤◌, List, length, take, get_or, set, refl, subst, add-one, arith}}
use Rattle.std.proofs.{Common.{get_or-set_other, get_or-set_same}, lemmas.List.{length-take-le, length-set, take_all, take_more, take_more_set}}
use Rattle.fm_base.specs.{declared.arena_id.ArenaId.{ArenaId}, Calls.{Read, Write, Fine, Found}, Does.{CanReach, CanReachAll}}
use Rattle.fm_base.specs.{Learnt.{AfterActs}, View.{View, IsSound}, Visits.{Acts, reads, writes}}
use Rattle.fm_base.proofs.Rows.{acts_none, acts_more, act_reaches, reads_in_a_row, writes_in_a_row, loads_one, stores_one}
use Rattle.fm_arena_braided.specs.declared.braided.Braided.{Braided}
use Rattle.fm_arena_braided.specs.Turns.{Acted, HadTurn, InTurns, LoadedInTurn, StoredInTurn, beside}

-- Steps that do the same below their count come to the same.
InTurns-same : {X : Type 0} {step other : ℕ → X → X → Type 0} (n : ℕ) → ((k : ℕ) (x y : X) → k < n → step k x y → other k x y)
    → (old new : X) → InTurns old new n step → InTurns old new n other
InTurns-same zero same old new t = t
InTurns-same (suc n) same old new (between, before, last) =
    (between, InTurns-same n (λ k x y below. same k x y (omega arith)) old between before, same n between new (omega arith) last)

-- what is known once the first n of these words were acted on, each in its turn
pub record IsSoFar {M T : Type 0} (acts : ArenaId → ℕ → List ℕ → Acts) (step : ℕ → Braided M T → Braided M T → Type 0) (view : M → View)
    (first : ℕ) (words : List ℕ) (n : ℕ) (old new : Braided M T) : Type 0 where
  pub turns : InTurns old new n step
  pub does : AfterActs acts (beside (view old.memory)) (beside (view new.memory)) first (take n words)
  pub fits : n ≤ length words

module _ {M T : Type 0} {acts : ArenaId → ℕ → List ℕ → Acts} {step : ℕ → Braided M T → Braided M T → Type 0} {view : M → View}
    {first n : ℕ} {words : List ℕ} {old new : Braided M T} (s : IsSoFar acts step view first words n old new) where
  -- The next word can be reached.
  pub next_is_reached : (count : ℕ) → CanReachAll (beside (view old.memory)) first count → n < count → CanReach (beside (view new.memory)) (first + n)
  next_is_reached count reach below = act_reaches s.does n (length-take-le n words s.fits) count reach below

  -- All words were acted on.
  pub all_so_far : length words ≤ n → AfterActs acts (beside (view old.memory)) (beside (view new.memory)) first words
  all_so_far all = subst (λ ws. AfterActs acts (beside (view old.memory)) (beside (view new.memory)) first ws) (take_all n words all) s.does

module _ {M T : Type 0} {view : M → View} {turns : T → ℕ → T → Type 0} {first : ℕ} {words : List ℕ} where
  -- No word was read.
  pub none_loaded : (old : Braided M T) (count : ℕ) → IsSound (beside (view old.memory)) → CanReachAll (beside (view old.memory)) first count
      → IsSoFar reads (LoadedInTurn view turns first words) view first words 0 old old
  none_loaded old count sound reach = record { turns = refl; does = acts_none reads_in_a_row first count sound reach; fits = omega arith }

  -- One more word is read, and kept in its place.
  pub loaded_one_more : (n : ℕ) (old between new : Braided M T) (v : ℕ) → IsSoFar reads (LoadedInTurn view turns first words) view first words n old between
      → n < length words → Acted view between.memory new.memory (λ id. Read id (first + n)) (Found v)
      → HadTurn turns between.turn between.calls new.turn new.calls
      → IsSoFar reads (LoadedInTurn view turns first (set words n v)) view first (set words n v) (n + 1) old new
  loaded_one_more n old between new v s below did turn = record {
    turns =
        let loaded = LoadedInTurn view turns first in
        let before = InTurns-same {step = loaded words} {other = loaded (set words n v)} n
        (λ (k : ℕ) x y (less : k < n) l. let ne : k ≢ n = omega arith in rw get_or-set_other l) old between s.turns in
        rw add-one (between, before, record { turn = turn; did = rw get_or-set_same did });
    does = rw (take_more_set words n v below) (acts_more s.does n (length-take-le n words s.fits) reads_in_a_row _ (loads_one _ _ did));
    fits = rw (length-set words n v) (omega arith);
  }

  -- No word was put.
  pub none_stored : (old : Braided M T) (count : ℕ) → IsSound (beside (view old.memory)) → CanReachAll (beside (view old.memory)) first count
      → IsSoFar writes (StoredInTurn view turns first words) view first words 0 old old
  none_stored old count sound reach = record { turns = refl; does = acts_none writes_in_a_row first count sound reach; fits = omega arith }

  -- One more word is put.
  pub stored_one_more : (n : ℕ) (old between new : Braided M T) → IsSoFar writes (StoredInTurn view turns first words) view first words n old between
      → n < length words → Acted view between.memory new.memory (λ id. Write id (first + n) (get_or words n 0)) Fine
      → HadTurn turns between.turn between.calls new.turn new.calls
      → IsSoFar writes (StoredInTurn view turns first words) view first words (n + 1) old new
  stored_one_more n old between new s below did turn = record {
    turns = rw add-one (between, s.turns, record { turn = turn; did = did });
    does = rw (take_more words n 0 below) (acts_more s.does n (length-take-le n words s.fits) writes_in_a_row _ (stores_one _ _ did));
    fits = omega arith;
  }

-- what the goals of a loop over words rest on
pub ruleset in_turns = (none_loaded, none_stored, next_is_reached, all_so_far)
