-- Entries of the only caller.
use Rattle.std.proofs.{Common.{◌≡◌, subst, ℕ, ◌≤◌, ◌^◌, [], ◌∷◌, ◌==◌, arith, refl, sym, false, true, Some}, lemmas.Bool.Decides.{nat_tests}}
use Rattle.fm_base.specs.{declared.arena_id.ArenaId.{ArenaId}, Arenas.{only_caller, State, changed, word_in}, Calls.{Call, Reply, entry_of}}
use Rattle.fm_base.specs.{Machine.{MayCall, MayReach, reply_to, state_by, written, swapped}, View.{Makes, Did, IsSound, inside_next}, Does.{DoesAct}}
use Rattle.fm_base.proofs.Lookup.{swapped_hit, swapped_miss}
use Rattle.fm_mono.specs.Shown.{Arenas, view_of, Finds}

-- what holds of a `Mono` at any time
pub sound_of : (m : Arenas) → m.limit ≤ 2 ^ 40 → IsSound (view_of m)
sound_of m h = record { limit = h; told = tt }

-- one entry, legal where the arenas stood
pub makes_one : (m n : Arenas) (call : Call) (reply : Reply) → MayCall m.state only_caller call → reply ≡ reply_to m.limit m.state call
    → n.state ≡ state_by m.limit m.state only_caller call reply
    → n.inside ≡ inside_next m.inside call reply → n.limit ≡ m.limit → Makes (view_of m) (view_of n) (entry_of only_caller call reply ∷ [])
makes_one m n call reply may is state inside limit = record {
  all = entry_of only_caller call reply ∷ [];
  legal = (may, is, tt);
  reached = state;
  by_caller = refl;
  alone = λ h. refl;
  inside = inside;
  same_limit = limit;
  same_caller = refl;
  same_alone = refl;
  told = tt;
}

-- one act inside an arena
pub did_act : (m n : Arenas) (a : ArenaId) (f : ArenaId → Call) (reply : Reply) → m.inside ≡ Some a → MayCall m.state only_caller (f a)
    → reply ≡ reply_to m.limit m.state (f a)
    → n.state ≡ state_by m.limit m.state only_caller (f a) reply → n.inside ≡ inside_next (Some a) (f a) reply → n.limit ≡ m.limit
    → Did (view_of m) (view_of n) (DoesAct m.inside only_caller f reply)
did_act m n a f reply i may is state inside limit = record {
  own = entry_of only_caller (f a) reply ∷ [];
  does = rw i refl;
  makes = makes_one m n (f a) reply may is state (rw i inside) limit;
}

-- a swap that found its old word
pub swaps : (s : State) (id : ArenaId) (word old new found : ℕ) → found ≡ old → changed s id (written word new) ≡ changed s id (swapped word old new found)
swaps s id word old new found h =
    let t : (found == old) ≡ true = grind (arith, nat_tests) in
    sym (swapped_hit s id word old new found t)

-- a swap that found another word
pub swaps_not : (s : State) (id : ArenaId) (word old new found : ℕ) → ¬ (found ≡ old) → s ≡ changed s id (swapped word old new found)
swaps_not s id word old new found h =
    let t : (found == old) ≡ false = grind (arith, nat_tests) in
    sym (swapped_miss s id word old new found t)

-- the word that was found, at the arena that was entered
pub found_at : (m : Arenas) (word found : ℕ) (id : ArenaId) → m.inside ≡ Some id → Finds m word found
    → MayReach m.state only_caller id word × (found ≡ word_in m.state id word)
found_at m word found id i f =
    let same : f.id ≡ id = cc in
    subst (λ (a : ArenaId). MayReach m.state only_caller a word × (found ≡ word_in m.state a word)) same (f.reach, f.is)
