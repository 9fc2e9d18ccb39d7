-- What stands in an arena, part by part.
use Rattle.std.proofs.Common.{◌≡◌, ℕ, ◌≤◌, List, [], ◌∷◌, length, take, refl, ◌∙◌, arith}
use Rattle.fm_base.specs.{declared.arena_id.ArenaId.{ArenaId}, Arenas.{State}, View.{View}}
use Rattle.fm_base_bytes.proofs.Words.{length-bytes_in}
use Rattle.fm_segment_access.specs.Alone.{bytes_of_arena}
use Rattle.fm_top_load.specs.Held.{IsHeld, OnlyIn, words_at}

-- nothing changed
pub only_here : {s : State} {a : ArenaId} → OnlyIn a s s
only_here = record { names = refl; arenas = λ b. refl; others = λ b n. refl }

-- the arena alone changed, and then again
pub only_then : {s t u : State} {a : ArenaId} → OnlyIn a s t → OnlyIn a t u → OnlyIn a s u
only_then first next = record {
  names = next.names ∙ first.names;
  arenas = λ b. next.arenas b ∙ first.arenas b;
  others = λ b n. next.others b n ∙ first.others b n;
}

-- an arena that is held has bytes for all that is within the limit
pub has_bytes : {v : View} {a : ArenaId} (n : ℕ) → IsHeld v a → n ≤ v.limit → n ≤ length (bytes_of_arena v.state a)
has_bytes {v} {a} n held within =
    let size = held.size in
    omega (arith, length-bytes_in (words_at v a), size, within)

-- the first no bytes
pub none_taken : (bytes : List ℕ) → take 0 bytes ≡ []
none_taken [] = refl
none_taken (b ∷ bs) = refl
