-- What a caller by itself finds of a stretch that it put into an arena.
use Rattle.std.specs.Prelude.{◌≡◌, ℕ, ◌+◌, ◌≤◌, List, take, length, Option, None, Result, Err, IfOk, IfErr}
use Rattle.fm_base.specs.{declared.{arena_id.ArenaId.{ArenaId}, refusal.Refusal.{Refusal}}, Machine.{rounded_up}, Outcomes.{Lasts, Nature}}
use Rattle.fm_base.specs.View.{View, Did, given_in}
use Rattle.fm_base_bytes.specs.Bytes.{AreBytes}
use Rattle.fm_io.specs.Files.{Contents}
use Rattle.fm_segment_access.specs.Alone.{bytes_of_arena}
use Rattle.fm_top_load.specs.{Held.{HasRoom, IsHeld, OnlyIn, Wants}, Putting.{DoesGrow, DoesPutPortion, arena_in}, Whole.{IsCut}}
use Rattle.fm_top_load.specs.declared.{load_fault.LoadFault.{LoadFault, TheVariants.{Refused}}, reached.Reached.{Reached}, room.Room.{Room, TheVariants.{Given, Growing}}}
use Rattle.fm_top_load.specs.declared.stretch.Stretch.{Stretch}

-- ---- one portion

-- it holds the arena, which has room for so many bytes more
pub record Fits (v : View) (a : ArenaId) (size : ℕ) : Type 0 where
  pub held : IsHeld v a
  pub room : rounded_up (given_in v a) 8 + size ≤ v.limit

abbrev pub HoldsFor : View → Room → ℕ → Type 0
HoldsFor v (Given a) size = IsHeld v a
HoldsFor v (Growing a) size = Fits v a size

-- it is held still, and nothing changed; memory is wanting, or a page
pub record StaysHeld (nature : Nature) (old new : View) (a : ArenaId) (r : Refusal) : Type 0 where
  pub held : IsHeld new a
  pub elsewhere : OnlyIn a old.state new.state
  pub wants : Wants nature old new r

-- an arena that has given room is never refused, and one that is to give it only where it can't
abbrev pub MayStop : Nature → View → View → Room → Refusal → Type 0
MayStop nature old new (Given a) r = ⊥
MayStop nature old new (Growing a) r = StaysHeld nature old new a r

-- what is learnt where an arena was to give room for bytes that are put there
pub record AfterGrow (nature : Nature) (old new : View) (a : ArenaId) (bytes : List ℕ) (result : Result (Unit {0}) Refusal) : Type 0 where
  pub did : Did old new (DoesGrow old.caller a bytes result)
  pub alone : Fits old a (length bytes) → IfErr result (StaysHeld nature old new a)
  pub outside : new.inside ≡ None
  pub lasts : Lasts old new

-- and where bytes were to be put behind so many others
pub record AfterPutPortion (nature : Nature) (old new : View) (room : Room) (behind : ℕ) (bytes : List ℕ) (result : Result (Unit {0}) Refusal) : Type 0 where
  pub did : Did old new (DoesPutPortion old.caller room behind bytes result)
  pub are : AreBytes bytes
  pub alone : HoldsFor old room (length bytes) → IfErr result (MayStop nature old new room)
  pub outside : new.inside ≡ None
  pub lasts : Lasts old new

-- ---- a stretch

-- it holds the arena, which has room for the stretch, or has given nothing and can give as much as the file may have
abbrev pub HoldsRoom : Stretch → View → Room → Type 0
HoldsRoom stretch v (Given a) = IsHeld v a × (stretch.most ≤ v.limit)
HoldsRoom stretch v (Growing a) = HasRoom stretch.limit v a

-- an arena that is to give room may want memory or a page
abbrev pub WantsRoom : Nature → View → View → Room → Refusal → Type 0
WantsRoom nature old new (Given a) r = ⊥
WantsRoom nature old new (Growing a) r = Wants nature old new r

-- how many bytes the arena has given once so many were put, where it had given some before
abbrev pub given_behind : Room → (before count : ℕ) → ℕ
given_behind (Given a) before count = before
given_behind (Growing a) before count = count

-- The stretch stands at the arena's start, which is held still, or it wasn't put. Nothing else changed.
pub record Fills (nature : Nature) (stretch : Stretch) (told : Option Contents) (old new : View) (room : Room) (result : Result Reached LoadFault) : Type 0 where
  pub held : IsHeld new (arena_in room)
  pub elsewhere : OnlyIn (arena_in room) old.state new.state
  pub given : IfOk result (λ reached. given_in new (arena_in room) ≡ given_behind room (given_in old (arena_in room)) reached.count)
  pub stand : IfOk result (λ reached. IsCut stretch.limit stretch.most told stretch.name.now stretch.at
      (take reached.count (bytes_of_arena new.state (arena_in room))) reached.ended)
  pub wants : (r : Refusal) → result ≡ Err (Refused r) → WantsRoom nature old new room r
