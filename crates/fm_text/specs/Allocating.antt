-- What allocating a text does (`allocateFrom` of `SegmentAllocator`, Java SE 22), and what is learnt of it.
use Rattle.std.specs.Prelude.{◌≡◌, ◌⊎◌, ℕ, List, ◌++◌, None, Result, Ok, Err, IfOk}
use Rattle.fm_base.specs.declared.{caller.Caller.{Caller}, arena_id.ArenaId.{ArenaId}, refusal.Refusal.{Refusal}}
use Rattle.fm_base.specs.{declared.refusal.Refusal.TheVariants.{Closed, PoolFull}, Calls.{Entry}, Does.{DoesAllocate}, Finds.{is_page}}
use Rattle.fm_base.specs.{Outcomes.{Nature, MayCome, FoundNoneFree, Gives, Lasts}, View.{View, Did, IsByItself, but_loans}}
use Rattle.fm_segment_access.specs.Ranges.{DoesPut}
use Rattle.fm_segment.specs.{Access.{IsKnown}, Alone.{bytes_of_region}, Region.{Region, region_of}}
use Rattle.fm_text.specs.{Setting.{text_size}, Texts.{zero_ended}}

-- the bytes are given at this place, and then the text is put there
pub record GivesThenPuts (c : Caller) (id : ArenaId) (text : List ℕ) (place : ℕ) (result : Result (Unit {0}) Refusal) (own : List Entry) : Type 0 where
  pub first : List Entry
  pub next : List Entry
  pub both : own ≡ first ++ next
  pub gives : DoesAllocate c id (text_size text) 1 (Ok place) (but_loans first)
  pub puts : DoesPut c id place (zero_ended text) result next

-- Closed may come of either, any other refusal of the allocation alone
abbrev pub DoesAllocateText : Caller → ArenaId → List ℕ → Result Region Refusal → List Entry → Type 0
DoesAllocateText c id text (Ok r) own = GivesThenPuts c id text r.first (Ok tt) own
DoesAllocateText c id text (Err Closed) own =
    DoesAllocate c id (text_size text) 1 (Err Closed) (but_loans own) ⊎ ((place : ℕ) × GivesThenPuts c id text place (Err Closed) own)
DoesAllocateText c id text (Err e) own = DoesAllocate c id (text_size text) 1 (Err e) (but_loans own)

-- the segment: bytes that were not given before, of which there are just enough
pub record IsGiven (old new : View) (id : ArenaId) (text : List ℕ) (r : Region) : Type 0 where
  pub segment : r ≡ region_of id r.first (text_size text)
  pub gives : Gives old new id (text_size text) 1 r.first
  pub known : IsKnown new r

-- of `allocate_text`
pub record AfterAllocateText (nature : Nature) (old new : View) (id : ArenaId) (text : List ℕ) (result : Result Region Refusal) : Type 0 where
  -- the caller's own acts, and the answer
  pub did : Did old new (DoesAllocateText old.caller id text result)
  pub given : IfOk result (IsGiven old new id text)
  -- its bytes, where the caller is by itself
  pub alone : IsByItself old → IfOk result (λ r. bytes_of_region new.state r ≡ zero_ended text)
  pub outside : new.inside ≡ None
  pub lasts : Lasts old new
  pub comes : MayCome nature result
  pub pool_full : result ≡ Err PoolFull → FoundNoneFree is_page old.told new.told
