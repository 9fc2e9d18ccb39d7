-- What each call of a `Memory` asks for, and what its caller learns: one record each.
use Rattle.std.specs.Prelude.{◌≡◌, ◌≢◌, ℕ, List, true, bit_and, Some, None, Result, Err, IfOk, IfErr}
use Rattle.fm_base.specs.declared.{arena_id.ArenaId.{ArenaId}, kind.Kind.{Kind, TheVariants.{Automatic}}, refusal.Refusal.{Refusal}}
use Rattle.fm_base.specs.{declared.refusal.Refusal.TheVariants.{NoSlot, PoolFull}, Arenas.{Ended, has_arena, arena_of}, Calls.{Call, Reply, Leave, Fine}}
use Rattle.fm_base.specs.{Does.{CanReach, DidEnter, DidAct, DidActs, DidPatch, DidOpen, DidAllocate, DidClose}, Finds.{is_slot, is_page}}
use Rattle.fm_base.specs.{Outcomes.{Nature, MayCome, FoundNoneFree, IsNew, Gives, Lasts}, View.{View, IsSound}, Visits.{Acts, reads, writes}}

-- ---- what is asked for

-- in no arena, and the arena is known
pub record CanVisit (v : View) (id : ArenaId) : Type 0 where
  pub outside : v.inside ≡ None
  pub known : has_arena v.state id ≡ true

-- in no arena, and the kind isn't opened otherwise
pub record CanOpen (v : View) (kind : Kind) : Type 0 where
  pub outside : v.inside ≡ None
  pub by_hand : kind ≢ Automatic

-- the word can be reached, and the bits lie under the mask
pub record CanPatch (v : View) (word mask bits : ℕ) : Type 0 where
  pub reach : CanReach v word
  pub under : bit_and bits mask ≡ bits

-- ---- what is learnt

-- of `enter`
pub record AfterEnter (old new : View) (id : ArenaId) (result : Result (Unit {0}) Refusal) : Type 0 where
  pub did : DidEnter old new id result
  pub inside : IfOk result (λ _. new.inside ≡ Some id)
  pub outside : IfErr result (λ _. new.inside ≡ None)
  pub lasts : Lasts old new
  pub sound : IsSound new

-- of one act inside an arena
pub record AfterAct (old new : View) (call : ArenaId → Call) (reply : Reply) : Type 0 where
  pub did : DidAct old new call reply
  pub inside : new.inside ≡ old.inside
  pub lasts : Lasts old new
  pub sound : IsSound new

-- of these acts on a run of words inside an arena, the first at this index
pub record AfterActs (acts : ArenaId → ℕ → List ℕ → Acts) (old new : View) (first : ℕ) (words : List ℕ) : Type 0 where
  pub did : DidActs old new (λ a. acts a first words)
  pub inside : new.inside ≡ old.inside
  pub lasts : Lasts old new
  pub sound : IsSound new

-- of `load_words`
abbrev pub AfterLoads : View → View → ℕ → List ℕ → Type 0
AfterLoads = AfterActs reads

-- of `store_words`
abbrev pub AfterStores : View → View → ℕ → List ℕ → Type 0
AfterStores = AfterActs writes

-- of `patch`
pub record AfterPatch (old new : View) (word mask bits found : ℕ) : Type 0 where
  pub did : DidPatch old new word mask bits found
  pub inside : new.inside ≡ old.inside
  pub lasts : Lasts old new
  pub sound : IsSound new

-- of `leave`
pub record AfterLeave (old new : View) : Type 0 where
  pub did : DidAct old new Leave Fine
  pub outside : new.inside ≡ None
  pub lasts : Lasts old new
  pub sound : IsSound new

-- of `open_arena`
pub record AfterOpen (nature : Nature) (old new : View) (kind : Kind) (result : Result ArenaId Refusal) : Type 0 where
  pub did : DidOpen old new kind result
  pub is_new : IfOk result (λ id. IsNew old new id)
  pub outside : new.inside ≡ None
  pub lasts : Lasts old new
  pub comes : MayCome nature result
  pub no_slot : result ≡ Err NoSlot → FoundNoneFree is_slot old.told new.told
  pub sound : IsSound new

-- of `allocate`
pub record AfterAllocate (nature : Nature) (old new : View) (id : ArenaId) (size align : ℕ) (result : Result ℕ Refusal) : Type 0 where
  pub did : DidAllocate old new id size align result
  pub gives : IfOk result (λ place. Gives old new id size align place)
  pub outside : new.inside ≡ None
  pub lasts : Lasts old new
  pub comes : MayCome nature result
  pub pool_full : result ≡ Err PoolFull → FoundNoneFree is_page old.told new.told
  pub sound : IsSound new

-- of `close`
pub record AfterClose (old new : View) (id : ArenaId) (result : Result (Unit {0}) Refusal) : Type 0 where
  pub did : DidClose old new id result
  pub ended : IfOk result (λ _. (arena_of new.state id).life ≡ Ended)
  pub outside : new.inside ≡ None
  pub lasts : Lasts old new
  pub sound : IsSound new
