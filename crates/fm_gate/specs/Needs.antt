-- Where a pass of a pool stands between two calls, and what a call asks for.
use Rattle.std.specs.Prelude.{◌≡◌, ◌≢◌, ◌<◌, ◌*◌, ℕ, [], bit_and, Some, None}
use Rattle.fm_base.specs.declared.{arena_id.ArenaId.{ArenaId}, kind.Kind.TheVariants.{Automatic}}
use Rattle.fm_rule_facts.specs.{Hands.{nothing, no_number}, Parts.{unread}, Views.{View, In, IsKnown, given_of}}
use Rattle.fm_rule.specs.{declared.pool.Pool.{Pool}, Passes.{IsOf}}
use Rattle.fm_pages.specs.Makers.{made_by_pass}
use Rattle.fm_gate.specs.declared.held.Hold.{Hold}

-- in no arena; it publishes no mark, has no number and no slot in its hand, and is at no part of a sweep
pub record IsOutside (pool : Pool) (p : View) : Type 0 where
  pub of : IsOf pool p
  pub outside : p.inside ≡ None
  pub unmarked : p.mark ≡ None
  pub no_number : p.number ≡ no_number
  pub no_slot : p.hand ≡ nothing
  pub no_part : p.swept ≡ unread

-- inside the arena
pub record IsInside (pool : Pool) (p : View) (id : ArenaId) : Type 0 where
  pub of : IsOf pool p
  pub inside : p.inside ≡ Some id
  pub no_number : p.number ≡ no_number
  pub no_slot : p.hand ≡ nothing
  pub no_part : p.swept ≡ unread

-- outside, and the arena is known
pub record CanVisit (pool : Pool) (p : View) (id : ArenaId) : Type 0 where
  pub outside : IsOutside pool p
  pub known : IsKnown p id

-- and it has no page in its hand
pub record CanAllocate (pool : Pool) (p : View) (id : ArenaId) : Type 0 where
  pub visit : CanVisit pool p id
  pub no_page : p.pages ≡ []

-- inside an arena, where the word has a given byte
pub record CanReach (pool : Pool) (p : View) (word : ℕ) : Type 0 where
  pub id : ArenaId
  pub inside : IsInside pool p id
  pub given : 8 * word < given_of p id

-- the word can be reached, and the bits lie under the mask
pub record CanPatch (pool : Pool) (p : View) (word mask bits : ℕ) : Type 0 where
  pub reach : CanReach pool p word
  pub under : bit_and bits mask ≡ bits

-- inside an arena
pub record CanLeave (pool : Pool) (p : View) : Type 0 where
  pub id : ArenaId
  pub inside : IsInside pool p id

-- the pass took the hold, and may stand anywhere
pub record CanUnhold (pool : Pool) (p : View) (hold : Hold) : Type 0 where
  pub of : IsOf pool p
  pub maker : hold.maker ≡ made_by_pass p
  pub known : IsKnown p hold.arena
  pub held : In hold.arena p.holds
  pub by_hand : hold.arena.kind ≢ Automatic

-- the pass has a handle of the automatic arena, and may stand anywhere
pub record HasHandle (pool : Pool) (p : View) (id : ArenaId) : Type 0 where
  pub of : IsOf pool p
  pub known : IsKnown p id
  pub has : In id p.handles
  pub automatic : id.kind ≡ Automatic
