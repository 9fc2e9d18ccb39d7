-- What holds of a pass that a `Shared` has, and what its memory may answer.
use Rattle.std.specs.Prelude.{◌≡◌, true, false, [], None}
use Rattle.fm_base.specs.{declared.arena_id.ArenaId.{ArenaId}, Outcomes.{Nature}}
use Rattle.fm_rule_facts.specs.{Views.{View}, Hands.{nothing, no_number}, Parts.{unread}}
use Rattle.fm_rule.specs.{declared.pool.Pool.{Pool}, Passes.{IsOf}}
use Rattle.fm_rule_calls.specs.Kept.{HasEnded, HasNoWords}
use Rattle.fm_gate.specs.Needs.{IsOutside}

-- outside, with no page in its hand
pub record CanShare (pool : Pool) (p : View) : Type 0 where
  pub outside : IsOutside pool p
  pub no_page : p.pages ≡ []

-- Outside the pass publishes no mark; it has no number, no slot and no page in its hand, and is at no part of a sweep
pub record IsQuiet (p : View) : Type 0 where
  pub unmarked : p.inside ≡ None → p.mark ≡ None
  pub no_number : p.number ≡ no_number
  pub no_slot : p.hand ≡ nothing
  pub no_part : p.swept ≡ unread
  pub no_page : p.pages ≡ []

-- a quiet pass of the pool
pub record IsHeld (pool : Pool) (p : View) : Type 0 where
  pub of : IsOf pool p
  pub quiet : IsQuiet p

-- the arena has ended, and no word of the pool is lent to it any more
pub record IsGone (p : View) (id : ArenaId) : Type 0 where
  pub ended : HasEnded p id
  pub no_words : HasNoWords p id

-- others may exist; slots and pages may be short, and no call takes memory
abbrev pub nature_of_shared : Nature
nature_of_shared = record { alone = false; memory = false; no_slot = true; pool_full = true }
