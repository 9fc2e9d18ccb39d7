-- What passes of tests can do with an arena.
use Rattle.std.specs.Prelude.{◌≡◌, ◌≢◌, ◌≤◌, Result, Err}
use Rattle.fm_base.specs.declared.{arena_id.ArenaId.{ArenaId}, caller.Caller.{Caller}, kind.Kind.TheVariants.{Confined}, refusal.Refusal.{Refusal}}
use Rattle.fm_base.specs.{declared.refusal.Refusal.TheVariants.{WrongThread}, Arenas.{owner_of}}
use Rattle.fm_rule_facts.specs.Views.{View, IsKnown, given_of}
use Rattle.fm_rule.specs.declared.pool.Pool.{Pool}
use Rattle.fm_gate.specs.{Crews.{HasNothing}, Needs.{CanVisit, IsInside}}

-- the pass is inside the arena, which has given 64 bytes
pub record CanAct (pool : Pool) (p : View) (a : ArenaId) : Type 0 where
  pub inside : IsInside pool p a
  pub given : 64 ≤ given_of p a
  pub known : IsKnown p a

-- the pass can visit the arena, which has given a word, and be gathered afterwards
abbrev pub CanWork : Pool → View → ArenaId → Type 0
CanWork pool p a = CanVisit pool p a × (8 ≤ given_of p a) × HasNothing p

-- who isn't the arena's owner, by number and term, is kept out of a confined one
abbrev pub IsKeptOut : ArenaId → Caller → Result (Unit {0}) Refusal → Type 0
IsKeptOut a c result = a.kind ≡ Confined → owner_of a ≢ c → result ≡ Err WrongThread
