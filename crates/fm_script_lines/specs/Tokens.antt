-- The holds and handles that a pass has for the names of its lines.
use Rattle.std.specs.Prelude.{◌≡◌, List, [], ◌∷◌, ◌++◌, Option, Some, None, All, IfSome, ⊤}
use Rattle.fm_base.specs.declared.arena_id.ArenaId.{ArenaId}
use Rattle.fm_rule_facts.specs.{Holds.{how_many, released}, Views.{View}}
use Rattle.fm_arena.specs.{Handles.{HasHandle}, Learnt.{CanUnhold}}
use Rattle.fm_script_lines.specs.{declared.standing.Standing.{Standing, TheVariants.{Automatic, Hold, Handle}}, Standings.{IsBacked, hold_of, handle_of, lent}}

abbrev pub onto : Option ArenaId → List ArenaId → List ArenaId
onto None ids = ids
onto (Some id) ids = id ∷ ids

-- the holds with that of a name, and the handles likewise
abbrev pub holds_with : Standing → List ArenaId → List ArenaId
holds_with s holds = onto (hold_of s) holds

abbrev pub handles_with : Standing → List ArenaId → List ArenaId
handles_with s handles = onto (handle_of s) handles

-- the list without the one of a name
abbrev pub without : Option ArenaId → List ArenaId → List ArenaId
without None ids = ids
without (Some id) ids = released id ids

-- what it stands for may be given back
abbrev pub CanSpend : View → Standing → Type 0
CanSpend p (Hold hold) = IfSome hold (CanUnhold p)
CanSpend p (Automatic id handle) = IfSome handle (HasHandle p)
CanSpend p (Handle handle) = IfSome handle (HasHandle p)
CanSpend p s = ⊤

-- outside all arenas, the pass may give it back
pub record MaySpend (p : View) (s : Standing) : Type 0 where
  pub outside : p.inside ≡ None
  pub can : CanSpend p s

-- those of these names
abbrev pub among : (Standing → Option ArenaId) → List Standing → List ArenaId
among token [] = []
among token (s ∷ ss) = onto (token s) (among token ss)

-- a pass has those of its names, in whatever order, before others that it had
pub record HasTokens (all named others : List ArenaId) : Type 0 where
  pub mine : List ArenaId
  pub are : all ≡ mine ++ others
  pub as_many : (id : ArenaId) → how_many id mine ≡ how_many id named

-- What the names stand for, those of others' lines and its own, the pass knows, and has by these holds and handles
pub record BacksWith (p : View) (all_holds all_handles holds handles : List ArenaId) (base own : List Standing) : Type 0 where
  pub others_known : All (λ s. IsBacked p (lent s)) base
  pub own_known : All (IsBacked p) own
  pub has_holds : HasTokens all_holds (among hold_of own) holds
  pub has_handles : HasTokens all_handles (among handle_of own) handles

-- by those that it has
abbrev pub Backs : View → (holds handles : List ArenaId) (base own : List Standing) → Type 0
Backs p holds handles base own = BacksWith p p.holds p.handles holds handles base own

-- before the holds and handles of its names it had some others
pub record IsReady (p : View) (base own : List Standing) : Type 0 where
  pub other_holds : List ArenaId
  pub other_handles : List ArenaId
  pub backs : Backs p other_holds other_handles base own
