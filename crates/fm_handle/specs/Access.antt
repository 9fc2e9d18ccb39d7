-- What the calls of a handle do at the place of its value, or the refusal before.
use Rattle.std.specs.Prelude.{◌≡◌, ◌≢◌, ℕ, ℤ, Bool, true, false, List, Result, Ok, Err}
use Rattle.fm_base.specs.{declared.{caller.Caller.{Caller}, arena_id.ArenaId.{ArenaId}, refusal.Refusal.{Refusal}}, Arenas.{MayUse}, Calls.{Entry}}
use Rattle.fm_base.specs.{Does.{DoesEnter}, Visits.{Acts, entries_of, visit}}
use Rattle.fm_lanes.specs.declared.value.Value.{Value}
use Rattle.fm_path.specs.Resolution.{Resolution}
use Rattle.fm_segment_access.specs.{Found.{DoesAt}, Values.{DoesGetValue, DoesPutValue}}
use Rattle.fm_segment.specs.Region.{Region}
use Rattle.fm_handle.specs.Acts.{word_of, Stores, ExchangesLong, AddsLong, Exchanges, Adds}

-- one visit whose acts are so
pub record OneVisit (c : Caller) (id : ArenaId) (AreSo : Acts → Type 0) (own : List Entry) : Type 0 where
  pub acts : Acts
  pub are : AreSo acts
  pub visits : own ≡ visit c id acts

-- one visit whose acts give the answer, or the refusal to enter
abbrev pub DoesVisit : {X : Type 0} → Caller → ArenaId → (X → Acts → Type 0) → Result X Refusal → List Entry → Type 0
DoesVisit c id Give (Ok x) own = MayUse id c × OneVisit c id (Give x) own
DoesVisit c id Give (Err r) own = DoesEnter c id (Err r) own

-- such acts inside the arena
pub record DoesInside (c : Caller) (AreSo : Acts → Type 0) (own : List Entry) : Type 0 where
  pub acts : Acts
  pub are : AreSo acts
  pub entries : own ≡ entries_of c acts

-- ---- the calls

abbrev pub DoesGet : Caller → Resolution → Region → Result ℕ Refusal → Result Value Refusal → List Entry → Type 0
DoesGet c h r found = DoesAt found (DoesGetValue c h.value.kind h.value.order r.arena)

abbrev pub DoesSet : Caller → Resolution → Region → Result ℕ Refusal → Value → Result (Unit {0}) Refusal → List Entry → Type 0
DoesSet c h r found v = DoesAt found (DoesPutValue c h.value.order r.arena v)

abbrev pub DoesSetLong : Caller → Resolution → Region → Result ℕ Refusal → ℤ → Result (Unit {0}) Refusal → List Entry → Type 0
DoesSetLong c h r found v =
    DoesAt found (λ place. DoesVisit c r.arena (λ u. Stores r.arena place (word_of h.value.order v)))

abbrev pub DoesExchangeLong : Caller → Resolution → Region → Result ℕ Refusal → ℤ → ℤ → Result ℤ Refusal → List Entry → Type 0
DoesExchangeLong c h r found expected v =
    DoesAt found (λ place. DoesVisit c r.arena (ExchangesLong h.value.order r.arena place expected v))

abbrev pub DoesAddLong : Caller → Resolution → Region → Result ℕ Refusal → ℤ → Result ℤ Refusal → List Entry → Type 0
DoesAddLong c h r found delta = DoesAt found (λ place. DoesVisit c r.arena (AddsLong r.arena place delta))

abbrev pub DoesExchange : Caller → Resolution → Region → Result ℕ Refusal → Value → Value → Result Value Refusal → List Entry → Type 0
DoesExchange c h r found expected v =
    DoesAt found (λ place. DoesVisit c r.arena (Exchanges h.value.order r.arena place expected v))

-- whether an exchange found what was expected
abbrev pub Wins : (Value → Acts → Type 0) → Value → Bool → Acts → Type 0
Wins Exchange expected true acts = Exchange expected acts
Wins Exchange expected false acts = (found : Value) × (found ≢ expected) × Exchange found acts

abbrev pub DoesCompareAndSet : Caller → Resolution → Region → Result ℕ Refusal → Value → Value → Result Bool Refusal → List Entry → Type 0
DoesCompareAndSet c h r found expected v =
    DoesAt found (λ place. DoesVisit c r.arena (Wins (Exchanges h.value.order r.arena place expected v) expected))

abbrev pub DoesAdd : Caller → Resolution → Region → Result ℕ Refusal → Value → Result Value Refusal → List Entry → Type 0
DoesAdd c h r found delta = DoesAt found (λ place. DoesVisit c r.arena (Adds h.value.order r.arena place delta))
