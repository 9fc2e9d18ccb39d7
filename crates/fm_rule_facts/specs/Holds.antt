-- The holds that passes have; those of an automatic arena are its handles.
use Rattle.std.specs.Prelude.{ℕ, ◌+◌, Bool, true, if◌then◌else◌, List, [], ◌∷◌}
use Rattle.fm_base.specs.{declared.arena_id.ArenaId.{ArenaId}, Arenas.{same_id}, Calls.{Reply, Fine}}
use Rattle.fm_base_machine.specs.Functions.{Machine}
pub use Rattle.fm_base_machine.specs.Handles.{one_if, one_alive}
use Rattle.fm_rule_facts.specs.Views.{View}
pub use Rattle.fm_rule_facts.specs.Views.{is_automatic, grips, how_many}

-- the view with these in their place
abbrev pub with_grips : ArenaId → List ArenaId → View → View
with_grips a gs v = record v {
  holds = if is_automatic a.kind then v.holds else gs;
  handles = if is_automatic a.kind then gs else v.handles;
}

-- the holds after a Hold of the expected word that was answered so
abbrev pub holds_after : Bool → ArenaId → Reply → List ArenaId → List ArenaId
holds_after true a Fine hs = a ∷ hs
holds_after found a reply hs = hs

-- the handles after the arena was opened
abbrev pub handles_with : ArenaId → List ArenaId → List ArenaId
handles_with a hs = if is_automatic a.kind then a ∷ hs else hs

-- without the first hold of the arena
abbrev pub released : ArenaId → List ArenaId → List ArenaId
released a [] = []
released a (b ∷ bs) = if same_id b a then bs else b ∷ released a bs

-- how many holds of the arena the view has
abbrev pub holds_of : ArenaId → View → ℕ
holds_of a v = if v.live then how_many a (grips a v) else 0

abbrev pub total : (View → ℕ) → List View → ℕ
total f [] = 0
total f (v ∷ vs) = f v + total f vs

-- how many holds of the arena all views have: an automatic one that is alive has a handle more than the machine counts
abbrev pub all_holds : ArenaId → Machine → ℕ
all_holds a t = t.holds a + (if is_automatic a.kind then one_alive (t.life a) else 0)
