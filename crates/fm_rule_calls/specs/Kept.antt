-- How a pass goes on by the entries of one of its calls.
use Rattle.std.specs.Prelude.{◌≡◌, ◌≤◌, true, List, [], ◌∷◌, ◌++◌, All, ℕ}
use Rattle.fm_base.specs.{declared.arena_id.ArenaId.{ArenaId}, Arenas.{Ended, arena_of}, Calls.{Entry}, Histories.{made_by}}
use Rattle.fm_base.specs.{Finds.{Close, Rest, FindsMore}, View.{inside_after}}
use Rattle.fm_words.specs.declared.shape.Shape.{Shape}
use Rattle.fm_rule_facts.specs.{Hands.{slots_in}, Loans.{loans_of, IsUnlent}, Views.{View, IsKnown, IsSound, given_of, state_in}}

-- The pass goes on by entries, of which these are its own, wholly after all that it had seen
pub record Goes (old new : View) (own : List Entry) : Type 0 where
  -- the entries, those of others too
  pub more : List Entry
  pub seen : new.seen ≡ old.seen ++ more
  pub by_pass : made_by old.caller more ≡ own
  -- no gathered caller made one of them, and where the pass is known to be whole nobody else did
  pub apart : All (λ g. made_by g.caller more ≡ []) old.gathered
  pub alone : old.whole ≡ true → more ≡ own
  pub inside : new.inside ≡ inside_after old.inside own
  pub finds : FindsMore old.finds new.finds
  pub same_shape : new.shape ≡ old.shape
  pub same_home : new.home ≡ old.home
  pub same_caller : new.caller ≡ old.caller
  pub same_gathered : new.gathered ≡ old.gathered
  pub same_whole : new.whole ≡ old.whole
  pub same_number : new.number ≡ old.number
  pub sound : IsSound new

abbrev pub shape_numbers : Shape → List ℕ
shape_numbers z = z.passes ∷ z.slots ∷ z.pages ∷ z.page_words ∷ z.reach ∷ z.generations ∷ []

-- what a pass has, and what was gathered into it
abbrev pub rest_of : View → Rest
rest_of p = record {
  home = shape_numbers p.shape ++ p.home;
  holds = p.holds;
  handles = p.handles;
  closes = p.closes;
  sweeps = p.sweeps;
  pages = p.pages;
  slots = slots_in p.hand;
  gathered = p.gathered;
  whole = p.whole;
}

-- The pass keeps faith with own entries that are as P says, and has these
pub record KeptAs (old new : View) (things : Rest) (P : List Entry → Type 0) : Type 0 where
  pub own : List Entry
  pub does : P own
  pub goes : Goes old new own
  pub rest : rest_of new ≡ things

-- the same, and it has what it had, but for these closes
abbrev pub KeptBut : View → View → List Close → (List Entry → Type 0) → Type 0
KeptBut old new closes P = KeptAs old new (record (rest_of old) { closes = closes }) P

-- but for these holds
abbrev pub KeptHolding : View → View → List ArenaId → (List Entry → Type 0) → Type 0
KeptHolding old new holds P = KeptAs old new (record (rest_of old) { holds = holds }) P

-- but for these handles
abbrev pub KeptHandling : View → View → List ArenaId → (List Entry → Type 0) → Type 0
KeptHandling old new handles P = KeptAs old new (record (rest_of old) { handles = handles }) P

-- and it has all that it had
abbrev pub Kept : View → View → (List Entry → Type 0) → Type 0
Kept old new P = KeptBut old new old.closes P

-- the arena is known, and it has ended
pub record HasEnded (p : View) (id : ArenaId) : Type 0 where
  pub known : IsKnown p id
  pub life : (arena_of (state_in p) id).life ≡ Ended

-- no words of the pool are lent to the arena
abbrev pub HasNoWords : View → ArenaId → Type 0
HasNoWords p id = IsUnlent (loans_of p.seen) id

-- what was known is known, what was given is given, what had ended has ended, and what of it had no words has none
pub record Lasts (old new : View) : Type 0 where
  pub given : (id : ArenaId) → given_of old id ≤ given_of new id
  pub known : (id : ArenaId) → IsKnown old id → IsKnown new id
  pub ended : (id : ArenaId) → HasEnded old id → HasEnded new id
  pub no_words : (id : ArenaId) → HasEnded old id → HasNoWords old id → HasNoWords new id
