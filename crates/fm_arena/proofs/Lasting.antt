-- What is told of a pass tells its pool and what it has.
use Rattle.std.proofs.Common.{◌≡◌, ◌∙◌, ◌∷◌, ◌++◌, ℕ, List, ap, sym, subst}
use Rattle.fm_base.{specs.{declared.arena_id.ArenaId.{ArenaId}, Calls.{Entry}, Finds.{Rest}, View.{Makes}}, proofs.Outcomes.{Makes-lasts}}
use Rattle.fm_words.specs.declared.shape.Shape.{Shape}
use Rattle.fm_rule_facts.specs.Views.{View, In, IsKnown}
use Rattle.fm_gate.specs.{declared.held.Hold.{Hold}, Makers.{made_by_pass}}
use Rattle.fm_rule_calls.specs.{Kept.{shape_numbers}, Told.{view_of_pass}}
use Rattle.fm_arena.specs.{declared.handle.AutoHandle.{AutoHandle}, Learnt.{CanUnhold}, Handles.{HasHandle, IsHandled}, Lasting.{StaysInItsPool, KeepsItsPool}}

-- The shape whose numbers these are.
abbrev shape_from : Shape → List ℕ → Shape
shape_from z (passes ∷ slots ∷ pages ∷ page_words ∷ reach ∷ generations ∷ ns) =
    record { passes = passes; slots = slots; pages = pages; page_words = page_words; reach = reach; generations = generations }
shape_from z ns = z

-- What passes have tells their pool, and what shape it was made in.
pub stays : StaysInItsPool
stays p q own m =
    let home : (shape_numbers q.shape ++ q.home) ≡ (shape_numbers p.shape ++ p.home) = ap (λ (x : Rest). x.home) m.told.rest in
    record { home = cc; shape = ap (shape_from p.shape) home }

pub keeps : KeepsItsPool
keeps = record { stays = stays; of = λ pool p q same of. (same.home ∙ of.0, same.shape ∙ of.1) }

-- What was known is known.
known_after : (p q : View) (own : List Entry) → Makes (view_of_pass p) (view_of_pass q) own → (id : ArenaId) → IsKnown p id → IsKnown q id
known_after p q own m = (Makes-lasts (view_of_pass p) (view_of_pass q) own m).known

-- The pass is the maker that it was.
made_after : (p q : View) (own : List Entry) → Makes (view_of_pass p) (view_of_pass q) own → made_by_pass q ≡ made_by_pass p
made_after p q own m = let same = stays p q own m in λ j. record { home = same.home j; caller = m.same_caller j }

-- A hold whose arena the pass still has among its holds can still be spent.
pub hold_on : (p q : View) (hold : Hold) → ((id : ArenaId) → IsKnown p id → IsKnown q id) → made_by_pass q ≡ made_by_pass p → In hold.arena q.holds
    → CanUnhold p hold → CanUnhold q hold
hold_on p q hold known made held can = record {
  maker = can.maker ∙ sym made;
  known = known hold.arena can.known;
  held = held;
  by_hand = can.by_hand;
}

-- So where the holds are the same.
pub hold_same : (p q : View) (hold : Hold) → ((id : ArenaId) → IsKnown p id → IsKnown q id) → made_by_pass q ≡ made_by_pass p → q.holds ≡ p.holds
    → CanUnhold p hold → CanUnhold q hold
hold_same p q hold known made same can = hold_on p q hold known made (subst (λ (hs : List ArenaId). In hold.arena hs) (sym same) can.held) can

-- By the calls of a memory.
pub hold_after : (p q : View) (own : List Entry) (hold : Hold) → Makes (view_of_pass p) (view_of_pass q) own → CanUnhold p hold → CanUnhold q hold
hold_after p q own hold m can = hold_same p q hold (known_after p q own m) (made_after p q own m) (ap (λ (x : Rest). x.holds) m.told.rest) can

pub handled_on : (p q : View) (id : ArenaId) → ((id : ArenaId) → IsKnown p id → IsKnown q id) → In id q.handles → IsHandled p id → IsHandled q id
handled_on p q id known has can = record { known = known id can.known; has = has; automatic = can.automatic }

module _ (p q : View) (handle : AutoHandle) (known : (id : ArenaId) → IsKnown p id → IsKnown q id) (made : made_by_pass q ≡ made_by_pass p) where
  -- A handle of an arena of which the pass still has one can still be used.
  pub handle_on : In handle.arena q.handles → HasHandle p handle → HasHandle q handle
  handle_on has can = record { maker = can.maker ∙ sym made; handled = handled_on p q handle.arena known has can.handled }

  -- So can each where the pass has the handles that it had.
  pub handle_same : q.handles ≡ p.handles → HasHandle p handle → HasHandle q handle
  handle_same same can = handle_on (subst (λ (hs : List ArenaId). In handle.arena hs) (sym same) can.handled.has) can

pub handle_after : (p q : View) (own : List Entry) (handle : AutoHandle) → Makes (view_of_pass p) (view_of_pass q) own → HasHandle p handle
    → HasHandle q handle
handle_after p q own handle m can = handle_same p q handle (known_after p q own m) (made_after p q own m) (ap (λ (x : Rest). x.handles) m.told.rest) can
