-- What stays: nobody but caller 0 is under way, and the arena that it entered is alive.
use Rattle.std.proofs.Common.{◌≡◌, ℕ, List, [], ◌∷◌, refl, sym, ◌∙◌, subst, Option, Some, None, All}
use Rattle.std.proofs.lemmas.List.Elements.{All-nil, All-cons, All-head, All-tail, All-filter}
use Rattle.fm_base.specs.{declared.{caller.Caller.{Caller}, arena_id.ArenaId.{ArenaId}}, Arenas.{only_caller, State, Arena, arena_of, changed}}
use Rattle.fm_base.specs.Calls.{Call, Open, Enter, Write, SwapIf, Add, Allocate, Leave, Hold, Unhold, Shut, End, Reply, Fine, Found, Given, Entry}
use Rattle.fm_base.specs.{Machine.{change_of, state_by, after}, Histories.{state_after}}
use Rattle.fm_base.proofs.Lookup.{Relates, made_lookup, KeepsName, changed_lookup, changed_has}
use Rattle.fm_memory_doubles.specs.Double.{IsOnlyZero, IsInAlive}

KeepsZero : Arena → Arena → Type 0
KeepsZero a b = All (λ c. c ≡ only_caller) a.under_way → All (λ c. c ≡ only_caller) b.under_way

same_zero : (a : Arena) → KeepsZero a a
unfolding KeepsZero
same_zero a z = z

zero_by : (limit : ℕ) (s : State) (call : Call) (reply : Reply) → Relates KeepsZero s (change_of limit only_caller call reply)
unfolding KeepsZero
zero_by limit s (Open id) reply = λ z. All-nil (λ c. c ≡ only_caller)
zero_by limit s (Enter id) Fine = λ z. All-cons (λ c. c ≡ only_caller) only_caller (arena_of s id).under_way refl z
zero_by limit s (Write id word value) reply = λ z. z
zero_by limit s (SwapIf id word old new) (Found found) = λ z. z
zero_by limit s (Add id word n) (Found found) = λ z. z
zero_by limit s (Allocate id size align) (Given place) = λ z. z
zero_by limit s (Leave id) reply = λ z. All-filter _ (λ c. c ≡ only_caller) (arena_of s id).under_way z
zero_by limit s (Hold id) Fine = λ z. z
zero_by limit s (Unhold id) reply = λ z. z
zero_by limit s (Shut id) Fine = λ z. z
zero_by limit s (End id) reply = λ z. z
zero_by limit s call reply = tt

zero_next : (limit : ℕ) (s : State) (call : Call) (reply : Reply) → IsOnlyZero s → IsOnlyZero (state_by limit s only_caller call reply)
unfolding KeepsZero
zero_next limit s call reply z other = made_lookup KeepsZero same_zero s (change_of limit only_caller call reply) (zero_by limit s call reply) other (z other)

-- Entries of caller 0 leave nobody else under way.
pub zero_after : (limit : ℕ) (s : State) (es : List Entry) → All (λ e. e.caller ≡ only_caller) es → IsOnlyZero s → IsOnlyZero (state_after limit s es)
zero_after limit s [] by z = z
zero_after limit s (e ∷ es) by z =
    let c = All-head (λ (x : Entry). x.caller ≡ only_caller) e es by in
    let next : IsOnlyZero (after limit s e) = subst (λ (k : Caller). IsOnlyZero (state_by limit s k e.call e.reply)) (sym c)
    (zero_next limit s e.call e.reply z) in
    zero_after limit (after limit s e) es (All-tail (λ (x : Entry). x.caller ≡ only_caller) e es by) next

-- ---- the arena that was entered

SameLife : Arena → Arena → Type 0
SameLife a b = b.life ≡ a.life

-- A change that leaves the lives.
pub alive_changed : (f : Arena → Arena) → KeepsName f → ((a : Arena) → (f a).life ≡ a.life) → (s : State) (id : ArenaId) (inside : Option ArenaId)
    → IsInAlive s inside → IsInAlive (changed s id f) inside
unfolding SameLife
alive_changed f named same s id None h = tt
alive_changed f named same s id (Some other) h =
    (changed_has f named s id other ∙ h.0, changed_lookup SameLife f named (λ a. refl) s id (same (arena_of s id)) other ∙ h.1)
