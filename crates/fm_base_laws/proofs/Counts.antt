-- An arena's count of given bytes, and its holds, where no entry changes them.
use Rattle.std.proofs.Common.{◌≡◌, ℕ, [], ◌∷◌, refl, sym, ◌∙◌, arith}
use Rattle.fm_base.specs.{declared.{caller.Caller.{Caller}, arena_id.ArenaId.{ArenaId}}, Arenas.{State, Arena, arena_of}}
use Rattle.fm_base.specs.Calls.{Call, Open, Enter, Write, SwapIf, Add, Allocate, Leave, Hold, Unhold, Shut, End, Reply, Fine, Found, Given, Entry}
use Rattle.fm_base.{specs.Machine.{change_of, after}, proofs.Lookup.{Relates, Same, made_lookup, arena_of-id}}
use Rattle.fm_base_laws.specs.Counts.{AsksNone, GivenStays, HoldsNone, StaysUnheld}

-- ---- what was given

-- A call that asks none of its bytes leaves the count.
given_by : (limit : ℕ) (s : State) (c : Caller) (call : Call) (reply : Reply) (id : ArenaId) → AsksNone id call
    → Relates (Same (λ a. a.given) id) s (change_of limit c call reply)
unfolding Same
given_by limit s c (Open a) reply id none = λ e. refl
given_by limit s c (Enter a) Fine id none = λ e. refl
given_by limit s c (Write a word v) reply id none = λ e. refl
given_by limit s c (SwapIf a word old new) (Found found) id none = λ e. refl
given_by limit s c (Add a word n) (Found found) id none = λ e. refl
given_by limit s c (Allocate a size align) (Given p) id none = λ e. absurd (none (sym (arena_of-id s a) ∙ e))
given_by limit s c (Leave a) reply id none = λ e. refl
given_by limit s c (Hold a) Fine id none = λ e. refl
given_by limit s c (Unhold a) reply id none = λ e. refl
given_by limit s c (Shut a) Fine id none = λ e. refl
given_by limit s c (End a) reply id none = λ e. refl
given_by limit s c call reply id none = tt

-- So it stays where it is looked up.
given_still : (limit : ℕ) (s : State) (e : Entry) (id : ArenaId) → AsksNone id e.call → (arena_of (after limit s e) id).given ≡ (arena_of s id).given
unfolding Same
given_still limit s e id none =
    made_lookup (Same (λ a. a.given) id) (λ a n. refl) s (change_of limit e.caller e.call e.reply)
    (given_by limit s e.caller e.call e.reply id none) id (arena_of-id s id)

pub given_stays : GivenStays
given_stays limit s [] id all = refl
given_stays limit s (e ∷ es) id all = given_stays limit (after limit s e) es id all.1 ∙ given_still limit s e id all.0

-- ---- holds

-- an arena of this name that nobody held is held by nobody
Unheld : ArenaId → Arena → Arena → Type 0
Unheld id a b = a.id ≡ id → a.holds ≡ 0 → b.holds ≡ 0

-- A call that takes no hold of it leaves it so.
unheld_by : (limit : ℕ) (s : State) (c : Caller) (call : Call) (reply : Reply) (id : ArenaId) → HoldsNone id call
    → Relates (Unheld id) s (change_of limit c call reply)
unfolding Unheld
unheld_by limit s c (Open a) reply id free = λ e z. refl
unheld_by limit s c (Enter a) Fine id free = λ e z. z
unheld_by limit s c (Write a word v) reply id free = λ e z. z
unheld_by limit s c (SwapIf a word old new) (Found found) id free = λ e z. z
unheld_by limit s c (Add a word n) (Found found) id free = λ e z. z
unheld_by limit s c (Allocate a size align) (Given p) id free = λ e z. z
unheld_by limit s c (Leave a) reply id free = λ e z. z
unheld_by limit s c (Hold a) Fine id free = λ e z. absurd (free (sym (arena_of-id s a) ∙ e))
unheld_by limit s c (Unhold a) reply id free = λ e z. omega arith
unheld_by limit s c (Shut a) Fine id free = λ e z. z
unheld_by limit s c (End a) reply id free = λ e z. z
unheld_by limit s c call reply id free = tt

-- So it stays where it is looked up.
unheld_still : (limit : ℕ) (s : State) (e : Entry) (id : ArenaId) → HoldsNone id e.call → (arena_of s id).holds ≡ 0
    → (arena_of (after limit s e) id).holds ≡ 0
unfolding Unheld
unheld_still limit s e id free =
    made_lookup (Unheld id) (λ a n z. z) s (change_of limit e.caller e.call e.reply) (unheld_by limit s e.caller e.call e.reply id free) id (arena_of-id s id)

pub stays_unheld : StaysUnheld
stays_unheld limit s [] id all z = z
stays_unheld limit s (e ∷ es) id all z = stays_unheld limit (after limit s e) es id all.1 (unheld_still limit s e id all.0 z)
