-- A state has the arenas that were opened, in that order.
use Rattle.std.{proofs.Common.{◌≡◌, ℕ, true, false, if◌then◌else◌, List, [], ◌∷◌, ◌++◌, map, refl, ap, sym, ◌∙◌, append_assoc}, specs.List.{flat_map}}
use Rattle.std.proofs.lemmas.List.{map-append, append-nil}
use Rattle.fm_base.specs.{declared.{caller.Caller.{Caller}, arena_id.ArenaId.{ArenaId}}, Arenas.{State, Arena, changed, same_id}}
use Rattle.fm_base.specs.Calls.{Call, Open, Enter, Write, SwapIf, Add, Allocate, Leave, Hold, Unhold, Shut, End, Reply, Fine, Found, Given, Entry}
use Rattle.fm_base.specs.{Histories.{state_after}, Machine.{Change, Opens, Alters, Rests, made, change_of, after}}
use Rattle.fm_base_laws.specs.Opened.{opened_by, OpenedInOrder}

-- the names of the arenas of a state
names : State → List ArenaId
names s = map (λ a. a.id) s

-- A change of an arena changes no name.
names_changed : (f : Arena → Arena) → ((a : Arena) → (f a).id ≡ a.id) → (s : State) (id : ArenaId) → names (changed s id f) ≡ names s
unfolding names
names_changed f named [] id = refl
names_changed f named (a ∷ s) id =
    elim (same_id a.id id) as (λ b. map (λ (x : Arena). x.id) (if b then f a ∷ s else a ∷ changed s id f) ≡ a.id ∷ map (λ (x : Arena). x.id) s) [
      | true ↦ ap (λ i. i ∷ map (λ (x : Arena). x.id) s) (named a)
      | false ↦ ap (λ is. a.id ∷ is) (names_changed f named s id)
    ]

-- the name that a change brings
names_of : Change → List ArenaId
names_of (Opens o) = o.id ∷ []
names_of (Alters id f named) = []
names_of Rests = []

-- It comes behind the names that were there.
names_made : (s : State) (h : Change) → names (made h s) ≡ names s ++ names_of h
unfolding names names_of
names_made s (Opens o) = map-append (λ (a : Arena). a.id) s (o ∷ [])
names_made s (Alters id f named) = names_changed f named s id ∙ sym (append-nil (map (λ (a : Arena). a.id) s))
names_made s Rests = sym (append-nil (map (λ (a : Arena). a.id) s))

-- A call brings the name of the arena that it opens.
names_by : (limit : ℕ) (c : Caller) (call : Call) (reply : Reply) → names_of (change_of limit c call reply) ≡ opened_by call
unfolding names_of
names_by limit c (Open a) reply = refl
names_by limit c (Enter a) Fine = refl
names_by limit c (Write a word v) reply = refl
names_by limit c (SwapIf a word old new) (Found found) = refl
names_by limit c (Add a word n) (Found found) = refl
names_by limit c (Allocate a size align) (Given p) = refl
names_by limit c (Leave a) reply = refl
names_by limit c (Hold a) Fine = refl
names_by limit c (Unhold a) reply = refl
names_by limit c (Shut a) Fine = refl
names_by limit c (End a) reply = refl
names_by limit c call reply = refl

-- Entries in a row bring the names of those that they open.
names_behind : (limit : ℕ) (s : State) (h : List Entry) → names (state_after limit s h) ≡ names s ++ flat_map (λ e. opened_by e.call) h
names_behind limit s [] = sym (append-nil (names s))
names_behind limit s (e ∷ es) =
    names_behind limit (after limit s e) es
    ∙ ap (λ is. is ++ flat_map (λ x. opened_by x.call) es)
    (names_made s (change_of limit e.caller e.call e.reply) ∙ ap (λ is. names s ++ is) (names_by limit e.caller e.call e.reply))
    ∙ append_assoc (names s) (opened_by e.call) (flat_map (λ x. opened_by x.call) es)

pub opened_in_order : OpenedInOrder
unfolding names
opened_in_order limit h = names_behind limit [] h
