-- Arenas that are looked up after a change of one.
use Rattle.std.{proofs.Common.{◌≡◌, ℕ, ◌==◌, slice_set, ◌∙◌, Bool, true, false, [], ◌∷◌, ◌++◌, refl, ap, sym, subst, if◌then◌else◌}, specs.Prelude.{⊤}}
use Rattle.fm_base.{proofs.Names.{same_id-self, same_id-true}, specs.declared.arena_id.ArenaId.{ArenaId}}
use Rattle.fm_base.specs.Arenas.{State, Arena, arena_of, has_arena, changed, same_id, no_arena}
use Rattle.fm_base.specs.Machine.{Change, Opens, Alters, Rests, made, written, swapped}

-- a change of an arena leaves its name
abbrev pub KeepsName : (Arena → Arena) → Type 0
KeepsName f = (a : Arena) → (f a).id ≡ a.id

-- what is looked up after a change of the arena `id`: the changed arena or the one before
pub changed_lookup : (P : Arena → Arena → Type 0) (f : Arena → Arena) → KeepsName f → ((a : Arena) → P a a)
    → (s : State) (id : ArenaId) → P (arena_of s id) (f (arena_of s id)) → (other : ArenaId) → P (arena_of s other) (arena_of (changed s id f) other)
changed_lookup P f named same [] id made other = same (no_arena other)
changed_lookup P f named same (a ∷ s) id made other =
    let Q : Bool → Type 0 = λ b. P (if b then a else arena_of s id) (f (if b then a else arena_of s id))
    → P (if same_id a.id other then a else arena_of s other) (arena_of (if b then f a ∷ s else a ∷ changed s id f) other) in
    let go : (b : Bool) → Q b = λ b. elim b as Q [
      | true ↦ (λ here.
          subst (λ (b : Bool). P (if same_id a.id other then a else arena_of s other) (if b then f a else arena_of s other))
          (ap (λ i. same_id i other) (sym (named a)))
          (elim (same_id a.id other) as (λ c. P (if c then a else arena_of s other) (if c then f a else arena_of s other)) [
            | true ↦ here
            | false ↦ same (arena_of s other)
          ]))
      | false ↦ (λ here.
          elim (same_id a.id other) as (λ c. P (if c then a else arena_of s other) (if c then a else arena_of (changed s id f) other)) [
            | true ↦ same a
            | false ↦ changed_lookup P f named same s id here other
          ])
    ] in
    go (same_id a.id id) made

-- what is looked up after an arena was opened: the new one, or the one before
pub opened_lookup : (P : Arena → Arena → Type 0) → ((a : Arena) → P a a) → (s : State) (o : Arena) → P (no_arena o.id) o → (other : ArenaId)
    → P (arena_of s other) (arena_of (s ++ o ∷ []) other)
opened_lookup P same [] o made other =
    let Q : Bool → Type 0 = λ b. same_id o.id other ≡ b → P (no_arena other) (if b then o else no_arena other) in
    let go : (b : Bool) → Q b = λ b. elim b as Q [
      | true ↦ (λ e. subst (λ (i : ArenaId). P (no_arena i) o) (same_id-true o.id other e) made)
      | false ↦ (λ e. same (no_arena other))
    ] in
    go (same_id o.id other) refl
opened_lookup P same (a ∷ s) o made other =
    elim (same_id a.id other) as (λ b. P (if b then a else arena_of s other) (if b then a else arena_of (s ++ o ∷ []) other)) [
      | true ↦ same a
      | false ↦ opened_lookup P same s o made other
    ]

-- a change of an arena changes no name
pub changed_has : (f : Arena → Arena) → KeepsName f → (s : State) (id other : ArenaId) → has_arena (changed s id f) other ≡ has_arena s other
changed_has f named [] id other = refl
changed_has f named (a ∷ s) id other =
    elim (same_id a.id id) as (λ b. has_arena (if b then f a ∷ s else a ∷ changed s id f) other ≡ has_arena (a ∷ s) other) [
      | true ↦ ap (λ i. if same_id i other then true else has_arena s other) (named a)
      | false ↦ ap (λ (x : Bool). if same_id a.id other then true else x) (changed_has f named s id other)
    ]

-- an arena that is there is the same with another opened
pub arena_of-append : (s t : State) (id : ArenaId) → has_arena s id ≡ true → arena_of (s ++ t) id ≡ arena_of s id
arena_of-append [] t id h = absurd (cc)
arena_of-append (a ∷ s) t id h =
    let P : Bool → Type 0 = λ b. (if b then true else has_arena s id) ≡ true → (if b then a else arena_of (s ++ t) id) ≡ (if b then a else arena_of s id) in
    let go : (b : Bool) → P b = λ b. elim b as P [ true ↦ (λ e. refl) | false ↦ (λ e. arena_of-append s t id e) ] in
    go (same_id a.id id) h

pub has_arena-append : (s t : State) (id : ArenaId) → has_arena s id ≡ true → has_arena (s ++ t) id ≡ true
has_arena-append [] t id h = absurd (cc)
has_arena-append (a ∷ s) t id h =
    let P : Bool → Type 0 = λ b. (if b then true else has_arena s id) ≡ true → (if b then true else has_arena (s ++ t) id) ≡ true in
    let go : (b : Bool) → P b = λ b. elim b as P [ true ↦ (λ e. refl) | false ↦ (λ e. has_arena-append s t id e) ] in
    go (same_id a.id id) h

-- where there is no arena of this name
pub arena_of-none : (s : State) (id : ArenaId) → has_arena s id ≡ false → arena_of s id ≡ no_arena id
arena_of-none [] id h = refl
arena_of-none (a ∷ s) id h =
    let P : Bool → Type 0 = λ b. (if b then true else has_arena s id) ≡ false → (if b then a else arena_of s id) ≡ no_arena id in
    let go : (b : Bool) → P b = λ b. elim b as P [ true ↦ (λ e. absurd (cc)) | false ↦ (λ e. arena_of-none s id e) ] in
    go (same_id a.id id) h

-- what is looked up has the name
pub arena_of-id : (s : State) (id : ArenaId) → (arena_of s id).id ≡ id
arena_of-id [] id = refl
arena_of-id (a ∷ s) id =
    let P : Bool → Type 0 = λ b. same_id a.id id ≡ b → (if b then a else arena_of s id).id ≡ id in
    let go : (b : Bool) → P b = λ b. elim b as P [ true ↦ (λ e. same_id-true a.id id e) | false ↦ (λ e. arena_of-id s id) ] in
    go (same_id a.id id) refl

-- an arena that was opened is there
pub has_arena-opened : (s : State) (o : Arena) → has_arena (s ++ o ∷ []) o.id ≡ true
has_arena-opened [] o = ap (λ b. if b then true else false) (same_id-self o.id)
has_arena-opened (a ∷ s) o =
    elim (same_id a.id o.id) as (λ b. (if b then true else has_arena (s ++ o ∷ []) o.id) ≡ true) [ true ↦ refl | false ↦ has_arena-opened s o ]

-- the arena that was changed, looked up
pub lookup_changed : (s : State) (id : ArenaId) (f : Arena → Arena) → KeepsName f → has_arena s id ≡ true → arena_of (changed s id f) id ≡ f (arena_of s id)
lookup_changed [] id f named h = absurd (cc)
lookup_changed (a ∷ s) id f named h =
    let P : Bool → Type 0 = λ b. same_id a.id id ≡ b → (if b then true else has_arena s id) ≡ true
    → arena_of (if b then f a ∷ s else a ∷ changed s id f) id ≡ f (if b then a else arena_of s id) in
    let go : (b : Bool) → P b = λ b. elim b as P [
      | true ↦ (λ e w. ap (λ c. if c then f a else arena_of s id) (ap (λ i. same_id i id) (named a) ∙ e))
      | false ↦ (λ e w. ap (λ c. if c then a else arena_of (changed s id f) id) e ∙ lookup_changed s id f named w)
    ] in
    go (same_id a.id id) refl h

-- two changes of one arena
pub changed_twice : (s : State) (id : ArenaId) (f g : Arena → Arena) → KeepsName f → changed (changed s id f) id g ≡ changed s id (λ a. g (f a))
changed_twice [] id f g named = refl
changed_twice (a ∷ s) id f g named =
    let P : Bool → Type 0 = λ b. same_id a.id id ≡ b
    → changed (if b then f a ∷ s else a ∷ changed s id f) id g ≡ (if b then g (f a) ∷ s else a ∷ changed s id (λ x. g (f x))) in
    let go : (b : Bool) → P b = λ b. elim b as P [
      | true ↦ (λ e. ap (λ c. if c then g (f a) ∷ s else f a ∷ changed s id g) (ap (λ i. same_id i id) (named a) ∙ e))
      | false ↦ (λ e. ap (λ c. if c then g a ∷ changed s id f else a ∷ changed (changed s id f) id g) e
          ∙ ap (λ (t : State). a ∷ t) (changed_twice s id f g named))
    ] in
    go (same_id a.id id) refl

-- a change that leaves the arena that is found leaves the state
pub changed_same : (s : State) (id : ArenaId) (f : Arena → Arena) → f (arena_of s id) ≡ arena_of s id → changed s id f ≡ s
changed_same [] id f h = refl
changed_same (a ∷ s) id f h =
    let P : Bool → Type 0 = λ b. f (if b then a else arena_of s id) ≡ (if b then a else arena_of s id) → (if b then f a ∷ s else a ∷ changed s id f) ≡ a ∷ s in
    let go : (b : Bool) → P b = λ b. elim b as P [
      | true ↦ (λ e. ap (λ (x : Arena). x ∷ s) e)
      | false ↦ (λ e. ap (λ (x : State). a ∷ x) (changed_same s id f e))
    ] in
    go (same_id a.id id) h

-- a change by another function that gives the same at the arena that is found
pub changed_alike : (s : State) (id : ArenaId) (f g : Arena → Arena) → f (arena_of s id) ≡ g (arena_of s id) → changed s id f ≡ changed s id g
changed_alike [] id f g h = refl
changed_alike (a ∷ s) id f g h =
    let P : Bool → Type 0 = λ b. f (if b then a else arena_of s id) ≡ g (if b then a else arena_of s id)
    → (if b then f a ∷ s else a ∷ changed s id f) ≡ (if b then g a ∷ s else a ∷ changed s id g) in
    let go : (b : Bool) → P b = λ b. elim b as P [
      | true ↦ (λ e. ap (λ (x : Arena). x ∷ s) e)
      | false ↦ (λ e. ap (λ (x : State). a ∷ x) (changed_alike s id f g e))
    ] in
    go (same_id a.id id) h

-- an arena that was opened is looked up
pub arena_of-opened : (s : State) (o : Arena) → has_arena s o.id ≡ false → arena_of (s ++ o ∷ []) o.id ≡ o
arena_of-opened [] o h = ap (λ b. if b then o else no_arena o.id) (same_id-self o.id)
arena_of-opened (a ∷ s) o h =
    let P : Bool → Type 0 = λ b. (if b then true else has_arena s o.id) ≡ false → (if b then a else arena_of (s ++ o ∷ []) o.id) ≡ o in
    let go : (b : Bool) → P b = λ b. elim b as P [ true ↦ (λ e. absurd (cc)) | false ↦ (λ e. arena_of-opened s o e) ] in
    go (same_id a.id o.id) h

-- ---- changes of the state

-- an arena of this name has it as before
unfoldable pub Same : {X : Type 0} → (Arena → X) → ArenaId → Arena → Arena → Type 0
Same has id a b = a.id ≡ id → has b ≡ has a

-- the one arena that a change opens or alters is related to what was looked up before
abbrev pub Relates : (Arena → Arena → Type 0) → State → Change → Type 0
Relates P s (Opens o) = P (no_arena o.id) o
Relates P s (Alters id f named) = P (arena_of s id) (f (arena_of s id))
Relates P s Rests = ⊤

-- and so each arena is
pub made_lookup : (P : Arena → Arena → Type 0) → ((a : Arena) → P a a) → (s : State) (h : Change) → Relates P s h → (other : ArenaId)
    → P (arena_of s other) (arena_of (made h s) other)
made_lookup P same s (Opens o) r other = opened_lookup P same s o r other
made_lookup P same s (Alters id f named) r other = changed_lookup P f named same s id r other
made_lookup P same s Rests r other = same (arena_of s other)

-- what holds of the arenas that are known holds after a change, where it comes to hold of the one that it opens or alters
abbrev pub Becomes : (Arena → Type 0) → State → Change → Type 0
Becomes P s (Opens o) = P o
Becomes P s (Alters id f named) = P (arena_of s id) → P (f (arena_of s id))
Becomes P s Rests = ⊤

opened_known : (P : Arena → Type 0) (s : State) (o : Arena) (id : ArenaId) → P o → (has_arena s id ≡ true → P (arena_of s id))
    → has_arena (s ++ o ∷ []) id ≡ true → P (arena_of (s ++ o ∷ []) id)
opened_known P [] o id p h =
    elim (same_id o.id id) as (λ b. (if b then true else false) ≡ true → P (if b then o else no_arena id)) [ true ↦ (λ e. p) | false ↦ (λ e. absurd (cc)) ]
opened_known P (a ∷ s) o id p h =
    let Q : Bool → Type 0 = λ b. ((if b then true else has_arena s id) ≡ true → P (if b then a else arena_of s id))
    → (if b then true else has_arena (s ++ o ∷ []) id) ≡ true → P (if b then a else arena_of (s ++ o ∷ []) id) in
    let go : (b : Bool) → Q b = λ b. elim b as Q [ true ↦ (λ w e. w refl) | false ↦ (λ w e. opened_known P s o id p w e) ] in
    go (same_id a.id id) h

Passes : (Arena → Type 0) → Arena → Arena → Type 0
Passes P a b = P a → P b

altered_known : (P : Arena → Type 0) (f : Arena → Arena) → KeepsName f → (s : State) (id other : ArenaId) → (P (arena_of s id) → P (f (arena_of s id)))
    → P (arena_of s other) → P (arena_of (changed s id f) other)
unfolding Passes
altered_known P f named s id other made p = changed_lookup (Passes P) f named (λ a q. q) s id made other p

pub made_known : (P : Arena → Type 0) (s : State) (h : Change) → Becomes P s h → (id : ArenaId) → (has_arena s id ≡ true → P (arena_of s id))
    → has_arena (made h s) id ≡ true → P (arena_of (made h s) id)
made_known P s (Opens o) b id p e = opened_known P s o id b p e
made_known P s (Alters id f named) b other p e = altered_known P f named s id other b (p (sym (changed_has f named s id other) ∙ e))
made_known P s Rests b id p e = p e

-- no change takes an arena out of the list
pub made_has : (s : State) (h : Change) (other : ArenaId) → has_arena s other ≡ true → has_arena (made h s) other ≡ true
made_has s (Opens o) other t = has_arena-append s (o ∷ []) other t
made_has s (Alters id f named) other t = changed_has f named s id other ∙ t
made_has s Rests other t = t

-- a swap that found its old word
pub swapped_hit : (s : State) (id : ArenaId) (word old new found : ℕ) → (found == old) ≡ true
    → changed s id (swapped word old new found) ≡ changed s id (written word new)
swapped_hit s id word old new found e = ap (λ b. changed s id (λ a. record a { words = if b then slice_set a.words word new else a.words })) e

-- a swap that found another word
pub swapped_miss : (s : State) (id : ArenaId) (word old new found : ℕ) → (found == old) ≡ false → changed s id (swapped word old new found) ≡ s
swapped_miss s id word old new found e =
    changed_same s id (swapped word old new found)
    (ap (λ b. record (arena_of s id) { words = if b then slice_set (arena_of s id).words word new else (arena_of s id).words }) e)
