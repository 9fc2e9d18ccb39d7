-- The list of arenas, and the look-up by name.
use Rattle.std.{proofs.Common.{◌≡◌, ℕ, Bool, true, false, List, [], ◌∷◌, ◌++◌, refl, ap, sym, ◌∙◌, subst, if◌then◌else◌, All}, specs.Prelude.{⊤}}
use Rattle.std.proofs.lemmas.List.Elements.{All-nil, All-cons, All-weaker}
use Rattle.fm_base.specs.{declared.{caller.Caller.{Caller}, arena_id.ArenaId.{ArenaId}}, Arenas.{State, Arena, arena_of, has_arena, changed, same_id}}
use Rattle.fm_base.specs.Calls.{Call, Open, Enter, SwapIf, Add, Allocate, Hold, Shut, Reply, Fine, Found, Given, Entry}
use Rattle.fm_base.specs.{Machine.{MayCall, Change, Opens, Alters, Rests, made, change_of, after}, Histories.{IsLegal, state_after}, Lasting.{LooksUp}}
use Rattle.fm_base.proofs.{Names.{same_id-self, same_id-true}, Lookup.{KeepsName, changed_has}}

-- no name stands twice in the list
abbrev AreDistinct : State → Type 0
AreDistinct [] = Unit {0}
AreDistinct (a ∷ s) = (has_arena s a.id ≡ false) × AreDistinct s

-- no arena of the list has the name
none_named : (s : State) (id : ArenaId) → has_arena s id ≡ false → All (λ a. same_id a.id id ≡ false) s
none_named [] id h = All-nil (λ a. same_id a.id id ≡ false)
none_named (a ∷ s) id h =
    let P : Bool → Type 0 = λ b. same_id a.id id ≡ b → (if b then true else has_arena s id) ≡ false → All (λ a. same_id a.id id ≡ false) (a ∷ s) in
    let go : (b : Bool) → P b = λ b. elim b as P [
      | true ↦ (λ e n. absurd (cc))
      | false ↦ (λ e n. All-cons (λ a. same_id a.id id ≡ false) a s e (none_named s id n))
    ] in
    go (same_id a.id id) refl h

other_way : (a b : ArenaId) → same_id b a ≡ false → same_id a b ≡ false
other_way a b h =
    let P : Bool → Type 0 = λ t. same_id a b ≡ t → same_id a b ≡ false in
    let go : (t : Bool) → P t = λ t. elim t as P [
      | true ↦ (λ e. let is : same_id b a ≡ true = subst (λ (x : ArenaId). same_id x a ≡ true) (same_id-true a b e) (same_id-self a) in absurd (cc))
      | false ↦ (λ e. e)
    ] in
    go (same_id a b) refl

listed : (s : State) → AreDistinct s → All (λ a. arena_of s a.id ≡ a) s
listed [] d = All-nil (λ a. arena_of [] a.id ≡ a)
listed (a ∷ s) d =
    let other : (x : Arena) → (same_id x.id a.id ≡ false) × (arena_of s x.id ≡ x) → arena_of (a ∷ s) x.id ≡ x = λ x h.
    ap (λ b. if b then a else arena_of s x.id) (other_way a.id x.id h.0) ∙ h.1 in
    let both : All (λ x. (same_id x.id a.id ≡ false) × (arena_of s x.id ≡ x)) s = λ i x l. (none_named s a.id d.0 i x l, listed s d.1 i x l) in
    All-cons (λ x. arena_of (a ∷ s) x.id ≡ x) a s (ap (λ b. if b then a else arena_of s a.id) (same_id-self a.id))
    (All-weaker (λ x. (same_id x.id a.id ≡ false) × (arena_of s x.id ≡ x)) (λ x. arena_of (a ∷ s) x.id ≡ x) other s both)

-- ---- names stay apart

distinct_changed : (f : Arena → Arena) → KeepsName f → (s : State) (id : ArenaId) → AreDistinct s → AreDistinct (changed s id f)
distinct_changed f named [] id d = tt
distinct_changed f named (a ∷ s) id d =
    elim (same_id a.id id) as (λ b. AreDistinct (if b then f a ∷ s else a ∷ changed s id f)) [
      | true ↦ (subst (λ (i : ArenaId). has_arena s i ≡ false) (sym (named a)) d.0, d.1)
      | false ↦ (changed_has f named s id a.id ∙ d.0, distinct_changed f named s id d.1)
    ]

no_longer : (s : State) (o : Arena) (id : ArenaId) → has_arena s id ≡ false → same_id o.id id ≡ false → has_arena (s ++ o ∷ []) id ≡ false
no_longer [] o id h n = ap (λ b. if b then true else false) n
no_longer (a ∷ s) o id h n =
    let P : Bool → Type 0 = λ b. (if b then true else has_arena s id) ≡ false → (if b then true else has_arena (s ++ o ∷ []) id) ≡ false in
    let go : (b : Bool) → P b = λ b. elim b as P [ true ↦ (λ e. absurd (cc)) | false ↦ (λ e. no_longer s o id e n) ] in
    go (same_id a.id id) h

distinct_opened : (s : State) (o : Arena) → AreDistinct s → has_arena s o.id ≡ false → AreDistinct (s ++ o ∷ [])
distinct_opened [] o d h = (refl, tt)
distinct_opened (a ∷ s) o d h =
    let P : Bool → Type 0 = λ b. same_id a.id o.id ≡ b → (if b then true else has_arena s o.id) ≡ false → AreDistinct (a ∷ (s ++ o ∷ [])) in
    let go : (b : Bool) → P b = λ b. elim b as P [
      | true ↦ (λ e n. absurd (cc))
      | false ↦ (λ e n. (no_longer s o a.id d.0 (other_way o.id a.id e), distinct_opened s o d.1 n))
    ] in
    go (same_id a.id o.id) refl h

abbrev OpensNew : State → Change → Type 0
OpensNew s (Opens o) = has_arena s o.id ≡ false
OpensNew s (Alters id f named) = ⊤
OpensNew s Rests = ⊤

-- a legal call opens a new name alone
opens_new : (limit : ℕ) (s : State) (c : Caller) (call : Call) (reply : Reply) → MayCall s c call → OpensNew s (change_of limit c call reply)
opens_new limit s c (Open id) reply may = may.0
opens_new limit s c (Enter id) Fine may = tt
opens_new limit s c (SwapIf id word old new) (Found found) may = tt
opens_new limit s c (Add id word n) (Found found) may = tt
opens_new limit s c (Allocate id size align) (Given place) may = tt
opens_new limit s c (Hold id) Fine may = tt
opens_new limit s c (Shut id) Fine may = tt
opens_new limit s c call reply may = tt

distinct_by : (s : State) (h : Change) → OpensNew s h → AreDistinct s → AreDistinct (made h s)
distinct_by s (Opens o) new d = distinct_opened s o d new
distinct_by s (Alters id f named) new d = distinct_changed f named s id d
distinct_by s Rests new d = d

distinct_after : (limit : ℕ) (s : State) (es : List Entry) → IsLegal limit s es → AreDistinct s → AreDistinct (state_after limit s es)
distinct_after limit s [] l d = d
distinct_after limit s (e ∷ es) l d =
    distinct_after limit (after limit s e) es l.2 (distinct_by s (change_of limit e.caller e.call e.reply) (opens_new limit s e.caller e.call e.reply l.0) d)

pub looked_up : LooksUp
looked_up limit h l = listed (state_after limit [] h) (distinct_after limit [] h l tt)
