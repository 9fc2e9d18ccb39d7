-- An arena that is there was opened, and by a line that says so.
use Rattle.std.proofs.Common.{◌≡◌, ℕ, Bool, true, false, not, if◌then◌else◌, List, [], ◌∷◌, ◌++◌, refl, sym, ap, ◌∙◌, subst, ◌⊎◌, inl, inr}
use Rattle.fm_base.specs.{declared.{arena_id.ArenaId.{ArenaId}, caller.Caller.{Caller}}, Arenas.{Arena, State, are_one, has_arena, owner_of, same_id}}
use Rattle.fm_base.specs.Calls.{Call, Open, Enter, Write, SwapIf, Add, Allocate, Leave, Hold, Unhold, Shut, End, Reply, Fine, Found, Given, Entry}
use Rattle.fm_base.specs.{Histories.{IsLegal, made_by, state_after}, Machine.{MayCall, Change, Opens, Alters, Rests, made, change_of, after}}
use Rattle.fm_base.{specs.View.{but_loans, is_loan}, proofs.{Lookup.{changed_has}, Names.{are_one-self, same_id-true}}}
use Rattle.fm_base_lists.{specs.Among.{IsAmong}, proofs.Each.{all_among, all_of_among}}
use Rattle.fm_script_lines.proofs.Allocating.{among_passes}
use Rattle.fm_script_laws.proofs.Accessing.{AllOpenNone, OpensNone, open_as}

-- ---- entries

-- A caller's entry is among those that it made.
pub among_own : (c : Caller) (e : Entry) (es : List Entry) → e.caller ≡ c → IsAmong e es → IsAmong e (made_by c es)
among_own c e es is h = among_passes (λ x. are_one x.caller c) e es (ap (λ x. are_one x c) is ∙ are_one-self c) h

-- One that opens is no loan.
pub among_but : (e : Entry) (a : ArenaId) (es : List Entry) → e.call ≡ Open a → IsAmong e es → IsAmong e (but_loans es)
among_but e a es call h = among_passes (λ x. not (is_loan x.call)) e es (ap (λ k. not (is_loan k)) call) h

-- None of these opens.
pub none_opens : (e : Entry) (a : ArenaId) (es : List Entry) → AllOpenNone es → IsAmong e es → e.call ≡ Open a → ⊥
none_opens e a es h i call = subst OpensNone call (all_among (λ x. OpensNone x.call) e es h i)

loan_none : (call : Call) → is_loan call ≡ true → OpensNone call
loan_none (Open id) is = absurd (let no : ⊥ = cc in no)
loan_none call is = tt

-- Loans beside what opens none.
loans_too : (own : List Entry) → AllOpenNone (but_loans own) → AllOpenNone own
loans_too own h = all_of_among (λ e. OpensNone e.call) own each
  where
    each : (e : Entry) → IsAmong e own → OpensNone e.call
    each e i =
        let P : Bool → Type 0 = λ b. is_loan e.call ≡ b → OpensNone e.call in
        let go : (b : Bool) → P b = λ b. elim b as P [
          | true ↦ (λ is. loan_none e.call is)
          | false ↦ (λ is. all_among (λ x. OpensNone x.call) e (but_loans own) h (among_passes (λ x. not (is_loan x.call)) e own (ap not is) i))
        ] in
        go (is_loan e.call) refl

pub but_as : (own es : List Entry) → but_loans own ≡ es → AllOpenNone es → AllOpenNone own
but_as own es is h = loans_too own (open_as (but_loans own) es is h)

-- ---- states

-- an entry opened the arena, by the arena's owner
pub record OpenedIn (a : ArenaId) (es : List Entry) : Type 0 where
  pub entry : Entry
  pub among : IsAmong entry es
  pub call : entry.call ≡ Open a
  pub owner : owner_of a ≡ entry.caller

-- Which arenas are there behind the last one.
last_has : (s : State) (o : Arena) (a : ArenaId) → has_arena (s ++ o ∷ []) a ≡ true → (o.id ≡ a) ⊎ (has_arena s a ≡ true)
last_has [] o a h =
    let P : Bool → Type 0 = λ x. same_id o.id a ≡ x → (if x then true else false) ≡ true → (o.id ≡ a) ⊎ (false ≡ true) in
    let go : (x : Bool) → P x = λ x. elim x as P [ true ↦ (λ e k. inl (same_id-true o.id a e)) | false ↦ (λ e k. inr k) ] in
    go (same_id o.id a) refl h
last_has (x ∷ s) o a h =
    let P : Bool → Type 0 = λ b. (if b then true else has_arena (s ++ o ∷ []) a) ≡ true → (o.id ≡ a) ⊎ ((if b then true else has_arena s a) ≡ true) in
    let go : (b : Bool) → P b = λ b. elim b as P [ true ↦ (λ k. inr refl) | false ↦ (λ k. last_has s o a k) ] in
    go (same_id x.id a) h

-- the change opens the arena
abbrev Brings : ArenaId → Change → Type 0
Brings a (Opens o) = o.id ≡ a
Brings a (Alters id f named) = ⊥
Brings a Rests = ⊥

was_there : (s : State) (h : Change) (a : ArenaId) → has_arena (made h s) a ≡ true → Brings a h ⊎ (has_arena s a ≡ true)
was_there s (Opens o) a k = last_has s o a k
was_there s (Alters id f named) a k = inr (sym (changed_has f named s id a) ∙ k)
was_there s Rests a k = inr k

opens_it : (limit : ℕ) (c : Caller) (call : Call) (reply : Reply) (a : ArenaId) → Brings a (change_of limit c call reply) → call ≡ Open a
opens_it limit c (Open id) reply a b = ap Open b
opens_it limit c (Enter id) Fine a b = absurd b
opens_it limit c (Write id word value) reply a b = absurd b
opens_it limit c (SwapIf id word old new) (Found found) a b = absurd b
opens_it limit c (Add id word n) (Found found) a b = absurd b
opens_it limit c (Allocate id size align) (Given place) a b = absurd b
opens_it limit c (Leave id) reply a b = absurd b
opens_it limit c (Hold id) Fine a b = absurd b
opens_it limit c (Unhold id) reply a b = absurd b
opens_it limit c (Shut id) Fine a b = absurd b
opens_it limit c (End id) reply a b = absurd b
opens_it limit c call reply a b = absurd b

-- An arena that is there was there before, or an entry opened it.
opened_since : (limit : ℕ) (s : State) (es : List Entry) (a : ArenaId) → IsLegal limit s es → has_arena (state_after limit s es) a ≡ true
    → OpenedIn a es ⊎ (has_arena s a ≡ true)
opened_since limit s [] a legal h = inr h
opened_since limit s (e ∷ es) a legal h = elim (opened_since limit (after limit s e) es a legal.2 h) [
  | inl o ↦ inl (record { entry = o.entry; among = inr o.among; call = o.call; owner = o.owner })
  | inr now ↦ elim (was_there s (change_of limit e.caller e.call e.reply) a now) [
    | inl brings ↦
        let call = opens_it limit e.caller e.call e.reply a brings in
        let may : MayCall s e.caller (Open a) = subst (λ (k : Call). MayCall s e.caller k) call legal.0 in
        inl (record { entry = e; among = inl refl; call = call; owner = may.1 })
    | inr before ↦ inr before
  ]
]

pub opened_in : (limit : ℕ) (es : List Entry) (a : ArenaId) → IsLegal limit [] es → has_arena (state_after limit [] es) a ≡ true → OpenedIn a es
opened_in limit es a legal h = elim (opened_since limit [] es a legal h) [ inl o ↦ o | inr none ↦ absurd (let no : ⊥ = cc in no) ]
