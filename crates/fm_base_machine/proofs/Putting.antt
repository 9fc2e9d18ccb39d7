-- Look-ups after a call, as functions changed at one place.
use Rattle.std.proofs.Common.{Some, zero, suc, replicate, slice_index, ◌≡◌, ◌≢◌, ℕ, Bool, true, false, cond, if◌then◌else◌, List, [], ◌∷◌, ◌++◌, refl, ap, sym, ◌∙◌, subst, eq-eqb, ne_eqb, ◌⊎◌, inl, inr, arith}
use Rattle.std.specs.Prelude.{Contains, filter}
use Rattle.std.proofs.lemmas.List.Elements.{Contains-append_cases, Contains-append_left, Contains-append_right, Contains-push_cases, Contains-push, All-contains, All-filter, filter_passes, All-contains_itself}
use native.Mathlib.Decide.{ℕ_discrete}
use mathlib.Core.Logic.{dite}
use Rattle.fm_base.specs.declared.{caller.Caller.{Caller}, arena_id.ArenaId.{ArenaId}}
use Rattle.fm_base.specs.Arenas.{State, Arena, arena_of, has_arena, changed, same_id, no_arena, are_one}
use Rattle.fm_base.proofs.Names.{not_true, same_id-self, same_id-true, are_one-self, are_one-true, are_one-false, are_one-not}
use Rattle.fm_base.proofs.Lookup.{KeepsName, lookup_changed}
use Rattle.fm_base_machine.specs.Functions.{put, put_at, put_by}

-- names that differ don't pass the test
pub same_id-not : (a b : ArenaId) → a ≢ b → same_id a b ≡ false
same_id-not a b h = not_true (same_id a b) (λ e. h (same_id-true a b e))

-- two names are one or not
pub one_arena : (a b : ArenaId) → Dec (a ≡ b)
one_arena a b =
    let P : Bool → Type 0 = λ t. same_id a b ≡ t → Dec (a ≡ b) in
    let go : (t : Bool) → P t = λ t. elim t as P [
      | true ↦ (λ e. yes (same_id-true a b e))
      | false ↦ (λ e. no (λ q. let s : same_id a b ≡ true = subst (λ (x : ArenaId). same_id a x ≡ true) q (same_id-self a) in absurd (cc)))
    ] in
    go (same_id a b) refl

module _ {A : Type 0} where
  pub put_here : (f : ℕ → A) (i : ℕ) (x : A) → put f i x i ≡ x
  unfolding put
  put_here f i x = ap (λ b. if b then x else f i) (eq-eqb i i refl)

  pub put_else : (f : ℕ → A) (i : ℕ) (x : A) (j : ℕ) → j ≢ i → put f i x j ≡ f j
  unfolding put
  put_else f i x j n = ap (λ b. if b then x else f j) (ne_eqb j i n)

  pub at_here : (f : ArenaId → A) (a : ArenaId) (x : A) → put_at f a x a ≡ x
  unfolding put_at
  at_here f a x = ap (λ b. if b then x else f a) (same_id-self a)

  pub at_else : (f : ArenaId → A) (a : ArenaId) (x : A) (b : ArenaId) → same_id a b ≡ false → put_at f a x b ≡ f b
  unfolding put_at
  at_else f a x b n = ap (λ t. if t then x else f b) n

  -- the same where the names are told to be two
  pub at_other : (f : ArenaId → A) (a : ArenaId) (x : A) (b : ArenaId) → b ≢ a → put_at f a x b ≡ f b
  at_other f a x b n = at_else f a x b (same_id-not a b (λ e. n (sym e)))

  pub by_here : (f : Caller → A) (c : Caller) (x : A) → put_by f c x c ≡ x
  unfolding put_by
  by_here f c x = ap (λ b. if b then x else f c) (are_one-self c)

  pub by_else : (f : Caller → A) (c : Caller) (x : A) (d : Caller) → d ≢ c → put_by f c x d ≡ f d
  unfolding put_by
  by_else f c x d n = ap (λ b. if b then x else f d) (are_one-not d c n)

-- two callers are one or not
pub one_caller : (c d : Caller) → Dec (c ≡ d)
one_caller c d =
    let P : Bool → Type 0 = λ b. are_one c d ≡ b → Dec (c ≡ d) in
    let go : (b : Bool) → P b = λ b. elim b as P [ true ↦ (λ e. yes (are_one-true c d e)) | false ↦ (λ e. no (are_one-false c d e)) ] in
    go (are_one c d) refl

-- what a function that was changed gives, by whether it is asked where it was changed
module _ {A : Type 0} where
  pub put_cases : (f : ℕ → A) (i : ℕ) (x : A) (j : ℕ) (P : A → Type 0) → (j ≡ i → P x) → (j ≢ i → P (f j)) → P (put f i x j)
  put_cases f i x j P here else' = dite (ℕ_discrete j i)
      (λ e. subst P (sym (ap (put f i x) e ∙ put_here f i x)) (here e))
      (λ n. subst P (sym (put_else f i x j n)) (else' n))

  pub at_cases : (f : ArenaId → A) (a : ArenaId) (x : A) (b : ArenaId) (P : A → Type 0) → (b ≡ a → P x) → (b ≢ a → P (f b)) → P (put_at f a x b)
  at_cases f a x b P here else' = dite (one_arena b a)
      (λ e. subst P (sym (ap (put_at f a x) e ∙ at_here f a x)) (here e))
      (λ n. subst P (sym (at_other f a x b n)) (else' n))

  pub by_cases : (f : Caller → A) (c : Caller) (x : A) (d : Caller) (P : A → Type 0) → (d ≡ c → P x) → (d ≢ c → P (f d)) → P (put_by f c x d)
  by_cases f c x d P here else' = dite (one_caller d c)
      (λ e. subst P (sym (ap (put_by f c x) e ∙ by_here f c x)) (here e))
      (λ n. subst P (sym (by_else f c x d n)) (else' n))

-- what holds where the names are one and where they are two
pub by_name : (a b : ArenaId) (P : ArenaId → Type 0) → P a → (same_id a b ≡ false → P b) → P b
by_name a b P here else' =
    let Q : Bool → Type 0 = λ t. same_id a b ≡ t → P b in
    let go : (t : Bool) → Q t = λ t. elim t as Q [ true ↦ (λ e. subst P (same_id-true a b e) here) | false ↦ else' ] in
    go (same_id a b) refl

-- a change of one arena leaves the others
pub changed_else : (s : State) (id : ArenaId) (f : Arena → Arena) → KeepsName f → (b : ArenaId) → same_id id b ≡ false
    → arena_of (changed s id f) b ≡ arena_of s b
changed_else [] id f named b n = refl
changed_else (a ∷ s) id f named b n =
    let P : Bool → Type 0 = λ t. same_id a.id id ≡ t → arena_of (if t then f a ∷ s else a ∷ changed s id f) b ≡ (if same_id a.id b then a else arena_of s b) in
    let go : (t : Bool) → P t = λ t. elim t as P [
      | true ↦ (λ e.
          let m : same_id a.id b ≡ false = subst (λ (i : ArenaId). same_id i b ≡ false) (sym (same_id-true a.id id e)) n in
          ap (λ c. if c then f a else arena_of s b) (ap (λ i. same_id i b) (named a) ∙ m) ∙ sym (ap (λ c. if c then a else arena_of s b) m))
      | false ↦ (λ e. ap (λ x. if same_id a.id b then a else x) (changed_else s id f named b n))
    ] in
    go (same_id a.id id) refl

pub opened_else : (s : State) (o : Arena) (b : ArenaId) → same_id o.id b ≡ false → arena_of (s ++ o ∷ []) b ≡ arena_of s b
opened_else [] o b n = ap (λ t. if t then o else no_arena b) n
opened_else (a ∷ s) o b n = ap (λ x. if same_id a.id b then a else x) (opened_else s o b n)

pub has_else : (s : State) (o : Arena) (b : ArenaId) → same_id o.id b ≡ false → has_arena (s ++ o ∷ []) b ≡ has_arena s b
has_else [] o b n = ap (λ t. if t then true else false) n
has_else (a ∷ s) o b n = ap (λ (x : Bool). if same_id a.id b then true else x) (has_else s o b n)

-- ---- the callers under way

pub contains_cases : (xs : List Caller) (c k : Caller) → Contains (c ∷ xs) k → (c ≡ k) ⊎ Contains xs k
contains_cases xs c k h = elim (Contains-append_cases (c ∷ []) xs k h) [
  | inl one ↦ elim (Contains-push_cases [] c k one) [ inl none ↦ absurd (let l = none.1 in omega arith) | inr e ↦ inl e ]
  | inr more ↦ inr more
]

pub contains_first : (xs : List Caller) (c : Caller) → Contains (c ∷ xs) c
contains_first xs c = Contains-append_left (c ∷ []) xs c (Contains-push [] c)

pub contains_more : (xs : List Caller) (c k : Caller) → Contains xs k → Contains (c ∷ xs) k
contains_more xs c k h = Contains-append_right (c ∷ []) xs k h

pub kept_contains : (p : Caller → Bool) (xs : List Caller) (k : Caller) → Contains (filter p xs) k → Contains xs k × (p k ≡ true)
kept_contains p xs k h = (
  All-contains (Contains xs) (filter p xs) k (All-filter p (Contains xs) xs (All-contains_itself xs)) h,
  All-contains (λ x. p x ≡ true) (filter p xs) k
      (filter_passes p xs) h,
)

pub contains_kept : (p : Caller → Bool) (xs : List Caller) (k : Caller) → Contains xs k → p k ≡ true → Contains (filter p xs) k
contains_kept p [] k h e = absurd (let l = h.1 in omega arith)
contains_kept p (x ∷ xs) k h e =
    let P : Bool → Type 0 = λ b. p x ≡ b → Contains (cond b (x ∷ filter p xs) (filter p xs)) k in
    let go : (b : Bool) → P b = λ b. elim b as P [
      | true ↦ (λ t. elim (contains_cases xs x k h) [
        | inl i ↦ subst (λ (y : Caller). Contains (y ∷ filter p xs) k) (sym i) (contains_first (filter p xs) k)
        | inr r ↦ contains_more (filter p xs) x k (contains_kept p xs k r e)
      ])
      | false ↦ (λ t. elim (contains_cases xs x k h) [
        | inl i ↦ absurd (let f : p k ≡ false = subst (λ (y : Caller). p y ≡ false) i t in cc)
        | inr r ↦ contains_kept p xs k r e
      ])
    ] in
    go (p x) refl

-- ---- one function of arenas

-- an arena that is named is one
pub some_is : (a b : ArenaId) → Some a ≡ Some b → a ≡ b
some_is a b e = cc

-- one function, changed at the arena `id` as the arena there is
pub at_changed : {A : Type 0} (s : State) (id : ArenaId) (f : Arena → Arena) → KeepsName f → has_arena s id ≡ true → (F : Arena → A) (G : ArenaId → A) (x : A)
    → ((b : ArenaId) → G b ≡ F (arena_of s b)) → x ≡ F (f (arena_of s id)) → (b : ArenaId)
    → put_at G id x b ≡ F (arena_of (changed s id f) b)
at_changed {A} s id f named h F G x is e b = by_name id b (λ (c : ArenaId). put_at G id x c ≡ F (arena_of (changed s id f) c))
    (at_here G id x ∙ (e ∙ ap F (sym (lookup_changed s id f named h))))
    (λ n. at_else G id x b n ∙ (is b ∙ ap F (sym (changed_else s id f named b n))))

-- a function that the change leaves
pub stays_changed : {A : Type 0} (s : State) (id : ArenaId) (f : Arena → Arena) → KeepsName f → has_arena s id ≡ true → (F : Arena → A)
    → F (f (arena_of s id)) ≡ F (arena_of s id) → (b : ArenaId) → F (arena_of s b) ≡ F (arena_of (changed s id f) b)
stays_changed {A} s id f named h F e b = by_name id b (λ (c : ArenaId). F (arena_of s c) ≡ F (arena_of (changed s id f) c))
    (sym e ∙ ap F (sym (lookup_changed s id f named h)))
    (λ n. ap F (sym (changed_else s id f named b n)))

-- a word of a new arena is 0
pub zeros : (n w : ℕ) → slice_index (replicate n 0) w ≡ 0
zeros zero w = refl
zeros (suc n) zero = refl
zeros (suc n) (suc w) = zeros n w
