-- Where others only look, one caller's own entries are a legal history, which leaves what all entries leave.
use Rattle.std.proofs.Common.{◌≡◌, ℕ, Bool, true, false, List, [], ◌∷◌, ◌++◌, refl, ap, sym, ◌∙◌, subst, inl, inr, ⊎_elim, if◌then◌else◌, filter, not, length, Contains, ◌⊎◌, ◌<◌, arith, zero, suc, slice_index, cond}
use Rattle.std.{specs.Prelude.{⊤}, proofs.lemmas.List.Elements.{Contains-append_right, All-contains, All-filter, All-contains_itself}}
use Rattle.fm_base.specs.declared.{caller.Caller.{Caller}, arena_id.ArenaId.{ArenaId}}
use Rattle.fm_base.specs.Arenas.{Arena, State, arena_of, has_arena, changed, same_id, are_one, IsUnderWay}
use Rattle.fm_base.specs.Calls.{Call, Open, Enter, Read, Write, SwapIf, Add, Allocate, Leave, Hold, Unhold, Shut, End, Lend, Back, Reply, Fine, Found, Given, Entry}
use Rattle.fm_base.specs.Machine.{MayCall, MayReach, MayPut, enter_reply, allocate_reply, hold_reply, shut_reply, reply_to, Change, Opens, Alters, Rests, made, change_of, after}
use Rattle.fm_base.{specs.Histories.{IsLegal, state_after, made_by}, proofs.{Names.{are_one-true}, Lookup.{KeepsName}}}
use Rattle.fm_base_aside.specs.Aside.{IsLook, OthersLook, arena_for, state_for}

module _ (c : Caller) where
  -- ---- what is looked up

  pub arena_for_of : (s : State) (id : ArenaId) → arena_of (state_for c s) id ≡ arena_for c (arena_of s id)
  arena_for_of [] id = refl
  arena_for_of (a ∷ s) id =
      elim (same_id a.id id) as (λ b. (if b then arena_for c a else arena_of (state_for c s) id) ≡ arena_for c (if b then a else arena_of s id)) [
        | true ↦ refl
        | false ↦ arena_for_of s id
      ]

  pub has_for : (s : State) (id : ArenaId) → has_arena (state_for c s) id ≡ has_arena s id
  has_for [] id = refl
  has_for (a ∷ s) id =
      elim (same_id a.id id) as (λ b. (if b then true else has_arena (state_for c s) id) ≡ (if b then true else has_arena s id)) [
        | true ↦ refl
        | false ↦ has_for s id
      ]

  -- ---- one change

  map_more : (s t : State) → state_for c (s ++ t) ≡ state_for c s ++ state_for c t
  map_more [] t = refl
  map_more (a ∷ s) t = ap (λ (x : State). arena_for c a ∷ x) (map_more s t)

  changed_for : (f : Arena → Arena) → KeepsName f → ((a : Arena) → arena_for c (f a) ≡ f (arena_for c a)) → (s : State) (id : ArenaId)
      → state_for c (changed s id f) ≡ changed (state_for c s) id f
  changed_for f named same [] id = refl
  changed_for f named same (a ∷ s) id =
      elim (same_id a.id id) as (λ b. state_for c (if b then f a ∷ s else a ∷ changed s id f)
      ≡ (if b then f (arena_for c a) ∷ state_for c s else arena_for c a ∷ changed (state_for c s) id f)) [
        | true ↦ ap (λ (x : Arena). x ∷ state_for c s) (same a)
        | false ↦ ap (λ (x : State). arena_for c a ∷ x) (changed_for f named same s id)
      ]

  hidden_for : (f : Arena → Arena) → ((a : Arena) → arena_for c (f a) ≡ arena_for c a) → (s : State) (id : ArenaId)
      → state_for c (changed s id f) ≡ state_for c s
  hidden_for f same [] id = refl
  hidden_for f same (a ∷ s) id =
      elim (same_id a.id id) as (λ b. state_for c (if b then f a ∷ s else a ∷ changed s id f) ≡ arena_for c a ∷ state_for c s) [
        | true ↦ ap (λ (x : Arena). x ∷ state_for c s) (same a)
        | false ↦ ap (λ (x : State). arena_for c a ∷ x) (hidden_for f same s id)
      ]

  -- ---- who is under way

  swap_filters : {X : Type 0} (p q : X → Bool) (xs : List X) → filter p (filter q xs) ≡ filter q (filter p xs)
  swap_filters p q [] = refl
  swap_filters {X} p q (x ∷ xs) =
      let P : Bool → Bool → Type 0 = λ b d. filter p (if d then x ∷ filter q xs else filter q xs) ≡ filter q (if b then x ∷ filter p xs else filter p xs) in
      let go : (b d : Bool) → p x ≡ b → q x ≡ d → P b d = λ b d. elim b as (λ b. p x ≡ b → q x ≡ d → P b d) [
        | true ↦ elim d as (λ d. p x ≡ true → q x ≡ d → P true d) [
          | true ↦ (λ y z. rw y (rw z (ap (λ (ys : List X). x ∷ ys) (swap_filters p q xs))))
          | false ↦ (λ y z. rw z (swap_filters p q xs))
        ]
        | false ↦ elim d as (λ d. p x ≡ false → q x ≡ d → P false d) [
          | true ↦ (λ y z. rw y (swap_filters p q xs))
          | false ↦ (λ y z. swap_filters p q xs)
        ]
      ] in
      go (p x) (q x) refl refl

  -- What others leave of the caller's own.
  keep_mine : (d : Caller) → are_one d c ≡ false → (xs : List Caller) → filter (λ x. are_one x c) (filter (λ x. not (are_one x d)) xs) ≡ filter (λ x. are_one x c) xs
  keep_mine d other [] = refl
  keep_mine d other (x ∷ xs) =
      let Q : List Caller → Type 0 = λ ys. filter (λ y. are_one y c) ys ≡ filter (λ y. are_one y c) (x ∷ xs) in
      let P : Bool → Type 0 = λ b. are_one x d ≡ b → Q (if not b then x ∷ filter (λ y. not (are_one y d)) xs else filter (λ y. not (are_one y d)) xs) in
      let go : (b : Bool) → P b = λ b. elim b as P [
        | true ↦ (λ y.
            let not_mine : are_one x c ≡ false = subst (λ (k : Caller). are_one k c ≡ false) (sym (are_one-true x d y)) other in
            keep_mine d other xs ∙ sym (ap (λ t. if t then x ∷ filter (λ y. are_one y c) xs else filter (λ y. are_one y c) xs) not_mine))
        | false ↦ (λ y. ap (λ ys. if are_one x c then x ∷ ys else ys) (keep_mine d other xs))
      ] in
      go (are_one x d) refl

  -- ---- one entry

  -- a change that is the same for who sees the caller alone
  abbrev IsSame : Change → Type 0
  IsSame (Opens o) = arena_for c o ≡ o
  IsSame (Alters id f named) = (a : Arena) → arena_for c (f a) ≡ f (arena_for c a)
  IsSame Rests = ⊤

  same_by : (limit : ℕ) (d : Caller) (call : Call) (reply : Reply) → are_one d c ≡ true → IsSame (change_of limit d call reply)
  same_by limit d (Open id) reply own = refl
  same_by limit d (Enter id) Fine own = λ a. ap (λ t. record a { under_way = if t then d ∷ filter (λ x. are_one x c) a.under_way else filter (λ x. are_one x c) a.under_way }) own
  same_by limit d (Write id word value) reply own = λ a. refl
  same_by limit d (SwapIf id word old new) (Found found) own = λ a. refl
  same_by limit d (Add id word n) (Found found) own = λ a. refl
  same_by limit d (Allocate id size align) (Given place) own = λ a. refl
  same_by limit d (Leave id) reply own = λ a. ap (λ xs. record a { under_way = xs }) (swap_filters (λ x. are_one x c) (λ x. not (are_one x d)) a.under_way)
  same_by limit d (Hold id) Fine own = λ a. refl
  same_by limit d (Unhold id) reply own = λ a. refl
  same_by limit d (Shut id) Fine own = λ a. refl
  same_by limit d (End id) reply own = λ a. refl
  same_by limit d call reply own = tt

  made_for : (h : Change) → IsSame h → (s : State) → state_for c (made h s) ≡ made h (state_for c s)
  made_for (Opens o) same s = map_more s (o ∷ []) ∙ ap (λ (x : Arena). state_for c s ++ x ∷ []) same
  made_for (Alters id f named) same s = changed_for f named same s id
  made_for Rests same s = refl

  -- The caller's own entry leaves what it leaves where the caller is alone.
  own_for : (limit : ℕ) (s : State) (e : Entry) → are_one e.caller c ≡ true → state_for c (after limit s e) ≡ after limit (state_for c s) e
  own_for limit s e own = made_for (change_of limit e.caller e.call e.reply) (same_by limit e.caller e.call e.reply own) s

  -- a change that who sees the caller alone doesn't see
  abbrev IsHidden : Change → Type 0
  IsHidden (Opens o) = ⊥
  IsHidden (Alters id f named) = (a : Arena) → arena_for c (f a) ≡ arena_for c a
  IsHidden Rests = ⊤

  hidden_by : (limit : ℕ) (d : Caller) (call : Call) (reply : Reply) → are_one d c ≡ false → IsLook call → IsHidden (change_of limit d call reply)
  hidden_by limit d (Enter id) Fine other look = λ a. ap (λ t. record a { under_way = if t then d ∷ filter (λ x. are_one x c) a.under_way else filter (λ x. are_one x c) a.under_way }) other
  hidden_by limit d (Leave id) reply other look = λ a. ap (λ xs. record a { under_way = xs }) (keep_mine d other a.under_way)
  hidden_by limit d (Open id) reply other look = absurd look
  hidden_by limit d (Write id word value) reply other look = absurd look
  hidden_by limit d (SwapIf id word old new) reply other look = absurd look
  hidden_by limit d (Add id word n) reply other look = absurd look
  hidden_by limit d (Allocate id size align) reply other look = absurd look
  hidden_by limit d (Hold id) reply other look = absurd look
  hidden_by limit d (Unhold id) reply other look = absurd look
  hidden_by limit d (Shut id) reply other look = absurd look
  hidden_by limit d (End id) reply other look = absurd look
  hidden_by limit d call reply other look = tt

  unseen : (h : Change) → IsHidden h → (s : State) → state_for c (made h s) ≡ state_for c s
  unseen (Opens o) hidden s = absurd hidden
  unseen (Alters id f named) hidden s = hidden_for f hidden s id
  unseen Rests hidden s = refl

  look_for : (limit : ℕ) (s : State) (e : Entry) → are_one e.caller c ≡ false → IsLook e.call → state_for c (after limit s e) ≡ state_for c s
  look_for limit s e other look = unseen (change_of limit e.caller e.call e.reply) (hidden_by limit e.caller e.call e.reply other look) s

  -- ---- where a call may be made

  kept_in : (xs : List Caller) (x : Caller) → Contains xs x → are_one x c ≡ true → Contains (filter (λ y. are_one y c) xs) x
  kept_in [] x i e = absurd (let k = i.1 in omega arith)
  kept_in (y ∷ ys) x i e =
      let rest : Contains ys x → Contains (filter (λ z. are_one z c) ys) x = λ j. kept_in ys x j e in
      let P : Bool → Type 0 = λ b. are_one y c ≡ b → Contains (if b then y ∷ filter (λ z. are_one z c) ys else filter (λ z. are_one z c) ys) x in
      let go : (b : Bool) → P b = λ b. elim b as P [
        | true ↦ (λ m. ⊎_elim
            (λ (h : x ≡ y). subst (λ (k : Caller). Contains (k ∷ filter (λ z. are_one z c) ys) x) h (Contains-here x (filter (λ z. are_one z c) ys)))
            (λ (j : Contains ys x). Contains-append_right (y ∷ []) (filter (λ z. are_one z c) ys) x (rest j))
            (cases y ys x i))
        | false ↦ (λ n. ⊎_elim
            (λ (h : x ≡ y). let no : true ≡ false = sym e ∙ (ap (λ k. are_one k c) h ∙ n) in absurd (cc))
            rest
            (cases y ys x i))
      ] in
      go (are_one y c) refl
    where
      Contains-here : (x : Caller) (xs : List Caller) → Contains (x ∷ xs) x
      Contains-here x xs = (0, omega arith, refl)

      cases : (y : Caller) (ys : List Caller) (x : Caller) → Contains (y ∷ ys) x → (x ≡ y) ⊎ Contains ys x
      cases y ys x (zero, l, h) = inl (sym h)
      cases y ys x (suc k, l, h) = inr (k, omega (arith, l), h)

  was_in : (xs : List Caller) (x : Caller) → Contains (filter (λ y. are_one y c) xs) x → Contains xs x
  was_in xs x = All-contains (Contains xs) (filter (λ y. are_one y c) xs) x (All-filter (λ y. are_one y c) (Contains xs) xs (All-contains_itself xs))

  under_way_for : (s : State) (d : Caller) (id : ArenaId) → are_one d c ≡ true → IsUnderWay s d id → IsUnderWay (state_for c s) d id
  under_way_for s d id own w = subst (λ (a : Arena). Contains a.under_way d) (sym (arena_for_of s id)) (kept_in (arena_of s id).under_way d w own)

  under_way_was : (s : State) (d : Caller) (id : ArenaId) → IsUnderWay (state_for c s) d id → IsUnderWay s d id
  under_way_was s d id w = was_in (arena_of s id).under_way d (subst (λ (a : Arena). Contains a.under_way d) (arena_for_of s id) w)

  reach_for : (s : State) (d : Caller) (id : ArenaId) (word : ℕ) → are_one d c ≡ true → MayReach s d id word → MayReach (state_for c s) d id word
  reach_for s d id word own m = record {
    under_way = under_way_for s d id own m.under_way;
    within = subst (λ (a : Arena). word < length a.words) (sym (arena_for_of s id)) m.within;
  }

  put_for : (s : State) (d : Caller) (id : ArenaId) (word value : ℕ) → are_one d c ≡ true → MayPut s d id word value → MayPut (state_for c s) d id word value
  put_for s d id word value own m = record {
    under_way = under_way_for s d id own m.under_way;
    within = subst (λ (a : Arena). word < length a.words) (sym (arena_for_of s id)) m.within;
    fits = m.fits;
  }

  may_for : (s : State) (d : Caller) (call : Call) → are_one d c ≡ true → MayCall s d call → MayCall (state_for c s) d call
  may_for s d (Open id) own m = (has_for s id ∙ m.0, m.1)
  may_for s d (Enter id) own m = (has_for s id ∙ m.0, m.1, λ a w. m.2 a (under_way_was s d a w))
  may_for s d (Read id word) own m = reach_for s d id word own m
  may_for s d (Write id word value) own m = put_for s d id word value own m
  may_for s d (SwapIf id word old new) own m = put_for s d id word new own m
  may_for s d (Add id word n) own m = reach_for s d id word own m
  may_for s d (Allocate id size align) own m = (under_way_for s d id own m.0, m.1)
  may_for s d (Leave id) own m = under_way_for s d id own m
  may_for s d (Hold id) own m = (has_for s id ∙ m.0, m.1)
  may_for s d (Unhold id) own m = (ap (λ (a : Arena). a.life) (arena_for_of s id) ∙ m.0, subst (λ (a : Arena). 0 < a.holds) (sym (arena_for_of s id)) m.1)
  may_for s d (Shut id) own m = (has_for s id ∙ m.0, m.1, m.2)
  may_for s d (End id) own m = (
    ap (λ (a : Arena). a.life) (arena_for_of s id) ∙ m.0,
    ap (λ (a : Arena). a.under_way) (arena_for_of s id) ∙ ap (λ xs. filter (λ x. are_one x c) xs) m.1,
  )
  may_for s d (Lend block id part) own m = tt
  may_for s d (Back block) own m = tt

  reply_for : (limit : ℕ) (s : State) (call : Call) → reply_to limit (state_for c s) call ≡ reply_to limit s call
  reply_for limit s (Open id) = refl
  reply_for limit s (Enter id) = ap (λ (a : Arena). enter_reply a.life) (arena_for_of s id)
  reply_for limit s (Read id word) = ap (λ (a : Arena). Found (slice_index a.words word)) (arena_for_of s id)
  reply_for limit s (Write id word value) = refl
  reply_for limit s (SwapIf id word old new) = ap (λ (a : Arena). Found (slice_index a.words word)) (arena_for_of s id)
  reply_for limit s (Add id word n) = ap (λ (a : Arena). Found (slice_index a.words word)) (arena_for_of s id)
  reply_for limit s (Allocate id size align) = ap (λ (a : Arena). allocate_reply limit a.given size align) (arena_for_of s id)
  reply_for limit s (Leave id) = refl
  reply_for limit s (Hold id) = ap (λ (a : Arena). hold_reply a.life a.holds) (arena_for_of s id)
  reply_for limit s (Unhold id) = refl
  reply_for limit s (Shut id) = ap (λ (a : Arena). shut_reply a.life a.holds) (arena_for_of s id)
  reply_for limit s (End id) = refl
  reply_for limit s (Lend block id part) = refl
  reply_for limit s (Back block) = refl

  -- ---- entries in a row

  -- Where others only look, the caller's own entries are legal without them, and leave what it sees.
  pub alone_for : (limit : ℕ) (s : State) (es : List Entry) → IsLegal limit s es → OthersLook c es
      → IsLegal limit (state_for c s) (made_by c es) × (state_for c (state_after limit s es) ≡ state_after limit (state_for c s) (made_by c es))
  alone_for limit s [] l o = (tt, refl)
  alone_for limit s (e ∷ es) l o =
      let rest = alone_for limit (after limit s e) es l.2 o.1 in
      let R : List Entry → Type 0 = λ own. IsLegal limit (state_for c s) own × (state_for c (state_after limit (after limit s e) es) ≡ state_after limit (state_for c s) own) in
      ⊎_elim
      (λ (own : are_one e.caller c ≡ true).
      let next : state_for c (after limit s e) ≡ after limit (state_for c s) e = own_for limit s e own in
      let legal : IsLegal limit (after limit (state_for c s) e) (made_by c es) = subst (λ (t : State). IsLegal limit t (made_by c es)) next rest.0 in
      let all : R (e ∷ made_by c es) = (
        (may_for s e.caller e.call own l.0, l.1 ∙ sym (reply_for limit s e.call), legal),
        rest.1 ∙ ap (λ t. state_after limit t (made_by c es)) next,
      ) in
      subst R (sym (ap (λ b. cond b (e ∷ made_by c es) (made_by c es)) own)) all)
      (λ (h : (are_one e.caller c ≡ false) × IsLook e.call).
      let next : state_for c (after limit s e) ≡ state_for c s = look_for limit s e h.0 h.1 in
      let all : R (made_by c es) = (
        subst (λ (t : State). IsLegal limit t (made_by c es)) next rest.0,
        rest.1 ∙ ap (λ t. state_after limit t (made_by c es)) next,
      ) in
      subst R (sym (ap (λ b. cond b (e ∷ made_by c es) (made_by c es)) h.0)) all)
      o.0
