-- What names stand for as a line is added, or a hold or handle is taken out.
use Rattle.std.proofs.Common.{◌≡◌, ◌≢◌, ℕ, ◌+◌, ◌-◌, ◌<◌, ◌≤◌, ◌==◌, nat_lt, Bool, true, false, if◌then◌else◌, List, [], ◌∷◌, ◌++◌, length, length-append, get_or, set, refl, ap, sym, ◌∙◌, subst, arith, Option, Some, None}
use Rattle.std.proofs.lemmas.Bool.{ltb-true, ltb-false, eqb-true, eqb-false, lt-ltb, Decides.{nat_tests}}
use Rattle.std.proofs.lemmas.List.{get_or_append_left, get_or_past, get_or_push, get_or-set_same, get_or-set_other}
use Rattle.fm_script_lines.specs.{declared.standing.Standing.{Standing, TheVariants.{Nothing, Arena, Automatic, Segment, Hold, Handle}}, Lines.{is_number}}
use Rattle.fm_script_lines.specs.Standings.{standing_at, standing_of, lent, hold_in, handle_in, hold_of, handle_of, unheld, handed_back}
use Rattle.fm_script_lines.specs.Tables.{SeenAs, IsOwn, TookAt}

-- What isn't own may be used as an arena and as a segment.
pub lent_seen : (s : Standing) → SeenAs (lent s) s
lent_seen Nothing = record { arena = refl; segment = refl }
lent_seen (Arena id) = record { arena = refl; segment = refl }
lent_seen (Automatic id handle) = record { arena = refl; segment = refl }
lent_seen (Segment r) = record { arena = refl; segment = refl }
lent_seen (Hold hold) = record { arena = refl; segment = refl }
lent_seen (Handle handle) = record { arena = refl; segment = refl }

-- ---- the parts of a table

-- A name of others.
pub standing-others : (base : List Standing) (start : ℕ) (own : List Standing) (n : ℕ) → n < length base
    → standing_at base start own n ≡ lent (get_or base n Nothing)
standing-others base start own n l = let t : nat_lt n (length base) ≡ true = lt-ltb n (length base) l in rw t refl

not_below : (m n : ℕ) → n ≤ m → nat_lt m n ≡ false
not_below m n l = grind (arith, nat_tests)

-- A name between.
pub standing-between : (base : List Standing) (start : ℕ) (own : List Standing) (n : ℕ) → length base ≤ n → n < start
    → standing_at base start own n ≡ Nothing
standing-between base start own n l k = rw (not_below n (length base) l, lt-ltb n start k) refl

-- A name of its own.
pub standing-own : (base : List Standing) (start : ℕ) (own : List Standing) (n : ℕ) → length base ≤ n → start ≤ n
    → standing_at base start own n ≡ get_or own (n - start) Nothing
standing-own base start own n l k = rw (not_below n (length base) l, not_below n start k) refl

-- ---- a line more

get_or-one_more : (xs : List Standing) (s : Standing) (i : ℕ) → i ≢ length xs → get_or (xs ++ s ∷ []) i Nothing ≡ get_or xs i Nothing
get_or-one_more xs s i ne = go (nat_lt i (length xs)) refl
  where
    go : (b : Bool) → nat_lt i (length xs) ≡ b → get_or (xs ++ s ∷ []) i Nothing ≡ get_or xs i Nothing
    go true e = get_or_append_left xs (s ∷ []) Nothing i (ltb-true i (length xs) e)
    go false e =
        let l = ltb-false i (length xs) e in
        get_or_past (xs ++ s ∷ []) i Nothing (let k = length-append xs (s ∷ []) in omega (arith, l, k, ne)) ∙ sym (get_or_past xs i Nothing l)

-- Where the own lines' names changed at one place alone, only the name of its number did.
standing-changed : (base : List Standing) (start : ℕ) (own next : List Standing) (at : ℕ) (s : Standing) (n : ℕ) → length base ≤ start
    → get_or next at Nothing ≡ s → ((i : ℕ) → i ≢ at → get_or next i Nothing ≡ get_or own i Nothing)
    → standing_at base start next n ≡ (if n == start + at then s else standing_at base start own n)
standing-changed base start own next at s n h here others = go (nat_lt n (length base)) refl (nat_lt n start) refl (n == start + at) refl
  where
    go : (x : Bool) → nat_lt n (length base) ≡ x → (y : Bool) → nat_lt n start ≡ y → (z : Bool) → (n == start + at) ≡ z
        → standing_at base start next n ≡ (if n == start + at then s else standing_at base start own n)
    go true e y f true g = absurd (let l = ltb-true n (length base) e in let q = eqb-true n (start + at) g in omega (arith, l, q, h))
    go true e y f false g = rw (g, e) refl
    go false e true f true g = absurd (let l = ltb-true n start f in let q = eqb-true n (start + at) g in omega (arith, l, q))
    go false e true f false g = rw (g, e, f) refl
    go false e false f true g =
        let q : n ≡ start + at = eqb-true n (start + at) g in
        let i : n - start ≡ at = omega (arith, q) in
        rw (g, e, f) (ap (λ (j : ℕ). get_or next j Nothing) i ∙ here)
    go false e false f false g =
        let l = ltb-false n start f in
        let ne : n - start ≢ at = λ q. eqb-false n (start + at) g (omega (arith, q, l)) in
        rw (g, e, f) (others (n - start) ne)

pub standing-push : (base : List Standing) (start : ℕ) (own : List Standing) (s : Standing) (n : ℕ) → length base ≤ start
    → standing_at base start (own ++ s ∷ []) n ≡ (if n == start + length own then s else standing_at base start own n)
standing-push base start own s n h =
    standing-changed base start own (own ++ s ∷ []) (length own) s n h (get_or_push own s Nothing (length own) refl) (get_or-one_more own s)

-- ---- a hold or handle less

pub standing-set : (base : List Standing) (start : ℕ) (own : List Standing) (at : ℕ) (s : Standing) (n : ℕ) → length base ≤ start → at < length own
    → standing_at base start (set own at s) n ≡ (if n == start + at then s else standing_at base start own n)
standing-set base start own at s n h k =
    standing-changed base start own (set own at s) at s n h (get_or-set_same own at s Nothing k) (λ i ne. get_or-set_other own at i s Nothing ne)

-- what each name stands for behind the taking
abbrev pub Left : (Standing → Standing) → List Standing → ℕ → List Standing → Option ℕ → List Standing → Type 0
Left left base start own number next = (n : ℕ) → standing_at base start next n
    ≡ (if is_number number n then left (standing_at base start own n) else standing_at base start own n)

-- Where it was taken out.
pub left-taken : (left : Standing → Standing) (base : List Standing) (start : ℕ) (own next : List Standing) (number : Option ℕ) (at : ℕ)
    → length base ≤ start → TookAt left (length base) start own next number at → Left left base start own number next
left-taken left base start own next number at h t n =
    ap (λ (xs : List Standing). standing_at base start xs n) t.new_is
    ∙ (standing-set base start own at (left (get_or own at Nothing)) n h t.own.within ∙ here (n == start + at) refl)
  where
    here : (z : Bool) → (n == start + at) ≡ z
        → (if n == start + at then left (get_or own at Nothing) else standing_at base start own n)
        ≡ (if is_number number n then left (standing_at base start own n) else standing_at base start own n)
    here true g =
        let q : n ≡ start + at = eqb-true n (start + at) g in
        let behind = t.own.behind in
        let i : n - start ≡ at = omega (arith, q) in
        let own_is : standing_at base start own n ≡ get_or own at Nothing =
        standing-own base start own n (omega (arith, q, behind)) (omega (arith, q)) ∙ ap (λ (j : ℕ). get_or own j Nothing) i in
        rw (t.own.is, g, own_is) refl
    here false g = rw (t.own.is, g) refl

-- Where there was none.
pub left-none : (left : Standing → Standing) (base : List Standing) (start : ℕ) (own next : List Standing) (number : Option ℕ)
    → next ≡ own → left (standing_of base start own number) ≡ standing_of base start own number → Left left base start own number next
left-none left base start own next number same is n = ap (λ (xs : List Standing). standing_at base start xs n) same ∙ sym (here number is)
  where
    at_this : (m : ℕ) (z : Bool) → (n == m) ≡ z → left (standing_at base start own m) ≡ standing_at base start own m
        → (if z then left (standing_at base start own n) else standing_at base start own n) ≡ standing_at base start own n
    at_this m true g e = let q : m ≡ n = sym (eqb-true n m g) in subst (λ (j : ℕ). left (standing_at base start own j) ≡ standing_at base start own j) q e
    at_this m false g e = refl

    here : (o : Option ℕ) → left (standing_of base start own o) ≡ standing_of base start own o
        → (if is_number o n then left (standing_at base start own n) else standing_at base start own n) ≡ standing_at base start own n
    here None e = refl
    here (Some m) e = at_this m (n == m) refl e

-- ---- what is left

pub unheld-same : (s : Standing) → hold_of s ≡ None → unheld s ≡ s
unheld-same Nothing e = refl
unheld-same (Arena id) e = refl
unheld-same (Automatic id handle) e = refl
unheld-same (Segment r) e = refl
unheld-same (Hold None) e = refl
unheld-same (Hold (Some h)) e = absurd (cc)
unheld-same (Handle handle) e = refl

pub handed-same : (s : Standing) → handle_of s ≡ None → handed_back s ≡ s
handed-same Nothing e = refl
handed-same (Arena id) e = refl
handed-same (Automatic id None) e = refl
handed-same (Automatic id (Some h)) e = absurd (cc)
handed-same (Segment r) e = refl
handed-same (Hold hold) e = refl
handed-same (Handle None) e = refl
handed-same (Handle (Some h)) e = absurd (cc)

-- what is left of a name's tokens once its hold or its handle is given back
pub record TokensLeft (s : Standing) : Type 0 where
  pub unheld_hold : hold_of (unheld s) ≡ None
  pub unheld_handle : handle_of (unheld s) ≡ handle_of s
  pub handed_hold : hold_of (handed_back s) ≡ hold_of s
  pub handed_handle : handle_of (handed_back s) ≡ None

-- One is gone, and the other is as it was.
pub tokens_left : (s : Standing) → TokensLeft s
tokens_left Nothing = record { unheld_hold = refl; unheld_handle = refl; handed_hold = refl; handed_handle = refl }
tokens_left (Arena id) = record { unheld_hold = refl; unheld_handle = refl; handed_hold = refl; handed_handle = refl }
tokens_left (Automatic id handle) = record { unheld_hold = refl; unheld_handle = refl; handed_hold = refl; handed_handle = refl }
tokens_left (Segment r) = record { unheld_hold = refl; unheld_handle = refl; handed_hold = refl; handed_handle = refl }
tokens_left (Hold hold) = record { unheld_hold = refl; unheld_handle = refl; handed_hold = refl; handed_handle = refl }
tokens_left (Handle handle) = record { unheld_hold = refl; unheld_handle = refl; handed_hold = refl; handed_handle = refl }

-- What is lent has no hold and no handle.
pub lent_none : (s : Standing) → (hold_in (lent s) ≡ None) × (handle_in (lent s) ≡ None)
lent_none Nothing = (refl, refl)
lent_none (Arena id) = (refl, refl)
lent_none (Automatic id handle) = (refl, refl)
lent_none (Segment r) = (refl, refl)
lent_none (Hold hold) = (refl, refl)
lent_none (Handle handle) = (refl, refl)

-- ---- whatever the number

-- What holds of others' names, of nothing and of the name's own place holds of what the name stands for.
pub of_name : (P : Standing → Type 0) (base : List Standing) (start : ℕ) (own : List Standing) (number : Option ℕ)
    → ((n : ℕ) → n < length base → P (lent (get_or base n Nothing))) → P Nothing
    → ((at : ℕ) → IsOwn (length base) start (length own) number at → P (get_or own at Nothing)) → P (standing_of base start own number)
of_name P base start own None others nothing mine = nothing
of_name P base start own (Some n) others nothing mine = go (nat_lt n (length base)) refl (nat_lt n start) refl (nat_lt (n - start) (length own)) refl
  where
    go : (x : Bool) → nat_lt n (length base) ≡ x → (y : Bool) → nat_lt n start ≡ y → (z : Bool) → nat_lt (n - start) (length own) ≡ z
        → P (standing_at base start own n)
    go true e y f z g = let l = ltb-true n (length base) e in subst P (sym (standing-others base start own n l)) (others n l)
    go false e true f z g = subst P (sym (standing-between base start own n (ltb-false n (length base) e) (ltb-true n start f))) nothing
    go false e false f true g =
        let l = ltb-false n start f in
        let k = ltb-false n (length base) e in
        let is : n ≡ start + (n - start) = omega (arith, l) in
        subst P (sym (standing-own base start own n k l))
        (mine (n - start) (record { within = ltb-true (n - start) (length own) g; behind = omega (arith, l, k); is = ap (λ (m : ℕ). Some m) is }))
    go false e false f false g =
        subst P (sym (standing-own base start own n (ltb-false n (length base) e) (ltb-false n start f)
        ∙ get_or_past own (n - start) Nothing (ltb-false (n - start) (length own) g))) nothing

module _ {T : Type 0} (token : Standing → Option T) (others : (s : Standing) → token (lent s) ≡ None) (nothing : token Nothing ≡ None)
    (base : List Standing) (start : ℕ) (own : List Standing) (number : Option ℕ) where
  -- What isn't its own has no token.
  pub not-own : ((at : ℕ) → IsOwn (length base) start (length own) number at → ⊥) → token (standing_of base start own number) ≡ None
  not-own elsewhere =
      of_name (λ s. token s ≡ None) base start own number (λ n l. others (get_or base n Nothing)) nothing (λ at o. absurd (elsewhere at o))

  -- What has one is its own.
  pub owned : (a : T) → token (standing_of base start own number) ≡ Some a → (at : ℕ) × ((at < length own) × (token (get_or own at Nothing) ≡ Some a))
  owned a =
      of_name (λ s. token s ≡ Some a → (at : ℕ) × ((at < length own) × (token (get_or own at Nothing) ≡ Some a))) base start own number
      (λ n l is. let none = others (get_or base n Nothing) in absurd (cc)) (λ is. absurd (cc)) (λ at o is. (at, (o.within, is)))

-- Its own name of this place.
pub standing-here : (base : List Standing) (start : ℕ) (own : List Standing) (number : Option ℕ) (at : ℕ) → IsOwn (length base) start (length own) number at
    → standing_of base start own number ≡ get_or own at Nothing
standing-here base start own number at o =
    let behind = o.behind in
    ap (λ (m : Option ℕ). standing_of base start own m) o.is
    ∙ (standing-own base start own (start + at) behind (omega arith) ∙ ap (λ (j : ℕ). get_or own j Nothing) (omega arith))
