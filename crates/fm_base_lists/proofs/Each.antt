-- What holds of each element of a list.
use Rattle.std.{proofs.Common.{ℕ, zero, suc, ◌<◌, List, [], ◌∷◌, ◌++◌, length, get_or, refl, sym, subst, arith, inl, inr}, specs.List.{AllByRecursion}}
use Rattle.fm_base_lists.specs.Among.{IsAmong}

-- Of both parts of a list.
pub all_split : {X : Type 0} (P : X → Type 0) (xs ys : List X) → AllByRecursion P (xs ++ ys) → AllByRecursion P xs × AllByRecursion P ys
all_split P [] ys h = (tt, h)
all_split P (x ∷ xs) ys h = let rest = all_split P xs ys h.1 in ((h.0, rest.0), rest.1)

-- Of two lists, one after the other.
pub all_both : {X : Type 0} (P : X → Type 0) (xs ys : List X) → AllByRecursion P xs → AllByRecursion P ys → AllByRecursion P (xs ++ ys)
all_both P [] ys h k = k
all_both P (x ∷ xs) ys h k = (h.0, all_both P xs ys h.1 k)

-- Of a list with one element more at its end.
pub all_snoc : {X : Type 0} (P : X → Type 0) (xs : List X) (x : X) → AllByRecursion P xs → P x → AllByRecursion P (xs ++ x ∷ [])
all_snoc P xs x h k = all_both P xs (x ∷ []) h (k, tt)

-- Of the element at an index.
pub all_at : {X : Type 0} (P : X → Type 0) (k : ℕ) (xs : List X) (d : X) → AllByRecursion P xs → k < length xs → P (get_or xs k d)
all_at P k [] d h below = absurd (omega arith)
all_at P zero (x ∷ xs) d h below = h.0
all_at P (suc k) (x ∷ xs) d h below = all_at P k xs d h.1 (omega arith)

-- Of each that stands in the list.
pub all_among : {X : Type 0} (P : X → Type 0) (x : X) (xs : List X) → AllByRecursion P xs → IsAmong x xs → P x
all_among P x [] h a = absurd a
all_among P x (y ∷ ys) h (inl e) = subst P (sym e) h.0
all_among P x (y ∷ ys) h (inr a) = all_among P x ys h.1 a

-- Of each where it holds of all that stand there.
pub all_of_among : {X : Type 0} (P : X → Type 0) (xs : List X) → ((x : X) → IsAmong x xs → P x) → AllByRecursion P xs
all_of_among P [] h = tt
all_of_among P (x ∷ xs) h = (h x (inl refl), all_of_among P xs (λ y a. h y (inr a)))

-- What follows from it.
pub all_weaker : {X : Type 0} (P Q : X → Type 0) → ((x : X) → P x → Q x) → (xs : List X) → AllByRecursion P xs → AllByRecursion Q xs
all_weaker P Q f [] h = tt
all_weaker P Q f (x ∷ xs) h = (f x h.0, all_weaker P Q f xs h.1)
