-- What stands in lists that were put together, mapped or filtered.
use Rattle.std.{proofs.Common.{◌≡◌, Bool, true, false, List, [], ◌∷◌, ◌++◌, map, refl, ap, sym, subst, cond, ◌⊎◌, inl, inr, ◌∙◌}, specs.{Prelude.{filter}, List.{AllByRecursion}}}
use Rattle.fm_base_lists.specs.Among.{IsAmong}
use Rattle.fm_base_lists.proofs.Each.{all_among, all_of_among}

-- In the first of two.
pub among_left : {A : Type 0} (x : A) (xs ys : List A) → IsAmong x xs → IsAmong x (xs ++ ys)
among_left x [] ys h = absurd h
among_left x (y ∷ xs) ys (inl e) = inl e
among_left x (y ∷ xs) ys (inr h) = inr (among_left x xs ys h)

-- In the second of two.
pub among_right : {A : Type 0} (x : A) (xs ys : List A) → IsAmong x ys → IsAmong x (xs ++ ys)
among_right x [] ys h = h
among_right x (y ∷ xs) ys h = inr (among_right x xs ys h)

-- In one of two.
pub among_either : {A : Type 0} (x : A) (xs ys : List A) → IsAmong x (xs ++ ys) → IsAmong x xs ⊎ IsAmong x ys
among_either x [] ys h = inr h
among_either x (y ∷ xs) ys (inl e) = inl (inl e)
among_either x (y ∷ xs) ys (inr h) = elim (among_either x xs ys h) [ inl l ↦ inl (inr l) | inr r ↦ inr r ]

-- What a function makes of an element stands in the mapped list.
pub among_map : {A B : Type 0} (f : A → B) (x : A) (xs : List A) → IsAmong x xs → IsAmong (f x) (map f xs)
among_map f x [] h = absurd h
among_map f x (y ∷ xs) (inl e) = inl (ap f e)
among_map f x (y ∷ xs) (inr h) = inr (among_map f x xs h)

-- What stands in a mapped list was made of an element.
pub among_back : {A B : Type 0} (f : A → B) (z : B) (xs : List A) → IsAmong z (map f xs) → (x : A) × IsAmong x xs × (z ≡ f x)
among_back f z [] h = absurd h
among_back f z (y ∷ xs) (inl e) = (y, inl refl, e)
among_back f z (y ∷ xs) (inr h) = let r = among_back f z xs h in (r.0, inr r.1, r.2)

-- What a filter kept was there.
pub among_kept : {A : Type 0} (p : A → Bool) (x : A) (xs : List A) → IsAmong x (filter p xs) → IsAmong x xs
among_kept p x [] h = h
among_kept {A} p x (y ∷ ys) h =
    let P : Bool → Type 0 = λ b. IsAmong x (cond b (y ∷ filter p ys) (filter p ys)) → IsAmong x (y ∷ ys) in
    let go : (b : Bool) → P b = λ b. elim b as P [
      | true ↦ (λ w. elim w [ inl i ↦ inl i | inr r ↦ inr (among_kept p x ys r) ])
      | false ↦ (λ w. inr (among_kept p x ys w))
    ] in
    go (p y) h

-- What holds of each of a list holds of each that is kept.
pub all_filtered : {X : Type 0} (P : X → Type 0) (q : X → Bool) (xs : List X) → AllByRecursion P xs → AllByRecursion P (filter q xs)
all_filtered P q xs h = all_of_among P (filter q xs) (λ x a. all_among P x xs h (among_kept q x xs a))

-- Two functions, one after the other, that make the same of each element as a third.
pub map_among : {A B C : Type 0} (f : B → C) (g : A → B) (h : A → C) (xs : List A) → ((x : A) → IsAmong x xs → f (g x) ≡ h x) → map f (map g xs) ≡ map h xs
map_among f g h [] e = refl
map_among f g h (x ∷ xs) e = ap (λ y. y ∷ map f (map g xs)) (e x (inl refl)) ∙ ap (λ ys. h x ∷ ys) (map_among f g h xs (λ y a. e y (inr a)))

-- What holds of all that elements are mapped to holds of what stands in the mapped list.
pub each_mapped : {A B : Type 0} (P : B → Type 0) (f : A → B) (xs : List A) → ((x : A) → IsAmong x xs → P (f x)) → (y : B) → IsAmong y (map f xs) → P y
each_mapped P f [] h y a = absurd a
each_mapped P f (x ∷ xs) h y (inl e) = subst P (sym e) (h x (inl refl))
each_mapped P f (x ∷ xs) h y (inr a) = each_mapped P f xs (λ z b. h z (inr b)) y a
