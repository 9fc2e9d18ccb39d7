-- The last pair is taken away, where it is a number's, and one put behind.
use Rattle.std.proofs.Common.{◌≡◌, ◌≢◌, ℕ, ◌+◌, ◌-◌, ◌%◌, ◌^◌, ◌<◌, List, [], ◌∷◌, ◌++◌, length, get_or, take, refl, sym, ap, ◌∙◌, subst, arith}
use Rattle.std.{specs.Prelude.{ℤ}, proofs.{Math.Nat.{mod-eq_of_lt}, lemmas.List.{take_all, take_more, length-append}}}
use Rattle.fm_group_lists.specs.{Climbing.{Puts, Takes, again, first, last, none}, Groups.{Group}}

-- a list ends with its last pair
ends_with : (xs : List Group) (len : ℕ) (d : Group) → len ≡ length xs → len ≢ 0 → xs ≡ take (len - 1) xs ++ get_or xs (len - 1) d ∷ []
ends_with xs len d e some =
    let next : len - 1 + 1 ≡ len = omega (arith, some) in
    sym (take_all len xs (omega (arith, e))) ∙ ap (λ k. take k xs) (sym next) ∙ take_more xs (len - 1) d (omega (arith, e, some))

pub takes_last : (xs : List Group) (len : ℕ) {n : ℤ} (x : Group) → len ≡ length xs → len ≢ 0 → x ≡ get_or xs (len - 1) x → x.0 ≡ n → Takes n xs (take (len - 1) xs) x.1
takes_last xs len {n} x e some is same =
    let pair : get_or xs (len - 1) x ≡ (n, x.1) = sym is ∙ ap (λ (k : ℤ). (k, x.1)) same in
    subst (λ (ys : List Group). Takes n ys (take (len - 1) xs) x.1) (sym (ends_with xs len x e some ∙ ap (λ (y : Group). take (len - 1) xs ++ y ∷ []) pair))
    (last (take (len - 1) xs) x.1)

-- the last of a list is the one behind others
behind_all : (ys : List Group) (y d : Group) → get_or (ys ++ y ∷ []) (length ys) d ≡ y
behind_all [] y d = refl
behind_all (x ∷ ys) y d = behind_all ys y d

last_is : (ys : List Group) (y d : Group) → get_or (ys ++ y ∷ []) (length (ys ++ y ∷ []) - 1) d ≡ y
last_is ys y d =
    let long = length-append ys (y ∷ []) in
    let one : length (y ∷ []) ≡ 1 = omega arith in
    let at : length (ys ++ y ∷ []) - 1 ≡ length ys = omega (arith, long, one) in
    ap (λ k. get_or (ys ++ y ∷ []) k d) at ∙ behind_all ys y d

pub takes_none : (xs : List Group) (len : ℕ) {n : ℤ} (x : Group) → len ≡ length xs → x ≡ get_or xs (len - 1) x → x.0 ≢ n → Takes n xs xs 0
takes_none xs len {n} x e is other = none xs (λ before count same. other (ap (λ (y : Group). y.0) (at_end before count same)))
  where
    at_end : (before : List Group) (count : ℕ) → xs ≡ before ++ (n, count) ∷ [] → x ≡ (n, count)
    at_end before count same =
        is ∙ ap (λ k. get_or xs (k - 1) x) e ∙ ap (λ (ys : List Group). get_or ys (length ys - 1) x) same ∙ last_is before (n, count) x

pub takes_nothing : (xs : List Group) (len : ℕ) {n : ℤ} → len ≡ length xs → len ≡ 0 → Takes n xs xs 0
takes_nothing [] len {n} e z = none [] (λ before count same. no_end n before count same)
  where
    no_end : (n : ℤ) (before : List Group) (count : ℕ) → ¬ ([] ≡ before ++ (n, count) ∷ [])
    no_end n [] count e = absurd (cc)
    no_end n (b ∷ before) count e = absurd (cc)
takes_nothing (x ∷ xs) len e z = absurd (omega (arith, e, z))

pub puts_behind : {n : ℤ} {more c sum : ℕ} {old left new : List Group} → Takes n old left c → new ≡ left ++ (n, sum) ∷ [] → sum ≡ (c + more) % 2 ^ 64 → more < 2 ^ 64
    → Puts n more old new
puts_behind {n} {more} {c} {sum} {old} {left} {new} t is total small =
    subst (λ (ys : List Group). Puts n more old ys) (sym (is ∙ ap (λ (k : ℕ). left ++ (n, k) ∷ []) total)) (by t)
  where
    by : {was rest : List Group} {k : ℕ} → Takes n was rest k → Puts n more was (rest ++ (n, (k + more) % 2 ^ 64) ∷ [])
    by (last gs k) = again gs k
    by (none gs e) =
        let plain : 0 + more ≡ more = omega arith in
        subst (λ (k : ℕ). Puts n more gs (gs ++ (n, k) ∷ [])) (sym (ap (λ k. k % 2 ^ 64) plain ∙ mod-eq_of_lt small)) (first gs e)
