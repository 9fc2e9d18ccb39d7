-- Joining item by item: listed numbers on the way in, the rest on the way out.
use Rattle.std.proofs.Common.{◌≡◌, ℕ, zero, suc, ◌+◌, ◌-◌, ◌<◌, ◌≤◌, List, Vec, [], ◌∷◌, ◌++◌, length, vec_len, take, drop, get_or, set, refl, sym, ap, ◌∙◌, subst, append_assoc, length-append, length-drop, arith}
use Rattle.std.proofs.lemmas.List.{take_more_set, drop-set-lt, drop_more, set_at, get_or_at, take_at, set-set, set-get_or, get_or-set_same, get_or_default, length-take-le, nil_from_length, take-append-drop}
use Rattle.std.{specs.{declared.alloc.Global.{Global}, List.{AllZip}}, proofs.lemmas.Slice.Zip.{AllZip-long}}
use Rattle.fm_records.specs.declared.found.Found.{Found, TheVariants.{Count, Sum, Least, Greatest, Listed}}
use Rattle.fm_records.specs.Joined.{CanJoinFound, CanJoin, both, joined, lengthened, shortened, summed}

-- what joining in two steps needs of what an item found in both runs
record IsInSteps (f g : Found) : Type 0 where
  sum : summed (lengthened f g) g ≡ both f g
  back : shortened (lengthened f g) g ≡ f
  can : CanJoinFound (lengthened f g) g

in_steps : (f g : Found) → CanJoinFound f g → IsInSteps f g
in_steps (Count m) (Count n) h = record { sum = refl; back = refl; can = h }
in_steps (Sum m) (Sum n) h = record { sum = refl; back = refl; can = h }
in_steps (Least m) (Least n) h = record { sum = refl; back = refl; can = h }
in_steps (Greatest m) (Greatest n) h = record { sum = refl; back = refl; can = h }
in_steps (Listed m) (Listed n) h = record {
  sum = refl;
  back = ap Listed (take_at m n (length (m ++ n) - length n) (omega (arith, length-append m n)));
  can = h;
}
in_steps f g h = absurd h

-- ---- two lists, item by item

-- an item that is still left on one side is so on the other
pub zip_within : {A B : Type 0} (R : A → B → Type 0) (k : ℕ) (xs : List A) (ys : List B) → AllZip R (drop k xs) (drop k ys) → k < length xs → k < length ys
zip_within R k xs ys h more = omega (arith, AllZip-long R (drop k xs) (drop k ys) h, length-drop k xs, length-drop k ys)

-- what holds of both at an index
pub zip_at : {A B : Type 0} (R : A → B → Type 0) (xs : List A) (ys : List B) (k : ℕ) (d : A) (e : B) → AllZip R xs ys → k < length xs
    → R (get_or xs k d) (get_or ys k e)
zip_at R [] ys k d e h below = absurd (omega arith)
zip_at R (x ∷ xs) [] k d e h below = absurd h
zip_at R (x ∷ xs) (y ∷ ys) zero d e h below = h.0
zip_at R (x ∷ xs) (y ∷ ys) (suc k) d e h below = zip_at R xs ys k d e h.1 (omega (arith, below))

-- that item, and those behind it
pub zip_first : {A B : Type 0} (R : A → B → Type 0) (k : ℕ) (xs : List A) (ys : List B) (d : A) (e : B) → AllZip R (drop k xs) (drop k ys)
    → k < length xs → k < length ys → R (get_or xs k d) (get_or ys k e) × AllZip R (drop (k + 1) xs) (drop (k + 1) ys)
zip_first R k xs ys d e h mine theirs =
    subst (λ zs. AllZip R (get_or xs k d ∷ drop (k + 1) xs) zs) (drop_more ys k e theirs)
    (subst (λ zs. AllZip R zs (drop k ys)) (drop_more xs k d mine) h)

-- a list whose item k was changed, with the items behind joined
pub behind : (k : ℕ) (xs hs zs : List Found) (l : Found) → k < length xs
    → zs ≡ take (k + 1) (set xs k l) ++ joined (drop (k + 1) (set xs k l)) hs → zs ≡ take k xs ++ l ∷ joined (drop (k + 1) xs) hs
behind k xs hs zs l mine is =
    is
    ∙ ap (λ front. front ++ joined (drop (k + 1) (set xs k l)) hs) (take_more_set xs k l mine)
    ∙ ap (λ left. (take k xs ++ l ∷ []) ++ joined left hs) (drop-set-lt (k + 1) xs k l (omega arith))
    ∙ append_assoc (take k xs) (l ∷ []) (joined (drop (k + 1) xs) hs)

-- ---- one step of joining

-- f and g are the items k, both lists can be joined from there on, and f was lengthened to l
pub record IsStep (k : ℕ) (xs ys : List Found) (f g l : Found) : Type 0 where
  pub can : CanJoinFound f g
  pub mine : k < length xs
  pub theirs : k < length ys
  pub is_f : f ≡ get_or xs k f
  pub is_g : g ≡ get_or ys k g
  pub long : l ≡ lengthened f g

-- an item is left, by what the code sees of vectors
pub is_left : {k n : ℕ} (xs ys : Vec Found Global) → CanJoin (drop k xs.items) (drop k ys.items) → n ≡ vec_len ys → k < n → k < length xs.items
is_left {k} {n} xs ys h len more =
    let theirs : vec_len ys ≡ length ys.items = omega (arith, ys.ok.0) in
    omega (arith, more, len, theirs, AllZip-long CanJoinFound (drop k xs.items) (drop k ys.items) h, length-drop k xs.items, length-drop k ys.items)

pub step : {k n : ℕ} {f g l : Found} (xs ys : Vec Found Global) → CanJoin (drop k xs.items) (drop k ys.items) → n ≡ vec_len ys → k < n → f ≡ get_or xs.items k f
    → g ≡ get_or ys.items k g → l ≡ lengthened f g → IsStep k xs.items ys.items f g l
step {k} {n} {f} {g} {l} xs ys h len more is_f is_g long =
    let mine = is_left xs ys h len more in
    let theirs = zip_within CanJoinFound k xs.items ys.items h mine in
    record {
      can = subst (λ x. CanJoinFound x g) (sym is_f)
          (subst (λ y. CanJoinFound (get_or xs.items k f) y) (sym is_g) (zip_first CanJoinFound k xs.items ys.items f g h mine theirs).0);
      mine = mine;
      theirs = theirs;
      is_f = is_f;
      is_g = is_g;
      long = long;
    }

module _ {k : ℕ} {xs ys : List Found} {f g l : Found} (s : IsStep k xs ys f g l) (zs : List Found) (m h : Found) (is_m : m ≡ get_or zs k m)
    (is_h : h ≡ get_or ys k h) where
  -- what is read again of the other list
  same : h ≡ g
  same = is_h ∙ get_or_default ys k h g s.theirs ∙ sym s.is_g

  module _ (is_zs : zs ≡ take (k + 1) (set xs k l) ++ joined (drop (k + 1) (set xs k l)) (drop (k + 1) ys)) where
    lay : zs ≡ take k xs ++ l ∷ joined (drop (k + 1) xs) (drop (k + 1) ys)
    lay = behind k xs (drop (k + 1) ys) zs l s.mine is_zs

    -- and of this one
    there : m ≡ lengthened f g
    there = is_m ∙ ap (λ n. get_or n k m) lay
        ∙ get_or_at (take k xs) l (joined (drop (k + 1) xs) (drop (k + 1) ys)) m k (length-take-le k xs (let mine = s.mine in omega (arith, mine))) ∙ s.long

    -- the item can be added to
    pub adds : CanJoinFound m h
    adds = subst (λ x. CanJoinFound m x) (sym same) (subst (λ x. CanJoinFound x g) (sym there) (in_steps f g s.can).can)

    -- and then all items from it on are joined
    pub joins : (n : Found) → n ≡ summed m h → set zs k n ≡ take k xs ++ joined (drop k xs) (drop k ys)
    joins n is_n =
        let rest = joined (drop (k + 1) xs) (drop (k + 1) ys) in
        let sum : n ≡ both f g = is_n ∙ ap (λ x. summed x h) there ∙ ap (summed (lengthened f g)) same ∙ (in_steps f g s.can).sum in
        let one : drop k xs ≡ f ∷ drop (k + 1) xs = drop_more xs k f s.mine ∙ ap (λ x. x ∷ drop (k + 1) xs) (sym s.is_f) in
        let other : drop k ys ≡ g ∷ drop (k + 1) ys = drop_more ys k g s.theirs ∙ ap (λ y. y ∷ drop (k + 1) ys) (sym s.is_g) in
        ap (λ x. set x k n) lay
        ∙ set_at (take k xs) l rest n k (length-take-le k xs (let mine = s.mine in omega (arith, mine)))
        ∙ ap (λ x. take k xs ++ x ∷ rest) sum
        ∙ ap (λ left. take k xs ++ joined left (g ∷ drop (k + 1) ys)) (sym one)
        ∙ ap (λ left. take k xs ++ joined (drop k xs) left) (sym other)

  -- or the item is shortened again, and nothing has changed
  pub undoes : (n : Found) → zs ≡ set xs k l → n ≡ shortened m h → set zs k n ≡ xs
  undoes n is_zs is_n =
      let there : m ≡ lengthened f g = is_m ∙ ap (λ n. get_or n k m) is_zs ∙ get_or-set_same xs k l m s.mine ∙ s.long in
      let back : n ≡ f = is_n ∙ ap (λ x. shortened x h) there ∙ ap (shortened (lengthened f g)) same ∙ (in_steps f g s.can).back in
      ap (λ x. set x k n) is_zs ∙ set-set xs k l n ∙ ap (set xs k) (back ∙ s.is_f) ∙ set-get_or xs k f

-- no item is left
pub none_left : (k : ℕ) (xs ys : List Found) → CanJoin (drop k xs) (drop k ys) → length ys ≤ k → xs ≡ take k xs ++ joined (drop k xs) (drop k ys)
none_left k xs ys h past =
    let none : drop k xs ≡ [] = nil_from_length (drop k xs) (omega (arith, AllZip-long CanJoinFound (drop k xs) (drop k ys) h, length-drop k ys)) in
    sym (take-append-drop k xs) ∙ ap (λ left. take k xs ++ left) (none ∙ sym (ap (λ left. joined left (drop k ys)) none))
