-- The least and the greatest of numbers.
use Rattle.std.proofs.Common.{◌≡◌, List, [], ◌∷◌, ◌++◌, Option, None, Some, refl, sym, ap, ◌∙◌, subst, inl, inr, arith}
use Rattle.std.specs.{Prelude.{ℤ, ◌≤ℤ◌, MatchOption, Bool, true, false, int_lt, if◌then◌else◌}, Int.{int_min, int_max}, List.{AllByRecursion}}
use Rattle.std.proofs.lemmas.Int.{ints, clamps}
use Rattle.fm_base_lists.{specs.Among.{IsAmong}, proofs.Each.{all_weaker}}
use Rattle.fm_records.specs.Answers.{lesser, greater, least_of, greatest_of}

-- which of three comes first makes no difference
pub lesser-lesser : (o p q : Option ℤ) → lesser (lesser o p) q ≡ lesser o (lesser p q)
lesser-lesser None p q = refl
lesser-lesser (Some x) None q = refl
lesser-lesser (Some x) (Some y) None = refl
lesser-lesser (Some x) (Some y) (Some z) = let e : int_min (int_min x y) z ≡ int_min x (int_min y z) = omega (arith, ints, clamps) in ap Some e

pub greater-greater : (o p q : Option ℤ) → greater (greater o p) q ≡ greater o (greater p q)
greater-greater None p q = refl
greater-greater (Some x) None q = refl
greater-greater (Some x) (Some y) None = refl
greater-greater (Some x) (Some y) (Some z) = let e : int_max (int_max x y) z ≡ int_max x (int_max y z) = omega (arith, ints, clamps) in ap Some e

pub least_of-append : (xs ys : List ℤ) → least_of (xs ++ ys) ≡ lesser (least_of xs) (least_of ys)
least_of-append [] ys = refl
least_of-append (x ∷ xs) ys = ap (lesser (Some x)) (least_of-append xs ys) ∙ sym (lesser-lesser (Some x) (least_of xs) (least_of ys))

pub greatest_of-append : (xs ys : List ℤ) → greatest_of (xs ++ ys) ≡ greater (greatest_of xs) (greatest_of ys)
greatest_of-append [] ys = refl
greatest_of-append (x ∷ xs) ys = ap (greater (Some x)) (greatest_of-append xs ys) ∙ sym (greater-greater (Some x) (greatest_of xs) (greatest_of ys))

-- what is at most each of these is so for what is less
lower : (m n : ℤ) (xs : List ℤ) → m ≤ℤ n → AllByRecursion (λ x. n ≤ℤ x) xs → AllByRecursion (λ x. m ≤ℤ x) xs
lower m n xs le all = all_weaker (λ x. n ≤ℤ x) (λ x. m ≤ℤ x) (λ x h. omega (arith, ints, le, h)) xs all

higher : (m n : ℤ) (xs : List ℤ) → n ≤ℤ m → AllByRecursion (λ x. x ≤ℤ n) xs → AllByRecursion (λ x. x ≤ℤ m) xs
higher m n xs le all = all_weaker (λ x. x ≤ℤ n) (λ x. x ≤ℤ m) (λ x h. omega (arith, ints, le, h)) xs all

abbrev IsLeastOf : List ℤ → Option ℤ → Type 0
IsLeastOf ns o = MatchOption o (ns ≡ []) (λ n. IsAmong n ns × AllByRecursion (λ m. n ≤ℤ m) ns)

abbrev IsGreatestOf : List ℤ → Option ℤ → Type 0
IsGreatestOf ns o = MatchOption o (ns ≡ []) (λ n. IsAmong n ns × AllByRecursion (λ m. m ≤ℤ n) ns)

-- one more number
least_more : (x : ℤ) (xs : List ℤ) (o : Option ℤ) → IsLeastOf xs o → IsLeastOf (x ∷ xs) (lesser (Some x) o)
least_more x xs None e = subst (λ ys. IsLeastOf (x ∷ ys) (Some x)) (sym e) (inl refl, (omega (arith, ints), tt))
least_more x xs (Some y) h = by (int_lt y x) refl
  where
    by : (t : Bool) → int_lt y x ≡ t → IsLeastOf (x ∷ xs) (Some (if t then y else x))
    by true e = (inr h.0, (omega (arith, ints, e), h.1))
    by false e = (inl refl, (omega (arith, ints), lower x y xs (omega (arith, ints, e)) h.1))

greatest_more : (x : ℤ) (xs : List ℤ) (o : Option ℤ) → IsGreatestOf xs o → IsGreatestOf (x ∷ xs) (greater (Some x) o)
greatest_more x xs None e = subst (λ ys. IsGreatestOf (x ∷ ys) (Some x)) (sym e) (inl refl, (omega (arith, ints), tt))
greatest_more x xs (Some y) h = by (int_lt y x) refl
  where
    by : (t : Bool) → int_lt y x ≡ t → IsGreatestOf (x ∷ xs) (Some (if t then x else y))
    by true e = (inl refl, (omega (arith, ints), higher x y xs (omega (arith, ints, e)) h.1))
    by false e = (inr h.0, (omega (arith, ints, e), h.1))

pub is_least : (ns : List ℤ) → IsLeastOf ns (least_of ns)
is_least [] = refl
is_least (x ∷ xs) = least_more x xs (least_of xs) (is_least xs)

pub is_greatest : (ns : List ℤ) → IsGreatestOf ns (greatest_of ns)
is_greatest [] = refl
is_greatest (x ∷ xs) = greatest_more x xs (greatest_of xs) (is_greatest xs)
