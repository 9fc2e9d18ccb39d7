-- Each word is read as what it spells, and spells what it is read as.
use Rattle.std.proofs.Common.{◌≡◌, refl, sym, ap, subst, ◌∙◌, ℕ, ◌<◌, ◌≤◌, ◌^◌, true, false, ◌||◌, if◌then◌else◌, nat_eq, Option, Some, None, List, [], ◌∷◌, find, arith, lit<, codes}
use Rattle.std.specs.{Prelude.{ℤ, pos, negsuc, IsSome, IfSome, ◌↔◌}, Fmt.{decimal, signed_decimal}, Int.Signed.{mag}, List.{AllByRecursion, list_all}}
use Rattle.std.specs.{Char.{digit_value}, Str.{bytes_eq, Parse.{IsNumeral}}}
use Rattle.std.proofs.lemmas.Bool.{cond_both, and_parts, and_from, leb-true, le-leb, ltb-true, lt-ltb, ne_eqb, false_from_ne_true, Decides.{nat_tests}}
use Rattle.std.proofs.lemmas.{Fmt.{decimal_is_IsNumeral}, Option.{cond_some, same_Some}, Slice.Eq.{bytes_eq-Decides}}
use Rattle.fm_base.specs.declared.kind.Kind.{Kind}
use Rattle.fm_base.specs.declared.kind.Kind.TheVariants as kind
use Rattle.fm_lanes.specs.declared.{order.Order.{Order, TheVariants.{Little, Big}}, value_kind.ValueKind.{ValueKind}}
use Rattle.fm_lanes.specs.declared.value_kind.ValueKind.TheVariants.{Byte, Boolean, Char, Short, Int, Long}
use Rattle.fm_layout.specs.Name.{IsName, IsNameEnd, is_letter, is_digit}
use Rattle.fm_script_text.{proofs.Numbers.{named_number, named_literal, kind_is_small}, specs.declared.who.Who.{Who, TheVariants.{First, Worker, Last}}}
use Rattle.fm_script_text.specs.Reader.{is_name, name_named, number_named, literal_named, is_of_kind, arena_kind_named, type_named, types, who_named, worker}
use Rattle.fm_script_text.specs.Syntax.{who_text, arena_kind_text, type_text, IsWho, IsOfKind, most, most_workers}

-- ---- names

-- bytes of a name pass the test
ends : (cs : List ℕ) → IsNameEnd cs → list_all (λ b. is_letter b || is_digit b) cs ≡ true
ends [] h = refl
ends (c ∷ cs) h = and_from _ _ h.0 (ends cs h.1)

-- and what passes it are such
end_of : (cs : List ℕ) → list_all (λ b. is_letter b || is_digit b) cs ≡ true → IsNameEnd cs
end_of [] h = tt
end_of (c ∷ cs) h = let p = and_parts _ _ h in (p.0, end_of cs p.1)

-- the test of names is what names are
pub name_tested : (word : List ℕ) → IsName word → is_name word ≡ true
name_tested [] h = absurd h
name_tested (c ∷ cs) h = and_from _ _ h.0 (and_from _ _ (ends cs h.1) (le-leb _ _ h.2))

-- and what passes it is a name
pub tested_name : (word : List ℕ) → is_name word ≡ true → IsName word
tested_name [] h = absurd (cc)
tested_name (c ∷ cs) h =
    let p = and_parts _ _ h in
    let q = and_parts _ _ p.1 in
    (p.0, end_of cs q.0, leb-true _ _ q.1)

-- a name is read as itself
pub named_name : (word : List ℕ) → IsName word → name_named word ≡ Some word
named_name word h = rw (name_tested word h) refl

-- and what is read as a name is it
pub name_is : (word name : List ℕ) → name_named word ≡ Some name → IsName name × (word ≡ name)
name_is word name e =
    let p = cond_some (is_name word) word name e in
    (subst IsName p.1 (tested_name word p.0), p.1)

-- what is found of a name is what the word is read as
pub found_name : (word : List ℕ) (found : Option (List ℕ)) → IfSome found (λ name. name ≡ word) → (IsSome found ↔ IsName word) → found ≡ name_named word
found_name word None same both =
    let fails : is_name word ≡ false = false_from_ne_true (is_name word) (λ t. let k : false ≡ true = both.1 (tested_name word t) in absurd (cc)) in
    sym (rw fails refl)
found_name word (Some name) same both = ap Some same ∙ sym (named_name word (both.0 refl))

-- ---- numbers

-- a number within its limit is read as itself
pub named_up_to : (most n : ℕ) → n ≤ most → most < 2 ^ 64 → number_named most (decimal n) ≡ Some n
named_up_to most n le fits = named_number most n (decimal n) (omega arith) refl ∙ rw (le-leb n most le) refl

-- and what is read as a number spells it
pub number_is : (most : ℕ) (word : List ℕ) (n : ℕ) → number_named most word ≡ Some n → (n ≤ most) × (word ≡ decimal n)
number_is most word n e =
    let p = cond_some _ _ n e in
    let q = and_parts _ _ p.0 in
    (subst (λ (k : ℕ). k ≤ most) p.1 (leb-true _ _ q.1), (bytes_eq-Decides _ _).0 q.0 ∙ ap decimal p.1)

-- a number of a kind passes its test
pub kind_tested : (k : ValueKind) (z : ℤ) → IsOfKind k z → is_of_kind k z ≡ true
kind_tested k (pos n) h = lt-ltb _ _ h
kind_tested k (negsuc n) h = lt-ltb _ _ h

-- and what passes it is of the kind
tested_kind : (k : ValueKind) (z : ℤ) → is_of_kind k z ≡ true → IsOfKind k z
tested_kind k (pos n) h = ltb-true _ _ h
tested_kind k (negsuc n) h = ltb-true _ _ h

-- a number of a kind is read as itself
pub named_value : (k : ValueKind) (z : ℤ) → IsOfKind k z → literal_named k (signed_decimal z) ≡ Some z
named_value k z h =
    let t = kind_tested k z h in
    named_literal k z (signed_decimal z) (kind_is_small k z t) refl ∙ rw t refl

-- a number of a kind has 64 bits
pub small_value : (k : ValueKind) (z : ℤ) → IsOfKind k z → mag z < 2 ^ 63
small_value k z h = kind_is_small k z (kind_tested k z h)

-- and what is read as one spells it
pub value_is : (k : ValueKind) (word : List ℕ) (z : ℤ) → literal_named k word ≡ Some z → IsOfKind k z × (word ≡ signed_decimal z)
value_is k word z e =
    let p = cond_some _ _ z e in
    let q = and_parts _ _ p.0 in
    (subst (IsOfKind k) p.1 (tested_kind k _ q.1), (bytes_eq-Decides _ _).0 q.0 ∙ ap signed_decimal p.1)

-- ---- kinds, types, and who runs a line

-- what was found by its text has the text
find_is : {A : Type 0} (text : A → List ℕ) (word : List ℕ) (xs : List A) (x : A) → find (λ y. bytes_eq word (text y)) xs ≡ Some x → word ≡ text x
find_is text word [] x e = absurd (cc)
find_is text word (y ∷ ys) x e =
    cond_both (bytes_eq word (text y)) (Some y) (find (λ z. bytes_eq word (text z)) ys) (λ o. o ≡ Some x → word ≡ text x)
    (λ t f. (bytes_eq-Decides word (text y)).0 t ∙ ap text (same_Some y x f)) (λ _ f. find_is text word ys x f) e

-- a kind of arena is read as itself
pub named_kind : (k : Kind) → arena_kind_named (arena_kind_text k) ≡ Some k
named_kind kind.Global = refl
named_kind kind.Automatic = refl
named_kind kind.Confined = refl
named_kind kind.Shared = refl

-- and what is read as one spells it
pub kind_is : (word : List ℕ) (k : Kind) → arena_kind_named word ≡ Some k → word ≡ arena_kind_text k
kind_is word k e = find_is arena_kind_text word (kind.Global ∷ kind.Automatic ∷ kind.Confined ∷ kind.Shared ∷ []) k e

-- what holds in both orders holds in each
both : (P : Order → Type 0) → P Little → P Big → (o : Order) → P o
both P little big Little = little
both P little big Big = big

-- what holds of each type in their list holds of each kind in both orders
pub every_type : (P : ValueKind × Order → Type 0) → AllByRecursion P types → (k : ValueKind) (o : Order) → P (k, o)
every_type P h Byte = both (λ o. P (Byte, o)) h.0 h.1.0
every_type P h Boolean = both (λ o. P (Boolean, o)) h.1.1.0 h.1.1.1.0
every_type P h Char = both (λ o. P (Char, o)) h.1.1.1.1.0 h.1.1.1.1.1.0
every_type P h Short = both (λ o. P (Short, o)) h.1.1.1.1.1.1.0 h.1.1.1.1.1.1.1.0
every_type P h Int = both (λ o. P (Int, o)) h.1.1.1.1.1.1.1.1.0 h.1.1.1.1.1.1.1.1.1.0
every_type P h Long = both (λ o. P (Long, o)) h.1.1.1.1.1.1.1.1.1.1.0 h.1.1.1.1.1.1.1.1.1.1.1.0

-- a type is read as itself
pub named_type : (k : ValueKind) (o : Order) → type_named (type_text k o) ≡ Some (k, o)
named_type = every_type (λ t. type_named (type_text t.0 t.1) ≡ Some t)
    (refl, (refl, (refl, (refl, (refl, (refl, (refl, (refl, (refl, (refl, (refl, (refl, tt))))))))))))

-- and what is read as one spells it
pub type_is : (word : List ℕ) (t : ValueKind × Order) → type_named word ≡ Some t → word ≡ type_text t.0 t.1
type_is word t e = find_is (λ (t : ValueKind × Order). type_text t.0 t.1) word types t e

-- no number is spelled with this first letter
not_word : (n c : ℕ) (cs : List ℕ) → n < 2 ^ 64 → (digit_value c < 10 → ⊥) → bytes_eq (decimal n) (c ∷ cs) ≡ false
not_word n c cs small none = false_from_ne_true _ (λ t.
    let e : decimal n ≡ c ∷ cs = (bytes_eq-Decides (decimal n) (c ∷ cs)).0 t in
    none (subst (λ (ds : List ℕ). IsNumeral 10 ds) e (decimal_is_IsNumeral n small).0).1.0)

-- who runs a line is read as itself
pub named_who : (who : Who) → IsWho who → who_named (who_text who) ≡ Some who
named_who First h = refl
named_who Last h = refl
named_who (Worker n) h =
    let first : bytes_eq (decimal n) (codes "first") ≡ false = not_word n 102 (codes "irst") (omega (arith, h.1)) (λ k. absurd (omega arith)) in
    let last : bytes_eq (decimal n) (codes "last") ≡ false = not_word n 108 (codes "ast") (omega (arith, h.1)) (λ k. absurd (omega arith)) in
    rw (first, last, named_up_to most_workers n h.1 (lit< tt), ne_eqb n 0 (λ e. omega (arith, h.0))) refl

-- a number that is read as a worker's spells it
worker_is : (word : List ℕ) (found : Option ℕ) (who : Who) → ((n : ℕ) → found ≡ Some n → (n ≤ most_workers) × (word ≡ decimal n)) → worker found ≡ Some who
    → IsWho who × (word ≡ who_text who)
worker_is word None who spells e = absurd (cc)
worker_is word (Some n) who spells e =
    let s = spells n refl in
    cond_both (nat_eq n 0) None (Some (Worker n)) (λ o. o ≡ Some who → IsWho who × (word ≡ who_text who)) (λ t f. absurd (cc))
    (λ t f. subst (λ (w : Who). IsWho w × (word ≡ who_text w)) (same_Some (Worker n) who f) ((above_zero n t, s.0), s.1)) e
  where
    above_zero : (n : ℕ) → nat_eq n 0 ≡ false → 1 ≤ n
    above_zero n t = grind (arith, nat_tests)

-- what is read as who runs a line spells it
pub who_is : (word : List ℕ) (who : Who) → who_named word ≡ Some who → IsWho who × (word ≡ who_text who)
who_is word who e =
    cond_both (bytes_eq word (codes "first")) (Some First)
    (if bytes_eq word (codes "last") then Some Last else worker (number_named most_workers word)) (λ o. o ≡ Some who → IsWho who × (word ≡ who_text who))
    (λ t f. one First (codes "first") t tt f refl)
    (λ _. cond_both (bytes_eq word (codes "last")) (Some Last) (worker (number_named most_workers word)) (λ o. o ≡ Some who → IsWho who × (word ≡ who_text who))
    (λ t f. one Last (codes "last") t tt f refl)
    (λ _ f. worker_is word (number_named most_workers word) who (λ n g. number_is most_workers word n g) f)) e
  where
    one : (w : Who) (text : List ℕ) → bytes_eq word text ≡ true → IsWho w → Some w ≡ Some who → text ≡ who_text w → IsWho who × (word ≡ who_text who)
    one w text t h f same =
        subst (λ (v : Who). IsWho v × (word ≡ who_text v)) (same_Some w who f) (h, (bytes_eq-Decides word text).0 t ∙ same)
