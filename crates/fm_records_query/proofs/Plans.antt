-- Paths resolved one after the other, up to the first refusal.
use Rattle.std.proofs.Common.{◌≡◌, refl, sym, ap, subst, ℕ, ◌+◌, ◌<◌, zero, suc, None, Result, Ok, Err, List, [], ◌∷◌, ◌++◌, length, take, get_or, inl, inr, arith}
use Rattle.std.{specs.{Prelude.{IsTrue, ◌||◌}, List.{AllByRecursion, AllZip}, Result.{IfErr, IsErrAnd}}, proofs.lemmas.Slice.Zip.{AllZip-long}}
use Rattle.std.proofs.lemmas.{Bool.Decides.{nat_tests}, List.{take_more}}
use Rattle.fm_base.specs.declared.refusal.Refusal.{Refusal}
use Rattle.fm_layout.specs.{Tree.{Tree, alignment_of}, Size.{size_of}, Name.{is_letter, is_digit, IsName, IsNameEnd}, WellFormed.{IsWellFormed}}
use Rattle.fm_layout.proofs.Sound.{fit_of}
use Rattle.fm_path_text.{specs.{declared.step.PathStep.{PathStep, TheVariants.{Each, EachFrom}}, Grammar.{piece_of, pieces_of}}, proofs.Reading.{pieces_snoc}}
use Rattle.fm_path_meaning.specs.{declared.dim.Dim.{Dim}, Follow.{end_at}, Found.{HasDims, no_step, closed_step, open_step}}
use Rattle.fm_path.{specs.Resolution.{Resolution, IsResolved}, proofs.Resolving.{stays_inside}}
use Rattle.fm_records_query.specs.declared.{syntax.{ItemSyntax.{ItemSyntax, TheVariants.{Count, Of}}, ConditionSyntax.{ConditionSyntax}}, item.Item.{Item}}
use Rattle.fm_records_query.specs.{declared.condition.Condition.{Condition}, Grammar.{Syntax, IsQuery, IsTextOf, IsNoText}, Records.{IsRecord}}
use Rattle.fm_records_query.specs.Plan.{plan, IsThrough, AsksOf, IsItemIn, IsConditionIn, IsPlan}
use Rattle.fm_records_query.specs.Parsed.{open_from, IsItemOf, IsItemAdmitted, IsItemRefused, IsConditionOf, IsConditionAdmitted, IsConditionRefused, IsFirstRefused, at_item, at_condition, IsNoQuery, no_text, refused, OrMemory}
use Rattle.fm_records_query.proofs.Few.{values_are_few}

-- one more pair
zip_push : {A B : Type 0} (R : A → B → Type 0) (xs : List A) (ys : List B) (x : A) (y : B) → AllZip R xs ys → R x y → AllZip R (xs ++ x ∷ []) (ys ++ y ∷ [])
zip_push R [] [] x y h r = (r, tt)
zip_push R (a ∷ xs) (b ∷ ys) x y h r = (h.0, zip_push R xs ys x y h.1 r)
zip_push R xs ys x y h r = absurd h

-- the next of the first k
pub zip_more : {A B : Type 0} (R : A → B → Type 0) (xs : List A) (ys more : List B) (k : ℕ) (x : A) (y : B) → AllZip R (take k xs) ys → k < length xs
    → x ≡ get_or xs k x → R x y → more ≡ ys ++ y ∷ [] → AllZip R (take (k + 1) xs) more
zip_more R xs ys more k x y h lt is r longer = rw (longer, take_more xs k x lt, ← is) (zip_push R (take k xs) ys x y h r)

-- the first that is refused, behind k that are admitted, where memory may have run out
pub refused_or : {A B : Type 0} (R : A → B → Type 0) (Refuses : A → Refusal → Type 0) (xs : List A) (ys : List B) (k : ℕ) (x : A) (e : Refusal)
    → AllZip R (take k xs) ys → k < length xs → x ≡ get_or xs k x → OrMemory (Refuses x) e → OrMemory (IsFirstRefused (λ x. (y : B) × R x y) Refuses xs) e
refused_or R Refuses xs ys k x e h lt is (inr m) = inr m
refused_or {A} {B} R Refuses xs ys k x e h lt is (inl r) = inl (first xs ys k h lt is)
  where
    first : (xs : List A) (ys : List B) (k : ℕ) → AllZip R (take k xs) ys → k < length xs → x ≡ get_or xs k x
        → IsFirstRefused (λ x. (y : B) × R x y) Refuses xs e
    first [] ys k h lt is = absurd (omega arith)
    first (z ∷ xs) ys zero h lt is = inl (subst (λ z. Refuses z e) is r)
    first (z ∷ xs) [] (suc k) h lt is = absurd h
    first (z ∷ xs) (y ∷ ys) (suc k) h lt is = inr ((y, h.0), first xs ys k h.1 (omega arith) is)

-- what each comes to is admitted
pub all_admitted : {A B : Type 0} (R : A → B → Type 0) (xs : List A) (ys : List B) → AllZip R xs ys → AllByRecursion (λ x. (y : B) × R x y) xs
all_admitted R [] ys h = tt
all_admitted R (x ∷ xs) [] h = absurd h
all_admitted R (x ∷ xs) (y ∷ ys) h = ((y, h.0), all_admitted R xs ys h.1)

-- what holds of the second of each pair holds of all the second
zip_right : {A B : Type 0} (R : A → B → Type 0) (P : B → Type 0) → ((x : A) (y : B) → R x y → P y) → (xs : List A) (ys : List B) → AllZip R xs ys
    → AllByRecursion P ys
zip_right R P f [] [] h = tt
zip_right R P f (x ∷ xs) (y ∷ ys) h = (f x y h.0, zip_right R P f xs ys h.1)
zip_right R P f xs ys h = absurd h

-- a refusal is passed on as it is
pub passed_on : {A : Type 0} (P : Refusal → Type 0) (r : Result A Refusal) (e : Refusal) → IsErrAnd r (λ y. y ≡ e) → P e → IfErr r P
passed_on P (Ok x) e is p = tt
passed_on P (Err y) e is p = subst P (sym is) p

-- a path with no open step has no dims
no_dims : (path : List PathStep) (t : Tree) (ds : List Dim) (k : ℕ) → HasDims path t ds → open_from k path ≡ None → ds ≡ []
no_dims [] t ds k no_step e = refl
no_dims (Each ∷ ps) t ds k h e = absurd (cc)
no_dims (EachFrom f s ∷ ps) t ds k h e = absurd (cc)
no_dims (p ∷ ps) t ds k (closed_step j l x h) e = no_dims ps (end_at l) ds (k + 1) h e
no_dims (p ∷ ps) t ds k (open_step c el x d h) e = absurd d.stride

-- a resolved path is one through records of the layout
through : (path : List PathStep) (t : Tree) (r : Resolution) → IsWellFormed t → IsResolved path t r → IsThrough (size_of t) (alignment_of t) r
through path t r well h = record {
  size = h.root_size;
  alignment = h.root_alignment;
  stays = stays_inside path t r.offset r.dims h.last r.value r.root_size r.root_alignment well h.leads h.value h.root_size h.root_alignment;
  few = values_are_few path t r h;
}

-- an item is one on records of the layout
item_in : (t : Tree) → IsWellFormed t → (x : ItemSyntax) (y : Item) → IsItemOf t x y → IsItemIn (size_of t) (alignment_of t) y
item_in t well Count y i = subst (AsksOf (size_of t) (alignment_of t)) (sym i.asked) tt
item_in t well (Of f p) y i = subst (AsksOf (size_of t) (alignment_of t)) (sym i.asked.2) (through p t i.asked.0 well i.asked.1)

-- a condition is one on one value of records of the layout
condition_in : (t : Tree) → IsWellFormed t → (x : ConditionSyntax) (y : Condition) → IsConditionOf t x y → IsConditionIn (size_of t) (alignment_of t) y
condition_in t well x y c = record { through = through x.path t y.path well c.path; closed = no_dims x.path t y.path.dims 0 c.path.dims c.closed }

-- what the parts come to is a plan
pub is_plan : (t : Tree) (q : Syntax) (n a : ℕ) (xs : List ItemSyntax) (cs : List ConditionSyntax) (items : List Item)
    (conditions : List Condition)
    → IsWellFormed t → IsRecord t → IsQuery q → xs ≡ q.items → cs ≡ q.conditions → n ≡ size_of t → a ≡ alignment_of t → AllZip (IsItemOf t) xs items
    → AllZip (IsConditionOf t) cs conditions → IsPlan (plan n a items conditions)
is_plan t q n a xs cs items conditions well rec is ei ec en ea hi hc =
    subst (λ n. IsPlan (plan n a items conditions)) (sym en) (subst (λ a. IsPlan (plan (size_of t) a items conditions)) (sym ea) (record {
      sized = rec.sized;
      small = (fit_of t well).size;
      even = rec.even;
      items = zip_right (IsItemOf t) (IsItemIn (size_of t) (alignment_of t)) (item_in t well) xs items hi;
      some_item = omega (arith, AllZip-long (IsItemOf t) xs items hi, ap length ei, is.some_item);
      few_items = omega (arith, AllZip-long (IsItemOf t) xs items hi, ap length ei, is.few_items);
      conditions = zip_right (IsConditionOf t) (IsConditionIn (size_of t) (alignment_of t)) (condition_in t well) cs conditions hc;
      few_conditions = omega (arith, AllZip-long (IsConditionOf t) cs conditions hc, ap length ec, is.few_conditions);
    }))

-- a query is refused by the first of its items that is
pub item_refused : (t : Tree) (text : List ℕ) (q : Syntax) (xs : List ItemSyntax) (e : Refusal) → IsTextOf text q → xs ≡ q.items
    → OrMemory (IsFirstRefused (IsItemAdmitted t) (IsItemRefused t) xs) e → IsNoQuery text t e
item_refused t text q xs e is ei (inl h) = refused q is (at_item (subst (λ xs. IsFirstRefused (IsItemAdmitted t) (IsItemRefused t) xs e) ei h))
item_refused t text q xs e is ei (inr m) = no_text (subst (IsNoText text) (sym m) tt)

-- and else by the first of its conditions that is
pub condition_refused : (t : Tree) (text : List ℕ) (q : Syntax) (xs : List ItemSyntax) (cs : List ConditionSyntax) (items : List Item) (e : Refusal)
    → IsTextOf text q → xs ≡ q.items → cs ≡ q.conditions → AllZip (IsItemOf t) xs items
    → OrMemory (IsFirstRefused (IsConditionAdmitted t) (IsConditionRefused t) cs) e → IsNoQuery text t e
condition_refused t text q xs cs items e is ei ec hi (inl h) =
    refused q is (at_condition (all_admitted (IsItemOf t) q.items items (subst (λ xs. AllZip (IsItemOf t) xs items) ei hi))
    (subst (λ cs. IsFirstRefused (IsConditionAdmitted t) (IsConditionRefused t) cs e) ec h))
condition_refused t text q xs cs items e is ei ec hi (inr m) = no_text (subst (IsNoText text) (sym m) tt)

-- the pieces of the first k + 1 steps
pub pieces_more : (path : List PathStep) (k : ℕ) (p : PathStep) (text piece more : List ℕ) → text ≡ pieces_of (take k path) → k < length path
    → p ≡ get_or path k p → piece ≡ piece_of p → more ≡ text ++ piece → more ≡ pieces_of (take (k + 1) path)
pieces_more path k p text piece more e lt is ep em =
    simp (em, e, ep, take_more path k p lt, sym is, pieces_snoc (take k path) p)

-- letters and digits are ASCII
ascii : (c : ℕ) → IsTrue (is_letter c || is_digit c) → c < 128
ascii c h = grind (arith, nat_tests)

ascii_end : (cs : List ℕ) (k : ℕ) → IsNameEnd cs → k < length cs → get_or cs k 0 < 128
ascii_end [] k h lt = absurd (omega arith)
ascii_end (c ∷ cs) zero h lt = ascii c h.0
ascii_end (c ∷ cs) (suc k) h lt = ascii_end cs k h.1 (omega arith)

-- the bytes of a name are ASCII
ascii_at : (name : List ℕ) (k : ℕ) → IsName name → k < length name → get_or name k 0 < 128
ascii_at [] k h lt = absurd h
ascii_at (c ∷ cs) zero h lt = ascii c (rw h.0 refl)
ascii_at (c ∷ cs) (suc k) h lt = ascii_end cs k h.1 (omega arith)

-- the first k + 1 bytes of a name behind a dot
pub name_more : (name : List ℕ) (k ch : ℕ) (text coded more : List ℕ) → text ≡ 46 ∷ take k name → k < length name → IsName name → ch ≡ get_or name k 0
    → (ch < 128 → coded ≡ ch ∷ []) → more ≡ text ++ coded → more ≡ 46 ∷ take (k + 1) name
name_more name k ch text coded more e lt is ec ascii em =
    simp (em, e, ascii (omega (arith, ec, ascii_at name k is lt)), ec, take_more name k 0 lt)
