-- What is left of the members from an index on.
use Rattle.std.proofs.Common.{◌≡◌, refl, sym, ap, ◌∙◌, ℕ, zero, suc, ◌+◌, ◌<◌, ◌≤◌, max, map, List, [], ◌∷◌, ◌++◌, Some, None, arith}
use Rattle.std.proofs.lemmas.List.{map-append}
use Rattle.serde_json.specs.{Data.{Data, Items, no_items, item}, View.{items_of, view}, declared.value.Value.{Value as Json}}
use Rattle.fm_layout.{proofs.Groups.{greatest_positive}, specs.Tree.{Tree, Trees, Value, Padding, Sequence, Struct, Union, NoMore, More, alignment_of}}
use Rattle.fm_layout.specs.{Depth.{depth, deepest}, Parts.{count_of, element_of, member_of, tree_at}, Size.{greatest_alignment}}
use Rattle.fm_ljson_write.specs.{Canonical.{all_json, json_of}, Groups.{members_of}}

-- the members from index i on
abbrev pub rest : ℕ → Trees → Trees
rest zero ts = ts
rest (suc i) NoMore = NoMore
rest (suc i) (More t ts) = rest i ts

-- Its first is the member at that index.
pub rest_here : (i : ℕ) (ts : Trees) (t : Tree) → tree_at i ts ≡ Some t → rest i ts ≡ More t (rest (i + 1) ts)
rest_here zero NoMore t e = cc
rest_here (suc i) NoMore t e = cc
rest_here zero (More u ts) t e = cc
rest_here (suc i) (More u ts) t e =
    let next : suc i + 1 ≡ suc (i + 1) = omega arith in
    rest_here i ts t e ∙ ap (λ j. More t (rest j (More u ts))) (sym next)

-- None is left past the last.
pub rest_past : (i : ℕ) (ts : Trees) → count_of ts ≤ i → rest i ts ≡ NoMore
rest_past zero NoMore h = refl
rest_past (suc i) NoMore h = refl
rest_past zero (More t ts) h = absurd (omega arith)
rest_past (suc i) (More t ts) h = rest_past i ts (omega arith)

-- There is a member at an index below their count.
pub at_below : (i : ℕ) (ts : Trees) → i < count_of ts → tree_at i ts ≡ None → ⊥
at_below i NoMore h e = omega arith
at_below zero (More t ts) h e = cc
at_below (suc i) (More t ts) h e = at_below i ts (omega arith) e

-- A layout's member is the member at that index.
pub member_of-members : (i : ℕ) (t : Tree) → member_of i t ≡ tree_at i (members_of t)
member_of-members i (Value k o l) = refl
member_of-members i (Padding n l) = refl
member_of-members i (Sequence n e l) = refl
member_of-members i (Struct ms l) = refl
member_of-members i (Union ms l) = refl

-- So a member at an index below the count isn't missing.
pub impossible : (i count : ℕ) (t : Tree) → i < count → count ≡ count_of (members_of t) → None ≡ member_of i t → ⊥
impossible i count t below is e = at_below i (members_of t) (omega (arith, below, is)) (sym (e ∙ member_of-members i t))

-- ---- depths

deep_at : (i : ℕ) (ts : Trees) (t : Tree) → tree_at i ts ≡ Some t → depth t ≤ deepest ts
deep_at i NoMore t e = cc
deep_at zero (More u ts) t e = let same : u ≡ t = cc in omega (arith, ap depth same)
deep_at (suc i) (More u ts) t e = omega (arith, deep_at i ts t e)

-- A member is less deep than its group.
pub deep_member : (i : ℕ) (g t : Tree) → Some t ≡ member_of i g → depth t < depth g
deep_member i (Value k o l) t e = cc
deep_member i (Padding n l) t e = cc
deep_member i (Sequence n u l) t e = cc
deep_member i (Struct ms l) t e = omega (arith, deep_at i ms t (sym e))
deep_member i (Union ms l) t e = omega (arith, deep_at i ms t (sym e))

-- An element is less deep than its sequence.
pub deep_element : (s t : Tree) → Some t ≡ element_of s → depth t < depth s
deep_element (Value k o l) t e = cc
deep_element (Padding n l) t e = cc
deep_element (Sequence n u l) t e = let same : t ≡ u = cc in omega (arith, ap depth same)
deep_element (Struct ms l) t e = cc
deep_element (Union ms l) t e = cc

-- ---- the greatest alignment

-- the greatest so far and that of what is left give the whole
pub record IsRising (g i : ℕ) (t : Tree) : Type 0 where
  pub some : 1 ≤ g
  pub whole : max g (greatest_alignment (rest i (members_of t))) ≡ greatest_alignment (members_of t)

pub rising_start : (t : Tree) → IsRising 1 0 t
rising_start t = record { some = omega arith; whole = omega (arith, greatest_positive (members_of t)) }

pub rising_more : (g h i : ℕ) (t m : Tree) → IsRising g i t → Some m ≡ member_of i t → h ≡ max g (alignment_of m) → IsRising h (i + 1) t
rising_more g h i t m r e is =
    let here = ap greatest_alignment (rest_here i (members_of t) m (sym (e ∙ member_of-members i t))) in
    record { some = omega (arith, r.some, is); whole = omega (arith, r.whole, here, is) }

pub rising_end : (g i : ℕ) (t : Tree) → IsRising g i t → count_of (members_of t) ≤ i → g ≡ greatest_alignment (members_of t)
rising_end g i t r past = omega (arith, r.whole, r.some, ap greatest_alignment (rest_past i (members_of t) past))

-- ---- the items

-- items before others
abbrev pub before : List Data → Items → Items
before [] later = later
before (d ∷ ds) later = item d (before ds later)

before-last : (ds : List Data) (d : Data) (later : Items) → before (ds ++ d ∷ []) later ≡ before ds (item d later)
before-last [] d later = refl
before-last (e ∷ ds) d later = ap (item e) (before-last ds d later)

before-none : (ds : List Data) → before ds no_items ≡ items_of ds
before-none [] = refl
before-none (d ∷ ds) = ap (item d) (before-none ds)

-- the items so far and the JSON of what is left give the whole
abbrev pub IsFilling : List Data → ℕ → Tree → Type 0
IsFilling ds i t = before ds (all_json (rest i (members_of t))) ≡ all_json (members_of t)

pub filling_more : (ds : List Data) (d : Data) (i : ℕ) (t m : Tree) → IsFilling ds i t → Some m ≡ member_of i t → d ≡ json_of m
    → IsFilling (ds ++ d ∷ []) (i + 1) t
filling_more ds d i t m f e is =
    let here = ap all_json (rest_here i (members_of t) m (sym (e ∙ member_of-members i t))) in
    before-last ds d _ ∙ ap (λ x. before ds (item x (all_json (rest (i + 1) (members_of t))))) is ∙ sym (ap (before ds) here) ∙ f

pub viewed_last : (vs : List Json) (v : Json) (d : Data) → view v ≡ d → map view (vs ++ v ∷ []) ≡ map view vs ++ d ∷ []
viewed_last vs v d is = map-append view vs (v ∷ []) ∙ ap (λ x. map view vs ++ x ∷ []) is

pub filling_end : (ds : List Data) (i : ℕ) (t : Tree) → IsFilling ds i t → count_of (members_of t) ≤ i → items_of ds ≡ all_json (members_of t)
filling_end ds i t f past = sym (before-none ds) ∙ sym (ap (λ r. before ds (all_json r)) (rest_past i (members_of t) past)) ∙ f
