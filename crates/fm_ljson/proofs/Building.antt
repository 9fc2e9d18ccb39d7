-- Layouts are built one after the other.
use Rattle.std.proofs.Common.{◌≡◌, ◌⊎◌, inl, inr, ℕ, zero, suc, ◌+◌, ◌-◌, ◌<◌, ◌≤◌, List, [], ◌∷◌, ◌++◌, map, length, drop, get_or, Option, Some, None, Result, Ok, Err, refl, sym, ap, subst, ◌∙◌, arith}
use Rattle.std.proofs.lemmas.List.{drop_all, drop_more}
use Rattle.serde_json.specs.{Data.{Data}, View.{view}, declared.value.Value.{Value}}
use Rattle.fm_base.specs.declared.refusal.Refusal.{Refusal, TheVariants.{BadShape, Memory}}
use Rattle.fm_layout.specs.{Tree.{Tree, Trees, NoMore, More}, Made.{made, sequence_of, struct_of, union_of}, Parts.{IsPadding}, Views.{trees}}
use Rattle.fm_ljson.specs.Node.{Content, Padding, Sequence, Struct, Union, Node, node_of}
use Rattle.fm_ljson.specs.{Built.{aligned, all_of, built, built_if_any, content_built, copied, named, node_built, OrMemory, then}, Refs.{ref_of}}
use Rattle.fm_ljson.{specs.Views.{IsPaddingContent, MayBeAligned}, proofs.Inside.{node_of-good}}
use Rattle.fm_ljson.specs.Node as said

-- these trees, and then those
abbrev pub followed : List Tree → Trees → Trees
followed [] ts = ts
followed (x ∷ xs) ts = More x (followed xs ts)

-- of what all give, these layouts are there, and the rest is left
abbrev pub IsBuilding : List Tree → Result Trees Refusal → Result Trees Refusal → Type 0
IsBuilding done all rest = all ≡ then (λ ts. Ok (followed done ts)) rest

followed_trees : (xs : List Tree) → followed xs NoMore ≡ trees xs
followed_trees [] = refl
followed_trees (x ∷ xs) = ap (More x) (followed_trees xs)

followed_more : (xs : List Tree) (t : Tree) (ts : Trees) → followed (xs ++ t ∷ []) ts ≡ followed xs (More t ts)
followed_more [] t ts = refl
followed_more (x ∷ xs) t ts = ap (More x) (followed_more xs t ts)

building_next : (done : List Tree) (t : Tree) (rest : Result Trees Refusal)
    → then (λ ts. Ok (followed done ts)) (then (λ ts. Ok (More t ts)) rest) ≡ then (λ ts. Ok (followed (done ++ t ∷ []) ts)) rest
building_next done t (Ok ts) = ap Ok (sym (followed_more done t ts))
building_next done t (Err r) = refl

-- One more is there.
pub building_more : (done : List Tree) (t : Tree) (all : Result Trees Refusal) (r : Result Tree Refusal) (rs : List (Result Tree Refusal))
    → IsBuilding done all (all_of (r ∷ rs)) → Ok t ≡ r → IsBuilding (done ++ t ∷ []) all (all_of rs)
building_more done t all r rs h is =
    h ∙ ap (λ x. then (λ ts. Ok (followed done ts)) (then (λ u. then (λ ts. Ok (More u ts)) (all_of rs)) x)) (sym is)
    ∙ building_next done t (all_of rs)

-- All are there.
pub building_end : (done : List Tree) (all : Result Trees Refusal) → IsBuilding done all (Ok NoMore) → Ok (trees done) ≡ all
building_end done all h = sym (h ∙ ap Ok (followed_trees done))

-- What is built of a node.
pub built_node : (known : List ℕ → Option Tree) (levels : ℕ) (d : Data) (x : Node) → 0 < levels → Some x ≡ node_of d
    → built known levels d ≡ node_built (built known (levels - 1)) x
unfolding built
built_node known zero d x deep is = absurd (omega arith)
built_node known (suc levels) d x deep is =
    let down : levels ≡ suc levels - 1 = omega arith in
    ap (built_if_any (built known levels) (copied known (ref_of d))) (sym is) ∙ ap (λ n. node_built (built known n) x) down

-- What isn't one is a copy of what its ref names.
pub built_none : (known : List ℕ → Option Tree) (levels : ℕ) (d : Data) → 0 < levels → None ≡ node_of d → built known levels d ≡ copied known (ref_of d)
unfolding built
built_none known zero d deep is = absurd (omega arith)
built_none known (suc levels) d deep is = ap (built_if_any (built known levels) (copied known (ref_of d))) (sym is)

pub built_too_deep : (known : List ℕ → Option Tree) (levels : ℕ) (d : Data) → levels ≡ 0 → built known levels d ≡ Err (BadShape 0)
unfolding built
built_too_deep known zero d is = refl
built_too_deep known (suc levels) d is = absurd (omega arith)

-- ---- want of memory is free

-- What was built was not refused.
pub not_refused : (t : Tree) (s : Result Tree Refusal) → OrMemory (Ok t) s → Ok t ≡ s
not_refused t s (inl h) = cc
not_refused t s (inr h) = h

pub same_refused : (e : Refusal) (s u : Result Tree Refusal) → (Err e ≡ s → Err e ≡ u) → OrMemory (Err e) s → OrMemory (Err e) u
same_refused e s u f (inl h) = inl h
same_refused e s u f (inr h) = inr (f h)

pub or_memory : (r s u : Result Tree Refusal) → s ≡ u → OrMemory r s → OrMemory r u
or_memory r s u e (inl h) = inl h
or_memory r s u e (inr h) = inr (h ∙ e)

-- The name of a layout whose content is built, and its alignment.
pub built_finished : (known : List ℕ → Option Tree) (levels : ℕ) (d : Data) (x : Node) (t : Tree) (r : Result Tree Refusal) → 0 < levels → Some x ≡ node_of d
    → OrMemory (Ok t) (content_built (built known (levels - 1)) x.content)
    → OrMemory r (then (λ u. Ok (named x.name u)) (aligned x.align t)) → OrMemory r (built known levels d)
built_finished known levels d x t r deep is made h =
    let whole = built_node known levels d x deep is in
    let content = not_refused t _ made in
    or_memory r _ _ (sym (whole ∙ ap (then (λ u. then (λ v. Ok (named x.name v)) (aligned x.align u))) (sym content))) h

pub built_refused : (known : List ℕ → Option Tree) (levels : ℕ) (d : Data) (x : Node) (e : Refusal) → 0 < levels → Some x ≡ node_of d
    → OrMemory (Err e) (content_built (built known (levels - 1)) x.content) → OrMemory (Err e) (built known levels d)
built_refused known levels d x e deep is h =
    let whole = built_node known levels d x deep is in
    same_refused e _ _ (λ s. sym (whole ∙ ap (then (λ u. then (λ v. Ok (named x.name v)) (aligned x.align u))) (sym s))) h

-- ---- padding

made_as : (x t : Tree) (o : Option Refusal) → Ok t ≡ made x o → t ≡ x
made_as x t None h = cc
made_as x t (Some r) h = cc

sequence_not : (n : ℕ) (r : Result Tree Refusal) (t : Tree) → Ok t ≡ then (sequence_of n) r → ¬ (IsPadding t)
sequence_not n (Ok e) t h p = subst IsPadding (made_as _ t _ h) p
sequence_not n (Err r) t h p = cc

struct_not : (r : Result Trees Refusal) (t : Tree) → Ok t ≡ then struct_of r → ¬ (IsPadding t)
struct_not (Ok ts) t h p = subst IsPadding (made_as _ t _ h) p
struct_not (Err r) t h p = cc

union_not : (r : Result Trees Refusal) (t : Tree) → Ok t ≡ then (λ ts. Ok (union_of ts)) r → ¬ (IsPadding t)
union_not (Ok ts) t h p = subst IsPadding (made_as _ t None h) p
union_not (Err r) t h p = cc

-- Only padding is built as padding.
content_of_padding : (build : Data → Result Tree Refusal) (x : Content) (t : Tree) → Ok t ≡ content_built build x → IsPadding t → IsPaddingContent x
content_of_padding build (said.Value k o) t h p = subst IsPadding (made_as _ t None h) p
content_of_padding build (Padding n) t h p = tt
content_of_padding build (Sequence n e) t h p = sequence_not n (build e) t h p
content_of_padding build (Struct ms) t h p = struct_not (all_of (map build ms)) t h p
content_of_padding build (Union ms) t h p = union_not (all_of (map build ms)) t h p

aligned_less : (align : Option ℕ) (P Q : Type 0) → (Q → P) → MayBeAligned align P → MayBeAligned align Q
aligned_less None P Q f h = tt
aligned_less (Some n) P Q f h = λ q. h (f q)

-- What was built of a node may be given its alignment.
pub built_aligned : (build : Data → Result Tree Refusal) (d : Data) (x : Node) (t : Tree) → Some x ≡ node_of d
    → OrMemory (Ok t) (content_built build x.content) → MayBeAligned x.align (IsPadding t)
built_aligned build d x t is h =
    aligned_less x.align _ _ (content_of_padding build x.content t (not_refused t _ h)) (node_of-good d x is).aligned

-- ---- at a value

-- The next of the values is the first of those left.
pub building_item : (build : Data → Result Tree Refusal) (done : List Tree) (all : Result Trees Refusal) (vs : List Value) (i : ℕ) (v : Value) → i < length vs
    → v ≡ get_or vs i v
    → IsBuilding done all (all_of (map build (map view (drop i vs)))) → IsBuilding done all (all_of (build (view v) ∷ map build (map view (drop (i + 1) vs))))
building_item build done all vs i v here is h =
    let next : drop i vs ≡ v ∷ drop (i + 1) vs = drop_more vs i v here ∙ ap (λ (w : Value). w ∷ drop (i + 1) vs) (sym is) in
    subst (λ (ws : List Value). IsBuilding done all (all_of (map build (map view ws)))) next h

-- None of the values is left.
pub building_done : (build : Data → Result Tree Refusal) (done : List Tree) (all : Result Trees Refusal) (vs : List Value) (i : ℕ) → length vs ≤ i
    → IsBuilding done all (all_of (map build (map view (drop i vs)))) → Ok (trees done) ≡ all
building_done build done all vs i past h =
    building_end done all (subst (λ (ws : List Value). IsBuilding done all (all_of (map build (map view ws)))) (drop_all i vs past) h)

-- The layout of the next value is there too.
pub building_pushed : (build : Data
    → Result Tree Refusal) (done pushed : List Tree) (t : Tree) (all : Result Trees Refusal) (vs : List Value) (i : ℕ) (v : Value) → i < length vs
    → v ≡ get_or vs i v
    → IsBuilding done all (all_of (map build (map view (drop i vs)))) → OrMemory (Ok t) (build (view v)) → pushed ≡ done ++ t ∷ []
    → IsBuilding pushed all (all_of (map build (map view (drop (i + 1) vs))))
building_pushed build done pushed t all vs i v here is h made longer =
    subst (λ (ts : List Tree). IsBuilding ts all (all_of (map build (map view (drop (i + 1) vs))))) (sym longer)
    (building_more done t all (build (view v)) (map build (map view (drop (i + 1) vs))) (building_item build done all vs i v here is h) (not_refused t _ made))

refused_first : (build : Data → Result Tree Refusal) (done : List Tree) (all : Result Trees Refusal) (vs : List Value) (i : ℕ) (r : Result Tree Refusal) (e : Refusal)
    → IsBuilding done all (all_of (r ∷ map build (map view (drop (i + 1) vs)))) → OrMemory (Err e) r → (e ≡ Memory) ⊎ (Err e ≡ all)
refused_first build done all vs i r e h (inl m) = let same : e ≡ Memory = cc in inl same
refused_first build done all vs i r e h (inr is) =
    inr (sym (h ∙ ap (λ x. then (λ ts. Ok (followed done ts)) (then (λ u. then (λ ts. Ok (More u ts)) (all_of (map build (map view (drop (i + 1) vs))))) x)) (sym is)))

-- The first refusal is that of all.
pub building_refused : (build : Data → Result Tree Refusal) (done : List Tree) (all : Result Trees Refusal) (vs : List Value) (i : ℕ) (v : Value) (e : Refusal)
    → i < length vs → v ≡ get_or vs i v
    → IsBuilding done all (all_of (map build (map view (drop i vs)))) → OrMemory (Err e) (build (view v)) → (e ≡ Memory) ⊎ (Err e ≡ all)
building_refused build done all vs i v e here is h refused =
    refused_first build done all vs i (build (view v)) e (building_item build done all vs i v here is h) refused
