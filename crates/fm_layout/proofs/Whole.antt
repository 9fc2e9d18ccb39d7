-- A layout is what it is and what stands in it.
use Rattle.std.proofs.Common.{◌≡◌, ℕ, ◌<◌, List, [], ◌∷◌, refl, sym, ap, ◌∙◌, arith}
use Rattle.fm_layout.specs.{Tree.{Label, Tree, Trees, Value, Padding, Sequence, Struct, Union, NoMore, More, label_of}, Size.{size_of}, Depth.{depth, deepest}}
use Rattle.fm_layout.specs.{Parts.{form_of, list_of, children_of, HasSameHead}, Views.{trees}, declared.form.Form.{Form}}
use Rattle.fm_layout.specs.declared.form.Form.TheVariants as form

-- The list of a list's trees is the list.
pub list_of-trees : (ts : List Tree) → list_of (trees ts) ≡ ts
list_of-trees [] = refl
list_of-trees (t ∷ ts) = ap (λ (r : List Tree). t ∷ r) (list_of-trees ts)

-- The trees of a list of trees are they.
pub trees-list_of : (ts : Trees) → trees (list_of ts) ≡ ts
trees-list_of NoMore = refl
trees-list_of (More t ts) = ap (More t) (trees-list_of ts)

abbrev rebuilt : Form → ℕ → Label → List Tree → Tree
rebuilt (form.Value k o) size l ts = Value k o l
rebuilt form.Padding size l ts = Padding size l
rebuilt (form.Sequence n) size l [] = Padding size l
rebuilt (form.Sequence n) size l (e ∷ ts) = Sequence n e l
rebuilt (form.Struct n) size l ts = Struct (trees ts) l
rebuilt (form.Union n) size l ts = Union (trees ts) l

rebuilt_is : (t : Tree) → rebuilt (form_of t) (size_of t) (label_of t) (children_of t) ≡ t
rebuilt_is (Value k o l) = refl
rebuilt_is (Padding n l) = refl
rebuilt_is (Sequence n e l) = refl
rebuilt_is (Struct ms l) = ap (λ ts. Struct ts l) (trees-list_of ms)
rebuilt_is (Union ms l) = ap (λ ts. Union ts l) (trees-list_of ms)

-- Layouts that are equal but for what stands in them, and in what stands in them, are equal.
pub whole : (t u : Tree) → HasSameHead t u → children_of t ≡ children_of u → t ≡ u
whole t u h e =
    sym (rebuilt_is t)
    ∙ ap (λ f. rebuilt f (size_of t) (label_of t) (children_of t)) h.form
    ∙ ap (λ n. rebuilt (form_of u) n (label_of t) (children_of t)) h.size
    ∙ ap (λ l. rebuilt (form_of u) (size_of u) l (children_of t)) h.label
    ∙ ap (rebuilt (form_of u) (size_of u) (label_of u)) e
    ∙ rebuilt_is u

-- What stands in a layout is less deep.
pub children_less_deep : (t : Tree) → deepest (trees (children_of t)) < depth t
children_less_deep (Value k o l) = omega arith
children_less_deep (Padding n l) = omega arith
children_less_deep (Sequence n e l) = omega arith
children_less_deep (Struct ms l) = omega (arith, ap deepest (trees-list_of ms))
children_less_deep (Union ms l) = omega (arith, ap deepest (trees-list_of ms))
