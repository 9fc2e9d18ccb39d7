-- What a layout measures, its refs replaced, and which is the first that is too large.
use Rattle.std.proofs.Common.{◌≡◌, inl, inr, ℕ, zero, suc, ◌+◌, ◌-◌, ◌<◌, ◌≤◌, false, cond, List, ◌∷◌, length, map, drop, get_or, Option, Some, None, Ok, refl, sym, ap, subst, ◌∙◌, arith}
use Rattle.std.{specs.Prelude.{nat_lt}, proofs.{Math.Path.{fun_ext}, lemmas.{Bool.Decides.{nat_tests}, List.{drop_more}}}}
use Rattle.serde_json.specs.Data.{Data}
use Rattle.fm_layout.specs.Tree.{Tree}
use Rattle.fm_ljson.specs.{Built.{OrMemory, built, built_behind, then}, Documents.{Numbered, first_of}, Loops.{IsExactly, IsMeasured}}
use Rattle.fm_ljson.specs.Measured.{IsLarge, above, all_measured, beside, first_large, is_large, large_at, measure, measure_of, node_measured, ref_measured, single}
use Rattle.fm_ljson.specs.{Node.{Node, node_of, parts_in}, Nodes.{most_levels, most_nodes, most_written_levels}, Refs.{knowing, ref_of}, Views.{numbered_view}}
use Rattle.fm_ljson.{specs.declared.{measure.Extent.{Extent}, types.NumberedRef.{NumberedRef}}, proofs.Building.{not_refused}}

-- ---- at a node

pub measure_node : (known : List ℕ → Option Extent) (levels : ℕ) (d : Data) (x : Node) → 0 < levels → Some x ≡ node_of d
    → above (all_measured (measure known (levels - 1)) (parts_in x.content)) ≡ measure known levels d
unfolding measure
measure_node known zero d x deep is = absurd (omega arith)
measure_node known (suc levels) d x deep is =
    let down : suc levels - 1 ≡ levels = omega arith in
    ap (λ n. above (all_measured (measure known n) (parts_in x.content))) down
    ∙ ap (node_measured (measure known levels) (ref_measured known (ref_of d))) is

pub measure_none : (known : List ℕ → Option Extent) (levels : ℕ) (d : Data) → 0 < levels → None ≡ node_of d
    → ref_measured known (ref_of d) ≡ measure known levels d
unfolding measure
measure_none known zero d deep is = absurd (omega arith)
measure_none known (suc levels) d deep is = ap (node_measured (measure known levels) (ref_measured known (ref_of d))) is

pub measure_zero : (known : List ℕ → Option Extent) (levels : ℕ) (d : Data) → levels ≡ 0 → single ≡ measure known levels d
unfolding measure
measure_zero known zero d is = refl
measure_zero known (suc levels) d is = absurd (omega arith)

-- A node above parts that are too large is too large.
pub large_above : (m : Extent) → IsLarge m → IsLarge (above m)
large_above m (inl h) = inl (omega arith)
large_above m (inr h) = inr (omega arith)

-- What measures the same.
pub measured_as : (o : Option Extent) (m n : Extent) → m ≡ n → IsMeasured o m → IsMeasured o n
measured_as o m n is h = subst (λ (x : Extent). IsMeasured o x) is h

-- ---- side by side

-- of what all measure, this is summed, and the rest is left
pub record IsSumming (k whole rest : Extent) : Type 0 where
  pub same : whole ≡ beside k rest
  pub levels : k.levels ≤ most_levels
  pub nodes : k.nodes ≤ most_nodes

-- ---- whole layouts

small_test : (m : Extent) → m.levels ≤ most_levels → m.nodes ≤ most_nodes → is_large m ≡ false
small_test m levels nodes =
    let a : nat_lt most_levels m.levels ≡ false = grind (arith, nat_tests, levels) in
    let b : nat_lt most_nodes m.nodes ≡ false = grind (arith, nat_tests, nodes) in
    rw (a, b) refl

-- The root of a layout that is not too large is not refused.
pub not_large : (n : ℕ) (k m : Extent) → IsExactly k m → large_at n m ≡ None
not_large n k m is =
    ap (λ b. cond b (Some n) None) (small_test m (omega (arith, ap (λ (x : Extent). x.levels) is.same, is.levels))
    (omega (arith, ap (λ (x : Extent). x.nodes) is.same, is.nodes)))

-- The first that is too large is among those left.
pub large_more : (known new : List ℕ → Option Extent) (e : Numbered) (es : List Numbered) (n : ℕ) (layout : Data) (k : Extent)
    → IsExactly k (measure_of known e.layout) → ((other : List ℕ) → new other ≡ knowing e.name k known other)
    → first_large known (e ∷ es) n layout ≡ first_large new es n layout
large_more known new e es n layout k is defined =
    let named : knowing e.name (measure_of known e.layout) known ≡ new =
    ap (λ (x : Extent). knowing e.name x known) (sym is.same) ∙ sym (fun_ext defined) in
    ap (λ o. first_of o (first_large (knowing e.name (measure_of known e.layout) known) es n layout)) (not_large e.number k (measure_of known e.layout) is)
    ∙ ap (λ known. first_large known es n layout) named

-- The next of the entries is the first of those left.
pub entry_item : {A : Type 0} (f : List Numbered → A) (xs ys : List NumberedRef) (i : ℕ) (x : NumberedRef) → ys ≡ xs → i < length ys → x ≡ get_or ys i x
    → f (map numbered_view (drop i xs)) ≡ f (numbered_view x ∷ map numbered_view (drop (i + 1) xs))
entry_item f xs ys i x same here is =
    let inside : i < length xs = subst (λ (zs : List NumberedRef). i < length zs) same here in
    let at : x ≡ get_or xs i x = is ∙ ap (λ (zs : List NumberedRef). get_or zs i x) same in
    let next : drop i xs ≡ x ∷ drop (i + 1) xs = drop_more xs i x inside ∙ ap (λ (w : NumberedRef). w ∷ drop (i + 1) xs) (sym at) in
    ap (λ (ws : List NumberedRef). f (map numbered_view ws)) next
