-- The nodes of the canonical JSON break no rule, and the layout that they stand for is the one that was written.
use Rattle.std.proofs.Common.{◌≡◌, refl, sym, ap, ◌∙◌, ℕ, zero, suc, ◌+◌, ◌≤◌, ◌<◌, Bool, true, false, nat_eq, nat_le, le-leb, eq-eqb, cond, map, List, [], ◌∷◌, ◌++◌, Option, Some, None, Result, Ok, arith, append-nil, inl, inr}
use Rattle.std.{specs.{Prelude.{flat_map, nat_lt}, Int.{is_power_of_two}}, proofs.lemmas.List.{append_assoc, Concat.{flat_map-cons}}}
use Rattle.std.{proofs.lemmas.Bool.Decides.{nat_tests}, specs.Str.{is_utf8}}
use Rattle.serde_json.specs.{Data.{Data}, Read.{read}}
use Rattle.fm_base.specs.declared.refusal.Refusal.{Refusal}
use Rattle.fm_lanes.specs.Kind.{width_of}
use Rattle.fm_layout.specs.{Depth.{depth, deepest}, Made.{plain, padding_of, sequence_of, struct_of, with_alignment}, Named.{HasNames, HaveNames}}
use Rattle.fm_layout.specs.Size.{greatest_alignment, least_of, size_of}
use Rattle.fm_layout.specs.Tree.{Label, Tree, Trees, Value, Padding, Sequence, Struct, Union, NoMore, More, alignment_of, label_of, relabelled}
use Rattle.fm_base_bytes.proofs.Powers.{is_power_of_two-IsPowerOfTwo}
use Rattle.fm_layout.specs.WellFormed.{limit, IsFit, IsWellFormed, AreWellFormed, AreLaidOut}
use Rattle.fm_layout.proofs.Refused.{fault_of-none}
use Rattle.fm_ljson.specs.{Answer.{layout_of_json}, Built.{built, built_if_any, copied, node_built, then, all_of, aligned, named}}
use Rattle.fm_ljson.specs.{Measured.{above, all_measured, beside, large_at, measure, measured, node_measured, ref_measured}, Node.{node_of, list_of, parts_in}}
use Rattle.fm_ljson.specs.{Nodes.{nodes, first_broken, most_levels, most_nodes, most_written_levels, most_written_nodes}, Refs.{none_known, ref_of, unknown}}
use Rattle.fm_ljson.specs.declared.measure.Extent.{Extent}
use Rattle.fm_ljson_write.specs.Canonical.{all_json, document_json, json_of, StandsFor}
use Rattle.fm_ljson_write.specs.Limits.{AreCountsSmall, AreAllCountsSmall, IsWithinLimits, node_count, node_counts}
use Rattle.fm_ljson_write.proofs.Found.{content_said, node_said, said, said_alone, said_document, unlike}

-- members that are laid out are well formed
laid_well : (at : ℕ) (ts : Trees) → AreLaidOut at ts → AreWellFormed ts
laid_well at NoMore laid = tt
laid_well at (More t ts) laid = (laid.1, laid_well (at + size_of t) ts laid.2)

-- ---- the nodes

-- the nodes of one part and of those after it
one_more : (f : Data → List (ℕ × Data)) (d : Data) (ds : List Data) (rest : List (ℕ × Data)) → flat_map f (d ∷ ds) ++ rest ≡ f d ++ (flat_map f ds ++ rest)
one_more f d ds rest = ap (λ x. x ++ rest) (flat_map-cons f d ds) ∙ append_assoc (f d) (flat_map f ds) rest

-- where these names are known, and no node has this number
module _ (known : List ℕ → Bool) (most : ℕ) where
  -- a node that is there, not too deep, and not one too many, comes before its parts
  node_step : (levels n : ℕ) (d : Data) (rest : List (ℕ × Data)) (t : Tree) → n < most → node_of d ≡ Some (node_said t)
      → first_broken known most n (nodes (suc levels) d ++ rest) ≡ first_broken known most (n + 1) (flat_map (nodes levels) (parts_in (content_said t)) ++ rest)
  unfolding nodes
  node_step levels n d rest t few is =
      let number : nat_le most n ≡ false = grind (arith, nat_tests, few) in
      let level : nat_eq (suc levels) 0 ≡ false = grind (arith, nat_tests) in
      rw (number, level, is) refl

  mutual
    -- the nodes of a layout break no rule
    sound_nodes : (t : Tree) (levels n : ℕ) (rest : List (ℕ × Data)) → IsWellFormed t → HasNames t → AreCountsSmall t → depth t ≤ levels
        → n + node_count t ≤ most
        → first_broken known most n (nodes levels (json_of t) ++ rest) ≡ first_broken known most (n + node_count t) rest
    sound_nodes (Value k o l) zero n rest w names small deep few = absurd (omega (arith, deep))
    sound_nodes (Value k o l) (suc levels) n rest w names small deep few =
        node_step levels n (json_of (Value k o l)) rest (Value k o l) (omega (arith, few)) (said (Value k o l) w names small)
    sound_nodes (Padding k l) zero n rest w names small deep few = absurd (omega (arith, deep))
    sound_nodes (Padding k l) (suc levels) n rest w names small deep few =
        node_step levels n (json_of (Padding k l)) rest (Padding k l) (omega (arith, few)) (said (Padding k l) w names small)
    sound_nodes (Sequence k e l) zero n rest w names small deep few = absurd (omega (arith, deep))
    sound_nodes (Sequence k e l) (suc levels) n rest w names small deep few =
        let next : n + 1 + node_count e ≡ n + (1 + node_count e) = omega arith in
        node_step levels n (json_of (Sequence k e l)) rest (Sequence k e l) (omega (arith, few)) (said (Sequence k e l) w names small)
        ∙ ap (first_broken known most (n + 1)) (one_more (nodes levels) (json_of e) [] rest)
        ∙ sound_nodes e levels (n + 1) rest w.2 names.1 small.1 (omega (arith, deep)) (omega (arith, few))
        ∙ ap (λ m. first_broken known most m rest) next
    sound_nodes (Struct ms l) zero n rest w names small deep few = absurd (omega (arith, deep))
    sound_nodes (Struct ms l) (suc levels) n rest w names small deep few =
        let next : n + 1 + node_counts ms ≡ n + (1 + node_counts ms) = omega arith in
        node_step levels n (json_of (Struct ms l)) rest (Struct ms l) (omega (arith, few)) (said (Struct ms l) w names small)
        ∙ sound_all ms levels (n + 1) rest (laid_well 0 ms w.1) names.1 small (omega (arith, deep)) (omega (arith, few))
        ∙ ap (λ m. first_broken known most m rest) next
    sound_nodes (Union ms l) zero n rest w names small deep few = absurd (omega (arith, deep))
    sound_nodes (Union ms l) (suc levels) n rest w names small deep few =
        let next : n + 1 + node_counts ms ≡ n + (1 + node_counts ms) = omega arith in
        node_step levels n (json_of (Union ms l)) rest (Union ms l) (omega (arith, few)) (said (Union ms l) w names small)
        ∙ sound_all ms levels (n + 1) rest w.1 names.1 small (omega (arith, deep)) (omega (arith, few))
        ∙ ap (λ m. first_broken known most m rest) next

    sound_all : (ts : Trees) (levels n : ℕ) (rest : List (ℕ × Data)) → AreWellFormed ts → HaveNames ts → AreAllCountsSmall ts → deepest ts ≤ levels
        → n + node_counts ts ≤ most
        → first_broken known most n (flat_map (nodes levels) (list_of (all_json ts)) ++ rest) ≡ first_broken known most (n + node_counts ts) rest
    sound_all NoMore levels n rest w names small deep few =
        let none : n ≡ n + 0 = omega arith in
        ap (λ m. first_broken known most m rest) none
    sound_all (More t ts) levels n rest w names small deep few =
        let next : n + node_count t + node_counts ts ≡ n + (node_count t + node_counts ts) = omega arith in
        ap (first_broken known most n) (one_more (nodes levels) (json_of t) (list_of (all_json ts)) rest)
        ∙ sound_nodes t levels n (flat_map (nodes levels) (list_of (all_json ts)) ++ rest) w.0 names.0 small.0 (omega (arith, deep)) (omega (arith, few))
        ∙ sound_all ts levels (n + node_count t) rest w.1 names.1 small.1 (omega (arith, deep)) (omega (arith, few))
        ∙ ap (λ m. first_broken known most m rest) next

-- ---- what is built

-- another label in place of another
relabelled-twice : (l m : Label) (t : Tree) → relabelled l (relabelled m t) ≡ relabelled l t
relabelled-twice l m (Value k o x) = refl
relabelled-twice l m (Padding n x) = refl
relabelled-twice l m (Sequence n e x) = refl
relabelled-twice l m (Struct ms x) = refl
relabelled-twice l m (Union ms x) = refl

label_of-relabelled : (l : Label) (t : Tree) → label_of (relabelled l t) ≡ l
label_of-relabelled l (Value k o x) = refl
label_of-relabelled l (Padding n x) = refl
label_of-relabelled l (Sequence n e x) = refl
label_of-relabelled l (Struct ms x) = refl
label_of-relabelled l (Union ms x) = refl

relabelled-own : (t : Tree) → relabelled (label_of t) t ≡ t
relabelled-own (Value k o x) = refl
relabelled-own (Padding n x) = refl
relabelled-own (Sequence n e x) = refl
relabelled-own (Struct ms x) = refl
relabelled-own (Union ms x) = refl

-- a layout without a name gets one, or none
named-relabelled : (name : Option (List ℕ)) (a : ℕ) (t : Tree) → label_of t ≡ plain a → named name t ≡ relabelled (record { alignment = a; name = name }) t
named-relabelled None a t is = sym (relabelled-own t) ∙ ap (λ l. relabelled l t) is
named-relabelled (Some name) a t is = ap (λ n. relabelled (record { alignment = n; name = Some name }) t) (ap (λ (l : Label). l.alignment) is)

finished : (same : Bool) (given : ℕ) (l : Label) (t : Tree) → nat_eq l.alignment given ≡ same → label_of t ≡ plain given
    → is_power_of_two l.alignment ≡ true → l.alignment ≤ limit → least_of t ≤ l.alignment
    → then (λ u. Ok (named l.name u)) (aligned (cond same None (Some l.alignment)) t) ≡ Ok (relabelled l t)
finished true given l t is own power below least =
    let equal : l.alignment ≡ given = grind (arith, nat_tests, is) in
    ap Ok (named-relabelled l.name given t own ∙ ap (λ a. relabelled (record { alignment = a; name = l.name }) t) (sym equal))
finished false given l t is own power below least =
    let u = relabelled (plain l.alignment) t in
    let made : with_alignment l.alignment t ≡ Ok u =
    rw (power, le-leb _ _ below, le-leb _ _ least) (ap (λ (m : Label). Ok (relabelled (record { alignment = l.alignment; name = m.name }) t)) own) in
    ap (then (λ u. Ok (named l.name u))) made
    ∙ ap Ok (named-relabelled l.name l.alignment u (label_of-relabelled (plain l.alignment) t) ∙ relabelled-twice l (plain l.alignment) t)

-- a layout with another alignment and name than its constructor gives is built from what its constructor gives
labelled : (given : ℕ) (l : Label) (t u : Tree) → IsFit t → alignment_of t ≡ l.alignment → label_of u ≡ plain given → least_of u ≡ least_of t
    → then (λ u. Ok (named l.name u)) (aligned (unlike given l) u) ≡ Ok (relabelled l u)
labelled given l t u fit same own least =
    finished (nat_eq l.alignment given) given l u refl own (ap is_power_of_two (sym same) ∙ is_power_of_two-IsPowerOfTwo (alignment_of t) fit.power)
    (omega (arith, fit.greatest, same)) (omega (arith, fit.least, same, least))

-- a node is built as it says
build_step : (trees : List ℕ → Option Tree) (levels : ℕ) (d : Data) (t : Tree) → node_of d ≡ Some (node_said t)
    → built trees (suc levels) d ≡ node_built (built trees levels) (node_said t)
unfolding built
build_step trees levels d t is = ap (built_if_any (built trees levels) (copied trees (ref_of d))) is

padding_again : (n : ℕ) (l : Label) → IsWellFormed (Padding n l) → then (λ t. Ok (named l.name t)) (padding_of n) ≡ Ok (Padding n l)
padding_again n l w =
    let some : nat_eq n 0 ≡ false = grind (arith, nat_tests, w.2) in
    rw (some, le-leb n limit w.0.size)
    (ap Ok (named-relabelled l.name 1 (Padding n (plain 1)) refl ∙ ap (λ a. Padding n (record { alignment = a; name = l.name })) (sym w.1)))

sequence_again : (n : ℕ) (e : Tree) (l : Label) → IsWellFormed (Sequence n e l) → sequence_of n e ≡ Ok (Sequence n e (plain (alignment_of e)))
sequence_again n e l w = rw (eq-eqb _ _ w.1, le-leb _ _ w.0.size) refl

struct_again : (ms : Trees) (l : Label) → IsWellFormed (Struct ms l) → struct_of ms ≡ Ok (Struct ms (plain (greatest_alignment ms)))
struct_again ms l w = rw (fault_of-none 0 0 ms w.1 (omega (arith, w.0.size))) refl

-- what follows the building of a node's content
abbrev then_labelled : ℕ → Label → Result Tree Refusal → Result Tree Refusal
then_labelled given l r = then (λ t. then (λ u. Ok (named l.name u)) (aligned (unlike given l) t)) r

-- where these types are known
module _ (trees : List ℕ → Option Tree) where
  mutual
    -- the layout that is built is the one that was written
    rebuilt : (t : Tree) (levels : ℕ) → IsWellFormed t → HasNames t → AreCountsSmall t → depth t ≤ levels → built trees levels (json_of t) ≡ Ok t
    rebuilt (Value k o l) zero w names small deep = absurd (omega (arith, deep))
    rebuilt (Value k o l) (suc levels) w names small deep =
        build_step trees levels (json_of (Value k o l)) (Value k o l) (said (Value k o l) w names small)
        ∙ labelled (width_of k) l (Value k o l) (Value k o (plain (width_of k))) w refl refl refl
    rebuilt (Padding n l) zero w names small deep = absurd (omega (arith, deep))
    rebuilt (Padding n l) (suc levels) w names small deep =
        build_step trees levels (json_of (Padding n l)) (Padding n l) (said (Padding n l) w names small) ∙ padding_again n l w
    rebuilt (Sequence n e l) zero w names small deep = absurd (omega (arith, deep))
    rebuilt (Sequence n e l) (suc levels) w names small deep =
        build_step trees levels (json_of (Sequence n e l)) (Sequence n e l) (said (Sequence n e l) w names small)
        ∙ ap (λ r. then_labelled (alignment_of e) l (then (sequence_of n) r)) (rebuilt e levels w.2 names.1 small.1 (omega (arith, deep)))
        ∙ ap (then_labelled (alignment_of e) l) (sequence_again n e l w)
        ∙ labelled (alignment_of e) l (Sequence n e l) (Sequence n e (plain (alignment_of e))) w.0 refl refl refl
    rebuilt (Struct ms l) zero w names small deep = absurd (omega (arith, deep))
    rebuilt (Struct ms l) (suc levels) w names small deep =
        build_step trees levels (json_of (Struct ms l)) (Struct ms l) (said (Struct ms l) w names small)
        ∙ ap (λ r. then_labelled (greatest_alignment ms) l (then struct_of r)) (rebuilt_all ms levels (laid_well 0 ms w.1) names.1 small (omega (arith, deep)))
        ∙ ap (then_labelled (greatest_alignment ms) l) (struct_again ms l w)
        ∙ labelled (greatest_alignment ms) l (Struct ms l) (Struct ms (plain (greatest_alignment ms))) w.0 refl refl refl
    rebuilt (Union ms l) zero w names small deep = absurd (omega (arith, deep))
    rebuilt (Union ms l) (suc levels) w names small deep =
        build_step trees levels (json_of (Union ms l)) (Union ms l) (said (Union ms l) w names small)
        ∙ ap (λ r. then_labelled (greatest_alignment ms) l (then (λ ts. Ok (Union ts (plain (greatest_alignment ts)))) r))
        (rebuilt_all ms levels w.1 names.1 small (omega (arith, deep)))
        ∙ labelled (greatest_alignment ms) l (Union ms l) (Union ms (plain (greatest_alignment ms))) w.0 refl refl refl

    rebuilt_all : (ts : Trees) (levels : ℕ) → AreWellFormed ts → HaveNames ts → AreAllCountsSmall ts → deepest ts ≤ levels
        → all_of (map (built trees levels) (list_of (all_json ts))) ≡ Ok ts
    rebuilt_all NoMore levels w names small deep = refl
    rebuilt_all (More t ts) levels w names small deep =
        rw (rebuilt t levels w.0 names.0 small.0 (omega (arith, deep)), rebuilt_all ts levels w.1 names.1 small.1 (omega (arith, deep))) refl

-- ---- the measure

measured_as : (m : Extent) (levels nodes : ℕ) → m.levels ≡ levels → m.nodes ≡ nodes → m ≡ measured levels nodes
measured_as m levels nodes l n = ap (λ k. measured k m.nodes) l ∙ ap (λ k. measured levels k) n

measure_step : (known : List ℕ → Option Extent) (levels : ℕ) (d : Data) (t : Tree) → node_of d ≡ Some (node_said t)
    → measure known (suc levels) d ≡ above (all_measured (measure known levels) (parts_in (content_said t)))
unfolding measure
measure_step known levels d t is = ap (node_measured (measure known levels) (ref_measured known (ref_of d))) is

module _ (known : List ℕ → Option Extent) where
  mutual
    -- the JSON of a layout measures what the layout does
    measured_again : (t : Tree) (levels : ℕ) → IsWellFormed t → HasNames t → AreCountsSmall t → depth t ≤ levels
        → measure known levels (json_of t) ≡ measured (depth t) (node_count t)
    measured_again (Value k o l) zero w names small deep = absurd (omega (arith, deep))
    measured_again (Value k o l) (suc levels) w names small deep = measure_step known levels (json_of (Value k o l)) (Value k o l)
        (said (Value k o l) w names small)
    measured_again (Padding n l) zero w names small deep = absurd (omega (arith, deep))
    measured_again (Padding n l) (suc levels) w names small deep = measure_step known levels (json_of (Padding n l)) (Padding n l)
        (said (Padding n l) w names small)
    measured_again (Sequence n e l) zero w names small deep = absurd (omega (arith, deep))
    measured_again (Sequence n e l) (suc levels) w names small deep =
        measure_step known levels (json_of (Sequence n e l)) (Sequence n e l) (said (Sequence n e l) w names small)
        ∙ ap (λ m. above (beside m (measured 0 0))) (measured_again e levels w.2 names.1 small.1 (omega (arith, deep)))
        ∙ measured_as _ _ _ (omega arith) (omega arith)
    measured_again (Struct ms l) zero w names small deep = absurd (omega (arith, deep))
    measured_again (Struct ms l) (suc levels) w names small deep =
        measure_step known levels (json_of (Struct ms l)) (Struct ms l) (said (Struct ms l) w names small)
        ∙ ap above (all_measured_again ms levels (laid_well 0 ms w.1) names.1 small (omega (arith, deep)))
        ∙ measured_as _ _ _ (omega arith) (omega arith)
    measured_again (Union ms l) zero w names small deep = absurd (omega (arith, deep))
    measured_again (Union ms l) (suc levels) w names small deep =
        measure_step known levels (json_of (Union ms l)) (Union ms l) (said (Union ms l) w names small)
        ∙ ap above (all_measured_again ms levels w.1 names.1 small (omega (arith, deep)))
        ∙ measured_as _ _ _ (omega arith) (omega arith)

    all_measured_again : (ts : Trees) (levels : ℕ) → AreWellFormed ts → HaveNames ts → AreAllCountsSmall ts → deepest ts ≤ levels
        → all_measured (measure known levels) (list_of (all_json ts)) ≡ measured (deepest ts) (node_counts ts)
    all_measured_again NoMore levels w names small deep = refl
    all_measured_again (More t ts) levels w names small deep =
        ap (λ m. beside m (all_measured (measure known levels) (list_of (all_json ts)))) (measured_again t levels w.0 names.0 small.0 (omega (arith, deep)))
        ∙ ap (beside (measured (depth t) (node_count t))) (all_measured_again ts levels w.1 names.1 small.1 (omega (arith, deep)))

-- ---- the whole

none_broken : (known : List ℕ → Bool) (most levels n : ℕ) (t : Tree) → IsWellFormed t → HasNames t → AreCountsSmall t → depth t ≤ levels
    → n + node_count t ≤ most
    → first_broken known most n (nodes levels (json_of t)) ≡ None
none_broken known most levels n t w names small deep few =
    ap (first_broken known most n) (sym (append-nil (nodes levels (json_of t)))) ∙ sound_nodes known most t levels n [] w names small deep few

small : (m : Extent) → m.levels ≤ most_levels → m.nodes ≤ most_nodes → large_at 1 m ≡ None
small m levels nodes =
    let a : nat_lt most_levels m.levels ≡ false = grind (arith, nat_tests, levels) in
    let b : nat_lt most_nodes m.nodes ≡ false = grind (arith, nat_tests, nodes) in
    rw (a, b) refl

module _ (t : Tree) (bytes : List ℕ) (w : IsWellFormed t) (names : HasNames t) (within : IsWithinLimits t) (utf8 : is_utf8 bytes ≡ true) where
  -- What reads as the canonical JSON of a layout within the limits is that layout.
  layout_again : read bytes ≡ Some (json_of t) → layout_of_json bytes ≡ Ok t
  layout_again reads =
      let sound = none_broken none_known most_nodes most_levels 0 t w names within.counts within.levels (omega (arith, within.nodes)) in
      rw (utf8, reads, said_alone t, sound) (rebuilt unknown t most_levels w names within.counts within.levels)

  -- So is what reads as the JSON that names no types for it.
  document_again : read bytes ≡ Some (document_json t) → layout_of_json bytes ≡ Ok t
  document_again reads =
      let deep : depth t ≤ most_written_levels = omega (arith, within.levels) in
      let sound = none_broken none_known most_written_nodes most_written_levels 1 t w names within.counts deep (omega (arith, within.nodes)) in
      let measured_so = measured_again unknown t most_written_levels w names within.counts deep in
      let fits = ap (large_at 1) measured_so ∙ small (measured (depth t) (node_count t)) within.levels within.nodes in
      rw (utf8, reads, said_document t, sound, fits) (rebuilt unknown t most_written_levels w names within.counts deep)

  pub stands_again : {d : Data} → StandsFor d t → read bytes ≡ Some d → layout_of_json bytes ≡ Ok t
  stands_again (inl is) reads = layout_again (reads ∙ ap Some is)
  stands_again (inr is) reads = document_again (reads ∙ ap Some is)
