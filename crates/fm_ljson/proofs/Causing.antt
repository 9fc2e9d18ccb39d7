-- Which refusals a layout that is built may give, and why.
use Rattle.std.proofs.Common.{◌≡◌, ◌⊎◌, inl, inr, ℕ, zero, suc, ◌+◌, ◌*◌, ◌%◌, ◌<◌, ◌≤◌, Bool, true, false, cond, List, [], ◌∷◌, ◌++◌, length, map, Option, Some, None, IfSome, Result, Ok, Err, IfErr, IsUtf8, nat_eq, nat_le, refl, sym, ap, subst, ◌∙◌, arith, bytes_eq, true≢false}
use Rattle.std.{specs.{Prelude.{flat_map}, Int.{is_power_of_two}}, proofs.lemmas.{Bool.{cases_lt}, Option.{none-some, same_Some}}}
use Rattle.serde_json.specs.{Data.{Data}, Read.{read}}
use Rattle.fm_base.specs.declared.refusal.Refusal.{Refusal}
use Rattle.fm_base.specs.declared.refusal.Refusal.TheVariants.{BadShape, BadAlignment, Overflow, MemberMisaligned, ElementRagged, BadPadding, AlignmentBelow, Memory}
use Rattle.fm_layout.specs.{Tree.{Tree, Trees, NoMore, More, alignment_of}, Size.{size_of, least_of}, WellFormed.{limit}}
use Rattle.fm_layout.specs.Made.{fault_of, made, padding_of, sequence_fault, sequence_of, struct_of, with_alignment}
use Rattle.fm_ljson.specs.Node.{Content, Padding, Sequence, Struct, Union, Node, node_of, parts_in, parts_of}
use Rattle.fm_ljson.specs.Nodes.{first_broken, is_broken, most_levels, most_nodes, most_written_levels, most_written_nodes, nodes}
use Rattle.fm_ljson.specs.Built.{aligned, all_of, built, built_behind, built_if_any, content_built, copied, copied_as, node_built, OrMemory, then}
use Rattle.fm_ljson.specs.Answer.{fault_in, layout_of_data, made_of, shaped}
use Rattle.fm_ljson.specs.Documents.{Entry, Text, One, Two, Neither, at_entry, behind, broken_at, entry_of, first_broken_of, first_of, new_entry, parts_at, parts_from, text_of}
use Rattle.fm_ljson.specs.{Measured.{large_of}, Refs.{Ref, also_known, is_known_ref, knowing, none_known, ref_of, unknown}}
use Rattle.fm_ljson.{specs.Causes.{IsBadAt, IsCause, IsJsonOf, IsRefusedAs}, proofs.Counting.{no_node, one_too_many, too_deep, whole_here}}
use Rattle.fm_ljson.proofs.Entries.{new_entry-says}
use Rattle.fm_ljson.specs.Node as said

-- the refusals of constructors and of `with_alignment`
abbrev pub IsOfLayouts : Refusal → Type 0
IsOfLayouts BadAlignment = Unit {0}
IsOfLayouts Overflow = Unit {0}
IsOfLayouts (MemberMisaligned i at) = Unit {0}
IsOfLayouts ElementRagged = Unit {0}
IsOfLayouts BadPadding = Unit {0}
IsOfLayouts (AlignmentBelow n) = Unit {0}
IsOfLayouts _ = ⊥

abbrev RefusesSo : {A : Type 0} → Result A Refusal → Type 0
RefusesSo r = IfErr r IsOfLayouts

either : (b : Bool) (x y : Result Tree Refusal) → RefusesSo x → RefusesSo y → RefusesSo (cond b x y)
either true x y h k = h
either false x y h k = k

either_fault : (b : Bool) (x y : Option Refusal) → IfSome x IsOfLayouts → IfSome y IsOfLayouts → IfSome (cond b x y) IsOfLayouts
either_fault true x y h k = h
either_fault false x y h k = k

made_refuses : (t : Tree) (o : Option Refusal) → IfSome o IsOfLayouts → RefusesSo (made t o)
made_refuses t None h = tt
made_refuses t (Some r) h = h

then_refuses : {A B : Type 0} (f : A → Result B Refusal) (r : Result A Refusal) → RefusesSo r → ((a : A) → RefusesSo (f a)) → RefusesSo (then f r)
then_refuses f (Ok a) h k = k a
then_refuses f (Err e) h k = h

padding_refuses : (n : ℕ) → RefusesSo (padding_of n)
padding_refuses n = either (nat_eq n 0) _ _ tt (either (nat_le n limit) _ _ tt tt)

sequence_refuses : (n : ℕ) (e : Tree) → RefusesSo (sequence_of n e)
sequence_refuses n e =
    made_refuses _ (sequence_fault n (size_of e) (alignment_of e))
    (either_fault (nat_eq (size_of e % alignment_of e) 0) _ _ (either_fault (nat_le (n * size_of e) limit) None (Some Overflow) tt tt) tt)

fault_refuses : (i at : ℕ) (ts : Trees) → IfSome (fault_of i at ts) IsOfLayouts
fault_refuses i at NoMore = tt
fault_refuses i at (More t ts) =
    either_fault (nat_eq (at % alignment_of t) 0) _ _
    (either_fault (nat_le (at + size_of t) limit) (fault_of (i + 1) (at + size_of t) ts) (Some Overflow) (fault_refuses (i + 1) (at + size_of t) ts) tt) tt

struct_refuses : (ts : Trees) → RefusesSo (struct_of ts)
struct_refuses ts = made_refuses _ (fault_of 0 0 ts) (fault_refuses 0 0 ts)

alignment_refuses : (n : ℕ) (t : Tree) → RefusesSo (with_alignment n t)
alignment_refuses n t = either (is_power_of_two n) _ _ (either (nat_le n limit) _ _ (either (nat_le (least_of t) n) _ _ tt tt) tt) tt

aligned_refuses : (align : Option ℕ) (t : Tree) → RefusesSo (aligned align t)
aligned_refuses None t = tt
aligned_refuses (Some n) t = alignment_refuses n t

-- ---- nodes that break no rule

none_before : (b : Bool) (n : ℕ) (r : Option ℕ) → cond b (Some n) r ≡ None → (b ≡ false) × (r ≡ None)
none_before true n r h = absurd (none-some n (sym h))
none_before false n r h = (refl, h)

-- each known name stands for a layout
abbrev StandsFor : (List ℕ → Bool) → (List ℕ → Option Tree) → Type 0
StandsFor known trees = (name : List ℕ) → known name ≡ true → trees name ≡ None → ⊥

module _ (known : List ℕ → Bool) (most : ℕ) (trees : List ℕ → Option Tree) (stands : StandsFor known trees) where
  -- Where none of all breaks a rule, none of the first does, and none of the others.
  split : (n : ℕ) (xs ys : List (ℕ × Data)) → first_broken known most n (xs ++ ys) ≡ None
      → (first_broken known most n xs ≡ None) × (first_broken known most (n + length xs) ys ≡ None)
  split n [] ys h = let same : n + 0 ≡ n = omega arith in (refl, ap (λ k. first_broken known most k ys) same ∙ h)
  split n (x ∷ xs) ys h =
      let p = none_before (is_broken known most n x) n (first_broken known most (n + 1) (xs ++ ys)) h in
      let q = split (n + 1) xs ys p.1 in
      let same : n + length (x ∷ xs) ≡ n + 1 + length xs = omega arith in
      (ap (λ b. cond b (Some n) (first_broken known most (n + 1) xs)) p.0 ∙ q.0, ap (λ k. first_broken known most k ys) same ∙ q.1)

  abbrev PartsRefuseSo : ℕ → Type 0
  PartsRefuseSo levels = (d : Data) (n : ℕ) → first_broken known most n (nodes levels d) ≡ None → RefusesSo (built trees levels d)

  all_refuse : (levels : ℕ) → PartsRefuseSo levels → (ds : List Data) (n : ℕ) → first_broken known most n (flat_map (nodes levels) ds) ≡ None
      → RefusesSo (all_of (map (built trees levels) ds))
  all_refuse levels part [] n h = tt
  all_refuse levels part (d ∷ ds) n h =
      let p = split n (nodes levels d) (flat_map (nodes levels) ds) h in
      then_refuses _ (built trees levels d) (part d n p.0)
      (λ t. then_refuses _ (all_of (map (built trees levels) ds)) (all_refuse levels part ds (n + length (nodes levels d)) p.1) (λ ts. tt))

  content_refuses : (levels : ℕ) → PartsRefuseSo levels → (x : Content) (n : ℕ) → first_broken known most n (flat_map (nodes levels) (parts_in x)) ≡ None
      → RefusesSo (content_built (built trees levels) x)
  content_refuses levels part (said.Value k o) n h = tt
  content_refuses levels part (Padding m) n h = padding_refuses m
  content_refuses levels part (Sequence m e) n h =
      let p = split n (nodes levels e) [] h in then_refuses (sequence_of m) (built trees levels e) (part e n p.0) (sequence_refuses m)
  content_refuses levels part (Struct ds) n h = then_refuses struct_of (all_of (map (built trees levels) ds)) (all_refuse levels part ds n h) struct_refuses
  content_refuses levels part (Union ds) n h = then_refuses _ (all_of (map (built trees levels) ds)) (all_refuse levels part ds n h) (λ ts. tt)

  node_refuses : (levels : ℕ) → PartsRefuseSo levels → (x : Node) (n : ℕ) → first_broken known most n (flat_map (nodes levels) (parts_in x.content)) ≡ None
      → RefusesSo (node_built (built trees levels) x)
  node_refuses levels part x n h =
      then_refuses _ (content_built (built trees levels) x.content) (content_refuses levels part x.content n h)
      (λ t. then_refuses _ (aligned x.align t) (aligned_refuses x.align t) (λ u. tt))

  below : (n levels : ℕ) (d : Data) (x : Node) → Some x ≡ node_of d → first_broken known most n (nodes (suc levels) d) ≡ None → (n < most) ⊎ (most ≤ n)
      → first_broken known most (n + 1) (flat_map (nodes levels) (parts_in x.content)) ≡ None
  unfolding nodes
  below n levels d x is h (inl few) = sym (whole_here known most n levels d x few is) ∙ h
  below n levels d x is h (inr many) = absurd (none-some n (sym h ∙ one_too_many known most n (suc levels) d many))

  copy_refuses : (name : Option (List ℕ)) (o : Option Tree) → (o ≡ None → ⊥) → RefusesSo (copied_as name o)
  copy_refuses name None h = absurd (h refl)
  copy_refuses name (Some t) h = tt

  -- a ref to a known name is never refused
  ref_refuses : (d : Data) (n levels : ℕ) (o : Option Ref) (b : Bool) → None ≡ node_of d → o ≡ ref_of d → is_known_ref known o ≡ b
      → first_broken known most n (nodes levels d) ≡ None → RefusesSo (copied trees o)
  ref_refuses d n levels o false none is b h =
      absurd (none-some n (sym h ∙ no_node known most n levels d none (ap (is_known_ref known) (sym is) ∙ b)))
  ref_refuses d n levels None true none is b h = cc
  ref_refuses d n levels (Some r) true none is b h = copy_refuses r.name (trees r.of) (stands r.of b)

  if_any_refuses : (levels : ℕ) → PartsRefuseSo levels → (d : Data) (n : ℕ) (o : Option Node) → o ≡ node_of d
      → first_broken known most n (nodes (suc levels) d) ≡ None → RefusesSo (built_if_any (built trees levels) (copied trees (ref_of d)) o)
  if_any_refuses levels part d n None is h = ref_refuses d n (suc levels) (ref_of d) (is_known_ref known (ref_of d)) is refl refl h
  if_any_refuses levels part d n (Some x) is h =
      let few : (n < most) ⊎ (most ≤ n) = cases_lt n most in
      node_refuses levels part x (n + 1) (below n levels d x is h few)

  built_refuses : (levels : ℕ) → PartsRefuseSo levels
  unfolding built
  built_refuses zero d n h = absurd (none-some n (sym h ∙ too_deep known most n zero d refl))
  built_refuses (suc levels) d n h = if_any_refuses levels (built_refuses levels) d n (node_of d) refl h

-- ---- types

none_first : (a b : Option ℕ) → first_of a b ≡ None → (a ≡ None) × (b ≡ None)
none_first None b h = (refl, h)
none_first (Some n) b h = absurd (none-some n (sym h))

known_more : (name : List ℕ) (t : Tree) (known : List ℕ → Bool) (trees : List ℕ → Option Tree) → StandsFor known trees
    → StandsFor (also_known name known) (knowing name t trees)
known_more name t known trees stands other is none = more (bytes_eq name other) (known other) (trees other) (stands other) is none
  where
    more : (b k : Bool) (o : Option Tree) → (k ≡ true → o ≡ None → ⊥) → cond b true k ≡ true → cond b (Some t) o ≡ None → ⊥
    more true k o h e none = none-some t (sym none)
    more false k o h e none = h e none

abbrev RestRefusesSo : List Data → Data → Type 0
RestRefusesSo types layout =
    (known : List ℕ → Bool) (n : ℕ) (trees : List ℕ → Option Tree) → StandsFor known trees → first_broken_of known n types layout ≡ None
    → RefusesSo (built_behind trees (parts_from n types).entries layout)

entry_refuses : (ds : List Data) (layout : Data) → RestRefusesSo ds layout
    → (known : List ℕ → Bool) (n : ℕ) (trees : List ℕ → Option Tree) (d : Data) (o p : Option Entry)
    → new_entry known n d ≡ o → entry_of d ≡ p → StandsFor known trees
    → at_entry n o (λ e. first_of (broken_at known (n + 1) e.layout) (first_broken_of (also_known e.name known) (behind (n + 1) e.layout) ds layout)) ≡ None
    → RefusesSo (built_behind trees (parts_at n p (λ m. parts_from m ds)).entries layout)
entry_refuses ds layout rest known n trees d None p is says stands h = absurd (none-some n (sym h))
entry_refuses ds layout rest known n trees d (Some e) None is says stands h = absurd (none-some e (sym says ∙ new_entry-says known n d e is))
entry_refuses ds layout rest known n trees d (Some e) (Some f) is says stands h =
    let same : e ≡ f = same_Some e f (sym (new_entry-says known n d e is) ∙ says) in
    let p = none_first (broken_at known (n + 1) e.layout) _ h in
    subst (λ (x : Entry). RefusesSo (built_behind trees (parts_at n (Some x) (λ m. parts_from m ds)).entries layout)) same
    (then_refuses _ (built trees most_written_levels e.layout)
    (built_refuses known most_written_nodes trees stands most_written_levels e.layout (n + 1) p.0)
    (λ t. rest (also_known e.name known) (behind (n + 1) e.layout) (knowing e.name t trees) (known_more e.name t known trees stands) p.1))

-- Where no written rule is broken, no layout is refused but by a constructor.
behind_refuses : (types : List Data) (layout : Data) → RestRefusesSo types layout
behind_refuses [] layout known n trees stands h = built_refuses known most_written_nodes trees stands most_written_levels layout n h
behind_refuses (d ∷ ds) layout known n trees stands h =
    entry_refuses ds layout (behind_refuses ds layout) known n trees d (new_entry known n d) (entry_of d) refl refl stands h

nothing_known : StandsFor none_known unknown
nothing_known name h none = absurd (true≢false (sym h))

text_refuses : (x : Text) → fault_in x ≡ None → RefusesSo (made_of x)
text_refuses (One d) h = built_refuses none_known most_nodes unknown nothing_known most_levels d 0 h
text_refuses (Two x) h =
    behind_refuses x.types x.layout none_known 1 unknown nothing_known
    (none_first (first_broken_of none_known 1 x.types x.layout) (large_of x) h).0
text_refuses Neither h = absurd (none-some 0 (sym h))

-- ---- causes

cause_of_layouts : (bytes : List ℕ) (r : Refusal) → IsOfLayouts r → IsRefusedAs bytes r → IsCause bytes r
cause_of_layouts bytes BadAlignment h k = k
cause_of_layouts bytes Overflow h k = k
cause_of_layouts bytes (MemberMisaligned i at) h k = k
cause_of_layouts bytes ElementRagged h k = k
cause_of_layouts bytes BadPadding h k = k
cause_of_layouts bytes (AlignmentBelow n) h k = k
cause_of_layouts bytes _ h k = absurd h

cause_by_shape : (bytes : List ℕ) (d : Data) (e : Refusal) (o : Option ℕ) → IsJsonOf bytes d → fault_in (text_of d) ≡ o
    → Err e ≡ shaped o (made_of (text_of d)) → IsCause bytes e
cause_by_shape bytes d e (Some n) is shape h =
    let same : BadShape n ≡ e = cc in
    let cause : IsBadAt bytes n = record { value = d; json = is; broken = shape } in
    subst (IsCause bytes) same cause
cause_by_shape bytes d e None is shape h =
    cause_of_layouts bytes e (subst RefusesSo (sym h) (text_refuses (text_of d) shape))
    (record { value = d; json = is; shaped = shape; refused = sym h })

cause_of : (bytes : List ℕ) (d : Data) (e : Refusal) → IsJsonOf bytes d → OrMemory (Err e) (layout_of_data d) → IsCause bytes e
cause_of bytes d e is (inl h) = let same : Memory ≡ e = cc in subst (IsCause bytes) same tt
cause_of bytes d e is (inr h) = cause_by_shape bytes d e (fault_in (text_of d)) is refl h

-- Each refusal of bytes that have a reading has its cause.
pub refused_read : (bytes : List ℕ) (d : Data) (r : Result Tree Refusal) → IsJsonOf bytes d → OrMemory r (layout_of_data d) → IfErr r (IsCause bytes)
refused_read bytes d (Ok t) is h = tt
refused_read bytes d (Err e) is h = cause_of bytes d e is h

-- Bytes that have none are of no value.
pub refused_unread : (bytes : List ℕ) → (IsUtf8 bytes → read bytes ≡ None) → (d : Data) → ¬ (IsJsonOf bytes d)
refused_unread bytes none d is = none-some d (sym (none is.utf8) ∙ is.reading)
