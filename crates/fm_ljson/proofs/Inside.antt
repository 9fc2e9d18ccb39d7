-- What is known of a node that breaks no rule.
use Rattle.std.proofs.Common.{◌≡◌, ℕ, ◌&&◌, ◌||◌, Bool, true, false, cond, List, [], ◌∷◌, length, Option, Some, None, option_map, option_and_then, refl, sym, ap, subst, leb-true, le-leb}
use Rattle.std.{specs.{Prelude.{nat_le, codes}, List.{list_all}, Bool.{Decides}}, proofs.lemmas.{Bool.{and_parts, and_from}, Option.{none-some, same_Some}}}
use Rattle.serde_json.specs.{Data.{Data, Members}, Find.{as_object, as_str, get_member}, View.{items_of}}
use Rattle.fm_layout.{specs.{Name.{is_digit, is_letter, IsName}, Named.{IsNameIfAny}}, proofs.Names.{IsNameEnd-from_all, list_all-IsNameEnd}}
use Rattle.fm_ljson.specs.declared.type_name.TypeName.{TypeName}
use Rattle.fm_ljson.specs.Node.{Content, Value, Sequence, Struct, Union, Node, align_in, content_in, has_only, if_any, is_name, list_of, members_in, name_in, name_of, node, node_in, node_of, node_of_type, optional, order_in, required, type_of, whole_of}
use Rattle.fm_ljson.specs.{Refs.{Ref, ref, ref_in, ref_named, ref_of, says_ref}, Types.{keys_in, keys_of}, Views.{IsPaddingContent, MayBeAligned}}
use Rattle.fm_ljson.specs.declared.type_name.TypeName.TheVariants as type_name
use Rattle.fm_ljson.specs.declared.role.Role.TheVariants as role

-- The items of a list are the list.
pub list_of-items_of : (ds : List Data) → list_of (items_of ds) ≡ ds
list_of-items_of [] = refl
list_of-items_of (d ∷ ds) = ap (λ (es : List Data). d ∷ es) (list_of-items_of ds)

-- ---- names

-- The test of names decides them.
pub is_name-Decides : (bytes : List ℕ) → Decides (is_name bytes) (IsName bytes)
is_name-Decides [] = ((λ h. cc), (λ h. absurd h))
is_name-Decides (c ∷ cs) =
    let rest : Bool = list_all (λ c. is_letter c || is_digit c) cs && nat_le (length (c ∷ cs)) 64 in (
      (λ h.
          let p = and_parts (is_letter c) rest h in
          let q = and_parts (list_all (λ c. is_letter c || is_digit c) cs) (nat_le (length (c ∷ cs)) 64) p.1 in
          (p.0, IsNameEnd-from_all cs q.0, leb-true (length (c ∷ cs)) 64 q.1)),
      (λ h.
          and_from (is_letter c) rest h.0
          (and_from (list_all (λ c. is_letter c || is_digit c) cs) (nat_le (length (c ∷ cs)) 64) (list_all-IsNameEnd cs h.1)
          (le-leb (length (c ∷ cs)) 64 h.2))),
    )

name_tested : (b : Bool) (text : List ℕ) (name : Option (List ℕ)) → is_name text ≡ b → option_map Some (cond b (Some text) None) ≡ Some name → IsNameIfAny name
name_tested true text name e h = subst IsNameIfAny (same_Some (Some text) name h) ((is_name-Decides text).0 e)
name_tested false text name e h = absurd (none-some name h)

name_of_text : (o : Option (List ℕ)) (name : Option (List ℕ)) → option_map Some (option_and_then name_in o) ≡ Some name → IsNameIfAny name
name_of_text None name h = absurd (none-some name h)
name_of_text (Some text) name h = name_tested (is_name text) text name refl h

name_at_key : (o : Option Data) (name : Option (List ℕ)) → if_any name_of o ≡ Some name → IsNameIfAny name
name_at_key None name h = subst IsNameIfAny (same_Some None name h) tt
name_at_key (Some d) name h = name_of_text (as_str d) name h

-- ---- padding

aligned_other : (align : Option ℕ) (P : Type 0) → ¬ P → MayBeAligned align P
aligned_other None P h = tt
aligned_other (Some n) P h = h

mapped_other : {A : Type 0} (f : A → Content) (o : Option A) (c : Content) → ((a : A) → ¬ (IsPaddingContent (f a))) → option_map f o ≡ Some c
    → ¬ (IsPaddingContent c)
mapped_other f None c k h = absurd (none-some c h)
mapped_other f (Some a) c k h = λ p. k a (subst IsPaddingContent (sym (same_Some (f a) c h)) p)

sequence_other : (o : Option ℕ) (e : Option Data) (c : Content) → option_and_then (λ n. option_map (Sequence n) e) o ≡ Some c → ¬ (IsPaddingContent c)
sequence_other None e c h = absurd (none-some c h)
sequence_other (Some n) e c h = mapped_other (Sequence n) e c (λ d p. p) h

aligned_of : (t : TypeName) (ms : Members) (c : Content) (align : Option ℕ) → content_in t ms ≡ Some c → align_in t ms ≡ Some align
    → MayBeAligned align (IsPaddingContent c)
aligned_of (type_name.Value k) ms c align h e = aligned_other align _ (mapped_other (Value k) (order_in ms) c (λ o p. p) h)
aligned_of type_name.Padding ms c align h e = subst (λ a. MayBeAligned a (IsPaddingContent c)) (same_Some None align e) tt
aligned_of type_name.Sequence ms c align h e =
    aligned_other align _ (sequence_other (required whole_of (codes "count") ms) (get_member (codes "element") ms) c h)
aligned_of type_name.Struct ms c align h e = aligned_other align _ (mapped_other Struct (required members_in (codes "members") ms) c (λ o p. p) h)
aligned_of type_name.Union ms c align h e = aligned_other align _ (mapped_other Union (required members_in (codes "members") ms) c (λ o p. p) h)

-- ---- nodes

-- its name, if any, is a name, and padding has no alignment
pub record IsGood (n : Node) : Type 0 where
  pub named : IsNameIfAny n.name
  pub aligned : MayBeAligned n.align (IsPaddingContent n.content)

assembled : (b : Bool) (oc : Option Content) (os : Option (Option (List ℕ))) (oa : Option (Option ℕ)) (n : Node)
    → cond b (option_and_then (λ c. option_and_then (λ s. option_map (node c s) oa) os) oc) None ≡ Some n
    → (oc ≡ Some n.content) × (os ≡ Some n.name) × (oa ≡ Some n.align)
assembled false oc os oa n h = absurd (none-some n h)
assembled true None os oa n h = absurd (none-some n h)
assembled true (Some c) None oa n h = absurd (none-some n h)
assembled true (Some c) (Some s) None n h = absurd (none-some n h)
assembled true (Some c) (Some s) (Some a) n h =
    let e = same_Some (node c s a) n h in
    (ap (λ (x : Node). Some x.content) e, ap (λ (x : Node). Some x.name) e, ap (λ (x : Node). Some x.align) e)

good_of_type : (ms : Members) (t : TypeName) (n : Node) → node_of_type ms t ≡ Some n → IsGood n
good_of_type ms t n h =
    let p = assembled (has_only (keys_of t) ms) (content_in t ms) (optional name_of (codes "name") ms) (align_in t ms) n h in
    record {
      named = name_at_key (get_member (codes "name") ms) n.name p.1;
      aligned = aligned_of t ms n.content n.align p.0 p.2;
    }

good_of_typed : (ms : Members) (o : Option TypeName) (n : Node) → option_and_then (node_of_type ms) o ≡ Some n → IsGood n
good_of_typed ms None n h = absurd (none-some n h)
good_of_typed ms (Some t) n h = good_of_type ms t n h

good_of_object : (o : Option Members) (n : Node) → option_and_then node_in o ≡ Some n → IsGood n
good_of_object None n h = absurd (none-some n h)
good_of_object (Some ms) n h = good_of_typed ms (required type_of (codes "type") ms) n h

-- A node that breaks no rule is good.
pub node_of-good : (d : Data) (n : Node) → Some n ≡ node_of d → IsGood n
unfolding node_of
node_of-good d n h = good_of_object (as_object d) n (sym h)

-- ---- refs

ref_mapped : (of : List ℕ) (o : Option (Option (List ℕ))) (r : Ref) → option_map (ref of) o ≡ Some r → o ≡ Some r.name
ref_mapped of None r h = absurd (none-some r h)
ref_mapped of (Some name) r h = ap (λ (x : Ref). Some x.name) (same_Some (ref of name) r h)

ref_known : (o : Option (List ℕ)) (ms : Members) (r : Ref) → option_and_then (ref_named ms) o ≡ Some r → optional name_of (codes "name") ms ≡ Some r.name
ref_known None ms r h = absurd (none-some r h)
ref_known (Some of) ms r h = ref_mapped of (optional name_of (codes "name") ms) r h

ref_tested : (b : Bool) (o : Option (List ℕ)) (ms : Members) (r : Ref) → cond b (option_and_then (ref_named ms) o) None ≡ Some r
    → optional name_of (codes "name") ms ≡ Some r.name
ref_tested true o ms r h = ref_known o ms r h
ref_tested false o ms r h = absurd (none-some r h)

ref_of_object : (o : Option Members) (r : Ref) → option_and_then ref_in o ≡ Some r → IsNameIfAny r.name
ref_of_object None r h = absurd (none-some r h)
ref_of_object (Some ms) r h =
    name_at_key (get_member (codes "name") ms) r.name
    (ref_tested (has_only (keys_in role.Ref) ms && says_ref ms) (required as_str (codes "of") ms) ms r h)

-- The name of a ref, if any, is a name.
pub ref_of-named : (d : Data) (r : Ref) → Some r ≡ ref_of d → IsNameIfAny r.name
unfolding ref_of
ref_of-named d r h = ref_of_object (as_object d) r (sym h)
