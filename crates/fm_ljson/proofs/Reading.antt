-- Bytes that have a reading, and bytes that have none; what is answered of a value that was read.
use Rattle.std.proofs.Common.{◌≡◌, ℕ, Bool, true, false, cond, List, [], Option, Some, None, Result, Err, inl, inr, IsUtf8, refl, sym, ap, ◌∙◌, true≢false}
use Rattle.std.{specs.{Str.{is_utf8}, BTreeMap.{BTreeMap, get_by_text, is_at}, Map.{lookup}}, proofs.lemmas.Str.{IsUtf8-from_is_utf8, is_utf8-from_IsUtf8}}
use Rattle.std.{proofs.lemmas.Map.Text.{text_cmp}, specs.{BTreeSet.{BTreeSet, contains_text}, Prelude.{String}, declared.alloc.Global.{Global}}}
use Rattle.serde_json.specs.{Data.{Data}, Read.{read}}
use Rattle.fm_base.specs.declared.refusal.Refusal.{Refusal, TheVariants.{BadJson, BadShape}}
use Rattle.fm_layout.specs.Tree.{Tree}
use Rattle.fm_ljson.specs.{Answer.{layout_if_read, layout_of_data, layout_of_json, layout_of_text, shaped}, Causes.{IsJsonOf}, Built.{OrMemory, built}}
use Rattle.fm_ljson.specs.{Counted.{AreSound}, Documents.{One, first_of}, Loops.{IsAt, IsBadShape}, Nodes.{first_broken, most_levels, most_nodes, nodes}}
use Rattle.fm_ljson.{specs.Refs.{none_known, unknown}, proofs.Building.{or_memory}}

-- What has a reading is answered as its value is.
pub value_read : (bytes : List ℕ) (d : Data) (r : Result Tree Refusal) → IsJsonOf bytes d → OrMemory r (layout_of_data d) → OrMemory r (layout_of_json bytes)
value_read bytes d r is h =
    or_memory r _ _
    (sym (ap (λ b. cond b (layout_if_read (read bytes)) (Err BadJson)) (is_utf8-from_IsUtf8 bytes is.utf8) ∙ ap layout_if_read is.reading)) h

unread_by : (bytes : List ℕ) (b : Bool) → is_utf8 bytes ≡ b → (IsUtf8 bytes → read bytes ≡ None)
    → Err BadJson ≡ cond b (layout_if_read (read bytes)) (Err BadJson)
unread_by bytes true e none = sym (ap layout_if_read (none (IsUtf8-from_is_utf8 bytes e)))
unread_by bytes false e none = refl

-- What has none is no JSON.
pub not_read : (bytes : List ℕ) → (IsUtf8 bytes → read bytes ≡ None) → Err BadJson ≡ layout_of_json bytes
not_read bytes none = unread_by bytes (is_utf8 bytes) refl none

pub not_so : (b : Bool) (P : Type 0) → (P → b ≡ true) → b ≡ false → ¬ P
not_so b P h e p = true≢false (sym (h p) ∙ e)

-- ---- a text that names no types

-- No name is in a set that is empty.
pub none_contained : (s : BTreeSet (String Global)) → s.keys ≡ [] → contains_text s ≡ none_known
none_contained s h = ap (λ (ks : List (String Global)). contains_text (record { keys = ks })) h

-- Nothing is known of any name in a map that is empty.
pub none_defined : {A : Type 0} (m : BTreeMap (String Global) A) → m.entries ≡ [] → get_by_text m ≡ unknown
none_defined {A} m h = ap (λ (es : List (String Global × A)). λ (name : List ℕ). lookup (is_at (text_cmp name)) es) h

one_shape : (known : List ℕ → Bool) (d : Data) (o : Option ℕ) → known ≡ none_known → first_broken known most_nodes 0 (nodes most_levels d) ≡ o
    → layout_of_text (One d) ≡ shaped o (built unknown most_levels d)
one_shape known d o none is =
    ap (λ p. shaped p (built unknown most_levels d)) (ap (λ f. first_broken f most_nodes 0 (nodes most_levels d)) (sym none) ∙ is)

pub one_built : (known : List ℕ → Bool) (trees : List ℕ → Option Tree) (d : Data) (m : ℕ) (r : Result Tree Refusal) → known ≡ none_known → trees ≡ unknown
    → AreSound known most_nodes 0 m (nodes most_levels d) → OrMemory r (built trees most_levels d) → OrMemory r (layout_of_text (One d))
one_built known trees d m r none nothing sound h =
    or_memory r _ _ (ap (λ f. built f most_levels d) nothing ∙ sym (one_shape known d None none sound.none)) h

pub one_refused : (known : List ℕ → Bool) (d : Data) (n : ℕ) → known ≡ none_known → first_broken known most_nodes 0 (nodes most_levels d) ≡ Some n
    → OrMemory (Err (BadShape n)) (layout_of_text (One d))
one_refused known d n none is = inr (sym (one_shape known d (Some n) none is))

-- ---- a text that names types

at_node : (o : Option ℕ) (r : Refusal) (made : Result Tree Refusal) → IsAt o r → Err r ≡ shaped o made
at_node None r made h = absurd h
at_node (Some n) r made h = ap Err h

first_at : (a b : Option ℕ) (r : Refusal) → IsAt a r → IsAt (first_of a b) r
first_at None b r h = absurd h
first_at (Some n) b r h = h

-- the node that is refused, unless memory ran out
refused_at : (o : Option ℕ) (r : Refusal) (made : Result Tree Refusal) → IsBadShape o r → OrMemory (Err r) (shaped o made)
refused_at o r made (inl h) = inl (ap Err h)
refused_at o r made (inr h) = inr (at_node o r made h)
