-- Types are gone through from the first to the last, and none is built.
use Rattle.std.proofs.Common.{◌≡◌, inl, inr, ℕ, ◌+◌, ◌<◌, ◌≤◌, Bool, true, false, cond, List, [], ◌∷◌, Option, Some, None, IfSome, Result, Err, refl, sym, ap, subst, ◌∙◌, arith, bytes_eq, option_and_then, true≢false}
use Rattle.std.{specs.Prelude.{nat_lt, is_some, option_copied}, proofs.{Math.Path.{fun_ext}, lemmas.{Bool.Decides.{nat_tests}, Option.{none-some, same_Some}, Slice.Eq.{bytes_eq-Decides}}}}
use Rattle.serde_json.specs.{Data.{Data}, View.{view}}
use Rattle.fm_base.specs.declared.refusal.Refusal.{Refusal, TheVariants.{Memory}}
use Rattle.fm_layout.specs.Tree.{Tree}
use Rattle.fm_ljson.specs.{Built.{OrMemory, built, built_behind, renamed, then}, Footprints.{IsRefusedSo}, Nodes.{most_written_levels, most_written_nodes}}
use Rattle.fm_ljson.specs.Documents.{Entry, Numbered, Parts, at_entry, behind, broken_at, entry_of, first_broken_of, first_of, new_entry, parts_at, parts_from, unless_known}
use Rattle.fm_ljson.specs.Known.{AreBelow, AreKnown, AreNew, AreSafe, CanBuild, IsKnown, IsKnownIfAny, IsLearnt, IsSafe, earlier, seen}
use Rattle.fm_ljson.specs.{Loops.{AreParts}, Refs.{also_known, knowing, none_known, unknown}, declared.known.Known.{Known}}
use Rattle.fm_ljson.proofs.{Building.{or_memory}, Entries.{new_entry-says}, Knowing.{all_earlier}}

-- ---- no name is defined twice

none_first : (a b : Option ℕ) → first_of a b ≡ None → b ≡ None
none_first None b h = h
none_first (Some n) b h = absurd (none-some n (sym h))

unless_new : (known : List ℕ → Bool) (b : Bool) (e f : Entry) → known f.name ≡ b → cond b None (Some f) ≡ Some e → known e.name ≡ false
unless_new known true e f is h = absurd (none-some e h)
unless_new known false e f is h = ap (λ (x : Entry). known x.name) (sym (same_Some f e h)) ∙ is

new_by : (known : List ℕ → Bool) (o : Option Entry) (e : Entry) → option_and_then (unless_known known) o ≡ Some e → known e.name ≡ false
new_by known None e h = absurd (none-some e h)
new_by known (Some f) e h = unless_new known (known f.name) e f refl h

new_at : (b : Bool) (known : List ℕ → Bool) (o : Option Entry) (e : Entry) → cond b (option_and_then (unless_known known) o) None ≡ Some e
    → known e.name ≡ false
new_at true known o e h = new_by known o e h
new_at false known o e h = absurd (none-some e h)

abbrev RestIsNew : List Data → Data → Type 0
RestIsNew ds layout = (known : List ℕ → Bool) (n : ℕ) → first_broken_of known n ds layout ≡ None → AreNew known (parts_from n ds).entries

entry_new : (ds : List Data) (layout : Data) → RestIsNew ds layout → (known : List ℕ → Bool) (n : ℕ) (d : Data) (o p : Option Entry)
    → new_entry known n d ≡ o → entry_of d ≡ p
    → at_entry n o (λ e. first_of (broken_at known (n + 1) e.layout) (first_broken_of (also_known e.name known) (behind (n + 1) e.layout) ds layout)) ≡ None
    → AreNew known (parts_at n p (λ m. parts_from m ds)).entries
entry_new ds layout rest known n d None p is says h = absurd (none-some n (sym h))
entry_new ds layout rest known n d (Some e) None is says h = absurd (none-some e (sym says ∙ new_entry-says known n d e is))
entry_new ds layout rest known n d (Some e) (Some f) is says h =
    let same : e ≡ f = same_Some e f (sym (new_entry-says known n d e is) ∙ says) in
    let left = none_first (broken_at known (n + 1) e.layout) _ h in
    subst (λ (x : Entry). AreNew known (parts_at n (Some x) (λ m. parts_from m ds)).entries) same
    (new_at (nat_lt n most_written_nodes) known (entry_of d) e is, rest (also_known e.name known) (behind (n + 1) e.layout) left)

entries_new : (ds : List Data) (layout : Data) → RestIsNew ds layout
entries_new [] layout known n h = tt
entries_new (d ∷ ds) layout known n h = entry_new ds layout (entries_new ds layout) known n d (new_entry known n d) (entry_of d) refl refl h

-- Where no written rule is broken, each entry's name is a new one.
pub parts_new : (types : List Data) (layout : Data) (parts : Parts) → AreParts types layout parts → AreNew none_known parts.entries
parts_new types layout parts are =
    subst (λ (p : Parts). AreNew none_known p.entries) (sym are.same) (entries_new types layout none_known 1 are.none)

-- ---- no types

pub none_to_build : (types : List ℕ → Option Known) → types ≡ unknown → CanBuild types
none_to_build types is =
    let none : CanBuild unknown = record { safe = λ name. tt; trees = unknown; known = λ name. tt } in subst CanBuild (sym is) none

pub none_to_know : (types : List ℕ → Option Known) → types ≡ unknown → AreKnown types unknown
none_to_know types is =
    let none : AreKnown unknown unknown = λ name. tt in subst (λ (ts : List ℕ → Option Known). AreKnown ts unknown) (sym is) none

pub none_earlier : (types : List ℕ → Option Known) → types ≡ unknown → earlier 0 types unknown ≡ unknown
none_earlier types is = ap (λ (ts : List ℕ → Option Known). earlier 0 ts unknown) is

-- ---- one more type

abbrev pub is_known : (List ℕ → Option Known) → List ℕ → Bool
is_known types name = is_some (types name)

none_by : {A : Type 0} (o : Option A) → is_some o ≡ false → o ≡ None
none_by None h = refl
none_by (Some a) h = absurd (true≢false h)

-- the types so far are known, their names are none of those left, and the layout is built behind these
pub record IsLearning (types : List ℕ → Option Known) (n : ℕ) (all rest : List Numbered) (layout : Data) : Type 0 where
  pub trees : List ℕ → Option Tree
  pub known : AreKnown types trees
  pub safe : AreSafe types
  pub below : AreBelow n types
  pub new : AreNew (is_known types) rest
  pub same : built_behind unknown all layout ≡ built_behind trees rest layout

pub learning_start : (types : List ℕ → Option Known) (es : List Numbered) (layout : Data) → types ≡ unknown → AreNew none_known es
    → IsLearning types 0 es es layout
learning_start types es layout is new =
    let start : IsLearning unknown 0 es es layout =
    record { trees = unknown; known = λ name. tt; safe = λ name. tt; below = λ name. tt; new = new; same = refl } in
    subst (λ (ts : List ℕ → Option Known). IsLearning ts 0 es es layout) (sym is) start

module _ (types : List ℕ → Option Known) (trees : List ℕ → Option Tree) (name : List ℕ) (n : ℕ) (k : Known) (t : Tree)
    (place : k.place ≡ n) (fresh : types name ≡ None) where
  abbrev types' : List ℕ → Option Known
  types' = knowing name k types

  abbrev trees' : List ℕ → Option Tree
  trees' = knowing name t trees

  unseen : (m : ℕ) → m ≤ n → seen m (Some k) (Some t) ≡ None
  unseen m low =
      let no : nat_lt k.place m ≡ false = grind (arith, nat_tests, low, place) in ap (λ b. cond b (Some t) None) no

  same_at : (m : ℕ) → m ≤ n → (other : List ℕ) (b : Bool) → bytes_eq name other ≡ b
      → seen m (cond b (Some k) (types other)) (cond b (Some t) (trees other)) ≡ seen m (types other) (trees other)
  same_at m low other false is = refl
  same_at m low other true is =
      let here : name ≡ other = (bytes_eq-Decides name other).0 is in
      unseen m low ∙ ap (λ o. seen m o (trees other)) (sym (ap types (sym here) ∙ fresh))

  -- What is known of the types before is as before.
  earlier_same : (m : ℕ) → m ≤ n → earlier m types' trees' ≡ earlier m types trees
  earlier_same m low = fun_ext (λ other. same_at m low other (bytes_eq name other) refl)

  kept : (j : Known) (u : Tree) → j.before ≤ n → IsKnown types trees j u → IsKnown types' trees' j u
  kept j u low h = record {
    made = ap (λ f. renamed (option_copied j.name) (built f most_written_levels (view j.layout.now))) (earlier_same j.before low) ∙ h.made;
    footprint = h.footprint;
  }

  kept_if_any : (o : Option Known) (p : Option Tree) → IfSome o IsSafe → IfSome o (λ j. j.place < n) → IsKnownIfAny types trees o p
      → IsKnownIfAny types' trees' o p
  kept_if_any None None safe low h = h
  kept_if_any None (Some u) safe low h = h
  kept_if_any (Some j) None safe low h = h
  kept_if_any (Some j) (Some u) safe low h = kept j u (omega (arith, safe.before, low)) h

  known_at : (b : Bool) (o : Option Known) (p : Option Tree) → IsKnown types' trees' k t → IsKnownIfAny types' trees' o p
      → IsKnownIfAny types' trees' (cond b (Some k) o) (cond b (Some t) p)
  known_at true o p h g = h
  known_at false o p h g = g

  all_known : AreKnown types trees → AreSafe types → AreBelow n types → IsSafe k → IsKnown types trees k t → AreKnown types' trees'
  all_known known safe below is h other =
      known_at (bytes_eq name other) (types other) (trees other) (kept k t (omega (arith, is.before, place)) h)
      (kept_if_any (types other) (trees other) (safe other) (below other) (known other))

some_at : (P : Known → Type 0) (b : Bool) (k : Known) (o : Option Known) → P k → IfSome o P → IfSome (cond b (Some k) o) P
some_at P true k o h g = h
some_at P false k o h g = g

below_more : (n : ℕ) (o : Option Known) → IfSome o (λ k. k.place < n) → IfSome o (λ k. k.place < n + 1)
below_more n None h = tt
below_more n (Some k) h = omega (arith, h)

known_name : (b : Bool) (k : Known) (o : Option Known) → cond b true (is_some o) ≡ is_some (cond b (Some k) o)
known_name true k o = refl
known_name false k o = refl

learning_with : (types : List ℕ → Option Known) (n : ℕ) (all es : List Numbered) (e : Numbered) (layout : Data) (k : Known)
    → IsLearning types n all (e ∷ es) layout → IsSafe k → k.place ≡ n
    → ((trees : List ℕ → Option Tree) → AreKnown types trees → IsLearnt types trees k (built trees most_written_levels e.layout))
    → IsLearning (knowing e.name k types) (n + 1) all es layout
learning_with types n all es e layout k l safe place h =
    let learnt = h l.trees l.known in
    let fresh : types e.name ≡ None = none_by (types e.name) l.new.0 in
    let top : k.place < n + 1 = omega (arith, place) in
    let names : also_known e.name (is_known types) ≡ is_known (knowing e.name k types) =
    fun_ext (λ other. known_name (bytes_eq e.name other) k (types other)) in
    record {
      trees = knowing e.name learnt.tree l.trees;
      known = all_known types l.trees e.name n k learnt.tree place fresh l.known l.safe l.below safe learnt.known;
      safe = λ other. some_at IsSafe (bytes_eq e.name other) k (types other) safe (l.safe other);
      below = λ other. some_at (λ (j : Known). j.place < n + 1) (bytes_eq e.name other) k (types other) top (below_more n (types other) (l.below other));
      new = subst (λ (f : List ℕ → Bool). AreNew f es) names l.new.1;
      same = l.same ∙ ap (then (λ t. built_behind (knowing e.name t l.trees) es layout)) learnt.there;
    }

-- One more type is known.
pub learning_more : (types new : List ℕ → Option Known) (n : ℕ) (all es : List Numbered) (e : Numbered) (layout : Data) (k : Known)
    → IsLearning types n all (e ∷ es) layout → IsSafe k → k.place ≡ n
    → ((trees : List ℕ → Option Tree) → AreKnown types trees → IsLearnt types trees k (built trees most_written_levels e.layout))
    → ((other : List ℕ) → new other ≡ knowing e.name k types other) → IsLearning new (n + 1) all es layout
learning_more types new n all es e layout k l safe place h defined =
    subst (λ (ts : List ℕ → Option Known). IsLearning ts (n + 1) all es layout) (sym (fun_ext defined))
    (learning_with types n all es e layout k l safe place h)

-- Behind all types the layout is built.
pub learning_end : (types : List ℕ → Option Known) (n m : ℕ) (all rest : List Numbered) (layout : Data) (r : Result Tree Refusal)
    → IsLearning types n all rest layout → rest ≡ [] → n ≡ m
    → ((trees : List ℕ → Option Tree) → AreKnown types trees → OrMemory r (built (earlier m types trees) most_written_levels layout))
    → OrMemory r (built_behind unknown all layout)
learning_end types n m all rest layout r l none same h =
    or_memory r _ _
    (ap (λ k. built (earlier k types l.trees) most_written_levels layout) (sym same)
    ∙ ap (λ f. built f most_written_levels layout) (all_earlier types l.trees l.known n l.below)
    ∙ sym (l.same ∙ ap (λ es. built_behind l.trees es layout) none)) (h l.trees l.known)
