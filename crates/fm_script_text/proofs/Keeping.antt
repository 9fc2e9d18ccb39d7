-- What is kept of names is that of one line more.
use Rattle.std.proofs.Common.{◌≡◌, refl, sym, ap, subst, ◌∙◌, ℕ, ◌+◌, ◌≤◌, max, Bool, true, false, not, ◌||◌, if◌then◌else◌, Option, Some, None, List, [], ◌∷◌, ◌++◌, arith, ⊎_elim}
use Rattle.std.specs.{Prelude.{is_some, String, string_bytes}, BTreeMap.{BTreeMap}, BTreeSet.{BTreeSet}, Cmp.Lexicographic.{slice_cmp}, Ordering.{nat_cmp}}
use Rattle.std.{specs.{String.{string_cmp}, declared.alloc.Global.{Global}}, proofs.lemmas.Map.Text.{btree_map_updates_text, btree_set_updates_text}}
use Rattle.std.{specs.Str.{bytes_eq}, proofs.lemmas.{Bool.{cases_Bool, leb-true}, List.Folds.{list_any-append}, Slice.Eq.{bytes_eq-Decides}}}
use Rattle.std.specs.BTreeMap as tree
use Rattle.std.specs.BTreeSet as sorted
use Rattle.fm_script_text.{specs.declared.{thing.Thing.{Thing}, command.Command.{Command}, line.Line.{Line}, maker.Maker.{Maker}}, proofs.Taking.{passes_more}}
use Rattle.fm_script_text.specs.{declared.{names.Names.{Names}, who.Who.{Who}}, Knowing.{Knows, maker_at, is_spent_at, newer, spent_more}}
use Rattle.fm_script_text.specs.Rules.{Made, as_thing, IsAdmitted, made, given_back, maker_in, or_else, maker_of, is_this, is_given_back, is_new, phase, reached, pass_of, passes_of}

-- ---- makers

-- a line more makes what none before it made
pub maker_of-append : (name : List ℕ) (ls : List Line) (l : Line)
    → maker_of name (ls ++ l ∷ []) ≡ or_else (maker_of name ls) (maker_in l.who name (made l.command))
maker_of-append name [] l = alone (maker_in l.who name (made l.command))
  where
    alone : (o : Option Maker) → or_else o None ≡ o
    alone None = refl
    alone (Some m) = refl
maker_of-append name (m ∷ ls) l =
    ap (or_else (maker_in m.who name (made m.command))) (maker_of-append name ls l)
    ∙ flat (maker_in m.who name (made m.command)) (maker_of name ls) (maker_in l.who name (made l.command))
  where
    flat : (a b c : Option Maker) → or_else a (or_else b c) ≡ or_else (or_else a b) c
    flat None b c = refl
    flat (Some m) b c = refl

-- what is no maker is none
pub none_of : (o : Option Maker) → not (is_some o) ≡ true → o ≡ None
none_of None h = refl
none_of (Some x) h = absurd (cc)

-- nothing behind a maker changes it
none_behind : (o : Option Maker) → o ≡ or_else o None
none_behind None = refl
none_behind (Some m) = refl

-- a new name's maker is the line that makes it; the others keep theirs
newer_is : (who : Who) (m : Option Made) (name : List ℕ) (maker : List ℕ → Option Maker) → is_new maker m ≡ true
    → newer who m name (maker name) ≡ or_else (maker name) (maker_in who name m)
newer_is who None name maker new = none_behind (maker name)
newer_is who (Some m) name maker new = ⊎_elim
    (λ t.
    let same : m.name ≡ name = (bytes_eq-Decides m.name name).0 t in
    let none : maker name ≡ None = ap maker (sym same) ∙ none_of (maker m.name) new in
    rw (t, none) refl)
    (λ f. rw f (none_behind (maker name))) (cases_Bool (bytes_eq m.name name))

-- ---- what is given back

-- a name that was given back stays so
more : (b old : Bool) → (if b then true else old) ≡ (old || (b || false))
more true true = refl
more true false = refl
more false true = refl
more false false = refl

-- a line more gives back what it says
spent_is : (given : Option (List ℕ)) (name : List ℕ) (old : Bool) → spent_more given name old ≡ (old || (is_this name given || false))
spent_is None name true = refl
spent_is None name false = refl
spent_is (Some other) name old = more (bytes_eq other name) old

-- ---- phases

-- a line more comes to its phase, if that is later
pub reached_more : (ls : List Line) (l : Line) → reached (ls ++ l ∷ []) ≡ max (reached ls) (phase l.who)
reached_more [] l = omega arith
reached_more (m ∷ ls) l = ap (max (phase m.who)) (reached_more ls l) ∙ omega arith

-- the maps behind an admitted line are those of the lines with it
pub knows_more : (old new : Names) (before : List Line) (l : Line) (who : Who) (command : Command) → Knows old before → l.who ≡ who → l.command ≡ command
    → IsAdmitted before who command → ((name : List ℕ) → maker_at new name ≡ newer who (made command) name (maker_at old name))
    → ((name : List ℕ) → is_spent_at new name ≡ spent_more (given_back command) name (is_spent_at old name))
    → new.phase ≡ phase who → new.passes ≡ max old.passes (pass_of who + 1) → Knows new (before ++ l ∷ [])
knows_more old new before l who command knows is_who is_command admitted makers spent phases passes = record {
  makers = λ name. makers name ∙ ap (newer who (made command) name) (knows.makers name) ∙ newer_is who (made command) name (λ n. maker_of n before) admitted.new
      ∙ ap (or_else (maker_of name before)) (this name) ∙ sym (maker_of-append name before l);
  given_back = λ name. spent name ∙ ap (spent_more (given_back command) name) (knows.given_back name)
      ∙ spent_is (given_back command) name (is_given_back name before)
      ∙ ap (λ (c : Command). is_given_back name before || (is_this name (given_back c) || false)) (sym is_command)
      ∙ sym (list_any-append (λ (m : Line). is_this name (given_back m.command)) before (l ∷ []));
  phase = phases ∙ ap phase (sym is_who) ∙ highest (reached before) (phase l.who) (behind l.who is_who) ∙ sym (reached_more before l);
  passes = passes ∙ ap (λ (n : ℕ). max n (pass_of who + 1)) knows.passes ∙ ap (λ (w : Who). max (passes_of before) (pass_of w + 1)) (sym is_who)
      ∙ sym (passes_more before l);
}
  where
    this : (name : List ℕ) → maker_in who name (made command) ≡ maker_in l.who name (made l.command)
    this name = cc

    behind : (w : Who) → w ≡ who → reached before ≤ phase w
    behind w e = subst (λ (v : Who). reached before ≤ phase v) (sym e) (leb-true (reached before) (phase who) admitted.ordered)

    highest : (a b : ℕ) → a ≤ b → b ≡ max a b
    highest a b h = omega arith

-- ---- the map and the set

-- a map with one entry more knows the maker of its name, and the others' as before
pub made_more : (m n : BTreeMap (String Global) Maker) (key : String Global) (who : Who) (thing : Thing) (name : List ℕ) (command : Option Made)
    → tree.UpdatesBy string_cmp (λ k. slice_cmp nat_cmp (string_bytes key) (string_bytes k)) m n (Some (record { who = who; thing = thing }))
    → string_bytes key ≡ name → command ≡ as_thing name thing → (other : List ℕ) → tree.get_by_text n other ≡ newer who command other (tree.get_by_text m other)
made_more m n key who thing name command updates is makes other =
    btree_map_updates_text (string_bytes key) m n (Some (record { who = who; thing = thing })) updates other ∙ rw (is, makes) refl

-- a set with one more name has it, and the others as before
pub given_more : (s n : BTreeSet (String Global)) (key : String Global) (name : List ℕ) (command : Option (List ℕ))
    → sorted.UpdatesBy string_cmp (λ k. slice_cmp nat_cmp (string_bytes key) (string_bytes k)) s n true
    → string_bytes key ≡ name → command ≡ Some name → (other : List ℕ) → sorted.contains_text n other ≡ spent_more command other (sorted.contains_text s other)
given_more s n key name command updates is gives other =
    btree_set_updates_text (string_bytes key) s n true updates other ∙ rw (is, gives) refl
