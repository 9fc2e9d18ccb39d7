-- The numbers kept are those of one line more.
use Rattle.std.proofs.Common.{◌≡◌, refl, ap, ◌∙◌, ℕ, ◌+◌, Bool, true, false, if◌then◌else◌, Option, Some, None, List, [], ◌∷◌, ◌++◌, length, take, get_or, ◌<◌, arith, length-take}
use Rattle.std.{proofs.lemmas.List.{length-map, take_more}, specs.{BTreeMap.{BTreeMap}, Cmp.Lexicographic.{slice_cmp}, Ordering.{nat_cmp}}}
use Rattle.std.{specs.{Prelude.{String, string_bytes}, String.{string_cmp}, declared.alloc.Global.{Global}}, proofs.lemmas.Map.Text.{btree_map_updates_text}}
use Rattle.std.specs.Borrow.{Bor}
use Rattle.std.specs.BTreeMap as tree
use Rattle.fm_script_text.specs.{declared.{line.Line.{Line}, thing.Thing.{Thing}}, Rules.{Made, as_thing, made}}
use Rattle.fm_script_lines.{specs.{Numbers.{is_made, number_from, unless}, Ordering.{lines_at}}, proofs.Picking.{lines_at-push}}

-- A map with one entry more has the number of its name, and the others' as before.
pub number_more : (m n : BTreeMap (String Global) ℕ) (key : String Global) (number : ℕ) (thing : Thing) (name : List ℕ) (command : Option Made)
    → tree.UpdatesBy string_cmp (λ k. slice_cmp nat_cmp (string_bytes key) (string_bytes k)) m n (Some number)
    → string_bytes key ≡ name → command ≡ as_thing name thing → (other : List ℕ)
    → tree.get_by_text n other ≡ (if is_made other command then Some number else tree.get_by_text m other)
number_more m n key number thing name command updates is makes other =
    btree_map_updates_text (string_bytes key) m n (Some number) updates other ∙ rw (is, makes) refl

-- A line more makes its name.
pub number_from-push : (k : ℕ) (ls : List Line) (l : Line) (name : List ℕ)
    → number_from k (ls ++ l ∷ []) name ≡ (if is_made name (made l.command) then Some (k + length ls) else number_from k ls name)
number_from-push k [] l name = alone (is_made name (made l.command))
  where
    alone : (b : Bool) → unless None (if b then Some k else None) ≡ (if b then Some (k + 0) else None)
    alone true = ap (λ (n : ℕ). Some n) (omega arith)
    alone false = refl
number_from-push k (e ∷ ls) l name =
    ap (λ (o : Option ℕ). unless o (if is_made name (made e.command) then Some k else None)) (number_from-push (k + 1) ls l name)
    ∙ go (is_made name (made l.command))
  where
    go : (b : Bool) → unless (if b then Some (k + 1 + length ls) else number_from (k + 1) ls name) (if is_made name (made e.command) then Some k else None)
        ≡ (if b then Some (k + length (e ∷ ls)) else number_from k (e ∷ ls) name)
    go true = ap (λ (n : ℕ). Some n) (omega arith)
    go false = refl

-- So does the next of these lines.
pub number_from-next : (ls : List (Bor Line)) (k : ℕ) (l : Bor Line) (name : List ℕ) → k < length ls → get_or ls k l ≡ l
    → number_from 0 (lines_at (take (k + 1) ls)) name
    ≡ (if is_made name (made l.now.command) then Some k else number_from 0 (lines_at (take k ls)) name)
number_from-next ls k l name h is =
    let more : take (k + 1) ls ≡ take k ls ++ l ∷ [] = take_more ls k l h ∙ ap (λ (x : Bor Line). take k ls ++ x ∷ []) is in
    let long : 0 + length (lines_at (take k ls)) ≡ k =
    let t = length-take k ls in let m = length-map (take k ls) (λ (x : Bor Line). x.now) in omega (arith, t, m, h) in
    ap (λ (xs : List (Bor Line)). number_from 0 (lines_at xs) name) more
    ∙ (ap (λ (xs : List Line). number_from 0 xs name) (lines_at-push (take k ls) l)
    ∙ (number_from-push 0 (lines_at (take k ls)) l.now name
    ∙ ap (λ (n : ℕ). if is_made name (made l.now.command) then Some n else number_from 0 (lines_at (take k ls)) name) long))
