-- The text that a stage of the reader shows, and what holds there.
use Rattle.std.proofs.Common.{◌≡◌, sym, ap, ℕ, ◌+◌, ◌<◌, ◌≤◌, Some, true, false, nat_eq, List, [], ◌∷◌, ◌++◌, length, take, get_or, arith, ◌∙◌}
use Rattle.std.{specs.{Prelude.{codes}, List.{AllByRecursion, join_by, flat_map}}, proofs.lemmas.Bool.{eqb-true, Decides.{nat_tests}}}
use Rattle.std.proofs.lemmas.List.{append_assoc, append-nil, take_more, take_all}
use Rattle.fm_path_text.specs.declared.{step.PathStep.{PathStep}, part.Part.{Part}}
use Rattle.fm_path_text.specs.Grammar as path
use Rattle.fm_path_text.specs.Reader as path_reader
use Rattle.fm_path_text.proofs.Moves as path_moves
use Rattle.fm_records_query.specs.declared.{syntax.{ItemSyntax.{ItemSyntax}, ConditionSyntax.{ConditionSyntax}}, word.Word.TheVariants.{Folding}}
use Rattle.fm_records_query.specs.declared.stage.{Role.TheVariants.{OfItem, OfCondition}, Stage.{Stage}}
use Rattle.fm_records_query.specs.declared.stage.{Stage.TheVariants.{Start, Spelling, InPath, Behind, Bang, Compare, Minus, Literal}, Turn.{Turn}}
use Rattle.fm_records_query.specs.declared.stage.Turn.TheVariants.{Dead, Stay, NextItem, NextCondition}
use Rattle.fm_records_query.specs.Grammar.{item_text, condition_text, operator_text, IsItem, IsCondition}
use Rattle.fm_records_query.specs.Reader.{word_text, where_word, and_word, condition, IsNumber, Spot}

-- texts, each with a separator behind it
abbrev pub led : {A : Type 0} → (A → List ℕ) → List ℕ → List A → List ℕ
led f sep [] = []
led f sep (x ∷ xs) = f x ++ (sep ++ led f sep xs)

-- one more text with a separator behind it
pub led_snoc : {A : Type 0} (f : A → List ℕ) (sep : List ℕ) (xs : List A) (x : A) → led f sep (xs ++ x ∷ []) ≡ led f sep xs ++ (f x ++ sep)
led_snoc f sep [] x = simp append-nil
led_snoc f sep (y ∷ ys) x = simp (led_snoc f sep ys x, append_assoc)

-- texts that each have a separator before them
flat_led : {A : Type 0} (f : A → List ℕ) (sep : List ℕ) (xs : List A) (x : A) → flat_map (λ y. sep ++ f y) (xs ++ x ∷ []) ≡ sep ++ (led f sep xs ++ f x)
flat_led f sep [] x = append-nil (sep ++ f x)
flat_led f sep (y ∷ ys) x = simp (flat_led f sep ys x, append_assoc)

-- texts with separators between them, the last one apart
pub join_led : {A : Type 0} (f : A → List ℕ) (sep : List ℕ) (xs : List A) (x : A) → join_by f sep (xs ++ x ∷ []) ≡ led f sep xs ++ f x
join_led f sep [] x = append-nil (f x)
join_led f sep (y ∷ ys) x = simp (flat_led f sep ys x, append_assoc)

-- a path as far as it has been read
abbrev pub so_far : List PathStep → Part → List ℕ
so_far done part = path.pieces_of done ++ path_moves.shown part

abbrev pub items_led : List ItemSyntax → List ℕ
items_led is = led item_text (codes ",") is

abbrev pub conditions_led : List ItemSyntax → List ConditionSyntax → List ℕ
conditions_led is cs = join_by item_text (codes ",") is ++ (codes " where " ++ led condition_text (codes " and ") cs)

-- the text before the item or condition that is read
abbrev pub base : List ItemSyntax → List ConditionSyntax → Stage → List ℕ
base is cs Start = items_led is
base is cs (Spelling w n) = items_led is
base is cs (InPath (OfItem fold) done part) = items_led is
base is cs (Behind i n) = items_led is
base is cs s = conditions_led is cs

-- the text of that item or condition so far
abbrev pub own : Stage → List ℕ
own Start = []
own (Spelling w n) = take n (word_text w)
own (InPath (OfItem fold) done part) = word_text (Folding fold) ++ so_far done part
own (InPath OfCondition done part) = so_far done part
own (Behind i n) = item_text i ++ take n where_word
own (Bang p) = path.path_text p ++ codes "!"
own (Compare p o) = path.path_text p ++ operator_text o
own (Minus p o) = path.path_text p ++ (operator_text o ++ codes "-")
own (Literal p o m n) = condition_text (condition p o m) ++ take n and_word

-- there is room for one more item, and no condition yet
pub record IsAtItem (is : List ItemSyntax) (cs : List ConditionSyntax) : Type 0 where
  pub few : length is < 16
  pub no_condition : cs ≡ []

-- there is an item, and room for so many conditions
pub record IsAtCondition (is : List ItemSyntax) (cs : List ConditionSyntax) (more : ℕ) : Type 0 where
  pub some : 0 < length is
  pub few_items : length is ≤ 16
  pub few : length cs + more ≤ 16

abbrev pub IsCounted : List ItemSyntax → List ConditionSyntax → Stage → Type 0
IsCounted is cs Start = IsAtItem is cs
IsCounted is cs (Spelling w n) = IsAtItem is cs
IsCounted is cs (InPath (OfItem fold) done part) = IsAtItem is cs
IsCounted is cs (Behind i n) = IsAtItem is cs
IsCounted is cs (Literal p o m n) = IsAtCondition is cs 1 × (0 < n → length cs + 2 ≤ 16)
IsCounted is cs s = IsAtCondition is cs 1

abbrev pub IsLive : Stage → Type 0
IsLive Start = Unit {0}
IsLive (Spelling w n) = n < length (word_text w)
IsLive (InPath role done part) = path_reader.run (so_far done part) path_reader.start ≡ Some (path_reader.spot done part)
IsLive (Behind i n) = IsItem i × (n < 7)
IsLive (Bang p) = path.IsPath p
IsLive (Compare p o) = path.IsPath p
IsLive (Minus p o) = path.IsPath p
IsLive (Literal p o m n) = path.IsPath p × IsNumber m × (n < 5)

-- what was read is what the stage shows
pub record HasRead (text : List ℕ) (is : List ItemSyntax) (cs : List ConditionSyntax) (s : Stage) : Type 0 where
  pub spelled : text ≡ base is cs s ++ own s
  pub items : AllByRecursion IsItem is
  pub conditions : AllByRecursion IsCondition cs
  pub counted : IsCounted is cs s
  pub live : IsLive s

abbrev pub HasReadTo : List ℕ → Spot → Type 0
HasReadTo text s = HasRead text s.items s.conditions s.stage

-- what a turn leaves, where byte b was read
abbrev pub Leaves : List ItemSyntax → List ConditionSyntax → Stage → ℕ → Turn → Type 0
Leaves is cs s b Dead = Unit {0}
Leaves is cs s b (Stay t) = (base is cs s ≡ base is cs t) × (own s ++ b ∷ [] ≡ own t) × IsCounted is cs t × IsLive t
Leaves is cs s b (NextItem i t) = (base is cs s ++ (own s ++ b ∷ []) ≡ base (is ++ i ∷ []) cs t ++ own t) × IsItem i × IsCounted (is ++ i ∷ []) cs t × IsLive t
Leaves is cs s b (NextCondition c t) = (base is cs s ++ (own s ++ b ∷ []) ≡ base is (cs ++ c ∷ []) t ++ own t) × IsCondition c × IsCounted is (cs ++ c ∷ []) t
    × IsLive t

-- one more byte of a text
pub longer_take : (xs : List ℕ) (n b : ℕ) → n < length xs → nat_eq (get_or xs n 0) b ≡ true → take n xs ++ b ∷ [] ≡ take (n + 1) xs
longer_take xs n b lt h = ap (λ x. take n xs ++ x ∷ []) (sym (eqb-true (get_or xs n 0) b h)) ∙ sym (take_more xs n 0 lt)

-- a word with its last byte
pub whole_take : (xs : List ℕ) (n b : ℕ) → n < length xs → nat_eq (get_or xs n 0) b ≡ true → n + 1 ≡ length xs → take n xs ++ b ∷ [] ≡ xs
whole_take xs n b lt h e = longer_take xs n b lt h ∙ take_all (n + 1) xs (omega (arith, e))

-- a number up to another that the test finds different is below it
pub below : (a b : ℕ) → a ≤ b → nat_eq a b ≡ false → a < b
below a b le e = grind (arith, nat_tests)
