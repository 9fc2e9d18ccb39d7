-- The reader of a query's text, byte by byte: how far an item or a condition has been read, and what a byte does there.
use Rattle.std.specs.Prelude.{ℤ, pos, neg_ℤ, ℕ, ◌+◌, ◌-◌, ◌*◌, ◌^◌, ◌<◌, ◌≤◌, Bool, ◌&&◌, ◌||◌, not, Option, Some, None, List, [], ◌∷◌, ◌++◌, length, get_or, codes, if◌then◌else◌, nat_eq, nat_lt, nat_le}
use Rattle.fm_layout.specs.Name.{is_digit}
use Rattle.fm_path_text.specs.declared.{step.PathStep.{PathStep}, part.Part.{Part, TheVariants.{Between}}}
use Rattle.fm_path_text.specs.Machine as machine
use Rattle.fm_path_text.specs.Reader as path
use Rattle.fm_records_query.specs.declared.{fold.Fold.TheVariants.{Sum, Least, Greatest, All}, operator.Operator.{Operator}}
use Rattle.fm_records_query.specs.declared.{operator.Operator.TheVariants.{Equal, NotEqual, Below, AtMost, Above, AtLeast}, syntax.ItemSyntax.{ItemSyntax}}
use Rattle.fm_records_query.specs.declared.{syntax.{ItemSyntax.TheVariants.{Count, Of}, ConditionSyntax.{ConditionSyntax}}, word.Word.{Word}}
use Rattle.fm_records_query.specs.declared.{word.Word.TheVariants.{Counting, Folding}, number.Number.{Number, TheVariants.{Up, Down}}, stage.Role.{Role}}
use Rattle.fm_records_query.specs.declared.stage.{Role.TheVariants.{OfItem, OfCondition}, Stage.{Stage}}
use Rattle.fm_records_query.specs.declared.stage.{Stage.TheVariants.{Start, Spelling, InPath, Behind, Bang, Compare, Minus, Literal}, Turn.{Turn}}
use Rattle.fm_records_query.specs.{declared.stage.Turn.TheVariants.{Dead, Stay, NextItem, NextCondition}, Grammar.{Syntax, syntax, fold_text, most_parts}}

-- the word that begins an item, and the words between parts
abbrev pub word_text : Word → List ℕ
word_text Counting = codes "count"
word_text (Folding fold) = fold_text fold ++ codes "("

abbrev pub where_word : List ℕ
where_word = codes " where "

abbrev pub and_word : List ℕ
and_word = codes " and "

-- the first byte of an item: c s m l
abbrev pub starts : ℕ → Turn
starts b =
    if nat_eq b 99 then Stay (Spelling Counting 1)
    else (if nat_eq b 115 then Stay (Spelling (Folding Sum) 1)
    else (if nat_eq b 109 then Stay (Spelling (Folding Least) 1)
    else (if nat_eq b 108 then Stay (Spelling (Folding All) 1)
    else Dead)))

-- so many bytes of a word, or what comes behind all of it
abbrev pub spelled : Word → ℕ → Stage
spelled Counting n = if nat_eq n 5 then Behind Count 0 else Spelling Counting n
spelled (Folding fold) n = if nat_eq n (length (word_text (Folding fold))) then InPath (OfItem fold) [] Between else Spelling (Folding fold) n

-- min and max have their first byte in common
abbrev pub turns : Word → ℕ → ℕ → Turn
turns (Folding Least) n b = if nat_eq n 1 && nat_eq b 97 then Stay (Spelling (Folding Greatest) 2) else Dead
turns w n b = Dead

abbrev pub spells : Word → ℕ → ℕ → Turn
spells w n b = if nat_eq (get_or (word_text w) n 0) b then Stay (spelled w (n + 1)) else turns w n b

-- the bytes ! ) < = > stand in no path
abbrev pub is_mark : ℕ → Bool
is_mark b = nat_eq b 33 || (nat_eq b 41 || (nat_eq b 60 || (nat_eq b 61 || nat_eq b 62)))

-- such a byte behind a path, if that is whole
abbrev pub marks : Role → ℕ → Option (List PathStep) → Turn
marks role b None = Dead
marks (OfItem fold) b (Some p) = if nat_eq b 41 then Stay (Behind (Of fold p) 0) else Dead
marks OfCondition b (Some p) =
    if nat_eq b 61 then Stay (Compare p Equal)
    else (if nat_eq b 60 then Stay (Compare p Below)
    else (if nat_eq b 62 then Stay (Compare p Above)
    else (if nat_eq b 33 then Stay (Bang p)
    else Dead)))

abbrev pub goes : Role → Option path.Spot → Turn
goes role None = Dead
goes role (Some s) = Stay (InPath role s.done s.part)

abbrev pub in_path : Role → List PathStep → Part → ℕ → Turn
in_path role done part b =
    if is_mark b then marks role b (path.whole done part) else goes role (path.onward (Some (path.spot done part)) b)

-- behind a whole item and n bytes of where, with so many items before it: a comma, or where
abbrev pub behind : ℕ → ItemSyntax → ℕ → ℕ → Turn
behind items i n b =
    if nat_eq n 0 && nat_eq b 44 then (if nat_lt (items + 1) most_parts then NextItem i Start else Dead)
    else (if nat_eq (get_or where_word n 0) b
    then (if nat_eq n 6 then NextItem i (InPath OfCondition [] Between) else Stay (Behind i (n + 1)))
    else Dead)

-- an = that makes the operator longer
abbrev pub or_equal : List PathStep → Operator → Turn
or_equal p Below = Stay (Compare p AtMost)
or_equal p Above = Stay (Compare p AtLeast)
or_equal p operator = Dead

-- behind an operator: =, a minus or a digit
abbrev pub compares : List PathStep → Operator → ℕ → Turn
compares p o b =
    if nat_eq b 61 then or_equal p o
    else (if nat_eq b 45 then Stay (Minus p o)
    else (if is_digit b then Stay (Literal p o (Up (b - 48)) 0)
    else Dead))

-- a number below 0 begins with no zero
abbrev pub negates : List PathStep → Operator → ℕ → Turn
negates p o b = if is_digit b && not (nat_eq b 48) then Stay (Literal p o (Down (b - 48)) 0) else Dead

abbrev pub value_of : Number → ℤ
value_of (Up n) = pos n
value_of (Down n) = neg_ℤ (pos n)

-- a number with one more digit, if there is one
abbrev pub longer : Number → ℕ → Option Number
longer (Up n) d = if nat_eq n 0 then None else (if nat_lt (10 * n + d) (2 ^ 63) then Some (Up (10 * n + d)) else None)
longer (Down n) d = if nat_le (10 * n + d) (2 ^ 63) then Some (Down (10 * n + d)) else None

abbrev pub counts : List PathStep → Operator → Option Number → Turn
counts p o None = Dead
counts p o (Some n) = Stay (Literal p o n 0)

abbrev pub condition : List PathStep → Operator → Number → ConditionSyntax
condition p o n = record { path = p; operator = o; literal = value_of n }

-- in a condition's number, or behind it and n bytes of and, with so many conditions before it
abbrev pub in_literal : ℕ → List PathStep → Operator → Number → ℕ → ℕ → Turn
in_literal conditions p o m n b =
    if nat_eq n 0 && is_digit b then counts p o (longer m (b - 48))
    else (if nat_eq (get_or and_word n 0) b && nat_lt (conditions + 1) most_parts
    then (if nat_eq n 4 then NextCondition (condition p o m) (InPath OfCondition [] Between) else Stay (Literal p o m (n + 1)))
    else Dead)

-- what a byte does behind so many whole items and conditions
abbrev pub next : ℕ → ℕ → Stage → ℕ → Turn
next items conditions Start b = starts b
next items conditions (Spelling w n) b = spells w n b
next items conditions (InPath role done part) b = in_path role done part b
next items conditions (Behind i n) b = behind items i n b
next items conditions (Bang p) b = if nat_eq b 61 then Stay (Compare p NotEqual) else Dead
next items conditions (Compare p o) b = compares p o b
next items conditions (Minus p o) b = negates p o b
next items conditions (Literal p o m n) b = in_literal conditions p o m n b

-- the whole items and conditions read so far, and the stage of the next one
pub record Spot : Type 0 where
  pub items : List ItemSyntax
  pub conditions : List ConditionSyntax
  pub stage : Stage

abbrev pub spot : List ItemSyntax → List ConditionSyntax → Stage → Spot
spot items conditions stage = record { items = items; conditions = conditions; stage = stage }

abbrev pub moved : List ItemSyntax → List ConditionSyntax → Turn → Option Spot
moved items conditions Dead = None
moved items conditions (Stay to) = Some (spot items conditions to)
moved items conditions (NextItem i to) = Some (spot (items ++ i ∷ []) conditions to)
moved items conditions (NextCondition c to) = Some (spot items (conditions ++ c ∷ []) to)

-- where a byte leads from here
abbrev pub reads : Spot → ℕ → Option Spot
reads s byte = moved s.items s.conditions (next (length s.items) (length s.conditions) s.stage byte)

-- where the bytes lead, unless one of them is refused
abbrev pub run : List ℕ → Option Spot → Option Spot
run = machine.run reads

abbrev pub start : Option Spot
start = Some (spot [] [] Start)

-- the query that has been read, if it is whole
abbrev pub whole_at : List ItemSyntax → List ConditionSyntax → Stage → Option Syntax
whole_at items conditions (Behind i n) = if nat_eq n 0 then Some (syntax (items ++ i ∷ []) conditions) else None
whole_at items conditions (Literal p o m n) = if nat_eq n 0 then Some (syntax items (conditions ++ condition p o m ∷ [])) else None
whole_at items conditions stage = None

abbrev pub whole : Spot → Option Syntax
whole s = whole_at s.items s.conditions s.stage

-- a number that a literal may write
abbrev pub IsNumber : Number → Type 0
IsNumber (Up n) = n < 2 ^ 63
IsNumber (Down n) = (0 < n) × (n ≤ 2 ^ 63)

-- what a byte may be read in
abbrev pub IsReady : Stage → Type 0
IsReady (Spelling w n) = n < length (word_text w)
IsReady (InPath role done part) = (length done ≤ 64) × path.IsBounded part
IsReady (Behind i n) = n < 7
IsReady (Literal p o m n) = IsNumber m × (n < 5)
IsReady stage = Unit {0}

pub record IsReadySpot (s : Spot) : Type 0 where
  pub items : length s.items ≤ most_parts
  pub conditions : length s.conditions ≤ most_parts
  pub stage : IsReady s.stage
