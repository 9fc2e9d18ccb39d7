-- What the words of a line are read as.
use Rattle.std.specs.Prelude.{ℤ, pos, negsuc, neg_ℤ, ℕ, ◌==◌, Bool, false, ◌&&◌, ◌||◌, if◌then◌else◌, nat_lt, nat_le, Option, Some, None, List, [], ◌∷◌, length, codes, bytes_eq, find}
use Rattle.std.specs.{List.{list_all}, Fmt.{decimal, signed_decimal}, Option.{option_zip, option_map, option_and_then}, Str.Parse.{digits_value}}
use Rattle.fm_base.specs.declared.kind.Kind.{Kind}
use Rattle.fm_base.specs.declared.kind.Kind.TheVariants as kind
use Rattle.fm_lanes.specs.declared.{order.Order.{Order, TheVariants.{Little, Big}}, value_kind.ValueKind.{ValueKind}}
use Rattle.fm_lanes.specs.declared.value_kind.ValueKind.TheVariants.{Byte, Boolean, Char, Short, Int, Long}
use Rattle.fm_layout.specs.Name.{is_letter, is_digit}
use Rattle.fm_words.specs.declared.shape.Shape.{Shape}
use Rattle.fm_script_text.specs.declared.{cell.Cell.{Cell}, close_by.CloseBy.TheVariants.{Visits, Polls}, command.Command.{Command}}
use Rattle.fm_script_text.specs.declared.command.Command.TheVariants.{Open, Alloc, Slice, Readonly, Get, Set, Add, Cas, Fill, Copy, Mismatch, Alive, Hold, Unhold, Again, Back, Close}
use Rattle.fm_script_text.specs.declared.who.Who.{Who, TheVariants.{First, Worker, Last}}
use Rattle.fm_script_text.specs.Syntax.{above, below, most, most_workers, arena_kind_text, type_text}

-- ---- words

abbrev pub onto : ℕ → Option (List ℕ × List ℕ) → Option (List ℕ × List ℕ)
onto b None = None
onto b (Some (word, rest)) = Some (b ∷ word, rest)

-- what stands before the first space, and behind it
abbrev pub cut : List ℕ → Option (List ℕ × List ℕ)
cut [] = None
cut (b ∷ bs) = if b == 32 then Some ([], bs) else onto b (cut bs)

-- the test of names
abbrev pub is_name : List ℕ → Bool
is_name [] = false
is_name (c ∷ cs) = is_letter c && (list_all (λ b. is_letter b || is_digit b) cs && nat_le (length (c ∷ cs)) 64)

-- the name that a word is
abbrev pub name_named : List ℕ → Option (List ℕ)
name_named word = if is_name word then Some word else None

-- the number up to this one that a word spells
abbrev pub number_named : ℕ → List ℕ → Option ℕ
number_named most word =
    if bytes_eq word (decimal (digits_value 10 word)) && nat_le (digits_value 10 word) most then Some (digits_value 10 word) else None

-- the test of a kind's numbers
abbrev pub is_of_kind : ValueKind → ℤ → Bool
is_of_kind kind (pos n) = nat_lt n (above kind)
is_of_kind kind (negsuc n) = nat_lt n (below kind)

-- the number that digits write, or a minus and digits
abbrev pub number_value : List ℕ → ℤ
number_value [] = pos 0
number_value (c ∷ cs) = if c == 45 then neg_ℤ (pos (digits_value 10 cs)) else pos (digits_value 10 (c ∷ cs))

-- the number of this kind that a word spells
abbrev pub literal_named : ValueKind → List ℕ → Option ℤ
literal_named kind word =
    if bytes_eq word (signed_decimal (number_value word)) && is_of_kind kind (number_value word) then Some (number_value word) else None

-- the kind of arena that a word names
abbrev pub arena_kind_named : List ℕ → Option Kind
arena_kind_named word = find (λ k. bytes_eq word (arena_kind_text k)) (kind.Global ∷ kind.Automatic ∷ kind.Confined ∷ kind.Shared ∷ [])

abbrev pub both_orders : ValueKind → List (ValueKind × Order) → List (ValueKind × Order)
both_orders kind types = (kind, Little) ∷ (kind, Big) ∷ types

-- the types in their order
abbrev pub types : List (ValueKind × Order)
types = both_orders Byte (both_orders Boolean (both_orders Char (both_orders Short (both_orders Int (both_orders Long [])))))

-- the type that a word names
abbrev pub type_named : List ℕ → Option (ValueKind × Order)
type_named word = find (λ t. bytes_eq word (type_text t.0 t.1)) types

abbrev pub worker : Option ℕ → Option Who
worker None = None
worker (Some n) = if n == 0 then None else Some (Worker n)

-- who runs a line that begins with this word
abbrev pub who_named : List ℕ → Option Who
who_named word =
    if bytes_eq word (codes "first") then Some First
    else (if bytes_eq word (codes "last") then Some Last else worker (number_named most_workers word))

-- ---- words in a row

abbrev pub in_front2 : List ℕ → Option (List ℕ × List ℕ) → Option (List ℕ × List ℕ × List ℕ)
in_front2 a None = None
in_front2 a (Some r) = Some (a, r.0, r.1)

abbrev pub in_front3 : List ℕ → Option (List ℕ × List ℕ × List ℕ) → Option (List ℕ × List ℕ × List ℕ × List ℕ)
in_front3 a None = None
in_front3 a (Some r) = Some (a, r.0, r.1, r.2)

abbrev pub in_front4 : List ℕ → Option (List ℕ × List ℕ × List ℕ × List ℕ) → Option (List ℕ × List ℕ × List ℕ × List ℕ × List ℕ)
in_front4 a None = None
in_front4 a (Some r) = Some (a, r.0, r.1, r.2, r.3)

-- what stands before the first two spaces, and behind them; and before three, and four
abbrev pub cut3 : List ℕ → Option (List ℕ × List ℕ × List ℕ)
cut3 text = option_and_then (λ x. in_front2 x.0 (cut x.1)) (cut text)

abbrev pub cut4 : List ℕ → Option (List ℕ × List ℕ × List ℕ × List ℕ)
cut4 text = option_and_then (λ x. in_front3 x.0 (cut3 x.1)) (cut text)

abbrev pub cut5 : List ℕ → Option (List ℕ × List ℕ × List ℕ × List ℕ × List ℕ)
cut5 text = option_and_then (λ x. in_front4 x.0 (cut4 x.1)) (cut text)

-- ---- arguments

-- NAME KIND
abbrev pub opening : List ℕ → Option (List ℕ × Kind)
opening text = option_and_then (λ x. option_zip (name_named x.0) (arena_kind_named x.1)) (cut text)

-- two names
abbrev pub two : List ℕ → Option (List ℕ × List ℕ)
two text = option_and_then (λ x. option_zip (name_named x.0) (name_named x.1)) (cut text)

-- SEG BYTE
abbrev pub filled : List ℕ → Option (List ℕ × ℕ)
filled text = option_and_then (λ x. option_zip (name_named x.0) (number_named 255 x.1)) (cut text)

-- two names and two numbers
abbrev pub sized : List ℕ → Option ((List ℕ × List ℕ) × (ℕ × ℕ))
sized text =
    option_and_then (λ x. option_zip (option_zip (name_named x.0) (name_named x.1)) (option_zip (number_named most x.2) (number_named most x.3))) (cut4 text)

abbrev pub cell_of : List ℕ × ((ValueKind × Order) × ℕ) → Cell
cell_of x = record { segment = x.0; kind = x.1.0.0; order = x.1.0.1; offset = x.1.1 }

-- SEG TYPE OFFSET, word by word
abbrev pub cell_named : List ℕ → List ℕ → List ℕ → Option Cell
cell_named segment kind offset = option_map cell_of (option_zip (name_named segment) (option_zip (type_named kind) (number_named most offset)))

abbrev pub with_value : Option Cell → List ℕ → Option (Cell × ℤ)
with_value None value = None
with_value (Some c) value = option_map (λ v. (c, v)) (literal_named c.kind value)

abbrev pub with_two : Option Cell → List ℕ → List ℕ → Option (Cell × ℤ × ℤ)
with_two None old new = None
with_two (Some c) old new = option_map (λ v. (c, v.0, v.1)) (option_zip (literal_named c.kind old) (literal_named c.kind new))

-- SEG TYPE OFFSET
abbrev pub got : List ℕ → Option Cell
got text = option_and_then (λ x. cell_named x.0 x.1 x.2) (cut3 text)

-- SEG TYPE OFFSET VALUE
abbrev pub valued : List ℕ → Option (Cell × ℤ)
valued text = option_and_then (λ x. with_value (cell_named x.0 x.1 x.2) x.3) (cut4 text)

-- SEG TYPE OFFSET OLD NEW
abbrev pub swapped : List ℕ → Option (Cell × ℤ × ℤ)
swapped text = option_and_then (λ x. with_two (cell_named x.0 x.1 x.2) x.3 x.4) (cut5 text)

-- ---- commands

-- what they ask for of an arena, a hold or a handle
abbrev pub arena_command : List ℕ → List ℕ → Option Command
arena_command verb args =
    if bytes_eq verb (codes "alive") then option_map (λ a. Alive a) (name_named args)
    else (if bytes_eq verb (codes "hold") then option_map (λ x. Hold x.0 x.1) (two args)
    else (if bytes_eq verb (codes "unhold") then option_map (λ h. Unhold h) (name_named args)
    else (if bytes_eq verb (codes "again") then option_map (λ x. Again x.0 x.1) (two args)
    else (if bytes_eq verb (codes "back") then option_map (λ h. Back h) (name_named args)
    else (if bytes_eq verb (codes "close") then option_map (λ a. Close a Visits) (name_named args)
    else (if bytes_eq verb (codes "closepoll") then option_map (λ a. Close a Polls) (name_named args)
    else None))))))

-- what they ask for of the bytes of a segment, or of an arena
abbrev pub bytes_command : List ℕ → List ℕ → Option Command
bytes_command verb args =
    if bytes_eq verb (codes "get") then option_map (λ c. Get c) (got args)
    else (if bytes_eq verb (codes "set") then option_map (λ x. Set x.0 x.1) (valued args)
    else (if bytes_eq verb (codes "add") then option_map (λ x. Add x.0 x.1) (valued args)
    else (if bytes_eq verb (codes "cas") then option_map (λ x. Cas x.0 x.1 x.2) (swapped args)
    else (if bytes_eq verb (codes "fill") then option_map (λ x. Fill x.0 x.1) (filled args)
    else (if bytes_eq verb (codes "copy") then option_map (λ x. Copy x.0 x.1) (two args)
    else (if bytes_eq verb (codes "mismatch") then option_map (λ x. Mismatch x.0 x.1) (two args)
    else arena_command verb args))))))

-- what a verb and its arguments ask for
abbrev pub command_named : List ℕ → List ℕ → Option Command
command_named verb args =
    if bytes_eq verb (codes "open") then option_map (λ x. Open x.0 x.1) (opening args)
    else (if bytes_eq verb (codes "alloc") then option_map (λ x. Alloc x.0.0 x.0.1 x.1.0 x.1.1) (sized args)
    else (if bytes_eq verb (codes "slice") then option_map (λ x. Slice x.0.0 x.0.1 x.1.0 x.1.1) (sized args)
    else (if bytes_eq verb (codes "readonly") then option_map (λ x. Readonly x.0 x.1) (two args)
    else bytes_command verb args)))

-- who runs the line, and what it asks for
abbrev pub line_named : List ℕ → Option (Who × Command)
line_named text = option_and_then (λ x. option_zip (who_named x.0) (command_named x.1 x.2)) (cut3 text)

-- ---- the pool's line

abbrev pub most_of_shape : ℕ
most_of_shape = 4294967295

abbrev pub shape_from : ℕ × (ℕ × (ℕ × (ℕ × ℕ))) → Shape
shape_from x = record { passes = 1; slots = x.0; pages = x.1.1.1.1; page_words = x.1.1.0; reach = x.1.0; generations = x.1.1.1.0 }

-- the shape, with one pass, of these words
abbrev pub numbers_named : List ℕ → List ℕ → List ℕ → List ℕ → List ℕ → Option Shape
numbers_named slots reach page_words generations pages =
    option_map shape_from (option_zip (number_named most_of_shape slots) (option_zip (number_named most_of_shape reach)
    (option_zip (number_named most_of_shape page_words) (option_zip (number_named most_of_shape generations) (number_named most_of_shape pages)))))

-- the shape, with one pass, that a pool's line spells
abbrev pub shape_named : List ℕ → Option Shape
shape_named text =
    option_and_then (λ x. if bytes_eq x.0 (codes "pool")
    then option_and_then (λ y. numbers_named y.0 y.1 y.2 y.3 y.4) (cut5 x.1) else None) (cut text)
