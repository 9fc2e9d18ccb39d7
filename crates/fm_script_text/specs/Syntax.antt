-- The lines of scripts: how each command is spelled, and which commands have a spelling.
use Rattle.std.specs.{Prelude.{◌≡◌, ℤ, pos, negsuc, ℕ, ◌*◌, ◌^◌, ◌<◌, ◌≤◌, List, [], ◌∷◌, ◌++◌, codes}, List.{join_with_byte}, Fmt.{decimal, signed_decimal}}
use Rattle.fm_base.specs.declared.kind.Kind.{Kind}
use Rattle.fm_base.specs.declared.kind.Kind.TheVariants as kind
use Rattle.fm_lanes.specs.declared.{order.Order.{Order, TheVariants.{Little, Big}}, value_kind.ValueKind.{ValueKind}}
use Rattle.fm_lanes.specs.{declared.value_kind.ValueKind.TheVariants.{Byte, Boolean, Char, Short, Int, Long}, Named.{kind_text}}
use Rattle.fm_layout.specs.Name.{IsName}
use Rattle.fm_words.specs.{declared.shape.Shape.{Shape}, Shapes.{IsValid}}
use Rattle.fm_script_text.specs.declared.{cell.Cell.{Cell}, close_by.CloseBy.{CloseBy, TheVariants.{Visits, Polls}}, command.Command.{Command}}
use Rattle.fm_script_text.specs.declared.command.Command.TheVariants.{Open, Alloc, Slice, Readonly, Get, Set, Add, Cas, Fill, Copy, Mismatch, Alive, Hold, Unhold, Again, Back, Close}
use Rattle.fm_script_text.specs.declared.who.Who.{Who, TheVariants.{First, Worker, Last}}

-- ---- how they are spelled

-- who runs a line
abbrev pub who_text : Who → List ℕ
who_text First = codes "first"
who_text (Worker number) = decimal number
who_text Last = codes "last"

abbrev pub arena_kind_text : Kind → List ℕ
arena_kind_text kind.Global = codes "global"
arena_kind_text kind.Automatic = codes "auto"
arena_kind_text kind.Confined = codes "confined"
arena_kind_text kind.Shared = codes "shared"

-- a kind of value, and -be behind it where the highest byte stands first
abbrev pub type_text : ValueKind → Order → List ℕ
type_text kind Little = kind_text kind
type_text kind Big = kind_text kind ++ codes "-be"

abbrev pub close_text : CloseBy → List ℕ
close_text Visits = codes "close"
close_text Polls = codes "closepoll"

-- what a command asks for, word by word
abbrev pub words_of : Command → List (List ℕ)
words_of (Open name kind) = codes "open" ∷ name ∷ arena_kind_text kind ∷ []
words_of (Alloc arena name size align) = codes "alloc" ∷ arena ∷ name ∷ decimal size ∷ decimal align ∷ []
words_of (Slice segment name offset size) = codes "slice" ∷ segment ∷ name ∷ decimal offset ∷ decimal size ∷ []
words_of (Readonly segment name) = codes "readonly" ∷ segment ∷ name ∷ []
words_of (Get c) = codes "get" ∷ c.segment ∷ type_text c.kind c.order ∷ decimal c.offset ∷ []
words_of (Set c value) = codes "set" ∷ c.segment ∷ type_text c.kind c.order ∷ decimal c.offset ∷ signed_decimal value ∷ []
words_of (Add c value) = codes "add" ∷ c.segment ∷ type_text c.kind c.order ∷ decimal c.offset ∷ signed_decimal value ∷ []
words_of (Cas c old new) =
    codes "cas" ∷ c.segment ∷ type_text c.kind c.order ∷ decimal c.offset ∷ signed_decimal old ∷ signed_decimal new ∷ []
words_of (Fill segment byte) = codes "fill" ∷ segment ∷ decimal byte ∷ []
words_of (Copy source target) = codes "copy" ∷ source ∷ target ∷ []
words_of (Mismatch segment other) = codes "mismatch" ∷ segment ∷ other ∷ []
words_of (Alive arena) = codes "alive" ∷ arena ∷ []
words_of (Hold arena name) = codes "hold" ∷ arena ∷ name ∷ []
words_of (Unhold hold) = codes "unhold" ∷ hold ∷ []
words_of (Again handle name) = codes "again" ∷ handle ∷ name ∷ []
words_of (Back handle) = codes "back" ∷ handle ∷ []
words_of (Close arena by) = close_text by ∷ arena ∷ []

-- the words of a line, with one space between each two
abbrev pub spaced : List (List ℕ) → List ℕ
spaced words = join_with_byte 32 words

abbrev pub line_text : Who → Command → List ℕ
line_text who command = spaced (who_text who ∷ words_of command)

abbrev pub pool_text : Shape → List ℕ
pool_text z =
    spaced (codes "pool" ∷ decimal z.slots ∷ decimal z.reach ∷ decimal z.page_words ∷ decimal z.generations ∷ decimal z.pages ∷ [])

-- ---- which have a spelling

-- the greatest size, alignment and offset
abbrev pub most : ℕ
most = 2 ^ 40

-- the numbers of a kind of value are those below the first, and those from minus the second up
abbrev pub above : ValueKind → ℕ
above Byte = 2 ^ 7
above Boolean = 2
above Char = 2 ^ 16
above Short = 2 ^ 15
above Int = 2 ^ 31
above Long = 2 ^ 63

abbrev pub below : ValueKind → ℕ
below Byte = 2 ^ 7
below Boolean = 0
below Char = 0
below Short = 2 ^ 15
below Int = 2 ^ 31
below Long = 2 ^ 63

-- a number of this kind of value
abbrev pub IsOfKind : ValueKind → ℤ → Type 0
IsOfKind kind (pos n) = n < above kind
IsOfKind kind (negsuc n) = n < below kind

abbrev pub most_workers : ℕ
most_workers = 16

abbrev pub IsWho : Who → Type 0
IsWho First = Unit {0}
IsWho (Worker number) = (1 ≤ number) × (number ≤ most_workers)
IsWho Last = Unit {0}

abbrev pub IsCell : Cell → Type 0
IsCell c = IsName c.segment × (c.offset ≤ most)

abbrev pub IsSpelled : Command → Type 0
IsSpelled (Open name kind) = IsName name
IsSpelled (Alloc arena name size align) = IsName arena × IsName name × (size ≤ most) × (align ≤ most)
IsSpelled (Slice segment name offset size) = IsName segment × IsName name × (offset ≤ most) × (size ≤ most)
IsSpelled (Readonly segment name) = IsName segment × IsName name
IsSpelled (Get c) = IsCell c
IsSpelled (Set c value) = IsCell c × IsOfKind c.kind value
IsSpelled (Add c value) = IsCell c × IsOfKind c.kind value
IsSpelled (Cas c old new) = IsCell c × IsOfKind c.kind old × IsOfKind c.kind new
IsSpelled (Fill segment byte) = IsName segment × (byte ≤ 255)
IsSpelled (Copy source target) = IsName source × IsName target
IsSpelled (Mismatch segment other) = IsName segment × IsName other
IsSpelled (Alive arena) = IsName arena
IsSpelled (Hold arena name) = IsName arena × IsName name
IsSpelled (Unhold hold) = IsName hold
IsSpelled (Again handle name) = IsName handle × IsName name
IsSpelled (Back handle) = IsName handle
IsSpelled (Close arena by) = IsName arena

-- the line says that this one runs this command
pub record Says (text : List ℕ) (who : Who) (command : Command) : Type 0 where
  pub is_who : IsWho who
  pub is_spelled : IsSpelled command
  pub spelled : text ≡ line_text who command

-- the line says that the pool has this shape, but for its passes
pub record SaysPool (text : List ℕ) (z : Shape) : Type 0 where
  pub is_valid : IsValid z
  pub small : z.pages * z.page_words ≤ 4194304
  pub spelled : text ≡ pool_text z
