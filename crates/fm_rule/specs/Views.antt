-- Views of the passes and notes of a pool, and what a pass keeps beside its seat.
use Rattle.std.specs.Prelude.{◌≡◌, ◌*◌, ◌<◌, ℕ, Bool, true, false, List, [], ◌∷◌, length, Option, Some, None}
use Rattle.atomic_table.specs.{Seated.{TableId}, Table.{Me}}
use Rattle.fm_words.specs.{declared.shape.Shape.{Shape}, Places.{at, map, page_word}, Maps.{map_word}}
use Rattle.fm_base.specs.{declared.{caller.Caller.{Caller}, arena_id.ArenaId.{ArenaId}}, Calls.{Entry}}
use Rattle.fm_rule_facts.specs.{Views.{View, IsSound, In}, Splits.{first_view}, Parts.{Mapping}}
use Rattle.fm_rule.specs.declared.pass.Part.{Part}

-- numbers that tell a table
abbrev pub numbers_of : TableId → List ℕ
numbers_of t = t.words ∷ t.slots ∷ t.views_name ∷ t.atom ∷ t.block ∷ t.offset ∷ t.slot_names

-- the view, of the pool that the numbers tell
abbrev pub homed : List ℕ → View → View
homed home v = record v { home = home }

abbrev pub first_pass : List ℕ → Shape → View
first_pass home z = homed home (first_view z)

pub record NoteView : Type 0 where
  pub home : List ℕ
  pub seen : List Entry

-- the arena, where the pass is inside it
abbrev pub inside_of : Bool → ArenaId → Option ArenaId
inside_of true a = Some a
inside_of false a = None

-- a part whose page the pass has read, and where its words begin in the table; one without words is none
pub record IsPart (v : View) (part : Part) : Type 0 where
  pub mapping : Mapping
  pub read : In mapping v.reads
  pub low : mapping.page < v.shape.pages
  pub words : part.words ≡ v.shape.page_words
  pub first : part.first ≡ mapping.part * v.shape.page_words
  pub from : part.from ≡ at v.shape (page_word mapping.page 0)

-- a part that the pass read at some visit: where its words begin as long as its map word is the same, and where that stands
pub record IsKept (z : Shape) (part : Part) : Type 0 where
  pub page : ℕ
  pub word : part.word ≡ map_word page
  pub from : part.from ≡ at z (page_word page 0)
  pub size : part.size ≡ z.page_words
  pub first : part.first ≡ part.index * z.page_words
  pub word_at : part.word_at ≡ at z (map part.slot part.index)
  pub low : part.index < z.reach

abbrev pub no_part : Part
no_part = record { first = 0; words = 0; from = 0; slot = 0; index = 0; size = 0; word = 0; word_at = 0 }

-- the part of this index, where its map word is this one
abbrev pub HasPart : Shape → (index word : ℕ) → Part → Type 0
HasPart z index word part =
    (page : ℕ) → word ≡ map_word page → (part.first ≡ index * z.page_words) × (part.words ≡ z.page_words) × (part.from ≡ at z (page_word page 0))

-- what a pass has of a part: its page, where it has words, for this visit; and where it looks for the page in later ones
pub record Stands (v : View) (part : Part) : Type 0 where
  pub known : 0 < part.words → IsPart v part
  pub kept : 0 < part.size → IsKept v.shape part

-- what a pass keeps beside its seat: its caller, the arena that it is inside, the two parts that it read last, and how many
-- callers are gathered into it
pub record Keeps (c : Caller) (i : Option ArenaId) (parts : Part × Part) (count : ℕ) (me : Me (Unit {0}) View) : Type 0 where
  pub live : me.0.live ≡ true
  pub caller : c ≡ me.0.caller
  pub inside : i ≡ me.0.inside
  pub last : Stands me.0 parts.0
  pub other : Stands me.0 parts.1
  pub met : me.0.met ≡ []
  pub counted : count ≡ length me.0.gathered
  pub sound : IsSound me.0
  pub empty : me.1 ≡ []
