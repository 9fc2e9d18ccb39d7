-- What one word does to a walk.
use Rattle.std.proofs.Common.{◌≡◌, ◌++◌, ◌∷◌, ℕ, Bool, true, false, List, [], Option, Some, None, refl, codes}
use Rattle.clap.specs.{Kinds.{Kinds, or_else}, Walk.{Row, Text, Waiting, Walk, idle, option, positional, settled_rows, used, walked}}
use Rattle.clap.specs.Faults.{settle_fault, turn_fault, use_fault}
use Rattle.fm_top_options.proofs.{Built.{option as threads, rules, shape}, Faulty.{IsFault, fault_first, or_else-nil}, Sorts.{IsPlain, IsUnknown, held}}

-- what waits to be used: nothing, the option with no text yet, the option with its text, or a positional word
pub data Pend : Type 0 where
  nothing : Pend
  wanted : Pend
  text : Text → Pend
  word : Text → Pend

abbrev pub pending : Pend → Option (Text × List Text)
pending nothing = None
pending wanted = Some (codes "threads", [])
pending (text t) = Some (codes "threads", t ∷ [])
pending (word w) = Some (codes "words", w ∷ [])

-- no word waits for the option's text
abbrev pub waits : Bool → Waiting
waits true = positional
waits false = idle

abbrev pub standing : List Row → Pend → Waiting → Bool → Walk
standing rows p waiting trailing = record { held = held rows (pending p); waiting = waiting; position = 1; is_trailing = trailing; stopped = None }

-- options are looked for, and no text of the option is waited for
abbrev pub ready : List Row → Pend → Bool → Walk
ready rows p b = standing rows p (waits b) false

-- the option's text is waited for
abbrev pub asking : List Row → Walk
asking rows = standing rows wanted (option (codes "threads")) false

-- `--` was met
abbrev pub ended : List Row → Pend → Waiting → Walk
ended rows p waiting = standing rows p waiting true

abbrev pub settling : List Row → Pend → Kinds
settling rows p = settle_fault rules false (held rows (pending p))

abbrev pub after : List Row → Pend → List Row
after rows p = settled_rows rules (pending p) rows

-- what a word does to a walk: its fault, and the walk behind it
pub record Turn (walk : Walk) (w : Text) (faults : Kinds) (next : Walk) : Type 0 where
  pub fault : turn_fault shape [] walk w ≡ faults
  pub goes : walked rules [] walk w ≡ next

-- ---- `--`

pub turn_ends : (rows : List Row) (p : Pend) (b : Bool) → Turn (ready rows p b) (codes "--") [] (ended rows p (waits b))
unfolding walked
turn_ends rows p true = record { fault = refl; goes = refl }
turn_ends rows p false = record { fault = refl; goes = refl }

pub turn_ends_wanted : (rows : List Row) → Turn (asking rows) (codes "--") [] (ended rows wanted (option (codes "threads")))
unfolding walked
turn_ends_wanted rows = record { fault = refl; goes = refl }

-- ---- `--threads`

pub turn_apart : (rows : List Row) (p : Pend) (b : Bool) → Turn (ready rows p b) (codes "--threads") (settling rows p) (asking (after rows p))
unfolding walked
turn_apart rows p true = record { fault = or_else-nil (settling rows p); goes = refl }
turn_apart rows p false = record { fault = or_else-nil (settling rows p); goes = refl }

pub fault_apart_wanted : (rows : List Row) → IsFault (turn_fault shape [] (asking rows) (codes "--threads"))
fault_apart_wanted rows = tt

-- ---- `--threads=TEXT`

pub turn_joined : (t : List ℕ) (rows : List Row) (p : Pend) (b : Bool) → Turn (ready rows p b) (codes "--threads=" ++ t)
    (or_else (settling rows p) (use_fault false threads (t ∷ []) (after rows p))) (ready (used threads (t ∷ []) (after rows p)) nothing false)
unfolding walked
turn_joined t rows p true = record { fault = or_else-nil _; goes = refl }
turn_joined t rows p false = record { fault = or_else-nil _; goes = refl }

pub fault_joined_wanted : (t : List ℕ) (rows : List Row)
    → IsFault (turn_fault shape [] (asking rows) (codes "--threads=" ++ t))
fault_joined_wanted t rows = tt

-- ---- an unknown option

pub fault_unknown : (w : Text) → IsUnknown w → (rows : List Row) (p : Pend) (b : Bool) → IsFault (turn_fault shape [] (ready rows p b) w)
fault_unknown w k rows p true = rw k.looks.no_end (fault_first _ _ (k.fault rows (pending p)))
fault_unknown w k rows p false = rw k.looks.no_end (fault_first _ _ (k.fault rows (pending p)))

pub fault_unknown_wanted : (w : Text) → IsUnknown w → (rows : List Row)
    → IsFault (turn_fault shape [] (asking rows) w)
fault_unknown_wanted w k rows = rw k.looks.no_end (fault_first _ _ (k.fault rows (pending wanted)))

-- ---- a positional word

pub turn_plain : (w : Text) → IsPlain w → (rows : List Row) (p : Pend) (b : Bool)
    → Turn (ready rows p b) w (settling rows p) (ready (after rows p) (word w) true)
unfolding walked
turn_plain w k rows nothing true = record { fault = rw (k.looks.no_end, k.long, k.short) refl; goes = rw (k.looks.no_end, k.long, k.short) refl }
turn_plain w k rows nothing false = record { fault = rw (k.looks.no_end, k.long, k.short) refl; goes = rw (k.looks.no_end, k.long, k.short) refl }
turn_plain w k rows wanted true = record { fault = rw (k.looks.no_end, k.long, k.short) refl; goes = rw (k.looks.no_end, k.long, k.short) refl }
turn_plain w k rows wanted false = record { fault = rw (k.looks.no_end, k.long, k.short) refl; goes = rw (k.looks.no_end, k.long, k.short) refl }
turn_plain w k rows (text t) true = record { fault = rw (k.looks.no_end, k.long, k.short) refl; goes = rw (k.looks.no_end, k.long, k.short) refl }
turn_plain w k rows (text t) false = record { fault = rw (k.looks.no_end, k.long, k.short) refl; goes = rw (k.looks.no_end, k.long, k.short) refl }
turn_plain w k rows (word x) true = record { fault = rw (k.looks.no_end, k.long, k.short) refl; goes = rw (k.looks.no_end, k.long, k.short) refl }
turn_plain w k rows (word x) false = record { fault = rw (k.looks.no_end, k.long, k.short) refl; goes = rw (k.looks.no_end, k.long, k.short) refl }

-- ---- the option's text

pub turn_text : (w : Text) → IsPlain w → (rows : List Row) → Turn (asking rows) w [] (ready rows (text w) false)
unfolding walked
turn_text w k rows = record { fault = rw (k.looks.no_end, k.long, k.short) refl; goes = rw (k.looks.no_end, k.long, k.short) refl }

-- ---- a word after `--`

pub turn_trailing : (w : Text) (rows : List Row) (p : Pend) (waiting : Waiting)
    → Turn (ended rows p waiting) w (settling rows p) (ended (after rows p) (word w) positional)
unfolding walked
turn_trailing w rows nothing waiting = record { fault = refl; goes = refl }
turn_trailing w rows wanted waiting = record { fault = refl; goes = refl }
turn_trailing w rows (text t) waiting = record { fault = refl; goes = refl }
turn_trailing w rows (word x) waiting = record { fault = refl; goes = refl }
