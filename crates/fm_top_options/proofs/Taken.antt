-- Which words the command takes, and what it reads of them.
use Rattle.std.proofs.Common.{◌≡◌, ◌∙◌, ◌∷◌, ◌||◌, inl, inr, Bool, true, false, List, [], Option, Some, None, refl, ap, sym, subst, if◌then◌else◌, length, nat_le, codes, unwrap_or, option_and_then, option_map, slice_get, fold, is_some, String}
use Rattle.std.{specs.declared.alloc.Global.{Global}, proofs.lemmas.Str.{IsUtf8-string_bytes}}
use Rattle.clap.specs.{Words.{App, HasMatchesOf, HasKind, found_of, kind_of, rows_of}, Kinds.{Kinds, or_else}}
use Rattle.clap.specs.{Walk.{Row, Text, Walk, all_of, finished, first_of, has_row, settled, with_default}, Simple.{entered, matches_of}}
use Rattle.clap.specs.{Faults.{check_fault, defaults_fault, entered_fault, fault_of, settle_fault, walk_fault}, declared.error.Error.{Error}}
use Rattle.clap.{specs.declared.parser.matches.ArgMatches.{ArgMatches}, proofs.WalkLemmas.{first_value-rows, raw_values-rows}}
use Rattle.clap.specs.declared.error.kind.ErrorKind.TheVariants as kind
use Rattle.fm_top_options.specs.{Command.{Match, command_app}, Options.{Say, texts}}
use Rattle.fm_top_options.proofs.Agreeing.{Agrees, AllText, Shows, agrees, end, faults, given, once}
use Rattle.fm_top_options.proofs.{Built.{app, is_simple-command, option as threads, rules, shape}, Faulty.{IsFault, fault_first, fault_second}}
use Rattle.fm_top_options.proofs.{Said.{Said, Say_from_said, first_use, said, said_from_Say, uses}, Turns.{nothing, ready}}

abbrev start : Walk
start = ready [] nothing false

-- ---- no argument has a default

either : (b : Bool) (rows : List Row) → (if b then rows else rows) ≡ rows
either true rows = refl
either false rows = refl

no_default : (rows : List Row) → fold with_default rows rules ≡ rows
no_default rows = either (has_row (codes "words") (with_default rows threads)) (with_default rows threads) ∙ either
    (has_row (codes "threads") rows) rows

none_given : (b : Bool) (k : Kinds) → (if b || true then [] else k) ≡ []
none_given true k = refl
none_given false k = refl

or_true : (b : Bool) → (b || true) ≡ true
or_true true = refl
or_true false = refl

no_default_fault : (rows : List Row) → defaults_fault rows rules ≡ []
unfolding defaults_fault
no_default_fault rows = rw (or_true (has_row (codes "threads") rows), or_true (has_row (codes "words") (with_default rows threads))) refl

-- ---- the kinds of the whole parse

both_empty : (a b : Kinds) → or_else a b ≡ [] → (a ≡ []) × (b ≡ [])
both_empty [] b e = (refl, e)
both_empty (k ∷ ks) b e = cc

within : (w b s x : Kinds) → IsFault (or_else w s) → IsFault (or_else w (or_else b (or_else s x)))
within [] b s x f = fault_second b (or_else s x) (fault_first s x f)
within (k ∷ ks) b s x f = tt

abbrev ending : Walk → List Row
ending w = (settled rules w.held).rows

refuses : (words : List Text) → IsFault (faults start words) → IsFault (fault_of command_app words)
refuses words f =
    let w = end start words in
    within (walk_fault shape [] start words) (entered_fault app w.stopped) (settle_fault rules false w.held)
    (or_else (defaults_fault (ending w) rules) (check_fault shape (finished rules w.held) (is_some (entered app w.stopped)))) f

level_empty : (w s : Kinds) (stop : Option (Text × List Text)) (rows done : List Row) → w ≡ [] → s ≡ [] → stop ≡ None
    → or_else w (or_else (entered_fault app stop) (or_else s (or_else (defaults_fault rows rules)
    (check_fault shape done (is_some (entered app stop)))))) ≡ []
level_empty w s stop rows done no_w no_s no_stop = rw (no_w, no_s, no_stop, no_default_fault rows) refl

takes : (words : List Text) (s : Said) → Agrees start words (Some s) → fault_of command_app words ≡ []
takes words s a =
    let w = end start words in
    let no = both_empty (walk_fault shape [] start words) (settle_fault rules false w.held) a.0 in
    level_empty (walk_fault shape [] start words) (settle_fault rules false w.held) w.stopped (ending w) (finished rules w.held) no.0 no.1 a.2

-- ---- what is read

rows_are : (words : List Text) → matches_of command_app words ≡ ending (end start words)
rows_are words = no_default (ending (end start words))

first_at : (o : Option Row) → option_and_then (λ (r : Row). slice_get r.values 0) o ≡ option_and_then (λ (vs : List Text). slice_get vs 0)
    (option_map (λ (r : Row). r.values) o)
first_at None = refl
first_at (Some r) = refl

first_given : (vs : List Text) → option_and_then (λ (l : List Text). slice_get l 0) (given vs) ≡ first_use vs
first_given [] = refl
first_given (v ∷ vs) = refl

all_given : (vs : List Text) → unwrap_or (given vs) [] ≡ vs
all_given [] = refl
all_given (v ∷ vs) = refl

shows_first : (rows : List Row) (ts ws : List Text) → Shows rows ts ws → first_of (codes "threads") rows ≡ first_use ts
shows_first rows ts ws s = first_at _ ∙ (ap (option_and_then (λ (l : List Text). slice_get l 0)) s.option_has ∙ first_given ts)

shows_all : (rows : List Row) (ts ws : List Text) → Shows rows ts ws → unwrap_or (all_of (codes "words") rows) [] ≡ ws
shows_all rows ts ws s = ap (λ (o : Option (List Text)). unwrap_or o []) s.words_are ∙ all_given ws

abbrev Reads : List Text → List Row → Type 0
Reads words rows = Say words (first_of (codes "threads") rows) (unwrap_or (all_of (codes "words") rows) [])

reads : (words : List Text) (rows : List Row) (s : Said) → Shows rows s.threads s.words → Say words (first_use s.threads) s.words → Reads words rows
reads words rows s h say = rw (shows_first rows s.threads s.words h, shows_all rows s.threads s.words h) say

-- the command takes only words that say something, and reads what they say
pub takes_only : (words : List Text) → AllText words → fault_of command_app words ≡ [] → Reads words (matches_of command_app words)
takes_only words u sound = go (said false words) refl (agrees words u)
  where
    none : Agrees start words None → ⊥
    none a = subst IsFault sound (refuses words a)

    some : (s : Said) → said false words ≡ Some s → (b : Bool) → nat_le (length s.threads) 1 ≡ b
        → Agrees start words (if b then Some s else None) → Reads words (matches_of command_app words)
    some s e true one a = rw (rows_are words) (reads words (ending (end start words)) s a.1 (Say_from_said words s e one))
    some s e false one a = absurd (none a)

    go : (o : Option Said) → said false words ≡ o → Agrees start words (option_and_then once o) → Reads words (matches_of command_app words)
    go None e a = absurd (none a)
    go (Some s) e a = some s e (nat_le (length s.threads) 1) refl a

-- and all of those
pub takes_all : (words : List Text) → AllText words → (text : Option Text) (names : List Text) → Say words text names
    → fault_of command_app words ≡ []
takes_all words u text names say = go text (said_from_Say words text names say) (agrees words u)
  where
    go : (t : Option Text) → said false words ≡ Some (record { threads = uses t; words = names })
        → Agrees start words (option_and_then once (said false words)) → fault_of command_app words ≡ []
    go None e a = takes words (record { threads = []; words = names }) (rw e at a)
    go (Some t) e a = takes words (record { threads = t ∷ []; words = names }) (rw e at a)

pub all_text : (words : List (String Global)) → AllText (texts words)
all_text [] = tt
all_text (w ∷ rest) = (IsUtf8-string_bytes w, all_text rest)

-- ---- the parse

pub matched_words : (a : App) (words : List Text) (m : ArgMatches) → a ≡ command_app → AllText words → HasMatchesOf a words m
    → fault_of a words ≡ [] → Match words m
matched_words a words m is u has sound =
    let rows : rows_of (found_of m) ≡ matches_of command_app words = (subst (λ (x : App). HasMatchesOf x words m) is has is_simple-command).0 in
    let taken : Reads words (rows_of (found_of m)) = rw rows (takes_only words u (subst (λ (x : App). fault_of x words ≡ []) is sound)) in
    rw (first_value-rows (found_of m) (codes "threads"), raw_values-rows (found_of m) (codes "words")) taken

pub refused_words : (a : App) (words : List Text) (e : Error) → a ≡ command_app → AllText words → HasKind (fault_of a words) e →
    (kind_of e ≡ kind.OutOfMemory → ⊥)
    → (text : Option Text) (names : List Text) → Say words text names → ⊥
refused_words a words e is u has memory text names say =
    let sound : fault_of a words ≡ [] = subst (λ (x : App). fault_of x words ≡ []) (sym is) (takes_all words u text names say) in
    elim (subst (λ (k : Kinds). HasKind k e) sound has) [
      | inl out ↦ memory out
      | inr none ↦ none
    ]
