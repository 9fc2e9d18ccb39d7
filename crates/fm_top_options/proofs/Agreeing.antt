-- The command takes the words that are of the form, and reads what they say.
use Rattle.std.proofs.Common.{◌≡◌, ◌∙◌, ◌++◌, ◌∷◌, Bool, true, false, List, [], Option, Some, None, refl, ap, sym, subst, if◌then◌else◌, length, nat_le, fold, IsUtf8, codes, is_some, unwrap_or, option_map, option_and_then, append_assoc, append-nil, arith}
use Rattle.std.proofs.lemmas.Bool.Decides.{nat_tests}
use Rattle.clap.specs.{Kinds.{Kinds, or_else}, Walk.{Row, Text, Waiting, Walk, all_of, has_row, option, positional, settled, used, walked}}
use Rattle.clap.specs.Faults.{settle_fault, turn_fault, use_fault, walk_fault}
use Rattle.fm_top_options.proofs.Said.{Said, is_apart, is_end, is_joined, is_plain, is_refused, said, with_threads, with_word}
use Rattle.fm_top_options.proofs.{Built.{option as threads, others, rules, shape}, Faulty.{IsFault, fault_first, fault_second}}
use Rattle.fm_top_options.proofs.{Rows.{all_of-with_other, all_of-with_same, has_row-all_of, without_none}, Sorts.{IsPlain, sort_of}}
use Rattle.fm_top_options.proofs.Turns.{Pend, after, asking, ended, fault_apart_wanted, fault_joined_wanted, fault_unknown, fault_unknown_wanted, nothing, ready, settling, text, turn_apart, turn_ends, turn_ends_wanted, turn_joined, turn_plain, turn_text, turn_trailing, waits, wanted, word}

-- ---- what rows show

-- the values of an argument that was used with each of these
abbrev pub given : List Text → Option (List Text)
given [] = None
given (v ∷ vs) = Some (v ∷ vs)

-- the rows have these texts of the option, and these words
pub record Shows (rows : List Row) (texts words : List Text) : Type 0 where
  pub option_has : all_of (codes "threads") rows ≡ given texts
  pub words_are : all_of (codes "words") rows ≡ given words

given_more : (vs : List Text) (v : Text) → Some (unwrap_or (given vs) [] ++ v ∷ []) ≡ given (vs ++ v ∷ [])
given_more [] v = refl
given_more (x ∷ xs) v = refl

unused : (rows : List Row) (words : List Text) → Shows rows [] words → has_row (codes "threads") rows ≡ false
unused rows words s = has_row-all_of (codes "threads") rows ∙ ap is_some s.option_has

used_once : (rows : List Row) (words : List Text) (t x : Text) → Shows rows (x ∷ []) words → has_row (codes "threads") rows ≡ true
used_once rows words t x s = has_row-all_of (codes "threads") rows ∙ ap is_some s.option_has

-- the option's first use gives its text
shows_text : (rows : List Row) (words : List Text) (t : Text) → Shows rows [] words → Shows (used threads (t ∷ []) rows) (t ∷ []) words
shows_text rows words t s = rw (without_none (codes "threads") rows (unused rows words s)) (record {
  option_has = all_of-with_same (codes "threads") _ _ (t ∷ []) rows refl ∙ ap (λ o. Some (unwrap_or o [] ++ t ∷ [])) s.option_has;
  words_are = all_of-with_other (codes "threads") (codes "words") _ _ (t ∷ []) rows refl ∙ s.words_are;
})

-- a positional word joins those before it
shows_word : (rows : List Row) (texts words : List Text) (w : Text) → Shows rows texts words
    → Shows (used others (w ∷ []) rows) texts (words ++ w ∷ [])
shows_word rows texts words w s = record {
  option_has = all_of-with_other (codes "words") (codes "threads") _ _ (w ∷ []) rows refl ∙ s.option_has;
  words_are = all_of-with_same (codes "words") _ _ (w ∷ []) rows refl ∙ (ap (λ o. Some (unwrap_or o [] ++ w ∷ [])) s.words_are ∙ given_more words w);
}

-- ---- what waits is used without a fault

pub record Holds (rows : List Row) (p : Pend) (texts words : List Text) : Type 0 where
  pub sound : settling rows p ≡ []
  pub shows : Shows (after rows p) texts words
  pub once : nat_le (length texts) 1 ≡ true

holds_word : (rows : List Row) (texts words : List Text) (w : Text) → Shows rows texts words → nat_le (length texts) 1 ≡ true
    → Holds rows (word w) texts (words ++ w ∷ [])
holds_word rows texts words w s once = record { sound = refl; shows = shows_word rows texts words w s; once = once }

holds_text : (rows : List Row) (words : List Text) (t : Text) → Shows rows [] words → Holds rows (text t) (t ∷ []) words
holds_text rows words t s = record { sound = rw (unused rows words s) refl; shows = shows_text rows words t s; once = refl }

-- a second use is a fault
second_use : (rows : List Row) (words : List Text) (t x : Text) → Shows rows (x ∷ []) words → IsFault (use_fault false threads (t ∷ []) rows)
second_use rows words t x s = rw (used_once rows words t x s) tt

-- the kinds of `--threads=TEXT`: those of what waits, and then its own
abbrev joining : Text → List Row → Pend → Kinds
joining t rows p = or_else (settling rows p) (use_fault false threads (t ∷ []) (after rows p))

-- ---- the faults of the words, and the walk after them

abbrev pub end : Walk → List Text → Walk
end w words = fold (walked rules []) w words

abbrev pub faults : Walk → List Text → Kinds
faults w words = or_else (walk_fault shape [] w words) (settle_fault rules false (end w words).held)

-- the command refuses the words, or takes them and has this
abbrev pub Agrees : Walk → List Text → Option Said → Type 0
Agrees w words None = IsFault (faults w words)
Agrees w words (Some s) = (faults w words ≡ []) × Shows (settled rules (end w words).held).rows s.threads s.words × ((end w words).stopped ≡ None)

-- one word, and then the rest
first_sound : (w v : Walk) (x : Text) (rest : List Text) → turn_fault shape [] w x ≡ [] → walked rules [] w x ≡ v
    → faults w (x ∷ rest) ≡ faults v rest
unfolding walk_fault
first_sound w v x rest e next = rw e (ap (λ (z : Walk). faults z rest) next)

onward : (w v : Walk) (x : Text) (rest : List Text) (o : Option Said) → turn_fault shape [] w x ≡ [] → walked rules [] w x ≡ v
    → Agrees v rest o → Agrees w (x ∷ rest) o
onward w v x rest None e next a = rw (first_sound w v x rest e next) a
onward w v x rest (Some s) e next a = (
  first_sound w v x rest e next ∙ a.0,
  subst (λ (z : Walk). Shows (settled rules (end z rest).held).rows s.threads s.words) (sym next) a.1,
  subst (λ (z : Walk). (end z rest).stopped ≡ None) (sym next) a.2,
)

stops : (w : Walk) (x : Text) (rest : List Text) → IsFault (turn_fault shape [] w x) → Agrees w (x ∷ rest) None
unfolding walk_fault
stops w x rest f = fault_first _ _ (fault_first _ _ f)

-- each word is text
abbrev pub AllText : List Text → Type 0
AllText [] = Unit {0}
AllText (w ∷ rest) = IsUtf8 w × AllText rest

stops_by : (w : Walk) (x : Text) (rest : List Text) (k : Kinds) → turn_fault shape [] w x ≡ k → IsFault k → Agrees w (x ∷ rest) None
stops_by w x rest k e f = stops w x rest (subst IsFault (sym e) f)

-- ---- after `--`

trailing_agrees : (rest : List Text) (rows : List Row) (p : Pend) (waiting : Waiting) (texts words : List Text) → Holds rows p texts words
    → Agrees (ended rows p waiting) rest (Some (record { threads = texts; words = words ++ rest }))
unfolding walk_fault
trailing_agrees [] rows p waiting texts words h = rw append-nil (h.sound, h.shows, refl)
trailing_agrees (w ∷ rest) rows p waiting texts words h =
    let more = trailing_agrees rest (after rows p) (word w) positional texts (words ++ w ∷ [])
    (holds_word (after rows p) texts words w h.shows h.once) in
    onward (ended rows p waiting) (ended (after rows p) (word w) positional) w rest
    (Some (record { threads = texts; words = words ++ w ∷ rest })) ((turn_trailing w rows p waiting).fault ∙ h.sound) (turn_trailing w rows p waiting).goes
    (rw append_assoc at more)

-- what waits for its use in vain
trailing_fails : (rest : List Text) (rows : List Row) (p : Pend) (waiting : Waiting) → IsFault (settling rows p)
    → Agrees (ended rows p waiting) rest None
unfolding walk_fault
trailing_fails [] rows p waiting f = f
trailing_fails (w ∷ rest) rows p waiting f = stops_by (ended rows p waiting) w rest (settling rows p) (turn_trailing w rows p waiting).fault f

fails : (words : List Text) → AllText words → (rows : List Row) (p : Pend) (b : Bool) → IsFault (settling rows p) → Agrees (ready rows p b) words None
unfolding walk_fault
fails [] u rows p b f = f
fails (w ∷ rest) u rows p b f = elim (sort_of w u.0) [
  | is_end e ↦ subst (λ (x : Text). Agrees (ready rows p b) (x ∷ rest) None) (sym e)
      (onward (ready rows p b) (ended rows p (waits b)) (codes "--") rest None (turn_ends rows p b).fault (turn_ends rows p b).goes
      (trailing_fails rest rows p (waits b) f))
  | is_apart e ↦ subst (λ (x : Text). Agrees (ready rows p b) (x ∷ rest) None) (sym e)
      (stops_by (ready rows p b) (codes "--threads") rest (settling rows p) (turn_apart rows p b).fault f)
  | is_joined t e ↦ subst (λ (x : Text). Agrees (ready rows p b) (x ∷ rest) None) (sym e)
      (stops_by (ready rows p b) (codes "--threads=" ++ t) rest (joining t rows p) (turn_joined t rows p b).fault (fault_first _ _ f))
  | is_refused k ↦ stops (ready rows p b) w rest (fault_unknown w k rows p b)
  | is_plain k ↦ stops_by (ready rows p b) w rest (settling rows p) (turn_plain w k rows p b).fault f
]

-- ---- the form, from any place on

-- the same, where the option is used once at most
abbrev pub once : Said → Option Said
once s = if nat_le (length s.threads) 1 then Some s else None

-- what was said before, and then this
abbrev before : List Text → List Text → Said → Said
before texts words s = record { threads = texts ++ s.threads; words = words ++ s.words }

abbrev whole : List Text → List Text → Option Said → Option Said
whole texts words o = option_and_then (λ s. once (before texts words s)) o

abbrev OpenAgrees : List Text → Type 0
OpenAgrees words = (rows : List Row) (p : Pend) (b : Bool) (texts before : List Text) → Holds rows p texts before
    → Agrees (ready rows p b) words (whole texts before (said false words))

abbrev WantedAgrees : List Text → Type 0
WantedAgrees words = (rows : List Row) (texts before : List Text) → Shows rows texts before → nat_le (length texts) 1 ≡ true
    → Agrees (asking rows) words (whole texts before (said true words))

whole_now : (texts before : List Text) → nat_le (length texts) 1 ≡ true → (words : List Text)
    → whole texts before (Some (record { threads = []; words = words })) ≡ Some (record { threads = texts; words = before ++ words })
whole_now texts before one words = rw (append-nil texts, one) refl

whole_text : (before : List Text) (t : Text) (o : Option Said) → whole (t ∷ []) before o ≡ whole [] before (option_map (with_threads t) o)
whole_text before t None = refl
whole_text before t (Some s) = refl

whole_word : (texts before : List Text) (w : Text) (o : Option Said)
    → whole texts (before ++ w ∷ []) o ≡ whole texts before (option_map (with_word w) o)
whole_word texts before w None = refl
whole_word texts before w (Some s) = rw append_assoc refl

not_once : (x t : Text) (more : List Text) → nat_le (length (x ∷ t ∷ more)) 1 ≡ false
not_once x t more = grind (arith, nat_tests)

whole_twice : (before : List Text) (x t : Text) (o : Option Said) → whole (x ∷ []) before (option_map (with_threads t) o) ≡ None
whole_twice before x t None = refl
whole_twice before x t (Some s) = rw (not_once x t s.threads) refl

-- ---- `--threads=TEXT`

joined_agrees : (t : Text) (rest : List Text) → OpenAgrees rest
    → (texts : List Text) (rows : List Row) (p : Pend) (b : Bool) (before : List Text) → Holds rows p texts before
    → Agrees (ready rows p b) ((codes "--threads=" ++ t) ∷ rest) (whole texts before (option_map (with_threads t) (said false rest)))
joined_agrees t rest later [] rows p b before h =
    let sound : use_fault false threads (t ∷ []) (after rows p) ≡ [] = rw (unused (after rows p) before h.shows) refl in
    let now : turn_fault shape [] (ready rows p b) (codes "--threads=" ++ t) ≡ [] = (turn_joined t rows p b).fault ∙
    (ap (λ k. or_else k (use_fault false threads (t ∷ []) (after rows p))) h.sound ∙ sound) in
    let next = later (used threads (t ∷ []) (after rows p)) nothing false (t ∷ []) before
    (record { sound = refl; shows = shows_text (after rows p) before t h.shows; once = refl }) in
    onward (ready rows p b) (ready (used threads (t ∷ []) (after rows p)) nothing false) (codes "--threads=" ++ t) rest
    (whole [] before (option_map (with_threads t) (said false rest))) now (turn_joined t rows p b).goes (rw whole_text at next)
joined_agrees t rest later (x ∷ []) rows p b before h =
    rw (whole_twice before x t (said false rest)) (stops_by (ready rows p b) (codes "--threads=" ++ t) rest (joining t rows p)
    (turn_joined t rows p b).fault (fault_second _ _ (second_use (after rows p) before t x h.shows)))
joined_agrees t rest later (x ∷ y ∷ more) rows p b before h =
    let bad : true ≡ false = sym h.once ∙ not_once x y more in
    cc

-- ---- `--threads TEXT`

text_agrees : (t : Text) → IsPlain t → (rest : List Text) → AllText rest → OpenAgrees rest
    → (texts : List Text) (rows : List Row) (before : List Text)
    → Shows rows texts before → nat_le (length texts) 1 ≡ true
    → Agrees (asking rows) (t ∷ rest) (whole texts before (option_map (with_threads t) (said false rest)))
text_agrees t k rest u later [] rows before s one =
    let next = later rows (text t) false (t ∷ []) before (holds_text rows before t s) in
    onward (asking rows) (ready rows (text t) false) t rest (whole [] before (option_map (with_threads t) (said false rest)))
    (turn_text t k rows).fault (turn_text t k rows).goes (rw whole_text at next)
text_agrees t k rest u later (x ∷ []) rows before s one =
    rw (whole_twice before x t (said false rest)) (onward (asking rows) (ready rows (text t) false) t rest None (turn_text t k rows).fault
    (turn_text t k rows).goes (fails rest u rows (text t) false (rw (used_once rows before t x s) tt)))
text_agrees t k rest u later (x ∷ y ∷ more) rows before s one =
    let bad : true ≡ false = sym one ∙ not_once x y more in
    cc

-- ---- all words

open_agrees : (w : Text) (rest : List Text) → IsUtf8 w → OpenAgrees rest → WantedAgrees rest → OpenAgrees (w ∷ rest)
open_agrees w rest u later wants rows p b texts before h = elim (sort_of w u) [
  | is_end e ↦ subst (λ (x : Text). Agrees (ready rows p b) (x ∷ rest) (whole texts before (said false (x ∷ rest)))) (sym e)
      (rw (whole_now texts before h.once rest)
      (onward (ready rows p b) (ended rows p (waits b)) (codes "--") rest (Some (record { threads = texts; words = before ++ rest }))
      (turn_ends rows p b).fault (turn_ends rows p b).goes (trailing_agrees rest rows p (waits b) texts before h)))
  | is_apart e ↦ subst (λ (x : Text). Agrees (ready rows p b) (x ∷ rest) (whole texts before (said false (x ∷ rest)))) (sym e)
      (onward (ready rows p b) (asking (after rows p)) (codes "--threads") rest (whole texts before (said true rest))
      ((turn_apart rows p b).fault ∙ h.sound) (turn_apart rows p b).goes (wants (after rows p) texts before h.shows h.once))
  | is_joined t e ↦ subst (λ (x : Text). Agrees (ready rows p b) (x ∷ rest) (whole texts before (said false (x ∷ rest)))) (sym e)
      (joined_agrees t rest later texts rows p b before h)
  | is_refused k ↦ rw (k.looks.says rest) (stops (ready rows p b) w rest (fault_unknown w k rows p b))
  | is_plain k ↦
      let next = later (after rows p) (word w) true texts (before ++ w ∷ []) (holds_word (after rows p) texts before w h.shows h.once) in
      rw (k.looks.says rest) (onward (ready rows p b) (ready (after rows p) (word w) true) w rest
      (whole texts before (option_map (with_word w) (said false rest))) ((turn_plain w k rows p b).fault ∙ h.sound) (turn_plain w k rows p b).goes
      (rw (whole_word texts before w (said false rest)) at next))
]

wanted_agrees : (w : Text) (rest : List Text) → IsUtf8 w → AllText rest → OpenAgrees rest → WantedAgrees (w ∷ rest)
wanted_agrees w rest u us later rows texts before s one = elim (sort_of w u) [
  | is_end e ↦ subst (λ (x : Text). Agrees (asking rows) (x ∷ rest) (whole texts before (said true (x ∷ rest)))) (sym e)
      (onward (asking rows) (ended rows wanted (option (codes "threads"))) (codes "--") rest None (turn_ends_wanted rows).fault
      (turn_ends_wanted rows).goes (trailing_fails rest rows wanted (option (codes "threads")) tt))
  | is_apart e ↦ subst (λ (x : Text). Agrees (asking rows) (x ∷ rest) (whole texts before (said true (x ∷ rest)))) (sym e)
      (stops (asking rows) (codes "--threads") rest (fault_apart_wanted rows))
  | is_joined t e ↦ subst (λ (x : Text). Agrees (asking rows) (x ∷ rest) (whole texts before (said true (x ∷ rest)))) (sym e)
      (stops (asking rows) (codes "--threads=" ++ t) rest (fault_joined_wanted t rows))
  | is_refused k ↦ rw k.looks.dash (stops (asking rows) w rest (fault_unknown_wanted w k rows))
  | is_plain k ↦ rw k.looks.dash (text_agrees w k rest us later texts rows before s one)
]

open_none : OpenAgrees []
unfolding walk_fault
open_none rows p b texts before h = rw (whole_now texts before h.once [], append-nil before) (h.sound, h.shows, refl)

wanted_none : WantedAgrees []
unfolding walk_fault
wanted_none rows texts before s one = tt

both_agree : (words : List Text) → AllText words → OpenAgrees words × WantedAgrees words
both_agree [] u = (open_none, wanted_none)
both_agree (w ∷ rest) u =
    let later = both_agree rest u.1 in
    (open_agrees w rest u.0 later.0 later.1, wanted_agrees w rest u.0 u.1 later.0)

-- from the first word on
pub agrees : (words : List Text) → AllText words → Agrees (ready [] nothing false) words (option_and_then once (said false words))
agrees words u = go (said false words) ((both_agree words u).0 [] nothing false [] []
    (record { sound = refl; shows = record { option_has = refl; words_are = refl }; once = refl }))
  where
    go : (o : Option Said) → Agrees (ready [] nothing false) words (whole [] [] o) → Agrees (ready [] nothing false) words (option_and_then once o)
    go None a = a
    go (Some s) a = a
