-- What words say, as a function of them.
use Rattle.std.proofs.Common.{◌≡◌, ◌≢◌, ◌∙◌, ◌++◌, ◌∷◌, inl, inr, ℕ, ◌==◌, Bool, true, false, List, [], Option, Some, None, refl, ap, sym, subst, arith, if◌then◌else◌, bytes_eq, codes, take, drop, length, nat_le, option_map, unwrap_or, take-append-drop}
use Rattle.std.proofs.lemmas.{Bool.Decides.{nat_tests}, Slice.Eq.{bytes_eq-Decides}}
use Rattle.fm_top_options.specs.Options.{IsPlain, Say, apart, joined, name, nothing, only_names}

-- the word has two bytes or more and begins with a dash
abbrev pub has_dash : List ℕ → Bool
has_dash [] = false
has_dash (first ∷ []) = false
has_dash (first ∷ second ∷ rest) = first == 45

-- the text of each use of the option, and each positional word
pub record Said : Type 0 where
  pub threads : List (List ℕ)
  pub words : List (List ℕ)

abbrev pub with_threads : List ℕ → Said → Said
with_threads text s = record s { threads = text ∷ s.threads }

abbrev pub with_word : List ℕ → Said → Said
with_word word s = record s { words = word ∷ s.words }

-- what the words say, or nothing where one of them is refused; the test tells that `--threads` stands just before them
abbrev pub said : Bool → List (List ℕ) → Option Said
said true [] = None
said true (word ∷ rest) = if has_dash word then None else option_map (with_threads word) (said false rest)
said false [] = Some (record { threads = []; words = [] })
said false (word ∷ rest) =
    if bytes_eq word (codes "--") then Some (record { threads = []; words = rest })
    else if bytes_eq word (codes "--threads") then said true rest
    else if bytes_eq (take 10 word) (codes "--threads=") then option_map (with_threads (drop 10 word)) (said false rest)
    else if has_dash word then None
    else option_map (with_word word) (said false rest)

-- ---- what a word looks like

pub record LooksRefused (word : List ℕ) : Type 0 where
  pub no_end : bytes_eq word (codes "--") ≡ false
  pub not_apart : bytes_eq word (codes "--threads") ≡ false
  pub not_joined : bytes_eq (take 10 word) (codes "--threads=") ≡ false
  pub dash : has_dash word ≡ true
  pub says : (rest : List (List ℕ)) → said false (word ∷ rest) ≡ None

pub record LooksPlain (word : List ℕ) : Type 0 where
  pub no_end : bytes_eq word (codes "--") ≡ false
  pub dash : has_dash word ≡ false
  pub says : (rest : List (List ℕ)) → said false (word ∷ rest) ≡ option_map (with_word word) (said false rest)

-- a word of these sorts, where one that is refused and one that is plain are known to be so
pub data Look (Refused Plain : Type 0) (word : List ℕ) : Type 0 where
  is_end : word ≡ codes "--" → Look Refused Plain word
  is_apart : word ≡ codes "--threads" → Look Refused Plain word
  is_joined : (text : List ℕ) → word ≡ codes "--threads=" ++ text → Look Refused Plain word
  is_refused : Refused → Look Refused Plain word
  is_plain : Plain → Look Refused Plain word

pub look : (word : List ℕ) → Look (LooksRefused word) (LooksPlain word) word
look word = go (bytes_eq word (codes "--")) (bytes_eq word (codes "--threads")) (bytes_eq (take 10 word) (codes "--threads="))
    (has_dash word) refl refl refl refl
  where
    go : (e a j d : Bool) → bytes_eq word (codes "--") ≡ e → bytes_eq word (codes "--threads") ≡ a
        → bytes_eq (take 10 word) (codes "--threads=") ≡ j → has_dash word ≡ d → Look (LooksRefused word) (LooksPlain word) word
    go true a j d e1 e2 e3 e4 = is_end ((bytes_eq-Decides word (codes "--")).0 e1)
    go false true j d e1 e2 e3 e4 = is_apart ((bytes_eq-Decides word (codes "--threads")).0 e2)
    go false false true d e1 e2 e3 e4 =
        is_joined (drop 10 word) (sym (take-append-drop 10 word) ∙ ap (λ (l : List ℕ). l ++ drop 10 word)
        ((bytes_eq-Decides (take 10 word) (codes "--threads=")).0 e3))
    go false false false true e1 e2 e3 e4 = is_refused (record {
      no_end = e1;
      not_apart = e2;
      not_joined = e3;
      dash = e4;
      says = λ rest. rw (e1, e2, e3, e4) refl;
    })
    go false false false false e1 e2 e3 e4 = is_plain (record { no_end = e1; dash = e4; says = λ rest. rw (e1, e2, e3, e4) refl })

pub is_dash : (b : ℕ) → (b == 45) ≡ true → b ≡ 45
is_dash b e = grind (arith, nat_tests)

no_dash : (b : ℕ) → (b == 45) ≡ false → b ≢ 45
no_dash b e = grind (arith, nat_tests)

dashless : (b : ℕ) → b ≢ 45 → (b == 45) ≡ false
dashless b e = grind (arith, nat_tests)

plain_from_dash : (word : List ℕ) → has_dash word ≡ false → IsPlain word
plain_from_dash [] d = inl (λ e. absurd (omega arith))
plain_from_dash (x ∷ []) d = go (x == 45) refl
  where
    go : (t : Bool) → (x == 45) ≡ t → IsPlain (x ∷ [])
    go true e = inr (ap (λ (n : ℕ). n ∷ []) (is_dash x e))
    go false e = inl (no_dash x e)
plain_from_dash (x ∷ y ∷ rest) d = inl (no_dash x d)

dash_from_plain : (word : List ℕ) → IsPlain word → has_dash word ≡ false
dash_from_plain [] p = refl
dash_from_plain (x ∷ []) p = refl
dash_from_plain (x ∷ y ∷ rest) (inl n) = dashless x n
dash_from_plain (x ∷ y ∷ rest) (inr e) = cc

-- a plain word says itself
says_itself : (word : List ℕ) → has_dash word ≡ false → (rest : List (List ℕ)) → said false (word ∷ rest) ≡ option_map (with_word word)
    (said false rest)
says_itself word d rest = elim (look word) [
  | is_end e ↦ let bad : true ≡ false = subst (λ (w : List ℕ). has_dash w ≡ false) e d in cc
  | is_apart e ↦ let bad : true ≡ false = subst (λ (w : List ℕ). has_dash w ≡ false) e d in cc
  | is_joined text e ↦ let bad : true ≡ false = subst (λ (w : List ℕ). has_dash w ≡ false) e d in cc
  | is_refused k ↦ let bad : true ≡ false = sym k.dash ∙ d in cc
  | is_plain k ↦ k.says rest
]

-- ---- the function and the definition

abbrev pub uses : Option (List ℕ) → List (List ℕ)
uses None = []
uses (Some text) = text ∷ []

abbrev pub first_use : List (List ℕ) → Option (List ℕ)
first_use [] = None
first_use (text ∷ more) = Some text

-- the function gives what the words say
pub said_from_Say : (words : List (List ℕ)) (text : Option (List ℕ)) (names : List (List ℕ)) → Say words text names
    → said false words ≡ Some (record { threads = uses text; words = names })
said_from_Say _ _ _ nothing = refl
said_from_Say _ _ _ (apart {words} {names} text p s) = rw (dash_from_plain text p, said_from_Say words None names s) refl
said_from_Say _ _ _ (joined {words} {names} text s) = rw (said_from_Say words None names s) refl
said_from_Say _ _ _ (name {text} {words} {names} word p s) = rw
    (says_itself word (dash_from_plain word p) words, said_from_Say words text names s) refl
said_from_Say _ _ _ only_names = refl

-- one use at most
abbrev pub IsOnce : Said → Type 0
IsOnce s = nat_le (length s.threads) 1 ≡ true

abbrev SaysFrom : List (List ℕ) → Said → Type 0
SaysFrom words s = Say words (first_use s.threads) s.words

mapped : (f : Said → Said) (o : Option Said) (s : Said) → option_map f o ≡ Some s → (r : Said) × (o ≡ Some r) × (f r ≡ s)
mapped f None s e = cc
mapped f (Some r) s e = (r, refl, ap (λ o. unwrap_or o (f r)) e)

same_said : (r s : Said) → Some r ≡ Some s → r ≡ s
same_said r s e = ap (λ o. unwrap_or o r) e

-- after a use there is none
one_use : (text : List ℕ) (more : List (List ℕ)) → nat_le (length (text ∷ more)) 1 ≡ true → more ≡ []
one_use text [] e = refl
one_use text (x ∷ xs) e =
    let bad : nat_le (length (text ∷ x ∷ xs)) 1 ≡ false = grind (arith, nat_tests) in
    cc

abbrev FromOpen : List (List ℕ) → Type 0
FromOpen words = (s : Said) → said false words ≡ Some s → IsOnce s → SaysFrom words s

abbrev FromWanted : List (List ℕ) → Type 0
FromWanted words = (s : Said) → said true words ≡ Some s → IsOnce s → SaysFrom (codes "--threads" ∷ words) s

-- what is said after a use
behind : (rest : List (List ℕ)) → FromOpen rest → (text : List ℕ) (r : Said) → said false rest ≡ Some r → IsOnce (with_threads text r)
    → Say rest None r.words
behind rest later text r e once =
    let none : r.threads ≡ [] = one_use text r.threads once in
    let few : IsOnce r = rw none refl in
    subst (λ (l : List (List ℕ)). Say rest (first_use l) r.words) none (later r e few)

from_open : (w : List ℕ) (rest : List (List ℕ)) → FromOpen rest → FromWanted rest → FromOpen (w ∷ rest)
from_open w rest later wants s e once = elim (look w) [
  | is_end k ↦
      let now = subst (λ (x : List ℕ). said false (x ∷ rest) ≡ Some s) k e in
      subst (λ (x : List ℕ). SaysFrom (x ∷ rest) s) (sym k) (subst (λ (r : Said). SaysFrom (codes "--" ∷ rest) r)
      (same_said (record { threads = []; words = rest }) s now) only_names)
  | is_apart k ↦
      let now = subst (λ (x : List ℕ). said false (x ∷ rest) ≡ Some s) k e in
      subst (λ (x : List ℕ). SaysFrom (x ∷ rest) s) (sym k) (wants s now once)
  | is_joined text k ↦
      let now = subst (λ (x : List ℕ). said false (x ∷ rest) ≡ Some s) k e in
      let m = mapped (with_threads text) (said false rest) s now in
      let few : IsOnce (with_threads text m.0) = subst IsOnce (sym m.2) once in
      subst (λ (x : List ℕ). SaysFrom (x ∷ rest) s) (sym k)
      (subst (λ (r : Said). SaysFrom ((codes "--threads=" ++ text) ∷ rest) r) m.2 (joined text (behind rest later text m.0 m.1 few)))
  | is_refused k ↦
      let bad : None ≡ Some s = sym (k.says rest) ∙ e in
      cc
  | is_plain k ↦
      let m = mapped (with_word w) (said false rest) s (sym (k.says rest) ∙ e) in
      let few : IsOnce m.0 = subst IsOnce (sym m.2) once in
      subst (λ (r : Said). SaysFrom (w ∷ rest) r) m.2 (name w (plain_from_dash w k.dash) (later m.0 m.1 few))
]

from_wanted : (w : List ℕ) (rest : List (List ℕ)) → FromOpen rest → FromWanted (w ∷ rest)
from_wanted w rest later s e once = go (has_dash w) refl
  where
    go : (t : Bool) → has_dash w ≡ t → SaysFrom (codes "--threads" ∷ w ∷ rest) s
    go true d =
        let bad : None ≡ Some s = rw d at e in
        cc
    go false d =
        let m = mapped (with_threads w) (said false rest) s (rw d at e) in
        let few : IsOnce (with_threads w m.0) = subst IsOnce (sym m.2) once in
        subst (λ (r : Said). SaysFrom (codes "--threads" ∷ w ∷ rest) r) m.2 (apart w (plain_from_dash w d) (behind rest later w m.0 m.1 few))

from_both : (words : List (List ℕ)) → FromOpen words × FromWanted words
from_both [] = (
  λ s e once. subst (λ (r : Said). SaysFrom [] r) (same_said (record { threads = []; words = [] }) s e) nothing,
  λ s e once. let bad : None ≡ Some s = e in cc,
)
from_both (w ∷ rest) =
    let later = from_both rest in
    (from_open w rest later.0 later.1, from_wanted w rest later.0)

-- the words say what the function gives, if it is one use at most
pub Say_from_said : (words : List (List ℕ)) (s : Said) → said false words ≡ Some s → IsOnce s → Say words (first_use s.threads) s.words
Say_from_said words = (from_both words).0

first_of_uses : (text : Option (List ℕ)) → first_use (uses text) ≡ text
first_of_uses None = refl
first_of_uses (Some text) = refl

-- words say one thing at most
pub one_saying : (words : List (List ℕ)) (text more : Option (List ℕ)) (names others : List (List ℕ)) → Say words text names → Say words more others
    → (text ≡ more) × (names ≡ others)
one_saying words text more names others s o =
    let same = same_said (record { threads = uses text; words = names }) (record { threads = uses more; words = others })
    (sym (said_from_Say words text names s) ∙ said_from_Say words more others o) in
    (sym (first_of_uses text) ∙ (ap (λ (r : Said). first_use r.threads) same ∙ first_of_uses more), ap (λ (r : Said). r.words) same)
