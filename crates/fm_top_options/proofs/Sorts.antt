-- What sort of word a word is, to the definition of the form and to the command.
use Rattle.std.proofs.Common.{◌≡◌, ◌∙◌, ◌++◌, ◌∷◌, ◌⊎◌, inl, inr, ℕ, ◌<◌, ◌≤◌, ◌==◌, Bool, true, false, List, [], Option, Some, None, refl, ap, sym, subst, arith, bytes_eq, codes, take, length, get_or, IsUtf8, chars, encode_utf8_all}
use Rattle.std.{specs.List.{position_or_len, before_first, after_first}, proofs.lemmas.Bool.Decides.{nat_tests}}
use Rattle.std.proofs.lemmas.{List.Sums.{split_at_first, passes_at_first, fails_before_first}, Slice.Eq.{bytes_eq-Decides}}
use Rattle.std.proofs.lemmas.Str.{encodes-chars, IsUtf8-drop, IsCharBoundary-after_ascii}
use Rattle.clap.specs.{Lexer.{long_of, short_of, name_and_value, has_byte}, Walk.{Held, Row, Text}, Faults.{flag_word_fault, flags_fault}}
use Rattle.clap.proofs.{CutLemmas.{Lacks, list_any-at}, LexerLemmas.{name_and_value-without}}
use Rattle.fm_top_options.proofs.Said.{Look, LooksPlain, LooksRefused, has_dash, is_apart, is_dash, is_end, is_joined, is_plain, is_refused, look}
use Rattle.fm_top_options.proofs.{Built.{rules}, Faulty.{IsFault}}

-- what is held between two words
abbrev pub held : List Row → Option (Text × List Text) → Held
held rows p = record { rows = rows; pending = p; skip = 0 }

-- an option that the command lacks
pub record IsUnknown (word : List ℕ) : Type 0 where
  pub looks : LooksRefused word
  pub fault : (rows : List Row) (p : Option (Text × List Text)) → IsFault (flag_word_fault rules false (long_of word) word (held rows p))

-- no option
pub record IsPlain (word : List ℕ) : Type 0 where
  pub looks : LooksPlain word
  pub long : long_of word ≡ None
  pub short : short_of word ≡ None

abbrev pub Sort : List ℕ → Type 0
Sort word = Look (IsUnknown word) (IsPlain word) word

-- ---- a name and its value

abbrev cuts : ℕ → Bool
cuts b = b == 61

-- a text has no `=`, or is cut at its first one
abbrev IsCut : List ℕ → Type 0
IsCut text = (name_and_value text ≡ (text, None))
    ⊎ ((name : List ℕ) × (value : List ℕ) × (text ≡ name ++ 61 ∷ value) × (name_and_value text ≡ (name, Some value)))

cut : (text : List ℕ) → IsCut text
cut text = elim (order (position_or_len cuts text) (length text)) [
  | inl lt ↦
      let is : get_or text (position_or_len cuts text) 0 ≡ 61 = let p : cuts
      (get_or text (position_or_len cuts text) 0) ≡ true = passes_at_first cuts text 0 lt in grind (arith, nat_tests) in
      let split : text ≡ before_first cuts text ++ 61 ∷ after_first cuts text = rw is at (split_at_first cuts text 0 lt) in
      let has : has_byte 61 text ≡ true = subst (λ (t : List ℕ). has_byte 61 t ≡ true) (sym split)
      (list_any-at 61 (before_first cuts text) (after_first cuts text)) in
      inr (before_first cuts text, after_first cuts text, split, rw has refl)
  | inr le ↦
      let lacks : Lacks 61 text = λ k lt. let fails : cuts (get_or text k 0) ≡ false = fails_before_first cuts text k 0 (omega arith) in grind
      (arith, nat_tests) in
      inl (name_and_value-without text lacks)
]
  where
    order : (a b : ℕ) → (a < b) ⊎ (b ≤ a)
    order a b = grind arith

unequal : (a b : List ℕ) → (a ≡ b → ⊥) → bytes_eq a b ≡ false
unequal a b differs = go (bytes_eq a b) refl
  where
    go : (t : Bool) → bytes_eq a b ≡ t → bytes_eq a b ≡ false
    go true e = absurd (differs ((bytes_eq-Decides a b).0 e))
    go false e = e

-- ---- what begins with two dashes

-- a long option that isn't `--threads` is unknown
unknown_long : (rest : List ℕ) (name : List ℕ) (value : Option (List ℕ)) (rows : List Row) (p : Option (Text × List Text))
    → long_of (45 ∷ 45 ∷ rest) ≡ Some (name, value) → bytes_eq (codes "threads") name ≡ false
    → IsFault (flag_word_fault rules false (long_of (45 ∷ 45 ∷ rest)) (45 ∷ 45 ∷ rest) (held rows p))
unknown_long rest name value rows p e differs = rw (e, differs) tt

abbrev two : ℕ → List ℕ → List ℕ
two b rest = 45 ∷ 45 ∷ b ∷ rest

fault_long : (b : ℕ) (rest : List ℕ) (rows : List Row) (p : Option (Text × List Text))
    → bytes_eq (two b rest) (codes "--threads") ≡ false → bytes_eq (take 10 (two b rest)) (codes "--threads=") ≡ false
    → IsFault (flag_word_fault rules false (long_of (two b rest)) (two b rest) (held rows p))
fault_long b rest rows p not-apart not-joined = elim (cut (b ∷ rest)) [
  | inl e ↦ unknown_long (b ∷ rest) (b ∷ rest) None rows p (ap Some e)
      (unequal (codes "threads") (b ∷ rest) (λ same. false_true
      (subst (λ (l : List ℕ). bytes_eq (45 ∷ 45 ∷ l) (codes "--threads") ≡ false) (sym same) not-apart)))
  | inr w ↦ unknown_long (b ∷ rest) w.0 (Some w.1) rows p (ap Some w.3) (unequal (codes "threads") w.0 (λ same.
      let whole : b ∷ rest ≡ codes "threads=" ++ w.1 = w.2 ∙ ap (λ (l : List ℕ). l ++ 61 ∷ w.1) (sym same) in
      let word : two b rest ≡ codes "--threads=" ++ w.1 = ap (λ (l : List ℕ). 45 ∷ 45 ∷ l) whole in
      let bad : bytes_eq (take 10 (codes "--threads=" ++ w.1)) (codes "--threads=") ≡ false = subst
      (λ (l : List ℕ). bytes_eq (take 10 l) (codes "--threads=") ≡ false) word not-joined in
      false_true bad))
]
  where
    false_true : true ≡ false → ⊥
    false_true e = cc

-- ---- what begins with one dash

fault_short : (b : ℕ) (rest : List ℕ) (rows : List Row) (p : Option (Text × List Text)) → (b == 45) ≡ false → IsUtf8 (b ∷ rest)
    → IsFault (flag_word_fault rules false (long_of (45 ∷ b ∷ rest)) (45 ∷ b ∷ rest) (held rows p))
unfolding flags_fault
fault_short b rest rows p single u = go (chars (b ∷ rest)) refl
  where
    go : (cs : List ℕ) → chars (b ∷ rest) ≡ cs → IsFault (flag_word_fault rules false (long_of (45 ∷ b ∷ rest)) (45 ∷ b ∷ rest) (held rows p))
    go [] e =
        let bad : [] ≡ b ∷ rest = ap encode_utf8_all (sym e) ∙ encodes-chars (b ∷ rest) u in
        cc
    go (c ∷ cs) e = simp (single, e) tt

-- ---- all words

abbrev IsRefused : List ℕ → Type 0
IsRefused word = IsUtf8 word → bytes_eq word (codes "--") ≡ false → bytes_eq word (codes "--threads") ≡ false
    → bytes_eq (take 10 word) (codes "--threads=") ≡ false
    → (rows : List Row) (p : Option (Text × List Text)) → IsFault (flag_word_fault rules false (long_of word) word (held rows p))

after_two : (rest : List ℕ) → IsRefused (45 ∷ 45 ∷ rest)
after_two [] u e a j rows p = cc
after_two (b ∷ rest) u e a j rows p = fault_long b rest rows p a j

after_one : (b : ℕ) (rest : List ℕ) → IsRefused (45 ∷ b ∷ rest)
after_one b rest = go (b == 45) refl
  where
    go : (t : Bool) → (b == 45) ≡ t → IsRefused (45 ∷ b ∷ rest)
    go true same = subst (λ (n : ℕ). IsRefused (45 ∷ n ∷ rest)) (sym (is_dash b same)) (after_two rest)
    go false single = λ u e a j rows p. fault_short b rest rows p single
        (IsUtf8-drop (45 ∷ b ∷ rest) 1 u (IsCharBoundary-after_ascii (45 ∷ b ∷ rest) 0 u (omega arith) (omega arith)))

dashed : (word : List ℕ) → has_dash word ≡ true → IsRefused word
dashed [] d = cc
dashed (x ∷ []) d = cc
dashed (x ∷ b ∷ rest) d = subst (λ (n : ℕ). IsRefused (n ∷ b ∷ rest)) (sym (is_dash x d)) (after_one b rest)

plain_word : (word : List ℕ) → has_dash word ≡ false → (long_of word ≡ None) × (short_of word ≡ None)
plain_word [] d = (refl, refl)
plain_word (x ∷ []) d = go (x == 45) refl
  where
    go : (t : Bool) → (x == 45) ≡ t → (long_of (x ∷ []) ≡ None) × (short_of (x ∷ []) ≡ None)
    go true e = (rw e refl, rw e refl)
    go false e = (rw e refl, rw e refl)
plain_word (x ∷ y ∷ rest) d = (rw d refl, rw d refl)

pub sort_of : (word : List ℕ) → IsUtf8 word → Sort word
sort_of word u = elim (look word) [
  | is_end e ↦ is_end e
  | is_apart e ↦ is_apart e
  | is_joined text e ↦ is_joined text e
  | is_refused k ↦ is_refused (record { looks = k; fault = dashed word k.dash u k.no_end k.not_apart k.not_joined })
  | is_plain k ↦ let looks = plain_word word k.dash in is_plain (record { looks = k; long = looks.0; short = looks.1 })
]
