-- A line is read as what it says, and says what it is read as.
use Rattle.std.proofs.Common.{◌≡◌, refl, sym, ap, subst, ◌∙◌, ℕ, true, false, Option, Some, None, List, [], ◌∷◌, not, eqb, if◌then◌else◌, arith, codes}
use Rattle.std.{specs.{List.{list_all}, Option.{option_zip, option_map, option_and_then}, Str.{bytes_eq}}, proofs.lemmas.Bool.{cond_both, false_from_ne_true}}
use Rattle.std.proofs.lemmas.{Option.{none-some, same_Some, option_and_then_some}, Slice.Eq.{bytes_eq-Decides}}
use Rattle.fm_script_text.proofs.Arguments.{free_tested, free_decimal, map_some, zip_parts, name_gives, opening_row, opening_gives, two_row, two_gives, filled_row, filled_gives, sized_row, sized_gives, got_row, got_gives, valued_row, valued_gives, swapped_row, swapped_gives}
use Rattle.fm_script_text.proofs.{Cuts.{IsFree, cut3_row, cut3_gives, row3}, Spelling.{named_name, named_who, who_is, small_value}}
use Rattle.fm_script_text.specs.declared.{close_by.CloseBy.TheVariants.{Visits, Polls}, command.Command.{Command}}
use Rattle.fm_script_text.specs.declared.command.Command.TheVariants.{Open, Alloc, Slice, Readonly, Get, Set, Add, Cas, Fill, Copy, Mismatch, Alive, Hold, Unhold, Again, Back, Close}
use Rattle.fm_script_text.specs.{declared.{who.Who.{Who, TheVariants.{First, Worker, Last}}, line.Line.{Line}}, Rules.{IsAdmitted}}
use Rattle.fm_script_text.specs.{Reader.{who_named, cut3, command_named, line_named}, Syntax.{Says, who_text, words_of, spaced, IsWho, IsSpelled}}

-- the verb and the arguments are the command's
pub record Spells (verb args : List ℕ) (c : Command) : Type 0 where
  pub is_spelled : IsSpelled c
  pub text : (who : List ℕ) → row3 (who, verb, args) ≡ spaced (who ∷ words_of c)

-- the first of the words, and the others in a row
abbrev verb_in : List (List ℕ) → List ℕ
verb_in [] = []
verb_in (verb ∷ words) = verb

abbrev args_in : List (List ℕ) → List ℕ
args_in [] = []
args_in (verb ∷ words) = spaced words

abbrev verb_of : Command → List ℕ
verb_of c = verb_in (words_of c)

abbrev args_of : Command → List ℕ
args_of c = args_in (words_of c)

-- a command's words are a verb without spaces and arguments, which are read as it
pub record IsRead (c : Command) : Type 0 where
  pub free : IsFree 32 (verb_of c)
  pub named : command_named (verb_of c) (args_of c) ≡ Some c
  pub text : (who : List ℕ) → row3 (who, verb_of c, args_of c) ≡ spaced (who ∷ words_of c)

-- a verb is tested for spaces by computing
read : {c : Command} → list_all (λ b. not (eqb b 32)) (verb_of c) ≡ true → command_named (verb_of c) (args_of c) ≡ Some c
    → ((who : List ℕ) → row3 (who, verb_of c, args_of c) ≡ spaced (who ∷ words_of c)) → IsRead c
read {c} tested named text = record { free = free_tested (verb_of c) tested; named = named; text = text }

-- ---- each command is read as itself

-- a command that has a spelling is read from it
pub reads : (c : Command) → IsSpelled c → IsRead c
reads (Open name kind) h = read refl (ap (option_map (λ x. Open x.0 x.1)) (opening_row name kind h)) (λ who. refl)
reads (Alloc a b size align) h = read refl (ap (option_map (λ x. Alloc x.0.0 x.0.1 x.1.0 x.1.1)) (sized_row a b size align h.0 h.1 h.2 h.3)) (λ who. refl)
reads (Slice a b offset size) h = read refl (ap (option_map (λ x. Slice x.0.0 x.0.1 x.1.0 x.1.1)) (sized_row a b offset size h.0 h.1 h.2 h.3)) (λ who. refl)
reads (Readonly segment name) h = read refl (ap (option_map (λ x. Readonly x.0 x.1)) (two_row segment name h.0 h.1)) (λ who. refl)
reads (Get c) h = read refl (ap (option_map (λ x. Get x)) (got_row c h)) (λ who. refl)
reads (Set c value) h = read refl (ap (option_map (λ x. Set x.0 x.1)) (valued_row c value h.0 h.1)) (λ who. refl)
reads (Add c value) h = read refl (ap (option_map (λ x. Add x.0 x.1)) (valued_row c value h.0 h.1)) (λ who. refl)
reads (Cas c old new) h =
    read refl (ap (option_map (λ x. Cas x.0 x.1 x.2)) (swapped_row c old new h.0 h.1 h.2 (small_value c.kind old h.1))) (λ who. refl)
reads (Fill segment byte) h = read refl (ap (option_map (λ x. Fill x.0 x.1)) (filled_row segment byte h.0 h.1)) (λ who. refl)
reads (Copy source target) h = read refl (ap (option_map (λ x. Copy x.0 x.1)) (two_row source target h.0 h.1)) (λ who. refl)
reads (Mismatch segment other) h = read refl (ap (option_map (λ x. Mismatch x.0 x.1)) (two_row segment other h.0 h.1)) (λ who. refl)
reads (Alive arena) h = read refl (ap (option_map (λ x. Alive x)) (named_name arena h)) (λ who. refl)
reads (Hold arena name) h = read refl (ap (option_map (λ x. Hold x.0 x.1)) (two_row arena name h.0 h.1)) (λ who. refl)
reads (Unhold hold) h = read refl (ap (option_map (λ x. Unhold x)) (named_name hold h)) (λ who. refl)
reads (Again handle name) h = read refl (ap (option_map (λ x. Again x.0 x.1)) (two_row handle name h.0 h.1)) (λ who. refl)
reads (Back handle) h = read refl (ap (option_map (λ x. Back x)) (named_name handle h)) (λ who. refl)
reads (Close arena Visits) h = read refl (ap (option_map (λ x. Close x Visits)) (named_name arena h)) (λ who. refl)
reads (Close arena Polls) h = read refl (ap (option_map (λ x. Close x Polls)) (named_name arena h)) (λ who. refl)

-- ---- and what is read spells the command

-- what is read of a verb and arguments is spelled by them
abbrev Sound : List ℕ → List ℕ → Option Command → Type 0
Sound verb args o = (c : Command) → o ≡ Some c → Spells verb args c

module _ (verb args : List ℕ) where
  -- a verb whose arguments are read spells what they are read as, and else what another verb is read as
  named_by : {A : Type 0} (text : List ℕ) (f : A → Command) (words : A → List ℕ) (o : Option A) {other : Option Command}
      → ((x : A) (who : List ℕ) → row3 (who, text, words x) ≡ spaced (who ∷ words_of (f x)))
      → ((x : A) → o ≡ Some x → (args ≡ words x) × IsSpelled (f x)) → Sound verb args other
      → Sound verb args (if bytes_eq verb text then option_map f o else other)
  named_by text f words o row gives others =
      cond_both (bytes_eq verb text) (option_map f o) _ (Sound verb args)
      (λ t c e. map_some f o c e (λ x g s.
      let k = gives x g in
      subst (Spells verb args) s (record {
        is_spelled = k.1;
        text = λ who. rw ((bytes_eq-Decides verb text).0 t, k.0) (row x who);
      })))
      (λ _. others)

  -- whatever the verb is
  pub named_spells : Sound verb args (command_named verb args)
  named_spells =
      named_by (codes "open") (λ x. Open x.0 x.1) _ _ (λ x who. refl) (opening_gives args) (
      named_by (codes "alloc") (λ x. Alloc x.0.0 x.0.1 x.1.0 x.1.1) _ _ (λ x who. refl) (sized_gives args) (
      named_by (codes "slice") (λ x. Slice x.0.0 x.0.1 x.1.0 x.1.1) _ _ (λ x who. refl) (sized_gives args) (
      named_by (codes "readonly") (λ x. Readonly x.0 x.1) _ _ (λ x who. refl) (two_gives args) (
      named_by (codes "get") (λ x. Get x) _ _ (λ x who. refl) (got_gives args) (
      named_by (codes "set") (λ x. Set x.0 x.1) _ _ (λ x who. refl) (valued_gives args) (
      named_by (codes "add") (λ x. Add x.0 x.1) _ _ (λ x who. refl) (valued_gives args) (
      named_by (codes "cas") (λ x. Cas x.0 x.1 x.2) _ _ (λ x who. refl) (swapped_gives args) (
      named_by (codes "fill") (λ x. Fill x.0 x.1) _ _ (λ x who. refl) (filled_gives args) (
      named_by (codes "copy") (λ x. Copy x.0 x.1) _ _ (λ x who. refl) (two_gives args) (
      named_by (codes "mismatch") (λ x. Mismatch x.0 x.1) _ _ (λ x who. refl) (two_gives args) (
      named_by (codes "alive") (λ x. Alive x) _ _ (λ x who. refl) (name_gives args) (
      named_by (codes "hold") (λ x. Hold x.0 x.1) _ _ (λ x who. refl) (two_gives args) (
      named_by (codes "unhold") (λ x. Unhold x) _ _ (λ x who. refl) (name_gives args) (
      named_by (codes "again") (λ x. Again x.0 x.1) _ _ (λ x who. refl) (two_gives args) (
      named_by (codes "back") (λ x. Back x) _ _ (λ x who. refl) (name_gives args) (
      named_by (codes "close") (λ x. Close x Visits) _ _ (λ x who. refl) (name_gives args) (
      named_by (codes "closepoll") (λ x. Close x Polls) _ _ (λ x who. refl) (name_gives args) (λ c e. absurd (cc)))))))))))))))))))

-- ---- lines

-- who runs a line is said without spaces
free_who : (who : Who) → IsWho who → IsFree 32 (who_text who)
free_who First h = free_tested (codes "first") refl
free_who Last h = free_tested (codes "last") refl
free_who (Worker n) h = free_decimal n (omega (arith, h.1))

-- a line is read as what it says
pub says_named : (text : List ℕ) (who : Who) (c : Command) → Says text who c → line_named text ≡ Some (who, c)
says_named text who c s =
    let r = reads c s.is_spelled in
    let e : text ≡ row3 (who_text who, verb_of c, args_of c) = s.spelled ∙ sym (r.text (who_text who)) in
    ap line_named e ∙ ap (option_and_then (λ x. option_zip (who_named x.0) (command_named x.1 x.2)))
    (cut3_row (who_text who) (verb_of c) (args_of c) (free_who who s.is_who) r.free)
    ∙ rw (named_who who s.is_who, r.named) refl

-- and says what it is read as
pub named_says : (text : List ℕ) (x : Who × Command) → line_named text ≡ Some x → Says text x.0 x.1
named_says text x e = option_and_then_some (λ y. option_zip (who_named y.0) (command_named y.1 y.2)) (cut3 text) x e (λ y f g.
    let z = zip_parts (who_named y.0) (command_named y.1 y.2) x g in
    let w = who_is y.0 x.0 z.0 in
    let k = named_spells y.1 y.2 x.1 z.1 in
    record {
      is_who = w.0;
      is_spelled = k.is_spelled;
      spelled = cut3_gives text y f ∙ k.text y.0 ∙ ap (λ (v : List ℕ). spaced (v ∷ words_of x.1)) w.1;
    })

-- the test for a text that the verb isn't
pub differs : (verb text : List ℕ) → (verb ≡ text → ⊥) → bytes_eq verb text ≡ false
differs verb text none = false_from_ne_true _ (λ t. none ((bytes_eq-Decides verb text).0 t))

-- ---- what isn't a line

-- a line that is read as nothing says nothing
pub unsaid : (line text : List ℕ) (found : Option (Who × Command)) → found ≡ line_named text → text ≡ line → found ≡ None → (who : Who) (c : Command)
    → Says line who c → ⊥
unsaid line text found is same none who c says =
    none-some (who, c) (sym none ∙ is ∙ ap line_named same ∙ says_named line who c says)

-- a line says what it is read as
pub said : (line text : List ℕ) (found : Option (Who × Command)) (who : Who) (c : Command) → found ≡ line_named text → text ≡ line → found ≡ Some (who, c)
    → Says line who c
said line text found who c is same some = named_says line (who, c) (ap line_named (sym same) ∙ sym is ∙ some)

-- what isn't admitted of a line isn't, whoever reads it
pub not_admitted : (text : List ℕ) (who : Who) (c : Command) (before : List Line) → Says text who c → (IsAdmitted before who c → ⊥)
    → (l : Line) → Says text l.who l.command → IsAdmitted before l.who l.command → ⊥
not_admitted text who c before says none l other admitted =
    let same : ◌≡◌ {A = Option (Who × Command)} (Some (l.who, l.command)) (Some (who, c)) =
    sym (says_named text l.who l.command other) ∙ says_named text who c says in
    none (subst (λ (x : Who × Command). IsAdmitted before x.0 x.1) (same_Some (l.who, l.command) (who, c) same) admitted)
