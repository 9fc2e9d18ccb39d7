-- Lines are taken one after the other.
use Rattle.std.proofs.Common.{◌≡◌, ℕ, refl, sym, ap, subst, ◌∙◌, ◌+◌, max, Bool, true, false, not, Some, None, List, [], ◌∷◌, ◌++◌, map, arith, append_assoc}
use Rattle.std.{specs.{Prelude.{find}, List.{AllByRecursion}}, proofs.lemmas.{Bool.{cond_both, not-true, not-false}, List.{append-nil}, Option.{same_Some}}}
use Rattle.fm_base.specs.declared.refusal.Refusal.{Refusal, TheVariants.{BadScript, Memory}}
use Rattle.fm_script_text.specs.{declared.{line.Line.{Line}, names.Names.{Names}}, Knowing.{Knows}, Rules.{IsAdmitted, pass_of, passes_of}}
use Rattle.fm_script_text.specs.{Scripts.{AreAdmitted, AreLines, IsSaid, Source, source, source_of}, Taking.{AreNoLines, IsNoLine}}

-- ---- one line more

-- what holds of all and of one more holds of all with it
all_more : {A : Type 0} (P : A → Type 0) (xs : List A) (x : A) → AllByRecursion P xs → P x → AllByRecursion P (xs ++ x ∷ [])
all_more P [] x h p = (p, tt)
all_more P (y ∷ ys) x h p = (h.0, all_more P ys x h.1 p)

-- lines and one more that is admitted behind them are admitted
admitted_more : (before ls : List Line) (l : Line) → AreAdmitted before ls → IsAdmitted (before ++ ls) l.who l.command → AreAdmitted before (ls ++ l ∷ [])
admitted_more before [] l h p = (subst (λ (b : List Line). IsAdmitted b l.who l.command) (append-nil before) p, tt)
admitted_more before (m ∷ ls) l h p =
    (h.0, admitted_more (before ++ m ∷ []) ls l h.1 (subst (λ (b : List Line). IsAdmitted b l.who l.command) (sym (append_assoc before (m ∷ []) ls)) p))

-- lines and one more break no rule
pub lines_more : (ls : List Line) (l : Line) → AreLines (map source_of ls) ls → IsSaid l → IsAdmitted ls l.who l.command
    → AreLines (map source_of (ls ++ l ∷ [])) (ls ++ l ∷ [])
lines_more ls l lines said admitted = record {
  are = refl;
  said = all_more IsSaid ls l lines.said said;
  admitted = admitted_more [] ls l lines.admitted admitted;
}

-- the sources that are left behind one line more
pub left_more : (all : List Source) (ls : List Line) (l : Line) (s : Source) (left more : List Source) → all ≡ map source_of ls ++ left → left ≡ s ∷ more
    → source_of l ≡ s → all ≡ map source_of (ls ++ l ∷ []) ++ more
left_more all ls l s left more e f g =
    e ∙ ap (λ t. map source_of ls ++ t) (f ∙ ap (λ t. t ∷ more) (sym g)) ∙ sym (append_assoc (map source_of ls) (source_of l ∷ []) more)
    ∙ ap (λ t. t ++ more) (sym (mapped ls l))
  where
    mapped : (ls : List Line) (l : Line) → map source_of (ls ++ l ∷ []) ≡ map source_of ls ++ source_of l ∷ []
    mapped [] l = refl
    mapped (m ∷ ls) l = ap (λ t. source_of m ∷ t) (mapped ls l)

-- ---- a line that isn't taken

-- Why it isn't, all lines aren't.
pub none_taken : (all : List Source) (ls : List Line) (names : Names) (number : ℕ) (text : List ℕ) (left : List Source) (r : Refusal)
    → all ≡ map source_of ls ++ source number text ∷ left → AreLines (map source_of ls) ls → Knows names ls → IsNoLine number text names r
    → AreNoLines all r
none_taken all ls names number text left (BadScript line) are lines knows h = record {
  before = ls;
  text = text;
  rest = left;
  lines = lines;
  are = are ∙ ap (λ (n : ℕ). map source_of ls ++ source n text ∷ left) (sym h.0);
  breaks = λ l says admitted. h.1 ls knows l says admitted;
}
none_taken all ls names number text left Memory are lines knows h = record {
  before = ls;
  line = record { number = number; text = text; who = h.who; command = h.command };
  rest = left;
  lines = lines;
  are = are;
  said = h.says;
  admitted = h.admitted ls knows;
}
none_taken all ls names number text left r are lines knows h = absurd h

-- ---- the passes

-- a line more needs the passes up to its own
pub passes_more : (ls : List Line) (l : Line) → passes_of (ls ++ l ∷ []) ≡ max (passes_of ls) (pass_of l.who + 1)
passes_more [] l = omega arith
passes_more (m ∷ ls) l = ap (max (pass_of m.who + 1)) (passes_more ls l) ∙ omega arith

-- ---- what isn't given back

-- what passes a test fails the other
pub found_none : {A : Type 0} (p : A → Bool) (xs : List A) → find (λ x. not (p x)) xs ≡ None → AllByRecursion (λ x. p x ≡ true) xs
found_none p [] e = tt
found_none p (x ∷ xs) e =
    cond_both (not (p x)) (Some x) (find (λ x. not (p x)) xs) (λ o. o ≡ None → AllByRecursion (λ x. p x ≡ true) (x ∷ xs))
    (λ t f. absurd (cc)) (λ t f. (not-false (p x) t, found_none p xs f)) e

-- the first that fails a test, behind those that pass it
pub record IsFirst {A : Type 0} (p : A → Bool) (xs : List A) (x : A) : Type 0 where
  pub before : List A
  pub after : List A
  pub parts : xs ≡ before ++ x ∷ after
  pub pass : AllByRecursion (λ y. p y ≡ true) before
  pub fails : p x ≡ false

-- what is found is the first that fails it
pub found_first : {A : Type 0} (p : A → Bool) (xs : List A) (x : A) → find (λ y. not (p y)) xs ≡ Some x → IsFirst p xs x
found_first p [] x e = absurd (cc)
found_first p (y ∷ ys) x e =
    cond_both (not (p y)) (Some y) (find (λ z. not (p z)) ys) (λ o. o ≡ Some x → IsFirst p (y ∷ ys) x)
    (λ t f. subst (IsFirst p (y ∷ ys)) (same_Some y x f) (record { before = []; after = ys; parts = refl; pass = tt; fails = not-true (p y) t }))
    (λ t f.
    let r = found_first p ys x f in
    record {
      before = y ∷ r.before;
      after = r.after;
      parts = ap (λ zs. y ∷ zs) r.parts;
      pass = (not-false (p y) t, r.pass);
      fails = r.fails;
    }) e
