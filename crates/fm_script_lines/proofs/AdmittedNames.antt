-- Lines that break no rule give back what they made, by their own pass.
use Rattle.std.proofs.Common.{◌≡◌, refl, sym, ap, subst, ◌∙◌, ℕ, ◌≤◌, ◌==◌, Bool, true, false, not, ◌&&◌, ◌||◌, Option, Some, None, List, [], ◌∷◌, ◌++◌, append_assoc, arith, ⊎_elim, IfSome, bytes_eq}
use Rattle.std.specs.List.{AllByRecursion, list_any}
use Rattle.std.proofs.lemmas.Bool.{and_from, and_parts, cond-false, cond-true, cond_both, eqb-true, eq-eqb, leb-true, ne_eqb, or_cases, or_left, or_right}
use Rattle.std.proofs.lemmas.{List.{Elements.{filter_agree}, Folds.{list_any-append}}, Option.{same_Some}, Slice.Eq.{bytes_eq-Decides}}
use Rattle.fm_script_text.{proofs.Keeping.{maker_of-append, none_of, reached_more}, specs.declared.command.Command.{Command, TheVariants.{Unhold, Back}}}
use Rattle.fm_script_text.specs.declared.{line.Line.{Line}, maker.Maker.{Maker}, thing.{Role.{Role}, Thing.{Thing}}, who.Who.{Who}}
use Rattle.fm_script_text.specs.declared.who.Who.TheVariants.{First, Worker, Last}
use Rattle.fm_script_text.specs.Rules.{IsAdmitted, Made, given_back, is_at_hand, is_given_back, is_new, is_owed, is_settled, is_this, made, maker_in, maker_of, may_use, or_else, pass_of, phase, plays, reached, uses}
use Rattle.fm_script_text.specs.{Scripts.{AreAdmitted, IsSaid, IsSettled}, Syntax.{IsWho}}
use Rattle.fm_script_text.specs.declared.thing.Role.TheVariants as role
use Rattle.fm_script_lines.specs.{Admitted.{AreReturned, KeepRules, is_of_pass, is_returned, returns}, Report.{is_first, is_last, is_worker, lines_by}}

abbrev maker : Who → Thing → Maker
maker who thing = record { who = who; thing = thing }

abbrev named : List ℕ → Thing → Made
named name thing = record { name = name; thing = thing }

-- ---- makers

-- A maker stays.
maker_stays : (name : List ℕ) (ls : List Line) (l : Line) (m : Maker) → maker_of name ls ≡ Some m → maker_of name (ls ++ l ∷ []) ≡ Some m
maker_stays name ls l m e = maker_of-append name ls l ∙ ap (λ (o : Option Maker). or_else o (maker_in l.who name (made l.command))) e

-- A new name's maker is the line that makes it.
maker_new : (ls : List Line) (l : Line) (m : Made) → maker_of m.name ls ≡ None → made l.command ≡ Some m
    → maker_of m.name (ls ++ l ∷ []) ≡ Some (maker l.who m.thing)
maker_new ls l m none e =
    let self : bytes_eq m.name m.name ≡ true = (bytes_eq-Decides m.name m.name).1 refl in
    maker_of-append m.name ls l ∙ (ap (λ (o : Option Maker). or_else o (maker_in l.who m.name (made l.command))) none
    ∙ (ap (λ (o : Option Made). maker_in l.who m.name o) e ∙ rw self refl))

-- What none of more lines makes, none of these makes.
no_maker : (name : List ℕ) (ls : List Line) (l : Line) → maker_of name (ls ++ l ∷ []) ≡ None → maker_of name ls ≡ None
no_maker name ls l e = go (maker_of name ls) (sym (maker_of-append name ls l) ∙ e)
  where
    go : (o : Option Maker) → or_else o (maker_in l.who name (made l.command)) ≡ None → o ≡ None
    go None f = refl
    go (Some m) f = f

-- ---- a line that gives back

-- who made what may be used so
record Used (o : Option Maker) (who : Who) (r : Role) : Type 0 where
  found : Maker
  is : o ≡ Some found
  fits : plays found.thing r ≡ true
  same_pass : pass_of found.who ≡ pass_of who

-- A hold or a handle is used by the pass that made it.
used : (o : Option Maker) (spent : Bool) (who : Who) (r : Role)
    → ((s : Bool) (m w : Who) → is_at_hand r s m w ≡ ((pass_of m == pass_of w) && not s)) → may_use o spent who r ≡ true → Used o who r
used None spent who r token e = absurd (cc)
used (Some m) spent who r token e =
    let p = and_parts (plays m.thing r) (is_at_hand r spent m.who who) e in
    let q = and_parts (pass_of m.who == pass_of who) (not spent) (sym (token spent m.who who) ∙ p.1) in
    record { found = m; is = refl; fits = p.0; same_pass = eqb-true (pass_of m.who) (pass_of who) q.0 }

-- the line gives the name back, which its own pass made
record GivesBack (before : List Line) (who : Who) (name : List ℕ) (c : Command) : Type 0 where
  found : Maker
  is : maker_of name before ≡ Some found
  same_pass : pass_of found.who ≡ pass_of who
  gives : returns (named name found.thing) c ≡ true

-- A line of the name's own pass that names it where a hold or a handle is given back.
given_by : (before : List Line) (who : Who) (name other : List ℕ) (c : Command) (r : Role) → other ≡ name → (w : Used (maker_of other before) who r)
    → returns (named name w.found.thing) c ≡ true → GivesBack before who name c
given_by before who name other c r same w gives =
    record { found = w.found; is = ap (λ (n : List ℕ). maker_of n before) (sym same) ∙ w.is; same_pass = w.same_pass; gives = gives }

gives_back : (before : List Line) (spent : List ℕ → Bool) (who : Who) (name : List ℕ) (c : Command)
    → uses (λ n r. may_use (maker_of n before) (spent n) who r) c ≡ true → is_this name (given_back c) ≡ true → GivesBack before who name c
gives_back before spent who name (Unhold hold) u t =
    let w = used (maker_of hold before) (spent hold) who role.Hold (λ s m v. refl) u in
    given_by before who name hold (Unhold hold) role.Hold ((bytes_eq-Decides hold name).0 t) w
    (and_from (plays w.found.thing role.Hold) (bytes_eq hold name) w.fits t)
gives_back before spent who name (Back handle) u t =
    let w = used (maker_of handle before) (spent handle) who role.Handle (λ s m v. refl) u in
    given_by before who name handle (Back handle) role.Handle ((bytes_eq-Decides handle name).0 t) w
    (and_from (plays w.found.thing role.Handle) (bytes_eq handle name) w.fits t)
gives_back before spent who name c u t = absurd (cc)

-- An admitted line that gives a name back.
admitted_gives : (before : List Line) (l : Line) (name : List ℕ) → IsAdmitted before l.who l.command → is_this name (given_back l.command) ≡ true
    → GivesBack before l.who name l.command
admitted_gives before l name a t = gives_back before (λ n. is_given_back n before) l.who name l.command a.known t

-- ---- what is given back was made before

abbrev HaveMakers : List Line → Type 0
HaveMakers before = (name : List ℕ) → is_given_back name before ≡ true → maker_of name before ≡ None → ⊥

have_more : (before : List Line) (l : Line) → HaveMakers before → IsAdmitted before l.who l.command → HaveMakers (before ++ l ∷ [])
have_more before l h a name g none =
    let parts = sym (list_any-append (λ (x : Line). is_this name (given_back x.command)) before (l ∷ [])) ∙ g in
    let old : maker_of name before ≡ None = no_maker name before l none in
    ⊎_elim (λ b. h name b old) (λ n. last old (or_none (is_this name (given_back l.command)) n))
    (or_cases (is_given_back name before) (is_this name (given_back l.command) || false) parts)
  where
    or_none : (b : Bool) → (b || false) ≡ true → b ≡ true
    or_none true e = refl
    or_none false e = e

    last : maker_of name before ≡ None → is_this name (given_back l.command) ≡ true → ⊥
    last old t = let w = admitted_gives before l name a t in let e : Some w.found ≡ None = sym w.is ∙ old in absurd (cc)

-- ---- it is given back behind

-- a line that makes gives nothing back
makes_only : (c : Command) (m : Made) (name : List ℕ) → made c ≡ Some m → is_this name (given_back c) ≡ true → ⊥
makes_only (Unhold hold) m name e t = absurd (cc)
makes_only (Back handle) m name e t = absurd (cc)
makes_only c m name e t = absurd (cc)

-- What is made and given back by these lines is given back by a line of its pass.
gives_behind : (m : Made) (who : Who) (before ls : List Line) → AreAdmitted before ls → maker_of m.name before ≡ Some (maker who m.thing)
    → is_given_back m.name ls ≡ true → list_any (λ l. returns m l.command) (lines_by (is_of_pass (pass_of who)) ls) ≡ true
gives_behind m who before [] a e g = absurd (cc)
gives_behind m who before (l ∷ ls) a e g =
    let rest = gives_behind m who (before ++ l ∷ []) ls a.1 (maker_stays m.name before l (maker who m.thing) e) in
    ⊎_elim here (λ t. behind (rest t)) (or_cases (is_this m.name (given_back l.command)) (is_given_back m.name ls) g)
  where
    here : is_this m.name (given_back l.command) ≡ true
        → list_any (λ l. returns m l.command) (lines_by (is_of_pass (pass_of who)) (l ∷ ls)) ≡ true
    here t =
        let w = admitted_gives before l m.name a.0 t in
        let found : w.found ≡ maker who m.thing = same_Some w.found (maker who m.thing) (sym w.is ∙ e) in
        let own : (pass_of l.who == pass_of who) ≡ true =
        eq-eqb (pass_of l.who) (pass_of who) (sym w.same_pass ∙ ap (λ (x : Maker). pass_of x.who) found) in
        let gives : returns m l.command ≡ true = ap (λ (x : Maker). returns (named m.name x.thing) l.command) (sym found) ∙ w.gives in
        rw (own, gives) refl

    behind : list_any (λ l. returns m l.command) (lines_by (is_of_pass (pass_of who)) ls) ≡ true
        → list_any (λ l. returns m l.command) (lines_by (is_of_pass (pass_of who)) (l ∷ ls)) ≡ true
    behind rest =
        cond_both (is_of_pass (pass_of who) l.who) (l ∷ lines_by (is_of_pass (pass_of who)) ls) (lines_by (is_of_pass (pass_of who)) ls)
        (λ (xs : List Line). list_any (λ x. returns m x.command) xs ≡ true) (λ _. or_right (returns m l.command) _ rest) (λ _. rest)

-- what the line makes is given back by a line of its pass behind it
module _ (before : List Line) (l : Line) (ls : List Line) (admitted : IsAdmitted before l.who l.command) (behind : AreAdmitted (before ++ l ∷ []) ls)
    (have : HaveMakers before) (settled : IsSettled (before ++ l ∷ ls) l) where
  -- Its name is given back by none of the lines up to it.
  later : (m : Made) → made l.command ≡ Some m → maker_of m.name before ≡ None → is_given_back m.name (before ++ l ∷ ls) ≡ true
      → is_given_back m.name ls ≡ true
  later m e none g =
      let parts = sym (list_any-append (λ (x : Line). is_this m.name (given_back x.command)) before (l ∷ ls)) ∙ g in
      ⊎_elim (λ b. absurd (have m.name b none))
      (λ n. ⊎_elim (λ t. absurd (makes_only l.command m m.name e t)) (λ t. t)
      (or_cases (is_this m.name (given_back l.command)) (is_given_back m.name ls) n))
      (or_cases (is_given_back m.name before) (is_given_back m.name (l ∷ ls)) parts)

  is_new_name : (m : Made) → made l.command ≡ Some m → maker_of m.name before ≡ None
  is_new_name m e = none_of (maker_of m.name before) (ap (λ (o : Option Made). is_new (λ name. maker_of name before) o) (sym e) ∙ admitted.new)

  owed : (m : Made) → made l.command ≡ Some m → (not (is_owed m.thing) || is_given_back m.name (before ++ l ∷ ls)) ≡ true
  owed m e = ap (λ (o : Option Made). is_settled (λ name. is_given_back name (before ++ l ∷ ls)) o) (sym e) ∙ settled

  line_returned : (m : Made) → made l.command ≡ Some m → is_returned m (lines_by (is_of_pass (pass_of l.who)) ls) ≡ true
  line_returned m e =
      ⊎_elim (λ no. or_left (not (is_owed m.thing)) _ no)
      (λ g. or_right (not (is_owed m.thing)) _ (gives_behind m l.who (before ++ l ∷ []) ls behind (maker_new before l m (is_new_name m e) e)
      (later m e (is_new_name m e) g)))
      (or_cases (not (is_owed m.thing)) (is_given_back m.name (before ++ l ∷ ls)) (owed m e))

-- Each line's.
all_returned : (k : ℕ) (before ls : List Line) → AreAdmitted before ls → HaveMakers before → AllByRecursion (IsSettled (before ++ ls)) ls
    → AreReturned (lines_by (is_of_pass k) ls)
all_returned k before [] a have s = tt
all_returned k before (l ∷ ls) a have s =
    let rest = all_returned k (before ++ l ∷ []) ls a.1 (have_more before l have a.0)
    (subst (λ (all : List Line). AllByRecursion (IsSettled all) ls) (sym (append_assoc before (l ∷ []) ls)) s.1) in
    cond_both (is_of_pass k l.who) (l ∷ lines_by (is_of_pass k) ls) (lines_by (is_of_pass k) ls) AreReturned
    (λ t. (of_line (made l.command) refl (eqb-true (pass_of l.who) k t), rest)) (λ _. rest)
  where
    of_line : (o : Option Made) → made l.command ≡ o → pass_of l.who ≡ k → IfSome o (λ m. is_returned m (lines_by (is_of_pass k) ls) ≡ true)
    of_line None e own = tt
    of_line (Some m) e own =
        subst (λ (j : ℕ). is_returned m (lines_by (is_of_pass j) ls) ≡ true) own (line_returned before l ls a.0 a.1 have s.0 m e)

pub pass_returned : (ls : List Line) (k : ℕ) → KeepRules ls → AreReturned (lines_by (is_of_pass k) ls)
pass_returned ls k rules = all_returned k [] ls rules.admitted (λ name g none. absurd (cc)) rules.settled

-- ---- a pass's lines

-- A worker's.
pub worker_same : (k : ℕ) → 1 ≤ k → (ls : List Line) → lines_by (is_worker k) ls ≡ lines_by (is_of_pass k) ls
worker_same k h ls = filter_agree (λ (l : Line). is_worker k l.who) (λ (l : Line). is_of_pass k l.who) (λ l. same l.who) ls
  where
    same : (w : Who) → is_worker k w ≡ is_of_pass k w
    same First = sym (ne_eqb 0 k (λ e. omega arith))
    same (Worker n) = refl
    same Last = sym (ne_eqb 0 k (λ e. omega arith))

-- Behind a line of a later phase there is no first line.
none_first : (before ls : List Line) → AreAdmitted before ls → 1 ≤ reached before → lines_by is_first ls ≡ []
none_first before [] a h = refl
none_first before (l ∷ ls) a h =
    let more = reached_more before l in
    let rest = none_first (before ++ l ∷ []) ls a.1 (omega (arith, more, h)) in
    let late : reached before ≤ phase l.who = leb-true (reached before) (phase l.who) a.0.ordered in
    go l.who refl (omega (arith, late, h)) rest
  where
    go : (w : Who) → l.who ≡ w → 1 ≤ phase l.who → lines_by is_first ls ≡ [] → lines_by is_first (l ∷ ls) ≡ []
    go First e late rest = absurd (let p : phase l.who ≡ 0 = ap phase e in omega (arith, p, late))
    go (Worker n) e late rest = rw e rest
    go Last e late rest = rw e rest

-- The first lines and the last are one pass's.
ends_same : (before ls : List Line) → AreAdmitted before ls → AllByRecursion IsSaid ls
    → lines_by (is_of_pass 0) ls ≡ lines_by is_first ls ++ lines_by is_last ls
ends_same before [] a s = refl
ends_same before (l ∷ ls) a s = go l.who refl (ends_same (before ++ l ∷ []) ls a.1 s.1)
  where
    kept : (is : Who → Bool) → is l.who ≡ true → lines_by is (l ∷ ls) ≡ l ∷ lines_by is ls
    kept is t = cond-true (is l.who) (l ∷ lines_by is ls) (lines_by is ls) t

    left : (is : Who → Bool) → is l.who ≡ false → lines_by is (l ∷ ls) ≡ lines_by is ls
    left is t = cond-false (is l.who) (l ∷ lines_by is ls) (lines_by is ls) t

    go : (w : Who) → l.who ≡ w → lines_by (is_of_pass 0) ls ≡ lines_by is_first ls ++ lines_by is_last ls
        → lines_by (is_of_pass 0) (l ∷ ls) ≡ lines_by is_first (l ∷ ls) ++ lines_by is_last (l ∷ ls)
    go First e rest =
        kept (is_of_pass 0) (ap (is_of_pass 0) e)
        ∙ (ap (λ (xs : List Line). l ∷ xs) rest ∙ sym (λ i. kept is_first (ap is_first e) i ++ left is_last (ap is_last e) i))
    go (Worker n) e rest =
        let who : IsWho (Worker n) = subst (λ (w : Who). IsWho w) e s.0.is_who in
        let other : (n == 0) ≡ false = ne_eqb n 0 (λ z. let low = who.0 in omega (arith, low, z)) in
        left (is_of_pass 0) (ap (is_of_pass 0) e ∙ other)
        ∙ (rest ∙ sym (λ i. left is_first (ap is_first e) i ++ left is_last (ap is_last e) i))
    go Last e rest =
        let more = reached_more before l in
        let late : phase l.who ≡ 2 = ap phase e in
        let none : lines_by is_first ls ≡ [] = none_first (before ++ l ∷ []) ls a.1 (omega (arith, more, late)) in
        kept (is_of_pass 0) (ap (is_of_pass 0) e)
        ∙ (ap (λ (xs : List Line). l ∷ xs) (rest ∙ ap (λ (xs : List Line). xs ++ lines_by is_last ls) none)
        ∙ sym (λ i. (left is_first (ap is_first e) ∙ none) i ++ kept is_last (ap is_last e) i))

pub main_same : (ls : List Line) → KeepRules ls → lines_by (is_of_pass 0) ls ≡ lines_by is_first ls ++ lines_by is_last ls
main_same ls rules = ends_same [] ls rules.admitted rules.said
