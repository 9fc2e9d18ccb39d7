-- Admitted lines that ran leave no hold and no handle.
use Rattle.std.proofs.Common.{◌≡◌, refl, sym, ap, subst, ◌∙◌, ℕ, ◌+◌, ◌-◌, ◌≤◌, ◌<◌, ◌==◌, true, false, not, ◌||◌, Option, Some, None, List, [], ◌∷◌, ◌++◌, length, get_or, arith, ⊎_elim, IfSome, bytes_eq}
use Rattle.std.{specs.List.{list_any}, proofs.lemmas.{Bool.{and_parts, cases_eq, eq-eqb, ne_eqb, or_cases, or_left, or_right}, Slice.Eq.{bytes_eq-Decides}}}
use Rattle.fm_base.specs.declared.caller.Caller.{Caller}
use Rattle.fm_rule_facts.specs.Views.{View}
use Rattle.fm_script_text.specs.declared.{command.Command.{Command, TheVariants.{Unhold, Back}}, line.Line.{Line}, thing.Thing.{Thing}}
use Rattle.fm_script_text.specs.Rules.{Made, is_owed, made, plays}
use Rattle.fm_script_text.specs.declared.thing.Role.TheVariants as role
use Rattle.fm_script_text.specs.declared.thing.Thing.TheVariants as thing
use Rattle.fm_script_lines.specs.declared.{numbers.Numbers.{Numbers}, reply.Reply.{Reply}, standing.Standing.{Standing, TheVariants.{Nothing}}}
use Rattle.fm_script_lines.specs.{Admitted.{AreNumbered, AreReturned, is_returned, returns}, Lines.{behind, is_number}, Numbers.{number_at}, Outcomes.{outcome}}
use Rattle.fm_script_lines.specs.{Playing.{LinesRan}, Report.{AreRun, Done, lines_of, names_after, names_behind}}
use Rattle.fm_script_lines.specs.Standings.{IsSpent, Names, standing_at, stands_of, unheld, handed_back}
use Rattle.fm_script_lines.proofs.{AdmittedMade.{CanMake, CanStand, behind-spent, behind-stands, line_makes}, Naming.{standing-own, tokens_left}}

-- What stands for number n is nothing that has to be given back, or a later line gives it back
pub data Left (number : List ℕ → Option ℕ) (later : List Line) (n : ℕ) (s : Standing) : Type 0 where
  spent : IsSpent s → Left number later n s
  due : (m : Made) → number m.name ≡ Some n → CanStand m.thing s → is_returned m later ≡ true → Left number later n s

-- Where no later line is left, nothing is.
pub none_later : (number : List ℕ → Option ℕ) (n : ℕ) (s : Standing) → Left number [] n s → IsSpent s
none_later number n s (spent p) = p
none_later number n s (due m e can r) = go m.thing can r
  where
    go : (t : Thing) → CanStand t s → (not (is_owed t) || false) ≡ true → IsSpent s
    go thing.Arena c f = c
    go thing.Automatic c f = absurd (cc)
    go thing.Segment c f = c
    go thing.Hold c f = absurd (cc)
    go thing.Handle c f = absurd (cc)

-- ---- a line

module _ (number : List ℕ → Option ℕ) (n : ℕ) (s : Standing) where
  this_number : (name : List ℕ) (m : Made) → bytes_eq name m.name ≡ true → number m.name ≡ Some n → is_number (number name) n ≡ true
  this_number name m t e =
      let same : name ≡ m.name = (bytes_eq-Decides name m.name).0 t in
      ap (λ (x : List ℕ). is_number (number x) n) same ∙ (ap (λ (o : Option ℕ). is_number o n) e ∙ eq-eqb n n refl)

  unheld_spent : (t : Thing) → plays t role.Hold ≡ true → CanStand t s → IsSpent (unheld s)
  unheld_spent thing.Arena p c = absurd (cc)
  unheld_spent thing.Automatic p c = absurd (cc)
  unheld_spent thing.Segment p c = absurd (cc)
  unheld_spent thing.Hold p c = record { no_hold = (tokens_left s).unheld_hold; no_handle = (tokens_left s).unheld_handle ∙ c }
  unheld_spent thing.Handle p c = absurd (cc)

  handed_spent : (t : Thing) → plays t role.Handle ≡ true → CanStand t s → IsSpent (handed_back s)
  handed_spent thing.Arena p c = absurd (cc)
  handed_spent thing.Automatic p c = record { no_hold = (tokens_left s).handed_hold ∙ c; no_handle = (tokens_left s).handed_handle }
  handed_spent thing.Segment p c = absurd (cc)
  handed_spent thing.Hold p c = absurd (cc)
  handed_spent thing.Handle p c = record { no_hold = (tokens_left s).handed_hold ∙ c; no_handle = (tokens_left s).handed_handle }

  -- The line that gives it back leaves nothing of it.
  given : (m : Made) (c : Command) → number m.name ≡ Some n → CanStand m.thing s → returns m c ≡ true → IsSpent (behind number c n s)
  given m (Unhold hold) e can r =
      let p = and_parts (plays m.thing role.Hold) (bytes_eq hold m.name) r in
      let this = this_number hold m p.1 e in
      rw this (unheld_spent m.thing p.0 can)
  given m (Back handle) e can r =
      let p = and_parts (plays m.thing role.Handle) (bytes_eq handle m.name) r in
      let this = this_number handle m p.1 e in
      rw this (handed_spent m.thing p.0 can)
  given m c e can r = absurd (cc)

  -- A line leaves of it what later lines give back.
  left_behind : (l : Line) (later : List Line) → Left number (l ∷ later) n s → Left number later n (behind number l.command n s)
  left_behind l later (spent p) = spent (behind-spent number l.command n s p)
  left_behind l later (due m e can r) =
      ⊎_elim (λ no. due m e kept (or_left (not (is_owed m.thing)) _ no))
      (λ g. ⊎_elim (λ t. spent (given m l.command e can t)) (λ t. due m e kept (or_right (not (is_owed m.thing)) _ t))
      (or_cases (returns m l.command) (list_any (λ x. returns m x.command) later) g))
      (or_cases (not (is_owed m.thing)) (list_any (λ x. returns m x.command) (l ∷ later)) r)
    where
      kept : CanStand m.thing (behind number l.command n s)
      kept = behind-stands number l.command n m.thing s can

-- What a line makes, later lines give back.
left_made : (number : List ℕ → Option ℕ) (k : ℕ) (l : Line) (s : Standing) (later : List Line) → CanMake (made l.command) s
    → AreReturned (l ∷ later) → IfSome (made l.command) (λ m. number m.name ≡ Some k) → Left number later k s
left_made number k l s later can r is = go (made l.command) can r.0 is
  where
    go : (o : Option Made) → CanMake o s → IfSome o (λ m. is_returned m later ≡ true) → IfSome o (λ m. number m.name ≡ Some k) → Left number later k s
    go None c a b = spent c
    go (Some m) c a b = due m b c a

-- ---- lines in a row

module _ (number : List ℕ → Option ℕ) (later : List Line) (n : ℕ) where
  -- What stood before them.
  left_kept : (ds : List Done) (k : ℕ) (names : Names) → n < k → Left number (lines_of ds ++ later) n (names n)
      → Left number later n (names_after number k ds names n)
  left_kept [] k names h left = left
  left_kept (d ∷ ds) k names h left =
      let other : (n == k) ≡ false = ne_eqb n k (λ e. omega (arith, h, e)) in
      left_kept ds (k + 1) (names_behind number k d names) (omega (arith, h))
      (rw other (left_behind number n (names n) d.line (lines_of ds ++ later) left))

  -- What they made.
  left_own : (c : Caller) (ds : List Done) (k : ℕ) (names : Names) → AreRun c number k names ds → AreNumbered number k (lines_of ds)
      → AreReturned (lines_of ds ++ later) → k ≤ n → n < k + length ds → Left number later n (names_after number k ds names n)
  left_own c [] k names run are back low high = absurd (omega (arith, low, high))
  left_own c (d ∷ ds) k names run are back low high =
      ⊎_elim here (λ ne. left_own c ds (k + 1) (names_behind number k d names) run.1 are.1 back.1 (omega (arith, low, ne)) (omega (arith, high)))
      (cases_eq n k)
    where
      here : n ≡ k → Left number later n (names_after number k (d ∷ ds) names n)
      here e =
          let this : (n == k) ≡ true = eq-eqb n k e in
          let can = line_makes c (λ name. stands_of names (number name)) d.line.command (outcome d.reply d.made) d.run run.0 in
          let made_here = left_made number k d.line d.made (lines_of ds ++ later) can back are.0 in
          left_kept ds (k + 1) (names_behind number k d names) (omega (arith, e))
          (rw this (subst (λ (j : ℕ). Left number (lines_of ds ++ later) j d.made) (sym e) made_here))

-- ---- in a table

module _ {old new : View} {names : Numbers} {base : List Standing} {start : ℕ} {own next : List Standing} {lines : List Line} {replies : List Reply}
    (r : LinesRan old new names base start own next lines replies) (h : length base ≤ start) (later : List Line) where
  next_is : (i : ℕ) → get_or next i Nothing ≡ names_after (number_at names) (start + length own) r.dones (standing_at base start own) (start + i)
  next_is i =
      let place : (start + i) - start ≡ i = omega arith in
      let here : standing_at base start next (start + i) ≡ get_or next i Nothing =
      standing-own base start next (start + i) (omega (arith, h)) (omega arith) ∙ ap (λ (j : ℕ). get_or next j Nothing) place in
      sym here ∙ (λ x. r.stands x (start + i))

  pub table_own : AreNumbered (number_at names) (start + length own) lines → AreReturned (lines ++ later) → (i : ℕ) → length own ≤ i → i < length next
      → Left (number_at names) later (start + i) (get_or next i Nothing)
  table_own are back i low high =
      let many = r.many in
      subst (λ (s : Standing). Left (number_at names) later (start + i) s) (sym (next_is i))
      (left_own (number_at names) later (start + i) old.caller r.dones (start + length own) (standing_at base start own) r.calls
      (subst (λ (ls : List Line). AreNumbered (number_at names) (start + length own) ls) (sym r.are) are)
      (subst (λ (ls : List Line). AreReturned (ls ++ later)) (sym r.are) back) (omega (arith, low)) (omega (arith, high, many)))

  pub table_kept : (i : ℕ) → i < length own → Left (number_at names) (lines ++ later) (start + i) (get_or own i Nothing)
      → Left (number_at names) later (start + i) (get_or next i Nothing)
  table_kept i l left =
      let own_is : standing_at base start own (start + i) ≡ get_or own i Nothing =
      standing-own base start own (start + i) (omega (arith, h)) (omega arith) ∙ ap (λ (j : ℕ). get_or own j Nothing) (omega arith) in
      subst (λ (s : Standing). Left (number_at names) later (start + i) s) (sym (next_is i))
      (left_kept (number_at names) later (start + i) r.dones (start + length own) (standing_at base start own) (omega (arith, l))
      (subst (λ (s : Standing). Left (number_at names) (lines_of r.dones ++ later) (start + i) s) (sym own_is)
      (subst (λ (ls : List Line). Left (number_at names) (ls ++ later) (start + i) (get_or own i Nothing)) (sym r.are) left)))
