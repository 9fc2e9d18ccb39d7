-- No two of a script's lines make one name, so its number is that of the line that makes it.
use Rattle.std.proofs.Common.{◌≡◌, refl, sym, ap, subst, ◌∙◌, ℕ, zero, suc, ◌+◌, ◌≤◌, ◌==◌, Bool, true, false, if◌then◌else◌, Option, Some, None, List, [], ◌∷◌, ◌++◌, length, append_assoc, arith, IfSome, bytes_eq}
use Rattle.std.proofs.lemmas.{Bool.{cond-false, cond-true, eqb-true, ne_eqb}, Slice.Eq.{bytes_eq-Decides}}
use Rattle.fm_rule_facts.specs.Holds.{one_if}
use Rattle.fm_script_text.{proofs.Keeping.{none_of}, specs.declared.{line.Line.{Line}, maker.Maker.{Maker}, who.Who.{Who, TheVariants.{First, Worker, Last}}}}
use Rattle.fm_script_text.specs.{Rules.{Made, is_new, made, maker_in, maker_of, or_else}, Scripts.{AreAdmitted}}
use Rattle.fm_script_lines.specs.{Admitted.{AreNumbered, KeepRules}, Numbers.{is_made, number_from, unless}, Ordering.{in_order, worker_lines}}
use Rattle.fm_script_lines.specs.Report.{is_first, is_last, is_worker, lines_by}

-- one if the line makes the name
abbrev pub one_made : List ℕ → Line → ℕ
one_made name l = one_if (is_made name (made l.command))

-- how many of the lines make the name
abbrev pub makers : List ℕ → List Line → ℕ
makers name [] = 0
makers name (l ∷ ls) = one_made name l + makers name ls

makers-append : (name : List ℕ) (xs ys : List Line) → makers name (xs ++ ys) ≡ makers name xs + makers name ys
makers-append name [] ys = omega arith
makers-append name (l ∷ xs) ys = let rest = makers-append name xs ys in omega (arith, rest)

-- ---- where one line at most makes each name

number_none : (k : ℕ) (ls : List Line) (name : List ℕ) → makers name ls ≡ 0 → number_from k ls name ≡ None
number_none k [] name e = refl
number_none k (l ∷ ls) name e = go (is_made name (made l.command)) refl (number_none (k + 1) ls name)
  where
    go : (b : Bool) → is_made name (made l.command) ≡ b → (makers name ls ≡ 0 → number_from (k + 1) ls name ≡ None) → number_from k (l ∷ ls) name ≡ None
    go true t behind = absurd (let one : one_made name l ≡ 1 = ap one_if t in omega (arith, one, e))
    go false t behind =
        let rest : number_from (k + 1) ls name ≡ None = behind (omega (arith, e)) in
        rw (rest, t) refl

numbered_by : (number : List ℕ → Option ℕ) (k : ℕ) (ls : List Line) → ((name : List ℕ) → makers name ls ≤ 1)
    → ((name : List ℕ) (n : ℕ) → number_from k ls name ≡ Some n → number name ≡ Some n) → AreNumbered number k ls
numbered_by number k [] few is = tt
numbered_by number k (l ∷ ls) few is = (
  of_line (made l.command) refl,
  numbered_by number (k + 1) ls (λ name. let one = few name in omega (arith, one)) (λ name n e. is name n (behind name n e)),
)
  where
    behind : (name : List ℕ) (n : ℕ) → number_from (k + 1) ls name ≡ Some n → number_from k (l ∷ ls) name ≡ Some n
    behind name n e = ap (λ (o : Option ℕ). unless o (if is_made name (made l.command) then Some k else None)) e

    here : (m : Made) → made l.command ≡ Some m → number_from k (l ∷ ls) m.name ≡ Some k
    here m e =
        let own : is_made m.name (made l.command) ≡ true = ap (λ (o : Option Made). is_made m.name o) e ∙ (bytes_eq-Decides m.name m.name).1 refl in
        let one : one_made m.name l ≡ 1 = ap one_if own in
        let all = few m.name in
        let rest : number_from (k + 1) ls m.name ≡ None = number_none (k + 1) ls m.name (omega (arith, one, all)) in
        rw (rest, own) refl

    of_line : (o : Option Made) → made l.command ≡ o → IfSome o (λ m. number m.name ≡ Some k)
    of_line None e = tt
    of_line (Some m) e = is m.name k (here m e)

-- ---- of a script's lines one at most

no_makers : (name : List ℕ) (ls : List Line) → maker_of name ls ≡ None → makers name ls ≡ 0
no_makers name [] e = refl
no_makers name (l ∷ ls) e =
    let parts = none (maker_in l.who name (made l.command)) e in
    let here : one_made name l ≡ 0 = ap one_if (not_made (made l.command) parts.0) in
    let rest = no_makers name ls parts.1 in
    omega (arith, here, rest)
  where
    none : (o : Option Maker) → or_else o (maker_of name ls) ≡ None → (o ≡ None) × (maker_of name ls ≡ None)
    none None f = (refl, f)
    none (Some m) f = absurd (cc)

    not_made : (o : Option Made) → maker_in l.who name o ≡ None → is_made name o ≡ false
    not_made None f = refl
    not_made (Some m) f = by_test (bytes_eq m.name name) refl
      where
        by_test : (b : Bool) → bytes_eq m.name name ≡ b → bytes_eq m.name name ≡ false
        by_test true t = absurd (let g : maker_in l.who name (Some m) ≡ Some (record { who = l.who; thing = m.thing }) = rw t refl in cc)
        by_test false t = t

pub one_maker : (name : List ℕ) (before ls : List Line) → AreAdmitted before ls → makers name before ≤ 1 → makers name (before ++ ls) ≤ 1
one_maker name before [] a h = let sum = makers-append name before [] in omega (arith, sum, h)
one_maker name before (l ∷ ls) a h =
    subst (λ (all : List Line). makers name all ≤ 1) (append_assoc before (l ∷ []) ls)
    (one_maker name (before ++ l ∷ []) ls a.1 (more (made l.command) refl))
  where
    sum : makers name (before ++ l ∷ []) ≡ makers name before + (one_made name l + 0)
    sum = makers-append name before (l ∷ [])

    by_test : (m : Made) → made l.command ≡ Some m → (b : Bool) → bytes_eq m.name name ≡ b → makers name (before ++ l ∷ []) ≤ 1
    by_test m e true t =
        let same : m.name ≡ name = (bytes_eq-Decides m.name name).0 t in
        let fresh : maker_of m.name before ≡ None =
        none_of (maker_of m.name before) (ap (λ (o : Option Made). is_new (λ n. maker_of n before) o) (sym e) ∙ a.0.new) in
        let none = no_makers name before (ap (λ (n : List ℕ). maker_of n before) (sym same) ∙ fresh) in
        let one : one_made name l ≡ 1 = ap (λ (o : Option Made). one_if (is_made name o)) e ∙ ap one_if t in
        omega (arith, sum, none, one)
    by_test m e false t =
        let one : one_made name l ≡ 0 = ap (λ (o : Option Made). one_if (is_made name o)) e ∙ ap one_if t in
        omega (arith, sum, one, h)

    more : (o : Option Made) → made l.command ≡ o → makers name (before ++ l ∷ []) ≤ 1
    more None e =
        let one : one_made name l ≡ 0 = ap (λ (o : Option Made). one_if (is_made name o)) e in
        omega (arith, sum, one, h)
    more (Some m) e = by_test m e (bytes_eq m.name name) refl

-- ---- and so of the lines in the order of printing

module _ (name : List ℕ) (l : Line) (ls : List Line) where
  -- A line that is another's.
  by_others : (is : Who → Bool) → is l.who ≡ false → lines_by is (l ∷ ls) ≡ lines_by is ls
  by_others is e = cond-false (is l.who) (l ∷ lines_by is ls) (lines_by is ls) e

  by_this : (is : Who → Bool) → is l.who ≡ true → makers name (lines_by is (l ∷ ls)) ≡ one_made name l + makers name (lines_by is ls)
  by_this is e = ap (makers name) (cond-true (is l.who) (l ∷ lines_by is ls) (lines_by is ls) e)

  no_worker : (n k : ℕ) → ((j : ℕ) → k ≤ j → is_worker j l.who ≡ false) → worker_lines n k (l ∷ ls) ≡ worker_lines n k ls
  no_worker zero k other = refl
  no_worker (suc n) k other =
      let here = by_others (is_worker k) (other k (omega arith)) in
      let rest = no_worker n (k + 1) (λ j h. other j (omega (arith, h))) in
      (λ i. here i ++ rest i)

  one_worker : (n k w : ℕ) → l.who ≡ Worker w → makers name (worker_lines n k (l ∷ ls)) ≤ one_made name l + makers name (worker_lines n k ls)
  one_worker zero k w e = omega arith
  one_worker (suc n) k w e = go (w == k) refl (one_worker n (k + 1) w e)
    where
      is : (j : ℕ) → is_worker j l.who ≡ (w == j)
      is j = ap (is_worker j) e

      sums : (xs : List Line) → makers name (worker_lines (suc n) k xs) ≡ makers name (lines_by (is_worker k) xs) + makers name (worker_lines n (k + 1) xs)
      sums xs = makers-append name (lines_by (is_worker k) xs) (worker_lines n (k + 1) xs)

      go : (b : Bool) → (w == k) ≡ b
          → makers name (worker_lines n (k + 1) (l ∷ ls)) ≤ one_made name l + makers name (worker_lines n (k + 1) ls)
          → makers name (worker_lines (suc n) k (l ∷ ls)) ≤ one_made name l + makers name (worker_lines (suc n) k ls)
      go true t behind =
          let same : w ≡ k = eqb-true w k t in
          let here = by_this (is_worker k) (is k ∙ t) in
          let rest = ap (makers name) (no_worker n (k + 1) (λ j h. is j ∙ ne_eqb w j (λ f. omega (arith, h, f, same)))) in
          let new = sums (l ∷ ls) in
          let old = sums ls in
          omega (arith, new, old, here, rest)
      go false t rest =
          let here = ap (makers name) (by_others (is_worker k) (is k ∙ t)) in
          let new = sums (l ∷ ls) in
          let old = sums ls in
          omega (arith, new, old, here, rest)

  -- What one line more adds.
  one_more : (workers : ℕ) → makers name (in_order workers (l ∷ ls)) ≤ one_made name l + makers name (in_order workers ls)
  one_more workers = go l.who refl
    where
      sums : (xs : List Line) → makers name (in_order workers xs)
          ≡ makers name (lines_by is_first xs) + (makers name (worker_lines workers 1 xs) + makers name (lines_by is_last xs))
      sums xs =
          let outer = makers-append name (lines_by is_first xs) (worker_lines workers 1 xs ++ lines_by is_last xs) in
          let inner = makers-append name (worker_lines workers 1 xs) (lines_by is_last xs) in
          omega (arith, outer, inner)

      go : (w : Who) → l.who ≡ w → makers name (in_order workers (l ∷ ls)) ≤ one_made name l + makers name (in_order workers ls)
      go First e =
          let first = by_this is_first (ap is_first e) in
          let worker = ap (makers name) (no_worker workers 1 (λ j h. ap (is_worker j) e)) in
          let last = ap (makers name) (by_others is_last (ap is_last e)) in
          let new = sums (l ∷ ls) in
          let old = sums ls in
          omega (arith, new, old, first, worker, last)
      go (Worker w) e =
          let first = ap (makers name) (by_others is_first (ap is_first e)) in
          let worker = one_worker workers 1 w e in
          let last = ap (makers name) (by_others is_last (ap is_last e)) in
          let new = sums (l ∷ ls) in
          let old = sums ls in
          omega (arith, new, old, first, worker, last)
      go Last e =
          let first = ap (makers name) (by_others is_first (ap is_first e)) in
          let worker = ap (makers name) (no_worker workers 1 (λ j h. ap (is_worker j) e)) in
          let last = by_this is_last (ap is_last e) in
          let new = sums (l ∷ ls) in
          let old = sums ls in
          omega (arith, new, old, first, worker, last)

no_lines : (n k : ℕ) → worker_lines n k [] ≡ []
no_lines zero k = refl
no_lines (suc n) k = no_lines n (k + 1)

as_many : (name : List ℕ) (workers : ℕ) (ls : List Line) → makers name (in_order workers ls) ≤ makers name ls
as_many name workers [] = let none : makers name (worker_lines workers 1 [] ++ []) ≡ 0 = ap (λ (xs : List Line). makers name (xs ++ [])) (no_lines workers 1) in
    omega (arith, none)
as_many name workers (l ∷ ls) =
    let rest = as_many name workers ls in
    let more = one_more name l ls workers in
    omega (arith, rest, more)

-- The names of a script's lines in the order of printing.
pub in_order_numbered : (ls : List Line) (workers : ℕ) → KeepRules ls → AreNumbered (number_from 0 (in_order workers ls)) 0 (in_order workers ls)
in_order_numbered ls workers rules =
    numbered_by (number_from 0 (in_order workers ls)) 0 (in_order workers ls)
    (λ name. let all = as_many name workers ls in let one = one_maker name [] ls rules.admitted (omega arith) in omega (arith, all, one))
    (λ name n e. e)

-- ---- parts of the order

-- Lines in a row have theirs where all have.
pub numbered_split : (number : List ℕ → Option ℕ) (k : ℕ) (xs ys : List Line) → AreNumbered number k (xs ++ ys)
    → AreNumbered number k xs × AreNumbered number (k + length xs) ys
numbered_split number k [] ys h = (tt, subst (λ (n : ℕ). AreNumbered number n ys) (omega arith) h)
numbered_split number k (l ∷ xs) ys h =
    let rest = numbered_split number (k + 1) xs ys h.1 in
    ((h.0, rest.0), subst (λ (n : ℕ). AreNumbered number n ys) (omega arith) rest.1)

-- By what tells the same numbers.
pub numbered_same : (f g : List ℕ → Option ℕ) (k : ℕ) (ls : List Line) → ((name : List ℕ) → g name ≡ f name) → AreNumbered f k ls → AreNumbered g k ls
numbered_same f g k [] same h = tt
numbered_same f g k (l ∷ ls) same h = (of_line (made l.command) h.0, numbered_same f g (k + 1) ls same h.1)
  where
    of_line : (o : Option Made) → IfSome o (λ m. f m.name ≡ Some k) → IfSome o (λ m. g m.name ≡ Some k)
    of_line None e = tt
    of_line (Some m) e = same m.name ∙ e
