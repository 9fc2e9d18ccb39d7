-- A script's lines that break no rule leave nothing.
use Rattle.std.proofs.Common.{◌≡◌, refl, sym, subst, ℕ, ◌+◌, ◌-◌, ◌≤◌, ◌<◌, List, [], ◌∷◌, ◌++◌, length, length-append, get_or, arith, ⊎_elim, All}
use Rattle.std.proofs.lemmas.{Bool.{cases_lt}, List.{append-nil, get_or_append_left, get_or-append_right, Elements.{All-from_get_or}}}
use Rattle.fm_rule_facts.specs.Views.{View}
use Rattle.fm_script_text.specs.declared.line.Line.{Line}
use Rattle.fm_script_lines.specs.declared.{numbers.Numbers.{Numbers}, reply.Reply.{Reply}, standing.Standing.{Standing, TheVariants.{Nothing}}}
use Rattle.fm_script_lines.specs.{Admitted.{AreNumbered, AreReturned, KeepRules, LinesLeaveNothing}, Numbers.{number_at}, Playing.{LinesRan}}
use Rattle.fm_script_lines.specs.{Report.{is_first, is_last, is_worker, lines_by}, Standings.{IsSpent}}
use Rattle.fm_script_lines.proofs.{AdmittedNames.{main_same, pass_returned, worker_same}, AdmittedNumbers.{in_order_numbered}}
use Rattle.fm_script_lines.proofs.AdmittedRuns.{Left, none_later, spent, table_kept, table_own}

-- A worker's.
pub worker_spent : (ls : List Line) (k : ℕ) (old new : View) (names : Numbers) (base : List Standing) (start : ℕ) (next : List Standing)
    (replies : List Reply) → KeepRules ls → 1 ≤ k → length base ≤ start → AreNumbered (number_at names) start (lines_by (is_worker k) ls)
    → LinesRan old new names base start [] next (lines_by (is_worker k) ls) replies → All IsSpent next
worker_spent ls k old new names base start next replies rules h behind are r =
    All-from_get_or IsSpent next Nothing (λ i l. none_later (number_at names) (start + i) (get_or next i Nothing)
    (table_own r behind [] (subst (λ (n : ℕ). AreNumbered (number_at names) n (lines_by (is_worker k) ls)) (omega arith) are) returned i (omega arith) l))
  where
    returned : AreReturned (lines_by (is_worker k) ls ++ [])
    returned =
        subst AreReturned (sym (append-nil (lines_by (is_worker k) ls)))
        (subst AreReturned (sym (worker_same k h ls)) (pass_returned ls k rules))

returned_behind : (xs ys : List Line) → AreReturned (xs ++ ys) → AreReturned ys
returned_behind [] ys h = h
returned_behind (l ∷ xs) ys h = returned_behind xs ys h.1

-- The first lines' and the last.
pub main_spent : (ls : List Line) (p q r t : View) (names : Numbers) (firsts others next : List Standing) (replies more : List Reply)
    → KeepRules ls → AreNumbered (number_at names) 0 (lines_by is_first ls)
    → AreNumbered (number_at names) (length firsts + length others) (lines_by is_last ls)
    → LinesRan p q names [] 0 [] firsts (lines_by is_first ls) replies → All IsSpent others
    → LinesRan r t names [] 0 (firsts ++ others) next (lines_by is_last ls) more → All IsSpent next
main_spent ls p q r t names firsts others next replies more rules first_are last_are first clean last =
    All-from_get_or IsSpent next Nothing (λ i l. none_later (number_at names) (0 + i) (get_or next i Nothing) (each i l))
  where
    long : length (firsts ++ others) ≡ length firsts + length others
    long = length-append firsts others

    both : AreReturned (lines_by is_first ls ++ lines_by is_last ls)
    both = subst AreReturned (main_same ls rules) (pass_returned ls 0 rules)

    behind : AreReturned (lines_by is_last ls ++ [])
    behind = subst AreReturned (sym (append-nil (lines_by is_last ls))) (returned_behind (lines_by is_first ls) (lines_by is_last ls) both)

    -- a name of the first lines
    of_first : (i : ℕ) → i < length firsts → Left (number_at names) (lines_by is_last ls ++ []) (0 + i) (get_or (firsts ++ others) i Nothing)
    of_first i l =
        subst (λ (s : Standing). Left (number_at names) (lines_by is_last ls ++ []) (0 + i) s) (sym (get_or_append_left firsts others Nothing i l))
        (subst (λ (ls : List Line). Left (number_at names) ls (0 + i) (get_or firsts i Nothing)) (sym (append-nil (lines_by is_last ls)))
        (table_own first (omega arith) (lines_by is_last ls)
        (subst (λ (n : ℕ). AreNumbered (number_at names) n (lines_by is_first ls)) (omega arith) first_are) both i (omega arith) l))

    -- a name of the workers' lines
    of_other : (i : ℕ) → length firsts ≤ i → i < length firsts + length others
        → Left (number_at names) (lines_by is_last ls ++ []) (0 + i) (get_or (firsts ++ others) i Nothing)
    of_other i low high =
        spent (subst IsSpent (sym (get_or-append_right firsts others (length firsts) i Nothing refl low))
        (clean (i - length firsts) Nothing (omega (arith, low, high))))

    before : (i : ℕ) → i < length firsts + length others → Left (number_at names) (lines_by is_last ls ++ []) (0 + i) (get_or (firsts ++ others) i Nothing)
    before i l = ⊎_elim (of_first i) (λ low. of_other i low l) (cases_lt i (length firsts))

    each : (i : ℕ) → i < length next → Left (number_at names) [] (0 + i) (get_or next i Nothing)
    each i l = ⊎_elim
        (λ (b : i < length (firsts ++ others)). table_kept last (omega arith) [] i b (before i (omega (arith, b, long))))
        (λ low. table_own last (omega arith) [] (subst (λ (n : ℕ). AreNumbered (number_at names) n (lines_by is_last ls)) (omega (arith, long)) last_are)
        behind i low l)
        (cases_lt i (length (firsts ++ others)))

pub lines_leave_nothing : LinesLeaveNothing
lines_leave_nothing = record { returned = pass_returned; numbered = in_order_numbered; worker = worker_spent; main = main_spent }
