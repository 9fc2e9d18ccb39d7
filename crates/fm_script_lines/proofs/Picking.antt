-- Lines picked out of a script's one by one.
use Rattle.std.proofs.Common.{◌≡◌, ℕ, zero, suc, ◌+◌, ◌<◌, ◌≤◌, nat_lt, append_assoc, Bool, true, false, if◌then◌else◌, List, [], ◌∷◌, ◌++◌, length, length-append, take, drop, get_or, refl, sym, ap, ◌∙◌, subst, arith}
use Rattle.std.proofs.lemmas.{Bool.{ltb-true, ltb-false}, List.{append-nil, get_or_append_left, get_or_push, map-append, take_more, take-append-drop}}
use Rattle.std.{proofs.lemmas.List.Elements.{filter-append}, specs.Borrow.{Bor}}
use Rattle.fm_script_text.specs.declared.{line.Line.{Line}, who.Who.{Who}}
use Rattle.fm_script_lines.specs.{Ordering.{AreStarts, lines_at, worker_lines}, Report.{is_first, is_worker, lines_by}}

module _ (is : Who → Bool) (ls : List Line) (k : ℕ) (l : Line) (below : k < length ls) (there : l ≡ get_or ls k l) where
  by_more : lines_by is (take (k + 1) ls) ≡ lines_by is (take k ls) ++ lines_by is (l ∷ [])
  by_more = ap (λ (xs : List Line). lines_by is xs) (take_more ls k l below ∙ ap (λ (x : Line). take k ls ++ x ∷ []) (sym there))
      ∙ filter-append (λ (x : Line). is x.who) (take k ls) (l ∷ [])

  -- One line more is one of them, or isn't.
  pub by_one : is l.who ≡ true → lines_by is (take (k + 1) ls) ≡ lines_by is (take k ls) ++ l ∷ []
  by_one e = by_more ∙ ap (λ (b : Bool). lines_by is (take k ls) ++ (if b then l ∷ [] else [])) e

  pub by_none : is l.who ≡ false → lines_by is (take (k + 1) ls) ≡ lines_by is (take k ls)
  by_none e = by_more ∙ (ap (λ (b : Bool). lines_by is (take k ls) ++ (if b then l ∷ [] else [])) e ∙ append-nil (lines_by is (take k ls)))

  -- And the others are behind it.
  pub by_split : is l.who ≡ true → lines_by is ls ≡ lines_by is (take k ls) ++ l ∷ lines_by is (drop (k + 1) ls)
  by_split e =
      ap (λ (xs : List Line). lines_by is xs) (sym (take-append-drop (k + 1) ls))
      ∙ (filter-append (λ (x : Line). is x.who) (take (k + 1) ls) (drop (k + 1) ls)
      ∙ (ap (λ (xs : List Line). xs ++ lines_by is (drop (k + 1) ls)) (by_one e)
      ∙ append_assoc (lines_by is (take k ls)) (l ∷ []) (lines_by is (drop (k + 1) ls))))

-- Those of the first lines are not more than those of all.
pub by_few : (is : Who → Bool) (ls : List Line) (k : ℕ) → length (lines_by is (take k ls)) ≤ length (lines_by is ls)
by_few is ls k =
    let all = ap (λ (xs : List Line). length (lines_by is xs)) (sym (take-append-drop k ls))
    ∙ (ap (λ (xs : List Line). length xs) (filter-append (λ (x : Line). is x.who) (take k ls) (drop k ls))
    ∙ length-append (lines_by is (take k ls)) (lines_by is (drop k ls))) in
    omega (arith, all)

-- Where one of them is next, not all were before it.
pub by_room : (is : Who → Bool) (ls : List Line) (k : ℕ) (l : Line) → k < length ls → l ≡ get_or ls k l → is l.who ≡ true
    → length (lines_by is (take k ls)) < length (lines_by is ls)
by_room is ls k l below there e =
    let one = ap (λ (xs : List Line). length xs) (by_one is ls k l below there e) in
    let more = length-append (lines_by is (take k ls)) (l ∷ []) in
    let few = by_few is ls (k + 1) in
    omega (arith, one, more, few)

-- One worker more.
pub worker_lines-push : (n k : ℕ) (ls : List Line) → worker_lines (suc n) k ls ≡ worker_lines n k ls ++ lines_by (is_worker (k + n)) ls
worker_lines-push zero k ls = append-nil (lines_by (is_worker k) ls) ∙ ap (λ (m : ℕ). lines_by (is_worker m) ls) (omega arith)
worker_lines-push (suc n) k ls =
    ap (λ (xs : List Line). lines_by (is_worker k) ls ++ xs) (worker_lines-push n (k + 1) ls)
    ∙ (sym (append_assoc (lines_by (is_worker k) ls) (worker_lines n (k + 1) ls) (lines_by (is_worker (k + 1 + n)) ls))
    ∙ ap (λ (m : ℕ). worker_lines (suc n) k ls ++ lines_by (is_worker m) ls) (omega arith))

worker_lines-more : (n : ℕ) (ls : List Line) → worker_lines (n + 1) 1 ls ≡ worker_lines n 1 ls ++ lines_by (is_worker (n + 1)) ls
worker_lines-more n ls =
    let next : suc n ≡ n + 1 = omega arith in
    let same : 1 + n ≡ n + 1 = omega arith in
    subst (λ (m : ℕ). worker_lines m 1 ls ≡ worker_lines n 1 ls ++ lines_by (is_worker (n + 1)) ls) next
    (worker_lines-push n 1 ls ∙ ap (λ (m : ℕ). worker_lines n 1 ls ++ lines_by (is_worker m) ls) same)

-- All lines up to this worker's, which come next.
pub lines_so_far : (order next : List Line) (n : ℕ) (ls : List Line) → order ≡ lines_by is_first ls ++ worker_lines n 1 ls
    → next ≡ order ++ lines_by (is_worker (n + 1)) ls → next ≡ lines_by is_first ls ++ worker_lines (n + 1) 1 ls
lines_so_far order next n ls was is =
    is ∙ (ap (λ (xs : List Line). xs ++ lines_by (is_worker (n + 1)) ls) was
    ∙ (append_assoc (lines_by is_first ls) (worker_lines n 1 ls) (lines_by (is_worker (n + 1)) ls)
    ∙ ap (λ (xs : List Line). lines_by is_first ls ++ xs) (sym (worker_lines-more n ls))))

-- And one start more.
pub starts-push : (starts next : List ℕ) (n place : ℕ) (order : List Line) (ls : List Line) → AreStarts ls n starts
    → next ≡ starts ++ place ∷ [] → place ≡ length order → order ≡ lines_by is_first ls ++ worker_lines n 1 ls → AreStarts ls (n + 1) next
starts-push starts next n place order ls a is here so_far =
    let many = a.many in
    record {
      many = let one = ap (λ (xs : List ℕ). length xs) is in let more = length-append starts (place ∷ []) in omega (arith, one, more, many);
      are = λ k below. ap (λ (xs : List ℕ). get_or xs k 0) is ∙ by_place k below (nat_lt k n) refl;
    }
  where
    by_place : (k : ℕ) → k < n + 1 → (b : Bool) → nat_lt k n ≡ b
        → get_or (starts ++ place ∷ []) k 0 ≡ length (lines_by is_first ls ++ worker_lines k 1 ls)
    by_place k below true e =
        let l = ltb-true k n e in let many = a.many in
        get_or_append_left starts (place ∷ []) 0 k (omega (arith, l, many)) ∙ a.are k l
    by_place k below false e =
        let g = ltb-false k n e in let many = a.many in
        get_or_push starts place 0 k (omega (arith, g, below, many))
        ∙ (here ∙ (ap (λ (xs : List Line). length xs) so_far
        ∙ ap (λ (m : ℕ). length (lines_by is_first ls ++ worker_lines m 1 ls)) (omega (arith, g, below))))

pub lines_at-push : (order : List (Bor Line)) (l : Bor Line) → lines_at (order ++ l ∷ []) ≡ lines_at order ++ l.now ∷ []
lines_at-push order l = map-append (λ (x : Bor Line). x.now) order (l ∷ [])
