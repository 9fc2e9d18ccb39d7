-- What is left of an answer's lines, and of a line's numbers, while they are sent.
use Rattle.std.{proofs.Common.{◌≡◌, ℕ, ◌+◌, ◌<◌, ◌≤◌, List, [], ◌∷◌, ◌++◌, length, drop, get_or, inl, inr, refl, ap, sym, ◌∙◌, arith}, specs.Prelude.{ℤ, min}}
use Rattle.std.{specs.List.{flat_map}, proofs.lemmas.{Bool.{cases_lt}, List.{drop_more, drop_all}}}
use Rattle.fm_records_query.specs.declared.item.Item.{Item}
use Rattle.fm_records.specs.{declared.found.Found.{Found}, Texts.{line_text, lines_text, number_text}}

-- a line, and then those behind it
pub next_line : (k : ℕ) (items : List Item) (found : List Found) (item : Item) (f : Found) → k < length items → k < length found
    → item ≡ get_or items k item → f ≡ get_or found k f
    → lines_text (drop k items) (drop k found) ≡ line_text item f ++ lines_text (drop (k + 1) items) (drop (k + 1) found)
next_line k items found item f one other is_item is_f =
    ap (λ is. lines_text is (drop k found)) (drop_more items k item one)
    ∙ ap (λ fs. lines_text (get_or items k item ∷ drop (k + 1) items) fs) (drop_more found k f other)
    ∙ ap (λ x. line_text x (get_or found k f) ++ lines_text (drop (k + 1) items) (drop (k + 1) found)) (sym is_item)
    ∙ ap (λ x. line_text item x ++ lines_text (drop (k + 1) items) (drop (k + 1) found)) (sym is_f)

-- behind the last line that has both, no line is left
none_found : (items : List Item) → lines_text items [] ≡ []
none_found [] = refl
none_found (i ∷ is) = refl

pub no_line : (k : ℕ) (items : List Item) (found : List Found) → min (length items) (length found) ≤ k
    → lines_text (drop k items) (drop k found) ≡ []
no_line k items found past =
    elim (cases_lt k (length items)) [
      | inl one ↦ ap (lines_text (drop k items)) (drop_all k found (omega (arith, one, past))) ∙ none_found (drop k items)
      | inr h ↦ ap (λ is. lines_text is (drop k found)) (drop_all k items h)
    ]

-- a number, and then those behind it
pub next_number : (k : ℕ) (numbers : List ℤ) (n d : ℤ) → k < length numbers → n ≡ get_or numbers k d
    → flat_map number_text (drop k numbers) ≡ number_text n ++ flat_map number_text (drop (k + 1) numbers)
next_number k numbers n d one is =
    ap (flat_map number_text) (drop_more numbers k d one)
    ∙ ap (λ x. number_text x ++ flat_map number_text (drop (k + 1) numbers)) (sym is)

pub no_number : (k : ℕ) (numbers : List ℤ) → length numbers ≤ k → flat_map number_text (drop k numbers) ≡ []
no_number k numbers past = ap (flat_map number_text) (drop_all k numbers past)
