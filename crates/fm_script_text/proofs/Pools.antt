-- The pool's line is read as the shape that it says, and says what it is read as.
use Rattle.std.proofs.Common.{◌≡◌, refl, sym, ap, subst, ◌∙◌, ℕ, ◌*◌, ◌<◌, ◌≤◌, if◌then◌else◌, Option, Some, None, List, ◌∷◌, ◌++◌, arith, lit<, codes}
use Rattle.std.{specs.{Fmt.{decimal}, Option.{option_zip, option_and_then}, Str.{bytes_eq}}, proofs.lemmas.Bool.{cond_both}}
use Rattle.std.proofs.lemmas.{Option.{option_and_then_some, none-some, same_Some}, Slice.Eq.{bytes_eq-Decides}}
use Rattle.fm_words.specs.{declared.shape.Shape.{Shape}, Shapes.{IsValid}}
use Rattle.fm_script_text.proofs.{Arguments.{free_tested, free_decimal, map_some, zip_parts}, Cuts.{cut_behind, cut_gives, row5, cut5_row, cut5_gives}}
use Rattle.fm_script_text.proofs.Spelling.{named_up_to, number_is}
use Rattle.fm_script_text.specs.{Reader.{number_named, cut, cut5, most_of_shape, shape_from, numbers_named, shape_named}, Syntax.{SaysPool, pool_text}}

-- a shape with one pass
abbrev pub with_one : Shape → Shape
with_one z = record z { passes = 1 }

-- a valid shape is one with other passes too
valid_with : (z : Shape) (n : ℕ) → IsValid z → 1 ≤ n → n ≤ 4096 → IsValid (record z { passes = n })
valid_with z n v some few = record {
  passes = (some, few);
  slots = v.slots;
  pages = v.pages;
  page_words = v.page_words;
  reach = v.reach;
  generations = v.generations;
  words = v.words;
}

-- so it is one with one pass
pub valid_one : (z : Shape) → IsValid z → IsValid (with_one z)
valid_one z v = valid_with z 1 v (omega arith) (omega arith)

-- the line of a valid shape is read as it, but for the passes
pub shape_row : (z : Shape) → IsValid z → shape_named (pool_text z) ≡ Some (with_one z)
shape_row z v =
    ap (option_and_then (λ x. if bytes_eq x.0 (codes "pool") then option_and_then (λ y. numbers_named y.0 y.1 y.2 y.3 y.4) (cut5 x.1) else None))
    (cut_behind (codes "pool") (row5 (decimal z.slots, decimal z.reach, decimal z.page_words, decimal z.generations, decimal z.pages))
    (free_tested (codes "pool") refl))
    ∙ ap (option_and_then (λ y. numbers_named y.0 y.1 y.2 y.3 y.4))
    (cut5_row (decimal z.slots) (decimal z.reach) (decimal z.page_words) (decimal z.generations) (decimal z.pages)
    (free_decimal z.slots (omega (arith, v.slots))) (free_decimal z.reach (omega (arith, v.reach, v.pages)))
    (free_decimal z.page_words (omega (arith, v.page_words)))
    (free_decimal z.generations (omega (arith, v.generations))))
    ∙ rw (
      named_up_to most_of_shape z.slots (omega (arith, v.slots)) (lit< tt),
      named_up_to most_of_shape z.reach (omega (arith, v.reach, v.pages)) (lit< tt),
      named_up_to most_of_shape z.page_words (omega (arith, v.page_words)) (lit< tt),
      named_up_to most_of_shape z.generations (omega (arith, v.generations)) (lit< tt),
      named_up_to most_of_shape z.pages (omega (arith, v.pages)) (lit< tt),
    ) refl

-- equal words make equal rows
rows5 : (a b c d e a' b' c' d' e' : List ℕ) → a ≡ a' → b ≡ b' → c ≡ c' → d ≡ d' → e ≡ e' → row5 (a, b, c, d, e) ≡ row5 (a', b', c', d', e')
rows5 a b c d e a' b' c' d' e' f g h i j = cc

-- what the words spell
record IsRow (slots reach page_words generations pages : List ℕ) (z : Shape) : Type 0 where
  passes : z.passes ≡ 1
  row : row5 (slots, reach, page_words, generations, pages)
      ≡ row5 (decimal z.slots, decimal z.reach, decimal z.page_words, decimal z.generations, decimal z.pages)

-- words that are read as a shape are its numbers
numbers_give : (slots reach page_words generations pages : List ℕ) (z : Shape) → numbers_named slots reach page_words generations pages ≡ Some z
    → IsRow slots reach page_words generations pages z
numbers_give a b c d e z f =
    map_some shape_from (option_zip (number_named most_of_shape a) (option_zip (number_named most_of_shape b) (option_zip (number_named most_of_shape c)
    (option_zip (number_named most_of_shape d) (number_named most_of_shape e))))) z f (λ x g s.
    let p = zip_parts (number_named most_of_shape a) (option_zip (number_named most_of_shape b) (option_zip (number_named most_of_shape c)
    (option_zip (number_named most_of_shape d) (number_named most_of_shape e)))) x g in
    let q = zip_parts (number_named most_of_shape b) (option_zip (number_named most_of_shape c)
    (option_zip (number_named most_of_shape d) (number_named most_of_shape e))) x.1 p.1 in
    let r = zip_parts (number_named most_of_shape c) (option_zip (number_named most_of_shape d) (number_named most_of_shape e)) x.1.1 q.1 in
    let t = zip_parts (number_named most_of_shape d) (number_named most_of_shape e) x.1.1.1 r.1 in
    subst (IsRow a b c d e) s (record {
      passes = refl;
      row = rows5 a b c d e (decimal x.0) (decimal x.1.0) (decimal x.1.1.0) (decimal x.1.1.1.0) (decimal x.1.1.1.1)
          (number_is most_of_shape a x.0 p.0).1 (number_is most_of_shape b x.1.0 q.0).1 (number_is most_of_shape c x.1.1.0 r.0).1
          (number_is most_of_shape d x.1.1.1.0 t.0).1 (number_is most_of_shape e x.1.1.1.1 t.1).1;
    }))

-- a line that is read as a shape is its line
pub shape_gives : (text : List ℕ) (z : Shape) → shape_named text ≡ Some z → (text ≡ pool_text z) × (z.passes ≡ 1)
shape_gives text z e =
    option_and_then_some (λ x. if bytes_eq x.0 (codes "pool") then option_and_then (λ y. numbers_named y.0 y.1 y.2 y.3 y.4) (cut5 x.1) else None) (cut text) z
    e (λ x f g.
    cond_both (bytes_eq x.0 (codes "pool")) (option_and_then (λ y. numbers_named y.0 y.1 y.2 y.3 y.4) (cut5 x.1)) None
    (λ o. o ≡ Some z → (text ≡ pool_text z) × (z.passes ≡ 1))
    (λ t h. option_and_then_some (λ y. numbers_named y.0 y.1 y.2 y.3 y.4) (cut5 x.1) z h (λ y k l.
    let r = numbers_give y.0 y.1 y.2 y.3 y.4 z l in (
      cut_gives text x f ∙ both x.0 x.1 (codes "pool") (row5 (decimal z.slots, decimal z.reach, decimal z.page_words, decimal z.generations, decimal z.pages))
          ((bytes_eq-Decides x.0 (codes "pool")).0 t) (cut5_gives x.1 y k ∙ r.row),
      r.passes,
    )))
    (λ _ h. absurd (cc)) g)
  where
    both : (a b c d : List ℕ) → a ≡ c → b ≡ d → a ++ (32 ∷ b) ≡ c ++ (32 ∷ d)
    both a b c d e f = cc

-- ---- what isn't the line of a pool

-- a line that is read as no shape says none
pub missed : (text : List ℕ) (found : Option Shape) → found ≡ shape_named text → found ≡ None → (z : Shape) → SaysPool text z → ⊥
missed text found is none z says =
    let e : ◌≡◌ {A = Option Shape} None (Some (with_one z)) = sym none ∙ is ∙ ap shape_named says.spelled ∙ shape_row z says.is_valid in
    none-some (with_one z) e

-- the shape that was read is that of the line, but for the passes
read_shape : (text : List ℕ) (found : Option Shape) (shape : Shape) → found ≡ shape_named text → found ≡ Some shape → (z : Shape) → SaysPool text z
    → shape ≡ with_one z
read_shape text found shape is some z says = same_Some shape (with_one z) (sym some ∙ is ∙ ap shape_named says.spelled ∙ shape_row z says.is_valid)

-- nor does one that is read as a shape that no pool has
pub invalid : (text : List ℕ) (found : Option Shape) (shape : Shape) → found ≡ shape_named text → found ≡ Some shape → (IsValid shape → ⊥)
    → (z : Shape) → SaysPool text z → ⊥
invalid text found shape is some none z says = none (subst IsValid (sym (read_shape text found shape is some z says)) (valid_one z says.is_valid))

-- nor one that is read as a shape that is too large
pub large : (text : List ℕ) (found : Option Shape) (shape : Shape) → found ≡ shape_named text → found ≡ Some shape → 4194304 < shape.pages * shape.page_words
    → (z : Shape) → SaysPool text z → ⊥
large text found shape is some many z says =
    let k : 4194304 < z.pages * z.page_words =
    subst (λ (y : Shape). 4194304 < y.pages * y.page_words) (read_shape text found shape is some z says) many in
    omega (arith, says.small)

-- a pool's line says the shape with other passes too
pub with_passes : (text : List ℕ) (z : Shape) (n : ℕ) → SaysPool text z → 1 ≤ n → n ≤ 17 → SaysPool text (record z { passes = n })
with_passes text z n says some few =
    record { is_valid = valid_with z n says.is_valid some (omega arith); small = says.small; spelled = says.spelled }
