-- The arguments of commands: each row of words is read as what it spells, and spells what it is read as.
use Rattle.std.proofs.Common.{◌≡◌, refl, ap, subst, ◌∙◌, ℕ, ◌<◌, ◌≤◌, ◌^◌, suc, true, false, not, ◌||◌, eqb, Option, Some, None, List, [], ◌∷◌, ◌++◌, arith, lit<}
use Rattle.std.specs.{Prelude.{ℤ, pos, negsuc, IsTrue}, Char.{digit_value}, Fmt.{decimal, signed_decimal}, Int.Signed.{mag}, List.{list_all}}
use Rattle.std.{specs.{Option.{option_zip, option_map, option_and_then}, Str.Parse.{AllDigits}}, proofs.lemmas.Bool.{and_parts, not-true, eqb-false}}
use Rattle.std.proofs.lemmas.{Fmt.{decimal_is_IsNumeral}, Option.{same_Some, option_and_then_some}}
use Rattle.fm_base.specs.declared.kind.Kind.{Kind}
use Rattle.fm_lanes.specs.declared.{order.Order.{Order}, value_kind.ValueKind.{ValueKind}}
use Rattle.fm_layout.specs.Name.{IsName, IsNameEnd, is_letter, is_digit}
use Rattle.fm_script_text.proofs.Cuts.{IsFree, cut_behind, cut_gives, row3, row4, row5, cut3_row, cut4_row, cut5_row, cut3_gives, cut4_gives, cut5_gives}
use Rattle.fm_script_text.proofs.Spelling.{named_name, name_is, named_up_to, number_is, named_value, value_is, named_kind, kind_is, every_type, named_type, type_is}
use Rattle.fm_script_text.specs.declared.cell.Cell.{Cell}
use Rattle.fm_script_text.specs.Reader.{name_named, number_named, literal_named, type_named, arena_kind_named, cut, cut3, cut4, cut5, opening, two, filled, sized, cell_of, cell_named, with_value, with_two, got, valued, swapped}
use Rattle.fm_script_text.specs.Syntax.{arena_kind_text, type_text, IsOfKind, IsCell, most}

-- ---- words have no spaces

-- where each byte was tested
pub free_tested : (bs : List ℕ) → list_all (λ b. not (eqb b 32)) bs ≡ true → IsFree 32 bs
free_tested [] t = tt
free_tested (b ∷ bs) t = let p = and_parts _ _ t in (eqb-false b 32 (not-true _ p.0), free_tested bs p.1)

-- bytes of a name are no spaces
free_end : (cs : List ℕ) → IsNameEnd cs → IsFree 32 cs
free_end [] h = tt
free_end (c ∷ cs) h = (λ e. let k : false ≡ true = subst (λ x. IsTrue (is_letter x || is_digit x)) e h.0 in absurd (cc), free_end cs h.1)

-- a name has no spaces
pub free_name : (name : List ℕ) → IsName name → IsFree 32 name
free_name [] h = absurd h
free_name (c ∷ cs) h = (λ e. let k : false ≡ true = subst (λ x. IsTrue (is_letter x)) e h.0 in absurd (cc), free_end cs h.1)

-- digits are no spaces
free_digits : (ds : List ℕ) → AllDigits 10 ds → IsFree 32 ds
free_digits [] h = tt
free_digits (d ∷ ds) h = (λ e. let k : digit_value 32 < 10 = subst (λ x. digit_value x < 10) e h.0 in absurd (omega arith), free_digits ds h.1)

-- a number has no spaces
pub free_decimal : (n : ℕ) → n < 2 ^ 64 → IsFree 32 (decimal n)
free_decimal n h = free_digits (decimal n) (decimal_is_IsNumeral n h).0.1

-- nor has one with a sign
pub free_signed : (z : ℤ) → mag z < 2 ^ 63 → IsFree 32 (signed_decimal z)
free_signed (pos n) h = free_decimal n (omega arith)
free_signed (negsuc n) h = (λ e. absurd (omega arith), free_decimal (suc n) (omega arith))

-- nor has a type
pub free_type : (k : ValueKind) (o : Order) → IsFree 32 (type_text k o)
free_type k o =
    free_tested (type_text k o) (every_type (λ t. list_all (λ b. not (eqb b 32)) (type_text t.0 t.1) ≡ true)
    (refl, (refl, (refl, (refl, (refl, (refl, (refl, (refl, (refl, (refl, (refl, (refl, tt)))))))))))) k o)

-- ---- parts of what was read

-- both were read where the pair was
pub zip_parts : {A B : Type 0} (a : Option A) (b : Option B) (x : A × B) → option_zip a b ≡ Some x → (a ≡ Some x.0) × (b ≡ Some x.1)
zip_parts None b x e = absurd (cc)
zip_parts (Some y) None x e = absurd (cc)
zip_parts (Some y) (Some z) x e = let s = same_Some (y, z) x e in (ap (λ p. Some p.0) s, ap (λ p. Some p.1) s)

-- what was made was made of something
pub map_some : {A B P : Type 0} (f : A → B) (o : Option A) (y : B) → option_map f o ≡ Some y → ((x : A) → o ≡ Some x → f x ≡ y → P) → P
map_some f None y e h = absurd (cc)
map_some f (Some x) y e h = h x refl (same_Some (f x) y e)

-- equal words make equal rows
joins : (a b c d : List ℕ) → a ≡ b → c ≡ d → a ++ (32 ∷ c) ≡ b ++ (32 ∷ d)
joins a b c d e f = cc

-- ---- names and numbers

-- one name spells what it is read as
pub name_gives : (text name : List ℕ) → name_named text ≡ Some name → (text ≡ name) × IsName name
name_gives text name e = let n = name_is text name e in (n.1, n.0)

-- NAME KIND is read as itself
pub opening_row : (name : List ℕ) (k : Kind) → IsName name → opening (name ++ (32 ∷ arena_kind_text k)) ≡ Some (name, k)
opening_row name k h = rw (cut_behind name (arena_kind_text k) (free_name name h), named_name name h, named_kind k) refl

-- and spells what it is read as
pub opening_gives : (text : List ℕ) (x : List ℕ × Kind) → opening text ≡ Some x → (text ≡ x.0 ++ (32 ∷ arena_kind_text x.1)) × IsName x.0
opening_gives text x e = option_and_then_some (λ y. option_zip (name_named y.0) (arena_kind_named y.1)) (cut text) x e (λ y f g.
    let z = zip_parts (name_named y.0) (arena_kind_named y.1) x g in
    let n = name_is y.0 x.0 z.0 in
    (cut_gives text y f ∙ joins y.0 x.0 y.1 (arena_kind_text x.1) n.1 (kind_is y.1 x.1 z.1), n.0))

-- two names are read as themselves
pub two_row : (a b : List ℕ) → IsName a → IsName b → two (a ++ (32 ∷ b)) ≡ Some (a, b)
two_row a b h k = rw (cut_behind a b (free_name a h), named_name a h, named_name b k) refl

-- and spell what they are read as
pub two_gives : (text : List ℕ) (x : List ℕ × List ℕ) → two text ≡ Some x → (text ≡ x.0 ++ (32 ∷ x.1)) × (IsName x.0 × IsName x.1)
two_gives text x e = option_and_then_some (λ y. option_zip (name_named y.0) (name_named y.1)) (cut text) x e (λ y f g.
    let z = zip_parts (name_named y.0) (name_named y.1) x g in
    let n = name_is y.0 x.0 z.0 in
    let m = name_is y.1 x.1 z.1 in
    (cut_gives text y f ∙ joins y.0 x.0 y.1 x.1 n.1 m.1, (n.0, m.0)))

-- SEG BYTE is read as itself
pub filled_row : (a : List ℕ) (n : ℕ) → IsName a → n ≤ 255 → filled (a ++ (32 ∷ decimal n)) ≡ Some (a, n)
filled_row a n h le = rw (cut_behind a (decimal n) (free_name a h), named_name a h, named_up_to 255 n le (lit< tt)) refl

-- and spells what it is read as
pub filled_gives : (text : List ℕ) (x : List ℕ × ℕ) → filled text ≡ Some x → (text ≡ x.0 ++ (32 ∷ decimal x.1)) × (IsName x.0 × (x.1 ≤ 255))
filled_gives text x e = option_and_then_some (λ y. option_zip (name_named y.0) (number_named 255 y.1)) (cut text) x e (λ y f g.
    let z = zip_parts (name_named y.0) (number_named 255 y.1) x g in
    let n = name_is y.0 x.0 z.0 in
    let m = number_is 255 y.1 x.1 z.1 in
    (cut_gives text y f ∙ joins y.0 x.0 y.1 (decimal x.1) n.1 m.1, (n.0, m.0)))

-- two names and two numbers are read as themselves
pub sized_row : (a b : List ℕ) (n m : ℕ) → IsName a → IsName b → n ≤ most → m ≤ most → sized (row4 (a, b, decimal n, decimal m)) ≡ Some ((a, b), (n, m))
sized_row a b n m h k le lf =
    rw (
      cut4_row a b (decimal n) (decimal m) (free_name a h) (free_name b k) (free_decimal n (omega arith)),
      named_name a h,
      named_name b k,
      named_up_to most n le (lit< tt),
      named_up_to most m lf (lit< tt),
    ) refl

-- equal words make equal rows
rows4 : (a b c d a' b' c' d' : List ℕ) → a ≡ a' → b ≡ b' → c ≡ c' → d ≡ d' → row4 (a, b, c, d) ≡ row4 (a', b', c', d')
rows4 a b c d a' b' c' d' e f g h = cc

-- and spell what they are read as
pub sized_gives : (text : List ℕ) (x : (List ℕ × List ℕ) × (ℕ × ℕ)) → sized text ≡ Some x
    → (text ≡ row4 (x.0.0, x.0.1, decimal x.1.0, decimal x.1.1)) × (IsName x.0.0 × IsName x.0.1 × (x.1.0 ≤ most) × (x.1.1 ≤ most))
sized_gives text x e =
    option_and_then_some (λ y. option_zip (option_zip (name_named y.0) (name_named y.1)) (option_zip (number_named most y.2) (number_named most y.3)))
    (cut4 text) x e (λ y f g.
    let z = zip_parts (option_zip (name_named y.0) (name_named y.1)) (option_zip (number_named most y.2) (number_named most y.3)) x g in
    let names = zip_parts (name_named y.0) (name_named y.1) x.0 z.0 in
    let numbers = zip_parts (number_named most y.2) (number_named most y.3) x.1 z.1 in
    let a = name_is y.0 x.0.0 names.0 in
    let b = name_is y.1 x.0.1 names.1 in
    let n = number_is most y.2 x.1.0 numbers.0 in
    let m = number_is most y.3 x.1.1 numbers.1 in
    (cut4_gives text y f ∙ rows4 y.0 y.1 y.2 y.3 x.0.0 x.0.1 (decimal x.1.0) (decimal x.1.1) a.1 b.1 n.1 m.1, (a.0, b.0, n.0, m.0)))

-- ---- cells

-- the words of a cell are read as it
cell_row : (c : Cell) → IsCell c → cell_named c.segment (type_text c.kind c.order) (decimal c.offset) ≡ Some c
cell_row c h = rw (named_name c.segment h.0, named_type c.kind c.order, named_up_to most c.offset h.1 (lit< tt)) refl

-- the words are a cell's
record IsCellRow (segment kind offset : List ℕ) (c : Cell) : Type 0 where
  segment_is : segment ≡ c.segment
  kind_is : kind ≡ type_text c.kind c.order
  offset_is : offset ≡ decimal c.offset
  is_cell : IsCell c

-- and are those of the cell that they are read as
cell_gives : (segment kind offset : List ℕ) (c : Cell) → cell_named segment kind offset ≡ Some c → IsCellRow segment kind offset c
cell_gives segment kind offset c e =
    map_some cell_of (option_zip (name_named segment) (option_zip (type_named kind) (number_named most offset))) c e (λ x f g.
    let z = zip_parts (name_named segment) (option_zip (type_named kind) (number_named most offset)) x f in
    let w = zip_parts (type_named kind) (number_named most offset) x.1 z.1 in
    let n = name_is segment x.0 z.0 in
    let m = number_is most offset x.1.1 w.1 in
    subst (IsCellRow segment kind offset) g (record { segment_is = n.1; kind_is = type_is kind x.1.0 w.0; offset_is = m.1; is_cell = (n.0, m.0) }))

-- the words of a cell
abbrev pub cell_words : Cell → List ℕ × List ℕ × List ℕ
cell_words c = (c.segment, type_text c.kind c.order, decimal c.offset)

-- an offset has 64 bits
small_offset : (c : Cell) → IsCell c → c.offset < 2 ^ 64
small_offset c h = omega (arith, h.1)

-- SEG TYPE OFFSET is read as itself
pub got_row : (c : Cell) → IsCell c → got (row3 (cell_words c)) ≡ Some c
got_row c h =
    ap (option_and_then (λ x. cell_named x.0 x.1 x.2))
    (cut3_row c.segment (type_text c.kind c.order) (decimal c.offset) (free_name c.segment h.0) (free_type c.kind c.order))
    ∙ cell_row c h

-- and spells what it is read as
pub got_gives : (text : List ℕ) (c : Cell) → got text ≡ Some c → (text ≡ row3 (cell_words c)) × IsCell c
got_gives text c e = option_and_then_some (λ x. cell_named x.0 x.1 x.2) (cut3 text) c e (λ y f g.
    let r = cell_gives y.0 y.1 y.2 c g in
    (cut3_gives text y f ∙ rows3 y.0 y.1 y.2 c.segment (type_text c.kind c.order) (decimal c.offset) r.segment_is r.kind_is r.offset_is, r.is_cell))
  where
    rows3 : (a b c a' b' c' : List ℕ) → a ≡ a' → b ≡ b' → c ≡ c' → row3 (a, b, c) ≡ row3 (a', b', c')
    rows3 a b c a' b' c' e f g = cc

-- SEG TYPE OFFSET VALUE is read as itself
pub valued_row : (c : Cell) (z : ℤ) → IsCell c → IsOfKind c.kind z
    → valued (row4 (c.segment, type_text c.kind c.order, decimal c.offset, signed_decimal z)) ≡ Some (c, z)
valued_row c z h k =
    ap (option_and_then (λ x. with_value (cell_named x.0 x.1 x.2) x.3))
    (cut4_row c.segment (type_text c.kind c.order) (decimal c.offset) (signed_decimal z) (free_name c.segment h.0) (free_type c.kind c.order)
    (free_decimal c.offset (small_offset c h)))
    ∙ ap (λ o. with_value o (signed_decimal z)) (cell_row c h) ∙ ap (option_map (λ v. (c, v))) (named_value c.kind z k)

-- and spells what it is read as
pub valued_gives : (text : List ℕ) (x : Cell × ℤ) → valued text ≡ Some x
    → (text ≡ row4 (x.0.segment, type_text x.0.kind x.0.order, decimal x.0.offset, signed_decimal x.1)) × (IsCell x.0 × IsOfKind x.0.kind x.1)
valued_gives text x e = option_and_then_some (λ y. with_value (cell_named y.0 y.1 y.2) y.3) (cut4 text) x e (λ y f g.
    let w = parts (cell_named y.0 y.1 y.2) y.3 x g in
    let r = cell_gives y.0 y.1 y.2 x.0 w.0 in
    let v = value_is x.0.kind y.3 x.1 w.1 in (
      cut4_gives text y f
          ∙ rows4 y.0 y.1 y.2 y.3 x.0.segment (type_text x.0.kind x.0.order) (decimal x.0.offset) (signed_decimal x.1) r.segment_is r.kind_is r.offset_is v.1,
      (r.is_cell, v.0),
    ))
  where
    parts : (o : Option Cell) (word : List ℕ) (x : Cell × ℤ) → with_value o word ≡ Some x → (o ≡ Some x.0) × (literal_named x.0.kind word ≡ Some x.1)
    parts None word x e = absurd (cc)
    parts (Some c) word x e = map_some (λ v. (c, v)) (literal_named c.kind word) x e (λ v f g.
        subst (λ (y : Cell × ℤ). (Some c ≡ Some y.0) × (literal_named y.0.kind word ≡ Some y.1)) g (refl, f))

-- SEG TYPE OFFSET OLD NEW is read as itself
pub swapped_row : (c : Cell) (z w : ℤ) → IsCell c → IsOfKind c.kind z → IsOfKind c.kind w → mag z < 2 ^ 63
    → swapped (row5 (c.segment, type_text c.kind c.order, decimal c.offset, signed_decimal z, signed_decimal w)) ≡ Some (c, z, w)
swapped_row c z w h k l small =
    ap (option_and_then (λ x. with_two (cell_named x.0 x.1 x.2) x.3 x.4))
    (cut5_row c.segment (type_text c.kind c.order) (decimal c.offset) (signed_decimal z) (signed_decimal w) (free_name c.segment h.0)
    (free_type c.kind c.order) (free_decimal c.offset (small_offset c h)) (free_signed z small))
    ∙ ap (λ o. with_two o (signed_decimal z) (signed_decimal w)) (cell_row c h)
    ∙ rw (named_value c.kind z k, named_value c.kind w l) refl

-- and spells what it is read as
pub swapped_gives : (text : List ℕ) (x : Cell × ℤ × ℤ) → swapped text ≡ Some x
    → (text ≡ row5 (x.0.segment, type_text x.0.kind x.0.order, decimal x.0.offset, signed_decimal x.1, signed_decimal x.2))
    × (IsCell x.0 × IsOfKind x.0.kind x.1 × IsOfKind x.0.kind x.2)
swapped_gives text x e = option_and_then_some (λ y. with_two (cell_named y.0 y.1 y.2) y.3 y.4) (cut5 text) x e (λ y f g.
    let w = parts (cell_named y.0 y.1 y.2) y.3 y.4 x g in
    let r = cell_gives y.0 y.1 y.2 x.0 w.0 in
    let v = value_is x.0.kind y.3 x.1 w.1 in
    let u = value_is x.0.kind y.4 x.2 w.2 in (
      cut5_gives text y f
          ∙ rows5 y.0 y.1 y.2 y.3 y.4 x.0.segment (type_text x.0.kind x.0.order) (decimal x.0.offset) (signed_decimal x.1) (signed_decimal x.2)
          r.segment_is r.kind_is r.offset_is v.1 u.1,
      (r.is_cell, v.0, u.0),
    ))
  where
    parts : (o : Option Cell) (old new : List ℕ) (x : Cell × ℤ × ℤ) → with_two o old new ≡ Some x
        → (o ≡ Some x.0) × (literal_named x.0.kind old ≡ Some x.1) × (literal_named x.0.kind new ≡ Some x.2)
    parts None old new x e = absurd (cc)
    parts (Some c) old new x e =
        map_some (λ v. (c, v.0, v.1)) (option_zip (literal_named c.kind old) (literal_named c.kind new)) x e (λ v f g.
        let z = zip_parts (literal_named c.kind old) (literal_named c.kind new) v f in
        subst (λ (y : Cell × ℤ × ℤ). (Some c ≡ Some y.0) × (literal_named y.0.kind old ≡ Some y.1) × (literal_named y.0.kind new ≡ Some y.2)) g
        (refl, z.0, z.1))

    rows5 : (a b c d e a' b' c' d' e' : List ℕ) → a ≡ a' → b ≡ b' → c ≡ c' → d ≡ d' → e ≡ e' → row5 (a, b, c, d, e) ≡ row5 (a', b', c', d', e')
    rows5 a b c d e a' b' c' d' e' f g h i j = cc
