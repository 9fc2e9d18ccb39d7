-- What the rows of a walk hold for an argument.
use Rattle.std.proofs.Common.{◌≡◌, ◌∙◌, ◌++◌, ◌∷◌, Bool, true, false, List, [], Some, refl, ap, sym, is_some, bytes_eq, unwrap_or}
use Rattle.std.proofs.lemmas.Slice.Eq.{bytes_eq-Decides}
use Rattle.clap.specs.{Walk.{Row, Text, all_of, has_row, with_values, without}, declared.builder.value_parser.Reading.{Reading}}
use Rattle.clap.specs.declared.parser.matches.ValueSource.{ValueSource}

-- there is a row exactly where there are values
pub has_row-all_of : (id : Text) (rows : List Row) → has_row id rows ≡ is_some (all_of id rows)
has_row-all_of id [] = refl
has_row-all_of id (r ∷ rs) = go (bytes_eq r.id id) refl (has_row-all_of id rs)
  where
    go : (b : Bool) → bytes_eq r.id id ≡ b → has_row id rs ≡ is_some (all_of id rs) → has_row id (r ∷ rs) ≡ is_some (all_of id (r ∷ rs))
    go true e rec = rw e refl
    go false e rec = rw e rec

-- where there is no row none is taken out
pub without_none : (id : Text) (rows : List Row) → has_row id rows ≡ false → without id rows ≡ rows
without_none id [] none = refl
without_none id (r ∷ rs) none = go (bytes_eq r.id id) refl none (without_none id rs)
  where
    go : (b : Bool) → bytes_eq r.id id ≡ b → has_row id (r ∷ rs) ≡ false → (has_row id rs ≡ false → without id rs ≡ rs)
        → without id (r ∷ rs) ≡ r ∷ rs
    go true e none rec =
        let bad : true ≡ false = rw e at none in
        cc
    go false e none rec =
        let less : has_row id rs ≡ false = rw e at none in
        rw e (ap (λ (l : List Row). r ∷ l) (rec less))

-- new values join those that there are
pub all_of-with_same : (id : Text) (how : Reading) (s : ValueSource) (vs : List Text) (rows : List Row)
    → bytes_eq id id ≡ true → all_of id (with_values id how s vs rows) ≡ Some (unwrap_or (all_of id rows) [] ++ vs)
all_of-with_same id how s vs [] self = rw self refl
all_of-with_same id how s vs (r ∷ rs) self = go (bytes_eq r.id id) refl (all_of-with_same id how s vs rs self)
  where
    go : (b : Bool) → bytes_eq r.id id ≡ b → all_of id (with_values id how s vs rs) ≡ Some (unwrap_or (all_of id rs) [] ++ vs)
        → all_of id (with_values id how s vs (r ∷ rs)) ≡ Some (unwrap_or (all_of id (r ∷ rs)) [] ++ vs)
    go true e rec = simp e refl
    go false e rec = simp e rec

-- and change no other argument's
pub all_of-with_other : (id other : Text) (how : Reading) (s : ValueSource) (vs : List Text) (rows : List Row)
    → bytes_eq id other ≡ false → all_of other (with_values id how s vs rows) ≡ all_of other rows
all_of-with_other id other how s vs [] differ = rw differ refl
all_of-with_other id other how s vs (r ∷ rs) differ = go (bytes_eq r.id id) (bytes_eq r.id other) refl refl
    (all_of-with_other id other how s vs rs differ)
  where
    go : (b c : Bool) → bytes_eq r.id id ≡ b → bytes_eq r.id other ≡ c → all_of other (with_values id how s vs rs) ≡ all_of other rs
        → all_of other (with_values id how s vs (r ∷ rs)) ≡ all_of other (r ∷ rs)
    go true true e f rec =
        let same : r.id ≡ id = (bytes_eq-Decides r.id id).0 e in
        let bad : true ≡ false = sym f ∙ (ap (λ (i : Text). bytes_eq i other) same ∙ differ) in
        cc
    go true false e f rec = simp (e, f) refl
    go false true e f rec = simp (e, f) refl
    go false false e f rec = simp (e, f) rec
