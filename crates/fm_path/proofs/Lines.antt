-- The lines of a layout, written from the texts of their paths and dims.
use Rattle.std.proofs.{Common.{◌≡◌, refl, sym, ap, ℕ, ◌+◌, List, [], ◌∷◌, ◌++◌, ◌∙◌}, lemmas.List.{append_assoc, append-nil}}
use Rattle.fm_layout.specs.{Tree.{Tree, Trees, Value, Padding, Sequence, Struct, Union, NoMore, More}, Size.{size_of, member_offset}}
use Rattle.fm_path_text.{specs.{declared.step.PathStep.{PathStep, TheVariants.{Name, Each}}, Grammar.{path_text, pieces_of}}, proofs.Reading.{pieces_snoc}}
use Rattle.fm_path.specs.{Listing.{Line, step_to, lines, member_lines, dim_text, dims_text, lines_text}, Listed.{shown, longer_dims, listed, listed_members}}

-- a path's text is its pieces, or a dot
shown_path : (path : List PathStep) → path_text path ≡ shown (pieces_of path)
shown_path [] = refl
shown_path (Name name ∷ ps) = refl
shown_path (p ∷ ps) = refl

-- one more dim
dims_snoc : (dims : List (ℕ × ℕ)) (stride bound : ℕ) → dims_text (dims ++ (stride, bound) ∷ []) ≡ longer_dims (dims_text dims) stride bound
dims_snoc [] stride bound = append-nil (dim_text stride bound)
dims_snoc (d ∷ ds) stride bound =
    ap (λ x. dim_text d.0 d.1 ++ x) (dims_snoc ds stride bound) ∙ sym (append_assoc (dim_text d.0 d.1) (dims_text ds) (dim_text stride bound))

-- the text of two lists of lines
lines_text_append : (xs ys : List Line) → lines_text (xs ++ ys) ≡ lines_text xs ++ lines_text ys
lines_text_append [] ys = refl
lines_text_append (x ∷ xs) ys = simp (lines_text_append xs ys, append_assoc)

mutual
  -- the text of a layout's lines
  pub lines_listed : (t : Tree) (path : List PathStep) (at : ℕ) (dims : List (ℕ × ℕ))
      → lines_text (lines path at dims t) ≡ listed (pieces_of path) at (dims_text dims) t
  lines_listed (Value k o l) path at dims = simp (append-nil, shown_path path)
  lines_listed (Padding n l) path at dims = refl
  lines_listed (Sequence n e l) path at dims =
      simp (lines_listed e (path ++ Each ∷ []) at (dims ++ (size_of e, n) ∷ []), pieces_snoc path Each, dims_snoc dims (size_of e) n)
  lines_listed (Struct ms l) path at dims = members_listed ms path at dims (Struct ms l) 0
  lines_listed (Union ms l) path at dims = members_listed ms path at dims (Union ms l) 0

  -- the same of the members of a group
  members_listed : (ts : Trees) (path : List PathStep) (at : ℕ) (dims : List (ℕ × ℕ)) (group : Tree) (i : ℕ)
      → lines_text (member_lines path at dims group i ts) ≡ listed_members (pieces_of path) at (dims_text dims) group i ts
  members_listed NoMore path at dims group i = refl
  members_listed (More t ts) path at dims group i =
      simp (
        lines_text_append (lines (path ++ step_to group i t ∷ []) (at + member_offset i group) dims t),
        pieces_snoc path (step_to group i t),
        lines_listed t (path ++ step_to group i t ∷ []) (at + member_offset i group) dims,
        members_listed ts path at dims group (i + 1),
      )
