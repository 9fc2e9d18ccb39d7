-- The text of a group's values is that of its members, one after the other.
use Rattle.std.proofs.Common.{◌≡◌, sym, ap, ℕ, zero, suc, ◌+◌, ◌*◌, ◌^◌, ◌<◌, ◌≤◌, Some, None, List, ◌++◌, length, arith, ◌∙◌}
use Rattle.std.proofs.lemmas.List.{append_assoc, append-nil}
use Rattle.fm_layout.specs.{Tree.{Tree, Trees, Sequence, Struct, Union, NoMore, More}, Size.{member_offset}, Parts.{tree_at, member_of, element_of}}
use Rattle.fm_layout.specs.{WellFormed.{IsWellFormed}, Depth.{depth, deepest}}
use Rattle.fm_path_text.specs.Grammar.{piece_of}
use Rattle.fm_path_meaning.specs.Follow.{members_of, count_in}
use Rattle.fm_path_meaning.proofs.Members.{skip_none, members_from, from_more, from_past, none_past, offset_more, offset_fits, offset_none}
use Rattle.fm_path.specs.{Listing.{step_to}, Listed.{listed, listed_members, extent_of}}

-- the text so far, and then that of the members left, is the whole
pub record IsListing (before text path : List ℕ) (at : ℕ) (dims : List ℕ) (t : Tree) (i inner : ℕ) : Type 0 where
  pub rest : text ++ listed_members path at dims t i (members_from i t) ≡ before ++ listed path at dims t
  pub offset : inner ≡ at + member_offset i t

-- the text of all members is the whole
starts : (path : List ℕ) (at : ℕ) (dims : List ℕ) (t : Tree) (count : ℕ) → Some count ≡ count_in (members_of t)
    → listed_members path at dims t 0 (members_from 0 t) ≡ listed path at dims t
starts path at dims (Struct ms l) count e = ap (listed_members path at dims (Struct ms l) 0) (skip_none ms)
starts path at dims (Union ms l) count e = ap (listed_members path at dims (Union ms l) 0) (skip_none ms)
starts path at dims t count e = absurd (cc)

-- before the first member nothing was listed
pub list_start : (before path : List ℕ) (at : ℕ) (dims : List ℕ) (t : Tree) (count : ℕ) → Some count ≡ count_in (members_of t)
    → IsListing before before path at dims t 0 at
list_start before path at dims t count e = record {
  rest = ap (λ x. before ++ x) (starts path at dims t count e);
  offset = omega (arith, offset_none t);
}

-- the next member stands behind this one
offset_on : (t u : Tree) (i : ℕ) → IsWellFormed t → member_of i t ≡ Some u → member_offset (i + 1) t ≡ member_offset i t + extent_of t u
offset_on (Struct ms l) u i w e = (offset_more (Struct ms l) i u tt w e).0
offset_on (Union ms l) u i w e = omega arith
offset_on t u i w e = absurd (cc)

-- one more member's text
pub list_more : (before text next path to : List ℕ) (at : ℕ) (dims : List ℕ) (t u : Tree) (i inner extent : ℕ)
    → IsWellFormed t → IsListing before text path at dims t i inner → member_of i t ≡ Some u → to ≡ path ++ piece_of (step_to t i u)
    → next ≡ text ++ listed to inner dims u → extent ≡ extent_of t u → IsListing before next path at dims t (i + 1) (inner + extent)
list_more before text next path to at dims t u i inner extent w s e et en ee = record {
  rest = simp (en, et, s.offset, append_assoc) (ap (λ ms. text ++ listed_members path at dims t i ms) (sym (from_more i t u e)) ∙ s.rest);
  offset = omega (arith, s.offset, ee, offset_on t u i w e);
}

-- no member is left
pub list_past : (before text path : List ℕ) (at : ℕ) (dims : List ℕ) (t : Tree) (i inner : ℕ) → IsListing before text path at dims t i inner
    → member_of i t ≡ None → text ≡ before ++ listed path at dims t
list_past before text path at dims t i inner s e =
    sym (append-nil text) ∙ ap (λ ms. text ++ listed_members path at dims t i ms) (sym (from_past i t e)) ∙ s.rest

-- behind all members all was listed
pub list_end : (before text path : List ℕ) (at : ℕ) (dims : List ℕ) (t : Tree) (i inner count : ℕ) → IsListing before text path at dims t i inner
    → Some count ≡ count_in (members_of t) → count ≤ i → text ≡ before ++ listed path at dims t
list_end before text path at dims t i inner count s e le = list_past before text path at dims t i inner s (none_past i count t (sym e) le)

-- a member is less deep than its group, an element than its sequence
deep_in : (i : ℕ) (ms : Trees) (u : Tree) → tree_at i ms ≡ Some u → depth u ≤ deepest ms
deep_in i NoMore u e = absurd (cc)
deep_in zero (More t ts) u e = let s : t ≡ u = cc in omega (arith, ap depth s)
deep_in (suc i) (More t ts) u e = omega (arith, deep_in i ts u e)

pub deep_member : (i : ℕ) (t u : Tree) → member_of i t ≡ Some u → depth u < depth t
deep_member i (Struct ms l) u e = omega (arith, deep_in i ms u e)
deep_member i (Union ms l) u e = omega (arith, deep_in i ms u e)
deep_member i t u e = absurd (cc)

-- an element is less deep than its sequence
pub deep_element : (t u : Tree) → element_of t ≡ Some u → depth u < depth t
deep_element (Sequence n x l) u e = let s : x ≡ u = cc in omega (arith, ap depth s)
deep_element t u e = absurd (cc)

-- the offset of a member is bounded by the length of the path to it
pub inner_fits : (before text path : List ℕ) (at : ℕ) (dims : List ℕ) (t : Tree) (i inner : ℕ) → IsWellFormed t → IsListing before text path at dims t i inner
    → at ≤ 2 ^ 40 * length path → inner ≤ 2 ^ 40 * (length path + 1)
inner_fits before text path at dims t i inner w s le = omega (arith, s.offset, offset_fits t i w)
