-- Where members stand, summed one by one, and the first of a name, sought one by one.
use Rattle.std.proofs.Common.{◌≡◌, refl, sym, ap, ℕ, zero, suc, ◌+◌, ◌<◌, ◌≤◌, Bool, true, false, if◌then◌else◌, Some, None, List, arith, ◌∙◌}
use Rattle.fm_layout.specs.{Tree.{Tree, Trees, Struct, Union, NoMore, More, name_of}, Size.{size_of, sum_of, sum_before, member_offset}}
use Rattle.fm_layout.specs.{Parts.{tree_at, count_of, member_of}, WellFormed.{IsWellFormed, limit}}
use Rattle.fm_path_meaning.specs.Follow.{IsStruct, members_of, is_name_of, index_named, index_in, count_in}

-- one more member lies before the next one
pub before_more : (n : ℕ) (ms : Trees) (u : Tree) → tree_at n ms ≡ Some u
    → (sum_before (suc n) ms ≡ sum_before n ms + size_of u) × (sum_before n ms + size_of u ≤ sum_of ms)
before_more n NoMore u e = absurd (cc)
before_more zero (More t ts) u e = let is : t ≡ u = cc in let s = ap size_of is in (omega (arith, s, before_none ts), omega (arith, s))
  where
    before_none : (ts : Trees) → sum_before 0 ts ≡ 0
    before_none NoMore = refl
    before_none (More t ts) = refl
before_more (suc n) (More t ts) u e = let r = before_more n ts u e in (omega (arith, r.0), omega (arith, r.1))

-- a member lies before the next ones
pub before_apart : (i j : ℕ) (ms : Trees) (u : Tree) → tree_at i ms ≡ Some u → i < j → sum_before i ms + size_of u ≤ sum_before j ms
before_apart i j NoMore u e lt = absurd (cc)
before_apart i zero (More t ts) u e lt = absurd (omega arith)
before_apart zero (suc j) (More t ts) u e lt = let is : t ≡ u = cc in omega (arith, ap size_of is)
before_apart (suc i) (suc j) (More t ts) u e lt = omega (arith, before_apart i j ts u e (omega arith))

-- the members before one fit into the struct
before_fits : (n : ℕ) (ms : Trees) → sum_before n ms ≤ sum_of ms
before_fits n NoMore = omega arith
before_fits zero (More t ts) = omega arith
before_fits (suc n) (More t ts) = omega (arith, before_fits n ts)

-- behind the last member nothing is added
before_end : (n i : ℕ) (ms : Trees) → tree_at i ms ≡ None → i ≤ n → sum_before n ms ≡ sum_before i ms
before_end n i NoMore e le = refl
before_end n zero (More t ts) e le = absurd (cc)
before_end zero (suc i) (More t ts) e le = absurd (omega arith)
before_end (suc n) (suc i) (More t ts) e le = ap (λ x. size_of t + x) (before_end n i ts e (omega arith))

-- one more member
pub offset_more : (t : Tree) (n : ℕ) (u : Tree) → IsStruct t → IsWellFormed t → member_of n t ≡ Some u
    → (member_offset (n + 1) t ≡ member_offset n t + size_of u) × (member_offset n t + size_of u ≤ limit)
offset_more (Struct ms l) n u k w e = let r = before_more n ms u e in (ap (λ m. sum_before m ms) (omega arith) ∙ r.0, omega (arith, r.1, w.0.size))
offset_more t n u k w e = absurd k

-- behind the last member the offset stays
pub offset_end : (t : Tree) (n i : ℕ) → IsStruct t → member_of i t ≡ None → i ≤ n → member_offset n t ≡ member_offset i t
offset_end (Struct ms l) n i k e le = before_end n i ms e le
offset_end t n i k e le = absurd k

-- a member stands within the limit
pub offset_fits : (t : Tree) (n : ℕ) → IsWellFormed t → member_offset n t ≤ limit
offset_fits (Struct ms l) n w = omega (arith, before_fits n ms, w.0.size)
offset_fits t n w = omega arith

-- the first member stands at the start
pub offset_none : (t : Tree) → member_offset 0 t ≡ 0
offset_none (Struct NoMore l) = refl
offset_none (Struct (More t ts) l) = refl
offset_none t = refl

-- the members from index n on
abbrev pub skip : ℕ → Trees → Trees
skip n NoMore = NoMore
skip zero (More t ts) = More t ts
skip (suc n) (More t ts) = skip n ts

-- skipping none leaves all
pub skip_none : (ms : Trees) → skip 0 ms ≡ ms
skip_none NoMore = refl
skip_none (More t ts) = refl

-- the member at an index comes first of those from there on
pub skip_more : (i : ℕ) (ms : Trees) (u : Tree) → tree_at i ms ≡ Some u → skip i ms ≡ More u (skip (i + 1) ms)
skip_more i NoMore u e = absurd (cc)
skip_more zero (More t ts) u e = let is : t ≡ u = cc in ap (λ x. More x ts) is ∙ ap (More u) (sym (skip_none ts))
skip_more (suc i) (More t ts) u e = let s : suc (i + 1) ≡ suc i + 1 = omega arith in skip_more i ts u e ∙ ap (λ n. More u (skip n (More t ts))) s

-- no member is left past the last one
pub skip_past : (i : ℕ) (ms : Trees) → tree_at i ms ≡ None → skip i ms ≡ NoMore
skip_past i NoMore e = refl
skip_past zero (More t ts) e = absurd (cc)
skip_past (suc i) (More t ts) e = skip_past i ts e

-- the members of a group from index i on
abbrev pub members_from : ℕ → Tree → Trees
members_from i (Struct ms l) = skip i ms
members_from i (Union ms l) = skip i ms
members_from i t = NoMore

-- a member comes first of those from its index on
pub from_more : (i : ℕ) (t u : Tree) → member_of i t ≡ Some u → members_from i t ≡ More u (members_from (i + 1) t)
from_more i (Struct ms l) u e = skip_more i ms u e
from_more i (Union ms l) u e = skip_more i ms u e
from_more i t u e = absurd (cc)

-- where there is no member there are none from there on
pub from_past : (i : ℕ) (t : Tree) → member_of i t ≡ None → members_from i t ≡ NoMore
from_past i (Struct ms l) e = skip_past i ms e
from_past i (Union ms l) e = skip_past i ms e
from_past i t e = refl

-- there is no member behind all
tree_past : (i : ℕ) (ms : Trees) → count_of ms ≤ i → tree_at i ms ≡ None
tree_past i NoMore le = refl
tree_past zero (More t ts) le = absurd (omega arith)
tree_past (suc i) (More t ts) le = tree_past i ts (omega arith)

pub none_past : (i count : ℕ) (t : Tree) → count_in (members_of t) ≡ Some count → count ≤ i → member_of i t ≡ None
none_past i count (Struct ms l) e le = let c : count_of ms ≡ count = cc in tree_past i ms (omega arith)
none_past i count (Union ms l) e le = let c : count_of ms ≡ count = cc in tree_past i ms (omega arith)
none_past i count t e le = refl

-- no member before index i has the name
pub record IsSeeking (name : List ℕ) (i : ℕ) (t : Tree) : Type 0 where
  pub rest : index_in name (members_of t) ≡ index_named name i (members_from i t)

-- before the first member nothing was passed
pub seek_start : (name : List ℕ) (t : Tree) → IsSeeking name 0 t
seek_start name (Struct ms l) = record { rest = ap (index_named name 0) (sym (skip_none ms)) }
seek_start name (Union ms l) = record { rest = ap (index_named name 0) (sym (skip_none ms)) }
seek_start name t = record { rest = refl }

-- the member at an index has the name, or the search goes on
here_or : (name : List ℕ) (i : ℕ) (t u : Tree) (b : Bool) → IsSeeking name i t → member_of i t ≡ Some u → is_name_of (name_of u) name ≡ b
    → index_in name (members_of t) ≡ (if b then Some i else index_named name (i + 1) (members_from (i + 1) t))
here_or name i t u b s e h =
    s.rest ∙ ap (index_named name i) (from_more i t u e) ∙ ap (λ b. if b then Some i else index_named name (i + 1) (members_from (i + 1) t)) h

-- a member of another name
pub seek_more : (name : List ℕ) (i : ℕ) (t u : Tree) → IsSeeking name i t → member_of i t ≡ Some u → is_name_of (name_of u) name ≡ false
    → IsSeeking name (i + 1) t
seek_more name i t u s e h = record { rest = here_or name i t u false s e h }

-- a member of the name
pub seek_found : (name : List ℕ) (i : ℕ) (t u : Tree) → IsSeeking name i t → member_of i t ≡ Some u → is_name_of (name_of u) name ≡ true
    → index_in name (members_of t) ≡ Some i
seek_found name i t u s e h = here_or name i t u true s e h

-- no member left
pub seek_past : (name : List ℕ) (i : ℕ) (t : Tree) → IsSeeking name i t → member_of i t ≡ None → index_in name (members_of t) ≡ None
seek_past name i t s e = s.rest ∙ ap (index_named name i) (from_past i t e)

pub seek_end : (name : List ℕ) (i count : ℕ) (t : Tree) → IsSeeking name i t → count_in (members_of t) ≡ Some count → count ≤ i
    → index_in name (members_of t) ≡ None
seek_end name i count t s e le = seek_past name i t s (none_past i count t e le)
