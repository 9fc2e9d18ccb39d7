-- Slices of one allocator, call by call.
use Rattle.std.proofs.Common.{◌≡◌, ℕ, ◌+◌, ◌-◌, ◌≤◌, List, [], ◌∷◌, All, subst, arith}
use Rattle.std.{proofs.lemmas.List.{Elements.{All-cons, All-nil}, Kept.{AllPairs-cons}}, specs.List.{AllPairs}}
use Rattle.fm_segment.specs.{Overlap.{AreApart}, Region.{Region}}
use Rattle.fm_text.specs.Rows.{Slice, given, not_given, LieInRow, LieInRows, LieApart}
use Rattle.fm_text.proofs.Slices.{lies_from}

-- Rows of one segment, by what is behind.
row_at : (s t : Region) (m n : ℕ) (xs : List Slice) → s ≡ t → m ≡ n → LieInRow s m xs → LieInRow t n xs
row_at s t m n xs e h l = subst (λ (r : Region). LieInRow r n xs) e (subst (λ k. LieInRow s k xs) h l)

-- Over every list of calls.
pub lie_in_rows : LieInRows
lie_in_rows x end [] g = tt
lie_in_rows x end (a ∷ xs) (given y size align r call rest) =
    let more = lie_in_rows y end xs rest in
    (lies_from x size align r call.answer, row_at y.segment x.segment y.used (r.first + r.size - x.segment.first) xs call.segment call.used more)
lie_in_rows x end (a ∷ xs) (not_given y size align e call rest) =
    row_at y.segment x.segment y.used x.used (a ∷ xs) call.segment call.used (lie_in_rows y end (a ∷ xs) rest)

-- All slices of a row that begins where the first one ends share no byte with it.
apart_from : (s : Region) (a : Slice) (used : ℕ) (xs : List Slice) → s.first ≤ a.region.first → a.region.first + a.region.size ≤ s.first + used
    → LieInRow s used xs → All (λ (b : Slice). AreApart a.region b.region) xs
apart_from s a used [] from below l = All-nil (λ (b : Slice). AreApart a.region b.region)
apart_from s a used (b ∷ xs) from below l =
    let behind = l.0.behind in
    All-cons (λ (b : Slice). AreApart a.region b.region) b xs
    (λ arena place x y. let p = x.below in let q = y.from in absurd (omega arith))
    (apart_from s a (b.region.first + b.region.size - s.first) xs from (omega arith) l.1)

-- No two slices of a row share a byte.
row_apart : (s : Region) (used : ℕ) (xs : List Slice) → LieInRow s used xs → AllPairs (λ (a b : Slice). AreApart a.region b.region) xs
row_apart s used [] l = λ i j d less below. absurd (omega arith)
row_apart s used (a ∷ xs) l =
    let behind = l.0.behind in
    let R : Slice → Slice → Type 0 = λ a b. AreApart a.region b.region in
    AllPairs-cons R a xs (apart_from s a (a.region.first + a.region.size - s.first) xs (omega arith) (omega arith) l.1)
    (row_apart s (a.region.first + a.region.size - s.first) xs l.1)

-- Over every list of calls no two do.
pub lie_apart : LieApart
lie_apart x end xs g = row_apart x.segment x.used xs (lie_in_rows x end xs g)
