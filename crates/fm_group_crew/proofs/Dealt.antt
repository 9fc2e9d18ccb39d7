-- Shares that are dealt out lie in a line.
use Rattle.std.proofs.Common.{◌≡◌, ℕ, zero, suc, ◌+◌, ◌*◌, ◌/◌, ◌<◌, ◌≤◌, List, [], ◌∷◌, ◌++◌, map, refl, sym, ap, ◌∙◌, subst, arith}
use Rattle.std.proofs.{Math.Nat.{div-mul-le_self, mul-div_cancel, mul-le-mul_left}, lemmas.{List.{map-append}, List.FromFn.{map-range_with_len_more}, Nat.{le-div}}}
use Rattle.std.specs.List.{AllByRecursion, range_with_len}
use Rattle.fm_group_laws.specs.Shares.{AreLined, Share}
use Rattle.fm_group_crew.specs.{declared.share.CountShare.{CountShare}, Dealt.{bounds, dealt, share_at}}

-- so many of them from the k-th on
lined_from : (n t k more : ℕ) → 0 < t → k + more ≡ t → AreLined (n * k / t) (map (share_at n t) (range_with_len k more)) n
lined_from n t k zero some e =
    let all : k ≡ t = omega (arith, e) in
    ap (λ m. n * m / t) all ∙ mul-div_cancel n some
lined_from n t k (suc more) some e =
    let up : k ≤ k + 1 = omega arith in
    let whole = div-mul-le_self (n * k) t in
    let more_of = mul-le-mul_left n up in
    (refl, le-div (n * k / t) (n * (k + 1)) t some (omega (arith, whole, more_of)), lined_from n t (k + 1) more some (omega (arith, e)))

-- All of them go from 0 to the end.
pub dealt_lined : (n t : ℕ) → 0 < t → AreLined 0 (dealt n t) n
dealt_lined n t some =
    let none : n * 0 / t ≡ 0 = omega arith in
    subst (λ (k : ℕ). AreLined k (dealt n t) n) none (lined_from n t 0 t some (omega arith))

-- one share more
pub bounds_more : (n t k : ℕ) (ts us : List CountShare) (u : CountShare) → bounds ts ≡ map (share_at n t) (range_with_len 0 k)
    → u.from ≡ n * k / t → u.to ≡ n * (k + 1) / t → us ≡ ts ++ u ∷ [] → bounds us ≡ map (share_at n t) (range_with_len 0 (k + 1))
bounds_more n t k ts us u h from to is =
    ap bounds is ∙ map-append (λ (x : CountShare). (x.from, x.to)) ts (u ∷ [])
    ∙ ap (λ (bs : List Share). bs ++ (u.from, u.to) ∷ []) h
    ∙ ap (λ (b : Share). map (share_at n t) (range_with_len 0 k) ++ b ∷ []) (λ j. (from j, to j))
    ∙ sym (map-range_with_len_more (share_at n t) 0 k k (omega arith))

-- Each of them lies in between.
pub lined_within : (from n : ℕ) (bs : List Share) → AreLined from bs n → (from ≤ n) × AllByRecursion (λ b. (b.0 ≤ b.1) × (b.1 ≤ n)) bs
lined_within from n [] l = (omega (arith, l), tt)
lined_within from n (b ∷ bs) l =
    let rest = lined_within b.1 n bs l.2 in
    let first = l.0 in let order = l.1 in let most = rest.0 in
    (omega (arith, first, order, most), ((l.1, rest.0), rest.1))
