-- Where shares begin and end, and how many there are.
use Rattle.std.{proofs.Common.{◌≡◌, ℕ, suc, ◌+◌, ◌-◌, ◌*◌, ◌/◌, ◌<◌, ◌≤◌, List, [], ◌∷◌, ◌++◌, map, sym, ap, ◌∙◌, subst, arith}, specs.{List.{range_with_len}, Int.{div_ceil}}}
use Rattle.std.proofs.{Math.Nat.{add-mul, mul_comm, mul-le-mul_right, div-mul-le_self, lt_of_mul-lt-mul_right}, lemmas.{Grind.{div_ceil_times}, List.{map-append}}}
use Rattle.fm_workers_jobs.proofs.Batches.{range_with_len-more}
use Rattle.fm_workers_shares.specs.Shares.{each_of, many_of, start_of}

-- A run's bytes and those before it are all up to its end.
pub run_ends : (from to size : ℕ) → from ≤ to → from * size + (to - from) * size ≡ to * size
run_ends from to size order =
    let back : from + (to - from) ≡ to = omega (arith, order) in
    sym (add-mul from (to - from) size) ∙ ap (λ (n : ℕ). n * size) back

-- It ends in the segment.
pub run_fits : (from to size total : ℕ) → from ≤ to → to ≤ total / size → from * size + (to - from) * size ≤ total
run_fits from to size total order within =
    let sum = run_ends from to size order in
    let most : to * size ≤ total / size * size = mul-le-mul_right size within in
    let all = div-mul-le_self total size in
    omega (arith, sum, most, all)

-- So it does where the records' size is told by another name.
pub run_within : (from to size : ℕ) {n total : ℕ} → n ≡ size → from ≤ to → to ≤ total / size → from * n + (to - from) * n ≤ total
run_within from to size {n} {total} is order within = subst (λ k. from * k + (to - from) * k ≤ total) (sym is) (run_fits from to size total order within)

-- So many shares are enough.
pub all_in : (count each : ℕ) → 0 < each → count ≤ many_of count each * each
all_in count each some = (div_ceil_times count each some).0

-- By sixteen threads there are at most 64.
pub few_shares : (count threads : ℕ) → 0 < threads → threads ≤ 16 → many_of count (each_of count threads) ≤ 64
few_shares count threads some few =
    let each : count ≤ div_ceil count (4 * threads) * (4 * threads) = (div_ceil_times count (4 * threads) (omega (arith, some))).0 in
    let most : div_ceil count (4 * threads) ≤ each_of count threads = omega arith in
    let room : div_ceil count (4 * threads) * (4 * threads) ≤ each_of count threads * (4 * threads) = mul-le-mul_right (4 * threads) most in
    let last : many_of count (each_of count threads) * each_of count threads < count + each_of count threads =
    (div_ceil_times count (each_of count threads) (omega arith)).1 in
    let turned : each_of count threads * (4 * threads) ≡ 4 * threads * each_of count threads = mul_comm (each_of count threads) (4 * threads) in
    let sum : (4 * threads + 1) * each_of count threads ≡ 4 * threads * each_of count threads + 1 * each_of count threads =
    add-mul (4 * threads) 1 (each_of count threads) in
    let below : many_of count (each_of count threads) * each_of count threads < (4 * threads + 1) * each_of count threads =
    omega (arith, each, room, last, turned, sum) in
    let fewer = lt_of_mul-lt-mul_right (each_of count threads) below in
    omega (arith, fewer, few)

-- ---- where they begin

pub start_within : (count each k : ℕ) → start_of count each k ≤ count
start_within count each k = omega arith

pub start_order : (count each k : ℕ) → start_of count each k ≤ start_of count each (k + 1)
start_order count each k = let next = add-mul k 1 each in omega (arith, next)

pub start_first : (count each : ℕ) → start_of count each 0 ≡ 0
start_first count each = omega arith

pub start_last : (count each : ℕ) → 0 < each → start_of count each (many_of count each) ≡ count
start_last count each some = let all = all_in count each some in omega (arith, all)

-- One more stands behind those that are numbered from 1 on.
pub numbered_more : {X : Type 0} (number : X → ℕ) (xs : List X) (x : X) (k : ℕ) → map number xs ≡ range_with_len 1 k → number x ≡ k + 1
    → map number (xs ++ x ∷ []) ≡ range_with_len 1 (k + 1)
numbered_more number xs x k all is =
    let next : suc k ≡ k + 1 = omega arith in
    map-append number xs (x ∷ []) ∙ ap (λ (ns : List ℕ). ns ++ number x ∷ []) all
    ∙ sym (range_with_len-more 1 k (number x) (omega (arith, is))) ∙ ap (range_with_len 1) next
