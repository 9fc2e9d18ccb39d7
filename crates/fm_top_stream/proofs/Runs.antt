-- Runs of bytes that follow on one another in a file.
use Rattle.std.proofs.Common.{◌≡◌, ℕ, ◌+◌, ◌*◌, ◌/◌, ◌%◌, ◌<◌, ◌≤◌, Bool, true, false, List, [], ◌∷◌, ◌++◌, length, Option, refl, ap, sym, ◌∙◌, subst, arith, append_assoc, length-append}
use Rattle.std.proofs.lemmas.Bool.{true_from_ne_false}
use Rattle.std.{specs.List.{AllByRecursion}, proofs.{Math.Nat.{mul-add-mod_self_right, mul-mod_left}, lemmas.{List.{append-nil}, Nat.{div-add-mod'}}}}
use Rattle.fm_io.{specs.Files.{Contents, AreBytesFrom, EndsBefore}, proofs.Filled.{AreBytesFrom-append}}
use Rattle.fm_records_query.specs.Plan.{Plan}
use Rattle.fm_top_load.{specs.{Portions.{PortionView}, Records.{IsRagged}, Whole.{IsCut, IsPortion, IsWhole}}, proofs.FileBytes.{first_to_last}}
use Rattle.fm_top_stream.specs.{Chunks.{AreCut, all_bytes}}

-- ---- runs of bytes

pub all_more : (runs : List (List ℕ)) (run : List ℕ) → all_bytes (runs ++ run ∷ []) ≡ all_bytes runs ++ run
all_more [] run = append-nil run
all_more (r ∷ runs) run = ap (λ bs. r ++ bs) (all_more runs run) ∙ sym (append_assoc r (all_bytes runs) run)

pub whole_more : (most : ℕ) (runs : List (List ℕ)) (run : List ℕ) → AllByRecursion (λ r. length r ≡ most) runs → length run ≡ most
    → AllByRecursion (λ r. length r ≡ most) (runs ++ run ∷ [])
whole_more most [] run h is = (is, tt)
whole_more most (r ∷ runs) run h is = (h.0, whole_more most runs run h.1 is)

-- Whole runs, and perhaps a last one, are a cut.
pub cut_whole : (most : ℕ) (runs : List (List ℕ)) → 0 < most → AllByRecursion (λ r. length r ≡ most) runs → AreCut most runs
cut_whole most [] some h = tt
cut_whole most (r ∷ []) some h = let is = h.0 in (omega (arith, is, some), omega (arith, is))
cut_whole most (r ∷ (next ∷ runs)) some h = (h.0, cut_whole most (next ∷ runs) some h.1)

pub cut_more : (most : ℕ) (runs : List (List ℕ)) (run : List ℕ) → AllByRecursion (λ r. length r ≡ most) runs → 0 < length run → length run ≤ most
    → AreCut most (runs ++ run ∷ [])
cut_more most [] run h some within = (some, within)
cut_more most (r ∷ []) run h some within = (h.0, (some, within))
cut_more most (r ∷ (next ∷ runs)) run h some within = (h.0, cut_more most (next ∷ runs) run h.1 some within)

pub even_sum : (a b n : ℕ) → a % n ≡ 0 → b % n ≡ 0 → (a + b) % n ≡ 0
even_sum a b n ea eb =
    let first : a ≡ a / n * n = sym (div-add-mod' a n) ∙ omega (arith, ea) in
    let second : b ≡ b / n * n = sym (div-add-mod' b n) ∙ omega (arith, eb) in
    let both : a + b ≡ (a / n + b / n) * n = omega (arith, first, second) in
    ap (λ m. m % n) both ∙ mul-mod_left (a / n + b / n) n

pub even_all : (most size : ℕ) (runs : List (List ℕ)) → most % size ≡ 0 → 0 % size ≡ 0 → AllByRecursion (λ r. length r ≡ most) runs
    → length (all_bytes runs) % size ≡ 0
even_all most size [] even none h = none
even_all most size (r ∷ runs) even none h =
    ap (λ n. n % size) (length-append r (all_bytes runs))
    ∙ even_sum (length r) (length (all_bytes runs)) size (ap (λ n. n % size) h.0 ∙ even) (even_all most size runs even none h.1)

-- ---- the file so far

module _ {limit most at : ℕ} {told : Option Contents} {name : List ℕ} (bytes : List ℕ) {ended : Bool} (cut : IsCut limit most told name at bytes ended) where
  module _ (before : List ℕ) (count : length before ≡ at) (first : AreBytesFrom told name 0 before) where
    -- It comes behind what came before.
    pub first_more : AreBytesFrom told name 0 (before ++ bytes)
    first_more =
        let there : at ≡ 0 + length before = omega (arith, count) in
        AreBytesFrom-append told name before bytes 0 first (subst (λ n. AreBytesFrom told name n bytes) there cut.bytes_are)

    pub count_more : length (before ++ bytes) ≡ at + length bytes
    count_more = length-append before bytes ∙ ap (λ n. n + length bytes) count

    -- Where the file ends with it they are the file.
    pub whole_file : EndsBefore told name (at + length bytes) → IsWhole told name (before ++ bytes)
    whole_file ends = first_to_last told name (before ++ bytes) first_more (subst (EndsBefore told name) (sym count_more) ends)

    -- Where it leaves a rest the file does.
    pub is_ragged : (p : Plan) (rest : ℕ) → length before % p.size ≡ 0 → most % p.size ≡ 0 → rest ≡ length bytes % p.size → 0 < rest
        → IsRagged limit told name p.size rest
    is_ragged p rest even whole is some = record {
      bytes = before ++ bytes;
      is_file = whole_file (cut.ends (true_from_ne_false ended (λ f. let all = cut.full f in omega (arith, ap (λ n. n % p.size) all, whole, is, some))));
      short = (let short = cut.short in omega (arith, count_more, short));
      is = is ∙ sym (ap (λ n. n % p.size) (length-append before bytes) ∙ rest_of (length before) (length bytes) p.size even);
      some = some;
    }
      where
        rest_of : (a b n : ℕ) → a % n ≡ 0 → (a + b) % n ≡ b % n
        rest_of a b n e =
            let whole : a ≡ a / n * n = sym (div-add-mod' a n) ∙ omega (arith, e) in
            ap (λ m. (m + b) % n) whole ∙ mul-add-mod_self_right (a / n) n b

-- Where nothing comes the file has ended.
pub ends_here : {limit most at : ℕ} {told : Option Contents} {name : List ℕ} {first : PortionView} → IsPortion limit most told name at first
    → length first.bytes ≡ 0 → 0 < most → EndsBefore told name at
ends_here {most = most} {at = at} {told = told} {name = name} {first = first} next none some =
    let end : at + length first.bytes ≡ at = omega (arith, none) in
    subst (EndsBefore told name) end (next.ends (true_from_ne_false first.ended (λ f. let full = next.full f in omega (arith, full, none, some))))
