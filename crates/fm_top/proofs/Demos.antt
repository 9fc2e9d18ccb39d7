-- How many bytes the records that are made have, and what is answered over them.
use Rattle.std.{proofs.Common.{◌≡◌, ℕ, ◌+◌, ◌*◌, ◌%◌, ◌≤◌, List, [], ◌∷◌, ◌++◌, length, refl, ap, subst, ◌∙◌, arith}, specs.List.{flat_map, range_with_len}}
use Rattle.std.proofs.lemmas.{List.{length-append, FromFn.{length-range_with_len}}, Nat.{mod-mul-add}}
use Rattle.fm_base_bytes.{specs.{Bytes.{bytes_of}, Signed.{unsigned_of}}, proofs.Bytes.{length-bytes_of}}
use Rattle.fm_top_demo.specs.Records.{amount_of, made_layout, made_record, made_records}
use Rattle.fm_top_load.specs.Limits.{record_file_limit}
use Rattle.fm_top_pooled.specs.Shown.{ShowsBoth}
use Rattle.fm_records_query.specs.{Parsed.{IsParsed}, Plan.{Plan}}
use Rattle.fm_records.specs.{Answers.{answer}, Texts.{answer_text}, declared.found.Found.{Found}}
use Rattle.fm_rule.specs.Finishing.{FinishedView}
use Rattle.fm_top.specs.{Demos.{AreMadeQueries, DemoEnds}, Outcome.{Outcome, answered_by_pool}, Words.{IsCount}}

made_size : (k : ℕ) → length (made_record k) ≡ 16
made_size k =
    let a = bytes_of 4 k in
    let b = bytes_of 2 (k % 7) in
    let c = bytes_of 2 0 in
    let d = bytes_of 8 (unsigned_of 8 (amount_of k)) in
    let first = length-append a b in
    let second = length-append (a ++ b) c in
    let third = length-append (a ++ b ++ c) d in
    omega (arith, first, second, third, length-bytes_of 4 k, length-bytes_of 2 (k % 7), length-bytes_of 2 0, length-bytes_of 8 (unsigned_of 8 (amount_of k)))

all_sizes : (ks : List ℕ) → length (flat_map made_record ks) ≡ length ks * 16
all_sizes [] = refl
all_sizes (k ∷ ks) =
    let one = made_size k in
    let rest = all_sizes ks in
    length-append (made_record k) (flat_map made_record ks) ∙ omega (arith, one, rest)

pub records_size : (count : ℕ) → length (made_records count) ≡ count * 16
records_size count = all_sizes (range_with_len 0 count) ∙ ap (λ n. n * 16) (length-range_with_len 0 count)

pub records_fit : (count : ℕ) → IsCount count → length (made_records count) ≤ record_file_limit
records_fit count is = let size = records_size count in omega (arith, size, is.few)

-- a query over the records cuts them into whole ones
pub records_whole : (count : ℕ) (bytes text : List ℕ) (p : Plan) → bytes ≡ made_records count → IsParsed text made_layout p
    → length bytes % p.size ≡ 0
records_whole count bytes text p is parsed =
    let size : length bytes ≡ count * 16 + 0 = ap length is ∙ records_size count ∙ omega arith in
    ap (λ n. length bytes % n) parsed.is_plan.size ∙ ap (λ n. n % 16) size ∙ mod-mul-add count 16 0 (omega arith)

-- the outcome of the two answers
pub demo_ends : (count : ℕ) (bytes text : List ℕ) (p q : Plan) (a b : List Found) (f : FinishedView) (o : Outcome) → AreMadeQueries p q
    → bytes ≡ made_records count → a ≡ answer p bytes → b ≡ answer q bytes → ShowsBoth f p q bytes
    → text ≡ answer_text p a ++ answer_text q b → o ≡ answered_by_pool text f → DemoEnds count o
demo_ends count bytes text p q a b f o are is is_a is_b shows is_text is_o = record {
  first = p;
  second = q;
  are_queries = are;
  finished = f;
  outcome = cc;
  shows = subst (λ (bs : List ℕ). ShowsBoth f p q bs) is shows;
}
