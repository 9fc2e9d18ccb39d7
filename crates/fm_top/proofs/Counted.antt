-- Counts of numbers are those numbers' counts.
use Rattle.std.{proofs.{Common.{◌≡◌, ℕ, ◌<◌, List, get_or, sym, subst, ap, ◌∙◌, arith}, lemmas.Grind.{same_number_lists}}, specs.Prelude.{ℤ}}
use Rattle.std.proofs.lemmas.List.FromFn.{length-map-range_with_len, get_or-map-range_with_len}
use Rattle.fm_top_pooled.specs.Shown.{ShowsQuery}
use Rattle.fm_records_query.specs.Plan.{Plan}
use Rattle.fm_records.specs.{declared.found.Found.{Found}, Answers.{answer}, Texts.{answer_text}}
use Rattle.fm_rule.specs.Finishing.{FinishedView}
use Rattle.fm_workers.specs.{Counts.{AreCounts, how_many, listed, number_of}, Printed.{counts_text}}
use Rattle.fm_top.specs.{Outcome.{Outcome, answered_by_pool}, Queries.{IsAnswered}, Tallies.{counts_of}}
use Rattle.fm_top.specs.declared.command.question.Question.TheVariants.{Query, Tally}

-- the count at a place
count_at : (ns : List ℤ) (k : ℕ) → k < 256 → get_or (counts_of ns) k 0 ≡ how_many (number_of k) ns
count_at ns k small = get_or-map-range_with_len (λ place. how_many (number_of place) ns) 0 256 k k 0 small (omega arith)

pub counts_are : (ns : List ℤ) (counts : List ℕ) → AreCounts ns counts → counts ≡ counts_of ns
counts_are ns counts are =
    same_number_lists counts (counts_of ns) (are.all ∙ sym (length-map-range_with_len (λ place. how_many (number_of place) ns) 0 256))
    (λ k below. let small : k < 256 = subst (λ (n : ℕ). k < n) are.all below in are.each k small ∙ sym (count_at ns k small))

-- the answer to a query
pub queried : (threads : ℕ) (p : Plan) (bytes : List ℕ) (a : List Found) (f : FinishedView) (o : Outcome) → a ≡ answer p bytes → ShowsQuery f p bytes
    → o ≡ answered_by_pool (answer_text p a) f → IsAnswered Query threads p bytes o
queried threads p bytes a f o value shows is = record {
  finished = f;
  outcome = is ∙ ap (λ x. answered_by_pool (answer_text p x) f) value;
  shows = shows;
}

-- the answer to a tally
pub tallied : (threads : ℕ) (p : Plan) (bytes text counts : List ℕ) (f : FinishedView) (o : Outcome) → AreCounts (listed (answer p bytes)) counts
    → text ≡ counts_text counts → ShowsQuery f p bytes → o ≡ answered_by_pool text f → IsAnswered Tally threads p bytes o
tallied threads p bytes text counts f o are is_text shows is = record {
  finished = f;
  outcome = is ∙ ap (λ (t : List ℕ). answered_by_pool t f) (is_text ∙ ap counts_text (counts_are (listed (answer p bytes)) counts are));
  shows = shows;
}
