-- The numbers that are listed over shares are those of the answer that they come to.
use Rattle.std.{proofs.Common.{◌≡◌, List, [], ◌∷◌, ◌++◌, sym, ap, ◌∙◌}, specs.Prelude.{ℤ}}
use Rattle.fm_base.specs.Calls.{Entry}
use Rattle.fm_records_query.specs.Plan.{IsPlan, Plan}
use Rattle.fm_records.specs.{declared.found.Found.{Found, TheVariants.{Listed}}, Joined.{joined}, Shares.{AreDone, Share, all_joined}}
use Rattle.fm_records.proofs.Recording.{answer-none}
use Rattle.fm_workers.{specs.{Counts.{IsTally, listed}, Tally.{all_listed}}, proofs.{ByRuns.{none_found}, FewCounted.{share_lists}}}

joined_lists : (p : Plan) (more : List Entry) (ws : List Share) → IsPlan p → IsTally p → AreDone p more ws
    → all_joined p ws ≡ Listed (all_listed ws) ∷ []
joined_lists p more [] plan tally done = answer-none p ∙ none_found p tally
joined_lists p more (w ∷ ws) plan tally done =
    let mine = share_lists w.caller p w.region w.found w.own plan tally done.0.does in
    let numbers : mine.numbers ≡ listed w.found = sym (ap listed mine.is) in
    ap (λ (fs : List Found). joined fs (all_joined p ws)) mine.is ∙ ap (joined (Listed mine.numbers ∷ [])) (joined_lists p more ws plan tally done.1)
    ∙ ap (λ (ns : List ℤ). Listed (ns ++ all_listed ws) ∷ []) numbers

pub listed_joined : (p : Plan) (more : List Entry) (ws : List Share) → IsPlan p → IsTally p → AreDone p more ws → all_listed ws ≡ listed (all_joined p ws)
listed_joined p more ws plan tally done = sym (ap listed (joined_lists p more ws plan tally done))
