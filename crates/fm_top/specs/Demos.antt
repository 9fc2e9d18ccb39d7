-- What is answered over records that are made, and what is kept of it.
use Rattle.std.specs.Prelude.{◌≡◌, ℕ, List, ◌++◌, codes}
use Rattle.fm_base.specs.declared.refusal.Refusal.{Refusal, TheVariants.{Memory}}
use Rattle.fm_layout.specs.Tree.{Tree}
use Rattle.fm_top_demo.specs.Records.{made_layout, made_records}
use Rattle.fm_top_pooled.specs.Shown.{ShowsBoth}
use Rattle.fm_records_query.specs.{Parsed.{IsNoQuery, IsParsed}, Plan.{Plan}}
use Rattle.fm_records.specs.{Answers.{answer}, Texts.{answer_text}}
use Rattle.fm_rule.specs.Finishing.{FinishedView}
use Rattle.fm_top.specs.Outcome.{Outcome, answered_by_pool}

-- the two queries
pub record AreMadeQueries (p q : Plan) : Type 0 where
  pub first : IsParsed (codes "count,sum(.amount),min(.amount),max(.amount)") made_layout p
  pub second : IsParsed (codes "count,sum(.id) where .kind=3") made_layout q

-- over this layout the text is refused for want of memory alone
abbrev pub IsQueryOver : List ℕ → Tree → Type 0
IsQueryOver text layout = (refusal : Refusal) → IsNoQuery text layout refusal → refusal ≡ Memory

-- what they answer over so many records
abbrev pub made_text : Plan → Plan → ℕ → List ℕ
made_text p q count = answer_text p (answer p (made_records count)) ++ answer_text q (answer q (made_records count))

-- the answers, and the pool that is kept, whose history shows both
pub record DemoEnds (count : ℕ) (o : Outcome) : Type 0 where
  pub first : Plan
  pub second : Plan
  pub are_queries : AreMadeQueries first second
  pub finished : FinishedView
  pub outcome : o ≡ answered_by_pool (made_text first second count) finished
  pub shows : ShowsBoth finished first second (made_records count)
