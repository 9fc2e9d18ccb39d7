-- How what is asked of records ends by what is found under the names of the two files.
use Rattle.std.specs.Prelude.{◌≡◌, ◌≢◌, ◌⊎◌, ℕ, ◌<◌, ◌≤◌, ⊤, List, length, Option, None, Some, Result, Ok, Err}
use Rattle.fm_base.specs.declared.refusal.Refusal.{Refusal, TheVariants.{Memory, Overflow}}
use Rattle.fm_layout.specs.{Tree.{Tree}, Size.{size_of}}
use Rattle.fm_ljson.specs.Answer.{layout_of_json}
use Rattle.fm_path.specs.Resolution.{Resolution}
use Rattle.fm_top_load.specs.Limits.{record_file_limit}
use Rattle.fm_top_pooled.specs.Shown.{ShowsQuery}
use Rattle.fm_top_stream.specs.{Chunks.{most_chunk, stream_file_limit}, Shown.{ShowsStream}}
use Rattle.fm_top_texts.specs.{Lines.{texts_text}, Plans.{IsTextPlanned, IsTextUnplanned}, declared.plan.TextPlan.{TextPlan}}
use Rattle.fm_records_query.specs.{Parsed.{IsParsed, IsNoQuery}, Plan.{Plan}, Records.{IsRecord, IsNoRecord}}
use Rattle.fm_records.specs.{Answers.{answer}, Texts.{answer_text}}
use Rattle.fm_rule.specs.Finishing.{FinishedView}
use Rattle.fm_workers.specs.Counts.{listed}
use Rattle.fm_top.specs.Outcome.{Outcome, missing, too_long, layout_refused, query_refused, answered, answered_by_pool, RecordsEnd, layout_file_limit}
use Rattle.fm_top.specs.Grouped.{GroupEnds, IsGroupPlanned, IsGroupRefused}
use Rattle.fm_top.specs.Tallies.{IsTallied, IsPathRefused, tally_text}
use Rattle.fm_top.specs.declared.command.{question.Question.{Question, TheVariants.{Query, Stream, Tally}}, wish.Wish.{Wish, TheVariants.{Answer, Group, Texts}}}

-- ---- the layout

-- the record has room for what is asked: a stream's is no longer than a chunk
abbrev pub IsSmall : Wish → Tree → Type 0
IsSmall (Answer Stream threads) t = size_of t ≤ most_chunk
IsSmall wish t = ⊤

-- the bytes of a layout's file stand for a layout of which records are
pub record IsRecordLayout (w : Wish) (bytes : List ℕ) (t : Tree) : Type 0 where
  pub short : length bytes ≤ layout_file_limit
  pub read : layout_of_json bytes ≡ Ok t
  pub records : IsRecord t
  pub small : IsSmall w t

-- they stand for no layout, or for one of which no records are, or too large ones
abbrev pub IsNoRecordLayout : Wish → Result Tree Refusal → Refusal → Type 0
IsNoRecordLayout w (Err refusal) e = e ≡ refusal
IsNoRecordLayout w (Ok t) e = IsNoRecord t e ⊎ (IsRecord t × ¬ (IsSmall w t) × (e ≡ Overflow))

pub record IsLayoutRefused (w : Wish) (bytes : List ℕ) (e : Refusal) : Type 0 where
  pub short : length bytes ≤ layout_file_limit
  pub refused : IsNoRecordLayout w (layout_of_json bytes) e

-- ---- the text

-- the text is refused over records of this layout, and not for want of memory
pub record IsTextRefused (text : List ℕ) (t : Tree) (e : Refusal) : Type 0 where
  pub no_query : IsNoQuery text t e
  pub refused : e ≢ Memory

-- the text comes to this query: it is one's text, or that of a path whose values are counted
abbrev pub IsPlanned : Question → List ℕ → Tree → Plan → Type 0
IsPlanned Query text t p = IsParsed text t p
IsPlanned Stream text t p = IsParsed text t p
IsPlanned Tally text t p = IsTallied text t p

-- or is refused so
abbrev pub IsUnplanned : Question → List ℕ → Tree → Refusal → Type 0
IsUnplanned Query text t e = IsTextRefused text t e
IsUnplanned Stream text t e = IsTextRefused text t e
IsUnplanned Tally text t e = IsPathRefused text t e

-- what is planned by a text: a query, the path whose values are grouped, or where the texts of records stand
abbrev pub PlanOf : Wish → Type 0
PlanOf (Answer q threads) = Plan
PlanOf (Group threads) = Resolution
PlanOf Texts = TextPlan

-- how long the plan's records are
abbrev pub size_in : (w : Wish) → PlanOf w → ℕ
size_in (Answer q threads) p = p.size
size_in (Group threads) p = p.root_size
size_in Texts p = p.size

-- the text comes to this plan
abbrev pub ComesTo : (w : Wish) → List ℕ → Tree → PlanOf w → Type 0
ComesTo (Answer q threads) text t p = IsPlanned q text t p
ComesTo (Group threads) text t p = IsGroupPlanned text t p
ComesTo Texts text t p = IsTextPlanned text t p

-- or is refused so
abbrev pub ComesToNone : Wish → List ℕ → Tree → Refusal → Type 0
ComesToNone (Answer q threads) text t e = IsUnplanned q text t e
ComesToNone (Group threads) text t e = IsGroupRefused text t e
ComesToNone Texts text t e = IsTextUnplanned text t e

-- what a pool's answer prints of a record file with these bytes
abbrev pub asked_text : Question → Plan → List ℕ → List ℕ
asked_text Query p bytes = answer_text p (answer p bytes)
asked_text Stream p bytes = answer_text p (answer p bytes)
asked_text Tally p bytes = tally_text (listed (answer p bytes))

-- ---- the end

-- the most bytes of a record file
abbrev pub records_limit : Wish → ℕ
records_limit (Answer Stream threads) = stream_file_limit
records_limit w = record_file_limit

-- what the history of the pool shows that is kept
abbrev pub ShowsAnswer : Question → (threads : ℕ) → FinishedView → Plan → List ℕ → Type 0
ShowsAnswer Stream threads f p bytes = ShowsStream threads f p bytes
ShowsAnswer q threads f p bytes = ShowsQuery f p bytes

-- the answer over whole records, and the pool that is kept, whose history shows it
pub record IsAnswered (q : Question) (threads : ℕ) (p : Plan) (bytes : List ℕ) (o : Outcome) : Type 0 where
  pub finished : FinishedView
  pub outcome : o ≡ answered_by_pool (asked_text q p bytes) finished
  pub shows : ShowsAnswer q threads finished p bytes

-- how it ends over whole records: with such an answer, as `group` ends, or with a line for each record's text, and nothing is kept
abbrev pub EndsOver : (w : Wish) → PlanOf w → List ℕ → Outcome → Type 0
EndsOver (Answer q threads) p bytes o = IsAnswered q threads p bytes o
EndsOver (Group threads) p bytes o = GroupEnds p bytes o
EndsOver Texts p bytes o = o ≡ answered (texts_text p bytes)

-- how the text of this plan ends where this is found under the record file's name
abbrev pub PlanEnds : (w : Wish) → PlanOf w → List ℕ → Option (List ℕ) → Outcome → Type 0
PlanEnds w p file found o = RecordsEnd (records_limit w) (size_in w p) file (EndsOver w p) found o

-- how the text ends over records of this layout
pub data TextEnds (w : Wish) (text : List ℕ) (t : Tree) (file : List ℕ) (found : Option (List ℕ)) : Outcome → Type 0 where
  unplanned : (e : Refusal) → ComesToNone w text t e → TextEnds w text t file found (query_refused e)
  planned : (p : PlanOf w) (o : Outcome) → ComesTo w text t p → PlanEnds w p file found o → TextEnds w text t file found o

-- how it ends where this is found under the record file's name, and this under the layout's
pub data AskEnds (w : Wish) (layout text file : List ℕ) (last : Option (List ℕ)) : Option (List ℕ) → Outcome → Type 0 where
  no_layout : AskEnds w layout text file last None (missing layout)
  long_layout : (bytes : List ℕ) → layout_file_limit < length bytes → AskEnds w layout text file last (Some bytes) too_long
  bad_layout : (bytes : List ℕ) (e : Refusal) → IsLayoutRefused w bytes e → AskEnds w layout text file last (Some bytes) (layout_refused e)
  over_layout : (bytes : List ℕ) (t : Tree) (o : Outcome) → IsRecordLayout w bytes t → TextEnds w text t file last o
      → AskEnds w layout text file last (Some bytes) o
