-- The texts of records in a caller's bytes.
use Rattle.std.specs.Prelude.{◌≡◌, ◌≢◌, ℕ, List, Result, Ok, Err}
use Rattle.fm_base.specs.declared.refusal.Refusal.{Refusal, TheVariants.{Memory}}
use Rattle.fm_layout.specs.Tree.{Tree}
use Rattle.fm_top_texts.specs.{declared.plan.TextPlan.{TextPlan}, Lines.{texts_text}, Plans.{IsTextPlanned, IsTextUnplanned, IsOfRecords}}
use Rattle.fm_c_calls.specs.{Output.{Fills}, Reading.{IsNoText}, Whole.{AreWhole, AreNotWhole, IsNoRecordLayout, IsRecordLayout}}

-- where the texts stand to which the path leads, in records of the layout
pub record IsTextPlan (json path : List ℕ) (p : TextPlan) : Type 0 where
  pub layout : Tree
  pub read : IsRecordLayout json layout
  pub planned : IsTextPlanned path layout p
  pub records : IsOfRecords p

-- why they stand nowhere, the first cause that applies; or memory was wanting
pub data IsNoTextPlan (json path : List ℕ) (e : Refusal) : Type 0 where
  no_layout : IsNoRecordLayout json e → IsNoTextPlan json path e
  no_text : (t : Tree) → IsRecordLayout json t → IsNoText path e → IsNoTextPlan json path e
  unplanned : (t : Tree) → IsRecordLayout json t → (e ≢ Memory → IsTextUnplanned path t e) → IsNoTextPlan json path e

pub record AreTexts (json path records old new : List ℕ) (n : ℕ) : Type 0 where
  pub plan : TextPlan
  pub planned : IsTextPlan json path plan
  pub whole : AreWhole records plan.size
  pub fills : Fills old new (texts_text plan records) n

-- why there are none, the first cause that applies; or memory was wanting
pub data AreNoTexts (json path records : List ℕ) (e : Refusal) : Type 0 where
  no_plan : IsNoTextPlan json path e → AreNoTexts json path records e
  not_whole : (p : TextPlan) → IsTextPlan json path p → AreNotWhole records p.size e → AreNoTexts json path records e
  no_memory : e ≡ Memory → AreNoTexts json path records e

-- the lines of all records were put, as far as there was room; or it was refused and nothing was
abbrev pub PutsTexts : List ℕ → List ℕ → List ℕ → List ℕ → List ℕ → Result ℕ Refusal → Type 0
PutsTexts json path records old new (Ok n) = AreTexts json path records old new n
PutsTexts json path records old new (Err e) = (new ≡ old) × AreNoTexts json path records e
