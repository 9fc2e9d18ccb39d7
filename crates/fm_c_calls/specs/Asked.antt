-- A query that is kept behind a handle: made, asked and freed.
use Rattle.std.specs.Prelude.{◌≡◌, ℕ, List, Option, None, Some, Result, Ok, Err}
use Rattle.fm_base.specs.declared.refusal.Refusal.{Refusal, TheVariants.{Memory}}
use Rattle.fm_records.specs.{declared.found.Found.{Found}, Answers.{answer}, Texts.{answer_text}}
use Rattle.fm_records_query.specs.Plan.{Plan}
use Rattle.fm_c_calls.specs.{Held.{IsAnswer, IsNoAnswer, IsNoPlan, IsPlanned}, Output.{Fills}}

-- ---- made

pub record IsMade (json query : List ℕ) (new : Option Plan) (n : ℕ) : Type 0 where
  pub plan : Plan
  pub planned : IsPlanned json query plan
  pub kept : new ≡ Some plan
  pub bare : n ≡ 0

-- why none is made: the bytes spell no query, or memory was wanting
pub data IsUnmade (json query : List ℕ) (e : Refusal) : Type 0 where
  no_plan : IsNoPlan json query e → IsUnmade json query e
  no_memory : e ≡ Memory → IsUnmade json query e

-- the query that the bytes spell is kept; or it was refused and the handle is as it was
abbrev pub MakesQuery : List ℕ → List ℕ → Option Plan → Option Plan → Result ℕ Refusal → Type 0
MakesQuery json query old new (Ok n) = IsMade json query new n
MakesQuery json query old new (Err e) = (new ≡ old) × IsUnmade json query e

-- ---- asked

pub record IsAnsweredBy (p : Plan) (records old new : List ℕ) (n : ℕ) : Type 0 where
  pub found : List Found
  pub answer_is : IsAnswer p records found
  pub fills : Fills old new (answer_text p (answer p records)) n

-- the text of what the kept query answers was put, as far as there was room; or it was refused and nothing was
abbrev pub PutsKept : Option Plan → List ℕ → List ℕ → List ℕ → Result ℕ Refusal → Type 0
PutsKept None records old new came = ⊥
PutsKept (Some p) records old new (Ok n) = IsAnsweredBy p records old new n
PutsKept (Some p) records old new (Err e) = (new ≡ old) × IsNoAnswer p records e
