-- What a report tells of a call.
use Rattle.std.specs.{Prelude.{◌≡◌, ℕ, List, [], ◌∷◌, ◌++◌, length, nat_eq, if◌then◌else◌, slice_index_or, Result, Ok, Err}, Fmt.{decimal}}
use Rattle.fm_base.specs.{declared.refusal.Refusal.{Refusal, TheVariants.{Memory}}, Printed.{refusal_number, arguments_of, refusal_text, spaced}}
use Rattle.fm_c_calls.specs.{declared.{printing.Arguments.{Arguments, TheVariants.{None, One, Two}}, report.Report.{Report}}, Output.{Fills}}

-- an answer, of which the whole output is so long
abbrev pub answered : ℕ → Report
answered n = record { number = 0; arguments = 0; first = 0; second = 0; length = n }

-- a refusal: its number, how many arguments it has, and the first two of them
abbrev pub refused : Refusal → Report
refused r = record {
  number = refusal_number r;
  arguments = length (arguments_of r);
  first = slice_index_or (arguments_of r) 0 0;
  second = slice_index_or (arguments_of r) 1 0;
  length = 0;
}

-- what came of a call: how long its output is, or its refusal
abbrev pub report_of : Result ℕ Refusal → Report
report_of (Ok n) = answered n
report_of (Err r) = refused r

abbrev pub number_of : Result ℕ Refusal → ℕ
number_of came = (report_of came).number

-- something came of the call as `Does` says, and just that is told
pub record Tells (Does : Result ℕ Refusal → Type 0) (number : ℕ) (report : Report) : Type 0 where
  pub came : Result ℕ Refusal
  pub did : Does came
  pub told : report ≡ report_of came
  pub answers : number ≡ number_of came

-- ---- a refusal as it is printed

-- the arguments that a report tells, two at most
abbrev pub arguments_in : Report → List ℕ
arguments_in r = if nat_eq r.arguments 0 then [] else (if nat_eq r.arguments 1 then r.first ∷ [] else r.first ∷ r.second ∷ [])

abbrev pub listed : Arguments → List ℕ
listed None = []
listed (One a) = a ∷ []
listed (Two a b) = a ∷ b ∷ []

-- its number, and then its arguments, separated by spaces
abbrev pub report_text : Report → List ℕ
report_text r = decimal r.number ++ spaced (arguments_in r)

-- this text was put, as far as there was room; or memory was wanting and nothing was
abbrev pub PutsText : Report → List ℕ → List ℕ → Result ℕ Refusal → Type 0
PutsText r old new (Ok n) = Fills old new (report_text r) n
PutsText r old new (Err e) = (new ≡ old) × (e ≡ Memory)

-- the report of a refusal has the text that the refusal is printed as
abbrev pub SaysRefusals : Type 0
SaysRefusals = (r : Refusal) → report_text (refused r) ≡ refusal_text r
