-- What the status of each request's outcome comes of.
use Rattle.std.proofs.Common.{◌≡◌, ℕ, ◌%◌, ◌≤◌, List, length, Option, None, Some, Result, Ok, Err, Bool, true, false, refl, sym, ap, subst, inl, inr, arith}
use Rattle.std.{specs.Prelude.{nat_lt, if◌then◌else◌}, proofs.lemmas.Bool.Decides.{Decides-ltb, not_from_Decides}}
use Rattle.fm_base.specs.declared.refusal.Refusal.{Refusal}
use Rattle.fm_lanes.specs.declared.value_kind.ValueKind.{ValueKind}
use Rattle.fm_layout.specs.Tree.{Tree}
use Rattle.fm_ljson.specs.Answer.{layout_of_json}
use Rattle.fm_top_load.specs.Limits.{record_file_limit}
use Rattle.fm_top.specs.Causes.{IsAsked, LacksFile, HasLongFile, HasRefusedLayout, HasRefusedQuery, HasRaggedFile, HasRefusedScript}
use Rattle.fm_top.specs.Grouped.{many, grouped}
use Rattle.fm_top.specs.Outcome.{Outcome, RecordsEnd, no_file, too_many, uneven, even, IsSummed, layout_outcome, shows, layout_file_limit, too_long}
use Rattle.fm_top.specs.Queries.{IsRecordLayout, PlanOf, size_in, ComesTo, EndsOver, records_limit, TextEnds, unplanned, planned, AskEnds, no_layout, long_layout, bad_layout, over_layout}
use Rattle.fm_top.specs.{Run.{EndsBy}, Scripts.{ScriptEnds, no_script, long_script, bad_script, ran}, Words.{Request, Sum, Layout, Ask, Demo, Run}}
use Rattle.fm_top.specs.declared.{command.{layout_text.LayoutText.{LayoutText}, wish.Wish.{Wish, TheVariants.{Answer, Group, Texts}}}, outcome.status.Status.{Status}}
use Rattle.fm_top.specs.declared.outcome.status.Status.TheVariants.{Answered, Missing, LayoutRefused, QueryRefused, Ragged, TooLong, ScriptRefused}

-- the cause of a status: an answer needs none, and what is no outcome's status has none
abbrev pub CauseOf : Status → Request → Option (List ℕ) → Option (List ℕ) → Type 0
CauseOf Answered = λ request first last. Unit {0}
CauseOf Missing = LacksFile
CauseOf LayoutRefused = HasRefusedLayout
CauseOf QueryRefused = HasRefusedQuery
CauseOf Ragged = HasRaggedFile
CauseOf TooLong = HasLongFile
CauseOf ScriptRefused = HasRefusedScript
CauseOf other = λ request first last. ⊥

answer_cause : (request : Request) (first last : Option (List ℕ)) (o : Outcome) → Answered ≡ o.status → CauseOf o.status request first last
answer_cause request first last o is = subst (λ (s : Status). CauseOf s request first last) is tt

-- a sum's
sum_cause : (size at : ℕ) (kind : ValueKind) (file : List ℕ) (first last : Option (List ℕ)) (o : Outcome)
    → RecordsEnd record_file_limit size file (IsSummed size at kind) first o → CauseOf o.status (Sum size at kind file) first last
sum_cause size at kind file first last o no_file = refl
sum_cause size at kind file first last o (too_many bytes long) = long
sum_cause size at kind file first last o (uneven bytes short rest) = (short, rest)
sum_cause size at kind file first last o (even bytes x short whole is) =
    answer_cause (Sum size at kind file) (Some bytes) last x (ap (λ (y : Outcome). y.status) (sym is))

-- what isn't over a limit is within it
within : (limit n : ℕ) → nat_lt limit n ≡ false → n ≤ limit
within limit n test = let over = not_from_Decides (nat_lt limit n) (Decides-ltb limit n) test in omega (arith, over)

-- a layout's
listed_cause : (text : LayoutText) (name bytes : List ℕ) (last : Option (List ℕ)) (long : Bool) (r : Result Tree Refusal)
    → nat_lt layout_file_limit (length bytes) ≡ long
    → layout_of_json bytes ≡ r → CauseOf (if long then too_long else shows text r).status (Layout text name) (Some bytes) last
listed_cause text name bytes last true r test is = (Decides-ltb layout_file_limit (length bytes)).0 test
listed_cause text name bytes last false (Ok layout) test is = tt
listed_cause text name bytes last false (Err refusal) test is = (within layout_file_limit (length bytes) test, (refusal, is))

layout_cause : (text : LayoutText) (name : List ℕ) (first last : Option (List ℕ))
    → CauseOf (layout_outcome text name first).status (Layout text name) first last
layout_cause text name None last = refl
layout_cause text name (Some bytes) last = listed_cause text name bytes last (nat_lt layout_file_limit (length bytes)) (layout_of_json bytes) refl refl

-- that of what is asked of whole records
over_cause : (w : Wish) (layout text file bytes all : List ℕ) (p : PlanOf w) (o : Outcome) → IsAsked w (Some bytes) text p → length all % size_in w p ≡ 0
    → EndsOver w p all o → CauseOf o.status (Ask w layout text file) (Some bytes) (Some all)
over_cause (Answer q threads) layout text file bytes all p o asks whole ends =
    answer_cause (Ask (Answer q threads) layout text file) (Some bytes) (Some all) o (ap (λ (y : Outcome). y.status) (sym ends.outcome))
over_cause (Group threads) layout text file bytes all p o asks whole (many over) = inr (p, asks, inr (whole, over))
over_cause (Group threads) layout text file bytes all p o asks whole (grouped x few ends) =
    answer_cause (Ask (Group threads) layout text file) (Some bytes) (Some all) x (ap (λ (y : Outcome). y.status) (sym ends.outcome))
over_cause Texts layout text file bytes all p o asks whole ends =
    answer_cause (Ask Texts layout text file) (Some bytes) (Some all) o (ap (λ (y : Outcome). y.status) (sym ends))

-- that of what is asked of records
module _ (w : Wish) (layout text file bytes : List ℕ) (t : Tree) (is : IsRecordLayout w bytes t) where
  plan_cause : (p : PlanOf w) (last : Option (List ℕ)) (o : Outcome) → ComesTo w text t p → RecordsEnd (records_limit w) (size_in w p) file (EndsOver w p)
      last o
      → CauseOf o.status (Ask w layout text file) (Some bytes) last
  plan_cause p last o plan no_file = inr (p, (t, is, plan), refl)
  plan_cause p last o plan (too_many all long) = inr (p, (t, is, plan), inl long)
  plan_cause p last o plan (uneven all short rest) = (p, (t, is, plan), (short, rest))
  plan_cause p last o plan (even all x short whole ends) = over_cause w layout text file bytes all p x (t, is, plan) whole ends

  text_cause : (last : Option (List ℕ)) (o : Outcome) → TextEnds w text t file last o → CauseOf o.status (Ask w layout text file) (Some bytes) last
  text_cause last o (unplanned e refused) = (t, is, e, refused)
  text_cause last o (planned p x plan ends) = plan_cause p last x plan ends

ask_cause : (w : Wish) (layout text file : List ℕ) (first last : Option (List ℕ)) (o : Outcome)
    → AskEnds w layout text file last first o → CauseOf o.status (Ask w layout text file) first last
ask_cause w layout text file first last o no_layout = inl refl
ask_cause w layout text file first last o (long_layout bytes long) = inl long
ask_cause w layout text file first last o (bad_layout bytes e refused) = (e, refused)
ask_cause w layout text file first last o (over_layout bytes t x is ends) = text_cause w layout text file bytes t is last x ends

-- a script's
script_cause : (file : List ℕ) (first last : Option (List ℕ)) (o : Outcome) → ScriptEnds file first o → CauseOf o.status (Run file) first last
script_cause file first last o no_script = refl
script_cause file first last o (long_script bytes long) = long
script_cause file first last o (bad_script bytes line short refused) = (short, (line, refused))
script_cause file first last o (ran bytes s report short script tells) = tt

-- each outcome's status has its cause
pub end_cause : (request : Request) (first last : Option (List ℕ)) (o : Outcome) → EndsBy request first last o → CauseOf o.status request first last
end_cause (Sum size at kind file) first last o ends = sum_cause size at kind file first last o ends
end_cause (Layout text file) first last o is = subst (λ (x : Outcome). CauseOf x.status (Layout text file) first last) (sym is)
    (layout_cause text file first last)
end_cause (Ask w layout text file) first last o ends = ask_cause w layout text file first last o ends
end_cause (Demo threads count) first last o ends = answer_cause (Demo threads count) first last o (ap (λ (x : Outcome). x.status) (sym ends.outcome))
end_cause (Run file) first last o ends = script_cause file first last o ends
