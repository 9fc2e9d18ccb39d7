-- Words print one outcome.
use Rattle.std.proofs.Common.{◌≡◌, ℕ, List, Option, Some, Result, Ok, Err, refl, inl, inr, sym, ap, subst, ◌∙◌, arith}
use Rattle.fm_base.specs.declared.refusal.Refusal.{Refusal, TheVariants.{NoSize, ElementRagged}}
use Rattle.fm_top_demo.specs.Records.{made_layout}
use Rattle.fm_io.specs.Files.{Contents, file_of}
use Rattle.fm_lanes.specs.declared.value_kind.ValueKind.{ValueKind}
use Rattle.fm_layout.specs.Tree.{Tree}
use Rattle.fm_ljson.specs.Answer.{layout_of_json}
use Rattle.fm_records_query.{specs.Plan.{Plan}, proofs.{Lists.{one_list, one_list_refusal, refused_lists_none}, OnePlan.{one_plan, refused_has_none}}}
use Rattle.fm_records_query.{proofs.OneRefusal.{no_record_once, one_refusal}, specs.Records.{IsRecord, IsNoRecord}}
use Rattle.fm_path.specs.Resolution.{Resolution}
use Rattle.fm_group.specs.Values.{all_numbers}
use Rattle.fm_group_lists.proofs.One.{groups_one}
use Rattle.fm_group_text.specs.Printed.{groups_text}
use Rattle.fm_top.specs.Grouped.{GroupEnds, grouped, many}
use Rattle.fm_top.specs.{Demos.{DemoEnds, made_text}, Laws.{PrintAlike, HaveOneOutcome}}
use Rattle.fm_top.specs.Outcome.{Outcome, RecordsEnd, no_file, too_many, uneven, even, IsSummed, layout_refused, query_refused}
use Rattle.fm_top.specs.Queries.{IsRecordLayout, IsNoRecordLayout, IsLayoutRefused, IsSmall, records_limit, PlanOf, size_in, ComesTo, ComesToNone, EndsOver, PlanEnds, IsPlanned, IsUnplanned, TextEnds, unplanned, planned, AskEnds, no_layout, long_layout, bad_layout, over_layout}
use Rattle.fm_top.specs.{Tallies.{IsTallied, IsPathRefused, no_list, no_bytes}, Run.{HasOutcome, IsOutcomeOver, faulty, asked}}
use Rattle.fm_top.specs.{Words.{Request, Sum, Layout, Ask, Demo, Run, Asks, IsRun}, declared.command.{question.Question.{Question}, wish.Wish.{Wish, TheVariants.{Answer, Group, Texts}}}}
use Rattle.fm_top.{specs.declared.command.question.Question.TheVariants.{Query, Stream, Tally}, proofs.{Comes.{over_told}, Grouped.{group_refused_once, one_grouped, refused_not_grouped}, Requests.{same_request}}}
use Rattle.fm_top_load.specs.Limits.{record_file_limit}
use Rattle.fm_top_texts.proofs.OnePlan as texts
use Rattle.fm_workers.specs.Counts.{IsTally}

-- what is one outcome is printed alike
alike : (o x : Outcome) → o ≡ x → PrintAlike o x
alike o x same = record { status = ap (λ (y : Outcome). y.status) same; text = ap (λ (y : Outcome). y.text) same }

alike_too : (o x y : Outcome) → o ≡ x → PrintAlike x y → PrintAlike o y
alike_too o x y same is = subst (λ (z : Outcome). PrintAlike z y) (sym same) is

-- both are this, but for what is kept
alike_by : (o x a b : Outcome) → o ≡ a → x ≡ b → PrintAlike a b → PrintAlike o x
alike_by o x a b is_a is_b same = subst (λ (z : Outcome). PrintAlike o z) (sym is_b) (alike_too o a b is_a same)

-- ---- records

-- over whole records one text is printed
abbrev PrintOne : (List ℕ → Outcome → Type 0) → Type 0
PrintOne Answers = (bytes : List ℕ) (o x : Outcome) → Answers bytes o → Answers bytes x → PrintAlike o x

records_once : (limit size : ℕ) (file : List ℕ) (Answers : List ℕ → Outcome → Type 0) → PrintOne Answers → (found : Option (List ℕ)) (o x : Outcome)
    → RecordsEnd limit size file Answers found o → RecordsEnd limit size file Answers found x → PrintAlike o x
records_once limit size file Answers one found o x no_file no_file = alike o x refl
records_once limit size file Answers one found o x (too_many bytes a) (too_many bytes' b) = alike o x refl
records_once limit size file Answers one found o x (too_many bytes a) (uneven bytes' b rest) = absurd (omega (arith, a, b))
records_once limit size file Answers one found o x (too_many bytes a) (even bytes' x' b whole answers) = absurd (omega (arith, a, b))
records_once limit size file Answers one found o x (uneven bytes a rest) (too_many bytes' b) = absurd (omega (arith, a, b))
records_once limit size file Answers one found o x (uneven bytes a rest) (uneven bytes' b rest') = alike o x refl
records_once limit size file Answers one found o x (uneven bytes a rest) (even bytes' x' b whole answers) = absurd (rest whole)
records_once limit size file Answers one found o x (even bytes o' a whole answers) (too_many bytes' b) = absurd (omega (arith, a, b))
records_once limit size file Answers one found o x (even bytes o' a whole answers) (uneven bytes' b rest) = absurd (rest whole)
records_once limit size file Answers one found o x (even bytes o' a whole answers) (even bytes' x' b whole' answers') = one bytes o' x' answers answers'

summed_once : (size at : ℕ) (kind : ValueKind) → PrintOne (IsSummed size at kind)
summed_once size at kind bytes o x a b = alike o x (a ∙ sym b)

grouped_once : (r : Resolution) → PrintOne (GroupEnds r)
grouped_once r bytes o x (many a) (many b) = alike o x refl
grouped_once r bytes o x (many a) (grouped x' b two) = absurd (omega (arith, a, b))
grouped_once r bytes o x (grouped o' a one) (many b) = absurd (omega (arith, a, b))
grouped_once r bytes o x (grouped o' a one) (grouped x' b two) =
    alike_by o x _ _ one.outcome two.outcome
    (record { status = refl; text = ap groups_text (groups_one (all_numbers r bytes) one.groups two.groups one.are_groups two.are_groups) })

answered_once : (w : Wish) (p : PlanOf w) → PrintOne (EndsOver w p)
answered_once (Answer q threads) p bytes o x a b = alike_by o x _ _ a.outcome b.outcome (record { status = refl; text = refl })
answered_once (Group threads) p bytes o x a b = grouped_once p bytes o x a b
answered_once Texts p bytes o x a b = alike o x (a ∙ sym b)

-- ---- texts

-- a text that is refused comes to no plan
refused_not_tallied : (text : List ℕ) (t : Tree) (p : Plan) (e : Refusal) → IsPathRefused text t e → IsTallied text t p → ⊥
refused_not_tallied text t p e (no_list f denied other) is = refused_lists_none text t p f denied other is.list
refused_not_tallied text t p e (no_bytes r list none) is = none (subst IsTally (one_list text t p r is.list list) is.bytes)

refused_not_planned : (q : Question) (text : List ℕ) (t : Tree) (p : Plan) (e : Refusal) → IsUnplanned q text t e → IsPlanned q text t p → ⊥
refused_not_planned Query text t p e denied is = refused_has_none text t p e denied.no_query denied.refused is
refused_not_planned Stream text t p e denied is = refused_has_none text t p e denied.no_query denied.refused is
refused_not_planned Tally text t p e denied is = refused_not_tallied text t p e denied is

path_refused_once : (text : List ℕ) (t : Tree) (e f : Refusal) → IsPathRefused text t e → IsPathRefused text t f → e ≡ f
path_refused_once text t e f (no_list e' a one) (no_list f' b two) = one_list_refusal text t e' f' a b one two
path_refused_once text t e f (no_list e' a one) (no_bytes r list none) = absurd (refused_lists_none text t r e' a one list)
path_refused_once text t e f (no_bytes p list none) (no_list f' b two) = absurd (refused_lists_none text t p f' b two list)
path_refused_once text t e f (no_bytes p list none) (no_bytes r list' none') = refl

unplanned_once : (q : Question) (text : List ℕ) (t : Tree) (e f : Refusal) → IsUnplanned q text t e → IsUnplanned q text t f → e ≡ f
unplanned_once Query text t e f a b = one_refusal text t e f a.no_query b.no_query a.refused b.refused
unplanned_once Stream text t e f a b = one_refusal text t e f a.no_query b.no_query a.refused b.refused
unplanned_once Tally text t e f a b = path_refused_once text t e f a b

planned_once : (q : Question) (text : List ℕ) (t : Tree) (p r : Plan) → IsPlanned q text t p → IsPlanned q text t r → p ≡ r
planned_once Query text t p r a b = one_plan text t p r a b
planned_once Stream text t p r a b = one_plan text t p r a b
planned_once Tally text t p r a b = one_list text t p r a.list b.list

-- so is any other text
none_not_some : (w : Wish) (text : List ℕ) (t : Tree) (p : PlanOf w) (e : Refusal) → ComesToNone w text t e → ComesTo w text t p → ⊥
none_not_some (Answer q threads) text t p e denied is = refused_not_planned q text t p e denied is
none_not_some (Group threads) text t p e denied is = refused_not_grouped text t p e denied is
none_not_some Texts text t p e denied is = texts.refused_has_none text t p e denied is

none_once : (w : Wish) (text : List ℕ) (t : Tree) (e f : Refusal) → ComesToNone w text t e → ComesToNone w text t f → e ≡ f
none_once (Answer q threads) text t e f a b = unplanned_once q text t e f a b
none_once (Group threads) text t e f a b = group_refused_once text t e f a b
none_once Texts text t e f a b = texts.one_refusal text t e f a b

some_once : (w : Wish) (text : List ℕ) (t : Tree) (p r : PlanOf w) → ComesTo w text t p → ComesTo w text t r → p ≡ r
some_once (Answer q threads) text t p r a b = planned_once q text t p r a b
some_once (Group threads) text t p r a b = one_grouped text t p r a b
some_once Texts text t p r a b = texts.one_plan text t p r a b

text_once : (w : Wish) (text : List ℕ) (t : Tree) (file : List ℕ) (found : Option (List ℕ)) (o x : Outcome) → TextEnds w text t file found o
    → TextEnds w text t file found x → PrintAlike o x
text_once w text t file found o x (unplanned e a) (unplanned f b) = alike o x (ap query_refused (none_once w text t e f a b))
text_once w text t file found o x (unplanned e a) (planned p x' b ends) = absurd (none_not_some w text t p e a b)
text_once w text t file found o x (planned p o' a ends) (unplanned f b) = absurd (none_not_some w text t p f b a)
text_once w text t file found o x (planned p o' a ends) (planned r x' b ends') =
    records_once (records_limit w) (size_in w r) file (EndsOver w r) (answered_once w r) found o x
    (subst (λ (y : PlanOf w). PlanEnds w y file found o) (some_once w text t p r a b) ends) ends'

-- ---- layouts

-- a layout of records isn't refused
not_no_record : (t : Tree) (e : Refusal) → IsRecord t → IsNoRecord t e → ⊥
not_no_record t NoSize is denied = let some = is.sized in omega (arith, some, denied)
not_no_record t ElementRagged is denied = denied.1 is.even
not_no_record t e is denied = denied

-- nor is it one of which no records are
admits : (w : Wish) (t : Tree) (e : Refusal) → IsRecord t → IsSmall w t → IsNoRecordLayout w (Ok t) e → ⊥
admits w t e is small (inl denied) = not_no_record t e is denied
admits w t e is small (inr large) = large.1 small

not_layout_refused : (w : Wish) (bytes : List ℕ) (t : Tree) (e : Refusal) → IsRecordLayout w bytes t → IsLayoutRefused w bytes e → ⊥
not_layout_refused w bytes t e is denied =
    admits w t e is.records is.small (subst (λ (r : Result Tree Refusal). IsNoRecordLayout w r e) is.read denied.refused)

-- a layout's file is refused for one reason
no_layout_once : (w : Wish) (r : Result Tree Refusal) (e f : Refusal) → IsNoRecordLayout w r e → IsNoRecordLayout w r f → e ≡ f
no_layout_once w (Err x) e f a b = a ∙ sym b
no_layout_once w (Ok t) e f (inl a) (inl b) = no_record_once t e f a b
no_layout_once w (Ok t) e f (inl a) (inr b) = absurd (not_no_record t e b.0 a)
no_layout_once w (Ok t) e f (inr a) (inl b) = absurd (not_no_record t f a.0 b)
no_layout_once w (Ok t) e f (inr a) (inr b) = a.2 ∙ sym b.2

same_layouts : (w : Wish) (bytes : List ℕ) (t u : Tree) → IsRecordLayout w bytes t → IsRecordLayout w bytes u → t ≡ u
same_layouts w bytes t u a b =
    let one = a.read in
    let two = b.read in
    cc

ask_once : (w : Wish) (layout text file : List ℕ) (last first : Option (List ℕ)) (o x : Outcome) → AskEnds w layout text file last first o
    → AskEnds w layout text file last first x → PrintAlike o x
ask_once w layout text file last first o x no_layout no_layout = alike o x refl
ask_once w layout text file last first o x (long_layout bytes a) (long_layout bytes' b) = alike o x refl
ask_once w layout text file last first o x (long_layout bytes a) (bad_layout bytes' f b) = absurd (omega (arith, a, b.short))
ask_once w layout text file last first o x (long_layout bytes a) (over_layout bytes' u x' b ends) = absurd (omega (arith, a, b.short))
ask_once w layout text file last first o x (bad_layout bytes e a) (long_layout bytes' b) = absurd (omega (arith, b, a.short))
ask_once w layout text file last first o x (bad_layout bytes e a) (bad_layout bytes' f b) =
    alike o x (ap layout_refused (no_layout_once w (layout_of_json bytes) e f a.refused b.refused))
ask_once w layout text file last first o x (bad_layout bytes e a) (over_layout bytes' u x' b ends) = absurd (not_layout_refused w bytes u e b a)
ask_once w layout text file last first o x (over_layout bytes t o' a ends) (long_layout bytes' b) = absurd (omega (arith, b, a.short))
ask_once w layout text file last first o x (over_layout bytes t o' a ends) (bad_layout bytes' f b) = absurd (not_layout_refused w bytes t f a b)
ask_once w layout text file last first o x (over_layout bytes t o' a ends) (over_layout bytes' u x' b ends') =
    text_once w text u file last o x (subst (λ (v : Tree). TextEnds w text v file last o) (same_layouts w bytes t u a b) ends) ends'

-- ---- demonstrations

demo_once : (count : ℕ) (o x : Outcome) → DemoEnds count o → DemoEnds count x → PrintAlike o x
demo_once count o x a b =
    let first = one_plan _ made_layout a.first b.first a.are_queries.first b.are_queries.first in
    let second = one_plan _ made_layout a.second b.second a.are_queries.second b.are_queries.second in
    alike_by o x _ _ a.outcome b.outcome (record {
      status = refl;
      text = ap (λ (p : Plan). made_text p a.second count) first ∙ ap (λ (p : Plan). made_text b.first p count) second;
    })

-- ---- requests

-- all but scripts
abbrev IsOne : Request → Type 0
IsOne (Run file) = ⊥
IsOne request = Unit {0}

request_once : (request : Request) (contents : Contents) (o x : Outcome) → IsOne request → IsOutcomeOver request contents o
    → IsOutcomeOver request contents x → PrintAlike o x
request_once (Sum size at kind file) contents o x one a b =
    records_once record_file_limit size file (IsSummed size at kind) (summed_once size at kind) (file_of contents file) o x a b
request_once (Layout text file) contents o x one a b = alike o x (a ∙ sym b)
request_once (Ask w layout text file) contents o x one a b =
    ask_once w layout text file (file_of contents file) (file_of contents layout) o x a b
request_once (Demo threads count) contents o x one a b = demo_once count o x a b
request_once (Run file) contents o x one a b = absurd one

-- words that run no script ask for another thing
is_one : (words : List (List ℕ)) (request : Request) → ((file : List ℕ) → IsRun words file → ⊥) → Asks words request → IsOne request
is_one words (Run file) none asks = none file asks
is_one words request none asks = tt

-- words print one outcome over files that tell
pub one_outcome : HaveOneOutcome
one_outcome words contents o x none (faulty a) (faulty b) = alike o x refl
one_outcome words contents o x none (faulty a) (asked r x' asks has) = absurd (a r asks)
one_outcome words contents o x none (asked r o' asks has) (faulty b) = absurd (b r asks)
one_outcome words contents o x none (asked r o' asks has) (asked s x' asks' has') =
    request_once r contents o x (is_one words r none asks) (over_told r contents o has)
    (over_told r contents x (subst (λ (y : Request). HasOutcome y (Some contents) x) (same_request words s r asks' asks) has'))
