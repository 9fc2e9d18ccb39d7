-- A path comes to one plan over a layout, and one that has a plan isn't refused.
use Rattle.std.proofs.Common.{◌≡◌, ℕ, List, Option, Some, None, Result, Ok, Err, refl, ap, sym, subst, ◌∙◌}
use Rattle.fm_base.specs.declared.refusal.Refusal.{Refusal}
use Rattle.fm_layout.specs.Tree.{Tree}
use Rattle.fm_path_text.{proofs.Language.{one_no_text, not_no_text}, specs.{Grammar.{path_text, IsPath, IsTextOf}, declared.step.PathStep.{PathStep}}}
use Rattle.fm_path_meaning.specs.{Follow.{follow_closed}, Found.{FindsClosed}, Places.{Place, Step}}
use Rattle.fm_path_meaning.proofs.Once.{place_once}
use Rattle.fm_top_texts.specs.{declared.plan.TextPlan.{TextPlan}, Laws.{PathsHaveOnePlan, PathsHaveOneRefusal, RefusedPathsHaveNoPlan}}
use Rattle.fm_top_texts.specs.Plans.{bytes_in, no_path, no_step, no_bytes}

-- ---- where a path ends

same_path : (text : List ℕ) (path other : List PathStep) → IsTextOf text path → IsTextOf text other → path ≡ other
same_path text path other a b = a.only other b.is_path b.spelled

same_steps : (r : Result (List Step) Refusal) (x y : List Step) → r ≡ Ok x → r ≡ Ok y → x ≡ y
same_steps r x y a b = cc

abbrev place : List Step → ℕ → Tree → Place
place steps at u = record { steps = steps; offset = at; layout = u }

-- a text's path ends at one place
one_place : (text : List ℕ) (t : Tree) (path other : List PathStep) (a b : ℕ) (u v : Tree) → IsTextOf text path → IsTextOf text other
    → FindsClosed path t a u → FindsClosed other t b v → (a ≡ b) × (u ≡ v)
one_place text t path other a b u v is was x y =
    let same = same_path text path other is was in
    let there = subst (λ (steps : List PathStep). FindsClosed steps t a u) same x in
    let one = place_once t (place there.steps a u) (place y.steps b v) there.listed y.listed
    (same_steps (follow_closed other t) there.steps y.steps there.follows y.follows) in
    (ap (λ (p : Place). p.offset) one, ap (λ (p : Place). p.layout) one)

-- ---- plans

same_count : (o : Option ℕ) (n m : ℕ) → o ≡ Some n → o ≡ Some m → n ≡ m
same_count o n m a b = cc

abbrev plan : ℕ → ℕ → ℕ → TextPlan
plan size offset count = record { size = size; offset = offset; count = count }

-- a path comes to one plan
pub one_plan : PathsHaveOnePlan
one_plan text t p q a b =
    let there = one_place text t a.path b.path p.offset q.offset a.end b.end a.spelled b.spelled a.finds b.finds in
    let count = same_count (bytes_in b.end) p.count q.count (subst (λ (u : Tree). bytes_in u ≡ Some p.count) there.1 a.bytes) b.bytes in
    let size : p.size ≡ q.size = a.size ∙ sym b.size in
    let offset : p.offset ≡ q.offset = there.0 in
    let same : plan p.size p.offset p.count ≡ plan q.size q.offset q.count = cc in
    same

-- ---- refusals

-- a step that can't be taken is none that was
no_end : (text : List ℕ) (t : Tree) (path other : List PathStep) (e : Refusal) (at : ℕ) (u : Tree) → IsTextOf text path → IsTextOf text other
    → follow_closed path t ≡ Err e → FindsClosed other t at u → ⊥
no_end text t path other e at u is was denied finds =
    let same = same_path text path other is was in
    let a : follow_closed other t ≡ Err e = subst (λ (steps : List PathStep). follow_closed steps t ≡ Err e) same denied in
    let b = finds.follows in
    let none : ⊥ = cc in
    none

-- a text is refused for one reason
pub one_refusal : PathsHaveOneRefusal
one_refusal text t e f (no_path e' a one) (no_path f' b two) = one_no_text IsPath path_text text e f a b one two
one_refusal text t e f (no_path e' a one) (no_step path f' is b) = absurd (not_no_text IsPath path_text text path e is.is_path is.spelled a one)
one_refusal text t e f (no_path e' a one) (no_bytes path at u is finds none) = absurd (not_no_text IsPath path_text text path e is.is_path is.spelled a one)
one_refusal text t e f (no_step path e' is a) (no_path f' b two) = absurd (not_no_text IsPath path_text text path f is.is_path is.spelled b two)
one_refusal text t e f (no_step path e' is a) (no_step other f' was b) =
    let same = same_path text path other is was in
    let first : follow_closed other t ≡ Err e = subst (λ (steps : List PathStep). follow_closed steps t ≡ Err e) same a in
    cc
one_refusal text t e f (no_step path e' is a) (no_bytes other at u was finds none) = absurd (no_end text t path other e at u is was a finds)
one_refusal text t e f (no_bytes path at u is finds none) (no_path f' b two) = absurd (not_no_text IsPath path_text text path f is.is_path is.spelled b two)
one_refusal text t e f (no_bytes path at u is finds none) (no_step other f' was b) = absurd (no_end text t other path f at u was is b finds)
one_refusal text t e f (no_bytes path at u is finds none) (no_bytes other to v was found nothing) = refl

-- a text that is refused comes to no plan
pub refused_has_none : RefusedPathsHaveNoPlan
refused_has_none text t p e (no_path e' denied other) a =
    not_no_text IsPath path_text text a.path e a.spelled.is_path a.spelled.spelled denied other
refused_has_none text t p e (no_step path e' is denied) a = no_end text t path a.path e p.offset a.end is a.spelled denied a.finds
refused_has_none text t p e (no_bytes path at u is finds nothing) a =
    let there = one_place text t path a.path at p.offset u a.end is a.spelled finds a.finds in
    let empty : bytes_in a.end ≡ None = subst (λ (u : Tree). bytes_in u ≡ None) there.1 nothing in
    let some = a.bytes in
    let none : ⊥ = cc in
    none
