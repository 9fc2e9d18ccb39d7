-- A layout or a text that is refused, is refused for one reason.
use Rattle.std.proofs.Common.{◌≡◌, ◌≢◌, ℕ, List, [], ◌∷◌, refl, subst, inl, inr, arith}
use Rattle.fm_base.specs.declared.refusal.Refusal.{Refusal, TheVariants.{NoSize, ElementRagged, Memory}}
use Rattle.fm_layout.specs.Tree.{Tree}
use Rattle.fm_path_text.{specs.declared.step.PathStep.{PathStep}, proofs.Language.{one_no_text}}
use Rattle.fm_path.specs.Resolution.{IsRefusal, at_step, no_value, no_memory}
use Rattle.fm_records_query.specs.{declared.syntax.{ItemSyntax.{ItemSyntax}, ConditionSyntax.{ConditionSyntax}}, Grammar.{Syntax, IsQuery, query_text}}
use Rattle.fm_records_query.specs.Parsed.{IsItemRefused, IsConditionRefused, at_path, left_open, IsFirstRefused, IsItemAdmitted, IsConditionAdmitted, IsSyntaxRefused, at_item, at_condition, IsNoQuery, no_text, refused}
use Rattle.fm_records_query.specs.Records.{IsNoRecord}
use Rattle.fm_records_query.proofs.OnePlan.{one_syntax, follows, not_refused, item_clash, condition_clash, none_first, not_no_text}
use Rattle.fm_records_query.specs.declared.syntax.ItemSyntax.TheVariants as syntax

-- ---- layouts

-- a layout is none of a record for one reason
pub no_record_once : (t : Tree) (e f : Refusal) → IsNoRecord t e → IsNoRecord t f → e ≡ f
no_record_once t NoSize NoSize a b = refl
no_record_once t NoSize ElementRagged a b = absurd (omega (arith, a, b.0))
no_record_once t NoSize f a b = absurd b
no_record_once t ElementRagged NoSize a b = absurd (omega (arith, b, a.0))
no_record_once t ElementRagged ElementRagged a b = refl
no_record_once t ElementRagged f a b = absurd b
no_record_once t e f a b = absurd a

-- ---- paths, items and conditions

-- a path is refused for one reason
pub one_path : (path : List PathStep) (t : Tree) (e f : Refusal) → IsRefusal path t e → IsRefusal path t f → e ≢ Memory → f ≢ Memory → e ≡ f
one_path path t e f (at_step x a) (at_step y b) one two = let first = a [] in let second = b [] in cc
one_path path t e f (at_step x a) (no_value b) one two = absurd (follows path 0 t b.last e b.ends (a []))
one_path path t e f (no_value a) (at_step y b) one two = absurd (follows path 0 t a.last f a.ends (b []))
one_path path t e f (no_value a) (no_value b) one two = refl
one_path path t e f no_memory b one two = absurd (one refl)
one_path path t e f a no_memory one two = absurd (two refl)

one_item : (t : Tree) (e f : Refusal) → e ≢ Memory → f ≢ Memory → (s : ItemSyntax) → IsItemRefused t s e → IsItemRefused t s f → e ≡ f
one_item t e f one two syntax.Count a b = absurd a
one_item t e f one two (syntax.Of fold path) a b = one_path path t e f a b one two

one_condition : (t : Tree) (e f : Refusal) → e ≢ Memory → f ≢ Memory → (s : ConditionSyntax) → IsConditionRefused t s e → IsConditionRefused t s f → e ≡ f
one_condition t e f one two s (at_path x a) (at_path y b) = one_path s.path t e f a b one two
one_condition t e f one two s (at_path x a) (left_open k r has open_at) = absurd (not_refused s.path t r e has a one)
one_condition t e f one two s (left_open k r has open_at) (at_path y b) = absurd (not_refused s.path t r f has b two)
one_condition t e f one two s (left_open k r has open_at) (left_open l r' has' open_at') = cc

-- the first that is refused is one, if none is both admitted and refused
one_first : {A : Type 0} (Admits : A → Type 0) (Refuses : A → Refusal → Type 0) (e f : Refusal)
    → ((x : A) → Refuses x e → Refuses x f → e ≡ f) → ((x : A) → Admits x → Refuses x e → ⊥) → ((x : A) → Admits x → Refuses x f → ⊥)
    → (xs : List A) → IsFirstRefused Admits Refuses xs e → IsFirstRefused Admits Refuses xs f → e ≡ f
one_first Admits Refuses e f one not_e not_f [] a b = absurd a
one_first Admits Refuses e f one not_e not_f (x ∷ xs) (inl a) (inl b) = one x a b
one_first Admits Refuses e f one not_e not_f (x ∷ xs) (inl a) (inr b) = absurd (not_e x b.0 a)
one_first Admits Refuses e f one not_e not_f (x ∷ xs) (inr a) (inl b) = absurd (not_f x a.0 b)
one_first Admits Refuses e f one not_e not_f (x ∷ xs) (inr a) (inr b) = one_first Admits Refuses e f one not_e not_f xs a.1 b.1

one_syntax_refusal : (t : Tree) (q : Syntax) (e f : Refusal) → e ≢ Memory → f ≢ Memory → IsSyntaxRefused t q e → IsSyntaxRefused t q f → e ≡ f
one_syntax_refusal t q e f one two (at_item a) (at_item b) =
    one_first (IsItemAdmitted t) (IsItemRefused t) e f (one_item t e f one two) (item_clash t e one) (item_clash t f two) q.items a b
one_syntax_refusal t q e f one two (at_item a) (at_condition all b) =
    absurd (none_first (IsItemAdmitted t) (IsItemRefused t) e (item_clash t e one) q.items all a)
one_syntax_refusal t q e f one two (at_condition all a) (at_item b) =
    absurd (none_first (IsItemAdmitted t) (IsItemRefused t) f (item_clash t f two) q.items all b)
one_syntax_refusal t q e f one two (at_condition all a) (at_condition all' b) =
    one_first (IsConditionAdmitted t) (IsConditionRefused t) e f (one_condition t e f one two) (condition_clash t e one) (condition_clash t f two)
    q.conditions a b

-- ---- texts

-- a text is refused for one reason
pub one_refusal : (text : List ℕ) (t : Tree) (e f : Refusal) → IsNoQuery text t e → IsNoQuery text t f → e ≢ Memory → f ≢ Memory → e ≡ f
one_refusal text t e f (no_text a) (no_text b) one two = one_no_text IsQuery query_text text e f a b one two
one_refusal text t e f (no_text a) (refused q is_text b) one two = absurd (not_no_text text q e is_text a one)
one_refusal text t e f (refused q is_text a) (no_text b) one two = absurd (not_no_text text q f is_text b two)
one_refusal text t e f (refused q is_text a) (refused r is_text' b) one two =
    one_syntax_refusal t r e f one two (subst (λ (s : Syntax). IsSyntaxRefused t s e) (one_syntax text q r is_text is_text') a) b
