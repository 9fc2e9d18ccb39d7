-- A path's text lists one path's values, or is refused for one reason.
use Rattle.std.{proofs.Common.{◌≡◌, ◌≢◌, ℕ, List, [], ◌∷◌, subst, sym, inl, inr, arith}, specs.List.{AllZip}}
use Rattle.fm_base.specs.declared.refusal.Refusal.{Refusal, TheVariants.{Memory}}
use Rattle.fm_layout.specs.Tree.{Tree}
use Rattle.fm_path.specs.Resolution.{IsRefusal}
use Rattle.fm_path_text.{proofs.Language.{one_no_text, not_no_text}, specs.{Grammar.{path_text, IsPath, IsTextOf, IsNoPath}, declared.step.PathStep.{PathStep}}}
use Rattle.fm_records_query.specs.{Grammar.{IsQuery}, Lists.{list_of, IsList, IsNoList, no_path, refused}}
use Rattle.fm_records_query.specs.{Parsed.{AreItemsRefused, IsItemAdmitted, IsItemOf, IsPlanOf, OrMemory}, Plan.{Plan}, declared.fold.Fold.TheVariants.{All}}
use Rattle.fm_records_query.{specs.declared.{item.Item.{Item}, syntax.ItemSyntax.{ItemSyntax, TheVariants.{Of}}}, proofs.OnePlan.{one_plan_of, item_clash}}
use Rattle.fm_records_query.proofs.OneRefusal.{one_path}

-- one item is few
pub list_is_query : (path : List PathStep) → IsPath path → IsQuery (list_of path)
list_is_query path is = record {
  items = (is, tt);
  some_item = omega arith;
  few_items = omega arith;
  conditions = tt;
  few_conditions = omega arith;
}

-- the one item is refused as its path is
pub list_refused : (t : Tree) (text : List ℕ) (path : List PathStep) (e : Refusal) → IsTextOf text path
    → OrMemory (AreItemsRefused t (Of All path ∷ [])) e → IsNoList text t e
list_refused t text path e is (inl (inl denied)) = refused path is denied
list_refused t text path e is (inl (inr later)) = absurd later.1
list_refused t text path e is (inr memory) = no_path (subst (IsNoPath text) (sym memory) tt)

-- ---- lists

same_path : (text : List ℕ) (path other : List PathStep) → IsTextOf text path → IsTextOf text other → path ≡ other
same_path text path other a b = a.only other b.is_path b.spelled

-- a text lists one plan's values
pub one_list : (text : List ℕ) (t : Tree) (p r : Plan) → IsList text t p → IsList text t r → p ≡ r
one_list text t p r a b =
    let same = same_path text a.path b.path a.is_text b.is_text in
    one_plan_of t (list_of b.path) p r (subst (λ (path : List PathStep). IsPlanOf t (list_of path) p) same a.is_plan) b.is_plan

-- a text is refused for one reason
pub one_list_refusal : (text : List ℕ) (t : Tree) (e f : Refusal) → IsNoList text t e → IsNoList text t f → e ≢ Memory → f ≢ Memory → e ≡ f
one_list_refusal text t e f (no_path a) (no_path b) one two = one_no_text IsPath path_text text e f a b one two
one_list_refusal text t e f (no_path a) (refused path is b) one two = absurd (not_no_text IsPath path_text text path e is.is_path is.spelled a one)
one_list_refusal text t e f (refused path is a) (no_path b) one two = absurd (not_no_text IsPath path_text text path f is.is_path is.spelled b two)
one_list_refusal text t e f (refused path is a) (refused other is' b) one two =
    one_path other t e f (subst (λ (steps : List PathStep). IsRefusal steps t e) (same_path text path other is is') a) b one two

-- what the one item comes to, it is admitted to
item_admitted : (t : Tree) (s : ItemSyntax) (items : List Item) → AllZip (IsItemOf t) (s ∷ []) items → IsItemAdmitted t s
item_admitted t s [] each = absurd each
item_admitted t s (item ∷ more) each = (item, each.0)

-- a text that is refused lists nothing
pub refused_lists_none : (text : List ℕ) (t : Tree) (p : Plan) (e : Refusal) → IsNoList text t e → e ≢ Memory → IsList text t p → ⊥
refused_lists_none text t p e (no_path denied) other list =
    not_no_text IsPath path_text text list.path e list.is_text.is_path list.is_text.spelled denied other
refused_lists_none text t p e (refused path is denied) other list =
    let same = same_path text path list.path is list.is_text in
    item_clash t e other (Of All list.path) (item_admitted t (Of All list.path) p.items list.is_plan.items)
    (subst (λ (steps : List PathStep). IsRefusal steps t e) same denied)
