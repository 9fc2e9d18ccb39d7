-- Which path's values are grouped, and that there is a table for them.
use Rattle.std.proofs.Common.{◌≡◌, ℕ, zero, suc, ◌*◌, ◌^◌, ◌≤◌, List, [], ◌∷◌, refl, sym, ap, subst, pow-suc, arith}
use Rattle.std.specs.Int.{IsNextPowerOfTwo}
use mathlib.Core.Logic.{dite}
use native.Mathlib.Decide.{dec_le}
use Rattle.fm_base.specs.declared.refusal.Refusal.{Refusal}
use Rattle.fm_group.proofs.Ordinals.{resolved_few}
use Rattle.fm_layout.specs.{Size.{size_of}, Tree.{Tree, alignment_of}, WellFormed.{IsWellFormed}}
use Rattle.fm_path.{proofs.Resolving.{stays_inside}, specs.Resolution.{IsResolved, Resolution}}
use Rattle.fm_path_text.specs.declared.step.PathStep.{PathStep}
use Rattle.fm_records_query.proofs.Lists.{one_list, one_list_refusal, refused_lists_none}
use Rattle.fm_records_query.specs.{Grammar.{item_text}, Lists.{IsList}, Plan.{Plan, plan}, Records.{IsRecord}}
use Rattle.fm_records_query.specs.declared.{fold.Fold.TheVariants.{All}, item.{Item.{Item}}}
use Rattle.fm_records_query.specs.declared.syntax.ItemSyntax.TheVariants as syntax
use Rattle.fm_records_query.specs.declared.item.Asked.TheVariants as asked
use Rattle.fm_top_pooled.specs.Grouped.{HasTableFor, HasValues}
use Rattle.fm_top.specs.Grouped.{IsGroupPlanned, IsGroupRefused, most_values}

-- ---- the path

-- a resolved path is one through records
pub has_values : (t : Tree) (r : Resolution) (path : List PathStep) → IsWellFormed t → IsRecord t → IsResolved path t r → HasValues r
has_values t r path well records is = record {
  sized = subst (λ (n : ℕ). 1 ≤ n) (sym is.root_size) records.sized;
  multiple = rw (is.root_size, is.root_alignment) records.even;
  stays = stays_inside path t r.offset r.dims is.last r.value r.root_size r.root_alignment well is.leads is.value is.root_size is.root_alignment;
  few = resolved_few path t r is;
}

-- the item of a list of its values
abbrev item : List PathStep → Resolution → Item
item path r = record { text = item_text (syntax.Of All path); asked = asked.Of All r }

-- the query that lists them
abbrev listing : Tree → List PathStep → Resolution → Plan
listing t path r = plan (size_of t) (alignment_of t) (item path r ∷ []) []

listed : (text : List ℕ) (t : Tree) (r : Resolution) (is : IsGroupPlanned text t r) → IsList text t (listing t is.path r)
listed text t r is = record {
  path = is.path;
  is_text = is.is_text;
  is_plan = record { size = refl; alignment = refl; items = (record { text = refl; asked = (r, is.resolved, refl) }, tt); conditions = tt };
}

-- a text comes to one path
pub one_grouped : (text : List ℕ) (t : Tree) (r s : Resolution) → IsGroupPlanned text t r → IsGroupPlanned text t s → r ≡ s
one_grouped text t r s a b =
    let same = one_list text t (listing t a.path r) (listing t b.path s) (listed text t r a) (listed text t s b) in
    let items : item a.path r ∷ [] ≡ item b.path s ∷ [] = ap (λ (p : Plan). p.items) same in
    let one : item a.path r ≡ item b.path s = cc in
    let asks : asked.Of All r ≡ asked.Of All s = ap (λ (i : Item). i.asked) one in
    cc

-- one that is refused comes to none
pub refused_not_grouped : (text : List ℕ) (t : Tree) (r : Resolution) (e : Refusal) → IsGroupRefused text t e → IsGroupPlanned text t r → ⊥
refused_not_grouped text t r e denied is = refused_lists_none text t (listing t is.path r) e denied.no_list denied.refused (listed text t r is)

pub group_refused_once : (text : List ℕ) (t : Tree) (e f : Refusal) → IsGroupRefused text t e → IsGroupRefused text t f → e ≡ f
group_refused_once text t e f a b = one_list_refusal text t e f a.no_list b.no_list a.refused b.refused

-- ---- the table

-- there is a least power of two that is no less
next_power : (k n : ℕ) → n ≤ 2 ^ k → (p : ℕ) × IsNextPowerOfTwo n p × (p ≤ 2 ^ k)
next_power zero n few = (1, ((0, refl), few, omega arith), omega arith)
next_power (suc k) n few = dite (dec_le n (2 ^ k))
    (λ less. let one = next_power k n less in let twice = pow-suc 2 k in (one.0, one.1, omega (arith, one.2, twice)))
    (λ more. let twice = pow-suc 2 k in (2 ^ suc k, ((suc k, refl), few, omega (arith, more, twice)), omega arith))

-- a table for so many values fits beside them
pub has_table : (values beside : ℕ) → values ≤ most_values → 2 ^ 25 ≤ beside → HasTableFor values beside
has_table values beside few room =
    let one = next_power 21 (2 * values) (omega (arith, few)) in
    let small = one.2 in
    record { size = 16 * one.0; table = record { places = one.0; least = one.1; size_is = refl }; fits = omega (arith, small, room) }
