-- What a member that may be missing says of a layout is a number or a text.
use Rattle.std.proofs.Common.{ℕ, Bool, true, false, nat_eq, cond, List, Option, Some, None}
use Rattle.serde_json.specs.Data.{Data, string}
use Rattle.fm_lanes.specs.{declared.order.Order.{Order, TheVariants.{Little, Big}}, Named.{order_text}}
use Rattle.fm_layout.specs.Tree.{Label}
use Rattle.fm_ljson_write.specs.Canonical.{align_of, name_of, order_of, whole}

-- so is what stands there, if anything does
abbrev pub IsIfAny : (Data → Type 0) → Option Data → Type 0
IsIfAny Is None = Unit {0}
IsIfAny Is (Some d) = Is d

-- what is so of each number and of each text
pub record IsOfBoth (Is : Data → Type 0) : Type 0 where
  pub number : (n : ℕ) → Is (whole n)
  pub text : (word : List ℕ) → Is (string word)

module _ {Is : Data → Type 0} (both : IsOfBoth Is) where
  aligned : (same : Bool) (n : ℕ) → IsIfAny Is (cond same None (Some (whole n)))
  aligned true n = tt
  aligned false n = both.number n

  pub of_align : (given : ℕ) (l : Label) → IsIfAny Is (align_of given l)
  of_align given l = aligned (nat_eq l.alignment given) l.alignment

  named : (name : Option (List ℕ)) (a : ℕ) → IsIfAny Is (name_of (record { alignment = a; name = name }))
  named None a = tt
  named (Some name) a = both.text name

  pub of_name : (l : Label) → IsIfAny Is (name_of l)
  of_name l = named l.name l.alignment

  pub of_order : (o : Order) → IsIfAny Is (order_of o)
  of_order Little = tt
  of_order Big = both.text (order_text Big)
