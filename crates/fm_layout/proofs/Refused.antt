-- A constructor refuses only what would not be well formed.
use Rattle.std.{proofs.Common.{◌≡◌, ℕ, ◌+◌, ◌≤◌, true, false, None, Ok, Err, refl, sym, ap, ◌∙◌, arith, eq-eqb, le-leb, nat_eq}, specs.Int.{is_power_of_two}}
use Rattle.std.proofs.lemmas.Bool.{false_from_ne_true, eqb-true}
use Rattle.fm_base.specs.declared.refusal.Refusal.{Refusal}
use Rattle.fm_layout.specs.Tree.{Label, Tree, Trees, Value, Padding, Sequence, Struct, Union, NoMore, More, alignment_of, name_of, relabelled}
use Rattle.fm_layout.specs.{Size.{size_of, sum_of, greatest_alignment, least_of}, WellFormed.{limit, IsWellFormed, AreLaidOut}}
use Rattle.fm_layout.{specs.Made.{plain, made, padding_of, sequence_fault, sequence_of, fault_of, struct_of, with_alignment}, proofs.Groups.{fault_of-more}}
use Rattle.fm_base_bytes.proofs.Powers.{is_power_of_two-IsPowerOfTwo}
use Rattle.fm_layout.proofs.Sound.{fit_of}

-- Members that are laid out and end within the limit break no rule.
pub fault_of-none : (i at : ℕ) (ts : Trees) → AreLaidOut at ts → at + sum_of ts ≤ limit → fault_of i at ts ≡ None
fault_of-none i at NoMore laid small = refl
fault_of-none i at (More t ts) laid small =
    fault_of-more i at t ts laid.0 (omega arith) ∙ fault_of-none (i + 1) (at + size_of t) ts laid.2 (omega arith)
