-- The casts change no number, since 63 bits hold each.
use Rattle.std.{proofs.Common.{◌≡◌, ◌∙◌, ℕ, ◌<◌, ◌≤◌, ◌-◌, ◌^◌, ap, sym, subst, pos, ◌-ℤ◌, of_z, to_z, w64, arith}, specs.Prelude.{neg_ℤ}}
use Rattle.std.proofs.lemmas.Int.{ints, to_z_pos}
use Rattle.fm_records_query.specs.Reader.{IsNumber, value_of}
use Rattle.fm_records_query.proofs.number.Number.value.Goals as goal

below : (n : ℕ) → 0 < n → n ≤ 2 ^ 63
    → to_z w64 (of_z w64 (to_z w64 (of_z w64 (pos 0 -ℤ to_z w64 (n - 1))) -ℤ pos 1)) ≡ neg_ℤ (pos n)
below n some most = omega (arith, ints)

pub returns-in-Up : goal.returns-in-Up
returns-in-Up c = to_z_pos w64 c.in-Up.n (subst IsNumber c.in-Up.is c.requires) ∙ sym (ap value_of c.in-Up.is)

pub returns-in-Down : goal.returns-in-Down
returns-in-Down c =
    let is = subst IsNumber c.in-Down.is c.requires in
    below c.in-Down.n is.0 is.1 ∙ sym (ap value_of c.in-Down.is)
