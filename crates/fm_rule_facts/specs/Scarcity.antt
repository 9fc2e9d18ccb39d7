-- Where a pool has too few pages for an allocation.
use Rattle.std.{specs.Prelude.{◌<◌, ◌≤◌, ◌+◌, ◌-◌, ◌*◌, ◌/◌, ◌==◌, ◌&&◌, ℕ, Bool, true, false, if◌then◌else◌, List, [], ◌∷◌}, proofs.Common.{zero, suc}}
use Rattle.fm_words.specs.declared.shape.Shape.{Shape}
use Rattle.fm_base.specs.{declared.arena_id.ArenaId.{ArenaId}, Arenas.{same_id}, Machine.{rounded_up}}
use Rattle.fm_rule_facts.specs.{Loans.{Loan, loans_of}, Views.{View, given_of, limit_of, one_unless, unlent}}

-- the arena has a block as this part
abbrev pub has_part : List Loan → ArenaId → ℕ → Bool
has_part [] a i = false
has_part (l ∷ ls) a i = if same_id l.id a && (l.part == i) then true else has_part ls a i

-- how many of the first parts of the arena have no block
abbrev pub lacking : ℕ → List Loan → ArenaId → ℕ
lacking zero loans a = 0
lacking (suc n) loans a = one_unless (has_part loans a n) + lacking n loans a

-- how many parts have a byte before this place
abbrev pub parts_before : Shape → (place : ℕ) → ℕ
parts_before z place = (place + (z.page_words * 8 - 1)) / (z.page_words * 8)

-- where the range of an allocation ends, as the arena's count of given bytes places it
abbrev pub end_of : View → ArenaId → (size align : ℕ) → ℕ
end_of v a size align = rounded_up (given_of v a) align + size

-- the range of an allocation is within the limit, and fewer blocks aren't lent than parts up to its end have none
pub record IsScarce (v : View) (a : ArenaId) (size align : ℕ) : Type 0 where
  pub fits : end_of v a size align ≤ limit_of v.shape
  pub few : unlent v.shape.pages (loans_of v.seen) < lacking (parts_before v.shape (end_of v a size align)) (loans_of v.seen) a
