-- Where a page is.
use Rattle.std.specs.Prelude.{◌≡◌, ℕ}
use Rattle.fm_base.specs.declared.arena_id.ArenaId.{ArenaId}
use Rattle.fm_rule_facts.specs.Loans.{Loan}

pub data Berth : Type 0 where
  -- its bit is 1
  loose : Berth
  -- a seat has it in its hand
  claimed : (seat : ℕ) → Berth
  -- a map word names it
  mapped : (slot part : ℕ) → Berth
  -- the sweep of the arena at a seat has it, of which it was this part
  unmapped : (seat : ℕ) (arena : ArenaId) (part : ℕ) → Berth

-- the seat has it, and no word
abbrev pub IsAt : ℕ → Berth → Type 0
IsAt j loose = ⊥
IsAt j (claimed seat) = seat ≡ j
IsAt j (mapped slot part) = ⊥
IsAt j (unmapped seat arena part) = seat ≡ j

-- a page there can be lent as the loan says
abbrev pub LentAt : Berth → Loan → Type 0
LentAt loose l = ⊥
LentAt (claimed seat) l = ⊥
LentAt (mapped slot part) l = (l.id.slot ≡ slot) × (l.part ≡ part)
LentAt (unmapped seat arena part) l = (l.id ≡ arena) × (l.part ≡ part)
