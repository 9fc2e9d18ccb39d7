-- Pages beside the machine: where each one is, and what its words say.
use Rattle.std.specs.Prelude.{◌≡◌, ◌≢◌, ℕ, ◌*◌, ◌/◌, ◌%◌, ◌<◌, ◌≤◌, List, Contains, Option, Some, None}
use Rattle.fm_words.specs.{Bits.{bit_of}, declared.shape.Shape.{Shape}}
use Rattle.fm_base.specs.declared.arena_id.ArenaId.{ArenaId}
use Rattle.fm_base_machine.specs.Functions.{Stage, Fresh, Over}
use Rattle.fm_rule_facts.specs.{Loans.{Loan, loan_of}, PoolWords.{Session, free, IsShown, IsStanding}, Berths.{Berth, loose, claimed, mapped, unmapped, LentAt}}

-- the page's words are 0
abbrev pub IsBlank : Shape → (ℕ → ℕ → ℕ) → ℕ → Type 0
IsBlank z cells p = (o : ℕ) → o < z.page_words → cells p o ≡ 0

-- the page's words, as this part of an arena that has given so many bytes, are 0 where they have no given byte
abbrev pub IsBeyond : Shape → (ℕ → ℕ → ℕ) → (given p i : ℕ) → Type 0
IsBeyond z cells given p i = (w : ℕ) → w / z.page_words ≡ i → given ≤ 8 * w → cells p (w % z.page_words) ≡ 0

-- a page that a map word of slot k names is lent to the arena that the session shows
pub record IsMapped (z : Shape) (loans : List Loan) (maps : ℕ → ℕ → Option ℕ) (cells : ℕ → ℕ → ℕ) (sessions : ℕ → Session) (given : ArenaId → ℕ)
    (p k i : ℕ) : Type 0 where
  pub page : p < z.pages
  pub part : i < z.reach
  pub named : maps k i ≡ Some p
  pub arena : ArenaId
  pub slot : arena.slot ≡ k
  pub shown : IsShown sessions arena
  pub lent : Contains loans (loan_of p arena i)
  pub beyond : IsBeyond z cells (given arena) p i

-- a page of an arena that has ended, which a sweep has taken from its map word
pub record IsUnmapped (z : Shape) (loans : List Loan) (cells : ℕ → ℕ → ℕ) (life : ArenaId → Stage) (given : ArenaId → ℕ) (p : ℕ) (a : ArenaId) (i : ℕ)
    : Type 0 where
  pub page : p < z.pages
  pub part : i < z.reach
  pub lent : Contains loans (loan_of p a i)
  pub over : life a ≡ Over
  pub beyond : IsBeyond z cells (given a) p i

-- What the words of arenas say, by map words and the words of pages
pub record Says (z : Shape) (maps : ℕ → ℕ → Option ℕ) (cells : ℕ → ℕ → ℕ) (sessions : ℕ → Session) (life : ArenaId → Stage) (word : ArenaId → ℕ → ℕ)
    (given : ArenaId → ℕ) : Type 0 where
  pub empty : (k g i : ℕ) → sessions k ≡ free g → maps k i ≡ None
  -- of an arena that stands: a word in a part with a page is the page's, one in a part without is 0, and each word with a given byte has a page
  pub words : (a : ArenaId) (w p : ℕ) → IsStanding (life a) → maps a.slot (w / z.page_words) ≡ Some p → word a w ≡ cells p (w % z.page_words)
  pub bare : (a : ArenaId) (w : ℕ) → IsStanding (life a) → maps a.slot (w / z.page_words) ≡ None → word a w ≡ 0
  pub covered : (a : ArenaId) (w : ℕ) → IsStanding (life a) → 8 * w < given a → maps a.slot (w / z.page_words) ≢ None
  pub new_words : (a : ArenaId) (w : ℕ) → life a ≡ Fresh → word a w ≡ 0
  pub new_given : (a : ArenaId) → life a ≡ Fresh → given a ≡ 0

pub record Pages (z : Shape) (loans : List Loan) (bits : ℕ → ℕ) (maps : ℕ → ℕ → Option ℕ) (cells : ℕ → ℕ → ℕ) (berth : ℕ → Berth)
    (sessions : ℕ → Session) (life : ArenaId → Stage) (word : ArenaId → ℕ → ℕ) (given : ArenaId → ℕ) : Type 0 where
  pub bit_is : (p : ℕ) → bit_of bits p ≡ 1 → (berth p ≡ loose) × (p < z.pages)
  pub is_bit : (p : ℕ) → p < z.pages → berth p ≡ loose → bit_of bits p ≡ 1
  pub map_is : (k i p : ℕ) → maps k i ≡ Some p → berth p ≡ mapped k i
  pub mapped_is : (p k i : ℕ) → berth p ≡ mapped k i → IsMapped z loans maps cells sessions given p k i
  pub unmapped_is : (p j i : ℕ) (a : ArenaId) → berth p ≡ unmapped j a i → IsUnmapped z loans cells life given p a i
  pub claimed_is : (p j : ℕ) → berth p ≡ claimed j → (p < z.pages) × IsBlank z cells p
  pub loose_is : (p : ℕ) → berth p ≡ loose → IsBlank z cells p
  pub lent_is : (l : Loan) → Contains loans l → LentAt (berth l.block) l
  pub only_loan : (l x : Loan) → Contains loans l → Contains loans x → l.block ≡ x.block → l ≡ x
  pub says : Says z maps cells sessions life word given
