-- The slot that a pass has in its hand.
use Rattle.std.specs.{Prelude.{◌≡◌, ℕ, ◌==◌, Bool, true, false, if◌then◌else◌, List, [], ◌∷◌, Option, Some, None}, Int.{bit_at}}
use Rattle.fm_base.specs.declared.caller.Caller.{Caller}

pub data Hand : Type 0 where
  nothing : Hand
  -- the slot's bit was taken
  taken : (slot : ℕ) → Hand
  -- and the generation is known of the arena that is opened there next
  learnt : (slot generation : ℕ) → Hand
  -- the slot's last arena was retired by this pass, and its bit isn't set yet
  retired : (slot : ℕ) → Hand

-- the slot is the one in the hand
abbrev pub HasSlot : ℕ → Hand → Type 0
HasSlot s nothing = ⊥
HasSlot s (taken slot) = s ≡ slot
HasSlot s (learnt slot generation) = s ≡ slot
HasSlot s (retired slot) = s ≡ slot

-- the caller took the slot in the hand, where it is for an arena that is opened next
abbrev pub IsTaker : (ℕ → Option Caller) → Caller → Hand → Type 0
IsTaker taker c nothing = Unit {0}
IsTaker taker c (taken slot) = taker slot ≡ Some c
IsTaker taker c (learnt slot generation) = taker slot ≡ Some c
IsTaker taker c (retired slot) = taker slot ≡ None

abbrev pub slots_in : Hand → List ℕ
slots_in nothing = []
slots_in (taken slot) = slot ∷ []
slots_in (learnt slot generation) = slot ∷ []
slots_in (retired slot) = slot ∷ []

-- the exchange of the expected word, where it was found, made the slot's bit 0
abbrev pub takes : (expected bit found : ℕ) → Bool
takes expected bit found = if found == expected then bit_at expected bit == 1 else false

abbrev pub hand_taken : Bool → (bit : ℕ) → Hand → Hand
hand_taken true bit hand = taken bit
hand_taken false bit hand = hand

-- the hand of a pass that retired an arena of the slot, the last one or not
abbrev pub hand_retired : (last : Bool) → (slot : ℕ) → Hand → Hand
hand_retired true slot hand = hand
hand_retired false slot hand = retired slot

-- ---- numbers

-- the number that a pass has in its hand
pub data Number : Type 0 where
  no_number : Number
  -- its bit was made 0
  number_taken : (number : ℕ) → Number
  -- and its term is known
  number_learnt : (number term : ℕ) → Number
  -- the caller was drawn, and isn't split off
  number_drawn : (caller : Caller) → Number
  -- its draw found as many draws as can be counted: it goes back as it was; or its term was raised
  number_left : (number : ℕ) → Number
  -- a caller that was gathered, whose number isn't returned yet
  number_joined : (caller : Caller) → Number

-- the number is the one in the hand
abbrev pub HasNumberIn : ℕ → Number → Type 0
HasNumberIn n no_number = ⊥
HasNumberIn n (number_taken k) = n ≡ k
HasNumberIn n (number_learnt k t) = n ≡ k
HasNumberIn n (number_drawn c) = n ≡ c.number
HasNumberIn n (number_left k) = n ≡ k
HasNumberIn n (number_joined c) = n ≡ c.number

-- the last term that a number has
abbrev pub last_term : ℕ
last_term = 4294967295

-- the most draws that are counted
abbrev pub most_draws : ℕ
most_draws = 18446744073709551615

-- the caller that was drawn where so many draws were expected and found
abbrev pub drawn_by : Number → (expected found : ℕ) → Option Caller
drawn_by no_number expected found = None
drawn_by (number_taken n) expected found = None
drawn_by (number_learnt n t) expected found =
    if found == expected then (if found == most_draws then None else Some (record { number = n; term = t })) else None
drawn_by (number_drawn c) expected found = None
drawn_by (number_left n) expected found = None
drawn_by (number_joined c) expected found = None

-- the hand after a draw that found so many
abbrev pub number_after : Number → (expected found : ℕ) → Number
number_after no_number expected found = no_number
number_after (number_taken n) expected found = number_taken n
number_after (number_learnt n t) expected found =
    if found == expected then (if found == most_draws then number_left n else number_drawn (record { number = n; term = t })) else number_learnt n t
number_after (number_drawn c) expected found = number_drawn c
number_after (number_left n) expected found = number_left n
number_after (number_joined c) expected found = number_joined c

-- the hand after the other pass was joined: its number is returned, unless it had its last term
abbrev pub number_of_joined : Caller → Number
number_of_joined c = if c.term == last_term then no_number else number_joined c

abbrev pub number_taken_by : Bool → (number : ℕ) → Number → Number
number_taken_by true n hand = number_taken n
number_taken_by false n hand = hand
