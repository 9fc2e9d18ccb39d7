-- One step of the machine: where a call may be made, the reply, and the state after it.
use Rattle.std.specs.Prelude.{◌≡◌, ◌≢◌, ℕ, ◌+◌, ◌-◌, ◌*◌, ◌/◌, ◌%◌, ◌^◌, ◌<◌, nat_le, ◌==◌, true, false, if◌then◌else◌, [], ◌∷◌, ◌++◌, refl, slice_set, length, replicate, filter, not, ⊤}
use Rattle.std.specs.Int.{is_power_of_two}
use Rattle.fm_base.specs.declared.{caller.Caller.{Caller}, arena_id.ArenaId.{ArenaId}, kind.Kind.TheVariants.{Global}}
use Rattle.fm_base.specs.Arenas.{Life, Alive, Closing, Ended, Arena, State, has_arena, arena_of, changed, word_in, IsUnderWay, MayUse, are_one, owner_of}
use Rattle.fm_base.specs.Calls.{Call, Open, Enter, Read, Write, SwapIf, Add, Allocate, Leave, Hold, Unhold, Shut, End, Lend, Back, Reply, Fine, Closed, Held, TooManyHolds, Found, Given, NoRoom, Entry}

-- ---- where a call may be made

-- the caller is under way in the arena, and the arena has the word
pub record MayReach (s : State) (caller : Caller) (id : ArenaId) (word : ℕ) : Type 0 where
  pub under_way : IsUnderWay s caller id
  pub within : word < length (arena_of s id).words

-- the same, and the value fits a word
pub record MayPut (s : State) (caller : Caller) (id : ArenaId) (word value : ℕ) : Type 0 where
  pub under_way : IsUnderWay s caller id
  pub within : word < length (arena_of s id).words
  pub fits : value < 2 ^ 64

abbrev pub IsPower : ℕ → Type 0
IsPower n = is_power_of_two n ≡ true

abbrev pub IsUnderWayNowhere : State → Caller → Type 0
IsUnderWayNowhere s caller = (id : ArenaId) → ¬ (IsUnderWay s caller id)

abbrev pub MayCall : State → Caller → Call → Type 0
MayCall s c (Open id) = (has_arena s id ≡ false) × (owner_of id ≡ c)
MayCall s c (Enter id) = (has_arena s id ≡ true) × MayUse id c × IsUnderWayNowhere s c
MayCall s c (Read id word) = MayReach s c id word
MayCall s c (Write id word value) = MayPut s c id word value
MayCall s c (SwapIf id word old new) = MayPut s c id word new
MayCall s c (Add id word n) = MayReach s c id word
MayCall s c (Allocate id size align) = IsUnderWay s c id × IsPower align
MayCall s c (Leave id) = IsUnderWay s c id
MayCall s c (Hold id) = (has_arena s id ≡ true) × MayUse id c
MayCall s c (Unhold id) = ((arena_of s id).life ≡ Alive) × (0 < (arena_of s id).holds)
MayCall s c (Shut id) = (has_arena s id ≡ true) × MayUse id c × (id.kind ≢ Global)
MayCall s c (End id) = ((arena_of s id).life ≡ Closing) × ((arena_of s id).under_way ≡ [])
MayCall s c (Lend block id part) = ⊤
MayCall s c (Back block) = ⊤

-- ---- the reply

abbrev pub words_within : ℕ → ℕ
words_within limit = (limit + 7) / 8

abbrev pub rounded_up : ℕ → ℕ → ℕ
rounded_up n align = (n + (align - 1)) / align * align

abbrev pub most_holds : ℕ
most_holds = 65535

abbrev pub enter_reply : Life → Reply
enter_reply Alive = Fine
enter_reply Closing = Closed
enter_reply Ended = Closed

abbrev pub allocate_reply : ℕ → ℕ → ℕ → ℕ → Reply
allocate_reply limit given size align =
    if nat_le (rounded_up given align + size) limit then Given (rounded_up given align) else NoRoom given

abbrev pub hold_reply : Life → ℕ → Reply
hold_reply Alive holds = if holds == most_holds then TooManyHolds else Fine
hold_reply Closing holds = Closed
hold_reply Ended holds = Closed

abbrev pub shut_reply : Life → ℕ → Reply
shut_reply Alive holds = if holds == 0 then Fine else Held holds
shut_reply Closing holds = Closed
shut_reply Ended holds = Closed

abbrev pub reply_to : ℕ → State → Call → Reply
reply_to limit s (Open id) = Fine
reply_to limit s (Enter id) = enter_reply (arena_of s id).life
reply_to limit s (Read id word) = Found (word_in s id word)
reply_to limit s (Write id word value) = Fine
reply_to limit s (SwapIf id word old new) = Found (word_in s id word)
reply_to limit s (Add id word n) = Found (word_in s id word)
reply_to limit s (Allocate id size align) = allocate_reply limit (arena_of s id).given size align
reply_to limit s (Leave id) = Fine
reply_to limit s (Hold id) = hold_reply (arena_of s id).life (arena_of s id).holds
reply_to limit s (Unhold id) = Fine
reply_to limit s (Shut id) = shut_reply (arena_of s id).life (arena_of s id).holds
reply_to limit s (End id) = Fine
reply_to limit s (Lend block id part) = Fine
reply_to limit s (Back block) = Fine

-- ---- the state after the call

abbrev pub opened : ℕ → ArenaId → Arena
opened limit id =
    record { id = id; life = Alive; words = replicate (words_within limit) 0; given = 0; holds = 0; under_way = [] }

abbrev pub entered : Caller → Arena → Arena
entered c a = record a { under_way = c ∷ a.under_way }

abbrev pub left : Caller → Arena → Arena
left c a = record a { under_way = filter (λ x. not (are_one x c)) a.under_way }

abbrev pub written : ℕ → ℕ → Arena → Arena
written word value a = record a { words = slice_set a.words word value }

-- the word is the new one where the old one was found
abbrev pub swapped : ℕ → ℕ → ℕ → ℕ → Arena → Arena
swapped word old new found a = record a { words = if found == old then slice_set a.words word new else a.words }

-- the count of given bytes is now this one
abbrev pub given_up_to : ℕ → Arena → Arena
given_up_to count a = record a { given = count }

abbrev pub held : Arena → Arena
held a = record a { holds = a.holds + 1 }

abbrev pub released : Arena → Arena
released a = record a { holds = a.holds - 1 }

abbrev pub closing : Arena → Arena
closing a = record a { life = Closing }

abbrev pub ended : Arena → Arena
ended a = record a { life = Ended }

-- what a call does to the state: an arena comes last, one is altered but for its name, or all stays
pub data Change : Type 0 where
  Opens : (arena : Arena) → Change
  Alters : (id : ArenaId) (f : Arena → Arena) (named : (a : Arena) → (f a).id ≡ a.id) → Change
  Rests : Change

abbrev pub made : Change → State → State
made (Opens arena) s = s ++ arena ∷ []
made (Alters id f named) s = changed s id f
made Rests s = s

-- what a call does that was answered so
abbrev pub change_of : ℕ → Caller → Call → Reply → Change
change_of limit c (Open id) reply = Opens (opened limit id)
change_of limit c (Enter id) Fine = Alters id (entered c) (λ a. refl)
change_of limit c (Write id word value) reply = Alters id (written word value) (λ a. refl)
change_of limit c (SwapIf id word old new) (Found found) = Alters id (swapped word old new found) (λ a. refl)
change_of limit c (Add id word n) (Found found) = Alters id (written word ((found + n) % 2 ^ 64)) (λ a. refl)
change_of limit c (Allocate id size align) (Given place) = Alters id (given_up_to (place + size)) (λ a. refl)
change_of limit c (Leave id) reply = Alters id (left c) (λ a. refl)
change_of limit c (Hold id) Fine = Alters id held (λ a. refl)
change_of limit c (Unhold id) reply = Alters id released (λ a. refl)
change_of limit c (Shut id) Fine = Alters id closing (λ a. refl)
change_of limit c (End id) reply = Alters id ended (λ a. refl)
change_of limit c call reply = Rests

-- the state after a call that was answered so
abbrev pub state_by : ℕ → State → Caller → Call → Reply → State
state_by limit s c call reply = made (change_of limit c call reply) s

abbrev pub after : ℕ → State → Entry → State
after limit s e = state_by limit s e.caller e.call e.reply
