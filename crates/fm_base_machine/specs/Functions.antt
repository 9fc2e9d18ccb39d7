-- The machine as functions, beside the list of arenas.
use Rattle.std.specs.Prelude.{◌≡◌, ◌≢◌, ◌<◌, ⊤, ℕ, ◌+◌, ◌-◌, ◌%◌, ◌^◌, ◌==◌, Bool, true, false, if◌then◌else◌, Option, Some, None, length}
use Rattle.fm_base.specs.declared.{caller.Caller.{Caller}, arena_id.ArenaId.{ArenaId}}
use Rattle.fm_base.specs.Arenas.{Life, Alive, Closing, Ended, State, arena_of, has_arena, same_id, word_in, IsUnderWay, MayUse, are_one, owner_of}
use Rattle.fm_base.specs.Calls.{Call, Open, Enter, Read, Write, SwapIf, Add, Allocate, Leave, Hold, Unhold, Shut, End, Lend, Back, Reply, Fine, Found, Given}
use Rattle.fm_base.specs.{Machine.{words_within, IsPower, enter_reply, hold_reply, shut_reply, allocate_reply}, declared.kind.Kind.TheVariants.{Global}}

-- where an arena is in its life; Fresh where it was never opened
pub data Stage : Type 0 where
  Fresh : Stage
  Lives : Stage
  Closes : Stage
  Over : Stage

abbrev pub stage_of : Bool → Life → Stage
stage_of false life = Fresh
stage_of true Alive = Lives
stage_of true Closing = Closes
stage_of true Ended = Over

-- f, but x at the place i
unfoldable pub put : {A : Type 0} → (ℕ → A) → ℕ → A → ℕ → A
put f i x j = if j == i then x else f j

-- f, but x at the arena a
unfoldable pub put_at : {A : Type 0} → (ArenaId → A) → ArenaId → A → ArenaId → A
put_at f a x b = if same_id a b then x else f b

-- f, but x at the caller c
unfoldable pub put_by : {A : Type 0} → (Caller → A) → Caller → A → Caller → A
put_by f c x d = if are_one d c then x else f d

-- the machine, as functions of arenas and callers
pub record Machine : Type 0 where
  pub life : ArenaId → Stage
  pub word : ArenaId → ℕ → ℕ
  pub given : ArenaId → ℕ
  pub holds : ArenaId → ℕ
  pub inside : Caller → Option ArenaId

-- the functions after a call that was answered so
abbrev pub moved : Machine → Caller → Call → Reply → Machine
moved t c (Open id) reply = record t { life = put_at t.life id Lives }
moved t c (Enter id) Fine = record t { inside = put_by t.inside c (Some id) }
moved t c (Enter id) reply = t
moved t c (Read id word) reply = t
moved t c (Write id word value) reply = record t { word = put_at t.word id (put (t.word id) word value) }
moved t c (SwapIf id word old new) (Found found) = if found == old then record t { word = put_at t.word id (put (t.word id) word new) } else t
moved t c (SwapIf id word old new) reply = t
moved t c (Add id word n) (Found found) = record t { word = put_at t.word id (put (t.word id) word ((found + n) % 2 ^ 64)) }
moved t c (Add id word n) reply = t
moved t c (Allocate id size align) (Given place) = record t { given = put_at t.given id (place + size) }
moved t c (Allocate id size align) reply = t
moved t c (Leave id) reply = record t { inside = put_by t.inside c None }
moved t c (Hold id) Fine = record t { holds = put_at t.holds id (t.holds id + 1) }
moved t c (Hold id) reply = t
moved t c (Unhold id) reply = record t { holds = put_at t.holds id (t.holds id - 1) }
moved t c (Shut id) Fine = record t { life = put_at t.life id Closes }
moved t c (Shut id) reply = t
moved t c (End id) reply = record t { life = put_at t.life id Over }
moved t c (Lend block id part) reply = t
moved t c (Back block) reply = t

-- what the look-ups of the list answer is what the functions answer
pub record Depicts (limit : ℕ) (s : State) (t : Machine) : Type 0 where
  pub life : (a : ArenaId) → t.life a ≡ stage_of (has_arena s a) (arena_of s a).life
  pub word : (a : ArenaId) (w : ℕ) → t.word a w ≡ word_in s a w
  pub given : (a : ArenaId) → t.given a ≡ (arena_of s a).given
  pub holds : (a : ArenaId) → t.holds a ≡ (arena_of s a).holds
  pub under : (k : Caller) (a : ArenaId) → IsUnderWay s k a → t.inside k ≡ Some a
  pub listed : (k : Caller) (a : ArenaId) → t.inside k ≡ Some a → IsUnderWay s k a
  -- each arena has all its words
  pub long : (a : ArenaId) → has_arena s a ≡ true → length (arena_of s a).words ≡ words_within limit

-- an arena that was never opened is answered as one that has ended
abbrev pub life_of : Stage → Life
life_of Lives = Alive
life_of Closes = Closing
life_of stage = Ended

abbrev pub enter_stage : Stage → Reply
enter_stage stage = enter_reply (life_of stage)

abbrev pub hold_stage : Stage → ℕ → Reply
hold_stage stage holds = hold_reply (life_of stage) holds

abbrev pub shut_stage : Stage → ℕ → Reply
shut_stage stage holds = shut_reply (life_of stage) holds

-- the reply by the functions
abbrev pub reply_by : ℕ → Machine → Call → Reply
reply_by limit t (Open id) = Fine
reply_by limit t (Enter id) = enter_stage (t.life id)
reply_by limit t (Read id word) = Found (t.word id word)
reply_by limit t (Write id word value) = Fine
reply_by limit t (SwapIf id word old new) = Found (t.word id word)
reply_by limit t (Add id word n) = Found (t.word id word)
reply_by limit t (Allocate id size align) = allocate_reply limit (t.given id) size align
reply_by limit t (Leave id) = Fine
reply_by limit t (Hold id) = hold_stage (t.life id) (t.holds id)
reply_by limit t (Unhold id) = Fine
reply_by limit t (Shut id) = shut_stage (t.life id) (t.holds id)
reply_by limit t (End id) = Fine
reply_by limit t (Lend block id part) = Fine
reply_by limit t (Back block) = Fine

-- the caller is under way in the arena, and the arena has the word
abbrev pub Reaches : ℕ → Machine → Caller → ArenaId → ℕ → Type 0
Reaches limit t c id word = (t.inside c ≡ Some id) × (word < words_within limit)

-- where a call may be made, by the functions
abbrev pub MayBy : ℕ → Machine → Caller → Call → Type 0
MayBy limit t c (Open id) = (t.life id ≡ Fresh) × (owner_of id ≡ c)
MayBy limit t c (Enter id) = (t.life id ≢ Fresh) × MayUse id c × (t.inside c ≡ None)
MayBy limit t c (Read id word) = Reaches limit t c id word
MayBy limit t c (Write id word value) = Reaches limit t c id word × (value < 2 ^ 64)
MayBy limit t c (SwapIf id word old new) = Reaches limit t c id word × (new < 2 ^ 64)
MayBy limit t c (Add id word n) = Reaches limit t c id word
MayBy limit t c (Allocate id size align) = (t.inside c ≡ Some id) × IsPower align
MayBy limit t c (Leave id) = t.inside c ≡ Some id
MayBy limit t c (Hold id) = (t.life id ≢ Fresh) × MayUse id c
MayBy limit t c (Unhold id) = (t.life id ≡ Lives) × (0 < t.holds id)
MayBy limit t c (Shut id) = (t.life id ≢ Fresh) × MayUse id c × (id.kind ≢ Global)
MayBy limit t c (End id) = (t.life id ≡ Closes) × ((k : Caller) → t.inside k ≢ Some id)
MayBy limit t c (Lend block id part) = ⊤
MayBy limit t c (Back block) = ⊤
