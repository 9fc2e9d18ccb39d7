-- The steps of a pass: what each does to its view, and its entries.
use Rattle.std.specs.Prelude.{◌≡◌, ℕ, ◌+◌, ◌*◌, ◌/◌, ◌%◌, ◌^◌, ◌<◌, ◌≤◌, nat_le, ◌==◌, ◌&&◌, Bool, true, false, if◌then◌else◌, List, [], ◌∷◌, ◌++◌, length, All, Option, Some, None}
use Rattle.fm_base.specs.declared.{caller.Caller.{Caller}, arena_id.ArenaId.{ArenaId}}
use Rattle.fm_base.specs.Calls.{Call, Open, Enter, Read, Write, SwapIf, Add, Allocate, Leave, Hold, Unhold, Shut, Lend, Back, Reply, Fine, Found, Entry, entry_of}
use Rattle.fm_base.specs.{Machine.{allocate_reply, rounded_up}, Histories.{made_by}}
use Rattle.fm_base.specs.Finds.{Find, FindStep, Draws as Drawing, Visits as Visiting, TakesSlot as Taking, TakesPage as Claiming, Maps as Mapping, TakesNumber as TakingNumber}
pub use Rattle.fm_words.specs.Bits.{number_at}
use Rattle.fm_words.specs.Places.{at, page_word}
use Rattle.fm_rule_facts.specs.Hands.{nothing, learnt, slots_in, takes, hand_taken, hand_retired, Number, number_learnt, number_left, no_number, number_taken_by, number_after, drawn_by, most_draws}
use Rattle.fm_rule_facts.specs.declared.step.Step.{Step}
use Rattle.fm_rule_facts.specs.declared.step.Step.TheVariants.{Draws, Marks, Checks, Loads, Stores, SwapsIf, Adds, Allocates, Holds, Unholds, Backs, Unmarks, Shuts, Visits, TakesSlot, LearnsGeneration, Opens, Claims, Maps, ReadsMap, SweepsGiven, Unmaps, SweepsMap, Wipes, GivesPage, ReturnsPage, ResetsGiven, Retires, GivesSlot, Looks, TakesNumber, LearnsTerm, RaisesTerm, GivesNumber}
use Rattle.fm_rule_facts.specs.Parts.{mapping_of, unread, wiping, reads_after, reads_mapped, pages_mapped, pages_taken, swept_read}
use Rattle.fm_rule_facts.specs.{Views.{View, In, IsSound, given_of, limit_of}, Words.{alive_holds, enter_found, inside_found, shut_found, hold_found}}
use Rattle.fm_rule_facts.specs.{Holds.{grips, with_grips, holds_after, handles_with, released}, Handles.{giving, given_back, giving_entries}}
use Rattle.fm_rule_facts.specs.Closes.{begun, advanced, dropped, visit_found, closes_after, sweeps_after, visit_entries}

-- ---- what a step does

-- Others made entries, and then the pass made its own and became `part`
pub record Stepped (old new part : View) (own : List Entry) (noted : ℕ → List Find) : Type 0 where
  pub others : List Entry
  pub quiet : made_by old.caller others ≡ []
  -- no gathered caller made one of them, and there are none where the pass is known to be whole
  pub apart : All (λ g. made_by g.caller (others ++ own) ≡ []) old.gathered
  pub alone : old.whole ≡ true → others ≡ []
  pub seen : new.seen ≡ (old.seen ++ others) ++ own
  pub is_part : new ≡ record part { seen = new.seen; finds = old.finds ++ noted (length (old.seen ++ others)) }
  pub sound : IsSound new

-- ---- finds

abbrev pub none_noted : ℕ → List Find
none_noted n = []

abbrev pub is_empty : {A : Type 0} → List A → Bool
is_empty [] = true
is_empty (x ∷ xs) = false

-- known to be whole, no slot or page in its hand, no close that isn't swept
abbrev pub is_clear : View → Bool
is_clear v = v.whole && is_empty (slots_in v.hand) && is_empty v.pages && is_empty v.closes && is_empty v.sweeps

abbrev pub note_of : FindStep → ℕ → View → ℕ → List Find
note_of step found v n = record { step = step; found = found; seen = n; clear = is_clear v; gathered = length v.gathered; drew = None } ∷ []

-- ---- entries

-- the entry of one act in the arena that the pass is inside
abbrev pub acted : Option ArenaId → Caller → (ArenaId → Call) → Reply → List Entry
acted None c f reply = []
acted (Some a) c f reply = entry_of c (f a) reply ∷ []

-- entries that are made where the expected word was found
abbrev pub where_found : Bool → List Entry → List Entry
where_found true es = es
where_found false es = []

-- where the next bytes of this size and alignment stand in an arena that has given so many
abbrev pub room : (limit given size align : ℕ) → Option ℕ
room limit given size align = if nat_le (rounded_up given align + size) limit then Some (rounded_up given align) else None

-- the count of given bytes after an Allocate that found this count
abbrev pub given_next : (limit given size align : ℕ) → ℕ
given_next limit given size align =
    if nat_le (rounded_up given align + size) limit then rounded_up given align + size else given

-- the pass is inside an arena, where the word has a given byte
pub record CanReach (v : View) (word : ℕ) : Type 0 where
  pub id : ArenaId
  pub inside : v.inside ≡ Some id
  pub given : 8 * word < given_of v id

-- the place is that of the word of the arena that the pass is inside: it has read which page the word's part has
pub record HasPlace (v : View) (word place : ℕ) : Type 0 where
  pub page : ℕ
  pub low : page < v.shape.pages
  pub read : In (mapping_of (word / v.shape.page_words) page) v.reads
  pub is : place ≡ at v.shape (page_word page (word % v.shape.page_words))

-- the pass has read which page each part has that has one of the bytes from the one to the other
abbrev pub HasParts : View → (from to : ℕ) → Type 0
HasParts v from to = (word : ℕ) → from ≤ 8 * word → 8 * word < to → (page : ℕ) × In (mapping_of (word / v.shape.page_words) page) v.reads

-- the words of this part that have a given byte are all among the first so many of its page
abbrev pub AreAllGiven : View → ArenaId → (index words : ℕ) → Type 0
AreAllGiven v a index words = (word : ℕ) → word / v.shape.page_words ≡ index → 8 * word < given_of v a → word % v.shape.page_words < words

-- ---- numbers

-- the count of draws after a draw that finds so many
abbrev pub draw_next : ℕ → ℕ
draw_next drawn = if drawn == most_draws then drawn else drawn + 1

-- a number whose term is known is in the hand, or nothing is, and no draw is expected
pub data CanDraw (v : View) (expected : ℕ) : Type 0 where
  can_draw : (n k : ℕ) → v.number ≡ number_learnt n k → CanDraw v expected
  can_look : v.number ≡ no_number → expected ≡ 0 → CanDraw v expected

-- a pass that drew is not known to be whole any more; one that looks, since no pool has made 0 draws, and found as many as it has callers, is
abbrev pub draws : Option Caller → Number → (expected found : ℕ) → View → View
draws (Some c) number expected found v = record v { number = number; whole = false }
draws None number expected found v = record v {
  number = number;
  whole = if v.whole then true else (expected == 0 && (length v.gathered + 1 == found));
}

abbrev pub note_draw : (expected found : ℕ) → View → ℕ → List Find
note_draw expected found v n = record {
  step = Drawing expected;
  found = found;
  seen = n;
  clear = is_clear v;
  gathered = length v.gathered;
  drew = drawn_by v.number expected found;
} ∷ []

-- ---- each step

-- the view after a step that found the word x, but for what it has seen and found
unfoldable pub part : Step → View → ℕ → View
part (Marks a) v x = record v { mark = Some a }
part (Checks a) v x = record v { inside = inside_found a (alive_holds a x); reads = [] }
part (Loads w) v x = v
part (Stores w y) v x = v
part (SwapsIf w old y) v x = v
part (Adds w n) v x = v
part (Allocates given size align) v x = v
part (Holds a word) v x = with_grips a (holds_after (x == word) a (hold_found (alive_holds a word)) (grips a v)) v
part (Unholds a) v x = record v { holds = released a v.holds }
part (Backs a word) v x = given_back a (giving (x == word) (alive_holds a word)) v
part Unmarks v x = record v { inside = None; mark = None }
part (Shuts a) v x = record v { closes = begun a (shut_found (alive_holds a x)) v.closes }
part (Visits a k) v x = record v {
  closes = closes_after a (visit_found v.shape a k x) v.closes;
  sweeps = sweeps_after a (visit_found v.shape a k x) v.sweeps;
}
part (TakesSlot expected bit) v x = record v { hand = hand_taken (takes expected bit x) bit v.hand }
part (LearnsGeneration s) v x = record v { hand = learnt s (x / 2 ^ 32) }
part (Opens a) v x = record v { hand = nothing; handles = handles_with a v.handles }
part (Claims group expected bit) v x = record v { pages = pages_taken (takes expected bit x) (number_at group bit) v.pages }
part (Maps a i p) v x = record v { reads = reads_mapped i p x v.reads; pages = pages_mapped x v.pages }
part (ReadsMap a i) v x = record v { reads = reads_after i x v.reads }
part (SweepsGiven a) v x = v
part (SweepsMap a i) v x = record v { swept = swept_read a i x; sweeps = if x == 0 then advanced a v.sweeps else v.sweeps }
part (Unmaps a i p) v x = record v { swept = wiping a i p 0 }
part (Wipes a i p w) v x = record v { swept = wiping a i p (w + 1) }
part (GivesPage p) v x = record v { pages = [] }
part (ReturnsPage a p) v x = record v { swept = unread; sweeps = advanced a v.sweeps }
part (ResetsGiven a) v x = record v { sweeps = advanced a v.sweeps }
part (Retires a) v x = record v { sweeps = dropped a v.sweeps; hand = hand_retired (a.generation + 1 == v.shape.generations) a.slot v.hand }
part (GivesSlot slot) v x = record v { hand = nothing }
part (TakesNumber group expected bit) v x = record v { number = number_taken_by (takes expected bit x) (number_at group bit) v.number }
part (LearnsTerm n) v x = record v { number = number_learnt n x }
part (Draws expected) v x = draws (drawn_by v.number expected x) (number_after v.number expected x) expected x v
part (RaisesTerm n) v x = record v { number = number_left n }
part (GivesNumber n) v x = record v { number = no_number }
part Looks v x = v

-- the entries that it makes
unfoldable pub entries : Step → View → ℕ → List Entry
entries (Marks a) v x = []
entries (Checks a) v x = entry_of v.caller (Enter a) (enter_found (alive_holds a x)) ∷ []
entries (Loads w) v x = acted v.inside v.caller (λ a. Read a w) (Found x)
entries (Stores w y) v x = acted v.inside v.caller (λ a. Write a w y) Fine
entries (SwapsIf w old y) v x = acted v.inside v.caller (λ a. SwapIf a w old y) (Found x)
entries (Adds w n) v x = acted v.inside v.caller (λ a. Add a w n) (Found x)
entries (Allocates given size align) v x =
    where_found (x == given) (acted v.inside v.caller (λ a. Allocate a size align) (allocate_reply (limit_of v.shape) given size align))
entries (Holds a word) v x = where_found (x == word) (entry_of v.caller (Hold a) (hold_found (alive_holds a word)) ∷ [])
entries (Unholds a) v x = entry_of v.caller (Unhold a) Fine ∷ []
entries (Backs a word) v x = giving_entries a (giving (x == word) (alive_holds a word)) v.caller
entries Unmarks v x = acted v.inside v.caller Leave Fine
entries (Shuts a) v x = entry_of v.caller (Shut a) (shut_found (alive_holds a x)) ∷ []
entries (Visits a k) v x = visit_entries a (visit_found v.shape a k x) v.caller
entries (TakesSlot expected bit) v x = []
entries (LearnsGeneration s) v x = []
entries (Opens a) v x = entry_of v.caller (Open a) Fine ∷ []
entries (Claims group expected bit) v x = []
entries (Maps a i p) v x = where_found (x == 0) (entry_of v.caller (Lend p a i) Fine ∷ [])
entries (ReadsMap a i) v x = []
entries (SweepsGiven a) v x = []
entries (SweepsMap a i) v x = []
entries (Unmaps a i p) v x = []
entries (Wipes a i p w) v x = []
entries (GivesPage p) v x = []
entries (ReturnsPage a p) v x = entry_of v.caller (Back p) Fine ∷ []
entries (ResetsGiven a) v x = []
entries (Retires a) v x = []
entries (GivesSlot slot) v x = []
entries (TakesNumber group expected bit) v x = []
entries (LearnsTerm n) v x = []
entries (Draws expected) v x = []
entries (RaisesTerm n) v x = []
entries (GivesNumber n) v x = []
entries Looks v x = []

-- what it adds to the finds, where so many entries were seen before
unfoldable pub noted : Step → View → ℕ → ℕ → List Find
noted (Visits a k) v x = note_of (Visiting a k) x v
noted (Draws expected) v x = note_draw expected x v
noted (TakesSlot expected bit) v x = note_of (Taking expected bit) x v
noted (Claims group expected bit) v x = note_of (Claiming group expected bit) x v
noted (Maps a i p) v x = note_of (Mapping a i p) x v
noted (TakesNumber group expected bit) v x = note_of (TakingNumber group expected bit) x v
noted step v x = none_noted
