-- What the calls of the only caller do to the words of an arena.
use Rattle.std.proofs.Common.{◌≡◌, ℕ, ◌+◌, List, [], ◌∷◌, refl, ap, ◌∙◌, subst, Some, slice_index, slice_set}
use Rattle.fm_base.specs.{declared.arena_id.ArenaId.{ArenaId}, Arenas.{State, Arena, arena_of, changed, word_in}}
use Rattle.fm_base.specs.{Calls.{Call, Read, Write, Reply, Fine, Found, Entry, entry_of}, Machine.{MayCall, reply_to, state_by, rounded_up, written}}
use Rattle.fm_base.{specs.{View.{View, Makes, Did, IsByItself}, Does.{DoesAct}}, proofs.Lookup.{KeepsName, changed_lookup, lookup_changed}}
use Rattle.fm_base.proofs.{Placing.{there_by_way}, Faith.{Makes-alone}}

abbrev pub words_of : View → ArenaId → List ℕ
words_of x id = (arena_of x.state id).words

SameGiven : Arena → Arena → Type 0
SameGiven a b = b.given ≡ a.given

-- a change that leaves the given count
same_given : (f : Arena → Arena) → KeepsName f → ((a : Arena) → (f a).given ≡ a.given) → (s : State) (id other : ArenaId)
    → (arena_of (changed s id f) other).given ≡ (arena_of s other).given
unfolding SameGiven
same_given f named same s id other = changed_lookup SameGiven f named (λ a. refl) s id (same (arena_of s id)) other

-- one call of the only caller: it was legal, with the machine's reply, and the state is what it leaves
pub record IsOnly (x y : View) (call : Call) (reply : Reply) : Type 0 where
  pub legal : MayCall x.state x.caller call
  pub reply_is : reply ≡ reply_to x.limit x.state call
  pub state : y.state ≡ state_by x.limit x.state x.caller call reply

pub only_one : (x y : View) (call : Call) (reply : Reply) → IsByItself x → Makes x y (entry_of x.caller call reply ∷ []) → IsOnly x y call reply
only_one x y call reply alone m =
    let r = Makes-alone x y _ alone m in
    record { legal = r.0.0; reply_is = r.0.1; state = r.1 }

pub only_act : (x y : View) (id : ArenaId) (f : ArenaId → Call) (reply : Reply) → IsByItself x → x.inside ≡ Some id
    → Did x y (DoesAct x.inside x.caller f reply) → IsOnly x y (f id) reply
only_act x y id f reply alone i d =
    let e : DoesAct (Some id) x.caller f reply d.own = rw i at d.does in
    only_one x y (f id) reply alone (subst (λ (es : List Entry). Makes x y es) e d.makes)

-- `load` finds the word, and changes nothing
pub record Loads (x y : View) (id : ArenaId) (word found : ℕ) : Type 0 where
  pub word_is : found ≡ slice_index (words_of x id) word
  pub same : y.state ≡ x.state

pub loaded_word : (x y : View) (id : ArenaId) (word found : ℕ) → IsByItself x → x.inside ≡ Some id
    → Did x y (DoesAct x.inside x.caller (λ a. Read a word) (Found found)) → Loads x y id word found
loaded_word x y id word found alone i d =
    let o = only_act x y id (λ a. Read a word) (Found found) alone i d in
    let e : Found found ≡ Found (word_in x.state id word) = o.reply_is in
    record { word_is = cc; same = o.state }

-- `store` puts the word
pub stored_words : (x y : View) (id : ArenaId) (word v : ℕ) → IsByItself x → x.inside ≡ Some id → Did x y (DoesAct x.inside x.caller (λ a. Write a word v) Fine)
    → words_of y id ≡ slice_set (words_of x id) word v
stored_words x y id word v alone i d =
    let o = only_act x y id (λ a. Write a word v) Fine alone i d in
    ap (λ (s : State). (arena_of s id).words) o.state
    ∙ ap (λ (a : Arena). a.words) (lookup_changed x.state id (written word v) (λ a. refl) (there_by_way x.state x.caller id o.legal.under_way))

-- `allocate` gives the place rounded up, and leaves the words
pub record Allots (x y : View) (id : ArenaId) (size align place : ℕ) : Type 0 where
  pub rounded : place ≡ rounded_up (arena_of x.state id).given align
  pub given : (arena_of y.state id).given ≡ place + size
  pub same : words_of y id ≡ words_of x id
