-- What runs of visits that put bytes do to an arena, whichever the steps are.
use Rattle.std.proofs.Common.{◌≡◌, inl, inr, ℕ, ◌+◌, ◌*◌, ◌/◌, ◌<◌, ◌≤◌, Bool, true, false, List, ◌++◌, length, take, drop, refl, sym, ap, subst, ◌∙◌, arith, length-append, ◌%◌, Ok, Err, None}
use Rattle.std.proofs.lemmas.{Bool.{cases_lt}, List.{drop_at, take-append-drop, Elements.{All-drop}}}
use Rattle.fm_base.specs.declared.{caller.Caller.{Caller}, arena_id.ArenaId.{ArenaId}, refusal.Refusal.{Refusal}}
use Rattle.fm_base.specs.{Arenas.{Alive, Arena, State, arena_of, has_arena, changed}, Calls.{Entry}, Histories.{IsLegal, state_after}, Machine.{entered}}
use Rattle.fm_base.{specs.{View.{View, Did, IsByItself, inside_after}, Visits.{Run, ends, goes_on, writes}}, proofs.{Faith.{Makes-alone}, Lookup.{changed_has}}}
use Rattle.fm_base.proofs.{Making.{IsLegal-split, state_after-append}, Running.{visit_ends_outside}}
use Rattle.fm_base_bytes.{specs.{Bytes.{AreBytes, number_of}, Words.{bytes_in}}, proofs.Words.{length-bytes_in}}
use Rattle.fm_segment_access.specs.Alone.{bytes_of_arena, with_bytes, ChangesBytes, StaysOut}
use Rattle.fm_segment_access.specs.{Ranges.{Putting, putting, PutsOn, EndsPutting, PutsBy, next_width, DoesPutBy}, Runs.{PutsWords, PutsMore}}
use Rattle.fm_segment_access.proofs.{Alone.{Puts, puts_none, puts_both, there, bytes_there, is_part, changes, shut_out}, Outside.{EndsOutside}}
use Rattle.fm_segment_access.proofs.{Splicing.{with_bytes-twice, keeps_count}, Visits.{VisitRefused, visit_refused, visit_is, visit_puts}}
use Rattle.fm_segment_access.proofs.Writing.{writes_leave}

-- the bytes that are to be put, if any, lie within the arena
abbrev pub EndWithin : State → ArenaId → Putting → Type 0
EndWithin s id x = 0 < length x.bytes → x.at + length x.bytes ≤ length (bytes_of_arena s id)

-- A run of puts changes the bytes, which lie within the arena, or stops as the arena isn't alive.
abbrev pub Leaves : State → State → ArenaId → Putting → Bool → Type 0
Leaves s t id x true = Puts s t id x.at x.bytes × EndWithin s id x
Leaves s t id x false = VisitRefused s t id

-- ---- one step

-- what one visit does: the first bytes stand in the arena, and the others are left
pub record StepLeaves (s t : State) (id : ArenaId) (x y : Putting) : Type 0 where
  pub first : List ℕ
  pub puts : Puts s t id x.at first
  pub room : x.at + length first ≤ length (bytes_of_arena s id)
  pub known : has_arena s id ≡ true
  pub alive : (arena_of s id).life ≡ Alive
  pub at : y.at ≡ x.at + length first
  pub all : x.bytes ≡ first ++ y.bytes

-- steps each of which does so, and ends outside
pub record ArePuts (Step : Caller → ArenaId → Putting → List Entry → Putting → Type 0) : Type 0 where
  pub leaves : (limit : ℕ) (c : Caller) (id : ArenaId) (s : State) (x y : Putting) (own : List Entry) → AreBytes x.bytes → Step c id x own y
      → IsLegal limit s own → StepLeaves s (state_after limit s own) id x y
  pub outside : (c : Caller) (id : ArenaId) (x y : Putting) (own : List Entry) → Step c id x own y → EndsOutside own

-- The bytes behind others.
pub left_bytes : (first rest all : List ℕ) → all ≡ first ++ rest → AreBytes all → AreBytes rest
left_bytes first rest all e are =
    subst AreBytes (ap (drop (length first)) e ∙ drop_at first rest (length first) refl) (All-drop (λ b. b < 256) (length first) all are)

-- One visit more, and the rest.
leaves_on : (s t u : State) (id : ArenaId) (x y : Putting) (done : Bool) → StepLeaves s t id x y → Leaves t u id y done → Leaves s u id x done
leaves_on s t u id x y false p more = absurd (more.over (ap (λ (a : Arena). a.life) (there p.known p.puts) ∙ p.alive))
leaves_on s t u id x y true p more =
    let all = bytes_of_arena s id in
    let at = p.at in
    let room = p.room in
    let same : length (bytes_of_arena t id) ≡ length (bytes_of_arena s id) =
    ap length (bytes_there p.known p.puts) ∙ keeps_count all p.first x.at p.room in
    let size : length x.bytes ≡ length p.first + length y.bytes = ap length p.all ∙ length-append p.first y.bytes in (
      puts_both p.known p.puts more.0
          (ap (λ k. with_bytes (with_bytes all x.at p.first) k y.bytes) p.at
          ∙ with_bytes-twice all x.at p.first y.bytes (omega arith)
          ∙ ap (with_bytes all x.at) (sym p.all)),
      λ some. elim (cases_lt 0 (length y.bytes)) [ inl left ↦ (let rest = more.1 left in omega arith) | inr none ↦ omega arith ],
    )

-- ---- a piece, and whole words

piece_leaves : (limit : ℕ) (c : Caller) (id : ArenaId) (s : State) (x y : Putting) (own : List Entry) → AreBytes x.bytes → PutsOn c id x own y
    → IsLegal limit s own → StepLeaves s (state_after limit s own) id x y
piece_leaves limit c id s x y own are step legal =
    let width = next_width x in
    let part = take width x.bytes in
    let v = number_of (take width x.bytes) in
    let all = bytes_of_arena s id in
    let fits : x.at % 8 + next_width x ≤ 8 = omega arith in
    let is = is_part x.bytes width v are (let some : next_width x ≤ length x.bytes = omega arith in some) refl in
    let put = visit_puts limit c s id x.at width v own step.piece fits is.small legal in
    let n : length (take (next_width x) x.bytes) ≡ next_width x = is.count in
    let within = put.within in
    record {
      first = part;
      puts = record {
        words = put.words;
        state = put.state;
        bytes = put.bytes ∙ ap (λ bs. take x.at all ++ (bs ++ drop (x.at + width) all)) is.are
            ∙ ap (λ k. take x.at all ++ (part ++ drop (x.at + k) all)) (sym n);
      };
      room = omega (arith, length-bytes_in (arena_of s id).words);
      known = put.known;
      alive = put.alive;
      at = step.at ∙ ap (λ k. x.at + k) (sym n);
      all = sym (take-append-drop width x.bytes) ∙ ap (λ bs. part ++ bs) (sym step.bytes);
    }

words_leave : (limit : ℕ) (c : Caller) (id : ArenaId) (s : State) (x y : Putting) (own : List Entry) → PutsWords c id x own y → IsLegal limit s own
    → StepLeaves s (state_after limit s own) id x y
words_leave limit c id s x y own p legal =
    let w = x.at / 8 in
    let inside = changed s id (entered c) in
    let acts = writes id w p.words in
    let v = visit_is limit c s id (writes id (x.at / 8) p.words) (subst (λ (es : List Entry). IsLegal limit s es) p.visits legal) in
    let put = writes_leave limit c (changed s id (entered c)) id (x.at / 8) p.words (changed_has (entered c) (λ a. refl) s id id ∙ v.known) v.legal in
    let even : 8 * (x.at / 8) ≡ x.at = (let k = p.even in omega arith) in
    let len : length (bytes_in p.words) ≡ 8 * length p.words = length-bytes_in p.words in
    let within : x.at / 8 + length p.words ≤ length (arena_of s id).words =
    subst (λ (ws : List ℕ). x.at / 8 + length p.words ≤ length ws) v.words (put.within p.some) in
    record {
      first = bytes_in p.words;
      puts = record {
        words = put.puts.words;
        state = ap (state_after limit s) p.visits ∙ v.leaves put.puts.words put.puts.state;
        bytes = put.puts.bytes
            ∙ ap (λ ws. with_bytes (bytes_in ws) (8 * w) (bytes_in p.words)) v.words
            ∙ ap (λ n. with_bytes (bytes_of_arena s id) n (bytes_in p.words)) even;
      };
      room = omega (arith, length-bytes_in (arena_of s id).words);
      known = v.known;
      alive = v.alive;
      at = p.at ∙ ap (λ n. x.at + n) (sym len);
      all = p.bytes;
    }

piece_outside : (c : Caller) (id : ArenaId) (x y : Putting) (own : List Entry) → PutsOn c id x own y → EndsOutside own
piece_outside c id x y own s = ap (inside_after None) s.piece.visits ∙ visit_ends_outside None c id s.piece.acts

-- Puts piece by piece.
pub pieces_put : ArePuts PutsOn
pieces_put = record { leaves = piece_leaves; outside = piece_outside }

more_leaves : (limit : ℕ) (c : Caller) (id : ArenaId) (s : State) (x y : Putting) (own : List Entry) → AreBytes x.bytes → PutsMore c id x own y
    → IsLegal limit s own → StepLeaves s (state_after limit s own) id x y
more_leaves limit c id s x y own are (inl p) legal = words_leave limit c id s x y own p legal
more_leaves limit c id s x y own are (inr p) legal = piece_leaves limit c id s x y own are p.piece legal

more_outside : (c : Caller) (id : ArenaId) (x y : Putting) (own : List Entry) → PutsMore c id x own y → EndsOutside own
more_outside c id x y own (inl p) = ap (inside_after None) p.visits ∙ visit_ends_outside None c id (writes id (x.at / 8) p.words)
more_outside c id x y own (inr p) = piece_outside c id x y own p.piece

-- Puts of whole words, and of pieces.
pub words_put : ArePuts PutsMore
words_put = record { leaves = more_leaves; outside = more_outside }

-- ---- runs

module _ {Step : Caller → ArenaId → Putting → List Entry → Putting → Type 0} (puts : ArePuts Step) where
  -- A run of puts puts just these bytes.
  puts_run : (limit : ℕ) (c : Caller) (id : ArenaId) (s : State) (x : Putting) (own : List Entry) (done : Bool) → AreBytes x.bytes
      → Run (Step c id) (EndsPutting c id) x own done → IsLegal limit s own → Leaves s (state_after limit s own) id x done
  puts_run limit c id s x own false are (ends e) legal = visit_refused limit c s id own e.1 legal
  puts_run limit c id s x own true are (ends e) legal =
      let none : length x.bytes ≡ 0 = ap length e.0 in
      rw e.1 (puts_none s id x.at x.bytes e.0, λ some. absurd (omega arith))
  puts_run limit c id s x own done are (goes_on y first rest step run) legal =
      let parts = IsLegal-split limit s first rest legal in
      let t = state_after limit s first in
      let p = puts.leaves limit c id s x y first are step parts.0 in
      let more = puts_run limit c id t y rest done (left_bytes p.first y.bytes x.bytes p.all are) run parts.1 in
      rw (state_after-append limit s first rest) (leaves_on s t (state_after limit t rest) id x y done p more)

  -- So does the only caller's, and they lie within the arena.
  pub puts_alone : (old now : View) (id : ArenaId) (place : ℕ) (bytes : List ℕ) (u : Unit {0}) → AreBytes bytes
      → Did old now (DoesPutBy Step old.caller id place bytes (Ok u)) → IsByItself old → Leaves old.state now.state id (putting place bytes) true
  puts_alone old now id place bytes u are d alone =
      let m = Makes-alone old now d.own alone d.makes in
      rw m.1 (puts_run old.limit old.caller id old.state (putting place bytes) d.own true are d.does.1 m.0)

  -- All others stay.
  pub put_alone : (old now : View) (id : ArenaId) (place : ℕ) (bytes : List ℕ) (u : Unit {0}) → AreBytes bytes → has_arena old.state id ≡ true
      → Did old now (DoesPutBy Step old.caller id place bytes (Ok u)) → IsByItself old → ChangesBytes old now id place bytes
  put_alone old now id place bytes u are known d alone = changes old now id place bytes known (puts_alone old now id place bytes u are d alone).0

  -- The only caller puts nothing where the arena isn't open to it.
  pub put_shut : (old now : View) (id : ArenaId) (place : ℕ) (bytes : List ℕ) (r : Refusal) → AreBytes bytes
      → Did old now (DoesPutBy Step old.caller id place bytes (Err r)) → IsByItself old → StaysOut old now id
  put_shut old now id place bytes r are d alone =
      shut_out old now id (λ es. PutsBy Step old.caller id place bytes es false) r alone
      (λ own run legal. puts_run old.limit old.caller id old.state (putting place bytes) own false are run legal) d
