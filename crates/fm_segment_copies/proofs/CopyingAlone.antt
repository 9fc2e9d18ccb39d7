-- What the only caller leaves by a copy.
use Rattle.std.proofs.Common.{◌≡◌, ◌≢◌, ◌⊎◌, inl, inr, ℕ, ◌+◌, ◌-◌, ◌*◌, ◌/◌, ◌%◌, ◌^◌, ◌<◌, ◌≤◌, Bool, true, false, List, [], ◌++◌, length, take, drop, refl, sym, ap, subst, ◌∙◌, arith, Ok}
use Rattle.std.proofs.lemmas.{Bool.{cases_lt}, List.{length-drop, length-take-le}}
use Rattle.fm_base.specs.{declared.{caller.Caller.{Caller}, arena_id.ArenaId.{ArenaId}}, Arenas.{Arena, State, arena_of, changed, has_arena, same_id}, Calls.{Entry}}
use Rattle.fm_base.specs.{Histories.{IsLegal, state_after}, View.{View, Did, IsByItself}, Visits.{Run, ends, goes_on, first_width, last_width}}
use Rattle.fm_base.proofs.{Faith.{Makes-alone}, Lookup.{changed_lookup}, Making.{IsLegal-split, state_after-append}, Names.{same_id-self, same_id-true}}
use Rattle.fm_base_bytes.{specs.{Bytes.{bytes_of}, Words.{bytes_in}}, proofs.{Bytes.{length-bytes_of, lane-lt}, Words.{length-bytes_in}}}
use Rattle.fm_segment_access.specs.Alone.{bytes_of_arena, with_bytes, with_words}
use Rattle.fm_segment_access.proofs.{Alone.{Puts, puts_none, puts_both, bytes_there, other_bytes, changes}, Splicing.{keeps_elsewhere}}
use Rattle.fm_segment_access.proofs.Visits.{visit_reads, visit_puts, with_number}
use Rattle.fm_segment_copies.specs.{declared.side.{Side.{Side}, Piece.{Piece}, Way.{Way, TheVariants.{Up, Down}}}, Alone.{bytes_at, TakesBytes}}
use Rattle.fm_segment_copies.specs.{Sides.{IsWay, IsPieceAt, next_piece}, Copies.{CopiesPiece, CopiesOn, EndsCopy, Copies, DoesCopy}}
use Rattle.fm_segment_copies.proofs.{Fitting.{next_piece_fits}, Overlaps.{all_found, copied_up, copied_down, found_within}}
use Rattle.fm_segment_copies.proofs.Refusing.{AreAlive, AreShut, both_legal, piece_refused}

-- so many bytes of an arena, from the place on
abbrev pub bytes_from : State → ArenaId → ℕ → ℕ → List ℕ
bytes_from s id from count = take count (drop from (bytes_of_arena s id))

-- ---- one piece

-- a piece that was copied
pub record IsCopied (s t : State) (a b : Side) (p : Piece) : Type 0 where
  pub known : has_arena s b.arena ≡ true
  pub puts : Puts s t b.arena (b.at + p.offset) (bytes_from s a.arena (a.at + p.offset) p.width)
  pub room : a.at + p.offset + p.width ≤ length (bytes_of_arena s a.arena)
  pub within : b.at + p.offset + p.width ≤ length (bytes_of_arena s b.arena)
  pub count : length (bytes_from s a.arena (a.at + p.offset) p.width) ≡ p.width

-- A number that was read of one arena is put into another.
pub number_copied : (s t : State) (a b : Side) (p : Piece) (v : ℕ) (words : List ℕ) → IsPieceAt a b p → has_arena s b.arena ≡ true
    → bytes_of p.width v ≡ bytes_from s a.arena (a.at + p.offset) p.width → t ≡ changed s b.arena (with_words words)
    → bytes_in words ≡ with_number (bytes_of_arena s b.arena) (b.at + p.offset) p.width v → (b.at + p.offset) / 8 < length (arena_of s b.arena).words
    → IsCopied s t a b p
number_copied s t a b p v words fits known read state put word =
    let from = a.at + p.offset in
    let to = b.at + p.offset in
    let target = bytes_of_arena s b.arena in
    let count : length (bytes_from s a.arena (a.at + p.offset) p.width) ≡ p.width = ap length (sym read) ∙ length-bytes_of p.width v in
    record {
      known = known;
      puts = record {
        words = words;
        state = state;
        bytes = put
            ∙ ap (λ bs. take to target ++ (bs ++ drop (to + p.width) target)) read
            ∙ ap (λ n. take to target ++ (bytes_from s a.arena from p.width ++ drop (to + n) target)) (sym count);
      };
      room = found_within (bytes_of_arena s a.arena) from p.width fits.some count;
      within = (let w = word in let f = fits.within_target in let l = length-bytes_in (arena_of s b.arena).words in omega arith);
      count = count;
    }

-- A piece that the only caller copies: what was read is put.
piece_copied : (limit : ℕ) (c : Caller) (s : State) (a b : Side) (p : Piece) (own : List Entry) → CopiesPiece c a b p own → IsPieceAt a b p
    → IsLegal limit s own
    → IsCopied s (state_after limit s own) a b p × AreAlive s a b
piece_copied limit c s a b p own q fits legal =
    let from = a.at + p.offset in
    let to = b.at + p.offset in
    let parts = both_legal limit s own q.reading q.putting q.visits legal in
    let read = visit_reads limit c s a.arena from p.width q.v q.reading q.reads fits.within_source parts.first in
    let small : q.v < 2 ^ (8 * p.width) = rw q.reads.value (lane-lt q.reads.word (from % 8) p.width) in
    let put = visit_puts limit c s b.arena to p.width q.v q.putting q.puts fits.within_target small (parts.rest read.same) in (
      number_copied s (state_after limit s own) a b p q.v put.words fits put.known read.value (parts.after read.same ∙ put.state) put.bytes put.within,
      (read.alive, put.alive),
    )

-- Arenas between which a piece was copied are alive after it.
still_alive : (s t : State) (a b : Side) (p : Piece) → IsCopied s t a b p → AreAlive s a b → AreAlive t a b
still_alive s t a b p q alive =
    let SameLife : Arena → Arena → Type 0 = λ x y. y.life ≡ x.life in
    let stays : (id : ArenaId) → (arena_of t id).life ≡ (arena_of s id).life = λ id. ap (λ (u : State). (arena_of u id).life) q.puts.state
    ∙ changed_lookup SameLife (with_words q.puts.words) (λ x. refl) (λ x. refl) s b.arena refl id in
    (stays a.arena ∙ alive.0, stays b.arena ∙ alive.1)

-- ---- the bytes that are still to be read

-- Two arenas are the same or not.
same_or_other : (i j : ArenaId) → (i ≡ j) ⊎ (i ≢ j)
same_or_other i j =
    let P : Bool → Type 0 = λ b. same_id i j ≡ b → (i ≡ j) ⊎ (i ≢ j) in
    let go : (b : Bool) → P b = λ b. elim b as P [
      | true ↦ (λ e. inl (same_id-true i j e))
      | false ↦ (λ e. inr (λ is. let yes : same_id i j ≡ true = subst (λ (k : ArenaId). same_id i k ≡ true) is (same_id-self i) in absurd (cc)))
    ] in
    go (same_id i j) refl

-- The bytes of the source stay, but where the piece was put.
stays_elsewhere : (s t : State) (a b : Side) (p : Piece) (at size : ℕ) → IsCopied s t a b p
    → (a.arena ≡ b.arena → (at + size ≤ b.at + p.offset) ⊎ (b.at + p.offset + p.width ≤ at))
    → bytes_from t a.arena at size ≡ bytes_from s a.arena at size
stays_elsewhere s t a b p at size q apart =
    let place = b.at + p.offset in
    let bytes = bytes_from s a.arena (a.at + p.offset) p.width in
    let Stays : ArenaId → Type 0 = λ i. bytes_from t i at size ≡ bytes_from s i at size in
    let n : length (bytes_from s a.arena (a.at + p.offset) p.width) ≡ p.width = q.count in
    let w : b.at + p.offset + p.width ≤ length (bytes_of_arena s b.arena) = q.within in
    let fits : b.at + p.offset + length (bytes_from s a.arena (a.at + p.offset) p.width) ≤ length (bytes_of_arena s b.arena) = omega arith in
    elim (same_or_other a.arena b.arena) as (λ _. bytes_from t a.arena at size ≡ bytes_from s a.arena at size) [
      | inl same ↦
          let beside : (at + size ≤ b.at + p.offset) ⊎ (b.at + p.offset + length (bytes_from s a.arena (a.at + p.offset) p.width) ≤ at) =
          elim (apart same) [ inl below ↦ inl below | inr behind ↦ inr (omega arith) ] in
          subst Stays (sym same)
          (ap (λ bs. take size (drop at bs)) (bytes_there q.known q.puts) ∙ keeps_elsewhere (bytes_of_arena s b.arena) bytes place at size fits beside)
      | inr other ↦ ap (λ bs. take size (drop at bs)) (other_bytes q.known q.puts a.arena other)
    ]

-- Upwards, the bytes behind the piece stay in the source.
stays_behind : (s t : State) (a b : Side) (p : Piece) (size : ℕ) → IsWay a b Up → IsCopied s t a b p
    → bytes_from t a.arena (a.at + p.offset + p.width) size ≡ bytes_from s a.arena (a.at + p.offset + p.width) size
stays_behind s t a b p size up q =
    stays_elsewhere s t a b p (a.at + p.offset + p.width) size q
    (λ same. elim (cases_lt a.at b.at) [ inl below ↦ absurd (up (same, below)) | inr above ↦ inr (omega arith) ])

-- Downwards, the bytes below the piece stay in the source.
stays_below : (s t : State) (a b : Side) (p : Piece) (size : ℕ) → IsWay a b Down → size ≤ p.offset → IsCopied s t a b p
    → bytes_from t a.arena a.at size ≡ bytes_from s a.arena a.at size
stays_below s t a b p size down h q =
    let higher : a.at < b.at = down.1 in
    stays_elsewhere s t a b p a.at size q (λ same. inl (omega arith))

-- ---- all pieces

-- all bytes of the source from one place on, so many, were put at another
pub record AllPut (s t : State) (a b : ArenaId) (from to count : ℕ) : Type 0 where
  pub all : length (bytes_from s a from count) ≡ count
  pub puts : Puts s t b to (bytes_from s a from count)

-- what a copy of the last or the first `left` bytes leaves
abbrev pub Leaves : Way → State → State → Side → Side → ℕ → ℕ → Type 0
Leaves Up s t a b count left = AllPut s t a.arena b.arena (a.at + (count - left)) (b.at + (count - left)) left
Leaves Down s t a b count left = AllPut s t a.arena b.arena a.at b.at left

-- Nothing more is put.
none_put : (s : State) (a b : ArenaId) (from to left : ℕ) → left ≡ 0 → AllPut s s a b from to left
none_put s a b from to left e =
    let none : bytes_from s a from left ≡ [] = ap (bytes_from s a from) e in
    record { all = ap length none ∙ sym e; puts = puts_none s b to (bytes_from s a from left) none }

-- Where no byte is left, all are put.
pub leaves_end : (way : Way) (s : State) (a b : Side) (count left : ℕ) → left ≡ 0 → Leaves way s s a b count left
leaves_end Up s a b count left e = none_put s a.arena b.arena (a.at + (count - left)) (b.at + (count - left)) left e
leaves_end Down s a b count left e = none_put s a.arena b.arena a.at b.at left e

-- One piece more, and the rest.
pub leaves_on : (way : Way) (s t u : State) (a b : Side) (count left next : ℕ) → IsWay a b way → 0 < left → left ≤ count
    → next ≡ left - (next_piece way a b count left).width
    → IsCopied s t a b (next_piece way a b count left) → Leaves way t u a b count next → Leaves way s u a b count left
leaves_on Up s t u a b count left next way some h e q more =
    let w = first_width (a.at + (count - left)) (b.at + (count - left)) left in
    let S = bytes_of_arena s a.arena in
    let T = bytes_of_arena s b.arena in
    let from = a.at + (count - left) in
    let to = b.at + (count - left) in
    let room : w ≤ left = (next_piece_fits Up a b count left some h).room in
    let e_to : b.at + (count - next) ≡ b.at + (count - left) + w = omega arith in
    let e_from : a.at + (count - next) ≡ a.at + (count - left) + w = omega arith in
    let sum : w + next ≡ left = omega arith in
    let behind = ap (λ n. bytes_from t a.arena n next) e_from ∙ stays_behind s t a b (next_piece Up a b count left) next way q in
    let room_to : b.at + (count - left) ≤ length (bytes_of_arena s b.arena) = (let k = q.within in omega arith) in
    record {
      all = all_found S from w next left sum q.room (ap length (sym behind) ∙ more.all);
      puts = puts_both q.known q.puts more.puts
          (ap (λ n. with_bytes (with_bytes T to (take w (drop from S))) n (bytes_from t a.arena (a.at + (count - next)) next)) e_to
          ∙ copied_up S T from to w next (bytes_from t a.arena (a.at + (count - next)) next) room_to q.count behind
          ∙ ap (λ n. with_bytes T to (take n (drop from S))) sum);
    }
leaves_on Down s t u a b count left next way some h e q more =
    let w = last_width a.at b.at left in
    let S = bytes_of_arena s a.arena in
    let T = bytes_of_arena s b.arena in
    let room : w ≤ left = (next_piece_fits Down a b count left some h).room in
    let sum : next + w ≡ left = omega arith in
    let wide = rw (← e) at q.count in
    let stays = stays_below s t a b (next_piece Down a b count left) next way (omega arith) q in
    let within : b.at + next + w ≤ length (bytes_of_arena s b.arena) = (let k = q.within in omega arith) in
    let source : left ≤ length (drop a.at (bytes_of_arena s a.arena)) = (let k = q.room in omega (arith, length-drop a.at (bytes_of_arena s a.arena))) in
    let next_found = length-take-le next (drop a.at S) (omega arith) in
    record {
      all = length-take-le left (drop a.at S) source;
      puts = puts_both q.known (rw (← e) at q.puts) more.puts
          (copied_down S T a.at b.at w next (bytes_from t a.arena a.at next) within next_found wide stays
          ∙ ap (λ n. with_bytes T b.at (take n (drop a.at S))) sum);
    }

-- A copy is whole, or stops as one of the arenas isn't alive.
abbrev Ends : Bool → Way → State → State → Side → Side → ℕ → ℕ → Type 0
Ends true way s t a b count left = Leaves way s t a b count left
Ends false way s t a b count left = AreShut s t a b

-- The end of a copy.
copy_ends : (limit : ℕ) (c : Caller) (a b : Side) (count : ℕ) (way : Way) (s : State) (left : ℕ) (own : List Entry) (whole : Bool) → left ≤ count
    → EndsCopy c a b count way left own whole → IsLegal limit s own → Ends whole way s (state_after limit s own) a b count left
copy_ends limit c a b count way s left own false h e legal =
    piece_refused limit c s a b (next_piece way a b count left) own e.1 (next_piece_fits way a b count left e.0 h).at legal
copy_ends limit c a b count way s left own true h e legal = rw e.1 (leaves_end way s a b count left e.0)

-- One piece more, and the end.
ends_on : (whole : Bool) (way : Way) (s t u : State) (a b : Side) (count left next : ℕ) → IsWay a b way → 0 < left → left ≤ count
    → next ≡ left - (next_piece way a b count left).width
    → IsCopied s t a b (next_piece way a b count left) → AreAlive s a b → Ends whole way t u a b count next → Ends whole way s u a b count left
ends_on true way s t u a b count left next is some h e q alive more = leaves_on way s t u a b count left next is some h e q more
ends_on false way s t u a b count left next is some h e q alive more = absurd (more.over (still_alive s t a b (next_piece way a b count left) q alive))

-- A copy leaves in the target what stood in the source before.
copy_run : (limit : ℕ) (c : Caller) (a b : Side) (count : ℕ) (way : Way) → IsWay a b way → (s : State) (left : ℕ) (own : List Entry) (whole : Bool)
    → left ≤ count
    → Run (CopiesOn c a b count way) (EndsCopy c a b count way) left own whole → IsLegal limit s own
    → Ends whole way s (state_after limit s own) a b count left
copy_run limit c a b count way is s left own whole h (ends e) legal = copy_ends limit c a b count way s left own whole h e legal
copy_run limit c a b count way is s left own whole h (goes_on next one rest step run) legal =
    let parts = IsLegal-split limit s one rest legal in
    let t = state_after limit s one in
    let q = piece_copied limit c s a b (next_piece way a b count left) one step.piece (next_piece_fits way a b count left step.more h).at parts.0 in
    let more = copy_run limit c a b count way is t next rest whole (let e = step.then in omega arith) run parts.1 in
    rw (state_after-append limit s one rest) (ends_on whole way s t (state_after limit t rest) a b count left next is step.more h step.then q.0 q.1 more)

-- ---- the call

-- What a copy of all bytes leaves.
pub all_put : (way : Way) (s t : State) (a b : Side) (count : ℕ) → Leaves way s t a b count count → AllPut s t a.arena b.arena a.at b.at count
all_put Down s t a b count l = l
all_put Up s t a b count l =
    let none : count - count ≡ 0 = omega arith in
    let same : (n : ℕ) → n + 0 ≡ n = λ n. omega arith in
    rw (none, same a.at, same b.at) at l

-- The only caller copies what stood in the source before.
pub copy_alone : (old new : View) (a b : Side) (count : ℕ) (u : Unit {0}) → has_arena old.state b.arena ≡ true
    → Did old new (DoesCopy old.caller a b count (Ok u)) → IsByItself old → TakesBytes old new a b count
copy_alone old new a b count u known d alone =
    let m = Makes-alone old new d.own alone d.makes in
    let way = d.does.way in
    let run = copy_run old.limit old.caller a b count way d.does.is_way old.state count d.own true (omega arith) d.does.visits m.0 in
    let all = all_put way old.state new.state a b count (rw m.1 run) in
    record { all = all.all; bytes = changes old new b.arena b.at (bytes_at old.state a count) known all.puts }

-- A copy that stops.
pub copy_stops : (old : View) (a b : Side) (count : ℕ) (own : List Entry) → Copies old.caller a b count own false → IsLegal old.limit old.state own
    → AreShut old.state (state_after old.limit old.state own) a b
copy_stops old a b count own d legal = copy_run old.limit old.caller a b count d.way d.is_way old.state count own false (omega arith) d.visits legal
