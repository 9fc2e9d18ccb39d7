-- What a query answers, where its Reads found the bytes of one list.
use Rattle.std.proofs.Common.{◌≡◌, ℕ, ◌+◌, ◌-◌, ◌*◌, ◌/◌, ◌%◌, ◌<◌, ◌≤◌, Ok, List, [], length, drop, get_or, refl, sym, ap, ◌∙◌, arith}
use Rattle.std.proofs.lemmas.{Grind.{same_number_lists}, List.{length-drop, length-take-le, get_or-take, get_or-drop}}
use Rattle.std.proofs.lemmas.{List.FromFn.{get_or-map-range_with_len, length-map-range_with_len}, Nat.{div-add-mod'}}
use Rattle.fm_base.specs.{declared.caller.Caller.{Caller}, Arenas.{State, arena_of}, Calls.{Entry}}
use Rattle.fm_base_bytes.{specs.Words.{bytes_in, byte_of, byte_at}, proofs.{Words.{length-bytes_in, bytes_in-word}, Bytes.{get_or-bytes_of}}}
use Rattle.fm_segment_access.specs.Alone.{bytes_of_arena}
use Rattle.fm_segment.specs.{Alone.{bytes_of_region}, Region.{Region}}
use Rattle.fm_records_query.specs.Plan.{Plan}
use Rattle.fm_records.specs.{declared.found.Found.{Found}, Alone.{bytes_at_places}, Answers.{found_over, answer}, Bytes.{IsByteOf, IsAnswered}, Reads.{LiesIn}}
use Rattle.fm_records.{specs.Records.{pieces}, proofs.ReadingBytes.{records_of_bytes}}

-- as many records as the size has are within it
pub records_lie : (p : Plan) (s : Region) → LiesIn s s.first (s.size / p.size * p.size)
records_lie p s = record { from = omega arith; within = omega (arith, div-add-mod' s.size p.size) }

pub answer_of_bytes : (c : Caller) (p : Plan) (s : Region) (bytes : List ℕ) (a : List Found) (own : List Entry) → IsAnswered c p s bytes a own
    → a ≡ answer p bytes
answer_of_bytes c p s bytes a own h =
    let start : s.first - s.first ≡ 0 = omega arith in
    let records = h.does.records in
    records.added
    ∙ records_of_bytes c s bytes h.size p h.plan (s.size / p.size) s.first (found_over p []) records.given (Ok tt) own [] (records_lie p s) records.reads refl
    h.finds refl
    ∙ ap (λ n. found_over p (pieces (s.size / p.size) p.size (drop n bytes))) start
    ∙ ap (λ n. found_over p (pieces (n / p.size) p.size bytes)) (sym h.size)

-- ---- the bytes at places

pub length-places : (s : State) (r : Region) → length (bytes_at_places s r) ≡ r.size
length-places s r = length-map-range_with_len (byte_at (arena_of s r.arena).words) r.first r.size

pub get_or-places : (s : State) (r : Region) (k : ℕ) → k < r.size → get_or (bytes_at_places s r) k 0 ≡ byte_at (arena_of s r.arena).words (r.first + k)
get_or-places s r k below = get_or-map-range_with_len (byte_at (arena_of s r.arena).words) r.first r.size k (r.first + k) 0 below refl

-- those in a word are the word's
pub word_at_places : (s : State) (r : Region) (word at : ℕ) → IsByteOf r word at
    → byte_of (get_or (arena_of s r.arena).words word 0) at ≡ get_or (bytes_at_places s r) (8 * word + at - r.first) 0
word_at_places s r word at is =
    let words = (arena_of s r.arena).words in
    let from = is.from in
    let in_word = is.in_word in
    let below : 8 * word + at - r.first < r.size = omega (arith, from, is.below) in
    let back : r.first + (8 * word + at - r.first) ≡ 8 * word + at = omega (arith, from) in
    let by_word : (8 * word + at) / 8 ≡ word = omega (arith, in_word) in
    let by_byte : (8 * word + at) % 8 ≡ at = omega (arith, in_word) in
    sym (get_or-places s r (8 * word + at - r.first) below ∙ ap (byte_at words) back
    ∙ ap (λ w. byte_of (get_or words w 0) ((8 * word + at) % 8)) by_word ∙ ap (byte_of (get_or words word 0)) by_byte)

-- the byte at a place of words
get_or-bytes_in : (words : List ℕ) (place : ℕ) → place / 8 < length words → get_or (bytes_in words) place 0 ≡ byte_at words place
get_or-bytes_in words place below =
    let word = place / 8 in
    let at : 8 * (place / 8) + place % 8 ≡ place = omega arith in
    let short : place % 8 < 8 = omega arith in
    ap (λ n. get_or (bytes_in words) n 0) (sym at)
    ∙ sym (get_or-drop (8 * word) (bytes_in words) (place % 8) 0)
    ∙ sym (get_or-take 8 (drop (8 * word) (bytes_in words)) (place % 8) 0 short)
    ∙ ap (λ bs. get_or bs (place % 8) 0) (bytes_in-word words word below)
    ∙ get_or-bytes_of 8 (get_or words word 0) (place % 8) short

pub places_have : (s : State) (r : Region) → r.first + r.size ≤ length (bytes_of_arena s r.arena) → bytes_at_places s r ≡ bytes_of_region s r
places_have s r within =
    let words = (arena_of s r.arena).words in
    let bytes = bytes_in words in
    let room : r.size ≤ length (drop r.first (bytes_in (arena_of s r.arena).words)) = omega (arith, within, length-drop r.first bytes) in
    let long = length-places s r in
    same_number_lists (bytes_at_places s r) (bytes_of_region s r) (long ∙ sym (length-take-le r.size (drop r.first bytes) room))
    (λ k short.
    let below : k < r.size = omega (arith, short, long) in
    let there : (r.first + k) / 8 < length (arena_of s r.arena).words = omega (arith, below, within, length-bytes_in words) in
    get_or-places s r k below
    ∙ sym (get_or-take r.size (drop r.first bytes) k 0 below ∙ get_or-drop r.first bytes k 0 ∙ get_or-bytes_in words (r.first + k) there))
