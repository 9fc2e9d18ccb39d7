-- Bytes that are put stay below their end, be it piece by piece or with all whole words in one visit.
use Rattle.std.proofs.Common.{◌≡◌, inl, inr, ℕ, ◌+◌, ◌-◌, ◌*◌, ◌/◌, ◌%◌, ◌<◌, ◌≤◌, ◌==◌, suc, Result, List, [], ◌∷◌, length, take, refl, ap, ◌∙◌, arith, length-drop, length-append}
use Rattle.std.proofs.lemmas.List.Elements.{All-drop}
use Rattle.fm_base.specs.{declared.{caller.Caller.{Caller}, arena_id.ArenaId.{ArenaId}, refusal.Refusal.{Refusal}}, Calls.{Entry}, Visits.{writes}}
use Rattle.fm_base_bytes.{specs.{Bytes.{AreBytes, number_of}, Words.{bytes_in}}, proofs.Words.{length-bytes_in}}
use Rattle.fm_lanes.specs.{declared.{order.Order.{Order}, value.Value.{Value}, value_kind.ValueKind.{ValueKind}}, Coding.{bytes_of_value}, Kind.{width_of}}
use Rattle.fm_lanes.specs.Value.{kind_of}
use Rattle.fm_segment_access.{specs.{Ranges.{Putting, next_width, PutsOn, DoesPut, DoesPutBy}, Runs.{PutsWords, PutsMore, DoesPutAll}}, proofs.Alone.{is_part}}
use Rattle.fm_segment_access.proofs.{Keeping.{put_kept}, PuttingAlone.{left_bytes}, Values.{AreBytes-value, length-value}}
use Rattle.fm_segment_laws.proofs.Staying.{StayBelow, ActBelow, stay_unless, stay_visit, stay_puts, stay_kept}

-- bytes that end below a place
abbrev AreBelow : ℕ → Putting → Type 0
AreBelow end x = AreBytes x.bytes × (x.at + length x.bytes ≤ end)

part_stays : (c : Caller) (a : ArenaId) (end : ℕ) (x y : Putting) (own : List Entry) → AreBelow end x → PutsOn c a x own y
    → StayBelow a end own × AreBelow end y
part_stays c a end x y own h s =
    let fits : x.at % 8 + next_width x ≤ 8 = omega arith in
    let within : next_width x ≤ length x.bytes = omega arith in
    let left : length y.bytes ≡ length x.bytes - next_width x = ap length s.bytes ∙ length-drop (next_width x) x.bytes in
    let at = s.at in
    let below = h.1 in
    let part = is_part x.bytes (next_width x) (number_of (take (next_width x) x.bytes)) h.0 within refl in (
      stay_puts c a end x.at (next_width x) (number_of (take (next_width x) x.bytes)) own part.small fits (omega arith) s.piece,
      (rw s.bytes (All-drop (λ b. b < 256) (next_width x) x.bytes h.0), omega arith),
    )

-- ---- whole words

-- The words that are written end where their bytes do.
writes_below : (a : ArenaId) (end word : ℕ) (vs : List ℕ) → 8 * word + 8 * length vs ≤ end → ActBelow a end (writes a word vs)
writes_below a end word [] h = tt
writes_below a end word (v ∷ vs) h =
    let here : 8 * word + 8 ≤ end = omega arith in
    let next : 8 * suc word + 8 * length vs ≤ end = omega arith in
    ((refl, here), writes_below a end (suc word) vs next)

words_stay : (c : Caller) (a : ArenaId) (end : ℕ) (x y : Putting) (own : List Entry) → AreBelow end x → PutsWords c a x own y
    → StayBelow a end own × AreBelow end y
words_stay c a end x y own h s =
    let long : length (bytes_in s.words) ≡ 8 * length s.words = length-bytes_in s.words in
    let all : length x.bytes ≡ length (bytes_in s.words) + length y.bytes = ap length s.bytes ∙ length-append (bytes_in s.words) y.bytes in
    let even = s.even in
    let at = s.at in
    let below = h.1 in
    let within : 8 * (x.at / 8) + 8 * length s.words ≤ end = omega arith in (
      rw s.visits (stay_visit a end c a (writes a (x.at / 8) s.words) (writes_below a end (x.at / 8) s.words within)),
      (left_bytes (bytes_in s.words) y.bytes x.bytes s.bytes h.0, omega arith),
    )

more_stays : (c : Caller) (a : ArenaId) (end : ℕ) (x y : Putting) (own : List Entry) → AreBelow end x → PutsMore c a x own y
    → StayBelow a end own × AreBelow end y
more_stays c a end x y own h (inl p) = words_stay c a end x y own h p
more_stays c a end x y own h (inr p) = part_stays c a end x y own h p.piece

-- ---- all bytes

module _ (c : Caller) (a : ArenaId) (end place : ℕ) (bytes : List ℕ) (result : Result (Unit {0}) Refusal) (own : List Entry) (are : AreBytes bytes)
    (h : place + length bytes ≤ end) where
  -- Bytes that are put piece by piece.
  pub put_stays : DoesPut c a place bytes result own → StayBelow a end own
  put_stays d = put_kept (stay_kept a end c) a PutsOn (AreBelow end) (part_stays c a end) place bytes result own (are, h) d

  -- Bytes that are put with all whole words in one visit.
  pub put_all_stays : DoesPutAll c a place bytes result own → StayBelow a end own
  put_all_stays d =
      stay_unless a end (length bytes == 0) result own (DoesPutBy PutsMore c a place bytes result own)
      (λ x. put_kept (stay_kept a end c) a PutsMore (AreBelow end) (more_stays c a end) place bytes result own (are, h) x) d

-- A value.
pub value_stays : (c : Caller) (a : ArenaId) (end place : ℕ) (k : ValueKind) (o : Order) (v : Value) (result : Result (Unit {0}) Refusal) (own : List Entry)
    → kind_of v ≡ k → place + width_of k ≤ end → DoesPut c a place (bytes_of_value o v) result own → StayBelow a end own
value_stays c a end place k o v result own is h d =
    let len : length (bytes_of_value o v) ≡ width_of k = length-value o v ∙ ap width_of is in
    put_stays c a end place (bytes_of_value o v) result own (AreBytes-value o v) (omega arith) d
