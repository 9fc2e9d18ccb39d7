-- A number that is read, in one piece or in two.
use Rattle.std.proofs.Common.{◌≡◌, ℕ, ◌+◌, ◌*◌, ◌%◌, ◌^◌, ◌<◌, ◌≤◌, List, [], ◌++◌, length, refl, sym, ap, ◌∙◌, subst, arith, Some, None, Result, Ok, Err}
use Rattle.std.proofs.{Math.Pow.{pow_mono}, lemmas.Nat.{shl_whole}}
use Rattle.fm_base.specs.{declared.{caller.Caller.{Caller}, arena_id.ArenaId.{ArenaId}, refusal.Refusal.{Refusal}}, Calls.{Entry}, Does.{DoesEnter}}
use Rattle.fm_base.specs.{View.{View, Did}, Visits.{piece_width}}
use Rattle.fm_base_bytes.{specs.Bytes.{bytes_of, number_of}, proofs.Bytes.{lane-lt, length-bytes_of, number_of-append, number_of-bytes_of, pow_bytes}}
use Rattle.fm_segment_access.specs.{Pieces.{ReadsPiece, DoesGetPiece}, Ranges.{Reading, ReadsOn, EndsReading, DoesGet}}
use Rattle.fm_segment_access.proofs.{Going.{Going, going_start, going_more, going_done, going_refused}, Touching.{said}}

abbrev reading : ℕ → List ℕ → Reading
reading at bytes = record { at = at; bytes = bytes }

-- a call that reads up to `end`, as far as it has come
abbrev Gets : View → View → ArenaId → ℕ → ℕ → ℕ → List ℕ → List Entry → Type 0
Gets old now id place end at bytes own =
    Going (ReadsOn old.caller id end) (EndsReading old.caller id end) old now id (reading place []) (reading at bytes) own

-- the number of a piece fits its width
piece_fits : (now next : View) (id : ArenaId) (at width v : ℕ) → Did now next (DoesGetPiece now.caller id at width (Ok v)) → v < 2 ^ (8 * width)
piece_fits now next id at width v d = let p = d.does.1 in rw p.value (lane-lt p.word _ width)

get_starts : (old : View) (id : ArenaId) (place end : ℕ) → Gets old old id place end place [] []
get_starts old id place end = going_start (ReadsOn old.caller id end) (EndsReading old.caller id end) old id (reading place [])

module _ {old now : View} {id : ArenaId} {place end at : ℕ} {bytes : List ℕ} {own : List Entry} (g : Gets old now id place end at bytes own) where
  -- One piece more was read.
  gets_on : {next : View} (width v : ℕ) → at < end → width ≡ piece_width at end → (d : Did now next (DoesGetPiece now.caller id at width (Ok v)))
      → Gets old next id place end (at + width) (bytes ++ bytes_of width v) (own ++ d.own)
  gets_on width v more w d =
      let same = subst (λ (c : Caller). ReadsPiece c id at width v d.own) g.makes.same_caller d.does.1 in
      going_more g (reading (at + width) (bytes ++ bytes_of width v)) d.does.0 d.makes (record {
        v = v;
        more = more;
        piece = subst (λ (k : ℕ). ReadsPiece old.caller id at k v d.own) w same;
        at = ap (λ n. at + n) w;
        bytes = ap (λ n. bytes ++ bytes_of n v) w;
      })

-- All is read.
gets_all : {old now : View} {id : ArenaId} {place at : ℕ} {bytes : List ℕ} {own : List Entry} (width n : ℕ) → Gets old now id place (place + width) at bytes own
    → at ≡ place + width → 0 < width → n ≡ number_of bytes → Did old now (DoesGet old.caller id place width (Ok n))
gets_all {place = place} {at} {bytes} width n g last some e =
    let begun : ¬ (reading at bytes ≡ reading place []) = λ same. let here : at ≡ place = ap (λ (x : Reading). x.at) same in absurd (omega arith) in
    said _ _ _ _ (λ own d. (d.0, record { bytes = bytes; visits = d.1; value = e })) (going_done g (Some bytes) begun (last, refl, refl))

-- A number that lies in one word.
pub got_one : {old now : View} (id : ArenaId) (place width : ℕ) (result : Result ℕ Refusal) → 0 < width → place % 8 + width ≤ 8
    → Did old now (DoesGetPiece old.caller id place width result) → Did old now (DoesGet old.caller id place width result)
got_one {old} {now} id place width (Ok v) some fits d =
    let more : place < place + width = omega arith in
    let whole : width ≡ piece_width place (place + width) = omega arith in
    let g = gets_on (get_starts old id place (place + width)) width v more whole d in
    gets_all width v g refl some (sym (number_of-bytes_of width v (piece_fits old now id place width v d)))
got_one {old} id place width (Err r) some fits d =
    let more : place < place + width = omega arith in
    going_refused (get_starts old id place (place + width)) None r (more, refl) d

-- a piece behind others keeps its bits where it is moved to, and the sum fits a word
pub record IsPlaced (value v shift : ℕ) : Type 0 where
  pub whole : v * 2 ^ shift % 2 ^ 64 ≡ v * 2 ^ shift
  pub fits : value + v * 2 ^ shift < 2 ^ 64

-- Lower bytes and upper ones behind them together are below what all of them can be.
pub below_behind : (m v n k : ℕ) → m < 2 ^ (8 * n) → v < 2 ^ (8 * k) → m + v * 2 ^ (8 * n) < 2 ^ (8 * (n + k))
below_behind m v n k p q = rw (pow_bytes n k) (grind arith)

-- A number that crosses a word's end: the pieces before and behind it.
module _ {x y : View} (id : ArenaId) (place first rest : ℕ) (across : place % 8 + first ≡ 8) (some : 0 < rest) (few : first + rest ≤ 8) where
  -- The first is refused.
  pub got_none : (r : Refusal) → 0 < first → Did x y (DoesEnter x.caller id (Err r)) → Did x y (DoesGet x.caller id place (first + rest) (Err r))
  got_none r begins d =
      let more : place < place + (first + rest) = omega arith in
      going_refused (get_starts x id place (place + (first + rest))) None r (more, refl) d

  module _ (low : ℕ) (d : Did x y (DoesGetPiece x.caller id place first (Ok low))) where
    got_first : 0 < first → Gets x y id place (place + (first + rest)) (place + first) (bytes_of first low) d.own
    got_first begins =
        let more : place < place + (first + rest) = omega arith in
        let whole : first ≡ piece_width place (place + (first + rest)) = omega arith in
        gets_on (get_starts x id place (place + (first + rest))) first low more whole d

    -- The second is refused.
    pub got_half : {z : View} (r : Refusal) → 0 < first → Did y z (DoesEnter y.caller id (Err r)) → Did x z (DoesGet x.caller id place (first + rest) (Err r))
    got_half r begins e =
        let more : place + first < place + (first + rest) = omega arith in
        going_refused (got_first begins) None r (more, refl) e

    module _ {z : View} (high : ℕ) (e : Did y z (DoesGetPiece y.caller id (place + first) rest (Ok high))) where
      pub pieces_placed : IsPlaced low high (8 * first)
      pieces_placed =
          let small = piece_fits y z id (place + first) rest high e in
          let sum = below_behind low high first rest (piece_fits x y id place first low d) small in
          let up : 2 ^ (8 * (first + rest)) ≤ 2 ^ 64 = (let le : 8 * (first + rest) ≤ 64 = omega arith in pow_mono le) in
          record { whole = shl_whole high (8 * rest) (8 * first) 64 small (omega arith); fits = omega arith }

      pub got_two : 0 < first → Did x z (DoesGet x.caller id place (first + rest) (Ok (low + high * 2 ^ (8 * first))))
      got_two begins =
          let more : place + first < place + (first + rest) = omega arith in
          let whole : rest ≡ piece_width (place + first) (place + (first + rest)) = omega arith in
          let last : place + first + rest ≡ place + (first + rest) = omega arith in
          let all : 0 < first + rest = omega arith in
          let g = gets_on (got_first begins) rest high more whole e in
          let len : length (bytes_of first low) ≡ first = length-bytes_of first low in
          let number : low + high * 2 ^ (8 * first) ≡ number_of (bytes_of first low ++ bytes_of rest high) =
          sym (number_of-append (bytes_of first low) (bytes_of rest high)
          ∙ rw (
            number_of-bytes_of first low (piece_fits x y id place first low d),
            len,
            number_of-bytes_of rest high (piece_fits y z id (place + first) rest high e),
          ) (omega arith)) in
          gets_all (first + rest) (low + high * 2 ^ (8 * first)) g last all number
