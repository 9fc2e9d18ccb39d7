-- A range that is filled with one byte.
use Rattle.std.proofs.Common.{◌≡◌, ℕ, ◌+◌, ◌-◌, ◌*◌, ◌<◌, ◌≤◌, take, drop, replicate, sym, ap, ◌∙◌, arith, None, Ok}
use Rattle.std.proofs.lemmas.List.{length-replicate, take-replicate, drop-replicate, Elements.{All-replicate}}
use Rattle.fm_base.specs.{declared.arena_id.ArenaId.{ArenaId}, View.{View, Did}, Visits.{piece_width}}
use Rattle.fm_base_bytes.{specs.Bytes.{AreBytes, bytes_of, number_of, lane}, proofs.Bytes.{bytes_of-number_of, lane-number_of}}
use Rattle.fm_segment_access.{specs.{Pieces.{DoesPutPiece}, Ranges.{PutsOn}}, proofs.Putting.{IsPutting, put_starts, puts_piece_on}}

-- Copies of a byte are bytes.
pub AreBytes-replicate : (n byte : ℕ) → byte < 256 → AreBytes (replicate n byte)
AreBytes-replicate n byte h = All-replicate (λ b. b < 256) n byte h

-- Eight copies of a byte, as a word.
pub eight_copies : (byte : ℕ) → byte < 256 → bytes_of 8 (byte * 72340172838076673) ≡ replicate 8 byte
eight_copies byte h =
    let e : number_of (replicate 8 byte) ≡ byte * 72340172838076673 = omega arith in
    ap (bytes_of 8) (sym e) ∙ bytes_of-number_of (replicate 8 byte) (AreBytes-replicate 8 byte h)

-- The first bytes of a word of copies are the next copies.
pub copies : (word width byte left size : ℕ) → bytes_of 8 word ≡ replicate 8 byte → width ≤ 8 → left + width ≤ size
    → lane word 0 width ≡ number_of (take width (drop left (replicate size byte)))
copies word width byte left size e h fits =
    let in_word : 0 + width ≤ 8 = omega arith in
    let few : width ≤ size - left = omega arith in
    lane-number_of 8 0 width word in_word
    ∙ ap (λ bs. number_of (take width bs)) e
    ∙ ap number_of (take-replicate width 8 byte h ∙ sym (ap (take width) (drop-replicate left size byte) ∙ take-replicate width (size - left) byte few))

-- One piece more is filled.
pub fills_on : {old now next : View} {id : ArenaId} {place at : ℕ} (size byte : ℕ) → IsPutting PutsOn old now id place (place + size) (replicate size byte) at
    → (word width v : ℕ) → bytes_of 8 word ≡ replicate 8 byte → at < place + size → width ≡ piece_width at (place + size) → v ≡ lane word 0 width
    → next.inside ≡ None → Did now next (DoesPutPiece now.caller id at width v (Ok tt))
    → IsPutting PutsOn old next id place (place + size) (replicate size byte) (at + width)
fills_on {place = place} {at = at} size byte p word width v e more w is out d =
    let above = p.above in
    puts_piece_on p width v more w (is ∙ copies word width byte (at - place) size e (omega arith) (omega arith)) out d

-- The start and a step of a loop that fills.
pub ruleset puts_copies = (put_starts, puts_piece_on, length-replicate, copies)
