-- Bytes that are read as words, some at a time.
use Rattle.std.{proofs.Common.{◌≡◌, ℕ, ◌+◌, ◌-◌, ◌*◌, ◌<◌, ◌≤◌, List, ◌++◌, length, take, drop, ◌∙◌, arith}, specs.Prelude.{slice_index}}
use Rattle.std.proofs.lemmas.List.{length-drop, take_at}
use Rattle.byteorder.specs.Endian.{little_number}
use Rattle.fm_base_bytes.specs.Words.{words_from}
use Rattle.fm_lanes.proofs.Reading.{whole_words}

-- the words of the bytes behind k words, as the first of a buffer hold them
pub words_read : (bytes dst buffer : List ℕ) (k n : ℕ) → length dst ≡ n → 8 * (k + n) ≤ length bytes
    → ((i : ℕ) → i < length dst → slice_index dst i ≡ little_number 8 (drop (8 * i) (take (8 * (k + n) - 8 * k) (drop (8 * k) bytes))))
    → take n (dst ++ drop n buffer) ≡ words_from n (drop (8 * k) bytes)
words_read bytes dst buffer k n size fits each =
    let e : 8 * (k + n) - 8 * k ≡ 8 * n = omega arith in
    take_at dst (drop n buffer) n size
    ∙ whole_words dst (drop (8 * k) bytes) n size (omega (arith, length-drop (8 * k) bytes)) (rw e at each)
