use Rattle.std.proofs.Common.{◌≡◌, ◌+◌, ◌-◌, ◌*◌, ◌<◌, ◌≤◌, ◌++◌, ℕ, List, length, drop, replicate, sym, ap, subst, ◌∙◌, arith}
use Rattle.byteorder.proofs.Bytes.{pow256}
use Rattle.std.specs.{Int.{bytes_low_first}, List.{flat_map}}
use Rattle.std.proofs.lemmas.List.{length-drop, length-replicate, length-take-le}
use Rattle.fm_base.specs.Visits.{piece_width}
use Rattle.fm_visit.proofs.{Getting.{part_fits}, Loading.{next_words_got, next_piece_got, take_first, words_written, written}}
use Rattle.fm_visit.proofs.bytes.get_next.Goals as goal

pub write_uint-requires-clause-fits : goal.write_uint-requires-clause-fits
write_uint-requires-clause-fits g c =
    subst (λ (n : ℕ). c.get_piece-part.result < n) (sym (pow256 c.piece_width-width.result)) (part_fits c.get_piece-part.ensures)

pub returns-then-words-gt0-clause-did : goal.returns-then-words-gt0-clause-did
returns-then-words-gt0-clause-did g c =
    let words = c.load_words.new.words in
    let count = c.min-words.result in
    let zeros : List ℕ = replicate {A = ℕ} 64 0 in
    let all : length (replicate {A = ℕ} 64 0) ≡ 64 = length-replicate {A = ℕ} 64 0 in
    let few : c.min-words.result ≤ length (replicate {A = ℕ} 64 0) = omega arith in
    let size : length c.load_words.new.words ≡ c.min-words.result = c.load_words.auto.words ∙ length-take-le count zeros few in
    rw (c.write_u64_into.ensures ∙ ap (flat_map (λ n. bytes_low_first 0 8 n)) (take_first count words _ size) ∙ words_written words)
    (next_words_got c.args.at count words (drop (8 * count) c.args.into.now) c.requires.reach.inside c.if-at-eq0.true size c.load_words.ensures)

pub returns-else-at-eq0-clause-did : goal.returns-else-at-eq0-clause-did
returns-else-at-eq0-clause-did g c =
    let into = c.args.into.now in
    let width = c.piece_width-width.result in
    let p = c.piece_width-width.ensures in
    let few = p.before_end in
    let left : length (drop c.piece_width-width.result c.args.into.now) ≡ length c.args.into.now - c.piece_width-width.result = length-drop width into in
    let all : length c.args.into.now ≡ c.piece_width-width.result + length (drop c.piece_width-width.result c.args.into.now) = omega arith in
    rw (c.write_uint.ensures ∙ ap (λ bs. bs ++ drop width into) (written width c.get_piece-part.result))
    (next_piece_got c.args.at width c.get_piece-part.result (drop width into) p.some (p.value ∙ ap (λ n. piece_width c.args.at (c.args.at + n)) all) c.get_piece-part.ensures)
