use Rattle.std.proofs.{Common.{rules, ◌≡◌, ◌+◌, ◌-◌, ◌≤◌, ◌++◌, List, ℕ, length, take, drop, None, Some, arith, ap, sym, ◌∙◌, subst, refl}, Math.Seq.{drop-append_seam}, lemmas.{List.{take_rest}, Result.{err_from_is_err_and}}}
use Rattle.fm_base_bytes.specs.Bytes.{bytes_of}
use Rattle.fm_segment_access.proofs.Touching.{can_touch}
use Rattle.fm_text.specs.Texts.{zero_at, IsText, text_bytes}
use Rattle.fm_text.proofs.Looking.{IsLooking, looking_starts, looking_lasts, looking_refused, looking_over, looking_on, looking_wants, looking_found}
use Rattle.fm_text.proofs.Zeros.{no_zero_behind, some_zero_behind}
use Rattle.fm_text.proofs.reading.get_text_at.Goals as goal

pub loop-at-init : goal.loop-at-init
loop-at-init g c =
    let out = c.requires.outside in
    let start : c.args.place ≤ c.args.place + c.args.size = omega arith in
    let now = g.M.Memory.view c.args.m.now in
    subst (λ (bs : List ℕ). IsLooking now now c.args.arena c.args.place (c.args.place + c.args.size) c.args.place bs)
    (sym c.new-bytes.ensures.items) (looking_starts c.args.place (c.args.place + c.args.size) start out)

pub get_piece-requires : goal.get_piece-requires
get_piece-requires g c =
    let i = c.loop-at.invariant in
    let p = c.piece_width-width.ensures in
    can_touch c.loop-at.at c.piece_width-width.result c.requires.known c.requires.given (looking_lasts i) i.outside p.some p.within p.before_end

pub returns-in_err-piece : goal.returns-in_err-piece
returns-in_err-piece g c =
    let p = err_from_is_err_and c.from_residual.result c.from_residual.ensures.1 in
    rw (p.1, p.2) (looking_refused c.loop-at.invariant c.in_err-piece.field-0.0 c.loop-at-test.true c.in_err-piece.ensures.did)

pub returns : goal.returns
returns g c = looking_over c.loop-at.invariant (let f = c.loop-at-test.false in omega arith)

-- What stands behind the bytes that had been read.
piece_is : (all seen piece : List ℕ) → all ≡ seen ++ piece → take (length all - length seen) (drop (length seen) all) ≡ piece
piece_is all seen piece e = take_rest all (length seen) ∙ (ap (drop (length seen)) e ∙ drop-append_seam seen piece)

pub returns-in_err-push_number : goal.returns-in_err-push_number
returns-in_err-push_number g c =
    let p = err_from_is_err_and c.from_residual-in_err-push_number.result c.from_residual-in_err-push_number.ensures.1 in
    let w = c.piece_width-width.ensures in
    rw (p.1, p.2) (looking_wants c.loop-at.invariant c.piece_width-width.result c.in_ok-piece.piece _ c.loop-at-test.true w.value refl
    c.get_piece.ensures.outside c.in_ok-piece.ensures.did w.some)

-- The same, where the bytes are seen as a slice from an index on.
piece_at : (all deref seen piece : List ℕ) (k : ℕ) → all ≡ seen ++ piece → deref ≡ all → k ≡ length seen
    → take (length deref - k) (drop k deref) ≡ piece
piece_at all deref seen piece k e d n =
    (λ j. take (length (d j) - n j) (drop (n j) (d j))) ∙ piece_is all seen piece e

-- The first 0 of the piece is that of all.
some_at : (all deref seen piece : List ℕ) (k n : ℕ) → all ≡ seen ++ piece → deref ≡ all → k ≡ length seen → zero_at seen ≡ None
    → Some n ≡ zero_at (take (length deref - k) (drop k deref)) → zero_at all ≡ Some (k + n)
some_at all deref seen piece k n e d is none f =
    ap zero_at e ∙ (some_zero_behind seen piece n none (ap zero_at (sym (piece_at all deref seen piece k e d is)) ∙ sym f) ∙ ap (λ m. Some (m + n)) (sym is))

-- A piece with none leaves none.
none_at : (all deref seen piece : List ℕ) (k : ℕ) → all ≡ seen ++ piece → deref ≡ all → k ≡ length seen → zero_at seen ≡ None
    → None ≡ zero_at (take (length deref - k) (drop k deref)) → zero_at all ≡ None
none_at all deref seen piece k e d is none f =
    ap zero_at e ∙ no_zero_behind seen piece none (ap zero_at (sym (piece_at all deref seen piece k e d is)) ∙ sym f)

pub returns-in-Some : goal.returns-in-Some
returns-in-Some g c =
    let w = c.piece_width-width.ensures in
    let i = c.loop-at.invariant in
    let all = c.push_number.new.bytes.items in
    let pushed : all ≡ c.loop-at.bytes.items ++ bytes_of c.piece_width-width.result c.in_ok-piece.piece = c.in_ok-push_number.ensures in
    let e = c.len-seen.ensures in
    let l = c.loop-at.bytes.ok in
    let z = some_at all c.deref.result.now c.loop-at.bytes.items _ c.len-seen.result c.in-Some.n pushed c.deref.ensures.value (search (rules, e, l)) i.none
    c.in-Some.ensures.first in
    looking_found i c.piece_width-width.result c.in_ok-piece.piece all c.loop-at-test.true w.value pushed c.get_piece.ensures.outside c.in_ok-piece.ensures.did
    (c.len-seen.result + c.in-Some.n) _ w.some z (subst (λ (bs : List ℕ). IsText bs (text_bytes c.text_of.result)) c.truncate.ensures.items c.text_of.ensures)

pub loop-at-preserved : goal.loop-at-preserved
loop-at-preserved g c =
    let w = c.piece_width-width.ensures in
    let i = c.loop-at.invariant in
    let all = c.push_number.new.bytes.items in
    let pushed : all ≡ c.loop-at.bytes.items ++ bytes_of c.piece_width-width.result c.in_ok-piece.piece = c.in_ok-push_number.ensures in
    let e = c.len-seen.ensures in
    let l = c.loop-at.bytes.ok in
    let z = none_at all c.deref.result.now c.loop-at.bytes.items _ c.len-seen.result pushed c.deref.ensures.value (search (rules, e, l)) i.none
    c.in_default.ensures.first in
    rw c.from-at.ensures (looking_on i c.piece_width-width.result c.in_ok-piece.piece all c.loop-at-test.true w.value pushed c.get_piece.ensures.outside
    c.in_ok-piece.ensures.did w.some w.before_end z)
