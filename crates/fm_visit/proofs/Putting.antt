-- Bytes that are put inside an arena, piece by piece.
use Rattle.std.proofs.Common.{◌≡◌, ℕ, zero, suc, true, ◌+◌, ◌-◌, ◌*◌, ◌/◌, ◌%◌, ◌<◌, ◌≤◌, List, [], ◌∷◌, ◌++◌, length, take, drop, refl, sym, ap, subst, ◌∙◌, arith, Some}
use Rattle.std.proofs.lemmas.List.{length-drop, length-take-le, take-append-drop, drop-drop, drop_all}
use Rattle.fm_base.specs.declared.arena_id.ArenaId.{ArenaId}
use Rattle.fm_base.specs.{Arenas.{has_arena}, Calls.{Write, Fine}, Does.{CanReach, CanReachAll}, Learnt.{AfterStores}, View.{View, Did, IsByItself}, Visits.{Acts, piece_width, writes}}
use Rattle.fm_base.proofs.{Faith.{Makes-alone}, Outcomes.{Makes-lasts}}
use Rattle.fm_base_bytes.{specs.{Bytes.{AreBytes, bytes_of, number_of, lane}, Words.{words_from}}, proofs.Bytes.{lane-number_of, length-bytes_of}}
use Rattle.fm_segment_access.specs.{Alone.{ChangesBytes}, Pieces.{PutsBytes, whole, DoesPutInside}, Ranges.{Putting, putting}}
use Rattle.fm_segment_access.proofs.Alone.{changes}
use Rattle.fm_visit.specs.{Acts.{HasActs}, Runs.{IsPiece, PutsFrom}, Values.{Reaches, PutsNext}}
use Rattle.fm_visit.specs.Runs as runs
use Rattle.fm_visit.proofs.{Going.{DidJust, UnderWay, has, way_starts, way_goes_on, way_ends, just}, Learning.{just_acts}, Runs.{PutsLeave, puts_leave}}
use Rattle.fm_base.specs.{Calls.{Entry}, Histories.{IsLegal, state_after}, Visits.{entries_of}, Arenas.{State}}

-- The first bytes of a run are put, and then the others.
pub puts_first : {id : ArenaId} (place : ℕ) (bytes : List ℕ) (width v : ℕ) (acts later : Acts) → 0 < width → width ≤ length bytes
    → width ≡ piece_width place (place + length bytes) → v ≡ number_of (take width bytes) → PutsBytes id place width v acts
    → PutsFrom id (place + width) (drop width bytes) later → PutsFrom id place bytes (acts ++ later)
puts_first {id} place bytes width v acts later some fits long is put rest =
    let n : length (take width bytes) ≡ width = length-take-le width bytes fits in
    let m : length (drop width bytes) ≡ length bytes - width = length-drop width bytes in
    let all : length (take width bytes) + length (drop width bytes) ≡ length bytes = omega arith in
    subst (λ (bs : List ℕ). PutsFrom id place bs (acts ++ later)) (take-append-drop width bytes)
    (runs.more place (take width bytes) (drop width bytes) acts later
    (record { some = omega arith; longest = n ∙ long ∙ ap (λ k. piece_width place (place + k)) (sym all) })
    (subst (λ (k : ℕ). PutsBytes id place k (number_of (take width bytes)) acts) (sym n)
    (subst (λ (u : ℕ). PutsBytes id place width u acts) is put))
    (subst (λ (k : ℕ). PutsFrom id (place + k) (drop width bytes) later) (sym n) rest))

-- Whole words are put, each as a piece.
pub puts_words : {id : ArenaId} (count place : ℕ) (bytes : List ℕ) (later : Acts) → place % 8 ≡ 0 → 8 * count ≤ length bytes
    → PutsFrom id (place + 8 * count) (drop (8 * count) bytes) later → PutsFrom id place bytes (writes id (place / 8) (words_from count bytes) ++ later)
unfolding words_from
puts_words {id = id} zero place bytes later even fits rest =
    let same : place + 8 * zero ≡ place = omega arith in
    subst (λ (p : ℕ). PutsFrom id p bytes later) same rest
puts_words {id = id} (suc count) place bytes later even fits rest =
    let left : length (drop 8 bytes) ≡ length bytes - 8 = length-drop 8 bytes in
    let next : (place + 8) / 8 ≡ suc (place / 8) = omega arith in
    let at : place + 8 * suc count ≡ place + 8 + 8 * count = omega arith in
    let sum : 8 + 8 * count ≡ 8 * suc count = omega arith in
    let bytes_left : drop (8 * suc count) bytes ≡ drop (8 * count) (drop 8 bytes) = ap (λ n. drop n bytes) (sym sum) ∙ sym (drop-drop (8 * count) 8 bytes) in
    let more = puts_words {id = id} count (place + 8) (drop 8 bytes) later (omega arith) (omega arith)
    (subst (λ (bs : List ℕ). PutsFrom id (place + 8 + 8 * count) bs later) bytes_left (subst (λ (p : ℕ). PutsFrom id p (drop (8 * suc count) bytes) later) at rest)) in
    puts_first place bytes 8 (number_of (take 8 bytes)) ((Write id (place / 8) (number_of (take 8 bytes)), Fine) ∷ [])
    (writes id (suc (place / 8)) (words_from count (drop 8 bytes)) ++ later) (omega arith) (omega arith) (omega arith) refl (whole refl)
    (subst (λ (w : ℕ). PutsFrom id (place + 8) (drop 8 bytes) (writes id w (words_from count (drop 8 bytes)) ++ later)) next more)

-- ---- as far as it has come

-- what is left to be put
abbrev pub Puts : ArenaId → Putting → Unit {0} → Acts → Type 0
Puts id x u acts = PutsFrom id x.at x.bytes acts

abbrev pub IsPutting : View → View → ArenaId → ℕ → List ℕ → Putting → Type 0
IsPutting old now id place bytes x = UnderWay (Puts id) old now id (putting place bytes) x

pub put_starts : {old : View} {id : ArenaId} (place : ℕ) (bytes : List ℕ) → old.inside ≡ Some id → IsPutting old old id place bytes (putting place bytes)
put_starts place bytes inside = way_starts inside

module _ {old now : View} {id : ArenaId} {place : ℕ} {bytes : List ℕ} {x : Putting} (w : IsPutting old now id place bytes x) where
  -- A piece more.
  pub put_on : {next : View} (width v : ℕ) → Did now next (DoesPutInside now.caller id x.at width v) → next.inside ≡ Some id → 0 < width
      → width ≤ length x.bytes → width ≡ piece_width x.at (x.at + length x.bytes) → v ≡ number_of (take width x.bytes)
      → IsPutting old next id place bytes (putting (x.at + width) (drop width x.bytes))
  put_on width v d inside some fits long is =
      way_goes_on w d.does.acts (putting (x.at + width) (drop width x.bytes)) (record { own = d.own; does = d.does.entries; makes = d.makes }) inside
      (λ u later p. puts_first x.at x.bytes width v d.does.acts later some fits long is d.does.puts p)

  -- The next bytes.
  pub put_next_on : {next : View} (n : ℕ) → Did now next (HasActs now.caller (PutsNext id x n)) → next.inside ≡ Some id
      → IsPutting old next id place bytes (putting (x.at + n) (drop n x.bytes))
  put_next_on n d inside =
      way_goes_on w d.does.acts (putting (x.at + n) (drop n x.bytes)) (just d) inside (λ u later p. d.does.are.onward later p)

  -- All are put.
  pub put_all : x.bytes ≡ [] → Did old now (HasActs old.caller (PutsFrom id place bytes))
  put_all none = way_ends w tt (subst (λ (bs : List ℕ). PutsFrom id x.at bs []) (sym none) (runs.none x.at))

-- Bytes inside the arena can be reached still, later on.
pub still_reaches : {old now : View} {id : ArenaId} {place size : ℕ} (acts : Acts) (at n : ℕ) → Reaches old id place size → DidJust old now acts
    → now.inside ≡ Some id → at + n ≤ place + size → Reaches now id at n
still_reaches {old} {now} {id} {place} {size} acts at n r d inside below =
    let more = (Makes-lasts old now d.own d.makes).given id in
    let given = r.given in
    let small = r.small in
    record { inside = inside; given = omega arith; small = omega arith }

-- The word of a byte there can be reached.
pub reaches_word : {v : View} {id : ArenaId} {place size : ℕ} → Reaches v id place size → 0 < size → CanReach v (place / 8)
reaches_word {v} {id} {place} {size} r some =
    let given = r.given in
    record { id = id; inside = r.inside; given = omega arith }

-- ---- of the only caller

module _ {old new : View} {id : ArenaId} {place : ℕ} {bytes : List ℕ} (are : AreBytes bytes) (d : Did old new (HasActs old.caller (PutsFrom id place bytes)))
    (h : IsByItself old) where
  pub leaves_puts : PutsLeave old.state new.state id place bytes
  leaves_puts =
      let m = Makes-alone old new d.own h d.makes in
      let legal = subst (λ (es : List Entry). IsLegal old.limit old.state es) d.does.entries m.0 in
      let after : state_after old.limit old.state (entries_of old.caller d.does.acts) ≡ new.state = sym (m.1 ∙ ap (state_after old.limit old.state) d.does.entries) in
      subst (λ (t : State). PutsLeave old.state t id place bytes) after (puts_leave old.limit old.caller id old.state place bytes d.does.acts are d.does.are legal)

  pub puts_alone : has_arena old.state id ≡ true → ChangesBytes old new id place bytes
  puts_alone known = changes old new id place bytes known leaves_puts.puts

-- ---- up to a place

-- of these bytes, which are put from a place on, those up to another place were put
pub record PutUpTo (old now : View) (id : ArenaId) (place : ℕ) (bytes : List ℕ) (at : ℕ) : Type 0 where
  pub above : place ≤ at
  pub below : at ≤ place + length bytes
  pub way : IsPutting old now id place bytes (putting at (drop (at - place) bytes))

pub up_to_starts : {old : View} {id : ArenaId} (place : ℕ) (bytes : List ℕ) → old.inside ≡ Some id → PutUpTo old old id place bytes place
up_to_starts {old} {id} place bytes inside =
    let none : 0 ≡ place - place = omega arith in
    record {
      above = omega arith;
      below = omega arith;
      way = subst (λ (n : ℕ). IsPutting old old id place bytes (putting place (drop n bytes))) none (put_starts place bytes inside);
    }

module _ {old now : View} {id : ArenaId} {place : ℕ} {bytes : List ℕ} {at : ℕ} (w : PutUpTo old now id place bytes at) where
  moved : {next : View} (n : ℕ) → at + n ≤ place + length bytes → IsPutting old next id place bytes (putting (at + n) (drop n (drop (at - place) bytes)))
      → PutUpTo old next id place bytes (at + n)
  moved {next} n fits way =
      let above = w.above in
      let sum : at - place + n ≡ at + n - place = omega arith in
      record {
        above = omega arith;
        below = fits;
        way = subst (λ (bs : List ℕ). IsPutting old next id place bytes (putting (at + n) bs)) (drop-drop n (at - place) bytes ∙ ap (λ k. drop k bytes) sum) way;
      }

  -- The next bytes,
  pub up_to_next : {next : View} (n : ℕ) → at + n ≤ place + length bytes → Did now next (HasActs now.caller (PutsNext id (putting at (drop (at - place) bytes)) n))
      → next.inside ≡ Some id → PutUpTo old next id place bytes (at + n)
  up_to_next n fits d inside = moved n fits (put_next_on w.way n d inside)

  -- or the next piece.
  pub up_to_piece : {next : View} (width v : ℕ) → 0 < width → at + width ≤ place + length bytes → width ≡ piece_width at (place + length bytes)
      → v ≡ number_of (take width (drop (at - place) bytes)) → Did now next (DoesPutInside now.caller id at width v) → next.inside ≡ Some id
      → PutUpTo old next id place bytes (at + width)
  up_to_piece width v some fits long is d inside =
      let above = w.above in
      let left : length (drop (at - place) bytes) ≡ length bytes - (at - place) = length-drop (at - place) bytes in
      let end : at + length (drop (at - place) bytes) ≡ place + length bytes = omega arith in
      moved width fits (put_on w.way width v d inside some (omega arith) (long ∙ ap (piece_width at) (sym end)) is)

  -- All.
  pub up_to_all : place + length bytes ≤ at → Did old now (HasActs old.caller (PutsFrom id place bytes))
  up_to_all last = put_all w.way (drop_all (at - place) bytes (omega arith))

-- ---- the next bytes

-- Whole words.
pub next_words : {x y : View} {id : ArenaId} (at count : ℕ) (bytes : List ℕ) → x.inside ≡ Some id → at % 8 ≡ 0 → 8 * count ≤ length bytes
    → AfterStores x y (at / 8) (words_from count bytes) → Did x y (HasActs x.caller (PutsNext id (putting at bytes) (8 * count)))
next_words {id = id} at count bytes inside even fits a =
    has (writes id (at / 8) (words_from count bytes))
    (record { onward = λ later p. puts_words count at bytes later even fits p })
    (just_acts (λ b. writes b (at / 8) (words_from count bytes)) inside a.did)

-- A piece.
pub next_piece_put : {x y : View} {id : ArenaId} (at width : ℕ) (bytes : List ℕ) {v : ℕ} → 0 < width → width ≤ length bytes → width ≡ piece_width at (at + length bytes)
    → v ≡ number_of (take width bytes) → Did x y (DoesPutInside x.caller id at width v) → Did x y (HasActs x.caller (PutsNext id (putting at bytes) width))
next_piece_put at width bytes {v} some fits long is d =
    has d.does.acts (record { onward = λ later p. puts_first at bytes width v d.does.acts later some fits long is d.does.puts p })
    (record { own = d.own; does = d.does.entries; makes = d.makes })

-- The words of bytes that can be reached can be.
pub reaches_words : {v : View} {id : ArenaId} {place size count : ℕ} → Reaches v id place size → place % 8 ≡ 0 → 8 * count ≤ size → CanReachAll v (place / 8) count
reaches_words {v} {id} {place} {size} {count} r even fits =
    let given = r.given in
    let small = r.small in
    record { id = id; inside = r.inside; given = omega arith; small = omega arith }

-- ---- numbers

pub inside_acts : {x y : View} {id : ArenaId} {place width v : ℕ} → (d : Did x y (DoesPutInside x.caller id place width v)) → DidJust x y d.does.acts
inside_acts d = record { own = d.own; does = d.does.entries; makes = d.makes }

-- A number that lies in one word.
pub put_one : {x y : View} {id : ArenaId} {place width v : ℕ} (number : ℕ) → x.inside ≡ Some id → 0 < width → place % 8 + width ≤ 8 → v ≡ lane number 0 width
    → Did x y (DoesPutInside x.caller id place width v) → y.inside ≡ Some id → Did x y (HasActs x.caller (PutsFrom id place (bytes_of width number)))
put_one {place = place} {width} number inside some fits is d then =
    let len : length (bytes_of width number) ≡ width = length-bytes_of width number in
    let all : 0 + width ≤ width = omega arith in
    let long : width ≡ piece_width place (place + width) = omega arith in
    let w = put_on (put_starts place (bytes_of width number) inside) width _ d then some (omega arith)
    (long ∙ ap (λ n. piece_width place (place + n)) (sym len)) (is ∙ lane-number_of width 0 width number all) in
    put_all w (drop_all width (bytes_of width number) (omega arith))

-- A number that crosses a word's end.
pub put_two : {x y z : View} {id : ArenaId} {place v w : ℕ} (first rest number : ℕ) → x.inside ≡ Some id → 0 < first → 0 < rest → place % 8 + first ≡ 8
    → first + rest ≤ 8 → v ≡ lane number 0 first → w ≡ lane number first rest → Did x y (DoesPutInside x.caller id place first v) → y.inside ≡ Some id
    → Did y z (DoesPutInside y.caller id (place + first) rest w) → z.inside ≡ Some id
    → Did x z (HasActs x.caller (PutsFrom id place (bytes_of (first + rest) number)))
put_two {place = place} first rest number inside some more across few is_low is_high d then e last =
    let all = bytes_of (first + rest) number in
    let len : length (bytes_of (first + rest) number) ≡ first + rest = length-bytes_of (first + rest) number in
    let left : length (drop first (bytes_of (first + rest) number)) ≡ length (bytes_of (first + rest) number) - first = length-drop first (bytes_of (first + rest) number) in
    let low_fits : 0 + first ≤ first + rest = omega arith in
    let high_fits : first + rest ≤ first + rest = omega arith in
    let low_long : first ≡ piece_width place (place + (first + rest)) = omega arith in
    let high_long : rest ≡ piece_width (place + first) (place + first + rest) = omega arith in
    let behind : length (drop first (bytes_of (first + rest) number)) ≡ rest = omega arith in
    let u = put_on (put_starts place all inside) first _ d then some (omega arith)
    (low_long ∙ ap (λ n. piece_width place (place + n)) (sym len)) (is_low ∙ lane-number_of (first + rest) 0 first number low_fits) in
    let w = put_on u rest _ e last more (omega arith)
    (high_long ∙ ap (λ n. piece_width (place + first) (place + first + n)) (sym behind)) (is_high ∙ lane-number_of (first + rest) first rest number high_fits) in
    put_all w (drop_all rest (drop first all) (omega arith))
