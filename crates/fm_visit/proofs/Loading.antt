-- Bytes that are read inside an arena into a slice, piece by piece.
use Rattle.std.proofs.Common.{◌≡◌, ℕ, zero, suc, ◌+◌, ◌-◌, ◌*◌, ◌/◌, ◌%◌, ◌^◌, ◌<◌, ◌≤◌, Bool, true, false, if◌then◌else◌, nat_le, List, [], ◌∷◌, ◌++◌, length, take, drop, append_assoc, length-append, refl, sym, ap, subst, ◌∙◌, arith, Some, Ok, Err}
use Rattle.std.{specs.{Int.{bytes_low_first}, List.{flat_map}}, proofs.Math.{Nat.{div-div-eq-div-mul}, Seq.{take-append-add}}}
use Rattle.std.proofs.lemmas.{Bool.{leb-true}, List.{append-nil, length-drop, length-take-le, take-append-le, take_all}}
use borrow.Rule.Slice.PartMut.{put_mid, post_of}
use Rattle.fm_base.specs.declared.{arena_id.ArenaId.{ArenaId}, refusal.Refusal.{Refusal, TheVariants.{Bounds}}}
use Rattle.fm_base.specs.{Calls.{Read, Found}, Learnt.{AfterLoads}, View.{View, Did}, Visits.{Acts, piece_width, reads}}
use Rattle.fm_base_bytes.specs.{Bytes.{bytes_of, lane}, Words.{bytes_in}}
use Rattle.fm_base_bytes.proofs.{Bytes.{bytes_of-mod, length-bytes_of}, Words.{length-bytes_in}}
use Rattle.fm_segment.specs.{Region.{Region, part_of}, Slices.{slice_of}}
use Rattle.fm_visit.specs.{Acts.{ActsAt, HasActs, IsOfArguments}, Learnt.{IsIn}, Runs.{GetsFrom}, Values.{AfterGetBytes, FindsHere, GetsNext, ReadsPart, placed_at}}
use Rattle.fm_visit.specs.Runs as runs
use Rattle.fm_visit.proofs.{Getting.{gets_alone}, Going.{DidJust, did_none, did_then, has, just}, Learning.{after_refused, just_acts}, Values.{after_has}}

-- ---- bytes as the library writes them

low_first : (i k n : ℕ) → bytes_low_first i k n ≡ bytes_of k (n / 256 ^ i)
unfolding bytes_of
low_first i zero n = refl
low_first zero (suc k) n = let d : n / 256 ^ 0 ≡ n = omega arith in rw (low_first 1 k n, d) refl
low_first (suc i) (suc k) n =
    let d : n / 256 ^ suc i / 256 ≡ n / 256 ^ suc (suc i) = div-div-eq-div-mul n (256 ^ suc i) 256 ∙ ap (λ m. n / m) (omega arith) in
    rw (low_first (suc (suc i)) k n, d) refl

-- Those of a number,
pub written : (k n : ℕ) → bytes_low_first 0 k n ≡ bytes_of k n
written k n = low_first 0 k n ∙ ap (bytes_of k) (let d : n / 256 ^ 0 ≡ n = omega arith in d)

-- and of words.
pub words_written : (words : List ℕ) → flat_map (λ n. bytes_low_first 0 8 n) words ≡ bytes_in words
unfolding bytes_in
words_written [] = refl
words_written (w ∷ words) = ap (λ bs. bs ++ flat_map (λ n. bytes_low_first 0 8 n) words) (written 8 w) ∙ ap (λ bs. bytes_of 8 w ++ bs) (words_written words)

-- ---- the next bytes

-- Whole words are read, each as a piece.
gets_words : {id : ArenaId} (words : List ℕ) (place : ℕ) (rest : List ℕ) (later : Acts) → place % 8 ≡ 0 → GetsFrom id (place + 8 * length words) rest later
    → GetsFrom id place (bytes_in words ++ rest) (reads id (place / 8) words ++ later)
unfolding bytes_in
gets_words {id = id} [] place rest later even g =
    let same : place + 8 * 0 ≡ place = omega arith in
    subst (λ (p : ℕ). GetsFrom id p rest later) same g
gets_words {id = id} (w ∷ words) place rest later even g =
    let at : place + 8 * suc (length words) ≡ place + 8 + 8 * length words = omega arith in
    let next : (place + 8) / 8 ≡ suc (place / 8) = omega arith in
    let more = gets_words {id = id} words (place + 8) rest later (omega arith) (subst (λ (p : ℕ). GetsFrom id p rest later) at g) in
    let here : w / 2 ^ (8 * 0) ≡ w = omega arith in
    let bytes : bytes_of 8 (lane w (place % 8) 8) ≡ bytes_of 8 w = ap (λ n. bytes_of 8 (lane w n 8)) even ∙ ap (λ n. bytes_of 8 (n % 2 ^ (8 * 8))) here ∙ bytes_of-mod 8 w in
    let long : 8 ≡ piece_width place (place + (8 + length (bytes_in words ++ rest))) = omega arith in
    let some : 0 < 8 = omega arith in
    subst (λ (bs : List ℕ). GetsFrom id place bs ((Read id (place / 8), Found w) ∷ (reads id (suc (place / 8)) words ++ later)))
    (ap (λ (bs : List ℕ). bs ++ (bytes_in words ++ rest)) bytes ∙ sym (append_assoc (bytes_of 8 w) (bytes_in words) rest))
    (runs.more place 8 w (bytes_in words ++ rest) (reads id (suc (place / 8)) words ++ later) (record { some = some; longest = long })
    (subst (λ (n : ℕ). GetsFrom id (place + 8) (bytes_in words ++ rest) (reads id n words ++ later)) next more))

-- The first so many bytes of a slice are those that were written there.
pub take_first : (n : ℕ) (bytes behind : List ℕ) → length bytes ≡ n → take n (bytes ++ behind) ≡ bytes
take_first n bytes behind e = take-append-le n bytes behind (omega arith) ∙ take_all n bytes (omega arith)

module _ {x y : View} {id : ArenaId} (at : ℕ) where
  -- Whole words.
  pub next_words_got : (count : ℕ) (words behind : List ℕ) → x.inside ≡ Some id → at % 8 ≡ 0 → length words ≡ count
      → AfterLoads x y (at / 8) words → Did x y (HasActs x.caller (GetsNext id at (bytes_in words ++ behind) (8 * count)))
  next_words_got count words behind inside even size a =
      let n : length (bytes_in words) ≡ 8 * count = length-bytes_in words ∙ ap (λ k. 8 * k) size in
      has (reads id (at / 8) words)
      (record {
        onward = λ rest later fits p.
            subst (λ (bs : List ℕ). GetsFrom id at (bs ++ rest) (reads id (at / 8) words ++ later)) (sym (take_first (8 * count) (bytes_in words) behind n))
            (gets_words {id = id} words at rest later even (subst (λ (k : ℕ). GetsFrom id (at + 8 * k) rest later) (sym size) p));
      })
      (just_acts (λ b. reads b (at / 8) words) inside a.did)

  -- A piece.
  pub next_piece_got : (width v : ℕ) (behind : List ℕ) → 0 < width → width ≡ piece_width at (at + (width + length behind))
      → ReadsPart x y id at width v → Did x y (HasActs x.caller (GetsNext id at (bytes_of width v ++ behind) width))
  next_piece_got width v behind some long p =
      let n : length (bytes_of width v) ≡ width = length-bytes_of width v in
      let all : length (bytes_of width v ++ behind) ≡ width + length behind = length-append (bytes_of width v) behind ∙ ap (λ k. k + length behind) n in
      has ((Read id (at / 8), Found p.word) ∷ [])
      (record {
        onward = λ rest later fits g.
            let same : length behind ≡ length rest = omega arith in
            subst (λ (bs : List ℕ). GetsFrom id at (bs ++ rest) ((Read id (at / 8), Found p.word) ∷ later))
            (ap (bytes_of width) (sym p.value) ∙ sym (take_first width (bytes_of width v) behind n))
            (runs.more at width p.word rest later (record { some = some; longest = long ∙ ap (λ k. piece_width at (at + (width + k))) same }) g);
      })
      p.did

-- ---- up to a place

-- of a slice that is read from a place on, the bytes up to another place were read
pub record GotUpTo (old now : View) (id : ArenaId) (place : ℕ) (into : List ℕ) (at : ℕ) : Type 0 where
  pub above : place ≤ at
  pub below : at ≤ place + length into
  pub inside : now.inside ≡ Some id
  pub so_far : Acts
  pub did : DidJust old now so_far
  pub onward : (rest : List ℕ) (later : Acts) → at + length rest ≡ place + length into → GetsFrom id at rest later
      → GetsFrom id place (take (at - place) into ++ rest) (so_far ++ later)

pub got_starts : {old : View} {id : ArenaId} (place : ℕ) (into : List ℕ) → old.inside ≡ Some id → GotUpTo old old id place into place
got_starts {old} {id} place into inside =
    let none : 0 ≡ place - place = omega arith in
    record {
      above = omega arith;
      below = omega arith;
      inside = inside;
      so_far = [];
      did = did_none;
      onward = λ rest later fits g. subst (λ (n : ℕ). GetsFrom id place (take n into ++ rest) later) none g;
    }

-- A slice with other bytes behind the first so many.
length_behind : (n : ℕ) (into rest : List ℕ) → n ≤ length into → length rest ≡ length into - n → length (put_mid n (length into - n) into rest) ≡ length into
length_behind n into rest within size =
    let after = post_of n (length into - n) into in
    let left = length-drop n into in
    let none : length (post_of n (length into - n) into) ≡ 0 = length-drop (length into - n) (drop n into) ∙ omega arith in
    omega (arith, length-append (take n into) (rest ++ after), length-append rest after, length-take-le n into within)

take_behind : (n m : ℕ) (into rest : List ℕ) → n ≤ length into → m ≤ length rest
    → take (n + m) (put_mid n (length into - n) into rest) ≡ take n into ++ take m rest
take_behind n m into rest within fits =
    let after = post_of n (length into - n) into in
    let first = take n into in
    let size : length (take n into) ≡ n = length-take-le n into within in
    ap (λ k. take (k + m) (first ++ (rest ++ after))) (sym size)
    ∙ take-append-add first (rest ++ after) m
    ∙ ap (λ piece. first ++ piece) (take-append-le m rest after fits)

module _ {old now : View} {id : ArenaId} {place : ℕ} {into : List ℕ} {at : ℕ} (w : GotUpTo old now id place into at) where
  -- The next bytes.
  pub got_next : {next : View} (n : ℕ) (sub : List ℕ) → length sub ≡ length into - (at - place) → n ≤ length sub
      → Did now next (HasActs now.caller (GetsNext id at sub n)) → next.inside ≡ Some id
      → GotUpTo old next id place (put_mid (at - place) (length into - (at - place)) into sub) (at + n)
  got_next {next} n sub size fits d inside =
      let above = w.above in
      let below = w.below in
      let acts = d.does.acts in
      let within : at - place ≤ length into = omega arith in
      let all = length_behind (at - place) into sub within size in
      let sum : at - place + n ≡ at + n - place = omega arith in
      let first : take (at - place) into ++ take n sub ≡ take (at + n - place) (put_mid (at - place) (length into - (at - place)) into sub) =
      sym (take_behind (at - place) n into sub within fits) ∙ ap (λ k. take k (put_mid (at - place) (length into - (at - place)) into sub)) sum in
      record {
        above = omega arith;
        below = omega arith;
        inside = inside;
        so_far = w.so_far ++ acts;
        did = did_then w.so_far acts w.did (just d);
        onward = λ rest later e g.
            let len : length (take n sub ++ rest) ≡ n + length rest = length-append (take n sub) rest ∙ ap (λ k. k + length rest) (length-take-le n sub fits) in
            let go = d.does.are.onward rest later (omega arith) g in
            let whole = w.onward (take n sub ++ rest) (acts ++ later) (omega arith) go in
            subst (λ (bs : List ℕ). GetsFrom id place bs ((w.so_far ++ acts) ++ later))
            (sym (append_assoc (take (at - place) into) (take n sub) rest) ∙ ap (λ (bs : List ℕ). bs ++ rest) first)
            (subst (λ (done : Acts). GetsFrom id place (take (at - place) into ++ (take n sub ++ rest)) done) (sym (append_assoc w.so_far acts later)) whole);
      }

  -- All.
  pub got_all : place + length into ≤ at → Did old now (HasActs old.caller (GetsFrom id place into))
  got_all last =
      let above = w.above in
      let below = w.below in
      let g = w.onward [] [] (omega arith) (runs.none at) in
      has w.so_far
      (subst (λ (bs : List ℕ). GetsFrom id place bs w.so_far) (append-nil (take (at - place) into) ∙ take_all (at - place) into (omega arith))
      (subst (λ (done : Acts). GetsFrom id place (take (at - place) into ++ []) done) (append-nil w.so_far) g))
      w.did

-- ---- what is learnt

slice_err : (r : Region) (offset n : ℕ) (e : Refusal) → slice_of offset n r ≡ Err e → IsOfArguments e
slice_err r offset n e h = by_test (nat_le (offset + n) r.size) (part_of offset n r) h where
  by_test : (b : Bool) (found : Region) → (if b then Ok found else Err Bounds) ≡ Err e → IsOfArguments e
  by_test true found h = absurd (cc)
  by_test false found h = let same : Bounds ≡ e = cc in subst IsOfArguments same tt

-- A slice begins at the offset, and lies in the segment.
pub slice_fits : (r : Region) (offset n : ℕ) {slice : Region} → slice_of offset n r ≡ Ok slice → (offset + n ≤ r.size) × (slice.first ≡ r.first + offset)
slice_fits r offset n {slice} h = by_test (nat_le (offset + n) r.size) refl h where
  by_test : (b : Bool) → nat_le (offset + n) r.size ≡ b → (if b then Ok (part_of offset n r) else Err Bounds) ≡ Ok slice
      → (offset + n ≤ r.size) × (slice.first ≡ r.first + offset)
  by_test true e h = let same : part_of offset n r ≡ slice = cc in (leb-true (offset + n) r.size e, ap (λ (s : Region). s.first) (sym same))
  by_test false e h = absurd (cc)

module _ {x : View} {r : Region} (can : IsIn x r.arena r) where
  pub bytes_got : {y : View} (offset : ℕ) (bytes : List ℕ) {slice : Region} → slice_of offset (length bytes) r ≡ Ok slice
      → Did x y (HasActs x.caller (GetsFrom r.arena (r.first + offset) bytes)) → y.inside ≡ Some r.arena → AfterGetBytes x y r offset bytes (Ok tt)
  bytes_got offset bytes is d inside =
      after_has {Do = ActsAt (placed_at (r.first + offset) (slice_of offset (length bytes) r)) (FindsHere r.arena bytes)} can (rw is d) inside
      (λ h. let f = gets_alone d h in record { value = f.value; same = f.same })

  pub bytes_not_got : (offset : ℕ) (bytes : List ℕ) {e : Refusal} → slice_of offset (length bytes) r ≡ Err e → AfterGetBytes x x r offset bytes (Err e)
  bytes_not_got offset bytes {e} is =
      after_refused (FindsHere r.arena bytes) (Err e) can (ap (placed_at (r.first + offset)) is) refl (slice_err r offset (length bytes) e is)
