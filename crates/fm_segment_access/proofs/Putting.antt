-- Bytes that are put, as far as it has come.
use Rattle.std.proofs.Common.{◌≡◌, ℕ, ◌+◌, ◌-◌, ◌%◌, ◌<◌, ◌≤◌, List, [], ◌++◌, length, take, drop, refl, ap, subst, arith, true, false, None, Result, Ok, Err, ◌∙◌}
use Rattle.std.proofs.lemmas.List.{length-drop, drop_all, drop-drop}
use Rattle.fm_base.specs.{declared.{caller.Caller.{Caller}, arena_id.ArenaId.{ArenaId}, refusal.Refusal.{Refusal}}, Arenas.{MayUse}, Calls.{Entry}}
use Rattle.fm_base.{specs.{Outcomes.{Lasts}, Does.{DoesEnter}, View.{View, Did}, Visits.{piece_width}}, proofs.Outcomes.{Makes-lasts}}
use Rattle.fm_base_bytes.{specs.Bytes.{bytes_of, number_of, lane}, proofs.Bytes.{length-bytes_of, lane-number_of}}
use Rattle.fm_segment_access.specs.{Pieces.{PutsPiece, DoesPutPiece}, Ranges.{Putting, putting, PutsOn, EndsPutting, DoesPut, DoesPutBy}}
use Rattle.fm_segment_access.proofs.Going.{Going, going_start, going_more, going_done, going_refused}

-- ---- steps of any kind

module _ (Step : Caller → ArenaId → Putting → List Entry → Putting → Type 0) where
  -- of all bytes, which end at `end`, those up to `at` were put
  pub record IsPutting (old now : View) (id : ArenaId) (place end : ℕ) (all : List ℕ) (at : ℕ) : Type 0 where
    pub is_end : end ≡ place + length all
    pub below : at ≤ end
    pub above : place ≤ at
    pub outside : now.inside ≡ None
    pub own : List Entry
    pub going : Going (Step old.caller id) (EndsPutting old.caller id) old now id (putting place all) (putting at (drop (at - place) all)) own

  -- Nothing was put yet.
  pub put_starts : {old : View} {id : ArenaId} {place end : ℕ} {all : List ℕ} → end ≡ place + length all → old.inside ≡ None
      → IsPutting old old id place end all place
  put_starts {old} {id} {place} {end} {all} is_end out =
      let c = old.caller in
      let whole : all ≡ drop (place - place) all = ap (λ n. drop n all) (let none : 0 ≡ place - place = omega arith in none) in
      record {
        is_end = is_end;
        below = omega arith;
        above = omega arith;
        outside = out;
        own = [];
        going = subst (λ (bytes : List ℕ). Going (Step c id) (EndsPutting c id) old old id (putting place all) (putting place bytes) []) whole
            (going_start (Step c id) (EndsPutting c id) old id (putting place all));
      }

module _ {Step : Caller → ArenaId → Putting → List Entry → Putting → Type 0} {old now : View} {id : ArenaId} {place end at : ℕ} {all : List ℕ}
    (p : IsPutting Step old now id place end all at) where
  -- What was put keeps the arena, and what it has given.
  pub put_lasts : Lasts old now
  put_lasts = Makes-lasts old now p.own p.going.makes

  -- One visit more, which puts n bytes.
  pub puts_on : {next : View} (n : ℕ) → at + n ≤ end → next.inside ≡ None
      → Did now next (λ es. MayUse id now.caller
      × Step now.caller id (putting at (drop (at - place) all)) es (putting (at + n) (drop n (drop (at - place) all))))
      → IsPutting Step old next id place end all (at + n)
  puts_on {next} n below out d =
      let above = p.above in
      let x = putting at (drop (at - place) all) in
      let here = subst (λ (c : Caller). Step c id x d.own (putting (at + n) (drop n (drop (at - place) all)))) p.going.makes.same_caller d.does.1 in
      let left : drop n (drop (at - place) all) ≡ drop (at + n - place) all =
      drop-drop n (at - place) all ∙ ap (λ k. drop k all) (let s : at - place + n ≡ at + n - place = omega arith in s) in
      let there = subst (λ (bytes : List ℕ). Step old.caller id x d.own (putting (at + n) bytes)) left here in
      record {
        is_end = p.is_end;
        below = below;
        above = omega arith;
        outside = out;
        own = p.own ++ d.own;
        going = going_more p.going (putting (at + n) (drop (at + n - place) all)) d.does.0 d.makes there;
      }

  -- A refused visit ends the call.
  pub put_refused : {next : View} (r : Refusal) → at < end → Did now next (DoesEnter now.caller id (Err r))
      → Did old next (DoesPutBy Step old.caller id place all (Err r))
  put_refused r more d =
      let is_end = p.is_end in
      let some : 0 < length (drop (at - place) all) = omega (arith, length-drop (at - place) all) in
      going_refused p.going false r (some, refl) d

  -- All is put.
  pub puts_all : ¬ (at < end) → 0 < length all → Did old now (DoesPutBy Step old.caller id place all (Ok tt))
  puts_all past some =
      let below = p.below in
      let is_end = p.is_end in
      let none : drop (at - place) all ≡ [] = drop_all (at - place) all (omega arith) in
      let begun : ¬ (putting at (drop (at - place) all) ≡ putting place all) = λ same. let here : at ≡ place = ap (λ (x : Putting). x.at) same in
      absurd (omega arith) in
      going_done p.going true begun (none, refl)

-- ---- pieces

-- A piece of the first of these bytes.
pub puts_piece : (c : Caller) (id : ArenaId) (at width v : ℕ) (bytes : List ℕ) (own : List Entry) → 0 < length bytes
    → width ≡ piece_width at (at + length bytes) → v ≡ number_of (take width bytes) → PutsPiece c id at width v own
    → PutsOn c id (putting at bytes) own (putting (at + width) (drop width bytes))
puts_piece c id at width v bytes own some n e p =
    let in_value = subst (λ (k : ℕ). PutsPiece c id at width k own) e p in
    record {
      more = some;
      piece = subst (λ (k : ℕ). PutsPiece c id at k (number_of (take k bytes)) own) n in_value;
      at = ap (λ n. at + n) n;
      bytes = ap (λ n. drop n bytes) n;
    }

-- One piece more.
pub puts_piece_on : {old now next : View} {id : ArenaId} {place end at : ℕ} {all : List ℕ} → IsPutting PutsOn old now id place end all at → (width v : ℕ)
    → at < end → width ≡ piece_width at end → v ≡ number_of (take width (drop (at - place) all)) → next.inside ≡ None
    → Did now next (DoesPutPiece now.caller id at width v (Ok tt)) → IsPutting PutsOn old next id place end all (at + width)
puts_piece_on {now = now} {id = id} {place = place} {end = end} {at = at} {all = all} p width v more w is out d =
    let above = p.above in
    let is_end = p.is_end in
    let len = length-drop (at - place) all in
    let left : end ≡ at + length (drop (at - place) all) = omega arith in
    let below : at + width ≤ end = omega arith in
    let step = puts_piece now.caller id at width v (drop (at - place) all) d.own (omega arith) (w ∙ ap (piece_width at) left) is d.does.1 in
    puts_on p width below out (record { own = d.own; does = (d.does.0, step); makes = d.makes })

-- A number that lies in one word is put as one piece.
pub put_one : {old now : View} (id : ArenaId) (place width number v : ℕ) (result : Result (Unit {0}) Refusal) → 0 < width → place % 8 + width ≤ 8
    → v ≡ lane number 0 width → old.inside ≡ None → now.inside ≡ None → Did old now (DoesPutPiece old.caller id place width v result)
    → Did old now (DoesPut old.caller id place (bytes_of width number) result)
put_one {old} {now} id place width number v (Ok u) some fits e out then d =
    let len : length (bytes_of width number) ≡ width = length-bytes_of width number in
    let first : IsPutting PutsOn old old id place (place + width) (bytes_of width number) place = put_starts PutsOn (omega arith) out in
    let whole : width ≡ piece_width place (place + width) = omega arith in
    let none : 0 ≡ place - place = omega arith in
    let part = e ∙ ap (λ n. lane number n width) none ∙ lane-number_of width (place - place) width number (omega arith) in
    puts_all (puts_piece_on first width v (omega arith) whole part then d) (omega arith) (omega arith)
put_one {old} {now} id place width number v (Err r) some fits e out then d =
    let len : length (bytes_of width number) ≡ width = length-bytes_of width number in
    let first : IsPutting PutsOn old old id place (place + width) (bytes_of width number) place = put_starts PutsOn (omega arith) out in
    put_refused first r (omega arith) d

-- One piece more of a number.
pub puts_number_on : {old now next : View} {id : ArenaId} {place end at : ℕ} (width number : ℕ)
    → IsPutting PutsOn old now id place end (bytes_of width number) at → (piece v : ℕ) → at < end → piece ≡ piece_width at end
    → v ≡ lane number (at - place) piece → next.inside ≡ None
    → Did now next (DoesPutPiece now.caller id at piece v (Ok tt)) → IsPutting PutsOn old next id place end (bytes_of width number) (at + piece)
puts_number_on {place = place} {at = at} width number p piece v more w is out d =
    let above = p.above in
    let is_end = p.is_end in
    let len = length-bytes_of width number in
    puts_piece_on p piece v more w (is ∙ lane-number_of width (at - place) piece number (omega arith)) out d

-- The start and a step of a loop that puts a number.
pub ruleset puts_number = (put_starts, puts_piece_on, length-bytes_of, lane-number_of)
