-- Entries that change only bytes of one arena below a place.
use Rattle.std.proofs.Common.{◌≡◌, ℕ, ◌+◌, ◌*◌, ◌/◌, ◌%◌, ◌^◌, ◌<◌, ◌≤◌, Bool, true, false, MatchBool, cond, Result, Ok, List, [], ◌∷◌, ◌++◌, length, take, drop, inr, refl, sym, ap, subst, ◌∙◌, arith}
use Rattle.std.specs.Prelude.{⊤}
use Rattle.fm_base_bytes.{specs.{Words.{byte_of}, Bytes.{bytes_of, number_of, replaced}}, proofs.Bytes.{length-bytes_of, lane-number_of, bytes_of-replaced}}
use Rattle.fm_base.specs.{declared.{caller.Caller.{Caller}, arena_id.ArenaId.{ArenaId}, refusal.Refusal.{Refusal}}, Arenas.{are_one, State, arena_of}}
use Rattle.fm_base.specs.Calls.{Call, Read, Write, SwapIf, Add, Leave, Reply, Fine, Found, Entry, entry_of}
use Rattle.fm_base.specs.{Histories.{IsLegal, DifferBelow, IsTidyIn, IsTidy, made_by}, Machine.{reply_to, after}}
use Rattle.fm_base.{specs.Visits.{Acts, entries_of, visit, refused_visit, Tries, looked, missed, hit}, proofs.Names.{are_one-false}}
use Rattle.fm_base.proofs.Growing.{Grows-state_after}
use Rattle.fm_segment_access.{specs.Alone.{with_bytes}, proofs.{Keeping.{IsKept}, Splicing.{keeps_elsewhere}}}
use Rattle.fm_segment_access.specs.Pieces.{PutsBytes, whole, narrow, PutsPiece, ReadsPiece}
use Rattle.fm_segment_laws.specs.Accesses.{IsTidyBy}

-- the call, which was answered so, changes only bytes of this arena below `end`
abbrev pub ChangesBelow : ArenaId → ℕ → Call → Reply → Type 0
ChangesBelow a end (Write id word value) reply = (id ≡ a) × (8 * word + 8 ≤ end)
ChangesBelow a end (SwapIf id word old new) (Found now) = now ≡ old → (id ≡ a) × DifferBelow end word old new
ChangesBelow a end (SwapIf id word old new) reply = ⊤
ChangesBelow a end (Add id word n) reply = (id ≡ a) × (8 * word + 8 ≤ end)
ChangesBelow a end call reply = ⊤

abbrev pub StayBelow : ArenaId → ℕ → List Entry → Type 0
StayBelow a end [] = ⊤
StayBelow a end (e ∷ es) = ChangesBelow a end e.call e.reply × StayBelow a end es

abbrev pub ActBelow : ArenaId → ℕ → Acts → Type 0
ActBelow a end [] = ⊤
ActBelow a end (act ∷ acts) = ChangesBelow a end act.0 act.1 × ActBelow a end acts

-- No entry, and a visit that was refused.
pub stay_none : (a : ArenaId) (end : ℕ) (own : List Entry) → own ≡ [] → StayBelow a end own
stay_none a end own e = subst (λ (es : List Entry). StayBelow a end es) (sym e) tt

pub stay_refused : (a : ArenaId) (end : ℕ) (c : Caller) (id : ArenaId) (own : List Entry) → own ≡ refused_visit c id → StayBelow a end own
stay_refused a end c id own e = subst (λ (es : List Entry). StayBelow a end es) (sym e) (tt, tt)

-- A call that does nothing where it has no byte to put.
pub stay_unless : (a : ArenaId) (end : ℕ) (none : Bool) (result : Result (Unit {0}) Refusal) (own : List Entry) (Does : Type 0) → (Does → StayBelow a end own)
    → MatchBool none ((result ≡ Ok tt) × (own ≡ [])) Does → StayBelow a end own
stay_unless a end true result own Does f d = stay_none a end own d.1
stay_unless a end false result own Does f d = f d

-- What stays below goes on so behind what does.
pub stay_append : (a : ArenaId) (end : ℕ) (es fs : List Entry) → StayBelow a end es → StayBelow a end fs → StayBelow a end (es ++ fs)
stay_append a end [] fs h k = k
stay_append a end (e ∷ es) fs h k = (h.0, stay_append a end es fs h.1 k)

stay_of_acts : (a : ArenaId) (end : ℕ) (c : Caller) (acts : Acts) → ActBelow a end acts → StayBelow a end (entries_of c acts)
stay_of_acts a end c [] h = tt
stay_of_acts a end c (act ∷ acts) h = (h.0, stay_of_acts a end c acts h.1)

-- A visit stays below where its acts do.
pub stay_visit : (a : ArenaId) (end : ℕ) (c : Caller) (id : ArenaId) (acts : Acts) → ActBelow a end acts → StayBelow a end (visit c id acts)
stay_visit a end c id acts h = (tt, stay_append a end (entries_of c acts) (entry_of c (Leave id) Fine ∷ []) (stay_of_acts a end c acts h) (tt, tt))

-- A visit that reads changes nothing.
stay_reads : (a : ArenaId) (end : ℕ) (c : Caller) (id : ArenaId) (place width v : ℕ) (own : List Entry) → ReadsPiece c id place width v own
    → StayBelow a end own
stay_reads a end c id place width v own r =
    rw r.visits (stay_visit a end c id ((Read id (place / 8), Found r.word) ∷ []) (tt, tt))

-- So a call stays below where its puts do.
pub stay_kept : (a : ArenaId) (end : ℕ) (c : Caller) → IsKept c (StayBelow a end)
stay_kept a end c = record { none = tt; both = stay_append a end; refused = λ id. (tt, tt); reads = stay_reads a end c }

-- ---- bytes that are put

-- A byte past the bytes that are replaced stays.
replaced_past : (word at width v k : ℕ) → v < 2 ^ (8 * width) → at + width ≤ k → byte_of (replaced word at width v) k ≡ byte_of word k
replaced_past word at width v k h past =
    let all = bytes_of (k + 1) word in
    let put = bytes_of width v in
    let size : length (bytes_of width v) ≡ width = length-bytes_of width v in
    let within : at + length (bytes_of width v) ≤ length (bytes_of (k + 1) word) = omega (arith, length-bytes_of (k + 1) word) in
    let is : bytes_of (k + 1) (replaced word at width v) ≡ with_bytes all at put =
    bytes_of-replaced (k + 1) at width word v (omega arith) h ∙ ap (λ n. take at all ++ (put ++ drop (at + n) all)) (sym size) in
    lane-number_of (k + 1) k 1 (replaced word at width v) (omega arith)
    ∙ ap (λ bs. number_of (take 1 (drop k bs))) is
    ∙ ap number_of (keeps_elsewhere all put at k 1 within (inr (omega arith)))
    ∙ sym (lane-number_of (k + 1) k 1 word (omega arith))

pub tries_below : (id : ArenaId) (end place width v found : ℕ) (acts : Acts) → v < 2 ^ (8 * width) → place % 8 + width ≤ 8 → place + width ≤ end
    → Tries id (place / 8) (λ word. replaced word (place % 8) width v) found acts → ActBelow id end acts
tries_below id end place width v found acts h fits ends (looked now rest t) = (tt, tries_below id end place width v found rest h fits ends t)
tries_below id end place width v found acts h fits ends (missed now old new rest n t) =
    ((λ e. absurd (n e)), tries_below id end place width v found rest h fits ends t)
tries_below id end place width v found acts h fits ends hit =
    ((λ e. (refl, λ at l p. replaced_past found (place % 8) width v at h (omega arith))), tt)

acts_below : (id : ArenaId) (end place width v : ℕ) (acts : Acts) → v < 2 ^ (8 * width) → place % 8 + width ≤ 8 → place + width ≤ end
    → PutsBytes id place width v acts → ActBelow id end acts
acts_below id end place width v acts h fits ends (whole e) = ((refl, omega arith), tt)
acts_below id end place width v acts h fits ends (narrow found tried l t) = tries_below id end place width v found tried h fits ends t

-- A piece that is put stays below its end.
pub stay_puts : (c : Caller) (id : ArenaId) (end place width v : ℕ) (own : List Entry) → v < 2 ^ (8 * width) → place % 8 + width ≤ 8 → place + width ≤ end
    → PutsPiece c id place width v own → StayBelow id end own
stay_puts c id end place width v own h fits ends p =
    subst (λ (es : List Entry). StayBelow id end es) (sym p.visits) (stay_visit id end c id p.acts (acts_below id end place width v p.acts h fits ends p.puts))

-- ---- tidy in a state

tidy_here : (limit : ℕ) (s : State) (a : ArenaId) (end : ℕ) (call : Call) → end ≤ (arena_of s a).given → ChangesBelow a end call (reply_to limit s call)
    → IsTidyIn s call
tidy_here limit s a end (Write id word value) h b = λ at l p.
    let e : (arena_of s id).given ≡ (arena_of s a).given = ap (λ (x : ArenaId). (arena_of s x).given) b.0 in
    let k = b.1 in
    absurd (omega arith)
tidy_here limit s a end (SwapIf id word old new) h b = λ is at l p.
    let d = b is in
    let e : (arena_of s id).given ≡ (arena_of s a).given = ap (λ (x : ArenaId). (arena_of s x).given) d.0 in
    d.1 at l (omega arith)
tidy_here limit s a end (Add id word n) h b = λ at l p.
    let e : (arena_of s id).given ≡ (arena_of s a).given = ap (λ (x : ArenaId). (arena_of s x).given) b.0 in
    let k = b.1 in
    absurd (omega arith)
tidy_here limit s a end call h b = tt

-- A caller's entries that stay below a count that was given are tidy.
pub tidy_by : (c : Caller) (limit end : ℕ) (a : ArenaId) (s : State) (all : List Entry) → IsLegal limit s all → end ≤ (arena_of s a).given
    → StayBelow a end (made_by c all) → IsTidyBy c limit s all
tidy_by c limit end a s [] legal h b = tt
tidy_by c limit end a s (e ∷ es) legal h b =
    let next = after limit s e in
    let grown = (Grows-state_after limit s (e ∷ []) (legal.0, legal.1, tt)).given a in
    let still : end ≤ (arena_of (after limit s e) a).given = omega arith in
    let P : Bool → Type 0 = λ x. are_one e.caller c ≡ x → StayBelow a end (cond x (e ∷ made_by c es) (made_by c es)) → IsTidyBy c limit s (e ∷ es) in
    let go : (x : Bool) → P x = λ x. elim x as P [
      | true ↦ (λ is k.
          let here : ChangesBelow a end e.call (reply_to limit s e.call) = subst (λ (r : Reply). ChangesBelow a end e.call r) legal.1 k.0 in
          ((λ mine. tidy_here limit s a end e.call h here), tidy_by c limit end a next es legal.2 still k.1))
      | false ↦ (λ is k. ((λ mine. absurd (are_one-false e.caller c is mine)), tidy_by c limit end a next es legal.2 still k))
    ] in
    go (are_one e.caller c) refl b

-- Entries that stay below a count that was given are tidy.
pub tidy_alone : (limit end : ℕ) (a : ArenaId) (s : State) (own : List Entry) → IsLegal limit s own → end ≤ (arena_of s a).given → StayBelow a end own
    → IsTidy limit s own
tidy_alone limit end a s [] legal h b = tt
tidy_alone limit end a s (e ∷ es) legal h b =
    let grown = (Grows-state_after limit s (e ∷ []) (legal.0, legal.1, tt)).given a in
    let still : end ≤ (arena_of (after limit s e) a).given = omega arith in
    let here : ChangesBelow a end e.call (reply_to limit s e.call) = subst (λ (r : Reply). ChangesBelow a end e.call r) legal.1 b.0 in
    (tidy_here limit s a end e.call h here, tidy_alone limit end a (after limit s e) es legal.2 still b.1)
