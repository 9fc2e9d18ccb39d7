-- What runs of visits of the only caller do to the bytes of an arena.
use Rattle.std.proofs.Common.{◌≡◌, ◌≢◌, ℕ, ◌+◌, ◌-◌, ◌*◌, ◌%◌, ◌^◌, ◌<◌, ◌≤◌, true, List, [], ◌++◌, length, take, drop, get_or, refl, sym, ap, subst, ◌∙◌, arith, append_assoc, Option, Some, None, Ok, Err}
use Rattle.std.proofs.{lemmas.List.{append-nil, drop-drop, length-take-le, Elements.{All-take, All-from_get_or}}, Math.Seq.{take-add}}
use mir.Syntax.{w8}
use mir.Val.{Fits}
use Rattle.fm_base.specs.declared.{caller.Caller.{Caller}, arena_id.ArenaId.{ArenaId}, refusal.Refusal.{Refusal, TheVariants.{Closed, WrongThread}}}
use Rattle.fm_base.specs.{Arenas.{Alive, Arena, State, arena_of, has_arena, changed}, Calls.{Entry}, Histories.{IsLegal, state_after}}
use Rattle.fm_base.{specs.{View.{View, Did, IsByItself}, Visits.{Run, ends, goes_on, piece_width}}, proofs.Faith.{Makes-alone}}
use Rattle.fm_base.proofs.{Lookup.{arena_of-id, changed_lookup, changed_same, changed_twice, lookup_changed}, Making.{IsLegal-split, state_after-append}}
use Rattle.fm_base_bytes.{specs.{Bytes.{AreBytes, bytes_of, number_of}, Words.{bytes_in}}, proofs.Bytes.{bytes_of-number_of, number_of-lt}}
use Rattle.fm_segment_access.specs.Alone.{bytes_of_arena, with_bytes, with_words, FindsAs, ChangesBytes, StaysOut}
use Rattle.fm_segment_access.{specs.Ranges.{Reading, ReadsOn, EndsReading, ReadsRange, DoesRefuse, DoesRead}, proofs.Splicing.{with_none}}
use Rattle.fm_segment_access.proofs.Visits.{VisitRefused, visit_refused, visit_reads}

-- ---- refusals

-- A call that is refused, where a run that stops shows that the arena isn't alive and changes nothing.
pub shut_out : (old now : View) (id : ArenaId) (Stops : List Entry → Type 0) (r : Refusal) → IsByItself old
    → ((own : List Entry) → Stops own → IsLegal old.limit old.state own → VisitRefused old.state (state_after old.limit old.state own) id)
    → Did old now (DoesRefuse old.caller id Stops r) → StaysOut old now id
shut_out old now id Stops WrongThread alone refused d =
    let m = Makes-alone old now d.own alone d.makes in
    record { shut = λ o. d.does.0 o.usable; same = m.1 ∙ ap (state_after old.limit old.state) d.does.1 }
shut_out old now id Stops Closed alone refused d =
    let m = Makes-alone old now d.own alone d.makes in
    let v = refused d.own d.does.1 m.0 in
    record { shut = λ o. v.over o.alive; same = m.1 ∙ v.same }
shut_out old now id Stops r alone refused d = absurd d.does

-- ---- reading

-- A run of reads answers the bytes that stand there, or stops as the arena isn't alive.
abbrev Answers : State → ArenaId → ℕ → Reading → Option (List ℕ) → Type 0
Answers s id end x (Some bytes) = bytes ≡ x.bytes ++ take (end - x.at) (drop x.at (bytes_of_arena s id))
Answers s id end x None = ¬ ((arena_of s id).life ≡ Alive)

pub record RunReads (s t : State) (id : ArenaId) (end : ℕ) (x : Reading) (answer : Option (List ℕ)) : Type 0 where
  pub answers : Answers s id end x answer
  pub same : t ≡ s

-- One piece more, and the rest.
answers_on : (s : State) (id : ArenaId) (end width v : ℕ) (x y : Reading) (answer : Option (List ℕ)) → width ≤ end - x.at
    → bytes_of width v ≡ take width (drop x.at (bytes_of_arena s id))
    → y.at ≡ x.at + width → y.bytes ≡ x.bytes ++ bytes_of width v → Answers s id end y answer → Answers s id end x answer
answers_on s id end width v x y None h e at bytes a = a
answers_on s id end width v x y (Some all) h e at bytes a =
    let b = bytes_of_arena s id in
    let d = drop x.at b in
    let sum : end - x.at ≡ width + (end - y.at) = omega arith in
    let past : drop width (drop x.at (bytes_of_arena s id)) ≡ drop y.at (bytes_of_arena s id) =
    drop-drop width x.at (bytes_of_arena s id) ∙ ap (λ n. drop n (bytes_of_arena s id)) (sym at) in
    let two : take (end - x.at) (drop x.at (bytes_of_arena s id)) ≡ bytes_of width v ++ take (end - y.at) (drop y.at (bytes_of_arena s id)) =
    ap (λ n. take n d) sum ∙ take-add width (end - y.at) d ∙ ap (λ bs. bs ++ take (end - y.at) (drop width d)) (sym e)
    ∙ ap (λ bs. bytes_of width v ++ take (end - y.at) bs) past in
    a ∙ ap (λ bs. bs ++ take (end - y.at) (drop y.at b)) bytes
    ∙ append_assoc x.bytes (bytes_of width v) (take (end - y.at) (drop y.at b))
    ∙ ap (λ bs. x.bytes ++ bs) (sym two)

module _ (limit : ℕ) (c : Caller) (id : ArenaId) (end : ℕ) where
  -- The end of a run of reads.
  reads_end : (s : State) (x : Reading) (own : List Entry) (answer : Option (List ℕ))
      → EndsReading c id end x own answer → IsLegal limit s own → RunReads s (state_after limit s own) id end x answer
  reads_end s x own (Some bytes) e legal =
      let none : end - x.at ≡ 0 = (let h = e.0 in omega arith) in
      let rest : take (end - x.at) (drop x.at (bytes_of_arena s id)) ≡ [] = ap (λ n. take n (drop x.at (bytes_of_arena s id))) none in
      record {
        answers = e.1 ∙ sym (ap (λ bs. x.bytes ++ bs) rest ∙ append-nil x.bytes);
        same = ap (state_after limit s) e.2;
      }
  reads_end s x own None e legal =
      let v = visit_refused limit c s id own e.1 legal in
      record { answers = v.over; same = v.same }

  -- A run of reads finds the bytes that stand there, and changes nothing.
  reads_run : (s : State) (x : Reading) (own : List Entry) (answer : Option (List ℕ))
      → Run (ReadsOn c id end) (EndsReading c id end) x own answer → IsLegal limit s own → RunReads s (state_after limit s own) id end x answer
  reads_run s x own answer (ends e) legal = reads_end s x own answer e legal
  reads_run s x own answer (goes_on y first rest step run) legal =
      let parts = IsLegal-split limit s first rest legal in
      let fits : x.at % 8 + piece_width x.at end ≤ 8 = omega arith in
      let part : piece_width x.at end ≤ end - x.at = omega arith in
      let v = visit_reads limit c s id x.at (piece_width x.at end) step.v first step.piece fits parts.0 in
      let left : IsLegal limit s rest = subst (λ (t : State). IsLegal limit t rest) v.same parts.1 in
      let more = reads_run s y rest answer run left in
      record {
        answers = answers_on s id end (piece_width x.at end) step.v x y answer part v.value step.at step.bytes more.answers;
        same = state_after-append limit s first rest ∙ ap (λ (t : State). state_after limit t rest) v.same ∙ more.same;
      }

module _ {X : Type 0} (mean : List ℕ → X) (old now : View) (id : ArenaId) (place width : ℕ) where
  -- What the only caller reads is what the bytes that stand there mean.
  pub read_alone : (x : X) → Did old now (DoesRead mean old.caller id place width (Ok x)) → IsByItself old → FindsAs mean old now id place width x
  read_alone x d alone =
      let m = Makes-alone old now d.own alone d.makes in
      let r = d.does.1 in
      let all = reads_run old.limit old.caller id (place + width) old.state (record { at = place; bytes = [] }) d.own (Some r.bytes) r.visits m.0 in
      let size : place + width - place ≡ width = omega arith in
      record { value = r.value ∙ ap mean (all.answers ∙ ap (λ k. take k (drop place (bytes_of_arena old.state id))) size); same = m.1 ∙ all.same }

  -- It is refused where the arena isn't open to it.
  pub read_shut : (r : Refusal) → Did old now (DoesRead mean old.caller id place width (Err r)) → IsByItself old → StaysOut old now id
  read_shut r d alone =
      shut_out old now id (λ es. ReadsRange old.caller id place (place + width) es None) r alone
      (λ own run legal.
      let all = reads_run old.limit old.caller id (place + width) old.state (record { at = place; bytes = [] }) own None run legal in
      record { over = all.answers; same = all.same }) d

-- ---- putting

-- from s to t these bytes were put into the arena, from the place on
pub record Puts (s t : State) (id : ArenaId) (place : ℕ) (these : List ℕ) : Type 0 where
  pub words : List ℕ
  pub state : t ≡ changed s id (with_words words)
  pub bytes : bytes_in words ≡ with_bytes (bytes_of_arena s id) place these

-- No byte.
pub puts_none : (s : State) (id : ArenaId) (place : ℕ) (bytes : List ℕ) → bytes ≡ [] → Puts s s id place bytes
puts_none s id place bytes none =
    let words = (arena_of s id).words in
    record {
      words = words;
      state = sym (changed_same s id (with_words words) refl);
      bytes = rw none (sym (with_none (bytes_of_arena s id) place));
    }

module _ {s t : State} {id : ArenaId} (known : has_arena s id ≡ true) {place : ℕ} {bytes : List ℕ} (p : Puts s t id place bytes) where
  -- The arena after it.
  pub there : arena_of t id ≡ with_words p.words (arena_of s id)
  there = ap (λ (u : State). arena_of u id) p.state ∙ lookup_changed s id (with_words p.words) (λ a. refl) known

  pub bytes_there : bytes_of_arena t id ≡ with_bytes (bytes_of_arena s id) place bytes
  bytes_there = ap (λ (a : Arena). bytes_in a.words) there ∙ p.bytes

  -- The other arenas keep their bytes.
  pub other_bytes : (other : ArenaId) → other ≢ id → bytes_of_arena t other ≡ bytes_of_arena s other
  other_bytes other n =
      let P : Arena → Arena → Type 0 = λ a b. a.id ≢ id → b.words ≡ a.words in
      let here : P (arena_of s id) (with_words p.words (arena_of s id)) = λ m. absurd (m (arena_of-id s id)) in
      let at : P (arena_of s other) (arena_of (changed s id (with_words p.words)) other) =
      changed_lookup P (with_words p.words) (λ a. refl) (λ a m. refl) s id here other in
      ap (λ (u : State). bytes_of_arena u other) p.state ∙ ap bytes_in (at (λ e. n (sym (arena_of-id s other) ∙ e)))

  -- Bytes that are put behind it: of both, where the bytes are those of one.
  pub puts_both : {u : State} {at from : ℕ} {more all : List ℕ} → Puts t u id at more
      → with_bytes (with_bytes (bytes_of_arena s id) place bytes) at more ≡ with_bytes (bytes_of_arena s id) from all → Puts s u id from all
  puts_both {at = at} {more = more} q e = record {
    words = q.words;
    state = q.state ∙ ap (λ (u : State). changed u id (with_words q.words)) p.state ∙ changed_twice s id (with_words p.words) (with_words q.words) (λ a. refl);
    bytes = q.bytes ∙ ap (λ bs. with_bytes bs at more) bytes_there ∙ e;
  }

pub changes : (old now : View) (id : ArenaId) (place : ℕ) (bytes : List ℕ) → has_arena old.state id ≡ true → Puts old.state now.state id place bytes
    → ChangesBytes old now id place bytes
changes old now id place bytes known p =
    record {
      changed = bytes_there known p;
      others = other_bytes known p;
      rest = p.state ∙ ap (λ (a : Arena). changed old.state id (with_words a.words)) (sym (there known p));
    }

-- ---- bytes that are to be put

-- Bytes of a slice.
pub AreBytes-slice : (bytes : List ℕ) → ((i : ℕ) → Fits w8 (get_or bytes i 0)) → AreBytes bytes
AreBytes-slice bytes fits = All-from_get_or (λ b. b < 256) bytes 0 (λ i below. omega (arith, fits i))

-- the bytes of a piece, as a number
pub record IsPart (bytes : List ℕ) (width v : ℕ) : Type 0 where
  pub count : length (take width bytes) ≡ width
  pub small : v < 2 ^ (8 * width)
  pub are : bytes_of width v ≡ take width bytes

-- The first bytes of a list are a piece.
pub is_part : (bytes : List ℕ) (width v : ℕ) → AreBytes bytes → width ≤ length bytes → v ≡ number_of (take width bytes) → IsPart bytes width v
is_part bytes width v h fits e =
    let part = take width bytes in
    let are : AreBytes part = All-take (λ b. b < 256) width bytes h in
    let count : length (take width bytes) ≡ width = length-take-le width bytes fits in
    record {
      count = count;
      small = rw e (subst (λ (k : ℕ). number_of (take width bytes) < 2 ^ (8 * k)) count (number_of-lt part are));
      are = ap (bytes_of width) e ∙ ap (λ k. bytes_of k (number_of part)) (sym count) ∙ bytes_of-number_of part are;
    }
