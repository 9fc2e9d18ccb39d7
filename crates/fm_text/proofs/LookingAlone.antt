-- What looking for a text finds where the caller is by itself.
use Rattle.std.proofs.Common.{◌≡◌, ℕ, ◌+◌, ◌-◌, ◌%◌, ◌≤◌, List, [], ◌++◌, take, drop, sym, ap, subst, ◌∙◌, arith, Some, Result, Ok, Err}
use Rattle.std.{specs.Prelude.{⊤}, proofs.{lemmas.List.{take-append-drop, take-take, drop-drop, take-append-le}, Math.Seq.{take-add}}}
use Rattle.fm_base.specs.{declared.{caller.Caller.{Caller}, arena_id.ArenaId.{ArenaId}, refusal.Refusal.{Refusal, TheVariants.{NotText, NoZero, WrongThread, Closed, Memory}}}, Calls.{Entry}}
use Rattle.fm_base.specs.{Arenas.{Alive, State, arena_of}, Histories.{IsLegal, state_after}, View.{View, Did, IsByItself}, Visits.{Run, ends, goes_on, piece_width}}
use Rattle.fm_base.proofs.{Faith.{Makes-alone}, Making.{IsLegal-split, state_after-append}}
use Rattle.fm_segment_access.specs.{Alone.{bytes_of_arena}, Ranges.{Reading}}
use Rattle.fm_segment_access.proofs.Visits.{visit_refused, visit_reads}
use Rattle.fm_text.specs.{Getting.{LooksOn, EndsLooking, Looks, DoesLook, Tells}, Texts.{zero_at, IsTextOf, IsText}}
use Rattle.fm_text.proofs.{Looking.{reading}, Zeros.{zero_before}}

-- The text in the first of these bytes is that in all of them.
text_goes_on : (xs all : List ℕ) (k n : ℕ) (result : Result (List ℕ) Refusal) → xs ≡ take k all → zero_at xs ≡ Some n → IsText (take n xs) result
    → (m : ℕ) × (zero_at all ≡ Some m) × IsText (take m all) result
text_goes_on xs all k n result e z i =
    let rest = drop k all in
    let first = zero_before xs rest n z in
    let whole : xs ++ drop k all ≡ all = ap (λ bs. bs ++ rest) e ∙ take-append-drop k all in
    let below = first.below in
    let same : take n (xs ++ drop k all) ≡ take n xs = take-append-le n xs rest (omega arith) in
    (n, ap zero_at (sym whole) ∙ first.all, subst (λ bs. IsText bs result) (sym same ∙ ap (take n) whole) i)

-- what the only caller is told of all these bytes: their text, why they have none, or that the arena isn't alive
abbrev Finds : State → ArenaId → List ℕ → Result (List ℕ) Refusal → Type 0
Finds s id all (Err Closed) = ¬ ((arena_of s id).life ≡ Alive)
Finds s id all (Err Memory) = ⊤
Finds s id all result = IsTextOf all result

record LookFinds (s t : State) (id : ArenaId) (all : List ℕ) (result : Result (List ℕ) Refusal) : Type 0 where
  finds : Finds s id all result
  same : t ≡ s

module _ (limit : ℕ) (c : Caller) (id : ArenaId) (place end : ℕ) where
  -- the bytes from the place on, up to the end
  abbrev all_of : State → List ℕ
  all_of s = take (end - place) (drop place (bytes_of_arena s id))

  -- those up to `at` were read
  record IsRead (s : State) (x : Reading) : Type 0 where
    above : place ≤ x.at
    below : x.at ≤ end
    bytes : x.bytes ≡ take (x.at - place) (drop place (bytes_of_arena s id))

  -- They are the first of all.
  read_first : (s : State) (x : Reading) → IsRead s x → x.bytes ≡ take (x.at - place) (all_of s)
  read_first s x r =
      let above = r.above in
      let below = r.below in
      r.bytes ∙ sym (take-take (x.at - place) (end - place) (drop place (bytes_of_arena s id)) (omega arith))

  -- One piece more.
  read_on : (s : State) (x y : Reading) (width : ℕ) (more : List ℕ) → IsRead s x → x.at + width ≤ end → more ≡ take width (drop x.at (bytes_of_arena s id))
      → y.at ≡ x.at + width → y.bytes ≡ x.bytes ++ more → IsRead s y
  read_on s x y width more r fits piece at bytes =
      let above = r.above in
      let all = bytes_of_arena s id in
      let from : place + (x.at - place) ≡ x.at = omega arith in
      let behind : drop (x.at - place) (drop place (bytes_of_arena s id)) ≡ drop x.at (bytes_of_arena s id) =
      drop-drop (x.at - place) place all ∙ ap (λ n. drop n all) from in
      let sum : x.at - place + width ≡ y.at - place = omega arith in
      record {
        above = omega arith;
        below = omega arith;
        bytes = bytes ∙ ap (λ bs. bs ++ more) r.bytes ∙ ap (λ bs. take (x.at - place) (drop place all) ++ bs) (piece ∙ ap (take width) (sym behind))
            ∙ sym (take-add (x.at - place) width (drop place all)) ∙ ap (λ n. take n (drop place all)) sum;
      }

  -- Where it ends.
  look_ends : (s : State) (x : Reading) (own : List Entry) (result : Result (List ℕ) Refusal) → IsRead s x → EndsLooking c id end x own result
      → IsLegal limit s own → LookFinds s (state_after limit s own) id (all_of s) result
  look_ends s x own (Err Closed) r e legal = let v = visit_refused limit c s id own e.2 legal in record { finds = v.over; same = v.same }
  look_ends s x own (Err Memory) r e legal = record { finds = tt; same = ap (state_after limit s) e }
  look_ends s x own (Err NoZero) r e legal =
      let all : x.bytes ≡ all_of s = r.bytes ∙ ap (λ n. take (n - place) (drop place (bytes_of_arena s id))) e.1 in
      record { finds = ap zero_at (sym all) ∙ e.0; same = ap (state_after limit s) e.2 }
  look_ends s x own (Err (NotText k)) r e legal = record {
    finds = text_goes_on x.bytes (all_of s) (x.at - place) e.0.0 (Err (NotText k)) (read_first s x r) e.0.1 e.0.2;
    same = ap (state_after limit s) e.1;
  }
  look_ends s x own (Ok t) r e legal = record {
    finds = text_goes_on x.bytes (all_of s) (x.at - place) e.0.0 (Ok t) (read_first s x r) e.0.1 e.0.2;
    same = ap (state_after limit s) e.1;
  }
  look_ends s x own (Err other) r e legal = absurd e.0.2

  -- A run finds the text of all bytes, and changes nothing.
  look_runs : (s : State) (x : Reading) (own : List Entry) (result : Result (List ℕ) Refusal) → IsRead s x
      → Run (LooksOn c id end) (EndsLooking c id end) x own result → IsLegal limit s own → LookFinds s (state_after limit s own) id (all_of s) result
  look_runs s x own result r (ends e) legal = look_ends s x own result r e legal
  look_runs s x own result r (goes_on y first rest step run) legal =
      let parts = IsLegal-split limit s first rest legal in
      let fits : x.at % 8 + piece_width x.at end ≤ 8 = omega arith in
      let more = step.reads.more in
      let part : x.at + piece_width x.at end ≤ end = omega arith in
      let v = visit_reads limit c s id x.at (piece_width x.at end) step.reads.v first step.reads.piece fits parts.0 in
      let left : IsLegal limit s rest = subst (λ (t : State). IsLegal limit t rest) v.same parts.1 in
      let read = read_on s x y (piece_width x.at end) _ r part v.value step.reads.at step.reads.bytes in
      let more = look_runs s y rest result read run left in
      record {
        finds = more.finds;
        same = state_after-append limit s first rest ∙ ap (λ (t : State). state_after limit t rest) v.same ∙ more.same;
      }

-- what the only caller is told, and that nothing changes
pub record LookTells (old new : View) (id : ArenaId) (all : List ℕ) (result : Result (List ℕ) Refusal) : Type 0 where
  pub tells : Tells old id all result
  pub same : new.state ≡ old.state

module _ (old new : View) (id : ArenaId) (place end : ℕ) (begins : place ≤ end) where
  -- the bytes from the place on, up to the end
  abbrev range : List ℕ
  range = take (end - place) (drop place (bytes_of_arena old.state id))

  -- What a run of visits finds.
  look_alone_by : (result : Result (List ℕ) Refusal) → IsByItself old → (d : Did old new (λ own. Looks old.caller id place end result own))
      → LookFinds old.state new.state id range result
  look_alone_by result alone d =
      let m = Makes-alone old new d.own alone d.makes in
      let none : 0 ≡ place - place = omega arith in
      let start : IsRead old.limit old.caller id place end old.state (reading place []) =
      record { above = omega arith; below = begins; bytes = ap (λ n. take n (drop place (bytes_of_arena old.state id))) none } in
      let f = look_runs old.limit old.caller id place end old.state (reading place []) d.own result start d.does m.0 in
      record { finds = f.finds; same = m.1 ∙ f.same }

  -- What was found, as it is told.
  look_as : (result : Result (List ℕ) Refusal) → (Finds old.state id range result → Tells old id range result) → LookFinds old.state new.state id range result
      → LookTells old new id range result
  look_as result f l = record { tells = f l.finds; same = l.same }

  -- What was done, as a run of visits.
  run_of : (result : Result (List ℕ) Refusal) (P : List Entry → Type 0) → ((own : List Entry) → P own → Looks old.caller id place end result own)
      → Did old new P → Did old new (λ own. Looks old.caller id place end result own)
  run_of result P f d = record { own = d.own; does = f d.own d.does; makes = d.makes }

  -- What the only caller is told.
  pub look_alone : (result : Result (List ℕ) Refusal) → Did old new (DoesLook old.caller id place end result) → IsByItself old
      → LookTells old new id range result
  look_alone (Err WrongThread) d alone =
      let m = Makes-alone old new d.own alone d.makes in
      record { tells = λ o. d.does.1 o.usable; same = m.1 ∙ ap (state_after old.limit old.state) d.does.2 }
  look_alone (Err Memory) d alone = look_as (Err Memory) (λ f. f) (look_alone_by (Err Memory) alone (run_of (Err Memory) _ (λ own x. x.2) d))
  look_alone (Err Closed) d alone = look_as (Err Closed) (λ f o. f o.alive) (look_alone_by (Err Closed) alone (run_of (Err Closed) _ (λ own x. x.1) d))
  look_alone (Err NoZero) d alone = look_as (Err NoZero) (λ f. f) (look_alone_by (Err NoZero) alone (run_of (Err NoZero) _ (λ own x. x.1) d))
  look_alone (Err (NotText k)) d alone =
      look_as (Err (NotText k)) (λ f. f) (look_alone_by (Err (NotText k)) alone (run_of (Err (NotText k)) _ (λ own x. x.1) d))
  look_alone (Ok t) d alone = look_as (Ok t) (λ f. f) (look_alone_by (Ok t) alone (run_of (Ok t) _ (λ own x. x.1) d))
  look_alone (Err other) d alone =
      let l = look_alone_by (Err other) alone (run_of (Err other) _ (λ own x. x.1) d) in absurd l.finds.2
