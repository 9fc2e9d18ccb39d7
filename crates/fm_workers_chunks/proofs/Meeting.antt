-- A chunk is met, answered over, and its arena closed.
use Rattle.std.proofs.Math.Nat.{zero-mod}
use Rattle.std.proofs.Common.{arith, ◌≡◌, ℕ, [], true, List, Result, Ok, Err, IfOk, ap, sym, ◌∙◌, subst}
use Rattle.fm_base.specs.{declared.{arena_id.ArenaId.{ArenaId}, caller.Caller.{Caller}, refusal.Refusal.{Refusal}}, Arenas.{Ended, arena_of, has_arena}, Calls.{Entry}, Histories.{state_after}}
use Rattle.fm_base.specs.View.{Makes}
use Rattle.fm_base.proofs.{Making.{Makes-then}, Outcomes.{Makes-lasts}}
use Rattle.fm_words.specs.declared.shape.Shape.{Shape}
use Rattle.fm_arena.{specs.Learnt.{AfterMeet}, proofs.Lasting.{stays}}
use Rattle.fm_arena.specs.Shares.{IsGone}
use Rattle.fm_records.specs.{declared.found.Found.{Found}, Few.{AreFew}}
use Rattle.fm_records_query.specs.Plan.{Plan}
use Rattle.fm_rule_calls.{specs.{Told.{view_of_pass}}, proofs.Telling.{makes_of}}
use Rattle.fm_rule_facts.specs.Views.{View, limit_of, state_in, IsKnown}
use Rattle.fm_segment.specs.Region.{region_of}
use Rattle.fm_workers_chunks.specs.{Answering.{AnswersAndCloses, AnsweredAndClosed, CanAnswer}, Jobs.{HasGiven}, Serving.{CanServe, IsOfChunk, Serves}}
use Rattle.fm_workers_chunks.specs.declared.{chunk.Chunk.{Chunk}, served.Served.{Served}}

-- ---- said of the chunk that is given back

place_in : {c : Caller} {p : Plan} {r : Result (List Found) Refusal} {own : List Entry} {a b : ArenaId} {m n : ℕ} → a ≡ b → m ≡ n
    → AnswersAndCloses c p (region_of a 0 m) r own → AnswersAndCloses c p (region_of b 0 n) r own
place_in {c} {p} {r} {own} {a} {b} {m} {n} e f x =
    subst (λ (k : ℕ). AnswersAndCloses c p (region_of b 0 k) r own) f (subst (λ (i : ArenaId). AnswersAndCloses c p (region_of i 0 m) r own) e x)

count_in : (p : Plan) (r : Result (List Found) Refusal) {m n : ℕ} → m ≡ n → IfOk r (AreFew m p) → IfOk r (AreFew n p)
count_in p r e x = subst (λ (k : ℕ). IfOk r (AreFew k p)) e x

known_in : (limit : ℕ) {a b : ArenaId} {es fs : List Entry} → a ≡ b → es ≡ fs → has_arena (state_after limit [] es) a ≡ true
    → has_arena (state_after limit [] fs) b ≡ true
known_in limit {a} {b} {es} {fs} e f x =
    subst (λ (hs : List Entry). has_arena (state_after limit [] hs) b ≡ true) f (subst (λ (i : ArenaId). has_arena (state_after limit [] es) i ≡ true) e x)

ended_in : (new : View) (r : Result (List Found) Refusal) {a b : ArenaId} {es : List Entry} → a ≡ b → new.seen ≡ es → IfOk r (λ _. IsGone new a)
    → IfOk r (λ _. (arena_of (state_after (limit_of new.shape) [] es) b).life ≡ Ended)
ended_in new (Ok x) {a} {b} {es} e f gone =
    subst (λ (hs : List Entry). (arena_of (state_after (limit_of new.shape) [] hs) b).life ≡ Ended) f
    (subst (λ (i : ArenaId). (arena_of (state_in new) i).life ≡ Ended) e gone.ended.life)
ended_in new (Err x) e f gone = tt

-- ---- served

-- What the note had seen, by the shape that the pass has then.
gave_then : {old cut : View} {p : Plan} {chunk : Chunk} → CanServe old p chunk → AfterMeet old cut chunk.note.seen
    → HasGiven (limit_of cut.shape) p chunk.arena chunk.count chunk.note.seen
gave_then {p = p} {chunk = chunk} can met =
    subst (λ (z : Shape). HasGiven (limit_of z) p chunk.arena chunk.count chunk.note.seen) (sym met.did.goes.same_shape) can.meet.gave

-- Its segment can be asked.
pub can_answer : {old cut : View} {p : Plan} {chunk : Chunk} → CanServe old p chunk → AfterMeet old cut chunk.note.seen
    → CanAnswer (view_of_pass cut) p (region_of chunk.arena 0 chunk.count)
can_answer {p = p} {chunk = chunk} can met =
    let gave = gave_then can met in
    let more = met.given chunk.arena in
    let given = gave.given in
    record {
      query = record {
        outside = met.inside ∙ can.outside;
        known = record { arena = met.known chunk.arena gave.known; given = omega arith };
        aligned = zero-mod p.alignment;
      };
      even = gave.even;
      shared = gave.shared;
    }

-- It was served.
pub serves : {old cut new : View} {p : Plan} {chunk : Chunk} (d : Served) → CanServe old p chunk → AfterMeet old cut chunk.note.seen
    → AnsweredAndClosed cut new p (region_of chunk.arena 0 chunk.count) d.answer → IsOfChunk new chunk d → Serves old new p chunk d
serves {old} {cut} {new} {p} {chunk} d can met a is =
    let caller : cut.caller ≡ old.caller = met.did.goes.same_caller in
    let none : Makes (view_of_pass old) (view_of_pass cut) [] =
    subst (λ (own : List Entry). Makes (view_of_pass old) (view_of_pass cut) own) met.did.does (makes_of old cut met.did.own met.did.goes met.did.rest) in
    let same = stays cut new a.did.own a.did.makes in
    let lasts = Makes-lasts (view_of_pass cut) (view_of_pass new) a.did.own a.did.makes in
    let gave = gave_then can met in
    let known : IsKnown new chunk.arena = lasts.known chunk.arena (met.known chunk.arena gave.known) in
    let told = a.did.makes.told in
    record {
      is = is;
      did = record {
        own = a.did.own;
        does = subst (λ (c : Caller). AnswersAndCloses c p (region_of chunk.arena 0 chunk.count) d.answer a.did.own) caller a.did.does;
        makes = Makes-then (view_of_pass old) (view_of_pass cut) (view_of_pass new) [] a.did.own none a.did.makes;
      };
      behind = record {
        caller = cut.caller;
        cut = cut.seen;
        more = a.did.makes.all;
        met = met.met;
        parts = is.seen ∙ told.seen;
        does = place_in (sym is.arena) (sym is.count)
            (subst (λ (es : List Entry). AnswersAndCloses cut.caller p (region_of chunk.arena 0 chunk.count) d.answer es) (sym a.did.makes.by_caller) a.did.does);
        refused = a.refused;
        answer = a.answer;
        few = count_in p d.answer (sym is.count) a.few;
        known = known_in (limit_of new.shape) (sym is.arena) (sym is.seen) known;
        ended = ended_in new d.answer (sym is.arena) (sym is.seen) a.gone;
      };
      home = same.home ∙ met.did.goes.same_home;
      limit = ap limit_of (same.shape ∙ met.did.goes.same_shape);
      outside = a.outside;
    }
