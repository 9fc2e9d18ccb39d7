-- What a caller learns of a query, from what it did; and what the only caller sees.
use Rattle.std.{proofs.Common.{◌≡◌, ℕ, Ok, Err, List, [], ◌∷◌, get_or, refl, sym, ap, ◌∙◌, subst, None, Result, IfOk}, specs.{List.{flat_map}, Prelude.{IfErr}}}
use Rattle.fm_base.specs.declared.{caller.Caller.{Caller}, refusal.Refusal.{Refusal, TheVariants.{Ragged, WrongThread, Closed, Memory}}}
use Rattle.fm_base.specs.{Arenas.{State, Arena, arena_of, changed, word_in}, Calls.{Enter, Read, Leave, Found as Found_word, Entry}}
use Rattle.fm_base.specs.{Histories.{IsLegal, state_after}, Machine.{entered}, View.{View, Makes, Did, IsByItself, inside_after}, Visits.{refused_visit}}
use Rattle.fm_base.proofs.{Faith.{Makes-alone}, Lookup.{lookup_changed}, Making.{IsLegal-split, state_after-append}, Outcomes.{Did-lasts}}
use Rattle.fm_base_bytes.specs.Words.{byte_of}
use Rattle.fm_segment_access.proofs.Visits.{visit_stays, visit_refused}
use Rattle.fm_segment.{specs.{Access.{IsKnown}, Region.{Region}}, proofs.Access.{known_still}}
use Rattle.fm_records_query.specs.Plan.{Plan, IsPlan}
use Rattle.fm_records.specs.{declared.found.Found.{Found}, Alone.{bytes_at_places, FindsAnswer, FindsNone}, Bytes.{FindAs}, Query.{DoesQuery, QueryCause}}
use Rattle.fm_records.{specs.{Reads.{AreReads, read_visit}, Few.{AreFew}}, proofs.AnsweringBytes.{answer_of_bytes, length-places, word_at_places}}
use Rattle.fm_records.{specs.{Learnt.{CanQuery, Queried}, Texts.{IsAnswerOf}}, proofs.{Few.{answers_few, few_answer}, Visiting.{reads_outside, stops_outside}}}
use Rattle.fm_base_lists.proofs.Each.{all_both}

-- ---- reads find what stands there, and leave all as it was

record LeavesAll (s t : State) (r : Region) (own : List Entry) : Type 0 where
  same : t ≡ s
  found : FindAs r (bytes_at_places s r) own

-- one visit
visit_leaves : (limit : ℕ) (c : Caller) (s : State) (r : Region) (w : ℕ × ℕ) → IsLegal limit s (read_visit c r.arena w)
    → LeavesAll s (state_after limit s (read_visit c r.arena w)) r (read_visit c r.arena w)
visit_leaves limit c s r w legal =
    let id = r.arena in
    let there : (arena_of (changed s id (entered c)) id).words ≡ (arena_of s id).words =
    ap (λ (a : Arena). a.words) (lookup_changed s id (entered c) (λ a. refl) legal.0.0) in
    let reply : Found_word w.1 ≡ Found_word (word_in (changed s r.arena (entered c)) r.arena w.0) = legal.2.1 in
    let is : w.1 ≡ get_or (arena_of (changed s r.arena (entered c)) r.arena).words w.0 0 = cc in
    let found : w.1 ≡ get_or (arena_of s r.arena).words w.0 0 = is ∙ ap (λ ws. get_or ws w.0 0) there in
    record {
      same = visit_stays limit c s id ((Read id w.0, Found_word w.1) ∷ []) (λ l. refl) legal;
      found = (
        (λ word f at e a b. let no : Enter id ≡ Read id word = e in absurd (cc)),
        (
          (λ word f at e a b.
              let call : Read r.arena w.0 ≡ Read r.arena word = e in
              let answer : Found_word w.1 ≡ Found_word f = a in
              let same_word : w.0 ≡ word = cc in
              let same_found : w.1 ≡ f = cc in
              ap (λ n. byte_of n at) (sym same_found ∙ found ∙ ap (λ n. get_or (arena_of s r.arena).words n 0) same_word) ∙ word_at_places s r word at b),
          ((λ word f at e a b. let no : Leave id ≡ Read id word = e in absurd (cc)), tt),
        ),
      );
    }

visits_leave : (limit : ℕ) (c : Caller) (s : State) (r : Region) (ws : List (ℕ × ℕ)) → IsLegal limit s (flat_map (read_visit c r.arena) ws)
    → LeavesAll s (state_after limit s (flat_map (read_visit c r.arena) ws)) r (flat_map (read_visit c r.arena) ws)
visits_leave limit c s r [] legal = record { same = refl; found = tt }
visits_leave limit c s r (w ∷ ws) legal =
    let first = read_visit c r.arena w in
    let rest = flat_map (read_visit c r.arena) ws in
    let parts = IsLegal-split limit s first rest legal in
    let one = visit_leaves limit c s r w parts.0 in
    let more = visits_leave limit c s r ws (subst (λ (t : State). IsLegal limit t rest) one.same parts.1) in
    record {
      same = state_after-append limit s first rest ∙ ap (λ (t : State). state_after limit t rest) one.same ∙ more.same;
      found = all_both _ first rest one.found more.found;
    }

-- so do all reads
run_leaves : (limit : ℕ) (c : Caller) (s : State) (r : Region) (own : List Entry) → AreReads c r own → IsLegal limit s own
    → LeavesAll s (state_after limit s own) r own
run_leaves limit c s r own v legal =
    subst (λ (es : List Entry). LeavesAll s (state_after limit s es) r es) (sym v.visits)
    (visits_leave limit c s r v.reads (subst (λ (es : List Entry). IsLegal limit s es) v.visits legal))

-- ---- the answer

answered_alone : (old new : View) (p : Plan) (s : Region) (a : List Found) → IsByItself old → IsPlan p → IsKnown old s
    → Did old new (DoesQuery old.caller p s (Ok a)) → FindsAnswer old new p s a
answered_alone old new p s a alone plan known d =
    let m = Makes-alone old new d.own alone d.makes in
    let all = run_leaves old.limit old.caller old.state s d.own d.does.reads m.0 in
    record {
      value = answer_of_bytes old.caller p s (bytes_at_places old.state s) a d.own (record {
        plan = plan;
        size = length-places old.state s;
        finds = all.found;
        does = d.does;
      });
      same = m.1 ∙ all.same;
    }

-- ---- refusals

-- nothing was done
none_done : (old new : View) (s : Region) (e : Refusal) → IsByItself old → Makes old new [] → (e ≡ Closed → ⊥) → FindsNone old new s e
none_done old new s e alone makes other = record { shut = λ is. absurd (other is); same = (Makes-alone old new [] alone makes).1 }

refused_alone : (old new : View) (p : Plan) (s : Region) (e : Refusal) → IsByItself old → IsKnown old s → Did old new (DoesQuery old.caller p s (Err e))
    → FindsNone old new s e
refused_alone old new p s (Ragged rest) alone known d =
    none_done old new s (Ragged rest) alone (subst (λ (es : List Entry). Makes old new es) d.does.2 d.makes) (λ is. cc)
refused_alone old new p s WrongThread alone known d =
    none_done old new s WrongThread alone (subst (λ (es : List Entry). Makes old new es) d.does.2 d.makes) (λ is. cc)
refused_alone old new p s Closed alone known d =
    let m = Makes-alone old new d.own alone d.makes in
    let stop = d.does.2 in
    let last = refused_visit old.caller s.arena in
    let parts = IsLegal-split old.limit old.state stop.before last (subst (λ (es : List Entry). IsLegal old.limit old.state es) stop.stops m.0) in
    let before = run_leaves old.limit old.caller old.state s stop.before stop.reads parts.0 in
    let v = visit_refused old.limit old.caller old.state s.arena last refl (subst (λ (t : State). IsLegal old.limit t last) before.same parts.1) in
    record {
      shut = λ is. v.over;
      same = m.1 ∙ ap (state_after old.limit old.state) stop.stops ∙ state_after-append old.limit old.state stop.before last
          ∙ ap (λ (t : State). state_after old.limit t last) before.same ∙ v.same;
    }
refused_alone old new p s Memory alone known d =
    let m = Makes-alone old new d.own alone d.makes in
    let all = run_leaves old.limit old.caller old.state s d.own d.does.2 m.0 in
    record { shut = λ is. absurd (cc); same = m.1 ∙ all.same }
refused_alone old new p s e alone known d = absurd d.does

-- ---- what is learnt

-- why it is refused; and a query ends outside
told : (c : Caller) (p : Plan) (s : Region) (result : Result (List Found) Refusal) (own : List Entry) → DoesQuery c p s result own
    → IfErr result (QueryCause p s c) × (inside_after None own ≡ None)
told c p s (Ok a) own d = (tt, reads_outside d.reads)
told c p s (Err (Ragged rest)) own d = ((d.0, d.1), ap (inside_after None) d.2)
told c p s (Err WrongThread) own d = ((d.0, d.1), ap (inside_after None) d.2)
told c p s (Err Closed) own d = ((d.0, d.1), stops_outside d.2)
told c p s (Err Memory) own d = ((d.0, d.1), reads_outside d.2)
told c p s (Err e) own d = absurd d

few : (c : Caller) (p : Plan) (s : Region) (result : Result (List Found) Refusal) (own : List Entry) → IsPlan p → DoesQuery c p s result own
    → IfOk result (AreFew s.size p) × IfOk result (IsAnswerOf p)
few c p s (Ok a) own plan d = let by = answers_few c p s a own plan d in (by, few_answer s.size p.items a by)
few c p s (Err e) own plan d = (tt, tt)

alone : (old new : View) (p : Plan) (s : Region) (result : Result (List Found) Refusal) → CanQuery old p s → IsPlan p
    → Did old new (DoesQuery old.caller p s result) → IsByItself old → IfOk result (FindsAnswer old new p s) × IfErr result (FindsNone old new s)
alone old new p s (Ok a) can plan d by = (answered_alone old new p s a by plan can.known d, tt)
alone old new p s (Err e) can plan d by = (tt, refused_alone old new p s e by can.known d)

pub queried : {old new : View} {p : Plan} {s : Region} {result : Result (List Found) Refusal} → CanQuery old p s → IsPlan p
    → Did old new (DoesQuery old.caller p s result) → Queried old new p s result
queried {old} {new} {p} {s} {result} can plan d =
    let t = told old.caller p s result d.own d.does in
    let by = few old.caller p s result d.own plan d.does in
    let still = Did-lasts old new _ d in
    record {
      did = d;
      refused = t.0;
      answer = by.1;
      few = by.0;
      alone = λ b. (alone old new p s result can plan d b).0;
      shut = λ b. (alone old new p s result can plan d b).1;
      outside = d.makes.inside ∙ ap (λ i. inside_after i d.own) can.outside ∙ t.1;
      lasts = still;
      known = known_still old new s still can.known;
    }
