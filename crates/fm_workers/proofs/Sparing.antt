-- What is answered where nobody else writes.
use Rattle.std.{proofs.Common.{◌≡◌, ◌≢◌, ℕ, List, [], ◌∷◌, ◌++◌, sym, ◌∙◌, subst, inl, inr}}
use Rattle.std.specs.List.{AllByRecursion, flat_map}
use Rattle.fm_base_lists.{specs.Among.{IsAmong}, proofs.Each.{all_both}}
use Rattle.fm_base.specs.{declared.{caller.Caller.{Caller}, arena_id.ArenaId.{ArenaId}}, Calls.{Entry}, Histories.{made_by}}
use Rattle.fm_base.specs.{Untouched.{Spares}, Visits.{refused_visit}}
use Rattle.fm_rule_facts.specs.Views.{View, IsSound, limit_of, state_in}
use Rattle.fm_rule_calls.proofs.Going.{reached_by}
use Rattle.fm_segment.specs.Region.{Region}
use Rattle.fm_records_query.specs.Plan.{Plan, IsPlan}
use Rattle.fm_records.specs.{declared.found.Found.{Found}, Reads.{read_visit}, Shares.{Share, AreSpared, IsSpared}}
use Rattle.fm_records.proofs.Sharing.{shares_answer, shares_read}
use Rattle.fm_workers_shares.specs.Answered.{AnsweredBy}
use Rattle.fm_workers.specs.{Query.{OnlyReads, reads, stops, NobodyElseWrites, IsAnswer}, Tally.{OnlyAddsTo, OnlyTallies, closed, no_more, one_add}}
use Rattle.fm_workers_crew.proofs.Working.{nobody}
use Rattle.fm_base.proofs.Either.{by_either}

visits_spare : (c : Caller) (id a : ArenaId) (place : ℕ) (rs : List (ℕ × ℕ)) → AllByRecursion (λ e. Spares id place e.call) (flat_map (read_visit c a) rs)
visits_spare c id a place [] = tt
visits_spare c id a place (r ∷ rs) = (tt, (tt, (tt, visits_spare c id a place rs)))

pub reads_spare : (s : Region) (c : Caller) (own : List Entry) (place : ℕ) → OnlyReads s c own → AllByRecursion (λ e. Spares s.arena place e.call) own
reads_spare s c own place (reads h) =
    subst (λ (es : List Entry). AllByRecursion (λ e. Spares s.arena place e.call) es) (sym h.visits) (visits_spare c s.arena s.arena place h.reads)
reads_spare s c own place (stops h) =
    let before = subst (λ (es : List Entry). AllByRecursion (λ e. Spares s.arena place e.call) es) (sym h.reads.visits)
    (visits_spare c s.arena s.arena place h.reads.reads) in
    subst (λ (es : List Entry). AllByRecursion (λ e. Spares s.arena place e.call) es) (sym h.stops)
    (all_both (λ e. Spares s.arena place e.call) h.before (refused_visit c s.arena) before (tt, tt))

adds_spare : (s counts : Region) (c : Caller) (own : List Entry) (place : ℕ) → counts.arena ≢ s.arena → OnlyAddsTo counts c own
    → AllByRecursion (λ e. Spares s.arena place e.call) own
adds_spare s counts c own place other no_more = tt
adds_spare s counts c own place other closed = (tt, tt)
adds_spare s counts c own place other (one_add word n found rest is h) =
    (tt, ((λ at. other at.0), (tt, adds_spare s counts c rest place other h)))

pub tallies_spare : (s counts : Region) (place : ℕ) (more : List Entry) (cs : List Caller) → counts.arena ≢ s.arena
    → AllByRecursion (λ c. OnlyTallies s counts c (made_by c more)) cs
    → AllByRecursion (λ c. AllByRecursion (λ e. Spares s.arena place e.call) (made_by c more)) cs
tallies_spare s counts place more [] other h = tt
tallies_spare s counts place more (c ∷ cs) other h = (
  subst (λ (es : List Entry). AllByRecursion (λ e. Spares s.arena place e.call) es) (sym h.0.parts)
      (all_both (λ e. Spares s.arena place e.call) h.0.reads h.0.adds (reads_spare s c h.0.reads place h.0.are_reads)
      (adds_spare s counts c h.0.adds place other h.0.are_adds)),
  tallies_spare s counts place more cs other h.1,
)

each_spares : (s : Region) (place : ℕ) (more : List Entry) (cs : List Caller) → AllByRecursion (λ c. OnlyReads s c (made_by c more)) cs
    → AllByRecursion (λ c. AllByRecursion (λ e. Spares s.arena place e.call) (made_by c more)) cs
each_spares s place more [] h = tt
each_spares s place more (c ∷ cs) h = (reads_spare s c (made_by c more) place h.0, each_spares s place more cs h.1)

spared_by : (s : Region) (cs : List Caller) (more : List Entry) → NobodyElseWrites s cs more → AllByRecursion (λ c. OnlyReads s c (made_by c more)) cs
    → AreSpared s more
spared_by s cs more nobody visits place from below =
    by_either (λ e. Spares s.arena place e.call) cs more (nobody place from below) (each_spares s place more cs visits)

share_caller : (cs : List Caller) (ws : List Share) (w : Share) → IsAmong w ws → AllByRecursion (λ x. IsAmong x.caller cs) ws → IsAmong w.caller cs
share_caller cs [] w i h = absurd i
share_caller cs (x ∷ ws) w (inl is) h = subst (λ (y : Share). IsAmong y.caller cs) (sym is) h.0
share_caller cs (x ∷ ws) w (inr i) h = share_caller cs ws w i h.1

pub is_answer : {old new : View} {p : Plan} {s : Region} {each : ℕ} {a : List Found} (more : List Entry) (cs : List Caller) → new.seen ≡ old.seen ++ more
    → new.shape ≡ old.shape → IsPlan p → IsSound new → AnsweredBy p s each cs more a → AllByRecursion (λ x. OnlyReads s x (made_by x more)) cs
    → NobodyElseWrites s cs more → IsAnswer old p s cs more a
is_answer {old = old} {new = new} {p = p} {s = s} more cs seen shape plan sound by visits nobody =
    let r = reached_by {p = old} {q = new} more seen shape sound in
    let spared : IsSpared (limit_of old.shape) (state_in old) more s = record { legal = r.legal; spared = spared_by s cs more nobody visits } in
    record {
      value = by.joined ∙ shares_answer (limit_of old.shape) (state_in old) more p s by.all.shares plan spared by.all.cut by.all.done;
      read = λ index path is word asked of.
          let x = shares_read (limit_of old.shape) (state_in old) more p s by.all.shares index path is word plan spared by.all.cut by.all.done asked of in
          record { caller = x.share.caller; among = share_caller cs by.all.shares x.share x.among by.all.callers; read = x.read };
    }
