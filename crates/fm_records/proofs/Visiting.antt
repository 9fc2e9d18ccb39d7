-- Visits that read words of a segment, one call's behind another's.
use Rattle.std.{proofs.Common.{◌≡◌, ℕ, None, Result, Ok, Err, List, [], ◌∷◌, ◌++◌, refl, sym, ap, ◌∙◌, subst, append_assoc}, specs.List.{flat_map}}
use Rattle.std.proofs.lemmas.{List.{append-nil}, Grind.{flat_map-append}}
use Rattle.fm_base_lists.proofs.Each.{all_both}
use Rattle.fm_base.specs.declared.{caller.Caller.{Caller}, arena_id.ArenaId.{ArenaId}, refusal.Refusal.{Refusal, TheVariants.{Closed, Memory}}}
use Rattle.fm_base.{specs.{Arenas.{MayUse}, Calls.{Entry}, View.{View, Did, inside_after}, Visits.{refused_visit}}, proofs.Making.{Makes-none, Makes-then}}
use Rattle.fm_base.proofs.Outcomes.{Makes-lasts}
use Rattle.fm_segment.{specs.Region.{Region}, proofs.Access.{known_still}}
use Rattle.fm_records.specs.Reads.{CanRead, IsWordOf, read_visit, AreReads, StopsReading, AreReadsTo, Reads}

pub AreReads-none : (c : Caller) (s : Region) → AreReads c s []
AreReads-none c s = record { reads = []; within = tt; visits = refl }

pub AreReads-append : (c : Caller) (s : Region) (es fs : List Entry) → AreReads c s es → AreReads c s fs → AreReads c s (es ++ fs)
AreReads-append c s es fs p q = record {
  reads = p.reads ++ q.reads;
  within = all_both (λ r. IsWordOf s r.0) p.reads q.reads p.within q.within;
  visits = ap (λ xs. xs ++ fs) p.visits ∙ ap (λ ys. flat_map (read_visit c s.arena) p.reads ++ ys) q.visits
      ∙ sym (flat_map-append (read_visit c s.arena) p.reads q.reads);
}

-- reads before those up to a closed arena
pub StopsReading-after : (c : Caller) (s : Region) (es fs : List Entry) → AreReads c s es → StopsReading c s fs → StopsReading c s (es ++ fs)
StopsReading-after c s es fs p q = record {
  before = es ++ q.before;
  reads = AreReads-append c s es q.before p q.reads;
  stops = ap (λ ys. es ++ ys) q.stops ∙ sym (append_assoc es q.before (refused_visit c s.arena));
}

-- ---- reading after reading

-- nothing was read
pub reads_none : {Q : List Entry → Type 0} (old : View) (s : Region) → Q [] → Did old old (λ es. AreReads old.caller s es × Q es)
reads_none old s p = record { own = []; does = (AreReads-none old.caller s, p); makes = Makes-none old }

-- reads end outside
reads_before : (c : Caller) (id : ArenaId) (reads : List (ℕ × ℕ)) (es : List Entry)
    → inside_after None (flat_map (read_visit c id) reads ++ es) ≡ inside_after None es
reads_before c id [] es = refl
reads_before c id (r ∷ reads) es = reads_before c id reads es

pub reads_outside : {c : Caller} {s : Region} {own : List Entry} → AreReads c s own → inside_after None own ≡ None
reads_outside {c} {s} {own} h = ap (inside_after None) (h.visits ∙ sym (append-nil _)) ∙ reads_before c s.arena h.reads []

pub stops_outside : {c : Caller} {s : Region} {own : List Entry} → StopsReading c s own → inside_after None own ≡ None
stops_outside {c} {s} {own} h =
    ap (inside_after None) (h.stops ∙ ap (λ es. es ++ refused_visit c s.arena) h.reads.visits) ∙ reads_before c s.arena h.reads.reads (refused_visit c s.arena)

-- so that reading can go on
pub can_still : {old now : View} {s : Region} {Q : List Entry → Type 0} → CanRead old s → Did old now (λ es. AreReads old.caller s es × Q es)
    → CanRead now s
can_still {old} {now} {s} can d = record {
  outside = d.makes.inside ∙ ap (λ i. inside_after i d.own) can.outside ∙ reads_outside d.does.0;
  known = known_still old now s (Makes-lasts old now d.own d.makes) can.known;
  may = subst (MayUse s.arena) (sym d.makes.same_caller) can.may;
  ends = can.ends;
}

-- reads behind others, to an end or up to a refusal
reads_after : {X : Type 0} (c : Caller) (s : Region) (es fs : List Entry) (result : Result X Refusal) → AreReads c s es → AreReadsTo c s result fs
    → AreReadsTo c s result (es ++ fs)
reads_after c s es fs (Ok x) p q = AreReads-append c s es fs p q
reads_after c s es fs (Err Closed) p q = StopsReading-after c s es fs p q
reads_after c s es fs (Err Memory) p q = AreReads-append c s es fs p q
reads_after c s es fs (Err r) p q = absurd q

-- One call's reads and another's, said of the caller at the start
pub reads_on : {X : Type 0} {old now next : View} {s : Region} {Q : List Entry → Type 0} (P W : Caller → Result X Refusal → List Entry → Type 0)
    (result : Result X Refusal) (d : Did old now (λ es. AreReads old.caller s es × Q es)) (e : Reads now next s P result)
    → (P old.caller result e.own → W old.caller result (d.own ++ e.own)) → Reads old next s W result
reads_on {X} {old} {now} {next} {s} {Q} P W result d e on =
    let here : AreReadsTo old.caller s result e.own × P old.caller result e.own =
    subst (λ (c : Caller). AreReadsTo c s result e.own × P c result e.own) d.makes.same_caller e.does in
    record {
      own = d.own ++ e.own;
      does = (reads_after old.caller s d.own e.own result d.does.0 here.0, on here.1);
      makes = Makes-then old now next d.own e.own d.makes e.makes;
    }
