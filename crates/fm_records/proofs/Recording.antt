-- Records that are read in order, and the whole call.
use Rattle.std.proofs.Common.{◌≡◌, ℕ, suc, ◌+◌, ◌-◌, ◌*◌, ◌/◌, ◌%◌, ◌<◌, ◌≤◌, Bool, true, false, Result, Ok, Err, List, [], ◌∷◌, ◌++◌, inl, inr, refl, sym, ap, ◌∙◌, subst, arith}
use Rattle.std.proofs.Math.Nat.{div-mul-le_self, mul-le-mul_right, zero-div}
use Rattle.fm_base.specs.declared.{caller.Caller.{Caller}, arena_id.ArenaId.{ArenaId}, refusal.Refusal.{Refusal, TheVariants.{Closed, Memory}}}
use Rattle.fm_base.{specs.{Arenas.{MayUse}, View.{View, Did}}, proofs.Making.{Makes-none}}
use Rattle.fm_segment.specs.Region.{EndsByLimit, Region}
use Rattle.fm_records_query.specs.{Plan.{Plan, IsPlan}, declared.{condition.Condition.{Condition}, item.Item.{Item}}}
use Rattle.fm_records.specs.{declared.found.Found.{Found}, Answers.{answer, found_over}, Few.{AreFew, HaveRoom}, Adds.{AddsItems, AddsRecords, all_added}}
use Rattle.fm_records.specs.{Joined.{joined}, Query.{DoesQuery, ReadsSegment}}
use Rattle.fm_records.specs.Reads.{AreReadsUpTo, FindsItems, FindsRecord, LiesIn, Reads, ReadsRecord, Sees, chosen, passed_over, untested, record_places, TestsConditions}
use Rattle.fm_records.{specs.{Words.{Seen}, Records.{pieces}}, proofs.{Behind.{length-record_places, places_split}, Few.{records_few}}}
use Rattle.fm_records.proofs.{Ordered.{adds_one, added_cut, added_none, added_on}, Seeing.{seen_reads, sees_err, sees_ok, sees_on}, Visiting.{AreReads-none}}

-- The records up to the next one.
pub one_on : (k size : ℕ) → suc k * size ≡ k * size + size
one_on k size = grind arith

-- ---- one record

abbrev Tested : Region → ℕ → List Condition → List Seen → View → View → Result Bool Refusal → List Seen → Type 0
Tested s place cs start old now result k = Sees old now s (λ r own. TestsConditions place start cs r own k) result

abbrev pub Recorded : Region → Plan → ℕ → View → View → List Found → List Found → Result (Unit {0}) Refusal → Type 0
Recorded s p place old new fs gs result = Reads old new s (λ c. AddsRecords c s.arena p (place ∷ []) fs gs) result

module _ (s : Region) (p : Plan) (place : ℕ) {cs : List Condition} (conditions : cs ≡ p.conditions) {start : List Seen} (none : start ≡ []) where
  all_test : (result end : Result Bool Refusal) (own k : List Seen) → result ≡ end → TestsConditions place start cs result own k
      → TestsConditions place [] p.conditions end own k
  all_test result end own k e h =
      subst (λ (xs : List Seen). TestsConditions place xs p.conditions end own k) none
      (subst (λ (ys : List Condition). TestsConditions place start ys end own k) conditions
      (subst (λ (r : Result Bool Refusal). TestsConditions place start cs r own k) e h))

  -- what the words of a record came to was added
  recorded : {old now : View} (fs gs : List Found) (result : Result (Unit {0}) Refusal) (given : List (List Found)) → gs ≡ all_added joined fs given
      → Sees old now s (λ r own. FindsRecord p place r own given) result → Recorded s p place old now fs gs result
  recorded {old} {now} fs gs result given added d = record {
    own = d.own;
    does = (
      seen_reads result d.does,
      adds_one (ReadsRecord old.caller s.arena p) joined place fs gs result d.own given
          (record { seen = d.does.seen; visits = d.does.visits; finds = d.does.does }) added,
    );
    makes = d.makes;
  }

  -- one that isn't chosen
  pub record_passed : {old now : View} {b : Bool} {k : List Seen} (fs : List Found) → b ≡ false → Tested s place cs start old now (Ok b) k
      → Recorded s p place old now fs fs (Ok tt)
  record_passed {old} {now} {b} {k} fs is d =
      recorded fs fs (Ok tt) [] refl (sees_ok (λ r own. TestsConditions place start cs r own k) (λ r own. FindsRecord p place r own []) b tt d (λ h.
      passed_over k d.does.seen (all_test (Ok b) (Ok false) d.does.seen k (ap Ok is) h)))

  -- one whose conditions came to no end
  pub record_stopped : {old now : View} {k : List Seen} (fs : List Found) (r : Refusal) → Tested s place cs start old now (Err r) k
      → Recorded s p place old now fs fs (Err r)
  record_stopped {old} {now} {k} fs r d =
      recorded fs fs (Err r) [] refl (sees_err (λ e own. TestsConditions place start cs e own k) (λ e own. FindsRecord p place e own []) r d (λ h.
      untested k d.does.seen (all_test (Err r) (Err r) d.does.seen k refl h)))

  -- one that is chosen: its items are read, up to a refusal
  pub record_chosen : {b : Bool} {k l : List Seen} {old now new : View} {items : List Item} (fs gs : List Found) (result : Result (Unit {0}) Refusal)
      → items ≡ p.items → b ≡ true → Tested s place cs start old now (Ok b) k → Sees now new s (AddsItems place k items fs gs l) result
      → Recorded s p place old new fs gs result
  record_chosen {b} {k} {l} {old} {now} {new} {items} fs gs result same is t d =
      let a = d.does.does in
      recorded fs gs result (a.found ∷ []) a.added
      (sees_on (AddsItems place k items fs gs l) (λ r own. FindsRecord p place r own (a.found ∷ [])) result t d (λ h.
      chosen k l t.does.seen d.does.seen a.found (all_test (Ok b) (Ok true) t.does.seen k (ap Ok is) t.does.does)
      (subst (λ (ys : List Item). FindsItems place k ys result d.does.seen a.found l) same a.finds)))

-- ---- records in order

-- the first k records of a segment were read
abbrev pub AreRecorded : View → View → Region → Plan → ℕ → List Found → List Found → Type 0
AreRecorded old now s p k fs gs = Reads old now s (λ c. AddsRecords c s.arena p (record_places k p.size s.first) fs gs) (Ok (tt {0}))

pub recorded_none : (old : View) (s : Region) (p : Plan) (fs : List Found) → AreRecorded old old s p 0 fs fs
recorded_none old s p fs = added_none (λ c. ReadsRecord c s.arena p) joined old fs

module _ {old now : View} {s : Region} {p : Plan} {k place : ℕ} {fs gs : List Found} (a : AreRecorded old now s p k fs gs)
    (at : place ≡ s.first + k * p.size) (below : k < s.size / p.size) where
  within : k * p.size + p.size ≤ s.size
  within =
      let next : suc k * p.size ≡ k * p.size + p.size = grind arith in
      omega (arith, next, mul-le-mul_right p.size below, div-mul-le_self s.size p.size)

  -- the next one lies in the segment, and has room
  pub next_lies : LiesIn s place p.size
  next_lies = record { from = omega (arith, at); within = omega (arith, at, within) }

  pub next_room : IsPlan p → EndsByLimit s.first s.size → AreFew 0 p fs → HaveRoom p gs p.size
  next_room plan ends few = (
    0 + k * p.size,
    omega (arith, within, ends),
    subst (λ (xs : List Found). AreFew (0 + k * p.size) p xs) (sym a.does.1.added)
        (subst (λ (n : ℕ). AreFew (0 + n * p.size) p (all_added joined fs a.does.1.given)) (length-record_places k p.size s.first)
        (records_few old.caller s.arena p (record_places k p.size s.first) 0 (Ok tt) a.own a.does.1.given fs plan a.does.1.reads refl few)),
  )

  module _ {next : View} {hs : List Found} (result : Result (Unit {0}) Refusal)
      (d : Reads now next s (λ c. AddsRecords c s.arena p (place ∷ []) gs hs) result) where
    -- it is read, as far as reading comes
    more : Reads old next s (λ c. AddsRecords c s.arena p (record_places (k + 1) p.size s.first) fs hs) result
    more =
        subst (λ (ps : List ℕ). Reads old next s (λ c. AddsRecords c s.arena p ps fs hs) result)
        (ap (λ n. record_places k p.size s.first ++ n ∷ []) at ∙ sym (places_split k 1 p.size s.first))
        (added_on (λ c. ReadsRecord c s.arena p) joined (record_places k p.size s.first) (place ∷ []) fs gs hs result a d)

  pub recorded_more : {next : View} {hs : List Found} → Reads now next s (λ c. AddsRecords c s.arena p (place ∷ []) gs hs) (Ok tt)
      → AreRecorded old next s p (k + 1) fs hs
  recorded_more d = more (Ok tt) d

  -- or up to a refusal
  pub recorded_stops : {next : View} (hs : List Found) (r : Refusal) → Reads now next s (λ c. AddsRecords c s.arena p (place ∷ []) gs hs) (Err r)
      → Reads old next s (λ c. AddsRecords c s.arena p (record_places (s.size / p.size) p.size s.first) fs hs) (Err r)
  recorded_stops {next} hs r d =
      let left = s.size / p.size - (k + 1) in
      let sum : k + 1 + (s.size / p.size - (k + 1)) ≡ s.size / p.size = omega (arith, below) in
      subst (λ (ps : List ℕ). Reads old next s (λ c. AddsRecords c s.arena p ps fs hs) (Err r))
      (sym (places_split (k + 1) left p.size s.first) ∙ ap (λ n. record_places n p.size s.first) sum)
      (added_cut (λ c. ReadsRecord c s.arena p) joined s (record_places (k + 1) p.size s.first) (record_places left p.size (s.first + (k + 1) * p.size)) fs hs
      r (more (Err r) d))

-- all were
pub recorded_all : {old now : View} {s : Region} {p : Plan} {k : ℕ} {fs gs : List Found} → AreRecorded old now s p k fs gs → k ≡ s.size / p.size
    → Reads old now s (λ c. AddsRecords c s.arena p (record_places (s.size / p.size) p.size s.first) fs gs) (Ok (tt {0}))
recorded_all {old} {now} {s} {p} {k} {fs} {gs} a all = subst (λ (n : ℕ). AreRecorded old now s p n fs gs) all a

-- ---- the whole call

pub answer-none : (p : Plan) → answer p [] ≡ found_over p []
answer-none p = ap (λ n. found_over p (pieces n p.size [])) (zero-div p.size)

-- what stands once the tests of the call have passed
pub record IsTested (c : Caller) (p : Plan) (s : Region) : Type 0 where
  pub even : s.size % p.size ≡ 0
  pub may : MayUse s.arena c

pub tested : {c : Caller} {p : Plan} {s : Region} {n k : ℕ} {id : ArenaId} → n ≡ s.size → k ≡ p.size → id ≡ s.arena → n % k ≡ 0 → MayUse id c → IsTested c p s
tested {c} {p} {s} {n} {k} {id} is_size is_record is_arena even may = record {
  even = subst (λ (m : ℕ). m % p.size ≡ 0) is_size (subst (λ (m : ℕ). n % m ≡ 0) is_record even);
  may = subst (λ (a : ArenaId). MayUse a c) is_arena may;
}

-- no memory to begin with
pub query_wants : {old : View} {p : Plan} {s : Region} (e : Refusal) → IsTested old.caller p s → e ≡ Memory → Did old old (DoesQuery old.caller p s (Err e))
query_wants {old} {p} {s} e t is = record {
  own = [];
  does = subst (λ (r : Refusal). DoesQuery old.caller p s (Err r) []) (sym is) (t.even, t.may, AreReads-none old.caller s, inl refl);
  makes = Makes-none old;
}

abbrev AllRead : Plan → Region → List Found → List Found → View → View → Result (Unit {0}) Refusal → Type 0
AllRead p s fs gs old new result = Reads old new s (λ c. AddsRecords c s.arena p (record_places (s.size / p.size) p.size s.first) fs gs) result

module _ {old new : View} {p : Plan} {s : Region} (t : IsTested old.caller p s) (fs gs : List Found) (is : fs ≡ answer p []) where
  from_none : (result : Result (Unit {0}) Refusal) → (d : AllRead p s fs gs old new result) → ReadsSegment old.caller p s gs result d.own
  from_none result d =
      subst (λ (xs : List Found). AddsRecords old.caller s.arena p (record_places (s.size / p.size) p.size s.first) xs gs result d.own) (is ∙ answer-none p)
      d.does.1

  -- all records were read
  pub query_done : (a : List Found) (u : Unit {0}) → a ≡ gs → AllRead p s fs gs old new (Ok u) → Did old new (DoesQuery old.caller p s (Ok a))
  query_done a u same d = record {
    own = d.own;
    does = record {
      even = t.even;
      may = t.may;
      records = subst (λ (xs : List Found). ReadsSegment old.caller p s xs (Ok u) d.own) (sym same) (from_none (Ok u) d);
      reads = d.does.0;
    };
    makes = d.makes;
  }

  -- or it was refused on the way
  pub query_stopped : (e : Refusal) → AllRead p s fs gs old new (Err e) → Did old new (DoesQuery old.caller p s (Err e))
  query_stopped e d = record { own = d.own; does = by e d.does.0 (from_none (Err e) d); makes = d.makes }
    where
      by : (r : Refusal) → AreReadsUpTo old.caller s r d.own → ReadsSegment old.caller p s gs (Err r) d.own → DoesQuery old.caller p s (Err r) d.own
      by Closed h k = (t.even, t.may, h, (gs, k))
      by Memory h k = (t.even, t.may, h, inr (gs, k))
      by r h k = absurd h
