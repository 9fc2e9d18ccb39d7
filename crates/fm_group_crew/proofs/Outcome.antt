-- What a crew did comes to what is learnt of a call.
use Rattle.std.proofs.Common.{◌≡◌, ◌≢◌, ℕ, ◌<◌, ◌≤◌, List, [], ◌∷◌, length, refl, sym, ap, ◌∙◌, subst, inl, inr, arith, Result, Ok, Err}
use Rattle.std.{specs.{Prelude.{⊤, All}, List.{AllByRecursion}}, proofs.lemmas.{List.{length-map}, List.Elements.{All-from_recursion}, List.FromFn.{length-map-range_with_len}}}
use Rattle.fm_base.specs.declared.{caller.Caller.{Caller}, refusal.Refusal.{Refusal, TheVariants.{Closed, Memory, NoPass, TableFull, WrongThread}}}
use Rattle.fm_base.specs.{Calls.{Entry}, Finds.{Gathered}, Histories.{made_by}}
use Rattle.fm_rule_facts.specs.Views.{IsSound, View}
use Rattle.fm_rule_calls.specs.{Kept.{Lasts}, Told.{view_of_pass}}
use Rattle.fm_segment.specs.Access.{IsKnown}
use Rattle.fm_group_lists.specs.Groups.{Group}
use Rattle.fm_group.specs.{Table.{CanTable, Counter}, Values.{Valued, count_of}}
use Rattle.fm_group_laws.specs.Shares.{AreShared, DoesShare, Share}
use Rattle.fm_workers_crew.{specs.{Crew.{AreTooMany, CrewGathered, IsWhole, by_caller, callers}, Then.{CrewWentOn, GoesOn, LastGoes}}, proofs.{Callers.{AreDoneBy, went_by_callers}, Working.{lasts_none, nobody}}}
use Rattle.fm_group_crew.specs.{declared.share.CountShare.{CountShare}, Dealt.{bounds, dealt, share_at}, Ends.{Concludes, concluding, ends_of, first_end}}
use Rattle.fm_group_crew.specs.Grouped.{EndsGroups, GroupedWith, IsCounted, OnlyVisits}
use Rattle.fm_group_crew.specs.{Tasks.{CanCountTask, CanUse, CountsTask, IsForAll, known_later}}
use Rattle.fm_group_crew.proofs.{Concluding.{all_visit, idle_visits}, Counted.{all_read, never_full, the_groups}, Dealt.{dealt_lined, lined_within}, Tasks.{may_any}}

-- ---- which refusals come of shares and a reading

abbrev pub MayEnd : Refusal → Type 0
MayEnd Closed = ⊤
MayEnd TableFull = ⊤
MayEnd Memory = ⊤
MayEnd r = ⊥

module _ (w : Counter) (for_all : IsForAll w) where
  share_ends : (c : Caller) (from to : ℕ) (r : Refusal) (own : List Entry) → DoesShare c w from to (Err r) own → MayEnd r
  share_ends c from to Closed own d = tt
  share_ends c from to TableFull own d = tt
  share_ends c from to WrongThread own d = absurd (d.refused.0 (may_any c w for_all))
  share_ends c from to r own d = absurd d.refused

  shared_ends : (es : List Entry) (cs : List Caller) (bs : List Share) (rs : List (Result (Unit {0}) Refusal)) (r : Refusal) → AreShared w es cs bs rs
      → first_end rs ≡ Err r → MayEnd r
  shared_ends es [] [] [] r h e = absurd (cc)
  shared_ends es (c ∷ cs) (b ∷ bs) (Ok u ∷ rs) r h e = shared_ends es cs bs rs r h.1 e
  shared_ends es (c ∷ cs) (b ∷ bs) (Err q ∷ rs) r h e =
      let is : q ≡ r = cc in
      subst MayEnd is (share_ends c b.0 b.1 q (made_by c es) h.0)
  shared_ends es cs bs rs r h e = absurd h

  reading_ends : (c : Caller) (r : Refusal) (own : List Entry) → Concludes w (Ok tt) (Err r) c own → MayEnd r
  reading_ends c Closed own d = tt
  reading_ends c Memory own d = tt
  reading_ends c WrongThread own d = absurd (d.0 (may_any c w for_all))
  reading_ends c r own d = absurd d

  concluded_ends : (c : Caller) (end : Result (Unit {0}) Refusal) (r : Refusal) (own : List Entry) → ((q : Refusal) → end ≡ Err q → MayEnd q)
      → Concludes w end (Err r) c own → MayEnd r
  concluded_ends c (Ok u) r own may d = reading_ends c r own d
  concluded_ends c (Err q) r own may d =
      let is : q ≡ r = (let e = d.0 in cc) in
      subst MayEnd is (may q refl)

  module _ {threads : ℕ} {crew : List Caller} {more : List Entry} where
    counted_ends : (r : Refusal) → IsCounted w threads crew more (Err r) → MayEnd r
    counted_ends r h = concluded_ends h.last.last (first_end h.ends) r (made_by h.last.last h.behind)
        (λ q e. shared_ends h.before crew (dealt (count_of w.values) threads) h.ends q h.each e) h.last.goes

-- ---- what the tasks were

shared_by : (w : Counter) (es : List Entry) (cs : List Caller) (ts us : List CountShare) → AreDoneBy (CountsTask w) es cs ts us
    → AreShared w es cs (bounds ts) (ends_of us)
shared_by w es [] [] [] d = tt
shared_by w es (c ∷ cs) (t ∷ ts) (u ∷ us) d = (d.0, shared_by w es cs ts us d.1)
shared_by w es [] [] (u ∷ us) d = absurd d
shared_by w es [] (t ∷ ts) us d = absurd d
shared_by w es (c ∷ cs) [] us d = absurd d
shared_by w es (c ∷ cs) (t ∷ ts) [] d = absurd d

long_done : {T : Type 0} (Does : Caller → T → T → List Entry → Type 0) (es : List Entry) (cs : List Caller) (ts us : List T)
    → AreDoneBy Does es cs ts us → length cs ≡ length ts
long_done Does es [] [] [] d = refl
long_done Does es (c ∷ cs) (t ∷ ts) (u ∷ us) d = let h = long_done Does es cs ts us d.1 in omega (arith, h)
long_done Does es [] [] (u ∷ us) d = absurd d
long_done Does es [] (t ∷ ts) us d = absurd d
long_done Does es (c ∷ cs) [] us d = absurd d
long_done Does es (c ∷ cs) (t ∷ ts) [] d = absurd d

pub long_dealt : (n threads : ℕ) (ts : List CountShare) → bounds ts ≡ dealt n threads → length ts ≡ threads
long_dealt n threads ts e =
    sym (length-map ts (λ (t : CountShare). (t.from, t.to))) ∙ ap (λ (bs : List Share). length bs) e
    ∙ length-map-range_with_len (share_at n threads) 0 threads

last_goes : (Goes : Caller → List Entry → Type 0) (es : List Entry) (cs : List Caller) → 0 < length cs → GoesOn Goes es cs → LastGoes Goes es cs
last_goes Goes es [] some h = absurd (omega (arith, some))
last_goes Goes es (c ∷ cs) some h = h

-- ---- what is learnt

module _ {w : Counter} {threads : ℕ} {old new : View} (records : IsKnown (view_of_pass old) w.values.records)
    (table : IsKnown (view_of_pass old) w.table) where
  refused : (r : Refusal) (crew : CrewGathered old new) → length crew.crew ≤ threads → r ≢ TableFull
      → (r ≡ NoPass → (length crew.crew < threads) × (IsWhole old → AreTooMany old threads))
      → AllByRecursion (λ c. OnlyVisits w c (made_by c crew.more)) (callers crew.crew)
      → EndsGroups threads old new w crew.more crew.crew crew.draws (Err r) → Lasts old new → (IsSound old → IsSound new)
      → GroupedWith threads old new w (Err r)
  refused r crew most not wanting visits ends lasts still_sound = record {
    crew = crew;
    one_each = most;
    one_less = λ e. let is : r ≡ NoPass = cc in (wanting is).0;
    visits = visits;
    ends = ends;
    value = tt;
    full = λ free nobody room e. let is : r ≡ TableFull = cc in not is;
    read = tt;
    wanting = λ v e. let is : r ≡ NoPass = cc in (wanting is).1 v;
    lasts = lasts;
    known = known_later lasts records;
    table_known = known_later lasts table;
    sound = tt;
    still_sound = still_sound;
  }

  -- ---- behind it

  module _ (can : CanTable w) (some : 0 < threads) (for_all : IsForAll w) {ts us : List CountShare} (are : bounds ts ≡ dealt (count_of w.values) threads)
      (result : Result (List Group) Refusal) where
    -- where all tasks were begun
    module _ {u : Unit {0}} (h : CrewWentOn (by_caller (CountsTask w)) (concluding w us result) old new ts us (Ok u)) where
      by_each : AreDoneBy (CountsTask w) h.ends.before (callers h.crew.crew) ts us
      by_each = went_by_callers (CountsTask w) (concluding w us result) h

      long : length (callers h.crew.crew) ≡ threads
      long = long_done (CountsTask w) h.ends.before (callers h.crew.crew) ts us by_each ∙ long_dealt (count_of w.values) threads ts are

      counted : IsCounted w threads (callers h.crew.crew) h.crew.more result
      counted = record {
        before = h.ends.before;
        behind = h.ends.behind;
        parts = h.ends.parts;
        ends = ends_of us;
        each = subst (λ (bs : List Share). AreShared w h.ends.before (callers h.crew.crew) bs (ends_of us)) are
            (shared_by w h.ends.before (callers h.crew.crew) ts us by_each);
        last = last_goes (concluding w us result) h.ends.behind (callers h.crew.crew) (subst (λ (n : ℕ). 0 < n) (sym long) some) h.ends.goes;
      }

      most : length h.crew.crew ≤ threads
      most = let e = long in let same = length-map h.crew.crew (λ (g : Gathered). g.caller) in omega (arith, e, same)

      sound : IsSound new
      sound = h.sound (λ e. absurd (cc))

      visits : AllByRecursion (λ c. OnlyVisits w c (made_by c h.crew.more)) (callers h.crew.crew)
      unfolding counted
      visits = all_visit w can h.ends.before h.ends.behind h.crew.more (callers h.crew.crew) (dealt (count_of w.values) threads) (ends_of us) result
          h.ends.parts counted.each counted.last

    -- All shares were begun.
    pub grouped : {u : Unit {0}} → CrewWentOn (by_caller (CountsTask w)) (concluding w us result) old new ts us (Ok u)
        → GroupedWith threads old new w result
    grouped h = by result refl (counted h)
      where
        ends_err : (r : Refusal) → MayEnd r → IsCounted w threads (callers h.crew.crew) h.crew.more (Err r)
            → EndsGroups threads old new w h.crew.more h.crew.crew h.crew.draws (Err r)
        ends_err Closed m k = (for_all, k)
        ends_err TableFull m k = (for_all, k)
        ends_err Memory m k = (for_all, inr k)
        ends_err r m k = absurd m

        by : (r : Result (List Group) Refusal) → result ≡ r → IsCounted w threads (callers h.crew.crew) h.crew.more r → GroupedWith threads old new w r
        by (Ok gs) e k = record {
          crew = h.crew;
          one_each = most h;
          one_less = λ q. absurd (cc);
          visits = visits h;
          ends = (for_all, k);
          value = the_groups w can threads some old new h.crew (sound h) gs k;
          full = λ free nobody room q. absurd (cc);
          read = all_read w can threads some old new h.crew (sound h) gs k;
          wanting = λ v q. absurd (cc);
          lasts = h.lasts;
          known = known_later h.lasts records;
          table_known = known_later h.lasts table;
          sound = sound h;
          still_sound = h.still_sound;
        }
        by (Err r) e k =
            let may = counted_ends w for_all r k in
            let other : ¬ (r ≡ NoPass) = λ q. subst MayEnd q may in
            record {
              crew = h.crew;
              one_each = most h;
              one_less = λ q. absurd (other (cc));
              visits = visits h;
              ends = ends_err r may k;
              value = tt;
              full = never_full w can threads some old new h.crew (sound h) (Err r) k;
              read = tt;
              wanting = λ v q. absurd (other (cc));
              lasts = h.lasts;
              known = known_later h.lasts records;
              table_known = known_later h.lasts table;
              sound = tt;
              still_sound = h.still_sound;
            }

  -- Nothing was drawn, or a draw found no number.
  module _ (can : CanTable w) (for_all : IsForAll w) {ts us : List CountShare} (are : bounds ts ≡ dealt (count_of w.values) threads)
      (result : Result (List Group) Refusal) where
    pub grouped_refused : (r : Refusal) → CrewWentOn (by_caller (CountsTask w)) (concluding w us result) old new ts us (Err r)
        → GroupedWith threads old new w (Err r)
    grouped_refused Memory h =
        let none = h.ends.1 in
        let empty : length h.crew.crew ≡ 0 = ap (λ (gs : List Gathered). length gs) none in
        refused Memory h.crew (omega (arith, empty)) (λ e. absurd (cc)) (λ e. absurd (cc))
        (subst (λ (gs : List Gathered). AllByRecursion (λ c. OnlyVisits w c (made_by c h.crew.more)) (callers gs)) (sym none) tt)
        (for_all, inl none) h.lasts h.still_sound
    grouped_refused NoPass h =
        let all = long_dealt (count_of w.values) threads ts are in
        let less = h.ends.1 in
        let fewer : length h.crew.crew < threads = omega (arith, all, less) in
        refused NoPass h.crew (omega (arith, fewer)) (λ e. absurd (cc))
        (λ e. (fewer, λ v. subst (AreTooMany old) all (h.wanting v refl)))
        (idle_visits w can h.crew.more (callers h.crew.crew) h.ends.2) (for_all, h.ends.0, h.ends.2) h.lasts h.still_sound
    grouped_refused r h = absurd h.ends

-- A call that drew nobody.
pub grouped_none : {w : Counter} {threads : ℕ} {v : View} (r : Refusal) → r ≢ TableFull → r ≢ NoPass → IsKnown (view_of_pass v) w.values.records
    → IsKnown (view_of_pass v) w.table → EndsGroups threads v v w [] [] [] (Err r) → GroupedWith threads v v w (Err r)
unfolding nobody
grouped_none {v = v} r full pass records table ends =
    refused records table r (nobody v) (omega arith) full (λ e. absurd (pass e)) tt ends (lasts_none v) (λ h. h)

-- ---- what the tests found

pub dealt_as : (w : Counter) (v : Valued) (n threads : ℕ) (ts : List CountShare) → bounds ts ≡ dealt n threads → n ≡ count_of v → v ≡ w.values
    → bounds ts ≡ dealt (count_of w.values) threads
dealt_as w v n threads ts h many is = subst (λ (k : ℕ). bounds ts ≡ dealt k threads) (many ∙ ap count_of is) h

can_tasks : (w : Counter) (v : View) → CanUse w v → (ts : List CountShare)
    → AllByRecursion (λ (b : Share). (b.0 ≤ b.1) × (b.1 ≤ count_of w.values)) (bounds ts) → AllByRecursion (CanCountTask w v) ts
can_tasks w v use_both [] h = tt
can_tasks w v use_both (t ∷ ts) h = (record { use_both = use_both; order = h.0.0; below = h.0.1 }, can_tasks w v use_both ts h.1)

-- Shares that were dealt out can be counted.
pub can_count_all : (w : Counter) (v : View) (threads : ℕ) (ts : List CountShare) → 0 < threads → CanUse w v
    → bounds ts ≡ dealt (count_of w.values) threads → All (CanCountTask w v) ts
can_count_all w v threads ts some use_both are =
    All-from_recursion (CanCountTask w v) ts (can_tasks w v use_both ts
    (subst (λ (bs : List Share). AllByRecursion (λ (b : Share). (b.0 ≤ b.1) × (b.1 ≤ count_of w.values)) bs) (sym are)
    (lined_within 0 (count_of w.values) (dealt (count_of w.values) threads) (dealt_lined (count_of w.values) threads some)).1))
