-- Counts and readings of a table that find no arena closed.
use Rattle.std.proofs.Common.{◌≡◌, ℕ, List, [], ◌∷◌, ◌++◌, Result, Ok, Err, refl, subst, ⊎_elim}
use Rattle.std.specs.{Prelude.{ℤ}, List.{AllByRecursion, flat_map}}
use Rattle.fm_base.specs.declared.{caller.Caller.{Caller}, refusal.Refusal.{Refusal, TheVariants.{Closed}}}
use Rattle.fm_base.specs.{Calls.{Entry}, Histories.{made_by}, Untouched.{ComesIn}}
use Rattle.fm_base_lists.proofs.Each.{all_split}
use Rattle.fm_records.specs.Reads.{read_visit}
use Rattle.fm_group.specs.{Counting.{DoesCount, EndsTries, FindsClaim, ReadsAndTries, ReadsValue, StopsAt, claim_try, shut, uncounted, unread}, Table.{Counter}, Values.{count_of}}
use Rattle.fm_group.specs.Reading.{DoesReadGroups, EndsAt, records_shut, table_shut}
use Rattle.fm_group_laws.specs.Shares.{AreShared, DoesShare, Share}
use Rattle.fm_group_crew.specs.{Dealt.{dealt}, Ends.{Concludes, first_end}, Grouped.{IsCounted}}
use Rattle.fm_top_pooled.proofs.Crews.{made_too, not_shut}

module _ (w : Counter) where
  -- whoever entered one of the two arenas came in
  abbrev pub AllCome : List Entry → Type 0
  AllCome own = AllByRecursion (ComesIn w.values.records.arena) own × AllByRecursion (ComesIn w.table.arena) own

  come_after : (own before last : List Entry) → own ≡ before ++ last → AllCome own → AllCome last
  come_after own before last parts come =
      let both : AllCome (before ++ last) = subst AllCome parts come in
      ((all_split (ComesIn w.values.records.arena) before last both.0).1, (all_split (ComesIn w.table.arena) before last both.1).1)

  come_before : (own before last : List Entry) → own ≡ before ++ last → AllCome own → AllCome before
  come_before own before last parts come =
      let both : AllCome (before ++ last) = subst AllCome parts come in
      ((all_split (ComesIn w.values.records.arena) before last both.0).0, (all_split (ComesIn w.table.arena) before last both.1).0)

  own_come : (c : Caller) (es : List Entry) → AllCome es → AllCome (made_by c es)
  own_come c es come = (made_too (ComesIn w.values.records.arena) c es come.0, made_too (ComesIn w.table.arena) c es come.1)

  -- ---- a count

  module _ (c : Caller) where
    value_read : (n : ℕ) (own : List Entry) → AllCome own → ReadsValue c w.values n (Err Closed) own → ⊥
    value_read n own come h = not_shut w.values.records.arena c own (flat_map (read_visit c w.values.records.arena) h.seen) come.0 h.visits

    claim_read : (n : ℕ) (x : ℤ) (p : ℕ) (own : List Entry) → AllCome own → FindsClaim c w n x p (Err Closed) own → ⊥
    claim_read n x p own come f = value_read f.value f.reads (come_after own (claim_try c w n p f.found) f.reads f.parts come) f.read

    not_at : (n : ℕ) (x : ℤ) (p : ℕ) (own : List Entry) → AllCome own → StopsAt c w n x p own → ⊥
    not_at n x p own come shut = not_shut w.table.arena c own [] come.1 refl
    not_at n x p own come (unread all f) = claim_read n x p all come f
    not_at n x p own come (uncounted first f) = not_shut w.table.arena c own first come.1 refl

    tried_all : (n : ℕ) (own : List Entry) → AllCome own → ReadsAndTries c w n (Err Closed) own → ⊥
    tried_all n own come h =
        let ends : EndsTries c w n h.number (StopsAt c w n h.number) h.tried.0 h.tries = h.tried.1 in
        not_at n h.number h.tried.0 ends.last (come_after h.tries ends.before ends.last ends.parts (come_after own h.reads h.tries h.parts come)) ends.ended

    count_ends : (n : ℕ) (own : List Entry) → AllCome own → DoesCount c w n (Err Closed) own → ⊥
    count_ends n own come d = ⊎_elim (λ (h : ReadsValue c w.values n (Err Closed) own). value_read n own come h)
        (λ (h : ReadsAndTries c w n (Err Closed) own). tried_all n own come h) d.1

    share_ends : (from to : ℕ) (own : List Entry) → AllCome own → DoesShare c w from to (Err Closed) own → ⊥
    share_ends from to own come d = count_ends d.at d.last (come_after own d.before d.last d.parts come) d.refused

    -- ---- a reading

    not_there : (k : ℕ) (own : List Entry) → AllCome own → EndsAt c w k own → ⊥
    not_there k own come table_shut = not_shut w.table.arena c own [] come.1 refl
    not_there k own come (records_shut j value xs first more part within names read) = value_read value more (come_after own first more refl come) read

    reading_ends : (own : List Entry) → AllCome own → DoesReadGroups c w (Err Closed) own → ⊥
    reading_ends own come d = not_there d.1.k d.1.last (come_after own d.1.before d.1.last d.1.parts come) d.1.ended

  -- ---- all of them

  shared_ends : (es : List Entry) (cs : List Caller) (bs : List Share) (rs : List (Result (Unit {0}) Refusal)) → AllCome es → AreShared w es cs bs rs
      → first_end rs ≡ Err Closed → ⊥
  shared_ends es [] [] [] come h e = absurd (cc)
  shared_ends es (c ∷ cs) (b ∷ bs) (Ok u ∷ rs) come h e = shared_ends es cs bs rs come h.1 e
  shared_ends es (c ∷ cs) (b ∷ bs) (Err q ∷ rs) come h e =
      let is : q ≡ Closed = cc in
      share_ends c b.0 b.1 (made_by c es) (own_come c es come) (subst (λ (r : Refusal). DoesShare c w b.0 b.1 (Err r) (made_by c es)) is h.0)
  shared_ends es cs bs rs come h e = absurd h

  concluded_ends : (c : Caller) (own : List Entry) (end : Result (Unit {0}) Refusal) → AllCome own → (end ≡ Err Closed → ⊥) → Concludes w end (Err Closed) c own → ⊥
  concluded_ends c own (Ok u) come not d = reading_ends c own come d
  concluded_ends c own (Err r) come not d = not (let e = d.0 in cc)

  -- Where all come in, nothing is refused as closed.
  pub never_closed : {threads : ℕ} {crew : List Caller} {more : List Entry} → AllCome more → IsCounted w threads crew more (Err Closed) → ⊥
  never_closed {threads} {crew} {more} come h =
      concluded_ends h.last.last (made_by h.last.last h.behind) (first_end h.ends)
      (own_come h.last.last h.behind (come_after more h.before h.behind h.parts come))
      (λ e. shared_ends h.before crew (dealt (count_of w.values) threads) h.ends (come_before more h.before h.behind h.parts come) h.each e) h.last.goes
