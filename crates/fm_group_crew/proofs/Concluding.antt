-- How shares ended, and what the last of a crew did behind them.
use Rattle.std.proofs.Common.{◌≡◌, List, [], ◌∷◌, ◌++◌, refl, sym, ap, ◌∙◌, subst, inl, inr, ⊎_elim, Result, Ok, Err}
use Rattle.std.{specs.{Prelude.{◌⊎◌}, List.{AllByRecursion}}, proofs.lemmas.List.Elements.{filter-append}}
use Rattle.fm_base_lists.{specs.Among.{IsAmong}, proofs.{Among.{among_either}, Each.{all_snoc, all_weaker}}}
use Rattle.fm_base.specs.{declared.{caller.Caller.{Caller}, refusal.Refusal.{Refusal}}, Arenas.{are_one}, Calls.{Entry}, Histories.{made_by}}
use Rattle.fm_group_lists.specs.Groups.{Group}
use Rattle.fm_group.specs.Table.{CanTable, Counter}
use Rattle.fm_base.proofs.Either.{by_either}
use Rattle.fm_group_laws.specs.Shares.{AreShared, Share}
use Rattle.fm_workers_crew.specs.{Crew.{AreIdle}, Then.{LastGoes}}
use Rattle.fm_group_crew.specs.{Ends.{Concludes, first_end}, Grouped.{OnlyVisits, no_more}}
use Rattle.fm_group_crew.proofs.Visiting.{as_visits, both_visit, concludes_visit, share_visits}

-- ---- how shares ended

pub none_refused : (rs : List (Result (Unit {0}) Refusal)) → first_end rs ≡ Ok tt → AllByRecursion (λ r. r ≡ Ok tt) rs
none_refused [] e = tt
none_refused (Ok u ∷ rs) e = (refl, none_refused rs e)
none_refused (Err r ∷ rs) e = absurd (cc)

pub refused_among : (rs : List (Result (Unit {0}) Refusal)) (r : Refusal) → first_end rs ≡ Err r → IsAmong (Err r) rs
refused_among [] r e = absurd (cc)
refused_among (Ok u ∷ rs) r e = inr (refused_among rs r e)
refused_among (Err q ∷ rs) r e = inl (sym e)

-- Groups are answered only where none was refused.
pub concluded_ok : (c : Caller) (w : Counter) (end : Result (Unit {0}) Refusal) (gs : List Group) (own : List Entry) → Concludes w end (Ok gs) c own
    → end ≡ Ok tt
concluded_ok c w (Ok u) gs own h = refl
concluded_ok c w (Err r) gs own h = absurd (cc)

-- ---- entries of all

made_both : (c : Caller) (xs ys : List Entry) → made_by c (xs ++ ys) ≡ made_by c xs ++ made_by c ys
made_both c xs ys = filter-append (λ e. are_one e.caller c) xs ys

both_each : {A : Type 0} (P Q R : A → Type 0) → ((x : A) → P x → Q x → R x) → (xs : List A) → AllByRecursion P xs → AllByRecursion Q xs
    → AllByRecursion R xs
both_each P Q R f [] h k = tt
both_each P Q R f (x ∷ xs) h k = (f x h.0 k.0, both_each P Q R f xs h.1 k.1)

-- What holds where none of the others made an entry.
pub sole_others : (P : Entry → Type 0) (others : List Caller) (last : Caller) (es : List Entry) → AreIdle es others
    → AllByRecursion (λ e. IsAmong e.caller (others ++ last ∷ []) ⊎ P e) es → AllByRecursion (λ e. IsAmong e.caller (last ∷ []) ⊎ P e) es
sole_others P others last es idle h =
    by_either (λ e. IsAmong e.caller (last ∷ []) ⊎ P e) others es
    (all_weaker (λ e. IsAmong e.caller (others ++ last ∷ []) ⊎ P e) (λ e. IsAmong e.caller others ⊎ (IsAmong e.caller (last ∷ []) ⊎ P e))
    (λ e k. ⊎_elim (λ i. ⊎_elim (λ (a : IsAmong e.caller others). inl a) (λ (b : IsAmong e.caller (last ∷ [])). inr (inl b))
    (among_either e.caller others (last ∷ []) i)) (λ (p : P e). inr (inr p)) k) es h)
    (all_weaker (λ c. made_by c es ≡ []) (λ c. AllByRecursion (λ e. IsAmong e.caller (last ∷ []) ⊎ P e) (made_by c es))
    (λ c none. subst (λ (own : List Entry). AllByRecursion (λ e. IsAmong e.caller (last ∷ []) ⊎ P e) own) (sym none) tt) others idle)

-- ---- visits

module _ (w : Counter) (can : CanTable w) where
  shares_visit : (es : List Entry) (cs : List Caller) (bs : List Share) (rs : List (Result (Unit {0}) Refusal)) → AreShared w es cs bs rs
      → AllByRecursion (λ c. OnlyVisits w c (made_by c es)) cs
  shares_visit es [] [] [] h = tt
  shares_visit es (c ∷ cs) (b ∷ bs) (r ∷ rs) h = (share_visits w c can.table b.0 b.1 r (made_by c es) h.0, shares_visit es cs bs rs h.1)
  shares_visit es cs bs rs h = absurd h

  pub idle_visits : (es : List Entry) (cs : List Caller) → AreIdle es cs → AllByRecursion (λ c. OnlyVisits w c (made_by c es)) cs
  idle_visits es cs idle = all_weaker (λ c. made_by c es ≡ []) (λ c. OnlyVisits w c (made_by c es)) (λ c none. as_visits w c none no_more) cs idle

  last_visits : (end : Result (Unit {0}) Refusal) (result : Result (List Group) Refusal) (es : List Entry) (cs : List Caller)
      → LastGoes (Concludes w end result) es cs → AllByRecursion (λ c. OnlyVisits w c (made_by c es)) cs
  last_visits end result es cs h =
      subst (λ (xs : List Caller). AllByRecursion (λ c. OnlyVisits w c (made_by c es)) xs) (sym h.are)
      (all_snoc (λ c. OnlyVisits w c (made_by c es)) h.others h.last (idle_visits es h.others h.quiet)
      (concludes_visit w h.last can.table end result (made_by h.last es) h.goes))

  -- Shares, and what the last did behind them.
  pub all_visit : (before behind more : List Entry) (cs : List Caller) (bs : List Share) (rs : List (Result (Unit {0}) Refusal))
      (result : Result (List Group) Refusal) → more ≡ before ++ behind → AreShared w before cs bs rs → LastGoes (Concludes w (first_end rs) result) behind cs
      → AllByRecursion (λ c. OnlyVisits w c (made_by c more)) cs
  all_visit before behind more cs bs rs result parts shared last =
      both_each (λ c. OnlyVisits w c (made_by c before)) (λ c. OnlyVisits w c (made_by c behind)) (λ c. OnlyVisits w c (made_by c more))
      (λ c h k. as_visits w c (ap (made_by c) parts ∙ made_both c before behind) (both_visit w c (made_by c before) (made_by c behind) h k))
      cs (shares_visit before cs bs rs shared) (last_visits (first_end rs) result behind cs last)
