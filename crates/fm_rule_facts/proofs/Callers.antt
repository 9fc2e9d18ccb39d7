-- The callers that a pass has: its own, those that are gathered into it, and the one that it drew.
use Rattle.std.proofs.Common.{◌≡◌, ◌≢◌, ℕ, ◌+◌, ◌<◌, ◌≤◌, Bool, true, false, cond, List, [], ◌∷◌, ◌++◌, length, sym, ap, ◌∙◌, subst, arith, inl, inr, ⊎_elim}
use Rattle.std.proofs.lemmas.{Bool.{cases_lt}, List.{append-nil}}
use Rattle.fm_words.specs.declared.shape.Shape.{Shape}
use Rattle.fm_base.specs.{declared.caller.Caller.{Caller}, Arenas.{are_one}, Calls.{Entry}, Histories.{made_by}, Finds.{Gathered}}
use Rattle.fm_base.proofs.Names.{are_one-self}
use Rattle.fm_base_machine.{specs.Functions.{Machine}, proofs.Putting.{one_caller}}
use Rattle.fm_rule_facts.specs.Views.{Met, View, In, HasCaller, KnowsCallers, all_gathered, brought}
use Rattle.fm_rule_facts.specs.Facts.{PoolWords, Owners, WasDrawn, HasGathered, IsSilent, IsOnce, Owns}
use Rattle.fm_rule_facts.proofs.Counting.{ranks, ranks_long, has_rank, in_ranks, ranks_apart, one_rank, at_most, at_least, all_below, Distinct}

-- ---- who made an entry

hit : (b : Bool) (x : Entry) (us : List Entry) → b ≡ true → ¬ (cond b (x ∷ us) us ≡ [])
hit true x us t q = absurd (cc)
hit false x us t q = absurd (cc)

miss : (b : Bool) (x : Entry) (us : List Entry) → cond b (x ∷ us) us ≡ [] → us ≡ []
miss true x us q = absurd (cc)
miss false x us q = q

-- who has an entry in a history made one
pub made_in : (e : Entry) (es : List Entry) → In e es → ¬ (made_by e.caller es ≡ [])
made_in e [] i q = i
made_in e (x ∷ xs) (inl p) q =
    hit (are_one x.caller e.caller) x (made_by e.caller xs) (ap (λ (y : Entry). are_one y.caller e.caller) (sym p) ∙ are_one-self e.caller) q
made_in e (x ∷ xs) (inr i) q = made_in e xs i (miss (are_one x.caller e.caller) x (made_by e.caller xs) q)

-- whether a caller was drawn
pub drawn_or : (draw : ℕ) (who : ℕ → Caller) (rank : Caller → ℕ) (c : Caller) → Dec (WasDrawn draw who rank c)
drawn_or draw who rank c = elim (cases_lt (rank c) draw) [
  | inl l ↦ go l (one_caller (who (rank c)) c)
  | inr l ↦ no (λ d. let x = d.0 in omega arith)
]
  where
    go : rank c < draw → Dec (who (rank c) ≡ c) → Dec (WasDrawn draw who rank c)
    go l (yes e) = yes (l, e)
    go l (no n) = no (λ d. n d.1)

-- ---- the callers of a view that has met nobody

module _ (z : Shape) (h : List Entry) (m : PoolWords) (t : Machine) (o : Owners) (j : ℕ) (v : View) (lone : v.met ≡ []) (u : Owns z h m t o j v) where
  pub all_now : all_gathered v ≡ v.gathered
  all_now = ap (λ (x : List Met). v.gathered ++ brought x) lone ∙ append-nil v.gathered

  -- the ranks of the pass and of its gathered callers are distinct, and drawn
  abbrev nums : List ℕ
  nums = o.rank v.caller ∷ ranks o.rank v.gathered

  its_drawn : (g : Gathered) → In g v.gathered → WasDrawn m.draw o.who o.rank g.caller
  its_drawn g i = (u.gathered g i).drawn

  nums_apart : Distinct nums
  nums_apart = (
    (λ i. let y = has_rank o.rank (o.rank v.caller) v.gathered i in
        (u.gathered y.0 y.1).apart (one_rank o.rank m.draw o.who y.0.caller v.caller (its_drawn y.0 y.1) u.drawn y.2)),
    ranks_apart o.rank m.draw o.who v.gathered its_drawn (subst (IsOnce (λ (g : Gathered). g.caller)) all_now u.one_each),
  )

  nums_below : (n : ℕ) → In n nums → n < m.draw
  nums_below n (inl e) = let x = u.drawn.0 in omega arith
  nums_below n (inr i) = let y = has_rank o.rank n v.gathered i in let x = (its_drawn y.0 y.1).0 in let q = y.2 in omega arith

  -- they are no more than were drawn
  pub few_gathered : length v.gathered + 1 ≤ m.draw
  few_gathered =
      let a = at_most m.draw nums nums_apart nums_below in
      let x = ranks_long o.rank v.gathered in omega arith

  -- where they are as many as were drawn, they are all
  pub counted : length v.gathered + 1 ≡ m.draw → (c : Caller) → WasDrawn m.draw o.who o.rank c → c ≢ v.caller → HasGathered c v
  counted e c b ne = ⊎_elim
      (λ (q : o.rank c ≡ o.rank v.caller). absurd (ne (one_rank o.rank m.draw o.who c v.caller b u.drawn q)))
      (λ (i : In (o.rank c) (ranks o.rank v.gathered)).
      let y = has_rank o.rank (o.rank c) v.gathered i in (
        y.0,
        subst (In y.0) (sym all_now) y.1,
        one_rank o.rank m.draw o.who y.0.caller c (its_drawn y.0 y.1) b y.2,
      ))
      (all_below m.draw nums nums_apart nums_below (let x = ranks_long o.rank v.gathered in omega arith) (o.rank c) b.0)

  -- and where they are all, they are as many
  pub counted_all : ((k : ℕ) → k < m.draw → o.rank (o.who k) ≡ k) → ((c : Caller) → WasDrawn m.draw o.who o.rank c → HasCaller v c)
      → m.draw ≡ length v.gathered + 1
  counted_all ranked has =
      let a = few_gathered in
      let b = at_least m.draw nums (λ n l. ⊎_elim
      (λ (e : o.who n ≡ v.caller). inl (sym (ranked n l) ∙ ap o.rank e))
      (λ (g : (g : Gathered) × In g v.gathered × (g.caller ≡ o.who n)).
      inr (subst (λ (k : ℕ). In k (ranks o.rank v.gathered)) (ap o.rank g.2 ∙ ranked n l) (in_ranks o.rank g.0 v.gathered g.1)))
      (has (o.who n) (let q = ranked n l in omega arith, ap o.who (ranked n l)))) in
      let x = ranks_long o.rank v.gathered in omega arith

  pub whole_has : v.whole ≡ true → (c : Caller) → WasDrawn m.draw o.who o.rank c → HasCaller v c
  whole_has w c l = elim (one_caller c v.caller) [
    | yes e ↦ inl e
    | no ne ↦ (let g = u.whole w c l ne in inr (g.0, subst (In g.0) all_now g.1, g.2))
  ]

  pub all_counted : ((k : ℕ) → k < m.draw → o.rank (o.who k) ≡ k) → v.whole ≡ true → m.draw ≡ length v.gathered + 1
  all_counted ranked w = counted_all ranked (whole_has w)

  -- nobody made an entry who wasn't drawn, so a pass that has all that were drawn has all callers
  pub knows_callers : ((c : Caller) → ¬ (WasDrawn m.draw o.who o.rank c) → IsSilent c h t) → v.seen ≡ h → v.whole ≡ true → KnowsCallers v
  knows_callers later q w e i = elim (drawn_or m.draw o.who o.rank e.caller) [
    | yes d ↦ whole_has w e.caller d
    | no n ↦ absurd (made_in e h (subst (In e) q i) (later e.caller n).calls)
  ]
