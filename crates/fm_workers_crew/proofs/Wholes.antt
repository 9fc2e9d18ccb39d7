-- A pass that was known to be whole is so again once its crew is gathered.
use Rattle.std.{proofs.Common.{◌≡◌, ◌⊎◌, true, false, List, [], ◌∷◌, ◌++◌, refl, ap, sym, ◌∙◌, subst, ⊎_elim, inl, inr, All, Some}, specs.List.{AllByRecursion}}
use Rattle.std.proofs.lemmas.List.Elements.{recursion_from_All}
use Rattle.fm_base_lists.specs.Among.{IsAmong, AreApart}
use Rattle.fm_base.specs.{declared.caller.Caller.{Caller}, Arenas.{only_caller}, Calls.{Entry}, Histories.{made_by}, Finds.{Find, Gathered, is_draw}}
use Rattle.fm_rule_facts.{specs.{Views.{View, In, IsOnce, IsSound, HasCaller, HasAllDrawn}, Splits.{as_gathered}}, proofs.Callers.{made_in}}
use Rattle.fm_rule_facts.proofs.Keeping.{in_append, in_left, in_right}
use Rattle.fm_workers_crew.specs.{declared.worker.Worker.{Worker}, Crew.{callers}, Rounds.{Went, GatheredCrew, crew_of}}
use Rattle.fm_workers_crew.proofs.{Drawing.{caller_still, gathered_still}, Gathering.{Made, gatherer_still, gathered_is}}

-- ---- callers

among_gathered : (c : Caller) (gs : List Gathered) → IsAmong c (callers gs) → (g : Gathered) × In g gs × (g.caller ≡ c)
among_gathered c [] i = absurd i
among_gathered c (g ∷ gs) (inl e) = (g, inl refl, sym e)
among_gathered c (g ∷ gs) (inr i) = let r = among_gathered c gs i in (r.0, inr r.1, r.2)

gathered_among : (g : Gathered) (gs : List Gathered) → In g gs → IsAmong g.caller (callers gs)
gathered_among g [] i = absurd i
gathered_among g (x ∷ gs) (inl e) = inl (ap (λ (y : Gathered). y.caller) e)
gathered_among g (x ∷ gs) (inr i) = inr (gathered_among g gs i)

-- Callers that differ are apart.
apart_each : (gs : List Gathered) → IsOnce (λ (g : Gathered). g.caller) gs → AreApart (callers gs)
apart_each [] h = tt
apart_each (g ∷ gs) h = ((λ i. let r = among_gathered g.caller gs i in h.0 r.0 r.1 r.2), apart_each gs h.1)

once_right : (xs ys : List Gathered) → IsOnce (λ (g : Gathered). g.caller) (xs ++ ys) → IsOnce (λ (g : Gathered). g.caller) ys
once_right [] ys h = h
once_right (x ∷ xs) ys h = once_right xs ys h.1

-- No two of a crew are one.
pub crew_apart : (old new : View) (crew : List Gathered) → new.gathered ≡ old.gathered ++ crew → IsSound new → AreApart (callers crew)
crew_apart old new crew e sound =
    apart_each crew (once_right old.gathered crew (subst (λ (gs : List Gathered). IsOnce (λ (g : Gathered). g.caller) gs) e sound.one_each))

-- ---- nobody else made an entry

each_in : {X : Type 0} (P : X → Type 0) (xs : List X) → ((x : X) → In x xs → P x) → AllByRecursion P xs
each_in P [] h = tt
each_in P (x ∷ xs) h = (h x (inl refl), each_in P xs (λ y i. h y (inr i)))

all_in : {X : Type 0} (P : X → Type 0) (xs : List X) (x : X) → AllByRecursion P xs → In x xs → P x
all_in P [] x h i = absurd i
all_in P (y ∷ xs) x h (inl e) = subst P (sym e) h.0
all_in P (y ∷ xs) x h (inr i) = all_in P xs x h.1 i

module _ (old new : View) (more : List Entry) (crew : List Gathered) (seen : new.seen ≡ old.seen ++ more) (caller : new.caller ≡ old.caller)
    (gathered : new.gathered ≡ old.gathered ++ crew) (apart : All (Made more) old.gathered) (sound : IsSound new) (whole : new.whole ≡ true) where
  by_own_or_crew : (e : Entry) → In e more → (e.caller ≡ old.caller) ⊎ IsAmong e.caller (callers crew)
  by_own_or_crew e i =
      ⊎_elim
      (λ (is : e.caller ≡ new.caller). inl (is ∙ caller))
      (λ (h : (g : Gathered) × In g new.gathered × (g.caller ≡ e.caller)).
      ⊎_elim
      (λ (a : In h.0 old.gathered).
      let none = all_in (Made more) old.gathered h.0 (recursion_from_All (Made more) old.gathered apart) a in
      absurd (made_in e more i (ap (λ (c : Caller). made_by c more) (sym h.2) ∙ none)))
      (λ (b : In h.0 crew). inr (subst (λ (c : Caller). IsAmong c (callers crew)) h.2 (gathered_among h.0 crew b)))
      (in_append h.0 old.gathered crew (subst (In h.0) gathered h.1)))
      (sound.knows whole e (subst (In e) (sym seen) (in_right e old.seen more i)))

  pub only_own_or_crew : AllByRecursion (λ e. (e.caller ≡ old.caller) ⊎ IsAmong e.caller (callers crew)) more
  only_own_or_crew = each_in (λ e. (e.caller ≡ old.caller) ⊎ IsAmong e.caller (callers crew)) more by_own_or_crew

  pub only_crew : made_by old.caller more ≡ [] → AllByRecursion (λ e. IsAmong e.caller (callers crew)) more
  only_crew own = each_in (λ e. IsAmong e.caller (callers crew)) more (λ e i. ⊎_elim
      (λ (is : e.caller ≡ old.caller). absurd (made_in e more i (ap (λ (c : Caller). made_by c more) is ∙ own)))
      (λ (among : IsAmong e.caller (callers crew)). among)
      (by_own_or_crew e i))

-- ---- every caller that was drawn is there again

keeps_caller : (p q : View) (gs : List Gathered) (c : Caller) → q.caller ≡ p.caller → q.gathered ≡ p.gathered ++ gs → HasCaller p c → HasCaller q c
keeps_caller p q gs c same g (inl e) = inl (e ∙ sym same)
keeps_caller p q gs c same g (inr h) = inr (h.0, subst (In h.0) (sym g) (in_left h.0 p.gathered gs h.1), h.2)

unfoldable pub NoDraws : View → Type 0
NoDraws v = (f : Find) → In f v.finds → is_draw f.step ≡ false

undrawn_in : {T : Type 0} (ws : List (Worker T)) → AllByRecursion (λ (w : Worker T). NoDraws w.memory) ws → (g : Gathered) → In g (crew_of ws) → (f : Find)
    → In f g.finds → is_draw f.step ≡ false
unfolding NoDraws
undrawn_in [] h g i f j = absurd i
undrawn_in (w ∷ ws) h g i f j = ⊎_elim (λ (a : In g (crew_of ws)). undrawn_in ws h.1 g a f j)
    (λ (b : In g (as_gathered w.memory ∷ [])).
    ⊎_elim (λ (e : g ≡ as_gathered w.memory). h.0 f (subst (λ (x : Gathered). In f x.finds) e j)) (λ k. absurd k) b)
    (in_append g (crew_of ws) (as_gathered w.memory ∷ []) i)

-- Where the finds grew by these, each draw of which drew one of the crew.
module _ {T : Type 0} (old got : View) (vs : List (Worker T)) (finds : List Find) (caller : got.caller ≡ old.caller)
    (gathered : got.gathered ≡ old.gathered ++ crew_of vs) (grown : got.finds ≡ old.finds ++ finds) where
  still : (c : Caller) → HasCaller old c → HasCaller got c
  still c h = keeps_caller old got (crew_of vs) c caller gathered h

  crew_has : (c : Caller) → IsAmong c (callers (crew_of vs)) → HasCaller got c
  crew_has c i =
      let r = among_gathered c (crew_of vs) i in
      inr (r.0, subst (In r.0) (sym gathered) (in_right r.0 old.gathered (crew_of vs) r.1), r.2)

  pub has_all_drawn : ((f : Find) (c : Caller) → In f finds → is_draw f.step ≡ true → f.drew ≡ Some c → IsAmong c (callers (crew_of vs)))
      → AllByRecursion (λ (v : Worker T). NoDraws v.memory) vs → HasAllDrawn old → HasAllDrawn got
  has_all_drawn only undrawn h = record {
    first = still only_caller h.first;
    others = λ f c i draw drew. ⊎_elim
        (λ (j : In f got.finds). ⊎_elim (λ (a : In f old.finds). still c (h.others f c (inl a) draw drew))
        (λ (b : In f finds). crew_has c (only f c b draw drew)) (in_append f old.finds finds (subst (In f) grown j)))
        (λ (j : (g : Gathered) × In g got.gathered × In f g.finds).
        ⊎_elim (λ (a : In j.0 old.gathered). still c (h.others f c (inr (j.0, a, j.2)) draw drew))
        (λ (b : In j.0 (crew_of vs)). let not : true ≡ false = sym draw ∙ undrawn_in vs undrawn j.0 b f j.2 in absurd (cc))
        (in_append j.0 old.gathered (crew_of vs) (subst (In j.0) gathered j.1)))
        i;
  }

module _ {T : Type 0} {old drew got : View} {vs : List (Worker T)} (m : Went old drew) (k : GatheredCrew drew got vs) where
  pub caller_again : got.caller ≡ old.caller
  caller_again = gatherer_still k ∙ caller_still m

  pub gathered_again : got.gathered ≡ old.gathered ++ crew_of vs
  gathered_again = gathered_is k ∙ ap (λ (gs : List Gathered). gs ++ crew_of vs) (gathered_still m)

  pub finds_again : got.finds ≡ old.finds ++ m.draws
  finds_again = ap (λ (v : View). v.finds) k.is ∙ m.finds

  pub all_drawn_again : ((f : Find) (c : Caller) → In f m.draws → f.drew ≡ Some c → IsAmong c (callers (crew_of vs)))
      → AllByRecursion (λ (v : Worker T). NoDraws v.memory) vs → HasAllDrawn old → HasAllDrawn got
  all_drawn_again only undrawn h = has_all_drawn old got vs m.draws caller_again gathered_again finds_again (λ f c i draw drew. only f c i drew) undrawn h
