-- Histories put together, and calls one after another.
use Rattle.std.proofs.Common.{◌≡◌, ℕ, false, List, [], ◌∷◌, ◌++◌, refl, ap, sym, ◌∙◌, subst, append_assoc, Option, Some, None, inl, inr, All, get_or}
use Rattle.std.proofs.lemmas.List.{append-nil, Elements.{filter-append, All-append, All-nil}}
use Rattle.fm_base.specs.{declared.arena_id.ArenaId.{ArenaId}, Arenas.{State}, Calls.{Entry}, Machine.{after}, Histories.{IsLegal, state_after, made_by}}
use Rattle.fm_base.specs.Finds.{Find, Rest, FindsMore, is_draw}
use Rattle.fm_base.specs.View.{View, Told, Makes, TellsOn, IsToldWhole, IsByItself, inside_after, inside_next, but_loans}

-- the state after two histories, one after the other
pub state_after-append : (limit : ℕ) (s : State) (es fs : List Entry) → state_after limit s (es ++ fs) ≡ state_after limit (state_after limit s es) fs
state_after-append limit s [] fs = refl
state_after-append limit s (e ∷ es) fs = state_after-append limit (after limit s e) es fs

-- two legal histories, one after the other
pub IsLegal-append : (limit : ℕ) (s : State) (es fs : List Entry) → IsLegal limit s es → IsLegal limit (state_after limit s es) fs → IsLegal limit s (es ++ fs)
IsLegal-append limit s [] fs p q = q
IsLegal-append limit s (e ∷ es) fs p q = (p.0, p.1, IsLegal-append limit (after limit s e) es fs p.2 q)

-- both parts of a legal history
pub IsLegal-split : (limit : ℕ) (s : State) (es fs : List Entry) → IsLegal limit s (es ++ fs) → IsLegal limit s es × IsLegal limit (state_after limit s es) fs
IsLegal-split limit s [] fs h = (tt, h)
IsLegal-split limit s (e ∷ es) fs h = let r = IsLegal-split limit (after limit s e) es fs h.2 in ((h.0, h.1, r.0), r.1)

-- the arena that the caller is inside after two runs of entries
pub inside_after-append : (i : Option ArenaId) (es fs : List Entry) → inside_after i (es ++ fs) ≡ inside_after (inside_after i es) fs
inside_after-append i [] fs = refl
inside_after-append i (e ∷ es) fs = inside_after-append (inside_next i e.call e.reply) es fs

-- the entries but loans, of two runs
pub but_loans-append : (es fs : List Entry) → but_loans (es ++ fs) ≡ but_loans es ++ but_loans fs
but_loans-append es fs = filter-append _ es fs

-- finds that grow twice
pub FindsMore-trans : (a b c : List Find) → FindsMore a b → FindsMore b c → FindsMore a c
FindsMore-trans a b c p q = record {
  more = p.more ++ q.more;
  grown = q.grown ∙ (ap (λ w. w ++ q.more) p.grown ∙ append_assoc a p.more q.more);
  no_draw = All-append (λ f. is_draw f.step ≡ false) p.more q.more p.no_draw q.no_draw;
}

-- finds that stay
pub FindsMore-none : (a : List Find) → FindsMore a a
FindsMore-none a = record { more = []; grown = sym (append-nil a); no_draw = All-nil (λ f. is_draw f.step ≡ false) }

-- what is told of two calls
TellsOn-append : (t u v : Option Told) (a b o p : List Entry) → TellsOn t u a o → TellsOn u v b p → TellsOn t v (a ++ b) (o ++ p)
TellsOn-append None None None a b o p h k = tt
TellsOn-append (Some t) (Some u) (Some v) a b o p h k = record {
  seen = k.seen ∙ (ap (λ w. w ++ b) h.seen ∙ append_assoc t.seen a b);
  mine = k.mine ∙ (ap (λ w. w ++ p) h.mine ∙ append_assoc t.mine o p);
  finds = FindsMore-trans t.finds u.finds v.finds h.finds k.finds;
  rest = k.rest ∙ h.rest;
  quiet =
      let next = subst (λ (r : Rest). All (λ g. made_by g.caller b ≡ []) r.gathered) h.rest k.quiet in
      λ i g l. filter-append _ a b ∙ (ap (λ w. w ++ made_by (get_or t.rest.gathered i g).caller b) (h.quiet i g l) ∙ next i g l);
}
TellsOn-append None (Some u) v a b o p h k = absurd h
TellsOn-append (Some t) None v a b o p h k = absurd h
TellsOn-append None None (Some v) a b o p h k = absurd k
TellsOn-append (Some t) (Some u) None a b o p h k = absurd k

-- what is told to be whole is so after a call
told_whole_still : (t u : Option Told) (a o : List Entry) → TellsOn t u a o → IsToldWhole t → IsToldWhole u
told_whole_still None u a o h w = absurd w
told_whole_still (Some t) None a o h w = absurd h
told_whole_still (Some t) (Some u) a o h w = ap (λ r. r.whole) h.rest ∙ w

-- who was by itself is so after a call
pub by_itself_still : (x y : View) (es : List Entry) → Makes x y es → IsByItself x → IsByItself y
by_itself_still x y es p (inl alone) = inl (p.same_alone ∙ alone)
by_itself_still x y es p (inr whole) = inr (told_whole_still x.told y.told p.all es p.told whole)

-- one call after another
pub Makes-then : (x y z : View) (es fs : List Entry) → Makes x y es → Makes y z fs → Makes x z (es ++ fs)
Makes-then x y z es fs p q = record {
  all = p.all ++ q.all;
  legal = IsLegal-append x.limit x.state p.all q.all p.legal
      (subst (λ (l : ℕ). IsLegal l (state_after x.limit x.state p.all) q.all) p.same_limit
      (subst (λ (s : State). IsLegal y.limit s q.all) p.reached q.legal));
  reached = rw (state_after-append, ← p.reached, ← p.same_limit) q.reached;
  by_caller = rw filter-append (rw (p.by_caller, ← p.same_caller, q.by_caller) refl);
  alone = λ h. rw (p.alone h, q.alone (by_itself_still x y es p h)) refl;
  inside = rw (inside_after-append, ← p.inside) q.inside;
  same_limit = q.same_limit ∙ p.same_limit;
  same_caller = q.same_caller ∙ p.same_caller;
  same_alone = q.same_alone ∙ p.same_alone;
  told = TellsOn-append x.told y.told z.told p.all q.all es fs p.told q.told;
}

TellsOn-none : (t : Option Told) → TellsOn t t [] []
TellsOn-none None = tt
TellsOn-none (Some t) = record {
  seen = sym (append-nil t.seen);
  mine = sym (append-nil t.mine);
  finds = FindsMore-none t.finds;
  rest = refl;
  quiet = λ i g l. refl;
}

-- no call
pub Makes-none : (x : View) → Makes x x []
Makes-none x = record {
  all = [];
  legal = tt;
  reached = refl;
  by_caller = refl;
  alone = λ h. refl;
  inside = refl;
  same_limit = refl;
  same_caller = refl;
  same_alone = refl;
  told = TellsOn-none x.told;
}
