-- A history that is told goes on by each call of the `Mono`, beside other callers.
use Rattle.std.proofs.Common.{inr, inl, ◌≡◌, true, List, [], ◌∷◌, ◌++◌, refl, ap, sym, ◌∙◌, subst, Option}
use Rattle.std.proofs.lemmas.List.Elements.{All-nil, All-cons, filter-append}
use Rattle.fm_base.specs.{declared.arena_id.ArenaId.{ArenaId}, Arenas.{only_caller, State}, Calls.{Entry}, Finds.{Gathered}}
use Rattle.fm_base.{specs.{Histories.{IsLegal, state_after, made_by}, View.{Makes, Did, inside_after}}, proofs.Making.{IsLegal-append, state_after-append}}
use Rattle.fm_mono.specs.Shown.{Arenas}
use Rattle.fm_memory_doubles.specs.{declared.heard.Heard.{Heard}, Heard.{entries_by, entries_in, finds_by, finds_in}}
use Rattle.fm_memory_doubles.specs.Double.{gathered_one, Doubled, doubled, double_view, are_gathered, IsOnlyZero, IsInAlive, IsDouble}
use Rattle.fm_memory_doubles.proofs.{Hearing.{entries_more, finds_more, no_draws, Made, mine_is, quiet_is}, Zero.{zero_after}}

-- these entries led from the double to one with this `Mono`, and of them `own` are caller 0's
pub record Went (d : Doubled) (n : Arenas) (all own : List Entry) : Type 0 where
  pub legal : IsLegal d.mono.limit d.mono.state all
  pub reached : n.state ≡ state_after d.mono.limit d.mono.state all
  pub mine : made_by only_caller all ≡ own
  pub inside : n.inside ≡ inside_after d.mono.inside own
  pub limit : n.limit ≡ d.mono.limit
  pub whole : are_gathered d.others ≡ true → all ≡ own
  pub quiet : made_by gathered_one all ≡ []

-- what the `Mono` keeps between calls
pub record IsCalm (n : Arenas) (entered : Option ArenaId) : Type 0 where
  pub inside : n.inside ≡ entered
  pub only_zero : IsOnlyZero n.state
  pub alive : IsInAlive n.state n.inside

-- the double goes on to one with this `Mono`, where this was heard
pub record Goes (d : Doubled) (n : Arenas) (hs : List Heard) (entered : Option ArenaId) (P : List Entry → Type 0) : Type 0 where
  pub keeps : IsDouble (doubled n d.others hs) entered
  pub did : Did (double_view d) (double_view (doubled n d.others hs)) P

module _ (d : Doubled) (n : Arenas) (h : Heard) (hs : List Heard) (own : List Entry) (w : Went d n (entries_by h) own) (e : hs ≡ d.heard ++ h ∷ []) where
  seen_on : entries_in hs ≡ entries_in d.heard ++ entries_by h
  seen_on = ap entries_in e ∙ entries_more d.heard h

  -- It goes on by what was heard.
  makes_on : Makes (double_view d) (double_view (doubled n d.others hs)) own
  makes_on =
      let finds = finds_more 0 d.heard h in
      record {
        all = entries_by h;
        legal = w.legal;
        reached = w.reached;
        by_caller = w.mine;
        alone = λ k. elim k [ inl e2 ↦ absurd (let never : ⊥ = cc in never) | inr is ↦ w.whole is ];
        inside = w.inside;
        same_limit = w.limit;
        same_caller = refl;
        same_alone = refl;
        told = record {
          seen = seen_on;
          mine =
              ap (λ (es : List Entry). made_by only_caller es) seen_on
              ∙ (filter-append _ (entries_in d.heard) (entries_by h) ∙ ap (λ (es : List Entry). made_by only_caller (entries_in d.heard) ++ es) w.mine);
          finds = record { more = finds_by finds.0 h; grown = ap (finds_in 0) e ∙ finds.1; no_draw = no_draws finds.0 h };
          rest = refl;
          quiet =
              All-cons (λ (g : Gathered). made_by g.caller (entries_by h) ≡ []) (record { caller = gathered_one; finds = [] }) [] w.quiet
              (All-nil (λ (g : Gathered). made_by g.caller (entries_by h) ≡ []));
        };
      }

  keeps_on : (i j : Option ArenaId) → IsDouble d i → IsCalm n j → IsDouble (doubled n d.others hs) j
  keeps_on i j b c = record {
    small = rw w.limit b.small;
    legal =
        rw (w.limit, seen_on)
        (IsLegal-append d.mono.limit [] (entries_in d.heard) (entries_by h) b.legal
        (subst (λ (s : State). IsLegal d.mono.limit s (entries_by h)) b.state w.legal));
    state =
        rw (w.limit, seen_on)
        (w.reached
        ∙ (ap (λ (s : State). state_after d.mono.limit s (entries_by h)) b.state
        ∙ sym (state_after-append d.mono.limit [] (entries_in d.heard) (entries_by h))));
    inside = c.inside;
    only_zero = c.only_zero;
    alive = c.alive;
  }

  pub goes_on : (P : List Entry → Type 0) (i j : Option ArenaId) → IsDouble d i → IsCalm n j → P own → Goes d n hs j P
  goes_on P i j b c p = record { keeps = keeps_on i j b c; did = record { own = own; does = p; makes = makes_on } }

-- ---- caller 0's own calls

-- What the `Mono` made is done beside the others too.
went_own : (d : Doubled) (n : Arenas) (own : List Entry) → Made d.mono n own → Went d n own own
went_own d n own k = record {
  legal = k.legal;
  reached = k.reached;
  mine = mine_is own k.mine;
  inside = k.inside;
  limit = k.limit;
  whole = λ h. refl;
  quiet = quiet_is own k.mine;
}

pub calm_by : (m n : Arenas) (own : List Entry) (j : Option ArenaId) → IsOnlyZero m.state → Made m n own → n.inside ≡ j
    → IsInAlive n.state n.inside → IsCalm n j
calm_by m n own j zero k is alive = record {
  inside = is;
  only_zero = subst (λ (s : State). IsOnlyZero s) (sym k.reached) (zero_after m.limit m.state own k.mine zero);
  alive = alive;
}

-- A call of caller 0 that was heard.
pub own_goes : (d : Doubled) (n : Arenas) (h : Heard) (hs : List Heard) (P : List Entry → Type 0) (i j : Option ArenaId) → IsDouble d i
    → Made d.mono n (entries_by h) → hs ≡ d.heard ++ h ∷ []
    → n.inside ≡ j → IsInAlive n.state n.inside → P (entries_by h) → Goes d n hs j P
own_goes d n h hs P i j b k e is alive p =
    goes_on d n h hs (entries_by h) (went_own d n (entries_by h) k) e P i j b (calm_by d.mono n (entries_by h) j b.only_zero k is alive) p
