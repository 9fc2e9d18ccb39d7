-- A pass has what names stand for, as it goes on.
use Rattle.std.proofs.Common.{◌≡◌, ◌≢◌, ℕ, zero, suc, ◌+◌, ◌<◌, List, [], ◌∷◌, ◌++◌, length, get_or, set, refl, ap, sym, ◌∙◌, subst, arith, Option, Some, None, All}
use Rattle.std.{specs.{Prelude.{IfSome}, Option.{option_map}}, proofs.lemmas.List.Elements.{All-push, All-set, All-weaker}}
use Rattle.fm_base.{specs.{declared.arena_id.ArenaId.{ArenaId}, Arenas.{same_id}, Outcomes.{Lasts}}, proofs.Names.{same_id-self}}
use Rattle.fm_base.specs.declared.kind.Kind.TheVariants.{Automatic}
use Rattle.fm_gate.specs.declared.held.Hold as held
use Rattle.fm_rule_facts.specs.{Holds.{how_many, one_if, released}, Views.{View, IsKnown}}
use Rattle.fm_arena.specs.{declared.handle.AutoHandle.{AutoHandle}, Handles.{HasHandle}, Learnt.{CanUnhold}}
use Rattle.fm_gate.specs.Makers.{made_by_pass}
use Rattle.fm_segment.specs.Access as segment
use Rattle.fm_rule_calls.specs.Told.{view_of_pass}
use Rattle.fm_script_lines.specs.declared.{bound.Bound.{Bound}, standing.Standing.{Standing, TheVariants.{Nothing, Arena, Segment, Hold, Handle}}}
use Rattle.fm_script_lines.specs.Standings.{IsBacked, IsHandleIn, standing_of, arena_of, segment_of, hold_in, handle_in, hold_of, handle_of, lent, unheld, handed_back, standing_as}
use Rattle.fm_script_lines.specs.Tokens.{Backs, BacksWith, HasTokens, among, onto, holds_with, handles_with}
use Rattle.fm_script_lines.proofs.Naming.{lent_none, of_name, owned, tokens_left}
use Rattle.fm_script_lines.proofs.Counting.{among_push, among_set, how_many_onto, token_in, token_more, token_less}
use Rattle.fm_script_lines.specs.declared.bound.Bound.TheVariants as other
use Rattle.fm_script_lines.specs.declared.standing.Standing.TheVariants as standing

-- What follows from what is known of a value, if there is one.
pub some_weaker : {X : Type 0} (P Q : X → Type 0) (o : Option X) → ((x : X) → P x → Q x) → IfSome o P → IfSome o Q
some_weaker P Q None f h = tt
some_weaker P Q (Some x) f h = f x h

-- Later too.
pub backed_later : (p q : View) → Lasts (view_of_pass p) (view_of_pass q) → made_by_pass q ≡ made_by_pass p → (s : Standing) → IsBacked p s → IsBacked q s
backed_later p q l same Nothing b = tt
backed_later p q l same (Arena id) b = l.known id b
backed_later p q l same (standing.Automatic id handle) b = (l.known id b.0, some_weaker _ _ handle (λ h k. (l.known h.arena k.0, k.1, k.2 ∙ sym same)) b.1)
backed_later p q l same (Segment r) b = record { arena = l.known r.arena b.arena; given = let g = l.given r.arena in let k = b.given in omega (arith, g, k) }
backed_later p q l same (Hold hold) b = some_weaker _ _ hold (λ h k. (l.known h.arena k.0, k.1, k.2 ∙ sym same)) b
backed_later p q l same (Handle handle) b = some_weaker _ _ handle (λ h k. (l.known h.arena k.0, k.1, k.2 ∙ sym same)) b

-- a name of which a hold or a handle was given back, or which is lent, is backed
record IsBackedStill (p : View) (s : Standing) : Type 0 where
  unheld_backed : IsBacked p (unheld s)
  handed_backed : IsBacked p (handed_back s)
  lent_backed : IsBacked p (lent s)

still_backed : (p : View) (s : Standing) → IsBacked p s → IsBackedStill p s
still_backed p Nothing b = record { unheld_backed = b; handed_backed = b; lent_backed = b }
still_backed p (Arena id) b = record { unheld_backed = b; handed_backed = b; lent_backed = b }
still_backed p (standing.Automatic id handle) b = record { unheld_backed = b; handed_backed = (b.0, tt); lent_backed = b.0 }
still_backed p (Segment r) b = record { unheld_backed = b; handed_backed = b; lent_backed = b }
still_backed p (Hold hold) b = record { unheld_backed = tt; handed_backed = b; lent_backed = tt }
still_backed p (Handle handle) b = record { unheld_backed = b; handed_backed = tt; lent_backed = tt }

pub backed_lent : (p : View) (s : Standing) → IsBacked p s → IsBacked p (lent s)
backed_lent p s b = (still_backed p s b).lent_backed

-- ---- tokens

module _ (token : Standing → Option ArenaId) where
  -- A name more.
  tokens_push : {all others : List ArenaId} (own : List Standing) (s : Standing) → HasTokens all (among token own) others
      → HasTokens (onto (token s) all) (among token (own ++ s ∷ [])) others
  tokens_push own s t = token_more (token s) (among token (own ++ s ∷ [])) t (λ a. among_push token a own s)

  -- One is given back.
  tokens_less : {all others : List ArenaId} (own : List Standing) (at : ℕ) (s : Standing) (b : ArenaId) → at < length own
      → token (get_or own at Nothing) ≡ Some b → token s ≡ None → HasTokens all (among token own) others
      → HasTokens (released b all) (among token (set own at s)) others
  tokens_less own at s b l was is t = token_less b (among token (set own at s)) t some count
    where
      count : (a : ArenaId) → how_many a (among token own) ≡ how_many a (among token (set own at s)) + one_if (same_id b a)
      count a =
          let e = among_set token a own at s l in
          let old : how_many a (onto (token (get_or own at Nothing)) []) ≡ one_if (same_id b a) + 0 = ap (λ (o : Option ArenaId). how_many a (onto o [])) was in
          let new : how_many a (onto (token s) []) ≡ 0 = ap (λ (o : Option ArenaId). how_many a (onto o [])) is in
          omega (arith, e, old, new)

      some : 0 < how_many b (among token own)
      some = let e = count b in let q : one_if (same_id b b) ≡ 1 = ap one_if (same_id-self b) in omega (arith, e, q)

  -- All are as they were.
  tokens_same : {all others : List ArenaId} (own : List Standing) (at : ℕ) (s : Standing) → at < length own
      → token s ≡ token (get_or own at Nothing) → HasTokens all (among token own) others → HasTokens all (among token (set own at s)) others
  tokens_same own at s l same t = record {
    mine = t.mine;
    are = t.are;
    as_many = λ a.
        let e = among_set token a own at s l in
        let q : how_many a (onto (token s) []) ≡ how_many a (onto (token (get_or own at Nothing)) []) =
        ap (λ (o : Option ArenaId). how_many a (onto o [])) same in
        let many = t.as_many a in
        omega (arith, e, q, many);
  }

-- ---- what a pass has

module _ (p q : View) {all_holds all_handles holds handles : List ArenaId} {base own : List Standing}
    (b : BacksWith p all_holds all_handles holds handles base own) (l : Lasts (view_of_pass p) (view_of_pass q)) (same : made_by_pass q ≡ made_by_pass p) where
  others_later : All (λ s. IsBacked q (lent s)) base
  others_later = All-weaker (λ s. IsBacked p (lent s)) (λ s. IsBacked q (lent s)) (λ s h. backed_later p q l same (lent s) h) base b.others_known

  own_later : All (IsBacked q) own
  own_later = All-weaker (IsBacked p) (IsBacked q) (λ s h. backed_later p q l same s h) own b.own_known

  -- A line's name more.
  pub backs_more : (made : Standing) → q.holds ≡ holds_with made all_holds → q.handles ≡ handles_with made all_handles → IsBacked q made
      → Backs q holds handles base (own ++ made ∷ [])
  backs_more made hs ks backed = record {
    others_known = others_later;
    own_known = All-push (IsBacked q) own made own_later backed;
    has_holds = subst (λ (xs : List ArenaId). HasTokens xs (among hold_of (own ++ made ∷ [])) holds) (sym hs) (tokens_push hold_of own made b.has_holds);
    has_handles = subst (λ (xs : List ArenaId). HasTokens xs (among handle_of (own ++ made ∷ [])) handles) (sym ks)
        (tokens_push handle_of own made b.has_handles);
  }

-- ---- what is given back

module _ (p : View) {all_holds all_handles holds handles : List ArenaId} {base own : List Standing}
    (b : BacksWith p all_holds all_handles holds handles base own) where
  -- A hold less.
  pub backs_unheld : (at : ℕ) (a : ArenaId) → at < length own → hold_of (get_or own at Nothing) ≡ Some a
      → BacksWith p (released a all_holds) all_handles holds handles base (set own at (unheld (get_or own at Nothing)))
  backs_unheld at a k was =
      let s = get_or own at Nothing in
      record {
        others_known = b.others_known;
        own_known = All-set (IsBacked p) own at (unheld s) (still_backed p s (b.own_known at Nothing k)).unheld_backed b.own_known;
        has_holds = tokens_less hold_of own at (unheld s) a k was (tokens_left s).unheld_hold b.has_holds;
        has_handles = tokens_same handle_of own at (unheld s) k (tokens_left s).unheld_handle b.has_handles;
      }

  -- A handle less.
  pub backs_handed : (at : ℕ) (a : ArenaId) → at < length own → handle_of (get_or own at Nothing) ≡ Some a
      → BacksWith p all_holds (released a all_handles) holds handles base (set own at (handed_back (get_or own at Nothing)))
  backs_handed at a k was =
      let s = get_or own at Nothing in
      record {
        others_known = b.others_known;
        own_known = All-set (IsBacked p) own at (handed_back s) (still_backed p s (b.own_known at Nothing k)).handed_backed b.own_known;
        has_holds = tokens_same hold_of own at (handed_back s) k (tokens_left s).handed_hold b.has_holds;
        has_handles = tokens_less handle_of own at (handed_back s) a k was (tokens_left s).handed_handle b.has_handles;
      }

-- Nothing changes where no call is made.
lasts_same : (p : View) → Lasts (view_of_pass p) (view_of_pass p)
lasts_same p = record { known = λ id k. k; given = λ id. omega arith; limit = refl; caller = refl }

-- Another pass's name more.
pub backs_lent : (p : View) {holds handles : List ArenaId} {base own : List Standing} (o : Bound) → Backs p holds handles base own
    → IsBacked p (standing_as o) → Backs p holds handles base (own ++ standing_as o ∷ [])
backs_lent p other.Nothing b known =
    backs_more p p b (lasts_same p) refl Nothing refl refl known
backs_lent p (other.Arena id) b known =
    backs_more p p b (lasts_same p) refl (Arena id) refl refl known
backs_lent p (other.Segment r) b known =
    backs_more p p b (lasts_same p) refl (Segment r) refl refl known

-- ---- what it lets the pass do

pub among_some : (token : Standing → Option ArenaId) (own : List Standing) (at : ℕ) (a : ArenaId) → at < length own → token (get_or own at Nothing) ≡ Some a
    → 0 < how_many a (among token own)
among_some token [] at a l e = absurd (omega (arith, l))
among_some token (s ∷ ss) zero a l e =
    let here = how_many_onto a (token s) (among token ss) in
    let one : how_many a (onto (token s) []) ≡ one_if (same_id a a) + 0 = ap (λ (o : Option ArenaId). how_many a (onto o [])) e in
    let q : one_if (same_id a a) ≡ 1 = ap one_if (same_id-self a) in
    omega (arith, here, one, q)
among_some token (s ∷ ss) (suc at) a l e =
    let here = how_many_onto a (token s) (among token ss) in
    let ih = among_some token ss at a (omega (arith, l)) e in
    omega (arith, here, ih)

backed_hold : (p : View) (s : Standing) (h : held.Hold) → IsBacked p s → hold_in s ≡ Some h
    → IsKnown p h.arena × (h.arena.kind ≢ Automatic) × (h.maker ≡ made_by_pass p)
backed_hold p (Hold hold) h b e =
    subst (λ (o : Option held.Hold). IfSome o (λ x. IsKnown p x.arena × (x.arena.kind ≢ Automatic) × (x.maker ≡ made_by_pass p))) e b
backed_hold p s h b e = absurd (cc)

backed_handle : (p : View) (s : Standing) (h : AutoHandle) → IsBacked p s → handle_in s ≡ Some h
    → IsKnown p h.arena × (h.arena.kind ≡ Automatic) × (h.maker ≡ made_by_pass p)
backed_handle p (standing.Automatic id handle) h b e = subst (λ (o : Option AutoHandle). IsHandleIn p o) e b.1
backed_handle p (Handle handle) h b e = subst (λ (o : Option AutoHandle). IsHandleIn p o) e b
backed_handle p s h b e = absurd (cc)

module _ (p : View) {holds handles : List ArenaId} {base own : List Standing} (b : Backs p holds handles base own) where
  pub can_unhold : (at : ℕ) (h : held.Hold) → at < length own → hold_in (get_or own at Nothing) ≡ Some h → CanUnhold p h
  can_unhold at h l is =
      let k = backed_hold p (get_or own at Nothing) h (b.own_known at Nothing l) is in
      record {
        maker = k.2;
        known = k.0;
        held = token_in h.arena b.has_holds (among_some hold_of own at h.arena l (ap (option_map (λ (x : held.Hold). x.arena)) is));
        by_hand = k.1;
      }

  pub has_handle : (at : ℕ) (h : AutoHandle) → at < length own → handle_in (get_or own at Nothing) ≡ Some h → HasHandle p h
  has_handle at h l is =
      let k = backed_handle p (get_or own at Nothing) h (b.own_known at Nothing l) is in
      record {
        maker = k.2;
        handled = record {
          known = k.0;
          has = token_in h.arena b.has_handles (among_some handle_of own at h.arena l (ap (option_map (λ (x : AutoHandle). x.arena)) is));
          automatic = k.1;
        };
      }

  pub is_handled : (start : ℕ) (number : Option ℕ) (h : AutoHandle) → handle_in (standing_of base start own number) ≡ Some h → HasHandle p h
  is_handled start number h is = let o = owned handle_in (λ s. (lent_none s).1) refl base start own number h is in has_handle o.0 h o.1.0 o.1.1

  -- Each name, as an arena or a segment.
  pub name_known : (start : ℕ) (number : Option ℕ) → IsBacked p (lent (standing_of base start own number))
  name_known start number =
      of_name (λ s. IsBacked p (lent s)) base start own number (λ n l. backed_lent p (lent (get_or base n Nothing)) (b.others_known n Nothing l)) tt
      (λ at o. backed_lent p (get_or own at Nothing) (b.own_known at Nothing o.within))

pub segment_known : (p : View) (s : Standing) → IsBacked p (lent s) → IfSome (segment_of s) (segment.IsKnown (view_of_pass p))
segment_known p (Segment r) b = b
segment_known p s b = tt

pub arena_known : (p : View) (s : Standing) → IsBacked p (lent s) → IfSome (arena_of s) (IsKnown p)
arena_known p (Arena id) b = b
arena_known p (standing.Automatic id handle) b = b
arena_known p s b = tt

-- What was found by a map.
pub some_mapped : {X A : Type 0} (P : A → Type 0) (f : X → A) (o : Option X) (r : Option A) → option_map f o ≡ r → ((a : A) → r ≡ Some a → P a)
    → IfSome o (λ x. P (f x))
some_mapped P f None r e h = tt
some_mapped P f (Some x) r e h = h (f x) (sym e)
