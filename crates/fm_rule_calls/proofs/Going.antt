-- Steps put together into calls.
use Rattle.std.proofs.Common.{◌≡◌, ◌≤◌, ℕ, Bool, false, List, [], ◌∷◌, ◌++◌, refl, ap, sym, ◌∙◌, subst, append_assoc, length, Option, Some, None, eq-eqb, All, get_or}
use Rattle.std.proofs.lemmas.List.{append-nil, Elements.{filter-append, All-nil}}
use Rattle.fm_base.specs.{declared.{caller.Caller.{Caller}, arena_id.ArenaId.{ArenaId}}, Arenas.{State, has_arena, arena_of}}
use Rattle.fm_base.specs.{Calls.{Call, Reply, Entry, entry_of}, Histories.{IsLegal, state_after, made_by}, Finds.{Find, Gathered, is_draw}, View.{inside_after}}
use Rattle.fm_base.proofs.{Making.{state_after-append, IsLegal-split, inside_after-append, FindsMore-trans, FindsMore-none}, Growing.{Grows-state_after}}
use Rattle.fm_words.specs.declared.shape.Shape.{Shape}
use Rattle.fm_rule_facts.specs.{Views.{View, IsKnown, given_of, limit_of, state_in, IsSound}, Hands.{Number}, Steps.{Stepped, none_noted, acted}}
use Rattle.fm_rule_facts.{specs.Loans.{loans_of, IsUnlent, IsRightlyLent}, proofs.Unlending.{none_lent_later}}
use Rattle.fm_rule_calls.specs.Kept.{Goes, rest_of, Kept, Lasts}

-- ---- one step

-- An entry of the caller is made by it.
pub made_by-one : (c : Caller) (call : Call) (reply : Reply) → made_by c (entry_of c call reply ∷ []) ≡ entry_of c call reply ∷ []
made_by-one c call reply = rw (eq-eqb c.number c.number refl, eq-eqb c.term c.term refl) refl

-- So is an act in the arena that it is inside.
pub made_by-acted : (i : Option ArenaId) (c : Caller) (f : ArenaId → Call) (reply : Reply) → made_by c (acted i c f reply) ≡ acted i c f reply
made_by-acted None c f reply = refl
made_by-acted (Some a) c f reply = made_by-one c (f a) reply

abbrev pub NoDraws : (ℕ → List Find) → Type 0
NoDraws noted = (n : ℕ) → All (λ f. is_draw f.step ≡ false) (noted n)

-- A step that notes nothing draws nothing.
pub no_draws : NoDraws none_noted
no_draws n = All-nil (λ f. is_draw f.step ≡ false)

-- which pass it is, its number, and who is gathered into it
abbrev pub self_of : View → Shape × List ℕ × Caller × List Gathered × Bool × Number
self_of v = (v.shape, v.home, v.caller, v.gathered, v.whole, v.number)

-- A step that leaves these is the pass's way by the step's own entries.
pub goes_step : {p q part : View} {own : List Entry} {noted : ℕ → List Find} → Stepped p q part own noted → self_of part ≡ self_of p
    → part.inside ≡ inside_after p.inside own → made_by p.caller own ≡ own → NoDraws noted → Goes p q own
goes_step {p = p} {q = q} {part = part} {own = own} {noted = noted} s same inside made none =
    let still : self_of q ≡ self_of p = ap self_of s.is_part ∙ same in
    record {
      more = s.others ++ own;
      seen = s.seen ∙ append_assoc p.seen s.others own;
      by_pass = filter-append _ s.others own ∙ (ap (λ (xs : List Entry). xs ++ made_by p.caller own) s.quiet ∙ made);
      apart = s.apart;
      alone = λ w. ap (λ (xs : List Entry). xs ++ own) (s.alone w);
      inside = ap (λ (x : View). x.inside) s.is_part ∙ inside;
      finds = record { more = noted (length (p.seen ++ s.others)); grown = ap (λ (x : View). x.finds) s.is_part; no_draw = none (length (p.seen ++ s.others)) };
      same_shape = λ j. (still j).0;
      same_home = λ j. (still j).1;
      same_caller = λ j. (still j).2;
      same_gathered = λ j. (still j).3;
      same_whole = λ j. (still j).4;
      same_number = λ j. (still j).5;
      sound = s.sound;
    }

-- What the pass has after a step is what its new part has.
pub rest_is : {p q part : View} {own : List Entry} {noted : ℕ → List Find} → Stepped p q part own noted → rest_of q ≡ rest_of part
rest_is s = ap rest_of s.is_part

pub inside_is : {p q part : View} {own : List Entry} {noted : ℕ → List Find} → Stepped p q part own noted → q.inside ≡ part.inside
inside_is s = ap (λ (x : View). x.inside) s.is_part

pub mark_is : {p q part : View} {own : List Entry} {noted : ℕ → List Find} → Stepped p q part own noted → q.mark ≡ part.mark
mark_is s = ap (λ (x : View). x.mark) s.is_part

pub hand_is : {p q part : View} {own : List Entry} {noted : ℕ → List Find} → Stepped p q part own noted → q.hand ≡ part.hand
hand_is s = ap (λ (x : View). x.hand) s.is_part

pub sweeps_is : {p q part : View} {own : List Entry} {noted : ℕ → List Find} → Stepped p q part own noted → q.sweeps ≡ part.sweeps
sweeps_is s = ap (λ (x : View). x.sweeps) s.is_part

pub closes_is : {p q part : View} {own : List Entry} {noted : ℕ → List Find} → Stepped p q part own noted → q.closes ≡ part.closes
closes_is s = ap (λ (x : View). x.closes) s.is_part

-- ---- steps in order

-- One way after another.
pub goes_then : {p q r : View} {es fs : List Entry} → Goes p q es → Goes q r fs → Goes p r (es ++ fs)
goes_then {p = p} {q = q} {r = r} {es = es} {fs = fs} a b = record {
  more = a.more ++ b.more;
  seen = b.seen ∙ (ap (λ (xs : List Entry). xs ++ b.more) a.seen ∙ append_assoc p.seen a.more b.more);
  by_pass = filter-append _ a.more b.more ∙ (ap (λ (xs : List Entry). xs ++ made_by p.caller b.more) a.by_pass
      ∙ ap (λ (xs : List Entry). es ++ xs) (ap (λ c. made_by c b.more) (sym a.same_caller) ∙ b.by_pass));
  apart =
      let next = subst (λ (gs : List Gathered). All (λ g. made_by g.caller b.more ≡ []) gs) a.same_gathered b.apart in
      λ i g l. filter-append _ a.more b.more ∙ (ap (λ (xs : List Entry). xs ++ made_by (get_or p.gathered i g).caller b.more) (a.apart i g l) ∙ next i g l);
  alone = λ w. ap (λ (xs : List Entry). xs ++ b.more) (a.alone w) ∙ ap (λ (xs : List Entry). es ++ xs) (b.alone (a.same_whole ∙ w));
  inside = b.inside ∙ (ap (λ i. inside_after i fs) a.inside ∙ sym (inside_after-append p.inside es fs));
  finds = FindsMore-trans p.finds q.finds r.finds a.finds b.finds;
  same_shape = b.same_shape ∙ a.same_shape;
  same_home = b.same_home ∙ a.same_home;
  same_caller = b.same_caller ∙ a.same_caller;
  same_gathered = b.same_gathered ∙ a.same_gathered;
  same_whole = b.same_whole ∙ a.same_whole;
  same_number = b.same_number ∙ a.same_number;
  sound = b.sound;
}

-- No step.
pub goes_none : {p : View} → IsSound p → Goes p p []
goes_none {p = p} s = record {
  more = [];
  seen = sym (append-nil p.seen);
  by_pass = refl;
  apart = λ i g l. refl;
  alone = λ w. refl;
  inside = refl;
  finds = FindsMore-none p.finds;
  same_shape = refl;
  same_home = refl;
  same_caller = refl;
  same_gathered = refl;
  same_whole = refl;
  same_number = refl;
  sound = s;
}

-- What a call that makes no step did.
pub kept_none : (p : View) (P : List Entry → Type 0) → IsSound p → P [] → Kept p p P
kept_none p P s d = record { own = []; does = d; goes = goes_none s; rest = refl }

-- ---- what stays

-- the entries that came are legal, they leave the new state, and what they lend is rightly lent
pub record Reached (p q : View) (more : List Entry) : Type 0 where
  pub legal : IsLegal (limit_of p.shape) (state_in p) more
  pub state : state_in q ≡ state_after (limit_of p.shape) (state_in p) more
  pub seen : q.seen ≡ p.seen ++ more
  pub whole : IsLegal (limit_of p.shape) [] (p.seen ++ more)
  pub lent : IsRightlyLent p.shape.page_words (limit_of p.shape) (p.seen ++ more)

-- a later view of the same shape has reached it by the entries between
pub reached_by : {p q : View} (more : List Entry) → q.seen ≡ p.seen ++ more → q.shape ≡ p.shape → IsSound q → Reached p q more
reached_by {p = p} {q = q} more seen shape sound =
    let n = limit_of p.shape in
    let same : ◌≡◌ {A = Shape × List Entry} (q.shape, q.seen) (p.shape, p.seen ++ more) = (λ j. (shape j, seen j)) in
    let l : IsLegal n [] (p.seen ++ more) = subst (λ (x : Shape × List Entry). IsLegal (limit_of x.0) [] x.1) same sound.legal in
    record {
      legal = (IsLegal-split n [] p.seen more l).1;
      state = ap (λ (z : Shape). state_after (limit_of z) [] q.seen) shape ∙ (ap (λ (es : List Entry). state_after n [] es) seen
          ∙ state_after-append n [] p.seen more);
      seen = seen;
      whole = l;
      lent = subst (λ (x : Shape × List Entry). IsRightlyLent x.0.page_words (limit_of x.0) x.1) same sound.lent;
    }

pub reached : {p q : View} {own : List Entry} (g : Goes p q own) → Reached p q g.more
reached g = reached_by g.more g.seen g.same_shape g.sound

-- What was known is known.
known_by : {p q : View} {more : List Entry} → Reached p q more → (a : ArenaId) → IsKnown p a → IsKnown q a
known_by {p = p} {q = q} {more = more} r a h =
    ap (λ (s : State). has_arena s a) r.state ∙ (Grows-state_after (limit_of p.shape) (state_in p) more r.legal).has a h

-- What was known is known, what had ended has ended and keeps no words where it had none, and what was given is given.
pub lasts_by : {p q : View} {more : List Entry} → Reached p q more → Lasts p q
lasts_by {p = p} {q = q} {more = more} r =
    let n = limit_of p.shape in
    let grows = Grows-state_after n (state_in p) more r.legal in
    record {
      given = λ a. subst (λ (s : State). given_of p a ≤ (arena_of s a).given) (sym r.state) (grows.given a);
      known = known_by r;
      ended = λ a h. record {
        known = known_by r a h.known;
        life = ap (λ (s : State). (arena_of s a).life) r.state ∙ grows.ended a h.known h.life;
      };
      no_words = λ a h none. subst (λ (es : List Entry). IsUnlent (loans_of es) a) (sym r.seen)
          (none_lent_later p.shape.page_words n p.seen more a r.whole r.lent h.known h.life none);
    }

pub lasts_on : {p q : View} {own : List Entry} → Goes p q own → Lasts p q
lasts_on g = lasts_by (reached g)

pub known_on : {p q : View} {own : List Entry} → Goes p q own → (a : ArenaId) → IsKnown p a → IsKnown q a
known_on g = (lasts_on g).known
