-- The pages of an arena that has ended are taken back, one part after another.
use Rattle.std.proofs.Common.{◌≡◌, ◌≢◌, ◌⊎◌, ℕ, ◌+◌, ◌-◌, ◌*◌, ◌/◌, ◌%◌, ◌<◌, ◌≤◌, ◌==◌, Bool, if◌then◌else◌, List, [], ◌∷◌, ◌++◌, refl, ap, sym, ◌∙◌, subst, arith, Some, ne_eqb}
use Rattle.std.proofs.lemmas.List.Elements.{All-cons, All-nil, All-append}
use Rattle.fm_words.specs.declared.shape.Shape.{Shape}
use Rattle.fm_base.specs.{declared.{caller.Caller.{Caller}, arena_id.ArenaId.{ArenaId}}, Calls.{Back, Fine, Entry, entry_of}, Finds.{Sweep}}
use Rattle.fm_base.specs.{Histories.{made_by}, View.{inside_after}}
use Rattle.fm_rule_facts.specs.{Parts.{Swept, unread, named, wiping, swept_read}, Views.{View, IsOver, IsSound, given_of}}
use Rattle.fm_rule_facts.{specs.{Closes.{passed_of, advanced, dropped}, Steps.{Stepped, AreAllGiven, none_noted}}, proofs.Ending.{all_given}}
use Rattle.fm_rule_steps.proofs.Closes.{passed_of-found}
use Rattle.fm_rule.specs.{declared.pool.Pool.{Pool}, Passes.{IsOf}}
use Rattle.fm_rule_calls.proofs.{Going.{goes_none, goes_then, no_draws, made_by-one, goes_step}, Unlent.{given_on}}
use Rattle.fm_close.specs.{Does.{IsBack, AreBacks}, Sweeps.{SweepsOn, SweepsPart, PartTaken, PartsTaken}}
use Rattle.fm_close.proofs.Closes.{passed_of-advanced, dropped-advanced}

-- ---- steps in order

abbrev pub Steps : View → View → List Entry → Swept → List Sweep → Type 0
Steps p q own s cs = Stepped p q (record p { swept = s; sweeps = cs }) own none_noted

-- None was made.
pub sweeps_none : {p : View} {s : Swept} → IsSound p → p.swept ≡ s → SweepsOn p p [] s p.sweeps
sweeps_none {p = p} sound h = record { goes = goes_none sound; is = λ j. record p { swept = h j } }

-- One was.
sweeps_step : {p q : View} {own : List Entry} {s : Swept} {cs : List Sweep} → made_by p.caller own ≡ own → p.inside ≡ inside_after p.inside own
    → Steps p q own s cs → SweepsOn p q own s cs
sweeps_step {p = p} {q = q} {own = own} {s = s} {cs = cs} made inside t = record {
  goes = goes_step t refl inside made no_draws;
  is = t.is_part ∙ (λ j. record p { seen = q.seen; finds = sym (ap (λ (x : View). x.finds) t.is_part) j; swept = s; sweeps = cs });
}

-- One that makes no entry.
pub quiet_step : {p q : View} {s : Swept} {cs : List Sweep} → Steps p q [] s cs → SweepsOn p q [] s cs
quiet_step t = sweeps_step refl refl t

-- Some were, and then others.
pub sweeps_then : {o p q : View} {es fs : List Entry} {s t : Swept} {cs ds : List Sweep} → SweepsOn o p es s cs → SweepsOn p q fs t ds
    → SweepsOn o q (es ++ fs) t ds
sweeps_then {q = q} {t = t} {ds = ds} a b = record {
  goes = goes_then a.goes b.goes;
  is = b.is ∙ ap (λ (x : View). record x { seen = q.seen; finds = q.finds; swept = t; sweeps = ds }) a.is;
}

module _ {p q : View} {own : List Entry} {s : Swept} {cs : List Sweep} (t : SweepsOn p q own s cs) where
  pub swept_now : q.swept ≡ s
  swept_now = ap (λ (x : View). x.swept) t.is

  pub sweeps_now : q.sweeps ≡ cs
  sweeps_now = ap (λ (x : View). x.sweeps) t.is

  pub caller_now : q.caller ≡ p.caller
  caller_now = ap (λ (x : View). x.caller) t.is

  -- The pass is still one of its pool.
  pub of_still : (pool : Pool) → IsOf pool p → IsOf pool q
  of_still pool of = (ap (λ (x : View). x.home) t.is ∙ of.0, ap (λ (x : View). x.shape) t.is ∙ of.1)

  -- The sweep of the arena is where the sweeps say.
  pub passed_still : (a : ArenaId) (n : ℕ) → passed_of cs a ≡ Some n → passed_of q.sweeps a ≡ Some n
  passed_still a n at = ap (λ (xs : List Sweep). passed_of xs a) sweeps_now ∙ at

-- Quiet ones that leave the sweeps where they are.
pub sweeps_same : {o p q : View} {s t : Swept} {cs : List Sweep} → SweepsOn o p [] s cs → SweepsOn p q [] t p.sweeps → SweepsOn o q [] t cs
sweeps_same {o = o} {q = q} {t = t} a b = subst (λ (xs : List Sweep). SweepsOn o q [] t xs) (sweeps_now a) (sweeps_then a b)

-- ---- how many bytes the arena gave

-- An arena that a pass sweeps is over.
pub over_now : {p : View} {a : ArenaId} (n : ℕ) → IsSound p → passed_of p.sweeps a ≡ Some n → IsOver p a
over_now {p = p} {a = a} n sound at = let f = passed_of-found p.sweeps a n at in subst (IsOver p) f.arena (sound.swept f.walk f.there)

-- It gave as many still.
pub gave_still : {p q : View} {own : List Entry} {s : Swept} {cs : List Sweep} (a : ArenaId) (n given : ℕ) → SweepsOn p q own s cs → IsSound p
    → passed_of p.sweeps a ≡ Some n → given_of p a ≡ given → given_of q a ≡ given
gave_still a n given t sound at gave = given_on a t.goes (over_now n sound at) ∙ gave

-- Words up to the count, or up to the end of the page, are all that have a given byte.
pub all_words : {p q : View} {own : List Entry} {s : Swept} {cs : List Sweep} (a : ArenaId) (part given size words : ℕ) → SweepsOn p q own s cs → IsSound p
    → passed_of p.sweeps a ≡ Some part → given_of p a ≡ given → size ≡ p.shape.page_words → (words ≡ size) ⊎ (given ≤ 8 * (part * size + words))
    → AreAllGiven q a part words
all_words {q = q} a part given size words t sound at gave is all =
    let some : 0 < size = (let l = sound.valid.page_words.0 in omega arith) in
    let same : size ≡ q.shape.page_words = is ∙ sym (ap (λ (z : Shape). z.page_words) t.goes.same_shape) in
    let gives : given ≡ given_of q a = sym (gave_still a part given t sound at gave) in
    subst (λ (x : ℕ × ℕ). (word : ℕ) → word / x.0 ≡ part → 8 * word < x.1 → word % x.0 < words) (λ j. (same j, gives j))
    (λ word here low. all_given size given part words word some all here low)

-- ---- one part

-- the map word of the next part was x
abbrev pub Looks : View → View → ArenaId → (part x : ℕ) → Type 0
Looks p q a part x = Steps p q [] (swept_read a part x) (if x == 0 then advanced a p.sweeps else p.sweeps)

module _ {p q : View} {a : ArenaId} (part x : ℕ) (t : Looks p q a part x) where
  -- It was 0: the part has no page.
  pub part_empty : x ≡ 0 → PartTaken p q a
  part_empty e = record {
    own = [];
    backs = All-nil (IsBack p.caller);
    goes_on = quiet_step (subst (λ (n : ℕ). Looks p q a part n) e t);
  }

  -- It names a page.
  pub part_named : x ≢ 0 → SweepsOn p q [] (named a part (x - 1)) p.sweeps
  part_named n = quiet_step (subst
      (λ (b : Bool). Steps p q [] (if b then unread else named a part (x - 1)) (if b then advanced a p.sweeps else p.sweeps)) (ne_eqb x 0 n) t)

-- Its page was taken from the map word.
pub part_unmapped : {p q r : View} {a : ArenaId} {part page : ℕ} → SweepsOn p q [] (named a part page) p.sweeps
    → Steps q r [] (wiping a part page 0) q.sweeps → SweepsOn p r [] (wiping a part page 0) p.sweeps
part_unmapped t u = sweeps_same t (quiet_step u)

-- It was taken back, once its words were wiped.
pub part_taken : {p q r : View} {a : ArenaId} {part page words : ℕ} → SweepsOn p q [] (wiping a part page words) p.sweeps
    → Steps q r (entry_of q.caller (Back page) Fine ∷ []) unread (advanced a q.sweeps) → PartTaken p r a
part_taken {p = p} {q = q} {r = r} {a = a} {page = page} t s =
    let e : Entry = entry_of p.caller (Back page) Fine in
    let g : SweepsOn p r (entry_of q.caller (Back page) Fine ∷ []) unread (advanced a q.sweeps) =
    sweeps_then t (sweeps_step (made_by-one q.caller (Back page) Fine) refl s) in
    record {
      own = e ∷ [];
      backs = All-cons (IsBack p.caller) e [] (page, refl) (All-nil (IsBack p.caller));
      goes_on = subst (λ (y : Caller × List Sweep). SweepsOn p r (entry_of y.0 (Back page) Fine ∷ []) unread (advanced a y.1))
          (λ j. (caller_now t j, sweeps_now t j)) g;
    }

-- The part is still the next one where the sweeps are as they were.
pub part_still : {pool : Pool} {p q : View} {a : ArenaId} {part : ℕ} {s : Swept} → SweepsOn p q [] s p.sweeps → SweepsPart pool p a part
    → SweepsPart pool q a part
part_still {pool = pool} {a = a} {part = part} t h = record { of = of_still t pool h.of; sound = t.goes.sound; next = passed_still t a part h.next; low = h.low }

-- ---- the parts in order

-- No part was taken yet.
pub parts_none : {p : View} {a : ArenaId} → IsSound p → p.swept ≡ unread → passed_of p.sweeps a ≡ Some 0 → PartsTaken p p a 0
parts_none {p = p} sound idle at =
    record { own = []; backs = All-nil (IsBack p.caller); goes_on = sweeps_none sound idle; at = at; left = refl }

-- One more is.
pub parts_more : {o p q : View} {a : ArenaId} {n : ℕ} → PartsTaken o p a n → PartTaken p q a → PartsTaken o q a (n + 1)
parts_more {o = o} {p = p} {q = q} {a = a} {n = n} t u = record {
  own = t.own ++ u.own;
  backs = All-append (IsBack o.caller) t.own u.own t.backs (subst (λ (c : Caller). AreBacks c u.own) (caller_now t.goes_on) u.backs);
  goes_on = subst (λ (cs : List Sweep). SweepsOn o q (t.own ++ u.own) unread cs) (sym (sweeps_now u.goes_on)) (sweeps_then t.goes_on u.goes_on);
  at = passed_still u.goes_on a (n + 1) (passed_of-advanced p.sweeps a n t.at);
  left = ap (dropped a) (sweeps_now u.goes_on) ∙ (dropped-advanced p.sweeps a ∙ t.left);
}
