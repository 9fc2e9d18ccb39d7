-- Counts that are added to, each in a visit of its own.
use Rattle.std.proofs.Common.{◌≡◌, ◌≢◌, ℕ, ◌+◌, ◌*◌, ◌<◌, ◌≤◌, List, [], ◌∷◌, ◌++◌, slice_index, refl, sym, ap, ◌∙◌, subst, arith, None, Ok, Err}
use Rattle.fm_base.specs.declared.{caller.Caller.{Caller}, arena_id.ArenaId.{ArenaId}, refusal.Refusal.{Refusal, TheVariants.{Closed, WrongThread}}}
use Rattle.fm_base.specs.{Arenas.{MayUse}, Calls.{Add, Entry, Fine, Found, Leave}, Does.{CanReach, DoesAct, DoesEnter}, Outcomes.{Lasts}}
use Rattle.fm_base.{specs.{View.{Did, Makes, View, given_in}, Visits.{visit}}, proofs.Making.{Makes-none, Makes-then}}
use Rattle.fm_base.proofs.Visiting.{can_reach, entered_makes, visit_of_one}
use Rattle.fm_segment.{proofs.Access.{known_still}, specs.Region.{Region}}
use Rattle.fm_workers.specs.Adding.{AddsAt, AddsBelow, CanAdd, DoesAdd, DoesAddOne, add_visit, adds, count_word, nothing, one_more}

-- ---- one count

pub none_added : (x : View) (counts : Region) (k n : ℕ) → n ≡ 0 → Did x x (DoesAddOne x.caller counts k n (Ok tt))
none_added x counts k n e = record {
  own = [];
  does = subst (λ (m : ℕ). AddsAt x.caller counts k m []) (sym e) nothing;
  makes = Makes-none x;
}

refused_one : (c : Caller) (counts : Region) (k n : ℕ) (r : Refusal) (own : List Entry) → MayUse counts.arena c → DoesEnter c counts.arena (Err r) own
    → DoesAddOne c counts k n (Err r) own
refused_one c counts k n Closed own may d = d.1
refused_one c counts k n WrongThread own may d = absurd (d.0 may)
refused_one c counts k n r own may d = absurd d

pub not_added : (x y : View) (counts : Region) (k n : ℕ) (a : ArenaId) (r : Refusal) → a ≡ counts.arena → MayUse counts.arena x.caller
    → Did x y (DoesEnter x.caller a (Err r)) → Did x y (DoesAddOne x.caller counts k n (Err r))
not_added x y counts k n a r same may d = record {
  own = d.own;
  does = refused_one x.caller counts k n r d.own may (subst (λ (i : ArenaId). DoesEnter x.caller i (Err r) d.own) same d.does);
  makes = d.makes;
}

pub one_added : (x y u v : View) (counts : Region) (k n found : ℕ) (a : ArenaId) (word : ℕ) (w : Unit {0}) → a ≡ counts.arena → word ≡ count_word counts k
    → Did x y (DoesEnter x.caller a (Ok w)) → Did y u (DoesAct y.inside y.caller (λ i. Add i word n) (Found found))
    → Did u v (DoesAct u.inside u.caller Leave Fine) → n ≢ 0 → Did x v (DoesAddOne x.caller counts k n (Ok tt))
one_added x y u v counts k n found a word w same at enter act leave some =
    let e = entered_makes x y a w enter in
    let is : visit x.caller a ((Add a word n, Found found) ∷ []) ≡ add_visit x.caller counts k n found =
    ap (λ (i : ArenaId). visit x.caller i ((Add i word n, Found found) ∷ [])) same
    ∙ ap (λ (m : ℕ). visit x.caller counts.arena ((Add counts.arena m n, Found found) ∷ [])) at in
    record {
      own = visit x.caller a ((Add a word n, Found found) ∷ []);
      does = subst (λ (es : List Entry). AddsAt x.caller counts k n es) (sym is) (adds found some);
      makes = visit_of_one x y u v a (λ i. Add i word n) (Found found) refl e.1 act leave;
    }

-- Once inside, the count can be reached.
pub reaches_count : (x y : View) (counts : Region) (k : ℕ) (a : ArenaId) (word : ℕ) (w : Unit {0}) → CanAdd x counts → k < 256 → a ≡ counts.arena
    → word ≡ count_word counts k → Did x y (DoesEnter x.caller a (Ok w)) → CanReach y word
reaches_count x y counts k a word w can below same at enter =
    let given : counts.first + counts.size ≤ given_in x counts.arena = can.known.given in
    let here : given_in x a ≡ given_in x counts.arena = ap (λ (i : ArenaId). given_in x i) same in
    let size = can.longs.size in let even = can.longs.aligned in
    let inside : 8 * word < given_in x a = omega (arith, given, here, size, even, below, at) in
    can_reach x y a word (entered_makes x y a w enter).1 inside

-- ---- all counts

-- Later they can be added to too.
pub can_add_still : {x y : View} {counts : Region} {own : List Entry} → CanAdd x counts → Lasts x y → Makes x y own → y.inside ≡ None → CanAdd y counts
can_add_still {x} {y} {counts} can lasts makes outside = record {
  outside = outside;
  known = known_still x y counts lasts can.known;
  may = subst (MayUse counts.arena) (sym makes.same_caller) can.may;
  longs = can.longs;
}

-- The memory went from x to y by adding the counts below this place.
pub record AddedBelow (x y : View) (counts : Region) (ns : List ℕ) (k : ℕ) (own : List Entry) : Type 0 where
  pub makes : Makes x y own
  pub added : AddsBelow x.caller counts ns k own

pub added_more : {x y z : View} {counts : Region} {ns : List ℕ} {k n : ℕ} {own : List Entry} → AddedBelow x y counts ns k own → n ≡ slice_index ns k
    → (d : Did y z (DoesAddOne y.caller counts k n (Ok tt))) → AddedBelow x z counts ns (k + 1) (own ++ d.own)
added_more {x} {y} {z} {counts} {ns} {k} {n} {own} h is d = record {
  makes = Makes-then x y z own d.own h.makes d.makes;
  added = one_more own d.own h.added
      (subst (λ (m : ℕ). AddsAt x.caller counts k m d.own) is (subst (λ (c : Caller). AddsAt c counts k n d.own) h.makes.same_caller d.does));
}

pub added_all : {x y : View} {counts : Region} {ns : List ℕ} {k : ℕ} {own : List Entry} → AddedBelow x y counts ns k own → k ≡ 256
    → Did x y (DoesAdd x.caller counts ns (Ok tt))
added_all {x} {y} {counts} {ns} {k} {own} h all = record {
  own = own;
  does = subst (λ (m : ℕ). AddsBelow x.caller counts ns m own) all h.added;
  makes = h.makes;
}

stopped_adding : (c : Caller) (counts : Region) (ns : List ℕ) (k n : ℕ) (r : Refusal) (own more : List Entry) → k ≤ 256 → AddsBelow c counts ns k own
    → DoesAddOne c counts k n (Err r) more → DoesAdd c counts ns (Err r) (own ++ more)
stopped_adding c counts ns k n Closed own more most h d = record { place = k; within = most; before = own; added = h; stops = ap (λ es. own ++ es) d }
stopped_adding c counts ns k n r own more most h d = absurd d

pub added_stops : {x y z : View} {counts : Region} {ns : List ℕ} {k : ℕ} {own : List Entry} (n : ℕ) (r : Refusal) → k ≤ 256 → AddedBelow x y counts ns k own
    → Did y z (DoesAddOne y.caller counts k n (Err r)) → Did x z (DoesAdd x.caller counts ns (Err r))
added_stops {x} {y} {z} {counts} {ns} {k} {own} n r most h d = record {
  own = own ++ d.own;
  does = stopped_adding x.caller counts ns k n r own d.own most h.added
      (subst (λ (c : Caller). DoesAddOne c counts k n (Err r) d.own) h.makes.same_caller d.does);
  makes = Makes-then x y z own d.own h.makes d.makes;
}
