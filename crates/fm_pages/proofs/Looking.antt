-- Each word of page bits is found 0, one after another.
use Rattle.std.proofs.Common.{◌≡◌, ℕ, ◌+◌, ◌<◌, ◌≤◌, true, false, List, [], ◌∷◌, ◌++◌, length, refl, ap, sym, ◌∙◌, subst, inl, ⊎_elim, None, append_assoc, arith}
use Rattle.std.proofs.lemmas.List.{append-nil, length-append, Elements.{Contains-append_left, Contains-append_right, Contains-push}}
use mathlib.Core.Logic.{dite}
use native.Mathlib.Decide.{ℕ_discrete}
use Rattle.fm_words.specs.{declared.shape.Shape.{Shape}, Places.{page_groups}}
use Rattle.fm_base.{specs.{Calls.{Entry}, Finds.{Find, FindsMore, TakesPage}}, proofs.Making.{FindsMore-none}}
use Rattle.fm_rule_facts.{specs.{Loans.{loans_of}, Views.{View, In, FewLeft, unlent_in}, Steps.{is_clear}}, proofs.{Groups.{none_in_all}, Keeping.{in_right}}}
use Rattle.fm_rule.{specs.{declared.pool.Pool.{Pool}, Passes.{IsOf}}, proofs.Seeking.{takes_zero}}
use Rattle.fm_rule_calls.specs.Kept.{Goes}
use Rattle.fm_pages.{specs.Claims.{Went, FoundEmpty, AllFoundEmpty, NoneClaimed}, proofs.Clear.{begins_all, still_seen}}
use Rattle.fm_pages.proofs.Bids.{Bidding, Takes, bids_begin, bids_clear, bids_go_on, bids_shape, took, went_on}
use Rattle.fm_rule_steps.proofs.Claiming.{whole_clear}

-- ---- a find of a part of a way is one of the whole way

pub grows : {p q : View} {es : List Entry} → Goes p q es → length p.seen ≤ length q.seen
grows {p = p} {q = q} g =
    let l : length q.seen ≡ length p.seen + length g.more = ap (λ (es : List Entry). length es) g.seen ∙ length-append p.seen g.more in
    omega arith

-- so is one between two other parts
found_between : {o p q r : View} {group : ℕ} → FindsMore o.finds p.finds → length o.seen ≤ length p.seen → (f : FoundEmpty p q group)
    → FindsMore q.finds r.finds → length q.seen ≤ length r.seen → FewLeft r.shape r.seen f.found.find → FoundEmpty o r group
found_between {o = o} {p = p} a up f b on left =
    let low = f.early in let high = f.late in
    record {
      found = record {
        more = a.more ++ (f.found.more ++ b.more);
        grown = b.grown ∙ (ap (λ (fs : List Find). fs ++ b.more) f.found.grown ∙ (append_assoc p.finds f.found.more b.more
            ∙ (ap (λ (fs : List Find). fs ++ (f.found.more ++ b.more)) a.grown ∙ append_assoc o.finds a.more (f.found.more ++ b.more))));
        find = f.found.find;
        among = Contains-append_right a.more (f.found.more ++ b.more) f.found.find
            (Contains-append_left f.found.more b.more f.found.find f.found.among);
        step = f.found.step;
        nothing = f.found.nothing;
      };
      of = f.of;
      early = omega arith;
      late = omega arith;
      left = left;
    }

pub found_earlier : {o p q : View} {es : List Entry} {group : ℕ} → Goes o p es → FoundEmpty p q group → FoundEmpty o q group
found_earlier {q = q} w f = found_between w.finds (grows w) f (FindsMore-none q.finds) (omega arith) f.left

pub found_later : {o p q : View} {es : List Entry} {group : ℕ} → FoundEmpty o p group → Goes p q es → FoundEmpty o q group
found_later {o = o} {q = q} f w =
    let l = f.left in
    found_between (FindsMore-none o.finds) (omega arith) f w.finds (grows w)
    (subst (λ (z : Shape). FewLeft z q.seen f.found.find) (sym w.same_shape) (record {
      before = l.before;
      begins = (
        l.begins.0 ++ w.more,
        w.seen ∙ (ap (λ (es : List Entry). es ++ w.more) l.begins.1 ∙ append_assoc l.before l.begins.0 w.more),
      );
      long = l.long;
      few = l.few;
      none = l.none;
    }))

pub all_earlier : {o p q : View} {es : List Entry} → Goes o p es → AllFoundEmpty p q → AllFoundEmpty o q
all_earlier w a group low = found_earlier w (a group (subst (λ (z : Shape). group < page_groups z) (sym w.same_shape) low))

-- ---- looks at the first words, all of which were 0

pub record Looking (pool : Pool) (o p : View) (many : ℕ) : Type 0 where
  pub bids : Bidding pool o p
  pub went : 0 < many → Went o p []
  pub each : (group : ℕ) → group < many → FoundEmpty o p group
  -- where the pass was clear, no page of these words is left
  pub none : is_clear o ≡ true → (group : ℕ) → group < many → unlent_in p.shape group (loans_of p.seen) ≡ 0

pub looks_begin : {pool : Pool} {p : View} → IsOf pool p → p.pages ≡ [] → Looking pool p p 0
looks_begin o h = record {
  bids = bids_begin o h;
  went = λ l. absurd (omega arith);
  each = λ g l. absurd (omega arith);
  none = λ c g l. absurd (omega arith);
}

module _ {pool : Pool} {o p q : View} {many : ℕ} (found : ℕ) (y : Looking pool o p many) (s : Takes p q many 0 0 found) where
  looked : Went p q []
  looked = took many 0 0 found y.bids.none s false (takes_zero found)

  pub looks_so_far : Went o q []
  looks_so_far = went_on y.bids looked

  module _ (zero : found ≡ 0) where
    abbrev here : Find
    here = record { step = TakesPage many 0 0; found = found; seen = length (p.seen ++ s.others); clear = is_clear p; gathered = length p.gathered; drew = None }

    grown : q.finds ≡ p.finds ++ here ∷ []
    grown = ap (λ (x : View). x.finds) s.is_part

    long : length q.seen ≡ length (p.seen ++ s.others)
    long = ap (λ (es : List Entry). length es) (s.seen ∙ append-nil (p.seen ++ s.others))

    left : FewLeft q.shape q.seen here
    left = s.sound.few_left here (inl (subst (In here) (sym grown) (in_right here p.finds (here ∷ []) (inl refl)))) refl zero

    found_here : FoundEmpty p q many
    found_here =
        let now = long in let more = length-append p.seen s.others in
        record {
          found = record { more = here ∷ []; grown = grown; find = here; among = Contains-push [] here; step = refl; nothing = zero };
          of = refl;
          early = omega arith;
          late = omega arith;
          left = left;
        }

    from_first : FoundEmpty o q many
    from_first = ⊎_elim
        (λ (e : p ≡ o). subst (λ (x : View). FoundEmpty x q many) e found_here)
        (λ (w : Went o p []). found_earlier w.goes found_here)
        y.bids.went

    none_here : is_clear p ≡ true → unlent_in q.shape many (loans_of q.seen) ≡ 0
    none_here c =
        let all : left.before ≡ q.seen = begins_all left.before q.seen left.begins (left.long ∙ sym long) in
        subst (λ (es : List Entry). unlent_in q.shape many (loans_of es) ≡ 0) all (left.none c)

    none_before : is_clear o ≡ true → (group : ℕ) → group < many → unlent_in q.shape group (loans_of q.seen) ≡ 0
    none_before c group low =
        let seen = still_seen looked.goes (whole_clear p (bids_clear y.bids c)) in
        subst (λ (x : Shape × List Entry). unlent_in x.0 group (loans_of x.1) ≡ 0) (λ j. (sym looked.goes.same_shape j, sym seen j)) (y.none c group low)

    -- this word was 0 too
    pub looks_on : Looking pool o q (many + 1)
    looks_on = record {
      bids = bids_go_on y.bids looked;
      went = λ l. looks_so_far;
      each = λ group low. dite (ℕ_discrete group many)
          (λ e. subst (λ (n : ℕ). FoundEmpty o q n) (sym e) from_first)
          (λ ne. found_later (y.each group (omega arith)) looked.goes);
      none = λ c group low. dite (ℕ_discrete group many)
          (λ e. subst (λ (n : ℕ). unlent_in q.shape n (loans_of q.seen) ≡ 0) (sym e) (none_here (bids_clear y.bids c)))
          (λ ne. none_before c group (omega arith));
    }

-- All words were 0.
pub looks_all : {pool : Pool} {o p : View} {many : ℕ} → Looking pool o p many → 0 < many → page_groups pool.shape ≤ many → NoneClaimed o p
looks_all {o = o} {p = p} {many = many} y some all =
    let now : page_groups p.shape ≤ many = subst (λ (z : Shape). page_groups z ≤ many) (sym y.bids.of.1) all in
    let before : page_groups o.shape ≤ many = subst (λ (z : Shape). page_groups z ≤ many) (bids_shape y.bids) now in
    record {
      went = y.went some;
      found = λ group low. y.each group (omega arith);
      all_lent = λ c. none_in_all p.shape (loans_of p.seen) (λ group low. y.none c group (omega arith));
    }

-- after tries that took nothing
pub bid_none : {pool : Pool} {o p q : View} → Bidding pool o p → NoneClaimed p q → NoneClaimed o q
bid_none {o = o} {p = p} {q = q} b n = ⊎_elim
    (λ (e : p ≡ o). subst (λ (x : View). NoneClaimed x q) e n)
    (λ (w : Went o p []). record {
      went = went_on b n.went;
      found = all_earlier w.goes n.found;
      all_lent = λ c. n.all_lent (bids_clear b c);
    })
    b.went
