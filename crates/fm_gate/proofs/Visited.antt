-- What is learnt of allocating, from entering the arena to leaving it.
use Rattle.std.proofs.Common.{◌≡◌, ◌⊎◌, sym, ⊎_elim, ℕ, ◌+◌, ◌*◌, ◌/◌, ◌<◌, ◌≤◌, true, List, [], ◌∷◌, ◌++◌, refl, ap, ◌∙◌, subst, inl, inr, Option, Result, Ok, Err, append_assoc}
use Rattle.std.specs.Prelude.{Contains}
use Rattle.std.proofs.lemmas.List.Elements.{All-weaker, filter-append}
use Rattle.fm_words.specs.declared.shape.Shape.{Shape}
use Rattle.fm_base.specs.{declared.{caller.Caller.{Caller}, arena_id.ArenaId.{ArenaId}, refusal.Refusal.{Refusal}}, Arenas.{State, arena_of}}
use Rattle.fm_base.specs.{Calls.{Call, Enter, Allocate, Back, Leave, Lend, Fine, Given, NoRoom, Entry, entry_of}, Does.{DoesAct, DoesAllocate}, Finds.{Rest}, Histories.{made_by, state_after}}
use Rattle.fm_base.{specs.{Machine.{IsPower, entered, rounded_up}, View.{but_loans, is_loan}}, proofs.{Learning.{allocate_gives}, Lookup.{changed_lookup}}}
use Rattle.fm_base.proofs.Making.{state_after-append}
use Rattle.fm_base.specs.declared.refusal.Refusal.TheVariants as refusal
use Rattle.fm_rule_facts.{specs.{Loans.{Loan, loan_of, loans_after, loans_by, loans_of}, Views.{View, In, given_of, limit_of, state_in}}, proofs.{Keeping.{in_append}, Lending.{loans_after-append, loan_cases, more_loans}}}
use Rattle.fm_rule.specs.declared.pool.Pool.{Pool}
use Rattle.fm_rule_calls.{specs.{Kept.{Goes, Kept}, Told.{view_of_pass}}, proofs.{Going.{goes_then, lasts_on}, Telling.{did_of}}}
use Rattle.fm_pages.proofs.Looking.{all_earlier, found_later}
use Rattle.fm_gate.specs.{Giving.{AfterGive, DoesGive, NonePaged}, Learnt.{AfterEnter, AfterLeave, AfterAllocate}}
use Rattle.fm_gate.{specs.Pages.{AllocatesSo, FoundNoPage, IsDuring, IsInRange, LendsFirst, LendsInRange, LendsNow, LendsThen, given_after}, proofs.Allocations.{alike, exact_by, never_so, unlike}}

-- ---- no page was free

-- What was so inside is so in the whole call.
during_on : {p q r s : View} {es fs at : List Entry} → Goes p q es → Goes r s fs → IsDuring q r at → IsDuring p s at
during_on {p = p} {at = at} first last d = record {
  since = (first.more ++ d.since.0, d.since.1 ∙ (ap (λ (xs : List Entry). xs ++ d.since.0) first.seen ∙ append_assoc p.seen first.more d.since.0));
  until = (d.until.0 ++ last.more, last.seen ∙ (ap (λ (xs : List Entry). xs ++ last.more) d.until.1 ∙ append_assoc at d.until.0 last.more));
}

range_on : {p q : View} {es : List Entry} (a : ArenaId) (size align part : ℕ) (counted : List Entry) → Goes p q es
    → IsInRange q (given_after q counted a) size align part → IsInRange p (given_after p counted a) size align part
range_on a size align part counted first x =
    let count : Shape → ℕ = λ z. (arena_of (state_after (limit_of z) [] counted) a).given in
    let shape = first.same_shape in
    record {
      fits = subst (λ (z : Shape). rounded_up (count z) align + size ≤ limit_of z) shape x.fits;
      after = subst (λ (z : Shape). count z / (z.page_words * 8) ≤ part) shape x.after;
      before = subst (λ (z : Shape). part * (z.page_words * 8) < rounded_up (count z) align + size) shape x.before;
    }

module _ {p q : View} {a : ArenaId} (first : Goes p q (entry_of p.caller (Enter a) Fine ∷ [])) where
  found_no_page : {r s : View} {size align : ℕ} {own : List Entry} → Goes q r own → Goes r s (entry_of p.caller (Leave a) Fine ∷ [])
      → NonePaged q r a size align → FoundNoPage p s a size align
  found_no_page {r = r} {s = s} {size = size} {align = align} between last x =
      let same : q.caller ≡ p.caller = first.same_caller in
      let y = x.lacked in
      record {
        found = λ g low. found_later (all_earlier first x.found g low) last;
        lacked = record {
          counted = y.counted;
          count_stood = during_on first last y.count_stood;
          part = y.part;
          in_range = range_on a size align y.part y.counted first y.in_range;
          at = y.at;
          later = y.later ++ last.more;
          at_stood = during_on first last y.at_stood;
          seen = last.seen ∙ (ap (λ (es : List Entry). es ++ last.more) y.seen ∙ append_assoc y.at y.later last.more);
          lacked = y.lacked;
          own = filter-append _ y.later last.more
              ∙ (λ j. subst (λ (c : Caller). made_by c y.later ≡ []) same y.own j
              ++ subst (λ (c : Caller). made_by c last.more ≡ entry_of p.caller (Leave a) Fine ∷ []) (between.same_caller ∙ same) last.by_pass j);
        };
      }

  -- What is lent inside is lent in the whole call.
  module _ {r s : View} (size align : ℕ) (last : Goes r s (entry_of p.caller (Leave a) Fine ∷ [])) where
    lent_on : (e : Entry) → LendsInRange q r a size align e → LendsInRange p s a size align e
    lent_on e l = record {
      page = l.page;
      part = l.part;
      is = l.is ∙ ap (λ (c : Caller). entry_of c (Lend l.page a l.part) Fine) first.same_caller;
      counted = l.counted;
      since = (
        first.more ++ l.since.0,
        l.since.1 ∙ (ap (λ (xs : List Entry). xs ++ l.since.0) first.seen ∙ append_assoc p.seen first.more l.since.0),
      );
      at = l.at;
      later = l.later ++ last.more;
      until = l.until;
      seen = last.seen ∙ (ap (λ (xs : List Entry). xs ++ last.more) l.seen ∙ append_assoc l.at (e ∷ l.later) last.more);
      in_range = range_on a size align l.part l.counted first l.in_range;
    }

    then_on : (acts own : List Entry) → LendsThen q r a size align acts own → LendsThen p s a size align acts own
    then_on acts own h = record {
      lends = h.lends;
      are = All-weaker (LendsInRange q r a size align) (LendsInRange p s a size align) lent_on h.lends h.are;
      is = h.is;
    }

    first_on : (result : Result ℕ Refusal) (own : List Entry) → LendsFirst q r a size align result own → LendsFirst p s a size align result own
    first_on (Ok place) own h =
        then_on (entry_of p.caller (Allocate a size align) (Given place) ∷ []) own
        (subst (λ (c : Caller). LendsThen q r a size align (entry_of c (Allocate a size align) (Given place) ∷ []) own) first.same_caller h)
    first_on (Err (refusal.NoRoom given)) own h =
        then_on (entry_of p.caller (Allocate a size align) (NoRoom given) ∷ []) own
        (subst (λ (c : Caller). LendsThen q r a size align (entry_of c (Allocate a size align) (NoRoom given) ∷ []) own) first.same_caller h)
    first_on (Err refusal.PoolFull) own h = then_on [] own h
    first_on (Err r) own h = absurd h

    -- So are all entries of the call.
    all_so : (result : Result ℕ Refusal) (own : List Entry) → LendsFirst q r a size align result own
        → AllocatesSo p s a size align result (entry_of p.caller (Enter a) Fine ∷ own ++ entry_of p.caller (Leave a) Fine ∷ [])
    all_so (Ok place) own h = record { inside = own; lends = first_on (Ok place) own h; is = refl }
    all_so (Err (refusal.NoRoom given)) own h = record { inside = own; lends = first_on (Err (refusal.NoRoom given)) own h; is = refl }
    all_so (Err refusal.PoolFull) own h = record { inside = own; lends = first_on (Err refusal.PoolFull) own h; is = refl }
    all_so (Err r) own h = absurd h

  -- ---- what a whole pass leaves lent

  one_kept : (loans : List Loan) (call : Call) → (is_loan call ≡ true → (page : ℕ) × (part : ℕ) × (call ≡ Lend page a part)) → (l : Loan)
      → Contains loans l → Contains (loans_by loans call) l
  one_kept loans (Lend block id part) h l c = more_loans (loan_of block id part) l loans c
  one_kept loans (Back block) h l c = let y = h refl in let e = y.2 in absurd (cc)
  one_kept loans call h l c = c

  all_kept : (loans : List Loan) (es : List Entry) → ((e : Entry) → In e es → is_loan e.call ≡ true → (page : ℕ) × (part : ℕ) × (e.call ≡ Lend page a part))
      → (l : Loan) → Contains loans l → Contains (loans_after loans es) l
  all_kept loans [] h l c = c
  all_kept loans (e ∷ es) h l c = all_kept (loans_by loans e.call) es (λ x i. h x (inr i)) l (one_kept loans e.call (h e (inl refl)) l c)

  module _ (R : ℕ → Type 0) where
    one_more : (loans : List Loan) (call : Call) → (is_loan call ≡ true → (page : ℕ) × (part : ℕ) × (call ≡ Lend page a part) × R part) → (l : Loan)
        → Contains (loans_by loans call) l → Contains loans l ⊎ ((l.id ≡ a) × R l.part)
    one_more loans (Lend block id part) h l c =
        let y = h refl in
        let same : part ≡ y.1 = (let e = y.2 in cc) in
        let of : id ≡ a = (let e = y.2 in cc) in
        ⊎_elim
        (λ (e : loan_of block id part ≡ l). inr (sym (ap (λ (x : Loan). x.id) e) ∙ of, subst R (sym same ∙ ap (λ (x : Loan). x.part) e) y.3))
        inl (loan_cases (loan_of block id part) l loans c)
    one_more loans (Back block) h l c = let y = h refl in let e = y.2 in absurd (cc)
    one_more loans call h l c = inl c

    all_more : (loans : List Loan) (es : List Entry)
        → ((e : Entry) → In e es → is_loan e.call ≡ true → (page : ℕ) × (part : ℕ) × (e.call ≡ Lend page a part) × R part)
        → (l : Loan) → Contains (loans_after loans es) l → Contains loans l ⊎ ((l.id ≡ a) × R l.part)
    all_more loans [] h l c = inl c
    all_more loans (e ∷ es) h l c = ⊎_elim (λ d. one_more loans e.call (h e (inl refl)) l d) inr
        (all_more (loans_by loans e.call) es (λ x i. h x (inr i)) l c)

  -- ---- whether pages are too few

  module _ (whole : p.whole ≡ true) where
    entered_seen : q.seen ≡ p.seen ++ entry_of p.caller (Enter a) Fine ∷ []
    entered_seen = first.seen ∙ ap (λ (es : List Entry). p.seen ++ es) (first.alone whole)

    pub entered_loans : loans_of q.seen ≡ loans_of p.seen
    entered_loans = ap loans_of entered_seen ∙ loans_after-append [] p.seen (entry_of p.caller (Enter a) Fine ∷ [])

    pub entered_given : given_of q a ≡ given_of p a
    entered_given =
        let limit : ℕ = limit_of p.shape in
        (λ j. (arena_of (state_after (limit_of (first.same_shape j)) [] (entered_seen j)) a).given)
        ∙ (ap (λ (s : State). (arena_of s a).given) (state_after-append limit [] p.seen (entry_of p.caller (Enter a) Fine ∷ []))
        ∙ changed_lookup (λ x y. y.given ≡ x.given) (entered p.caller) (λ x. refl) (λ x. refl) (state_in p) a refl a)

-- ---- the whole call

-- what a whole pass lent inside, by all of the call's entries
lends_all : (p q : View) (a : ArenaId) (size align : ℕ) → q.shape ≡ p.shape → given_of q a ≡ given_of p a → (c : Caller) (own : List Entry)
    → ((e : Entry) → In e own → is_loan e.call ≡ true → LendsNow q a size align e)
    → (e : Entry) → In e (entry_of c (Enter a) Fine ∷ own ++ entry_of c (Leave a) Fine ∷ []) → is_loan e.call ≡ true
    → (page : ℕ) × (part : ℕ) × (e.call ≡ Lend page a part) × IsInRange p (given_of p a) size align part
lends_all p q a size align shape given c own h e (inl i) loan = let call : e.call ≡ Enter a = ap (λ (k : Entry). k.call) i in absurd (cc)
lends_all p q a size align shape given c own h e (inr i) loan = ⊎_elim
    (λ j. let l = h e j loan in (
      l.page,
      l.part,
      l.is,
      record {
        fits = subst (λ (x : Shape × ℕ). rounded_up x.1 align + size ≤ limit_of x.0) (λ k. (shape k, given k)) l.in_range.fits;
        after = subst (λ (x : Shape × ℕ). x.1 / (x.0.page_words * 8) ≤ l.part) (λ k. (shape k, given k)) l.in_range.after;
        before = subst (λ (x : Shape × ℕ). l.part * (x.0.page_words * 8) < rounded_up x.1 align + size) (λ k. (shape k, given k)) l.in_range.before;
      },
    ))
    (λ j. absurd (not_leaving j loan)) (in_append e own (entry_of c (Leave a) Fine ∷ []) i)
  where
    not_leaving : In e (entry_of c (Leave a) Fine ∷ []) → is_loan e.call ≡ true → ⊥
    not_leaving (inl j) loan = let call : e.call ≡ Leave a = ap (λ (k : Entry). k.call) j in absurd (cc)
    not_leaving (inr j) loan = j

pub after_allocate : {pool : Pool} {p q r s : View} {a : ArenaId} {size align : ℕ} (result : Result ℕ Refusal) (u : Unit {0}) → IsPower align
    → AfterEnter pool p q a (Ok u) → AfterGive pool q r a size align result → AfterLeave pool r s → AfterAllocate pool p s a size align result
after_allocate {p = p} {q = q} {r = r} {s = s} {a = a} {size = size} {align = align} result u power enters gives leaves =
    let c : Caller = p.caller in
    let same : q.caller ≡ c = enters.did.goes.same_caller in
    let does : DoesGive c a size align result gives.did.own = subst (λ (x : Caller). DoesGive x a size align result gives.did.own) same gives.did.does in
    let first : Goes p q (entry_of c (Enter a) Fine ∷ []) = subst (λ (es : List Entry). Goes p q es) enters.did.does.1 enters.did.goes in
    let left : leaves.did.own ≡ entry_of r.caller (Leave a) Fine ∷ [] =
    subst (λ (i : Option ArenaId). DoesAct i r.caller Leave Fine leaves.did.own) gives.inside.inside leaves.did.does in
    let last : Goes r s (entry_of c (Leave a) Fine ∷ []) = subst (λ (x : Caller). Goes r s (entry_of x (Leave a) Fine ∷ []))
    (gives.did.goes.same_caller ∙ same) (subst (λ (es : List Entry). Goes r s es) left leaves.did.goes) in
    let all : Goes p s (entry_of c (Enter a) Fine ∷ gives.did.own ++ entry_of c (Leave a) Fine ∷ []) = goes_then first (goes_then gives.did.goes last) in
    let did : Kept p s (λ own. DoesAllocate c a size align result (but_loans own)) = record {
      own = entry_of c (Enter a) Fine ∷ gives.did.own ++ entry_of c (Leave a) Fine ∷ [];
      does = alike c a size align result gives.did.own power enters.did.does.0 does;
      goes = all;
      rest = leaves.did.rest ∙ (gives.did.rest ∙ enters.did.rest);
    } in
    record {
      did = did;
      gives = allocate_gives (view_of_pass p) (view_of_pass s) a size align result (did_of p s _ did);
      held = λ i e. unlike c a size align result gives.did.own does (inr (inr e));
      never = never_so c a size align result gives.did.own does;
      no_page = λ e. found_no_page first gives.did.goes last (gives.no_page e);
      exact = λ w closes sweeps.
          exact_by p q a size align result first.same_shape (entered_given first w) (entered_loans first w)
          (gives.exact (first.same_whole ∙ w) (ap (λ (x : Rest). x.closes) enters.did.rest ∙ closes) (ap (λ (x : Rest). x.sweeps) enters.did.rest ∙ sweeps));
      lends = all_so first size align last result gives.did.own gives.lends;
      lent = λ w.
          let es : List Entry = entry_of c (Enter a) Fine ∷ gives.did.own ++ entry_of c (Leave a) Fine ∷ [] in
          let now : loans_of s.seen ≡ loans_after (loans_of p.seen) es =
          ap loans_of (all.seen ∙ ap (λ (xs : List Entry). p.seen ++ xs) (all.alone w)) ∙ loans_after-append [] p.seen es in
          let each = lends_all p q a size align first.same_shape (entered_given first w) c gives.did.own (gives.now (first.same_whole ∙ w)) in
          record {
            kept = λ l i. subst (λ (ls : List Loan). Contains ls l) (sym now)
                (all_kept first (loans_of p.seen) es (λ e j loan. let y = each e j loan in (y.0, y.1, y.2)) l i);
            more = λ l i. all_more first (IsInRange p (given_of p a) size align) (loans_of p.seen) es each l (subst (λ (ls : List Loan). Contains ls l) now i);
          };
      no_room = λ w given e.
          let own = gives.no_room (first.same_whole ∙ w) given e in
          λ j. entry_of c (Enter a) Fine ∷ (own ∙ ap (λ (x : Caller). entry_of x (Allocate a size align) (NoRoom given) ∷ []) same) j
          ++ entry_of c (Leave a) Fine ∷ [];
      bad_alignment = λ e. unlike c a size align result gives.did.own does (inl e);
      wrong_thread = λ e. unlike c a size align result gives.did.own does (inr (inl e));
      outside = leaves.outside;
      lasts = lasts_on all;
    }
