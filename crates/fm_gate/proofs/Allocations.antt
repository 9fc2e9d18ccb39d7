-- What is learnt of allocating.
use Rattle.std.proofs.Common.{◌≡◌, ◌≢◌, ◌⊎◌, ℕ, Bool, not, List, [], ◌∷◌, ◌++◌, refl, ap, sym, ◌∙◌, subst, inl, inr, Result, Ok, Err, All}
use Rattle.std.{specs.Prelude.{Contains, IfErr}, proofs.lemmas.List.{append-nil, Elements.{All-head, All-tail, filter-append}}}
use Rattle.fm_base.specs.{declared.{caller.Caller.{Caller}, arena_id.ArenaId.{ArenaId}, refusal.Refusal.{Refusal}}, Arenas.{MayUse}}
use Rattle.fm_base.specs.{Calls.{Enter, Allocate, Leave, Fine, Given, NoRoom, Entry, entry_of}, Does.{DoesEnter, DoesAllocate}, Machine.{IsPower}}
use Rattle.fm_base.specs.{View.{but_loans, is_loan}, Visits.{refused_visit}}
use Rattle.fm_base.specs.declared.refusal.Refusal.TheVariants as refusal
use Rattle.fm_rule_facts.{specs.{Loans.{Loan, loans_of}, Views.{View, IsSound, given_of}}, proofs.Lending.{loans_after-append}}
use Rattle.fm_rule.specs.declared.pool.Pool.{Pool}
use Rattle.fm_rule_calls.proofs.Going.{goes_none, lasts_on}
use Rattle.fm_gate.{specs.{Giving.{DoesGive, LendsTo}, Learnt.{AfterEnter, AfterAllocate}, Pages.{AllocatesSo, FullExactly, LentBesides}, Needs.{CanAllocate}}, proofs.Scarce.{scarce_by}}

abbrev err : Refusal → Result ℕ Refusal
err r = Err r

abbrev nothing : Refusal → Result (Unit {0}) Refusal
nothing r = Err r

-- ---- refused before the arena is entered

-- What is learnt where no step was made.
unmoved : {pool : Pool} {p : View} {a : ArenaId} {size align : ℕ} {r : Refusal} → CanAllocate pool p a → IsSound p
    → DoesAllocate p.caller a size align (Err r) [] → err r ≢ err refusal.Closed → r ≢ refusal.Memory → err r ≢ err refusal.PoolFull
    → FullExactly p a size align (Err r) → AllocatesSo p p a size align (Err r) [] → ((given : ℕ) → err r ≡ err (refusal.NoRoom given) → ⊥)
    → AfterAllocate pool p p a size align (Err r)
unmoved can s does no_close never some exact none_so plain = record {
  did = record { own = []; does = does; goes = goes_none s; rest = refl };
  gives = tt;
  held = λ i. no_close;
  never = never;
  no_page = λ e. absurd (some e);
  exact = λ w c n. exact;
  lends = none_so;
  lent = λ w. record { kept = λ l i. i; more = λ l i. inl i };
  no_room = λ w given e. absurd (plain given e);
  bad_alignment = λ e. refl;
  wrong_thread = λ e. refl;
  outside = can.visit.outside;
  lasts = lasts_on (goes_none s);
}

pub after_bad : {pool : Pool} {p : View} {a : ArenaId} {size align : ℕ} → CanAllocate pool p a → IsSound p → ¬ (IsPower align)
    → AfterAllocate pool p p a size align (Err refusal.BadAlignment)
after_bad can s n = unmoved can s (n, refl) (λ e. absurd (cc)) (λ e. absurd (cc)) (λ e. absurd (cc)) tt refl (λ g e. absurd (cc))

pub after_not_his : {pool : Pool} {p : View} {a : ArenaId} {size align : ℕ} → CanAllocate pool p a → IsSound p → IsPower align → ¬ (MayUse a p.caller)
    → AfterAllocate pool p p a size align (Err refusal.WrongThread)
after_not_his can s power n = unmoved can s (power, n, refl) (λ e. absurd (cc)) (λ e. absurd (cc)) (λ e. absurd (cc)) tt refl (λ g e. absurd (cc))

-- where the loans are the same
same_loans : {p q : View} {a : ArenaId} {size align : ℕ} → loans_of q.seen ≡ loans_of p.seen → LentBesides p q a size align
same_loans e = record {
  kept = λ l i. subst (λ (ls : List Loan). Contains ls l) (sym e) i;
  more = λ l i. inl (subst (λ (ls : List Loan). Contains ls l) e i);
}

-- What is learnt where the arena couldn't be entered.
pub after_no_entrance : {pool : Pool} {p q : View} {a : ArenaId} {size align : ℕ} (r : Refusal) → IsPower align → AfterEnter pool p q a (Err r)
    → AfterAllocate pool p q a size align (Err r)
after_no_entrance {p = p} {q = q} {a = a} {size = size} {align = align} r power h = record {
  did = record { own = h.did.own; does = does r h.did.does; goes = h.did.goes; rest = h.did.rest };
  gives = tt;
  held = λ i e. h.held i (shut r h.did.does e);
  never = never r h.did.does;
  no_page = λ e. full r h.did.does e;
  exact = λ w c s. exact r h.did.does;
  lends = so r h.did.does;
  lent = λ w. still (h.did.goes.seen ∙ ap (λ (xs : List Entry). p.seen ++ xs) (h.did.goes.alone w)) r h.did.does;
  no_room = λ w given e. roomy r h.did.does given e;
  bad_alignment = λ e. bad r h.did.does e;
  wrong_thread = λ e. h.wrong_thread (same r h.did.does e);
  outside = h.outside;
  lasts = h.lasts;
}
  where
    does : (r : Refusal) → DoesEnter p.caller a (Err r) h.did.own → DoesAllocate p.caller a size align (Err r) (but_loans h.did.own)
    does refusal.WrongThread d = (power, d.0, ap but_loans d.1)
    does refusal.Closed d = (power, d.0, ap but_loans d.1)
    does r d = absurd d

    never : (r : Refusal) → DoesEnter p.caller a (Err r) h.did.own → r ≢ refusal.Memory
    never refusal.WrongThread d = λ e. absurd (cc)
    never refusal.Closed d = λ e. absurd (cc)
    never r d = absurd d

    full : {X : Type 0} (r : Refusal) → DoesEnter p.caller a (Err r) h.did.own → err r ≡ err refusal.PoolFull → X
    full refusal.WrongThread d e = absurd (cc)
    full refusal.Closed d e = absurd (cc)
    full r d e = absurd d

    exact : (r : Refusal) → DoesEnter p.caller a (Err r) h.did.own → FullExactly p a size align (Err r)
    exact refusal.WrongThread d = tt
    exact refusal.Closed d = tt
    exact r d = absurd d

    so : (r : Refusal) → DoesEnter p.caller a (Err r) h.did.own → AllocatesSo p q a size align (Err r) h.did.own
    so refusal.WrongThread d = ap but_loans d.1 ∙ sym d.1
    so refusal.Closed d = ap but_loans d.1 ∙ sym d.1
    so r d = absurd d

    still : q.seen ≡ p.seen ++ h.did.own → (r : Refusal) → DoesEnter p.caller a (Err r) h.did.own → LentBesides p q a size align
    still seen refusal.WrongThread d = same_loans (ap loans_of (seen ∙ ap (λ (xs : List Entry). p.seen ++ xs) d.1) ∙ loans_after-append [] p.seen [])
    still seen refusal.Closed d = same_loans (ap loans_of (seen ∙ ap (λ (xs : List Entry). p.seen ++ xs) d.1) ∙ loans_after-append [] p.seen (refused_visit p.caller a))
    still seen r d = absurd d

    roomy : {X : Type 0} (r : Refusal) → DoesEnter p.caller a (Err r) h.did.own → (given : ℕ) → err r ≡ err (refusal.NoRoom given) → X
    roomy refusal.WrongThread d given e = absurd (cc)
    roomy refusal.Closed d given e = absurd (cc)
    roomy r d given e = absurd d

    same : (r : Refusal) → DoesEnter p.caller a (Err r) h.did.own → err r ≡ err refusal.WrongThread → nothing r ≡ nothing refusal.WrongThread
    same refusal.WrongThread d e = refl
    same refusal.Closed d e = absurd (cc)
    same r d e = absurd d

    shut : (r : Refusal) → DoesEnter p.caller a (Err r) h.did.own → err r ≡ err refusal.Closed → nothing r ≡ nothing refusal.Closed
    shut refusal.WrongThread d e = absurd (cc)
    shut refusal.Closed d e = refl
    shut r d e = absurd d

    bad : {X : Type 0} (r : Refusal) → DoesEnter p.caller a (Err r) h.did.own → err r ≡ err refusal.BadAlignment → X
    bad refusal.WrongThread d e = absurd (cc)
    bad refusal.Closed d e = absurd (cc)
    bad r d e = absurd d

-- ---- what was answered inside, and what the call then answers

-- Loans are left out.
no_loans : (c : Caller) (a : ArenaId) (es : List Entry) → All (LendsTo c a) es → but_loans es ≡ []
no_loans c a [] h = refl
no_loans c a (e ∷ es) h =
    let f = All-head (LendsTo c a) e es h in
    ap (λ (x : Entry). but_loans (x ∷ es)) f.2 ∙ no_loans c a es (All-tail (LendsTo c a) e es h)

keeps : Entry → Bool
keeps e = not (is_loan e.call)

-- What is left of a visit in which loans came first.
visit_so : (c : Caller) (a : ArenaId) (lends acts : List Entry) {own : List Entry} → All (LendsTo c a) lends → own ≡ lends ++ acts
    → but_loans (entry_of c (Enter a) Fine ∷ own ++ entry_of c (Leave a) Fine ∷ [])
    ≡ entry_of c (Enter a) Fine ∷ but_loans acts ++ entry_of c (Leave a) Fine ∷ []
unfolding keeps
visit_so c a lends acts h is =
    let left : List Entry = entry_of c (Leave a) Fine ∷ [] in
    ap (λ (es : List Entry). but_loans (entry_of c (Enter a) Fine ∷ es ++ left)) is ∙ ap (λ (es : List Entry). entry_of c (Enter a) Fine ∷ es)
    (filter-append keeps (lends ++ acts) left
    ∙ ap (λ (es : List Entry). es ++ left) (filter-append keeps lends acts ∙ ap (λ (es : List Entry). es ++ but_loans acts) (no_loans c a lends h)))

pub alike : (c : Caller) (a : ArenaId) (size align : ℕ) (result : Result ℕ Refusal) (own : List Entry) → IsPower align → MayUse a c
    → DoesGive c a size align result own
    → DoesAllocate c a size align result (but_loans (entry_of c (Enter a) Fine ∷ own ++ entry_of c (Leave a) Fine ∷ []))
alike c a size align (Ok place) own power may d =
    (power, may, visit_so c a d.lends (entry_of c (Allocate a size align) (Given place) ∷ []) d.are d.is)
alike c a size align (Err (refusal.NoRoom given)) own power may d =
    (power, may, visit_so c a d.lends (entry_of c (Allocate a size align) (NoRoom given) ∷ []) d.are d.is)
alike c a size align (Err refusal.PoolFull) own power may d = (power, may, visit_so c a own [] d (sym (append-nil own)))
alike c a size align (Err r) own power may d = absurd d

pub never_so : (c : Caller) (a : ArenaId) (size align : ℕ) (result : Result ℕ Refusal) (own : List Entry) → DoesGive c a size align result own
    → IfErr result (λ r. r ≢ refusal.Memory)
never_so c a size align (Ok place) own d = tt
never_so c a size align (Err (refusal.NoRoom given)) own d = λ e. absurd (cc)
never_so c a size align (Err refusal.PoolFull) own d = λ e. absurd (cc)
never_so c a size align (Err r) own d = absurd d

pub unlike : {X : Type 0} (c : Caller) (a : ArenaId) (size align : ℕ) (result : Result ℕ Refusal) (own : List Entry) → DoesGive c a size align result own
    → (result ≡ Err refusal.BadAlignment) ⊎ ((result ≡ Err refusal.WrongThread) ⊎ (result ≡ Err refusal.Closed)) → X
unlike c a size align (Ok place) own d (inl e) = absurd (cc)
unlike c a size align (Ok place) own d (inr (inl e)) = absurd (cc)
unlike c a size align (Ok place) own d (inr (inr e)) = absurd (cc)
unlike c a size align (Err (refusal.NoRoom given)) own d (inl e) = absurd (cc)
unlike c a size align (Err (refusal.NoRoom given)) own d (inr (inl e)) = absurd (cc)
unlike c a size align (Err (refusal.NoRoom given)) own d (inr (inr e)) = absurd (cc)
unlike c a size align (Err refusal.PoolFull) own d (inl e) = absurd (cc)
unlike c a size align (Err refusal.PoolFull) own d (inr (inl e)) = absurd (cc)
unlike c a size align (Err refusal.PoolFull) own d (inr (inr e)) = absurd (cc)
unlike c a size align (Err r) own d e = absurd d

-- where pages were too few before the arena was entered they are so after it, and the other way round
pub exact_by : (p q : View) (a : ArenaId) (size align : ℕ) (result : Result ℕ Refusal) → q.shape ≡ p.shape → given_of q a ≡ given_of p a
    → loans_of q.seen ≡ loans_of p.seen → FullExactly q a size align result → FullExactly p a size align result
exact_by p q a size align (Ok place) shape given loans x = λ s. x (scarce_by shape given loans s)
exact_by p q a size align (Err (refusal.NoRoom given)) shape count loans x = λ s. x (scarce_by shape count loans s)
exact_by p q a size align (Err refusal.PoolFull) shape given loans x = scarce_by (sym shape) (sym given) (sym loans) x
exact_by p q a size align (Err r) shape given loans x = tt
