-- What is heard of the calls of a `Mono`: its entries but loans, made by caller 0.
use Rattle.std.proofs.Common.{inl, ◌≡◌, ℕ, ◌+◌, Bool, true, false, cond, List, [], ◌∷◌, ◌++◌, length, refl, ap, sym, ◌∙◌, subst, append_assoc, Option, All}
use Rattle.std.{specs.Prelude.{filter, Result, Ok, Err}, proofs.lemmas.List.{append-nil}}
use Rattle.std.proofs.lemmas.List.Elements.{All-head, All-tail, All-nil, All-cons, All-filter, All-weaker, filter_passes}
use Rattle.fm_base.specs.declared.{caller.Caller.{Caller}, arena_id.ArenaId.{ArenaId}, kind.Kind.{Kind}, refusal.Refusal.{Refusal}}
use Rattle.fm_base.specs.{Arenas.{are_one, only_caller, State}, Calls.{Call, Lend, Back, Reply, Entry, entry_of}, Finds.{Find, is_draw}}
use Rattle.fm_base.specs.{Machine.{state_by, after}, Histories.{IsLegal, state_after, made_by}, View.{Makes, Did, inside_after, inside_next, but_loans}}
use Rattle.fm_base.{specs.Does.{DoesEnter, DoesOpen, DoesAllocate, DoesClose}, proofs.{Faith.{Makes-alone}, Names.{are_one-true}}}
use Rattle.fm_base.specs.declared.refusal.Refusal.TheVariants as refusal
use Rattle.fm_mono.specs.Shown.{Arenas, view_of}
use Rattle.fm_memory_doubles.specs.{declared.heard.Heard.{Heard}, Double.{gathered_one}}
use Rattle.fm_memory_doubles.specs.Heard.{own_enter, own_open, own_allocate, close_by, entries_by, entries_in, finds_by, finds_in}
use Rattle.fm_memory_doubles.specs.declared.heard.Heard.TheVariants as heard

-- ---- one more

-- The entries with one call's more.
pub entries_more : (hs : List Heard) (h : Heard) → entries_in (hs ++ h ∷ []) ≡ entries_in hs ++ entries_by h
entries_more [] h = append-nil (entries_by h)
entries_more (x ∷ hs) h = ap (λ (es : List Entry). entries_by x ++ es) (entries_more hs h) ∙ sym (append_assoc (entries_by x) (entries_in hs) (entries_by h))

-- The finds with one call's more.
pub finds_more : (seen : ℕ) (hs : List Heard) (h : Heard) → (n : ℕ) × (finds_in seen (hs ++ h ∷ []) ≡ finds_in seen hs ++ finds_by n h)
finds_more seen [] h = (seen, append-nil (finds_by seen h))
finds_more seen (x ∷ hs) h =
    let r = finds_more (seen + length (entries_by x)) hs h in (
      r.0,
      ap (λ (fs : List Find). finds_by seen x ++ fs) r.1
          ∙ sym (append_assoc (finds_by seen x) (finds_in (seen + length (entries_by x)) hs) (finds_by r.0 h)),
    )

-- None of them is a draw.
pub no_draws : (n : ℕ) (h : Heard) → All (λ f. is_draw f.step ≡ false) (finds_by n h)
no_draws n (heard.Open (Err refusal.NoSlot)) = All-cons (λ f. is_draw f.step ≡ false) _ [] refl (All-nil (λ f. is_draw f.step ≡ false))
no_draws n h = All-nil (λ f. is_draw f.step ≡ false)

-- ---- entries but loans

record Unlent (limit : ℕ) (s : State) (es : List Entry) : Type 0 where
  legal : IsLegal limit s (but_loans es)
  state : state_after limit s (but_loans es) ≡ state_after limit s es
  inside : (i : Option ArenaId) → inside_after i (but_loans es) ≡ inside_after i es

unlent_by : (limit : ℕ) (s : State) (c : Caller) (call : Call) (reply : Reply) (es : List Entry) → IsLegal limit s (entry_of c call reply ∷ es)
    → Unlent limit (state_by limit s c call reply) es
    → Unlent limit s (entry_of c call reply ∷ es)
unlent_by limit s c (Lend block id part) reply es l u = record { legal = u.legal; state = u.state; inside = λ i. u.inside i }
unlent_by limit s c (Back block) reply es l u = record { legal = u.legal; state = u.state; inside = λ i. u.inside i }
unlent_by limit s c call reply es l u = record { legal = (l.0, l.1, u.legal); state = u.state; inside = λ i. u.inside (inside_next i call reply) }

-- Entries are legal without loans, and lead to the same.
unlent : (limit : ℕ) (s : State) (es : List Entry) → IsLegal limit s es → Unlent limit s es
unlent limit s [] l = record { legal = tt; state = refl; inside = λ i. refl }
unlent limit s (e ∷ es) l = unlent_by limit s e.caller e.call e.reply es l (unlent limit (after limit s e) es l.2)

-- ---- what the `Mono` made

-- these entries of caller 0 led from one to the other
pub record Made (m n : Arenas) (own : List Entry) : Type 0 where
  pub legal : IsLegal m.limit m.state own
  pub reached : n.state ≡ state_after m.limit m.state own
  pub mine : All (λ e. e.caller ≡ only_caller) own
  pub inside : n.inside ≡ inside_after m.inside own
  pub limit : n.limit ≡ m.limit

pub made_of : (m n : Arenas) (own : List Entry) → Makes (view_of m) (view_of n) own → Made m n own
made_of m n own k =
    let r = Makes-alone (view_of m) (view_of n) own (inl refl) k in
    let tested = subst (λ (es : List Entry). All (λ (e : Entry). are_one e.caller only_caller ≡ true) es) k.by_caller
    (filter_passes (λ (e : Entry). are_one e.caller only_caller) k.all) in
    record {
      legal = r.0;
      reached = r.1;
      mine =
          All-weaker (λ (e : Entry). are_one e.caller only_caller ≡ true) (λ (e : Entry). e.caller ≡ only_caller)
          (λ e t. are_one-true e.caller only_caller t) own tested;
      inside = k.inside;
      limit = k.same_limit;
    }

made_but_loans : (m n : Arenas) (own : List Entry) → Made m n own → Made m n (but_loans own)
made_but_loans m n own k =
    let u = unlent m.limit m.state own k.legal in
    record {
      legal =
          u.legal;
      reached = k.reached ∙ sym u.state;
      mine = All-filter _ (λ (e : Entry). e.caller ≡ only_caller) own k.mine;
      inside = k.inside
          ∙ sym (u.inside m.inside);
      limit = k.limit;
    }

-- All entries pass a test that each does.
pub keeps_all : (p : Entry → Bool) (es : List Entry) → All (λ e. p e ≡ true) es → filter p es ≡ es
keeps_all p [] h = refl
keeps_all p (e ∷ es) h =
    let t = All-head (λ (x : Entry). p x ≡ true) e es h in
    let r = keeps_all p es (All-tail (λ (x : Entry). p x ≡ true) e es h) in
    ap (λ b. cond b (e ∷ filter p es) (filter p es)) t ∙ ap (λ (xs : List Entry). e ∷ xs) r

-- Caller 0's entries are its own.
pub mine_is : (es : List Entry) → All (λ e. e.caller ≡ only_caller) es → made_by only_caller es ≡ es
mine_is es h =
    keeps_all (λ e. are_one e.caller only_caller) es
    (All-weaker (λ (e : Entry). e.caller ≡ only_caller) (λ (e : Entry). are_one e.caller only_caller ≡ true) (λ e i. rw i refl) es h)

-- The gathered caller made none of them.
pub quiet_is : (es : List Entry) → All (λ e. e.caller ≡ only_caller) es → made_by gathered_one es ≡ []
quiet_is [] h = refl
quiet_is (e ∷ es) h =
    let t : are_one e.caller gathered_one ≡ false = rw (All-head (λ (x : Entry). x.caller ≡ only_caller) e es h) refl in
    ap (λ b. cond b (e ∷ made_by gathered_one es) (made_by gathered_one es)) t ∙ quiet_is es (All-tail (λ (x : Entry). x.caller ≡ only_caller) e es h)

-- ---- which entries an answer stands for

pub enter_own : (id : ArenaId) (r : Result (Unit {0}) Refusal) (own : List Entry) → DoesEnter only_caller id r own → own ≡ own_enter id r
enter_own id (Ok u) own d = d.1
enter_own id (Err refusal.Closed) own d = d.1
enter_own id (Err refusal.WrongThread) own d = d.1
enter_own id (Err r) own d = absurd d

pub open_own : (kind : Kind) (r : Result ArenaId Refusal) (own : List Entry) → DoesOpen only_caller kind r own → own ≡ own_open r
open_own kind (Ok id) own d = d.2
open_own kind (Err refusal.NoSlot) own d = d
open_own kind (Err refusal.Memory) own d = d
open_own kind (Err r) own d = absurd d

pub allocate_own : (id : ArenaId) (size align : ℕ) (r : Result ℕ Refusal) (own : List Entry) → DoesAllocate only_caller id size align r own
    → own ≡ own_allocate id size align r
allocate_own id size align (Ok place) own d = d.2
allocate_own id size align (Err refusal.BadAlignment) own d = d.1
allocate_own id size align (Err refusal.WrongThread) own d = d.2
allocate_own id size align (Err refusal.Closed) own d = d.2
allocate_own id size align (Err (refusal.NoRoom given)) own d = d.2
allocate_own id size align (Err refusal.PoolFull) own d = d.2
allocate_own id size align (Err refusal.Memory) own d = d.2
allocate_own id size align (Err r) own d = absurd d

pub close_own : (id : ArenaId) (r : Result (Unit {0}) Refusal) (own : List Entry) → DoesClose only_caller id r own → own ≡ close_by only_caller id r
close_own id (Ok u) own d = d.2
close_own id (Err (refusal.CannotClose kind)) own d = d.2
close_own id (Err refusal.WrongThread) own d = d.2
close_own id (Err refusal.Closed) own d = d.2
close_own id (Err (refusal.Held holds)) own d = d.3
close_own id (Err r) own d = absurd d

-- what a call from outside did, told by its answer
pub record MadeOutside (m n : Arenas) (Q : List Entry → Type 0) (own : List Entry) : Type 0 where
  pub made : Made m n own
  pub does : Q (but_loans own)

idempotent : (es : List Entry) → but_loans (but_loans es) ≡ but_loans es
idempotent es = keeps_all _ (but_loans es) (filter_passes _ es)

pub made_outside : (m n : Arenas) (Q : List Entry → Type 0) (own : List Entry) → ((es : List Entry) → Q es → es ≡ own)
    → Did (view_of m) (view_of n) (λ es. Q (but_loans es)) → MadeOutside m n Q own
made_outside m n Q own is d =
    let e = is (but_loans d.own) d.does in
    record {
      made = subst (λ (es : List Entry). Made m n es) e (made_but_loans m n d.own (made_of m n d.own d.makes));
      does = subst (λ (es : List Entry). Q (but_loans es)) e (subst Q (sym (idempotent d.own)) d.does);
    }
