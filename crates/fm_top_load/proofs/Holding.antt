-- What calls do to an arena that a caller by itself holds.
use Rattle.std.proofs.Common.{◌≡◌, ◌≢◌, ℕ, ◌+◌, ◌*◌, ◌^◌, ◌≤◌, Bool, true, false, List, [], ◌∷◌, None, Ok, Err, length, refl, ap, sym, ◌∙◌, subst, arith}
use Rattle.std.{specs.Prelude.{nat_le, if◌then◌else◌, not}, proofs.lemmas.{List.{length-replicate}, Bool.{le-leb}}}
use lib.Count.{ones}
use Rattle.fm_base.specs.declared.{caller.Caller.{Caller}, arena_id.ArenaId.{ArenaId}, kind.Kind.{Kind}, refusal.Refusal.{Refusal}}
use Rattle.fm_base.specs.Arenas.{State, Arena, MayUse, changed, arena_of, has_arena, same_id}
use Rattle.fm_base.specs.Calls.{Call, Open, Enter, Read, Write, SwapIf, Add, Allocate, Leave, Hold, Unhold, Shut, End, Lend, Back, Reply, Fine, Closed, Given, NoRoom, Entry, entry_of}
use Rattle.fm_base.specs.{Does.{DidAllocate, DidOpen}, Histories.{IsLegal, state_after}}
use Rattle.fm_base.specs.Machine.{after, state_by, words_within, rounded_up, opened, entered, left, given_up_to, enter_reply, allocate_reply}
use Rattle.fm_base.{specs.{View.{View, Makes, but_loans, is_loan, IsByItself, given_in}, Visits.{visit, refused_visit}}, proofs.Faith.{Makes-alone}}
use Rattle.fm_base.proofs.Growing.{given_is}
use Rattle.fm_base.proofs.Lookup.{KeepsName, changed_has, changed_lookup, changed_twice, lookup_changed, arena_of-id, arena_of-opened, has_arena-opened}
use Rattle.fm_base.{proofs.Making.{by_itself_still}, specs.{Outcomes.{Nature, MayRefuse, FoundNoneFree}, Finds.{is_page}}}
use Rattle.fm_base.specs.declared.refusal.Refusal.TheVariants as refusal
use Rattle.fm_base_bytes.proofs.Words.{length-bytes_in}
use Rattle.fm_segment_access.{specs.Alone.{ChangesBytes, bytes_of_arena, with_words}, proofs.{Splicing.{keeps_count}, Visits.{visit_stays}}}
use Rattle.fm_top_load.specs.Held.{IsHeld, IsEmpty, HoldsThen, OnlyIn, Wants, names_in, words_at}

-- entries that lend blocks or take them back leave the state
loan_stays : (limit : ℕ) (c : Caller) (s : State) (call : Call) (reply : Reply) → is_loan call ≡ true → state_by limit s c call reply ≡ s
loan_stays limit c s (Lend block id part) reply is = refl
loan_stays limit c s (Back block) reply is = refl
loan_stays limit c s (Open id) reply is = absurd (cc)
loan_stays limit c s (Enter id) reply is = absurd (cc)
loan_stays limit c s (Read id word) reply is = absurd (cc)
loan_stays limit c s (Write id word value) reply is = absurd (cc)
loan_stays limit c s (SwapIf id word old new) reply is = absurd (cc)
loan_stays limit c s (Add id word n) reply is = absurd (cc)
loan_stays limit c s (Allocate id size align) reply is = absurd (cc)
loan_stays limit c s (Leave id) reply is = absurd (cc)
loan_stays limit c s (Hold id) reply is = absurd (cc)
loan_stays limit c s (Unhold id) reply is = absurd (cc)
loan_stays limit c s (Shut id) reply is = absurd (cc)
loan_stays limit c s (End id) reply is = absurd (cc)

pub record GoesAs (limit : ℕ) (s : State) (es fs : List Entry) : Type 0 where
  pub legal : IsLegal limit s fs
  pub state : state_after limit s fs ≡ state_after limit s es

-- a legal history is legal without its loans, and leaves the same state
pub without_loans : (limit : ℕ) (s : State) (es : List Entry) → IsLegal limit s es → GoesAs limit s es (but_loans es)
without_loans limit s [] legal = record { legal = tt; state = refl }
without_loans limit s (e ∷ es) legal =
    let P : Bool → Type 0 = λ b. is_loan e.call ≡ b → GoesAs limit s (e ∷ es) (if not b then e ∷ but_loans es else but_loans es) in
    let go : (b : Bool) → P b = λ b. elim b as P [
      | true ↦ (λ is.
          let same : after limit s e ≡ s = loan_stays limit e.caller s e.call e.reply is in
          let rest : IsLegal limit s es = subst (λ (t : State). IsLegal limit t es) same legal.2 in
          let goes = without_loans limit s es rest in
          record { legal = goes.legal; state = goes.state ∙ ap (λ (t : State). state_after limit t es) (sym same) })
      | false ↦ (λ is.
          let goes = without_loans limit (after limit s e) es legal.2 in
          record { legal = (legal.0, legal.1, goes.legal); state = goes.state })
    ] in
    go (is_loan e.call) refl

-- what the only caller's entries, loans left out, did to the state
pub record DidOnly (x y : View) (es : List Entry) : Type 0 where
  pub legal : IsLegal x.limit x.state es
  pub state : y.state ≡ state_after x.limit x.state es

pub did_only : (x y : View) (own : List Entry) (es : List Entry) → IsByItself x → Makes x y own → but_loans own ≡ es → DidOnly x y es
did_only x y own es alone makes are =
    let made = Makes-alone x y own alone makes in
    let goes = without_loans x.limit x.state own made.0 in
    record {
      legal = subst (λ (fs : List Entry). IsLegal x.limit x.state fs) are goes.legal;
      state = made.1 ∙ sym goes.state ∙ ap (state_after x.limit x.state) are;
    }

-- ---- what a call leaves

-- a change of the held arena that leaves its life and the number of its words
held_changed : (v w : View) (own : List Entry) (a : ArenaId) (given : ℕ) (words : List ℕ) (f : Arena → Arena) → KeepsName f
    → IsHeld v a → Makes v w own → w.inside ≡ None → w.state ≡ changed v.state a f
    → (f (arena_of v.state a)).life ≡ (arena_of v.state a).life → (f (arena_of v.state a)).given ≡ given → (f (arena_of v.state a)).words ≡ words
    → length words ≡ length (words_at v a) → HoldsThen w a given words
held_changed v w own a given words f named h makes out state life given_same words_are size =
    let is : arena_of w.state a ≡ f (arena_of v.state a) = ap (λ (s : State). arena_of s a) state ∙ lookup_changed v.state a f named h.known in
    let words_now : words_at w a ≡ words = ap (λ (x : Arena). x.words) is ∙ words_are in
    record {
      held = record {
        by_itself = by_itself_still v w own makes h.by_itself;
        outside = out;
        small = subst (λ n. n ≤ 2 ^ 40) (sym makes.same_limit) h.small;
        known = ap (λ (s : State). has_arena s a) state ∙ (changed_has f named v.state a a ∙ h.known);
        usable = subst (MayUse a) (sym makes.same_caller) h.usable;
        alive = ap (λ (x : Arena). x.life) is ∙ (life ∙ h.alive);
        size = ap length words_now ∙ (size ∙ h.size) ∙ ap words_within (sym makes.same_limit);
      };
      given_is = ap (λ (x : Arena). x.given) is ∙ given_same;
      words_are = words_now;
    }

-- nothing changed
held_same : (v w : View) (own : List Entry) (a : ArenaId) → IsHeld v a → Makes v w own → w.inside ≡ None → w.state ≡ v.state
    → HoldsThen w a (given_in v a) (words_at v a)
held_same v w own a h makes out state =
    let is : arena_of w.state a ≡ arena_of v.state a = ap (λ (s : State). arena_of s a) state in
    record {
      held = record {
        by_itself = by_itself_still v w own makes h.by_itself;
        outside = out;
        small = subst (λ n. n ≤ 2 ^ 40) (sym makes.same_limit) h.small;
        known = ap (λ (s : State). has_arena s a) state ∙ h.known;
        usable = subst (MayUse a) (sym makes.same_caller) h.usable;
        alive = ap (λ (x : Arena). x.life) is ∙ h.alive;
        size = ap (λ (x : Arena). length x.words) is ∙ h.size ∙ ap words_within (sym makes.same_limit);
      };
      given_is = ap (λ (x : Arena). x.given) is;
      words_are = ap (λ (x : Arena). x.words) is;
    }

-- the arena was opened
pub opened_held : (v w : View) (a : ArenaId) (kind : Kind) → IsByItself v → v.limit ≤ 2 ^ 40 → w.inside ≡ None → DidOpen v w kind (Ok a)
    → IsEmpty w a
opened_held v w a kind alone small out did =
    let only = did_only v w did.own (entry_of v.caller (Open a) Fine ∷ []) alone did.makes did.does.2 in
    let is : arena_of w.state a ≡ opened v.limit a =
    ap (λ (s : State). arena_of s a) only.state ∙ arena_of-opened v.state (opened v.limit a) only.legal.0.0 in
    record {
      held = record {
        by_itself = by_itself_still v w did.own did.makes alone;
        outside = out;
        small = subst (λ n. n ≤ 2 ^ 40) (sym did.makes.same_limit) small;
        known = ap (λ (s : State). has_arena s a) only.state ∙ has_arena-opened v.state (opened v.limit a);
        usable = λ confined. did.does.1 ∙ sym did.makes.same_caller;
        alive = ap (λ (x : Arena). x.life) is;
        size = ap (λ (x : Arena). length x.words) is ∙ length-replicate {A = ℕ} (words_within v.limit) 0 ∙ ap words_within (sym did.makes.same_limit);
      };
      none = ap (λ (x : Arena). x.given) is;
    }

-- what an arena becomes that gives bytes
abbrev gave : Caller → ℕ → Arena → Arena
gave c count x = left c (given_up_to count (entered c x))

allocated_state : (v w : View) (a : ArenaId) (size place : ℕ) → IsHeld v a → DidAllocate v w a size 8 (Ok place)
    → w.state ≡ changed v.state a (gave v.caller (place + size))
allocated_state v w a size place h did =
    let c = v.caller in
    let only = did_only v w did.own (visit v.caller a ((Allocate a size 8, Given place) ∷ [])) h.by_itself did.makes did.does.2 in
    only.state
    ∙ ap (λ (s : State). changed s a (left c)) (changed_twice v.state a (entered c) (given_up_to (place + size)) (λ x. refl))
    ∙ changed_twice v.state a (λ x. given_up_to (place + size) (entered c x)) (left c) (λ x. refl)

-- the arena gave bytes
pub allocated_held : (v w : View) (a : ArenaId) (size place : ℕ) → IsHeld v a → w.inside ≡ None → DidAllocate v w a size 8 (Ok place)
    → (place ≡ rounded_up (given_in v a) 8) × HoldsThen w a (place + size) (words_at v a)
allocated_held v w a size place h out did =
    let only = did_only v w did.own (visit v.caller a ((Allocate a size 8, Given place) ∷ [])) h.by_itself did.makes did.does.2 in
    let there : arena_of (changed v.state a (entered v.caller)) a ≡ entered v.caller (arena_of v.state a) =
    lookup_changed v.state a (entered v.caller) (λ x. refl) h.known in
    let given = given_is v.limit (arena_of (changed v.state a (entered v.caller)) a).given size 8 place only.legal.2.1 in
    let state = allocated_state v w a size place h did in (
      given.rounded ∙ ap (λ (x : Arena). rounded_up x.given 8) there,
      held_changed v w did.own a (place + size) (words_at v a) (gave v.caller (place + size)) (λ x. refl) h did.makes out state refl refl refl refl,
    )

-- the arena, which is alive, lets the caller in
not_closed : (v w : View) (a : ArenaId) (size : ℕ) → IsHeld v a → DidAllocate v w a size 8 (Err refusal.Closed) → ⊥
not_closed v w a size h did =
    let only = did_only v w did.own (refused_visit v.caller a) h.by_itself did.makes did.does.2 in
    let reply : Closed ≡ Fine = only.legal.1 ∙ ap enter_reply h.alive in
    cc

-- and an allocation that fits has room
has_room : (v w : View) (a : ArenaId) (size given : ℕ) → IsHeld v a → rounded_up (given_in v a) 8 + size ≤ v.limit
    → DidAllocate v w a size 8 (Err (refusal.NoRoom given)) → ⊥
has_room v w a size given h room did =
    let only = did_only v w did.own (visit v.caller a ((Allocate a size 8, NoRoom given) ∷ [])) h.by_itself did.makes did.does.2 in
    let there : arena_of (changed v.state a (entered v.caller)) a ≡ entered v.caller (arena_of v.state a) =
    lookup_changed v.state a (entered v.caller) (λ x. refl) h.known in
    let reply : NoRoom given ≡ allocate_reply v.limit (given_in v a) size 8 =
    only.legal.2.1 ∙ ap (λ (x : Arena). allocate_reply v.limit x.given size 8) there in
    let fits : nat_le (rounded_up (given_in v a) 8 + size) v.limit ≡ true = le-leb (rounded_up (given_in v a) 8 + size) v.limit room in
    let gives : NoRoom given ≡ Given (rounded_up (given_in v a) 8) =
    reply ∙ ap (λ b. if b then Given (rounded_up (given_in v a) 8) else NoRoom (given_in v a)) fits in
    cc

-- an allocation that fits and is refused leaves the state
pub refusal_stays : (v w : View) (a : ArenaId) (size : ℕ) (r : Refusal) → IsHeld v a → rounded_up (given_in v a) 8 + size ≤ v.limit
    → DidAllocate v w a size 8 (Err r) → w.state ≡ v.state
unfolding ones
refusal_stays v w a size refusal.Memory h room did = (did_only v w did.own [] h.by_itself did.makes did.does.2).state
refusal_stays v w a size refusal.PoolFull h room did =
    let only = did_only v w did.own (visit v.caller a []) h.by_itself did.makes did.does.2 in
    only.state ∙ visit_stays v.limit v.caller v.state a [] (λ l. refl) only.legal
refusal_stays v w a size refusal.BadAlignment h room did = absurd (did.does.0 refl)
refusal_stays v w a size refusal.WrongThread h room did = absurd (did.does.1 h.usable)
refusal_stays v w a size refusal.Closed h room did = absurd (not_closed v w a size h did)
refusal_stays v w a size (refusal.NoRoom given) h room did = absurd (has_room v w a size given h room did)
refusal_stays v w a size r h room did = absurd did.does

-- and it is refused for want of memory, or of a page, where the type of memory may answer so
pub refusal_wants : (nature : Nature) (v w : View) (a : ArenaId) (size : ℕ) (r : Refusal) → IsHeld v a → rounded_up (given_in v a) 8 + size ≤ v.limit
    → DidAllocate v w a size 8 (Err r) → MayRefuse nature r → (r ≡ refusal.PoolFull → FoundNoneFree is_page v.told w.told) → Wants nature v w r
unfolding ones
refusal_wants nature v w a size refusal.Memory h room did may full = may
refusal_wants nature v w a size refusal.PoolFull h room did may full = (may, full refl)
refusal_wants nature v w a size refusal.BadAlignment h room did may full = absurd (did.does.0 refl)
refusal_wants nature v w a size refusal.WrongThread h room did may full = absurd (did.does.1 h.usable)
refusal_wants nature v w a size refusal.Closed h room did may full = absurd (not_closed v w a size h did)
refusal_wants nature v w a size (refusal.NoRoom given) h room did may full = absurd (has_room v w a size given h room did)
refusal_wants nature v w a size r h room did may full = absurd did.does

-- ---- bytes that are put

-- where bytes were put the arena is held, has given as many, and has as many words
pub put_still : (v w : View) (own : List Entry) (a : ArenaId) (place : ℕ) (bytes : List ℕ) → IsHeld v a → Makes v w own → w.inside ≡ None
    → ChangesBytes v w a place bytes → place + length bytes ≤ v.limit → HoldsThen w a (given_in v a) (words_at w a)
put_still v w own a place bytes h makes out ch last =
    let words = words_at w a in
    let size = h.size in
    let fits : place + length bytes ≤ 8 * length (words_at v a) = omega (arith, size, last) in
    let all : place + length bytes ≤ length (bytes_of_arena v.state a) = omega (arith, fits, length-bytes_in (words_at v a)) in
    let count : length (bytes_of_arena w.state a) ≡ length (bytes_of_arena v.state a) =
    ap length ch.changed ∙ keeps_count (bytes_of_arena v.state a) bytes place all in
    let same : length (words_at w a) ≡ length (words_at v a) = omega (arith, count, length-bytes_in (words_at w a), length-bytes_in (words_at v a)) in
    held_changed v w own a (given_in v a) words (with_words words) (λ x. refl) h makes out ch.rest refl refl refl same

-- ---- what stays elsewhere

-- a change of one arena leaves their names
pub changed_names : (f : Arena → Arena) → KeepsName f → (s : State) (a : ArenaId) → names_in (changed s a f) ≡ names_in s
changed_names f named [] a = refl
changed_names f named (x ∷ s) a =
    let P : Bool → Type 0 = λ b. names_in (if b then f x ∷ s else x ∷ changed s a f) ≡ names_in (x ∷ s) in
    let go : (b : Bool) → P b = λ b. elim b as P [
      | true ↦ ap (λ n. n ∷ names_in s) (named x)
      | false ↦ ap (λ ns. x.id ∷ ns) (changed_names f named s a)
    ] in
    go (same_id x.id a)

pub only_changed : (s t : State) (a : ArenaId) (f : Arena → Arena) → KeepsName f → t ≡ changed s a f → OnlyIn a s t
only_changed s t a f named is =
    let P : Arena → Arena → Type 0 = λ x y. x.id ≢ a → y ≡ x in
    let here : P (arena_of s a) (f (arena_of s a)) = λ n. absurd (n (arena_of-id s a)) in
    record {
      names = ap names_in is ∙ changed_names f named s a;
      arenas = λ b. ap (λ (u : State). has_arena u b) is ∙ changed_has f named s a b;
      others = λ b n. ap (λ (u : State). arena_of u b) is ∙ changed_lookup P f named (λ x m. refl) s a here b (λ e. n (sym (arena_of-id s b) ∙ e));
    }

pub only_same : (s t : State) (a : ArenaId) → t ≡ s → OnlyIn a s t
only_same s t a is = record { names = ap names_in is; arenas = λ b. ap (λ (u : State). has_arena u b) is; others = λ b n. ap (λ (u : State). arena_of u b) is }

pub allocated_only : (v w : View) (a : ArenaId) (size place : ℕ) → IsHeld v a → DidAllocate v w a size 8 (Ok place) → OnlyIn a v.state w.state
allocated_only v w a size place h did =
    only_changed v.state w.state a (gave v.caller (place + size)) (λ x. refl) (allocated_state v w a size place h did)

module _ (v w : View) (a : ArenaId) (size : ℕ) (r : Refusal) (h : IsHeld v a) (room : rounded_up (given_in v a) 8 + size ≤ v.limit) where
  -- where an allocation is refused all is as it was
  pub refused_held : w.inside ≡ None → DidAllocate v w a size 8 (Err r) → HoldsThen w a (given_in v a) (words_at v a)
  refused_held out did = held_same v w did.own a h did.makes out (refusal_stays v w a size r h room did)

  pub refused_only : DidAllocate v w a size 8 (Err r) → OnlyIn a v.state w.state
  refused_only did = only_same v.state w.state a (refusal_stays v w a size r h room did)

pub put_only : (v w : View) (a : ArenaId) (place : ℕ) (bytes : List ℕ) → ChangesBytes v w a place bytes → OnlyIn a v.state w.state
put_only v w a place bytes ch = only_changed v.state w.state a (with_words (words_at w a)) (λ x. refl) ch.rest
