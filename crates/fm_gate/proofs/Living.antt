-- An arena that a pass holds is alive at each step of its calls.
use Rattle.std.proofs.Common.{◌≡◌, ◌≢◌, ℕ, suc, Bool, true, false, if◌then◌else◌, List, [], ◌∷◌, ◌++◌, sym, refl, ap, ◌∙◌, subst, arith, All}
use Rattle.std.proofs.lemmas.List.Elements.{All-nil, All-cons}
use Rattle.fm_base.specs.{declared.{caller.Caller.{Caller}, arena_id.ArenaId.{ArenaId}}, Arenas.{Alive, Arena, State, has_arena, arena_of, are_one}}
use Rattle.fm_base.specs.Calls.{Call, Enter, Write, SwapIf, Add, Allocate, Leave, Hold, Unhold, Shut, End, Reply, Fine, Closed, Found, Given, Entry, entry_of}
use Rattle.fm_base.specs.Machine.{MayCall, reply_to, enter_reply, Change, Opens, Alters, Rests, made, change_of, after}
use Rattle.fm_base.{specs.{Histories.{IsLegal, state_after, made_by}, Finds.{Rest}}, proofs.{Lookup.{changed_lookup, arena_of-append}, Growing.{Grows-after}}}
use Rattle.fm_base.proofs.Making.{IsLegal-split, state_after-append}
use Rattle.fm_rule_facts.specs.Views.{View, In, IsAlive, grips, is_automatic, limit_of}
use Rattle.fm_rule_calls.specs.Kept.{Goes, rest_of}

-- ---- one entry

LivedBefore : Arena → Arena → Type 0
LivedBefore a b = b.life ≡ Alive → a.life ≡ Alive

Wakes : State → Change → Type 0
Wakes s (Opens o) = Unit {0}
Wakes s (Alters id f named) = LivedBefore (arena_of s id) (f (arena_of s id))
Wakes s Rests = Unit {0}

-- No call makes an arena alive that is there.
wakes_none : (limit : ℕ) (s : State) (c : Caller) (call : Call) (reply : Reply) → Wakes s (change_of limit c call reply)
unfolding LivedBefore Wakes
wakes_none limit s c (Enter id) Fine = λ e. e
wakes_none limit s c (Write id word value) reply = λ e. e
wakes_none limit s c (SwapIf id word old new) (Found found) = λ e. e
wakes_none limit s c (Add id word n) (Found found) = λ e. e
wakes_none limit s c (Allocate id size align) (Given place) = λ e. e
wakes_none limit s c (Leave id) reply = λ e. e
wakes_none limit s c (Hold id) Fine = λ e. e
wakes_none limit s c (Unhold id) reply = λ e. e
wakes_none limit s c (Shut id) Fine = λ e. absurd (cc)
wakes_none limit s c (End id) reply = λ e. absurd (cc)
wakes_none limit s c call reply = tt

lived_before : (s : State) (h : Change) → Wakes s h → (id : ArenaId) → has_arena s id ≡ true → (arena_of (made h s) id).life ≡ Alive
    → (arena_of s id).life ≡ Alive
unfolding LivedBefore Wakes
lived_before s (Opens o) t id there e = rw (arena_of-append s (o ∷ []) id there) at e
lived_before s (Alters a f named) t id there e = changed_lookup LivedBefore f named (λ x l. l) s a t id e
lived_before s Rests t id there e = e

-- ---- a history

-- What is alive behind legal entries was alive before them.
alive_before : (limit : ℕ) (s : State) (es : List Entry) (id : ArenaId) → IsLegal limit s es → has_arena s id ≡ true
    → (arena_of (state_after limit s es) id).life ≡ Alive → (arena_of s id).life ≡ Alive
alive_before limit s [] id l there e = e
alive_before limit s (x ∷ xs) id l there e =
    let g = Grows-after limit s x l.0 l.1 in
    lived_before s (change_of limit x.caller x.call x.reply) (wakes_none limit s x.caller x.call x.reply) id there
    (alive_before limit (after limit s x) xs id l.2 (g.has id there) e)

NotShutOut : ArenaId → Entry → Type 0
NotShutOut id e = e.call ≡ Enter id → e.reply ≢ Closed

-- So nobody was shut out of it.
open_to_all : (limit : ℕ) (s : State) (es : List Entry) (id : ArenaId) → IsLegal limit s es → (arena_of (state_after limit s es) id).life ≡ Alive
    → All (NotShutOut id) es
unfolding NotShutOut
open_to_all limit s [] id l alive = All-nil (NotShutOut id)
open_to_all limit s (e ∷ es) id l alive =
    let first : e.call ≡ Enter id → e.reply ≢ Closed = λ is shut.
    let may : MayCall s e.caller (Enter id) = subst (λ (c : Call). MayCall s e.caller c) is l.0 in
    let life = alive_before limit s (e ∷ es) id l may.0 alive in
    let fine : e.reply ≡ Fine = l.1 ∙ (ap (λ (c : Call). reply_to limit s c) is ∙ ap enter_reply life) in
    absurd (cc) in
    All-cons (NotShutOut id) e es first (open_to_all limit (after limit s e) es id l.2 alive)

-- Some of the entries, those of one caller.
some_of_all : (P : Entry → Type 0) (c : Caller) (es : List Entry) → All P es → All P (made_by c es)
some_of_all P c [] all = All-nil P
some_of_all P c (e ∷ es) all = go (are_one e.caller c) (some_of_all P c es (λ k d l. all (suc k) d (omega (arith, l))))
  where
    go : (b : Bool) → All P (made_by c es) → All P (if b then e ∷ made_by c es else made_by c es)
    go true rest = All-cons P e (made_by c es) (all 0 e (omega arith)) rest
    go false rest = rest

-- Nor was the caller of these.
pub none_shut_out : (limit : ℕ) (s : State) (c : Caller) (all own : List Entry) (id : ArenaId) → IsLegal limit s all
    → (arena_of (state_after limit s all) id).life ≡ Alive → made_by c all ≡ own → All (λ e. e.call ≡ Enter id → e.reply ≢ Closed) own
unfolding NotShutOut
none_shut_out limit s c all own id l alive mine =
    subst (λ (es : List Entry). All (NotShutOut id) es) mine (some_of_all (NotShutOut id) c all (open_to_all limit s all id l alive))

-- ---- a pass

-- No entry of a pass's own tells that an arena was shut which it has a hold or a handle of.
pub never_closed : {p q : View} {own : List Entry} (id : ArenaId) → Goes p q own → In id (grips id q)
    → All (λ e. e.call ≡ Enter id → e.reply ≢ Closed) own
never_closed {p = p} {q = q} {own = own} id g held =
    let alive : IsAlive q id = g.sound.held id held in
    let limit = limit_of q.shape in
    let legal : IsLegal limit [] (p.seen ++ g.more) = subst (λ (es : List Entry). IsLegal limit [] es) g.seen g.sound.legal in
    let parts = IsLegal-split limit [] p.seen g.more legal in
    let s : State = state_after limit [] p.seen in
    let life : (arena_of (state_after limit s g.more) id).life ≡ Alive =
    ap (λ (t : State). (arena_of t id).life) (sym (ap (λ (es : List Entry). state_after limit [] es) g.seen ∙ state_after-append limit [] p.seen g.more))
    ∙ alive.1 in
    none_shut_out limit s p.caller g.more own id parts.1 life g.by_pass

-- The holds or handles of an arena are among what a pass has.
pub grips_are : (p q : View) (id : ArenaId) → q.holds ≡ p.holds → q.handles ≡ p.handles → grips id q ≡ grips id p
grips_are p q id holds handles = λ j. if is_automatic id.kind then handles j else holds j

-- So a refused visit is none to an arena that the pass held before it.
pub not_held : {p q : View} (c : Caller) (id : ArenaId) → Goes p q (entry_of c (Enter id) Closed ∷ []) → rest_of q ≡ rest_of p → ¬ (In id (grips id p))
not_held {p = p} {q = q} c id g rest held =
    let same = grips_are p q id (ap (λ (r : Rest). r.holds) rest) (ap (λ (r : Rest). r.handles) rest) in
    never_closed id g (subst (λ (xs : List ArenaId). In id xs) (sym same) held) 0 (entry_of c (Enter id) Closed) (omega arith) refl refl
