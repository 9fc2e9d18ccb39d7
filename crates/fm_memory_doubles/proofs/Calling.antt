-- Each call of caller 0, which the `Mono` does and is heard.
use Rattle.std.proofs.Common.{◌≡◌, ℕ, ◌+◌, ◌%◌, ◌^◌, ◌==◌, false, List, [], ◌∷◌, ◌++◌, refl, ap, sym, ◌∙◌, subst, arith, Option, Some, None}
use Rattle.std.{specs.Prelude.{Result, Ok, Err, IsTrue}, proofs.lemmas.{Bool.Decides.{nat_tests}, List.Elements.{All-nil, All-cons}}}
use Rattle.fm_base.specs.declared.{arena_id.ArenaId.{ArenaId}, kind.Kind.{Kind}, refusal.Refusal.{Refusal}}
use Rattle.fm_base.specs.Arenas.{only_caller, State, Life, Alive, Closing, Ended, arena_of, changed}
use Rattle.fm_base.specs.{Calls.{Call, Reply, Read, Write, SwapIf, Add, Leave, Fine, Found, Entry, entry_of}, Finds.{FoundNothing, is_slot}}
use Rattle.fm_base.specs.{Machine.{enter_reply, state_by, entered, written, swapped}, Histories.{IsLegal, state_after}}
use Rattle.fm_base.specs.{Visits.{Acts, entries_of, Tries, looked, missed, hit}, View.{Did, IsSound, inside_after, but_loans}}
use Rattle.fm_base.{specs.{Does.{DoesEnter, DoesAct, DoesPatch, patched, DoesOpen, DoesAllocate, DoesClose}, Outcomes.{MayCome}}, proofs.Lookup.{swapped_miss}}
use Rattle.fm_base.specs.declared.refusal.Refusal.TheVariants as refusal
use Rattle.fm_mono.specs.Shown.{Arenas, view_of}
use Rattle.fm_memory_doubles.specs.{declared.heard.Heard.{Heard}, Heard.{entries_by, finds_by, finds_in, own_enter, inside_by}}
use Rattle.fm_memory_doubles.specs.Double.{Doubled, double_view, nature_of_double, IsInAlive, IsDouble}
use Rattle.fm_memory_doubles.proofs.{Hearing.{finds_more, Made, made_of, enter_own, open_own, allocate_own, close_own, made_outside}, Zero.{alive_changed}}
use Rattle.fm_memory_doubles.proofs.Going.{Goes, own_goes}
use Rattle.fm_memory_doubles.specs.declared.heard.Heard.TheVariants as heard

-- ---- acts

-- An act on a word, which stays inside and leaves the lives.
act_goes : (d : Doubled) (n : Arenas) (h : Heard) (hs : List Heard) (i : Option ArenaId) (id : ArenaId) (f : ArenaId → Call) (reply : Reply) → IsDouble d i
    → d.mono.inside ≡ Some id
    → entries_by h ≡ entry_of only_caller (f id) reply ∷ [] → inside_after (Some id) (entry_of only_caller (f id) reply ∷ []) ≡ Some id
    → ((s : State) (j : Option ArenaId) → IsInAlive s j → IsInAlive (state_by d.mono.limit s only_caller (f id) reply) j)
    → Did (view_of d.mono) (view_of n) (DoesAct d.mono.inside only_caller f reply) → hs ≡ d.heard ++ h ∷ []
    → Goes d n hs i (DoesAct d.mono.inside only_caller f reply)
act_goes d n h hs i id f reply b at is stays life did e =
    let own : DoesAct (Some id) only_caller f reply did.own = rw at at did.does in
    let k : Made d.mono n (entries_by h) = subst (λ (es : List Entry). Made d.mono n es) (own ∙ sym is) (made_of d.mono n did.own did.makes) in
    let inside : n.inside ≡ d.mono.inside = k.inside
    ∙ (ap (λ (j : Option ArenaId). inside_after j (entries_by h)) at ∙ (ap (λ (es : List Entry). inside_after (Some id) es) is ∙ (stays ∙ sym at))) in
    let alive : IsInAlive n.state n.inside = rw (inside, k.reached, is) (life d.mono.state d.mono.inside b.alive) in
    own_goes d n h hs (DoesAct d.mono.inside only_caller f reply) i i b k e (inside ∙ b.inside) alive (rw at is)

pub loads : {d : Doubled} {n : Arenas} {hs : List Heard} {i : Option ArenaId} {id : ArenaId} (word found : ℕ) → IsDouble d i → d.mono.inside ≡ Some id
    → Did (view_of d.mono) (view_of n) (DoesAct d.mono.inside only_caller (λ a. Read a word) (Found found)) → hs ≡ d.heard ++ heard.Load id word found ∷ []
    → Goes d n hs i (DoesAct d.mono.inside only_caller (λ a. Read a word) (Found found))
loads {d} {n} {hs} {i} {id} word found b at did e =
    act_goes d n (heard.Load id word found) hs i id (λ a. Read a word) (Found found) b at refl refl (λ s j h. h) did e

pub stores : {d : Doubled} {n : Arenas} {hs : List Heard} {i : Option ArenaId} {id : ArenaId} (word v : ℕ) → IsDouble d i → d.mono.inside ≡ Some id
    → Did (view_of d.mono) (view_of n) (DoesAct d.mono.inside only_caller (λ a. Write a word v) Fine) → hs ≡ d.heard ++ heard.Store id word v ∷ []
    → Goes d n hs i (DoesAct d.mono.inside only_caller (λ a. Write a word v) Fine)
stores {d} {n} {hs} {i} {id} word v b at did e =
    act_goes d n (heard.Store id word v) hs i id (λ a. Write a word v) Fine b at refl refl
    (λ s j h. alive_changed (written word v) (λ a. refl) (λ a. refl) s id j h) did e

pub swaps : {d : Doubled} {n : Arenas} {hs : List Heard} {i : Option ArenaId} {id : ArenaId} (word old new found : ℕ) → IsDouble d i → d.mono.inside ≡ Some id
    → Did (view_of d.mono) (view_of n) (DoesAct d.mono.inside only_caller (λ a. SwapIf a word old new) (Found found))
    → hs ≡ d.heard ++ heard.SwapIf id word old new found ∷ []
    → Goes d n hs i (DoesAct d.mono.inside only_caller (λ a. SwapIf a word old new) (Found found))
swaps {d} {n} {hs} {i} {id} word old new found b at did e =
    act_goes d n (heard.SwapIf id word old new found) hs i id (λ a. SwapIf a word old new) (Found found) b at refl refl
    (λ s j h. alive_changed (swapped word old new found) (λ a. refl) (λ a. refl) s id j h) did e

pub adds : {d : Doubled} {n : Arenas} {hs : List Heard} {i : Option ArenaId} {id : ArenaId} (word k found : ℕ) → IsDouble d i → d.mono.inside ≡ Some id
    → Did (view_of d.mono) (view_of n) (DoesAct d.mono.inside only_caller (λ a. Add a word k) (Found found)) → hs ≡ d.heard ++ heard.Add id word k found ∷ []
    → Goes d n hs i (DoesAct d.mono.inside only_caller (λ a. Add a word k) (Found found))
adds {d} {n} {hs} {i} {id} word k found b at did e =
    act_goes d n (heard.Add id word k found) hs i id (λ a. Add a word k) (Found found) b at refl refl
    (λ s j h. alive_changed (written word ((found + k) % 2 ^ 64)) (λ a. refl) (λ a. refl) s id j h) did e

pub leaves : {d : Doubled} {n : Arenas} {hs : List Heard} {i : Option ArenaId} {id : ArenaId} → IsDouble d i → d.mono.inside ≡ Some id
    → Did (view_of d.mono) (view_of n) (DoesAct d.mono.inside only_caller Leave Fine) → hs ≡ d.heard ++ heard.Leave id ∷ []
    → Goes d n hs None (DoesAct d.mono.inside only_caller Leave Fine)
leaves {d} {n} {hs} {i} {id} b at did e =
    let own : DoesAct (Some id) only_caller Leave Fine did.own = rw at at did.does in
    let k : Made d.mono n (entries_by (heard.Leave id)) = subst (λ (es : List Entry). Made d.mono n es) own (made_of d.mono n did.own did.makes) in
    own_goes d n (heard.Leave id) hs (DoesAct d.mono.inside only_caller Leave Fine) i None b k e k.inside (rw k.inside tt) (rw at refl)

-- ---- patch

-- Tries are, but for what they looked at and missed, the exchange that comes last.
hits : (limit : ℕ) (s : State) (id : ArenaId) (word : ℕ) (change : ℕ → ℕ) (found : ℕ) (acts : Acts) → Tries id word change found acts
    → IsLegal limit s (entries_of only_caller acts)
    → IsLegal limit s (entry_of only_caller (SwapIf id word found (change found)) (Found found) ∷ [])
    × (state_after limit s (entries_of only_caller acts) ≡ state_by limit s only_caller (SwapIf id word found (change found)) (Found found))
hits limit s id word change found acts (looked now rest t) l = hits limit s id word change found rest t l.2
hits limit s id word change found acts (missed now old new rest miss t) l =
    let test : (now == old) ≡ false = grind (arith, nat_tests) in
    let same : changed s id (swapped word old new now) ≡ s = swapped_miss s id word old new now test in
    let r = hits limit s id word change found rest t (subst (λ (u : State). IsLegal limit u (entries_of only_caller rest)) same l.2) in
    (r.0, ap (λ (u : State). state_after limit u (entries_of only_caller rest)) same ∙ r.1)
hits limit s id word change found acts hit l = (l, refl)

pub patches : {d : Doubled} {n : Arenas} {hs : List Heard} {i : Option ArenaId} {id : ArenaId} (word mask bits found : ℕ) → IsDouble d i
    → d.mono.inside ≡ Some id
    → Did (view_of d.mono) (view_of n) (DoesPatch d.mono.inside only_caller word mask bits found) → n.inside ≡ d.mono.inside
    → hs ≡ d.heard ++ heard.SwapIf id word found (patched mask bits found) found ∷ [] → Goes d n hs i (DoesPatch d.mono.inside only_caller word mask bits found)
patches {d} {n} {hs} {i} {id} word mask bits found b at did stays e =
    let new = patched mask bits found in
    let own : DoesPatch (Some id) only_caller word mask bits found did.own = rw at at did.does in
    let was = made_of d.mono n did.own did.makes in
    let r = hits d.mono.limit d.mono.state id word (patched mask bits) found own.0 own.1
    (subst (λ (es : List Entry). IsLegal d.mono.limit d.mono.state es) own.2 was.legal) in
    let k : Made d.mono n (entries_by (heard.SwapIf id word found new found)) = record {
      legal = r.0;
      reached = was.reached ∙ (ap (λ (es : List Entry). state_after d.mono.limit d.mono.state es) own.2 ∙ r.1);
      mine =
          All-cons (λ (x : Entry). x.caller ≡ only_caller) (entry_of only_caller (SwapIf id word found new) (Found found)) [] refl
          (All-nil (λ (x : Entry). x.caller ≡ only_caller));
      inside = stays;
      limit = was.limit;
    } in
    let alive : IsInAlive n.state n.inside = rw (stays, k.reached)
    (alive_changed (swapped word found new found) (λ a. refl) (λ a. refl) d.mono.state id d.mono.inside b.alive) in
    own_goes d n (heard.SwapIf id word found new found) hs (DoesPatch d.mono.inside only_caller word mask bits found) i i b k e (stays ∙ b.inside) alive
    (rw at ((SwapIf id word found new, Found found) ∷ [], hit, refl))

-- ---- calls from outside

life_of_fine : (l : Life) → Fine ≡ enter_reply l → l ≡ Alive
life_of_fine Alive e = refl
life_of_fine Closing e = absurd (let never : ⊥ = cc in never)
life_of_fine Ended e = absurd (let never : ⊥ = cc in never)

-- An `enter` comes into an arena that is alive.
alive_entered : (m n : Arenas) (id : ArenaId) (r : Result (Unit {0}) Refusal) → m.inside ≡ None → Made m n (own_enter id r)
    → (n.inside ≡ inside_by id r) × IsInAlive n.state n.inside
alive_entered m n id (Ok u) out k =
    let h : IsInAlive m.state (Some id) = (k.legal.0.0, life_of_fine (arena_of m.state id).life k.legal.1) in
    (k.inside, rw (k.inside, k.reached) (alive_changed (entered only_caller) (λ a. refl) (λ a. refl) m.state id (Some id) h))
alive_entered m n id (Err refusal.Closed) out k = let i = k.inside ∙ out in (i, rw i tt)
alive_entered m n id (Err r) out k = let i = k.inside ∙ out in (i, rw i tt)

pub enters : {d : Doubled} {n : Arenas} {hs : List Heard} {i : Option ArenaId} (id : ArenaId) (r : Result (Unit {0}) Refusal) → IsDouble d i
    → d.mono.inside ≡ None
    → Did (view_of d.mono) (view_of n) (DoesEnter only_caller id r) → hs ≡ d.heard ++ heard.Enter id r ∷ []
    → Goes d n hs (inside_by id r) (DoesEnter only_caller id r)
enters {d} {n} {hs} {i} id r b out did e =
    let is = enter_own id r did.own did.does in
    let k : Made d.mono n (own_enter id r) = subst (λ (es : List Entry). Made d.mono n es) is (made_of d.mono n did.own did.makes) in
    let a = alive_entered d.mono n id r out k in
    own_goes d n (heard.Enter id r) hs (DoesEnter only_caller id r) i (inside_by id r) b k e a.0 a.1
    (subst (λ (es : List Entry). DoesEnter only_caller id r es) is did.does)

-- A call that starts and ends outside.
outside_goes : (d : Doubled) (n : Arenas) (h : Heard) (hs : List Heard) (i : Option ArenaId) (Q : List Entry → Type 0) → IsDouble d i → d.mono.inside ≡ None
    → ((es : List Entry) → Q es → es ≡ entries_by h)
    → Did (view_of d.mono) (view_of n) (λ es. Q (but_loans es)) → n.inside ≡ None → hs ≡ d.heard ++ h ∷ [] → Goes d n hs i (λ es. Q (but_loans es))
outside_goes d n h hs i Q b was own did out e =
    let k = made_outside d.mono n Q (entries_by h) own did in
    own_goes d n h hs (λ es. Q (but_loans es)) i i b k.made e (out ∙ (sym was ∙ b.inside)) (rw out tt) k.does

pub opens : {d : Doubled} {n : Arenas} {hs : List Heard} {i : Option ArenaId} (kind : Kind) (r : Result ArenaId Refusal) → IsDouble d i → d.mono.inside ≡ None
    → Did (view_of d.mono) (view_of n) (λ own. DoesOpen only_caller kind r (but_loans own)) → n.inside ≡ None → hs ≡ d.heard ++ heard.Open r ∷ []
    → Goes d n hs i (λ own. DoesOpen only_caller kind r (but_loans own))
opens {d} {n} {hs} {i} kind r b was did out e = outside_goes d n (heard.Open r) hs i (DoesOpen only_caller kind r) b was (open_own kind r) did out e

pub allocates : {d : Doubled} {n : Arenas} {hs : List Heard} {i : Option ArenaId} (id : ArenaId) (size align : ℕ) (r : Result ℕ Refusal) → IsDouble d i
    → d.mono.inside ≡ None
    → Did (view_of d.mono) (view_of n) (λ own. DoesAllocate only_caller id size align r (but_loans own)) → n.inside ≡ None
    → hs ≡ d.heard ++ heard.Allocate id size align r ∷ []
    → Goes d n hs i (λ own. DoesAllocate only_caller id size align r (but_loans own))
allocates {d} {n} {hs} {i} id size align r b was did out e =
    outside_goes d n (heard.Allocate id size align r) hs i (DoesAllocate only_caller id size align r) b was (allocate_own id size align r) did out e

pub closes : {d : Doubled} {n : Arenas} {hs : List Heard} {i : Option ArenaId} (id : ArenaId) (r : Result (Unit {0}) Refusal) → IsDouble d i
    → d.mono.inside ≡ None
    → Did (view_of d.mono) (view_of n) (λ own. DoesClose only_caller id r (but_loans own)) → n.inside ≡ None
    → hs ≡ d.heard ++ heard.Close only_caller id r ∷ [] → Goes d n hs i (λ own. DoesClose only_caller id r (but_loans own))
closes {d} {n} {hs} {i} id r b was did out e =
    outside_goes d n (heard.Close only_caller id r) hs i (DoesClose only_caller id r) b was (close_own id r) did out e

-- Where no slot was found, it is told so.
pub found_none : (old : List Heard) {hs : List Heard} {r : Result ArenaId Refusal} → hs ≡ old ++ heard.Open r ∷ [] → r ≡ Err refusal.NoSlot
    → FoundNothing is_slot (finds_in 0 old) (finds_in 0 hs)
found_none old {hs} {r} e is =
    let finds = finds_more 0 old (heard.Open (Err refusal.NoSlot)) in
    record {
      more = finds_by finds.0 (heard.Open (Err refusal.NoSlot));
      grown = ap (finds_in 0) (e ∙ ap (λ (x : Result ArenaId Refusal). old ++ heard.Open x ∷ []) is) ∙ finds.1;
      find = _;
      among = (0, omega arith, refl);
      step = refl;
      nothing = refl;
    }

-- A pool that is full is never the answer.
pub never_full : {P : Type 0} {r : Result ℕ Refusal} → MayCome nature_of_double r → r ≡ Err refusal.PoolFull → P
never_full {P} {r} comes e =
    let no : IsTrue false = subst (λ (x : Result ℕ Refusal). MayCome nature_of_double x) e comes in absurd (let never : ⊥ = cc in never)

-- What is told is sound.
pub sound_of : {d : Doubled} {i : Option ArenaId} → IsDouble d i → IsSound (double_view d)
sound_of b = record { limit = b.small; told = (b.legal, b.state, refl) }
