-- What another caller does between the calls of caller 0.
use Rattle.std.proofs.Common.{inl, ◌≡◌, ℕ, ◌+◌, ◌%◌, ◌^◌, ◌≤◌, true, false, cond, List, [], ◌∷◌, ◌++◌, refl, ap, sym, ◌∙◌, subst, arith, Option, Some, None, All, not}
use Rattle.std.{specs.Prelude.{filter, slice_index, Result, Ok, Err}, proofs.lemmas.List.Elements.{All-nil, All-head, All-tail, All-contains}}
use Rattle.fm_base.specs.declared.{caller.Caller.{Caller}, arena_id.ArenaId.{ArenaId}, kind.Kind.TheVariants.{Confined}, refusal.Refusal.{Refusal}}
use Rattle.fm_base.specs.{Arenas.{are_one, only_caller, State, Arena, has_arena, arena_of, changed, IsUnderWay, MayUse}, Calls.{Call, Reply, Add, Found, Entry}}
use Rattle.fm_base.specs.{Machine.{IsUnderWayNowhere, enter_reply, entered, left, written}, Histories.{IsLegal, state_after, made_by}, Visits.{visit}}
use Rattle.fm_base.specs.{View.{View, Makes, Did, but_loans}, Does.{DoesEnter, DoesAct, DoesPatch, DoesClose, DidEnter, DidAct, DidPatch}}
use Rattle.fm_base.proofs.{Making.{Makes-then}, Lookup.{lookup_changed, changed_has, changed_twice, changed_alike}, Alone.{only_act}}
use Rattle.fm_base.specs.declared.refusal.Refusal.TheVariants as refusal
use Rattle.fm_mono.specs.Shown.{Arenas, view_of}
use Rattle.fm_memory_doubles.specs.{declared.{heard.Heard.{Heard}, others.Others.{Others}}, Heard.{close_by}}
use Rattle.fm_memory_doubles.specs.Double.{another, gathered_one, Doubled, doubled, IsOnlyZero, IsInAlive, IsDouble}
use Rattle.fm_memory_doubles.proofs.{Hearing.{Made, made_of, made_outside, close_own}, Going.{Went, Goes, goes_on, calm_by}, Zero.{alive_changed}}
use Rattle.fm_memory_doubles.specs.declared.heard.Heard.TheVariants as heard
use Rattle.fm_memory_doubles.specs.declared.others.Others.TheVariants as others

-- ---- a visit

-- Caller 1 is under way nowhere.
nowhere : (s : State) → IsOnlyZero s → IsUnderWayNowhere s another
nowhere s z id w =
    let is : another ≡ only_caller = All-contains (λ c. c ≡ only_caller) (arena_of s id).under_way another (z id) w in
    let e : another.number ≡ only_caller.number = ap (λ (c : Caller). c.number) is in
    absurd (omega (arith, e))

gone : (xs : List Caller) → All (λ c. c ≡ only_caller) xs → filter (λ x. not (are_one x another)) xs ≡ xs
gone [] h = refl
gone (x ∷ xs) h =
    let e : x ≡ only_caller = All-head (λ c. c ≡ only_caller) x xs h in
    let t : (are_one x another) ≡ false = rw e refl in
    let r = gone xs (All-tail (λ c. c ≡ only_caller) x xs h) in
    ap (λ b. cond (not b) (x ∷ filter (λ y. not (are_one y another)) xs) (filter (λ y. not (are_one y another)) xs)) t ∙ ap (λ (ys : List Caller). x ∷ ys) r

around : (word v : ℕ) (a : Arena) → All (λ c. c ≡ only_caller) a.under_way → left another (written word v (entered another a)) ≡ written word v a
around word v a z = ap (λ (w : List Caller). record (written word v a) { under_way = w }) (gone a.under_way z)

-- Caller 1 came in, added to a word, and went out.
pub visits : {d : Doubled} {n : Arenas} {hs : List Heard} {i : Option ArenaId} {script step : ℕ} {id : ArenaId} (word found : ℕ)
    → d.others ≡ others.Add script step → IsDouble d i → d.mono.inside ≡ Some id → ¬ (id.kind ≡ Confined)
    → Did (view_of d.mono) (view_of n) (DoesAct d.mono.inside only_caller (λ a. Add a word step) (Found found))
    → hs ≡ d.heard ++ heard.Visit another id word step found ∷ []
    → Goes d n hs i (λ own. own ≡ [])
visits {d} {n} {hs} {i} {script} {step} {id} word found who b at kind did e =
    let m = d.mono in
    let s = m.state in
    let o = only_act (view_of m) (view_of n) id (λ a. Add a word step) (Found found) (inl refl) at did in
    let own : DoesAct (Some id) only_caller (λ a. Add a word step) (Found found) did.own = rw at at did.does in
    let k = subst (λ (es : List Entry). Made m n es) own (made_of m n did.own did.makes) in
    let h : IsInAlive s (Some id) = rw at at b.alive in
    let v = (found + step) % 2 ^ 64 in
    let s1 = changed s id (entered another) in
    let f = written word v in
    let s2 = changed s1 id f in
    let look1 : arena_of s1 id ≡ entered another (arena_of s id) = lookup_changed s id (entered another) (λ a. refl) h.0 in
    let has1 : has_arena s1 id ≡ true = changed_has (entered another) (λ a. refl) s id id ∙ h.0 in
    let look2 : arena_of s2 id ≡ f (arena_of s1 id) = lookup_changed s1 id f (λ a. refl) has1 in
    let way1 : IsUnderWay s1 another id = rw look1 (0, omega arith, refl) in
    let way2 : IsUnderWay s2 another id = rw (look2, look1) (0, omega arith, refl) in
    let may : MayUse id another = λ c. absurd (kind c) in
    let all = visit another id ((Add id word step, Found found) ∷ []) in
    let joined : changed s id f ≡ changed s2 id (left another) =
    sym (changed_alike s id (λ x. left another (f (entered another x))) f (around word v (arena_of s id) (b.only_zero id)))
    ∙ (sym (changed_twice s id (entered another) (λ x. left another (f x)) (λ a. refl)) ∙ sym (changed_twice s1 id f (left another) (λ a. refl))) in
    let legal : IsLegal m.limit s all = (
      (h.0, may, nowhere s b.only_zero),
      sym (ap enter_reply h.1),
      (
        record { under_way = way1; within = rw look1 o.legal.within },
        o.reply_is ∙ ap (λ (a : Arena). Found (slice_index a.words word)) (sym look1),
        (way2, refl, tt),
      ),
    ) in
    let stays : n.inside ≡ m.inside = k.inside in
    let alive : IsInAlive n.state n.inside = rw (stays, o.state) (alive_changed f (λ a. refl) (λ a. refl) s id m.inside b.alive) in
    let w : Went d n all [] = record {
      legal = legal;
      reached = o.state ∙ joined;
      mine = refl;
      inside = stays;
      limit = k.limit;
      whole = rw who (λ no. absurd (let never : ⊥ = cc in never));
      quiet = refl;
    } in
    goes_on d n (heard.Visit another id word step found) hs [] w e (λ own. own ≡ []) i i b (calm_by m n _ i b.only_zero k (stays ∙ b.inside) alive) refl

-- ---- a close

-- The entries of a close are legal for caller 1 too, where the arena is for all.
close_too : (limit : ℕ) (s : State) (id : ArenaId) (r : Result (Unit {0}) Refusal) → ¬ (id.kind ≡ Confined) → IsLegal limit s (close_by only_caller id r)
    → IsLegal limit s (close_by another id r) × (state_after limit s (close_by only_caller id r) ≡ state_after limit s (close_by another id r))
close_too limit s id (Ok u) k l = (((l.0.0, (λ c. absurd (k c)), l.0.2), l.1, l.2), refl)
close_too limit s id (Err refusal.Closed) k l = (((l.0.0, (λ c. absurd (k c)), l.0.2), l.1, tt), refl)
close_too limit s id (Err (refusal.Held holds)) k l = (((l.0.0, (λ c. absurd (k c)), l.0.2), l.1, tt), refl)
close_too limit s id (Err r) k l = (tt, refl)

-- None of them is caller 0's, or the gathered caller's.
close_apart : (id : ArenaId) (r : Result (Unit {0}) Refusal)
    → (made_by only_caller (close_by another id r) ≡ []) × (made_by gathered_one (close_by another id r) ≡ [])
close_apart id (Ok u) = (refl, refl)
close_apart id (Err refusal.Closed) = (refl, refl)
close_apart id (Err (refusal.Held holds)) = (refl, refl)
close_apart id (Err r) = (refl, refl)

-- Caller 1 closed the arena, or was refused.
pub shuts : {d : Doubled} {n : Arenas} {hs : List Heard} {i : Option ArenaId} {left : ℕ} (id : ArenaId) (r : Result (Unit {0}) Refusal)
    → d.others ≡ others.Close left → IsDouble d i → d.mono.inside ≡ None → ¬ (id.kind ≡ Confined)
    → Did (view_of d.mono) (view_of n) (λ own. DoesClose only_caller id r (but_loans own)) → n.inside ≡ None → hs ≡ d.heard ++ heard.Close another id r ∷ []
    → Goes d n hs i (λ own. own ≡ [])
shuts {d} {n} {hs} {i} {left} id r who b was kind did out e =
    let k = (made_outside d.mono n (DoesClose only_caller id r) (close_by only_caller id r) (close_own id r) did).made in
    let too = close_too d.mono.limit d.mono.state id r kind k.legal in
    let none = close_apart id r in
    let w : Went d n (close_by another id r) [] = record {
      legal = too.0;
      reached = k.reached ∙ too.1;
      mine = none.0;
      inside = out ∙ sym was;
      limit = k.limit;
      whole = rw who (λ no. absurd (let never : ⊥ = cc in never));
      quiet = none.1;
    } in
    goes_on d n (heard.Close another id r) hs [] w e (λ own. own ≡ []) i i b
    (calm_by d.mono n _ i b.only_zero k (out ∙ (sym was ∙ b.inside)) (rw out tt)) refl

-- What made no entry of caller 0.
pub nothing_own : {x y : View} → Did x y (λ own. own ≡ []) → Makes x y []
nothing_own {x} {y} d = subst (λ (es : List Entry). Makes x y es) d.does d.makes

-- ---- the calls after it

-- What was done after another caller's entries.
did_after : {x y z : View} (Q : Option ArenaId → Caller → List Entry → Type 0) → Makes x y [] → Did y z (Q y.inside y.caller) → Did x z (Q x.inside x.caller)
did_after {x} {y} {z} Q k d = record {
  own = d.own;
  does = subst (λ (c : Caller). Q x.inside c d.own) k.same_caller (subst (λ (i : Option ArenaId). Q i y.caller d.own) k.inside d.does);
  makes = Makes-then x y z [] d.own k d.makes;
}

pub act_after : {x y z : View} (call : ArenaId → Call) (reply : Reply) → Makes x y [] → DidAct y z call reply → DidAct x z call reply
act_after {x} {y} {z} call reply k d = did_after (λ i c. DoesAct i c call reply) k d

pub patch_after : {x y z : View} (word mask bits found : ℕ) → Makes x y [] → DidPatch y z word mask bits found → DidPatch x z word mask bits found
patch_after {x} {y} {z} word mask bits found k d = did_after (λ i c. DoesPatch i c word mask bits found) k d

pub enter_after : {x y z : View} (id : ArenaId) (result : Result (Unit {0}) Refusal) → Makes x y [] → DidEnter y z id result → DidEnter x z id result
enter_after {x} {y} {z} id result k d = did_after (λ i c. DoesEnter c id result) k d

-- ---- the start

-- No arenas yet.
pub starts : {m : Arenas} {o : Others} {hs : List Heard} → m.inside ≡ None → m.state ≡ [] → m.limit ≤ 2 ^ 40 → hs ≡ [] → IsDouble (doubled m o hs) None
starts {m} {o} {hs} out empty small e = record {
  small = small;
  legal = rw e tt;
  state = rw e empty;
  inside = out;
  only_zero = rw empty (λ id. All-nil (λ c. c ≡ only_caller));
  alive = rw out tt;
}
