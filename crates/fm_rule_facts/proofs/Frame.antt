-- What entries of one caller leave, whatever they are.
use Rattle.std.proofs.Common.{◌≡◌, ◌≢◌, ℕ, ◌+◌, ◌==◌, Bool, true, false, if◌then◌else◌, List, [], ◌∷◌, ◌++◌, refl, ap, sym, ◌∙◌, subst, append_assoc, Some, None, ◌-◌, ◌%◌, ◌^◌}
use Rattle.std.proofs.lemmas.List.{append-nil}
use Rattle.fm_base.specs.declared.{caller.Caller.{Caller}, arena_id.ArenaId.{ArenaId}}
use Rattle.fm_base.specs.Calls.{Call, Open, Enter, Read, Write, SwapIf, Add, Allocate, Leave, Hold, Unhold, Shut, End, Lend, Back, Reply, Fine, Closed, Found, Given, Entry}
use Rattle.fm_base.{specs.Histories.{IsLegal, state_after, made_by}, proofs.Names.{are_one-not}}
use Rattle.fm_base_machine.specs.Functions.{Fresh, Lives, Closes, Over, Machine, Depicts, moved, MayBy, reply_by, enter_stage, shut_stage, put, put_at, put_by}
use Rattle.fm_base.proofs.Names.{are_one-equal}
use Rattle.fm_base_machine.{specs.Steps.{moved_by}, proofs.{Putting.{by_else, by_cases, at_cases}, GoingOn.{goes_on}}}
use Rattle.fm_rule_facts.specs.Moves.{MayMake, Ends, NoEnd}

-- what a swap does to words doesn't matter to P
either_swap : (P : Machine → Type 0) (t u : Machine) (b : Bool) → P u → P t → P (if b then u else t)
either_swap P t u true p q = p
either_swap P t u false p q = q

-- ---- one call

-- what a call leaves, by what it changes
module _ (t : Machine) (c : Caller) (P : Call → Reply → Machine → Type 0) where
  moved_cases : ((call : Call) (reply : Reply) → P call reply t)
      → ((call : Call) (reply : Reply) (f : ArenaId → ℕ → ℕ) → P call reply (record t { word = f }))
      → ((call : Call) (reply : Reply) (f : ArenaId → ℕ) → P call reply (record t { holds = f }))
      → ((id : ArenaId) (reply : Reply) → P (Open id) reply (record t { life = put_at t.life id Lives }))
      → ((id : ArenaId) → P (Enter id) Fine (record t { inside = put_by t.inside c (Some id) }))
      → ((id : ArenaId) (size align place : ℕ) → P (Allocate id size align) (Given place) (record t { given = put_at t.given id (place + size) }))
      → ((id : ArenaId) (reply : Reply) → P (Leave id) reply (record t { inside = put_by t.inside c None }))
      → ((id : ArenaId) → P (Shut id) Fine (record t { life = put_at t.life id Closes }))
      → ((id : ArenaId) (reply : Reply) → P (End id) reply (record t { life = put_at t.life id Over })) → (call : Call) (reply : Reply)
      → P call reply (moved t c call reply)
  moved_cases still word holds opens enters gives leaves shuts ends (Open id) reply = opens id reply
  moved_cases still word holds opens enters gives leaves shuts ends (Enter id) Fine = enters id
  moved_cases still word holds opens enters gives leaves shuts ends (Enter id) reply = still (Enter id) reply
  moved_cases still word holds opens enters gives leaves shuts ends (Read id w) reply = still (Read id w) reply
  moved_cases still word holds opens enters gives leaves shuts ends (Write id w x) reply = word (Write id w x) reply (put_at t.word id (put (t.word id) w x))
  moved_cases still word holds opens enters gives leaves shuts ends (SwapIf id w old new) (Found found) =
      either_swap (P (SwapIf id w old new) (Found found)) t (record t { word = put_at t.word id (put (t.word id) w new) }) (found == old)
      (word (SwapIf id w old new) (Found found) (put_at t.word id (put (t.word id) w new))) (still (SwapIf id w old new) (Found found))
  moved_cases still word holds opens enters gives leaves shuts ends (SwapIf id w old new) reply = still (SwapIf id w old new) reply
  moved_cases still word holds opens enters gives leaves shuts ends (Add id w n) (Found found) =
      word (Add id w n) (Found found) (put_at t.word id (put (t.word id) w ((found + n) % 2 ^ 64)))
  moved_cases still word holds opens enters gives leaves shuts ends (Add id w n) reply = still (Add id w n) reply
  moved_cases still word holds opens enters gives leaves shuts ends (Allocate id size align) (Given place) = gives id size align place
  moved_cases still word holds opens enters gives leaves shuts ends (Allocate id size align) reply = still (Allocate id size align) reply
  moved_cases still word holds opens enters gives leaves shuts ends (Leave id) reply = leaves id reply
  moved_cases still word holds opens enters gives leaves shuts ends (Hold id) Fine = holds (Hold id) Fine (put_at t.holds id (t.holds id + 1))
  moved_cases still word holds opens enters gives leaves shuts ends (Hold id) reply = still (Hold id) reply
  moved_cases still word holds opens enters gives leaves shuts ends (Unhold id) reply = holds (Unhold id) reply (put_at t.holds id (t.holds id - 1))
  moved_cases still word holds opens enters gives leaves shuts ends (Shut id) Fine = shuts id
  moved_cases still word holds opens enters gives leaves shuts ends (Shut id) reply = still (Shut id) reply
  moved_cases still word holds opens enters gives leaves shuts ends (End id) reply = ends id reply
  moved_cases still word holds opens enters gives leaves shuts ends (Lend block id part) reply = still (Lend block id part) reply
  moved_cases still word holds opens enters gives leaves shuts ends (Back block) reply = still (Back block) reply

-- another caller stays where it is
other_stays : (t : Machine) (c k : Caller) (call : Call) (reply : Reply) → k ≢ c → (moved t c call reply).inside k ≡ t.inside k
other_stays t c k call reply n = moved_cases t c (λ call reply u. u.inside k ≡ t.inside k) (λ x y. refl) (λ x y f. refl) (λ x y f. refl) (λ id y. refl)
    (λ id. by_else t.inside c (Some id) k n) (λ id s a p. refl) (λ id y. by_else t.inside c None k n) (λ id. refl) (λ id y. refl) call reply

-- nobody comes into an arena that isn't alive
none_comes : (limit : ℕ) (t : Machine) (c k : Caller) (b : ArenaId) (call : Call) (reply : Reply) → reply ≡ reply_by limit t call
    → enter_stage (t.life b) ≡ Closed → t.inside k ≢ Some b → (moved t c call reply).inside k ≢ Some b
none_comes limit t c k b call reply e l n = moved_cases t c (λ call reply u. reply ≡ reply_by limit t call → u.inside k ≢ Some b)
    (λ x y e. n) (λ x y f e. n) (λ x y f e. n) (λ id y e. n)
    (λ id e. by_cases t.inside c (Some id) k (λ x. x ≢ Some b)
    (λ h s. let i : id ≡ b = cc in let f : Fine ≡ Closed = e ∙ (ap (λ a. enter_stage (t.life a)) i ∙ l) in absurd (cc))
    (λ h. n))
    (λ id s a p e. n)
    (λ id y e. by_cases t.inside c None k (λ x. x ≢ Some b) (λ h s. absurd (cc)) (λ h. n))
    (λ id e. n) (λ id y e. n) call reply e

-- an arena that is closing stays so, but for its end
closing_stays : (limit : ℕ) (t : Machine) (c : Caller) (b : ArenaId) (call : Call) (reply : Reply) → MayBy limit t c call → t.life b ≡ Closes → ¬ (Ends call b)
    → (moved t c call reply).life b ≡ Closes
closing_stays limit t c b call reply m l n = moved_cases t c (λ call reply u. MayBy limit t c call → ¬ (Ends call b) → u.life b ≡ Closes)
    (λ x y m n. l) (λ x y f m n. l) (λ x y f m n. l)
    (λ id y m n. at_cases t.life id Lives b (λ x. x ≡ Closes) (λ e. let f : t.life b ≡ Fresh = ap t.life e ∙ m.0 in absurd (cc)) (λ e. l))
    (λ id m n. l) (λ id s a p m n. l) (λ id y m n. l)
    (λ id m n. at_cases t.life id Closes b (λ x. x ≡ Closes) (λ e. refl) (λ e. l))
    (λ id y m n. at_cases t.life id Over b (λ x. x ≡ Closes) (λ e. absurd (n (sym e))) (λ e. l))
    call reply m n

-- an arena that has ended stays so
over_stays : (limit : ℕ) (t : Machine) (c : Caller) (b : ArenaId) (call : Call) (reply : Reply) → MayBy limit t c call → reply ≡ reply_by limit t call
    → t.life b ≡ Over → (moved t c call reply).life b ≡ Over
over_stays limit t c b call reply m r l = moved_cases t c (λ call reply u. MayBy limit t c call → reply ≡ reply_by limit t call → u.life b ≡ Over)
    (λ x y m r. l) (λ x y f m r. l) (λ x y f m r. l)
    (λ id y m r. at_cases t.life id Lives b (λ x. x ≡ Over) (λ e. let f : t.life b ≡ Fresh = ap t.life e ∙ m.0 in absurd (cc)) (λ e. l))
    (λ id m r. l) (λ id s a p m r. l) (λ id y m r. l)
    (λ id m r. at_cases t.life id Closes b (λ x. x ≡ Over)
    (λ e. let i : t.life id ≡ Over = ap t.life (sym e) ∙ l in let f : Fine ≡ Closed = r ∙ (λ j. shut_stage (i j) (t.holds id)) in absurd (cc))
    (λ e. l))
    (λ id y m r. at_cases t.life id Over b (λ x. x ≡ Over) (λ e. refl) (λ e. l))
    call reply m r

-- an arena that has ended after a call that isn't its end had ended before
over_was : (t : Machine) (c : Caller) (b : ArenaId) (call : Call) (reply : Reply) → ¬ (Ends call b) → (moved t c call reply).life b ≡ Over → t.life b ≡ Over
over_was t c b call reply n l = moved_cases t c (λ call reply u. ¬ (Ends call b) → u.life b ≡ Over → t.life b ≡ Over)
    (λ x y n l. l) (λ x y f n l. l) (λ x y f n l. l)
    (λ id y n l. at_cases t.life id Lives b (λ x. x ≡ Over → t.life b ≡ Over) (λ e q. absurd (cc)) (λ e q. q) l)
    (λ id n l. l) (λ id s a p n l. l) (λ id y n l. l)
    (λ id n l. at_cases t.life id Closes b (λ x. x ≡ Over → t.life b ≡ Over) (λ e q. absurd (cc)) (λ e q. q) l)
    (λ id y n l. at_cases t.life id Over b (λ x. x ≡ Over → t.life b ≡ Over) (λ e q. absurd (n (sym e))) (λ e q. q) l)
    call reply n l

-- an arena gives nothing to a caller that isn't inside
given_stays : (limit : ℕ) (t : Machine) (c : Caller) (b : ArenaId) (call : Call) (reply : Reply) → MayBy limit t c call → t.inside c ≢ Some b
    → (moved t c call reply).given b ≡ t.given b
given_stays limit t c b call reply m n = moved_cases t c (λ call reply u. MayBy limit t c call → u.given b ≡ t.given b)
    (λ x y m. refl) (λ x y f m. refl) (λ x y f m. refl) (λ id y m. refl) (λ id m. refl)
    (λ id s a p m. at_cases t.given id (p + s) b (λ x. x ≡ t.given b) (λ e. absurd (n (m.0 ∙ ap Some (sym e)))) (λ e. refl))
    (λ id y m. refl) (λ id m. refl) (λ id y m. refl) call reply m

-- an arena that was opened stays known
known_stays : (t : Machine) (c : Caller) (b : ArenaId) (call : Call) (reply : Reply) → t.life b ≢ Fresh → (moved t c call reply).life b ≢ Fresh
known_stays t c b call reply n = moved_cases t c (λ call reply u. u.life b ≢ Fresh)
    (λ x y. n) (λ x y f. n) (λ x y f. n)
    (λ id y. at_cases t.life id Lives b (λ x. x ≢ Fresh) (λ e s. absurd (cc)) (λ e. n))
    (λ id. n) (λ id s a p. n) (λ id y. n)
    (λ id. at_cases t.life id Closes b (λ x. x ≢ Fresh) (λ e s. absurd (cc)) (λ e. n))
    (λ id y. at_cases t.life id Over b (λ x. x ≢ Fresh) (λ e s. absurd (cc)) (λ e. n))
    call reply

-- ---- entries of one caller

module _ (limit : ℕ) (c : Caller) where
  pub others_stay : (k : Caller) (es : List Entry) (t : Machine) → k ≢ c → MayMake limit t c es → (moved_by t es).inside k ≡ t.inside k
  others_stay k [] t n p = refl
  others_stay k (e ∷ es) t n p = others_stay k es (moved t e.caller e.call e.reply) n p.3 ∙ other_stays t e.caller k e.call e.reply (λ q. n (q ∙ p.0))

  pub none_come : (k : Caller) (b : ArenaId) (es : List Entry) (t : Machine) → MayMake limit t c es → t.life b ≡ Closes → NoEnd es b → t.inside k ≢ Some b
      → (moved_by t es).inside k ≢ Some b
  none_come k b [] t p l z n = n
  none_come k b (e ∷ es) t p l z n =
      none_come k b es (moved t e.caller e.call e.reply) p.3 (closing_stays limit t e.caller b e.call e.reply p.1 l z.0) z.1
      (none_comes limit t e.caller k b e.call e.reply p.2 (ap enter_stage l) n)

  pub still_closing : (b : ArenaId) (es : List Entry) (t : Machine) → MayMake limit t c es → t.life b ≡ Closes → NoEnd es b → (moved_by t es).life b ≡ Closes
  still_closing b [] t p l z = l
  still_closing b (e ∷ es) t p l z = still_closing b es (moved t e.caller e.call e.reply) p.3 (closing_stays limit t e.caller b e.call e.reply p.1 l z.0) z.1

  pub still_over : (b : ArenaId) (es : List Entry) (t : Machine) → MayMake limit t c es → t.life b ≡ Over → (moved_by t es).life b ≡ Over
  still_over b [] t p l = l
  still_over b (e ∷ es) t p l = still_over b es (moved t e.caller e.call e.reply) p.3 (over_stays limit t e.caller b e.call e.reply p.1 p.2 l)

  -- an arena that has ended gives no more
  pub still_given : (b : ArenaId) (es : List Entry) (t : Machine) → MayMake limit t c es → t.life b ≡ Over → t.inside c ≢ Some b
      → (moved_by t es).given b ≡ t.given b
  still_given b [] t p l n = refl
  still_given b (e ∷ es) t p l n =
      let out : t.inside e.caller ≢ Some b = (λ i. n (ap t.inside (sym p.0) ∙ i)) in
      still_given b es (moved t e.caller e.call e.reply) p.3 (over_stays limit t e.caller b e.call e.reply p.1 p.2 l)
      (none_comes limit t e.caller c b e.call e.reply p.2 (ap enter_stage l) n)
      ∙ given_stays limit t e.caller b e.call e.reply p.1 out

  -- the history goes on with them, and so do the functions
  pub legal_on : (h : List Entry) (es : List Entry) (t : Machine) → IsLegal limit [] h → Depicts limit (state_after limit [] h) t → MayMake limit t c es
      → IsLegal limit [] (h ++ es) × Depicts limit (state_after limit [] (h ++ es)) (moved_by t es)
  legal_on h [] t l d p =
      (subst (IsLegal limit []) (sym (append-nil h)) l, subst (λ (x : List Entry). Depicts limit (state_after limit [] x) t) (sym (append-nil h)) d)
  legal_on h (e ∷ es) t l d p =
      let one : List Entry = h ++ e ∷ [] in
      let is : one ≡ h ++ record { caller = e.caller; call = e.call; reply = reply_by limit t e.call } ∷ [] =
      ap (λ r. h ++ record { caller = e.caller; call = e.call; reply = r } ∷ []) p.2 in
      let g = goes_on limit h t e.caller e.call l d p.1 in
      let gone : Depicts limit (state_after limit [] one) (moved t e.caller e.call e.reply) =
      subst (λ (x : List Entry). Depicts limit (state_after limit [] x) (moved t e.caller e.call e.reply)) (sym is)
      (subst (λ (r : Reply). Depicts limit
      (state_after limit [] (h ++ record { caller = e.caller; call = e.call; reply = reply_by limit t e.call } ∷ [])) (moved t e.caller e.call r))
      (sym p.2) g.1) in
      let rest = legal_on one es (moved t e.caller e.call e.reply) (subst (IsLegal limit []) (sym is) g.0) gone p.3 in
      let same : one ++ es ≡ h ++ e ∷ es = append_assoc h (e ∷ []) es in
      (subst (IsLegal limit []) same rest.0, subst (λ (x : List Entry). Depicts limit (state_after limit [] x) (moved_by t (e ∷ es))) same rest.1)

  -- they are the caller's, and no other's
  pub made_by-own : (es : List Entry) (t : Machine) → MayMake limit t c es → made_by c es ≡ es
  made_by-own [] t p = refl
  made_by-own (e ∷ es) t p =
      let one = are_one-equal e.caller c p.0 in rw one (ap (λ (l : List Entry). e ∷ l) (made_by-own es (moved t e.caller e.call e.reply) p.3))

  pub made_by-other : (k : Caller) (es : List Entry) (t : Machine) → k ≢ c → MayMake limit t c es → made_by k es ≡ []
  made_by-other k [] t n p = refl
  made_by-other k (e ∷ es) t n p =
      let one = are_one-not e.caller k (λ q. n (sym q ∙ p.0)) in rw one (made_by-other k es (moved t e.caller e.call e.reply) n p.3)

-- where it wasn't ended by entries, it had ended before
pub was_over : (b : ArenaId) (es : List Entry) (t : Machine) → NoEnd es b → (moved_by t es).life b ≡ Over → t.life b ≡ Over
was_over b [] t n l = l
was_over b (e ∷ es) t n l = over_was t e.caller b e.call e.reply n.0 (was_over b es (moved t e.caller e.call e.reply) n.1 l)

-- over any entries an arena stays known
pub still_known : (b : ArenaId) (es : List Entry) (t : Machine) → t.life b ≢ Fresh → (moved_by t es).life b ≢ Fresh
still_known b [] t n = n
still_known b (e ∷ es) t n = still_known b es (moved t e.caller e.call e.reply) (known_stays t e.caller b e.call e.reply n)
