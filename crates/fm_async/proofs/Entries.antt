-- The entries of a close among those of its pass.
use Rattle.std.proofs.Common.{◌≡◌, inl, inr, ℕ, Bool, true, false, cond, List, [], ◌∷◌, ◌++◌, refl, ap, sym, ◌∙◌, subst}
use Rattle.fm_base.specs.{declared.{caller.Caller.{Caller}, arena_id.ArenaId.{ArenaId}}, Arenas.{State, Closing, Ended, are_one, arena_of, changed, has_arena}}
use Rattle.fm_base.specs.{Calls.{Call, Shut, End, Reply, Fine, Entry, entry_of}, Machine.{MayCall, after, ended}, Histories.{IsLegal, made_by, state_after}}
use Rattle.fm_base.proofs.Growing.{Grows-state_after, over_at_end}
use Rattle.fm_rule_facts.specs.Views.{View, In, IsSound, limit_of, state_in}
use Rattle.fm_rule_facts.proofs.Keeping.{in_left, in_right}
use Rattle.fm_rule_steps.proofs.Closes.{passed_of-found}
use Rattle.fm_rule_calls.specs.Kept.{Goes}
use Rattle.fm_close.specs.{declared.shutting.Shutting.{Shutting}, CloseLaws.{StandsBy}, Learnt.{IsUnderWay}}
use Rattle.fm_async.{specs.Sets.{HasEntries}, proofs.Closers.{mine_then}}

-- What a caller made stands among all entries.
in_seen : (c : Caller) (es : List Entry) (e : Entry) → In e (made_by c es) → In e es
in_seen c [] e i = i
in_seen c (x ∷ es) e i = go (are_one x.caller c) (in_seen c es e) i
  where
    go : (b : Bool) → (In e (made_by c es) → In e es) → In e (cond b (x ∷ made_by c es) (made_by c es)) → In e (x ∷ es)
    go true rest (inl q) = inl q
    go true rest (inr j) = inr (rest j)
    go false rest j = inr (rest j)

-- An arena of whose End a legal history tells has ended.
over_by : (limit : ℕ) (s : State) (es : List Entry) (c : Caller) (a : ArenaId) → IsLegal limit s es → In (entry_of c (End a) Fine) es
    → (arena_of (state_after limit s es) a).life ≡ Ended
over_by limit s [] c a l i = absurd i
over_by limit s (e ∷ es) c a l (inl q) =
    let may : MayCall s c (End a) = subst (λ (x : Entry). MayCall s x.caller x.call) (sym q) l.0 in
    let over = over_at_end s a may.0 may.1 in
    let next : after limit s e ≡ changed s a ended = ap (after limit s) (sym q) in
    let grows = Grows-state_after limit (after limit s e) es l.2 in
    grows.ended a (ap (λ (t : State). has_arena t a) next ∙ over.0) (ap (λ (t : State). (arena_of t a).life) next ∙ over.1.life)
over_by limit s (e ∷ es) c a l (inr i) = over_by limit (after limit s e) es c a l.2 i

-- A pass has no End of an arena whose close is under way.
pub no_end : {p : View} {s : Shutting} → IsSound p → IsUnderWay p s → ¬ (In (entry_of p.caller (End s.arena) Fine) (made_by p.caller p.seen))
no_end {p = p} {s = s} sound w i =
    let f = passed_of-found p.closes s.arena s.next w.at in
    let shut : (arena_of (state_in p) s.arena).life ≡ Closing = ap (λ (a : ArenaId). (arena_of (state_in p) a).life) (sym f.arena) ∙ (sound.closing f.walk f.there).1 in
    let over : (arena_of (state_in p) s.arena).life ≡ Ended = over_by (limit_of p.shape) [] p.seen p.caller s.arena sound.legal (in_seen p.caller p.seen _ i) in
    let e : Closing ≡ Ended = sym shut ∙ over in
    cc

-- The Shut is there, and where the arena has ended so is its End: then its End is there exactly where it has ended.
pub entries_by_end : {p : View} {s : Shutting} (b : Bool) → s.ended ≡ b → IsSound p → StandsBy b p s
    → In (entry_of p.caller (Shut s.arena) Fine) (made_by p.caller p.seen)
    → (b ≡ true → In (entry_of p.caller (End s.arena) Fine) (made_by p.caller p.seen)) → HasEntries p s
entries_by_end true e sound st shut end = record { shut = shut; over = ((λ f. end refl), (λ i. e)) }
entries_by_end false e sound st shut end =
    record { shut = shut; over = ((λ f. absurd (cc)), (λ i. absurd (no_end sound st i))) }

-- What was among a pass's own entries is among them later.
pub in_later : {p q : View} {own : List Entry} → Goes p q own → (call : Call) (reply : Reply) → In (entry_of p.caller call reply) (made_by p.caller p.seen)
    → In (entry_of q.caller call reply) (made_by q.caller q.seen)
in_later {p = p} {q = q} {own = own} g call reply i =
    subst (λ (es : List Entry). In (entry_of q.caller call reply) es) (sym (mine_then g))
    (subst (λ (c : Caller). In (entry_of c call reply) (made_by p.caller p.seen ++ own)) (sym g.same_caller) (in_left _ (made_by p.caller p.seen) own i))

-- So is what the call made.
pub in_own : {p q : View} {own : List Entry} → Goes p q own → (call : Call) (reply : Reply) → In (entry_of p.caller call reply) own
    → In (entry_of q.caller call reply) (made_by q.caller q.seen)
in_own {p = p} {q = q} {own = own} g call reply i =
    subst (λ (es : List Entry). In (entry_of q.caller call reply) es) (sym (mine_then g))
    (subst (λ (c : Caller). In (entry_of c call reply) (made_by p.caller p.seen ++ own)) (sym g.same_caller) (in_right _ (made_by p.caller p.seen) own i))

-- A close that stands as it stood has its entries still.
pub entries_stay : {p q : View} {own : List Entry} {s : Shutting} → Goes p q own → StandsBy s.ended q s → HasEntries p s → HasEntries q s
entries_stay {s = s} g st h = entries_by_end s.ended refl g.sound st (in_later g (Shut s.arena) Fine h.shut) (λ e. in_later g (End s.arena) Fine (h.over.0 e))
