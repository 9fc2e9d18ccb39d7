-- After a step a pass's handles are still as many as its own entries took and didn't give back.
use Rattle.std.proofs.{Common.{◌≡◌, ℕ, ◌+◌, true, if◌then◌else◌, List, [], ◌∷◌, ◌++◌, refl, ap, sym, ◌∙◌, subst, arith}, lemmas.List.Elements.{filter-append}}
use Rattle.fm_base.specs.{declared.{caller.Caller.{Caller}, arena_id.ArenaId.{ArenaId}, kind.Kind.TheVariants.{Automatic}}, Calls.{Entry}, Finds.{Find}}
use Rattle.fm_base.specs.Histories.{made_by}
use Rattle.fm_base_machine.specs.{Functions.{Machine, moved}, Steps.{moved_by}, Handles.{one_alive, handles_of, all_taken, all_given, AreLeft}}
use Rattle.fm_base_machine.proofs.Handling.{handled, counts_by}
use Rattle.fm_rule_facts.specs.{Views.{View, HasOwnHandles, how_many}, Holds.{holds_of, all_holds}, Moves.{MayMake, Same, KeepsHolds, told}}
use Rattle.fm_rule_facts.proofs.{Frame.{made_by-own}, Gripping.{automatic, handles_are, held_now}}

-- what two runs of entries take
all_taken-append : (a : ArenaId) (xs ys : List Entry) → all_taken a (xs ++ ys) ≡ all_taken a xs + all_taken a ys
all_taken-append a [] ys = omega arith
all_taken-append a (x ∷ xs) ys = let ih = all_taken-append a xs ys in omega arith

-- and what they give back
all_given-append : (a : ArenaId) (xs ys : List Entry) → all_given a (xs ++ ys) ≡ all_given a xs + all_given a ys
all_given-append a [] ys = omega arith
all_given-append a (x ∷ xs) ys = let ih = all_given-append a xs ys in omega arith

-- entries that the functions allow change the handles by what they take and give back
handled_by : (limit : ℕ) (t : Machine) (c : Caller) (es : List Entry) → MayMake limit t c es → (a : ArenaId)
    → handles_of (moved_by t es) a + all_given a es ≡ handles_of t a + all_taken a es
handled_by limit t c [] m a = refl
handled_by limit t c (e ∷ es) m a =
    let one = handled t e.caller e.call e.reply (counts_by limit t e.caller e.call e.reply m.1 m.2) a in
    let rest = handled_by limit (moved t e.caller e.call e.reply) c es m.3 a in
    omega arith

-- the holds of an automatic arena are its handles
holds_handles : (a : ArenaId) (t : Machine) → a.kind ≡ Automatic → all_holds a t ≡ handles_of t a
holds_handles a t k = λ j. t.holds a + (if automatic a k j then one_alive (t.life a) else 0)

held_handles : (a : ArenaId) (v : View) → v.live ≡ true → a.kind ≡ Automatic → holds_of a v ≡ how_many a v.handles
held_handles a v l k = held_now a v l ∙ ap (how_many a) (handles_are a v k)

-- and where others alone made entries
pub handles_still : (v : View) (h : List Entry) → made_by v.caller h ≡ made_by v.caller v.seen → HasOwnHandles v → (a : ArenaId) → a.kind ≡ Automatic
    → AreLeft a (made_by v.caller h) (how_many a v.handles)
handles_still v h same own a k = subst (λ (es : List Entry). AreLeft a es (how_many a v.handles)) (sym same) (own a k)

-- what the pass has after a step
pub handles_told : (limit : ℕ) (t : Machine) (v p : View) (h zs es : List Entry) (fs : ℕ → List Find) → v.live ≡ true → MayMake limit t v.caller es
    → h ≡ v.seen ++ zs → made_by v.caller h ≡ made_by v.caller v.seen → Same v p → KeepsHolds v p t (moved_by t es) → HasOwnHandles v
    → HasOwnHandles (told p zs es fs)
handles_told limit t v p h zs es fs l m is mine s keeps own a k =
    let c : Caller = v.caller in
    let old : List Entry = made_by c v.seen in
    let same : made_by p.caller ((p.seen ++ zs) ++ es) ≡ old ++ es =
    (λ j. made_by (s.caller j) ((s.seen j ++ zs) ++ es))
    ∙ (ap (λ (xs : List Entry). made_by c (xs ++ es)) (sym is) ∙ (filter-append _ h es ∙ (λ j. mine j ++ made_by-own limit c es t m j))) in
    let taken = all_taken-append a old es in
    let given = all_given-append a old es in
    let by = handled_by limit t c es m a in
    let mine_now = held_handles a v l k in
    let mine_then = held_handles a p (s.live ∙ l) k in
    let all_now = holds_handles a t k in
    let all_then = holds_handles a (moved_by t es) k in
    let both = keeps a in
    let left = own a k in
    let goal : AreLeft a (old ++ es) (how_many a p.handles) = omega arith in
    subst (λ (xs : List Entry). AreLeft a xs (how_many a p.handles)) (sym same) goal
