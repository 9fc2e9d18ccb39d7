-- A call's answer is what its line comes to.
use Rattle.std.proofs.Common.{◌≡◌, ◌≢◌, ℕ, ℤ, ◌+◌, nat_le, if◌then◌else◌, Bool, true, false, arith, ◌∷◌, List, [], refl, sym, subst, Option, Some, None, Result, Ok, Err}
use Rattle.std.proofs.lemmas.Bool.{leb-true}
use Rattle.fm_base.specs.declared.{arena_id.ArenaId.{ArenaId}, kind.Kind.TheVariants.{Automatic}, refusal.Refusal.{Refusal, TheVariants.{Bounds}}}
use Rattle.fm_base.specs.{Calls.{Entry}, View.{Did}}
use Rattle.fm_gate.specs.declared.held.Hold as held
use Rattle.fm_gate.specs.Makers.{made_by_pass}
use Rattle.fm_arena.specs.Learnt.{AfterHold}
use Rattle.fm_rule_facts.specs.Views.{View, IsKnown}
use Rattle.fm_rule_calls.specs.Told.{view_of_pass}
use Rattle.fm_lanes.specs.declared.value.Value.{Value}
use Rattle.fm_layout.specs.Tree.{Tree}
use Rattle.fm_path.specs.Resolution.{Resolution}
use Rattle.fm_segment.specs.{Access.{DoesGetAt, DoesSetAt, place_of, writable_place_of}, Region.{Region, part_of}, Slices.{slice_of}}
use Rattle.fm_segment.specs.Access as segment
use Rattle.fm_handle.specs.{Access.{DoesAdd, DoesExchange}, Place.{update_place_of, can_update}}
use Rattle.fm_script_text.specs.declared.cell.Cell.{Cell}
use Rattle.fm_script_lines.specs.declared.{outcome.LineOutcome.{LineOutcome}, reply.Reply.{Reply, TheVariants.{Skipped, Fine, Refused}}}
use Rattle.fm_script_lines.specs.declared.standing.Standing.TheVariants.{Segment, Hold}
use Rattle.fm_script_lines.specs.Calls.{On, Called, Skips, coming, number, fine, tree_of, IsValue, IsHandleOf, Gets, Sets, Adds, Exchanges, Holds, Answers, segment_made}
use Rattle.fm_script_lines.specs.{Outcomes.{plain, outcome}, Standings.{held_as}, Runs.{RanWith, Ran, RanLine}}
use Rattle.fm_script_lines.proofs.Going.{ran_none, ran_by_memory, ran_by_pass}

-- What a call did, said in other words.
pub ran_as : {p q : View} {holds handles : List ArenaId} {P Q : List Entry → Type 0} → RanWith p q holds handles P
    → ((own : List Entry) → P own → Q own) → RanWith p q holds handles Q
ran_as r f = record {
  own = r.own;
  does = f r.own r.does;
  went = r.went;
  same_holds = r.same_holds;
  same_handles = r.same_handles;
  outside = r.outside;
  lasts = r.lasts;
}

-- ---- lines

-- A line whose name stands for nothing.
pub plain_line : {p q : View} {Does : LineOutcome → List Entry → Type 0} (reply : Reply) (out : LineOutcome) → out ≡ plain reply
    → Ran p q (Does (plain reply)) → RanLine p q Does out
plain_line {p = p} {q = q} {Does = Does} reply out is r =
    subst (λ (o : LineOutcome). RanLine p q Does o) (sym is) (record { ran = r; backed = tt })

-- A name that stands for this.
pub line_some : {X : Type 0} {p q : View} (o : Option X) (x : X) (Does : X → LineOutcome → List Entry → Type 0) (out : LineOutcome)
    → o ≡ Some x → RanLine p q (Does x) out → RanLine p q (On o Does) out
line_some {p = p} {q = q} o x Does out is r = subst (λ (y : Option _). RanLine p q (On y Does) out) (sym is) r

-- A name that stands for nothing.
pub line_none : {X : Type 0} (p : View) (o : Option X) (Does : X → LineOutcome → List Entry → Type 0) (out : LineOutcome) → o ≡ None → p.inside ≡ None
    → out ≡ plain Skipped → RanLine p p (On o Does) out
line_none p o Does out is outside skipped =
    subst (λ (y : Option _). RanLine p p (On y Does) out) (sym is)
    (plain_line Skipped out skipped (ran_none p (λ own. Skips (plain Skipped) own) outside (refl, refl)))

-- ---- values

-- A read of a value.
pub line_got : {p q : View} (o : Option Region) (r : Region) (cell : Cell) (t : Tree) (result : Result Value Refusal) (reply : Reply) (out : LineOutcome)
    → o ≡ Some r → t ≡ tree_of cell → out ≡ plain reply → plain reply ≡ coming number result → q.inside ≡ None
    → Did (view_of_pass p) (view_of_pass q) (DoesGetAt p.caller r.arena t (place_of cell.offset t r) result)
    → RanLine p q (On o (Gets p.caller cell)) out
line_got {p = p} {q = q} o r cell t result reply out is tree said comes outside did =
    line_some o r (Gets p.caller cell) out is (plain_line reply out said (ran_as (ran_by_memory (subst (λ (u : Tree). Did (view_of_pass p)
    (view_of_pass q) (DoesGetAt p.caller r.arena u (place_of cell.offset u r) result)) tree did) outside)
    (λ own d. (result, d, comes))))

-- A write of a value.
pub line_set : {p q : View} (o : Option Region) (r : Region) (cell : Cell) (t : Tree) (z : ℤ) (v : Value) (result : Result (Unit {0}) Refusal) (reply : Reply)
    (out : LineOutcome) → o ≡ Some r → t ≡ tree_of cell → IsValue cell.kind z v → out ≡ plain reply → plain reply ≡ coming fine result → q.inside ≡ None
    → Did (view_of_pass p) (view_of_pass q) (DoesSetAt p.caller r.arena t (writable_place_of cell.offset t r) v result)
    → RanLine p q (On o (Sets p.caller cell z)) out
line_set {p = p} {q = q} o r cell t z v result reply out is tree value said comes outside did =
    line_some o r (Sets p.caller cell z) out is
    (plain_line reply out said (ran_as (ran_by_memory (subst (λ (u : Tree). Did (view_of_pass p) (view_of_pass q) (DoesSetAt p.caller r.arena u
    (writable_place_of cell.offset u r) v result)) tree did) outside)
    (λ own d. (v, value, (result, d, comes)))))

-- A sum.
pub line_added : {p q : View} (o : Option Region) (r : Region) (cell : Cell) (h : Resolution) (z : ℤ) (v : Value) (result : Result Value Refusal)
    (reply : Reply) (out : LineOutcome) → o ≡ Some r → IsHandleOf cell h → IsValue cell.kind z v → out ≡ plain reply → plain reply ≡ coming number result
    → q.inside ≡ None
    → Did (view_of_pass p) (view_of_pass q) (DoesAdd p.caller h r (update_place_of can_update cell.offset [] h r) v result)
    → RanLine p q (On o (Adds p.caller cell z)) out
line_added {p = p} o r cell h z v result reply out is handle value said comes outside did =
    line_some o r (Adds p.caller cell z) out is
    (plain_line reply out said (ran_as (ran_by_memory did outside) (λ own d. (v, value, h, handle, (result, d, comes)))))

-- An exchange.
pub line_exchanged : {p q : View} (o : Option Region) (r : Region) (cell : Cell) (h : Resolution) (y z : ℤ) (u v : Value) (result : Result Value Refusal)
    (reply : Reply) (out : LineOutcome) → o ≡ Some r → IsHandleOf cell h → IsValue cell.kind y u → IsValue cell.kind z v → out ≡ plain reply
    → plain reply ≡ coming number result → q.inside ≡ None
    → Did (view_of_pass p) (view_of_pass q) (DoesExchange p.caller h r (update_place_of can_update cell.offset [] h r) u v result)
    → RanLine p q (On o (Exchanges p.caller cell y z)) out
line_exchanged {p = p} o r cell h y z u v result reply out is handle wanted value said comes outside did =
    line_some o r (Exchanges p.caller cell y z) out is
    (plain_line reply out said (ran_as (ran_by_memory did outside) (λ own d. (u, wanted, v, value, h, handle, (result, d, comes)))))

-- ---- holds

-- A hold that was taken.
pub line_held : {p q : View} (o : Option ArenaId) (a : ArenaId) (hold : held.Hold) → o ≡ Some a → AfterHold p q a (Ok hold)
    → RanLine p q (On o (Holds p.caller)) (outcome Fine (Hold (Some hold)))
line_held {p = p} {q = q} o a hold is after =
    let e : hold.arena ≡ a = after.did.does.0 in
    subst (λ (h : held.Hold). RanLine p q (On o (Holds p.caller)) (outcome Fine (Hold (Some h)))) (λ i. record { arena = sym e i; maker = hold.maker })
    (line_some o a (Holds p.caller) (outcome Fine (held_as hold.maker a)) is (record {
      ran = ran_as (ran_by_pass (a ∷ p.holds) p.handles after.did after.outside) (λ own d. (hold.maker, (Ok tt, d.1, refl)));
      backed = subst (λ (x : ArenaId). IsKnown q x × (x.kind ≢ Automatic) × (hold.maker ≡ made_by_pass q)) e
          (after.held.known, after.held.by_hand, after.held.maker);
    }))

-- A hold that was refused.
pub line_not_held : {p q : View} (o : Option ArenaId) (a : ArenaId) (r : Refusal) (out : LineOutcome) → o ≡ Some a → out ≡ plain (Refused r)
    → AfterHold p q a (Err r) → RanLine p q (On o (Holds p.caller)) out
line_not_held {p = p} o a r out is said after =
    line_some o a (Holds p.caller) out is
    (plain_line (Refused r) out said (ran_as (ran_by_pass p.holds p.handles after.did after.outside) (λ own d. (made_by_pass p, (Err r, d, refl)))))

-- ---- slices

-- A segment that is made of another.
pub line_made : (p : View) (o : Option Region) (r s : Region) (answer : Region → Result Region Refusal) → o ≡ Some r → p.inside ≡ None → Ok s ≡ answer r
    → segment.IsKnown (view_of_pass p) s
    → RanLine p p (On o (λ (x : Region). Called (Answers (answer x)) segment_made)) (outcome Fine (Segment s))
line_made p o r s answer is outside made known =
    line_some o r (λ (x : Region). Called (Answers (answer x)) segment_made) (outcome Fine (Segment s)) is (record {
      ran = ran_none p (λ own. Called (Answers (answer r)) segment_made (outcome Fine (Segment s)) own) outside (Ok s, (made, refl), refl);
      backed = known;
    })

pub line_not_made : (p : View) (o : Option Region) (r : Region) (e : Refusal) (answer : Region → Result Region Refusal) (out : LineOutcome) → o ≡ Some r
    → p.inside ≡ None → Err e ≡ answer r → out ≡ plain (Refused e)
    → RanLine p p (On o (λ (x : Region). Called (Answers (answer x)) segment_made)) out
line_not_made p o r e answer out is outside made said =
    line_some o r (λ (x : Region). Called (Answers (answer x)) segment_made) out is
    (plain_line (Refused e) out said
    (ran_none p (λ own. Called (Answers (answer r)) segment_made (plain (Refused e)) own) outside (Err e, (made, refl), refl)))

-- A slice lies in its segment.
pub slice_known : (p : View) (offset size : ℕ) (r s : Region) → Ok s ≡ slice_of offset size r → segment.IsKnown (view_of_pass p) r
    → segment.IsKnown (view_of_pass p) s
slice_known p offset size r s e known = go (nat_le (offset + size) r.size) refl e
  where
    go : (b : Bool) → nat_le (offset + size) r.size ≡ b → Ok s ≡ (if b then Ok (part_of offset size r) else Err Bounds)
        → segment.IsKnown (view_of_pass p) s
    go true l f =
        let is : part_of offset size r ≡ s = cc in
        let within = leb-true (offset + size) r.size l in
        let given = known.given in
        subst (λ (x : Region). segment.IsKnown (view_of_pass p) x) is (record { arena = known.arena; given = omega (arith, within, given) })
    go false l f = absurd (cc)
