-- Lines that open an arena, and that take another handle of one.
use Rattle.std.proofs.Common.{◌≡◌, ◌≢◌, ◌∙◌, ◌∷◌, refl, sym, subst, ap, Option, Some, None, Ok, Err}
use Rattle.fm_base.specs.{declared.{arena_id.ArenaId.{ArenaId}, kind.Kind.{Kind}, refusal.Refusal.{Refusal}}, Learnt.{AfterOpen}, Outcomes.{MayRefuse}}
use Rattle.fm_base.specs.declared.kind.Kind.TheVariants as kind
use Rattle.fm_rule_facts.specs.Views.{View}
use Rattle.fm_rule_calls.specs.Told.{view_of_pass}
use Rattle.fm_gate.specs.Makers.{Made, made_by_pass}
use Rattle.fm_arena.specs.{declared.handle.AutoHandle.{AutoHandle}, Handles.{AfterStart, AfterAgain}, Shares.{nature_of_shared}}
use Rattle.fm_script_lines.specs.declared.{outcome.LineOutcome.{LineOutcome}, reply.Reply.TheVariants.{Fine, Refused}, standing.Standing.{Standing}}
use Rattle.fm_script_lines.specs.{declared.standing.Standing.TheVariants.{Arena, Automatic, Handle}, Calls.{On, Opens, TakesAgain}, Outcomes.{plain, outcome}}
use Rattle.fm_script_lines.{specs.{Runs.{RanLine}, Standings.{opened_as}}, proofs.{Going.{ran_by_memory, ran_by_pass}, Lines.{ran_as, plain_line, line_some}}}

-- An automatic arena that was opened.
pub line_started : {p q : View} (handle : AutoHandle) → AfterStart p q (Ok handle)
    → RanLine p q (Opens p.caller kind.Automatic) (outcome Fine (Automatic handle.arena (Some handle)))
line_started {p = p} handle after = record {
  ran = ran_as (ran_by_pass p.holds (handle.arena ∷ p.handles) after.did after.outside)
      (λ own d. (handle.maker, (Ok handle.arena, (tt, d), refl)));
  backed = (after.has.handled.known, (after.has.handled.known, after.has.handled.automatic, after.has.maker));
}

-- One that wasn't.
pub line_not_started : {p q : View} (r : Refusal) (out : LineOutcome) → out ≡ plain (Refused r) → AfterStart p q (Err r)
    → RanLine p q (Opens p.caller kind.Automatic) out
line_not_started {p = p} r out said after =
    plain_line (Refused r) out said (ran_as (ran_by_pass p.holds p.handles after.did after.outside)
    (λ own d. (made_by_pass p, (Err r, (subst (λ (x : Refusal). MayRefuse nature_of_shared x) (sym after.no_slot) refl, d), refl))))

-- Its name stands for the arena alone where that isn't automatic.
as_arena : (m : Made) (k : Kind) (id : ArenaId) → k ≢ kind.Automatic → Arena id ≡ opened_as m k id
as_arena m kind.Global id n = refl
as_arena m kind.Automatic id n = absurd (n refl)
as_arena m kind.Confined id n = refl
as_arena m kind.Shared id n = refl

-- An arena of another kind.
pub line_opened : {p q : View} (k : Kind) (id : ArenaId) → k ≢ kind.Automatic
    → AfterOpen nature_of_shared (view_of_pass p) (view_of_pass q) k (Ok id) → RanLine p q (Opens p.caller k) (outcome Fine (Arena id))
line_opened {p = p} k id n after = record {
  ran = ran_as (ran_by_memory after.did after.outside)
      (λ own d. (made_by_pass p, (Ok id, (tt, d), ap (λ (s : Standing). outcome Fine s) (as_arena (made_by_pass p) k id n))));
  backed = after.is_new.known;
}

pub line_not_opened : {p q : View} (k : Kind) (r : Refusal) (out : LineOutcome) → out ≡ plain (Refused r)
    → AfterOpen nature_of_shared (view_of_pass p) (view_of_pass q) k (Err r) → RanLine p q (Opens p.caller k) out
line_not_opened {p = p} k r out said after =
    plain_line (Refused r) out said
    (ran_as (ran_by_memory after.did after.outside) (λ own d. (made_by_pass p, (Err r, (after.comes, d), refl))))

-- Another handle that was taken.
pub line_again : {p q : View} (o : Option ArenaId) (handle other : AutoHandle) → o ≡ Some handle.arena → q.inside ≡ p.inside → p.inside ≡ None
    → AfterAgain p q handle (Ok other) → RanLine p q (On o (TakesAgain p.caller)) (outcome Fine (Handle (Some other)))
line_again {p = p} {q = q} o handle other is stays outside after =
    let e : other.arena ≡ handle.arena = after.same in
    subst (λ (h : AutoHandle). RanLine p q (On o (TakesAgain p.caller)) (outcome Fine (Handle (Some h)))) (λ i. record { arena = sym e i; maker = other.maker })
    (line_some o handle.arena (TakesAgain p.caller) (outcome Fine (Handle (Some (record { arena = handle.arena; maker = other.maker })))) is (record {
      ran = ran_as (ran_by_pass p.holds (handle.arena ∷ p.handles) after.did (stays ∙ outside)) (λ own d. (other.maker, (Ok tt, d, refl)));
      backed = (after.has.handled.known, after.has.handled.automatic, after.other.maker);
    }))

-- One that was refused.
pub line_not_again : {p q : View} (o : Option ArenaId) (handle : AutoHandle) (r : Refusal) (out : LineOutcome) → o ≡ Some handle.arena → out ≡ plain (Refused r)
    → q.inside ≡ p.inside → p.inside ≡ None → AfterAgain p q handle (Err r) → RanLine p q (On o (TakesAgain p.caller)) out
line_not_again {p = p} o handle r out is said stays outside after =
    line_some o handle.arena (TakesAgain p.caller) out is
    (plain_line (Refused r) out said
    (ran_as (ran_by_pass p.holds p.handles after.did (stays ∙ outside)) (λ own d. (made_by_pass p, (Err r, d, refl)))))
