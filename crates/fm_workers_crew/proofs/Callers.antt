-- What a crew did, where all that counts of its passes are their callers.
use Rattle.std.{proofs.Common.{◌≡◌, List, [], ◌∷◌, map, refl, ap, sym, ◌∙◌, subst, Ok}, specs.Prelude.{⊤}}
use Rattle.fm_base.specs.{declared.caller.Caller.{Caller}, Calls.{Entry}, Histories.{made_by}, Finds.{Gathered}}
use Rattle.fm_rule_facts.specs.{Splits.{as_gathered}, Views.{View}}
use Rattle.fm_workers_crew.specs.{Crew.{AreDone, CrewWorked, by_caller, callers}, Then.{CrewWentOn}}

module _ {T : Type 0} (Does : Caller → T → T → List Entry → Type 0) (more : List Entry) where
  -- Each task was done by a caller of its own, the first by the first
  abbrev pub AreDoneBy : List Caller → List T → List T → Type 0
  AreDoneBy [] [] [] = ⊤
  AreDoneBy (c ∷ cs) (t ∷ ts) (u ∷ us) = Does c t u (made_by c more) × AreDoneBy cs ts us
  AreDoneBy cs ts us = ⊥

  done_by_passes : (ps : List View) (ts us : List T) → AreDone (by_caller Does) more ps ts us → AreDoneBy (callers (map as_gathered ps)) ts us
  done_by_passes [] [] [] h = tt
  done_by_passes (p ∷ ps) (t ∷ ts) (u ∷ us) h = (h.0, done_by_passes ps ts us h.1)
  done_by_passes [] [] (u ∷ us) h = absurd h
  done_by_passes [] (t ∷ ts) us h = absurd h
  done_by_passes (p ∷ ps) [] us h = absurd h
  done_by_passes (p ∷ ps) (t ∷ ts) [] h = absurd h

-- What was gathered did so.
pub done_by_crew : {T : Type 0} (Does : Caller → T → T → List Entry → Type 0) (more : List Entry) {crew : List Gathered} (passes : List View) (ts us : List T)
    → crew ≡ map as_gathered passes → AreDone (by_caller Does) more passes ts us → AreDoneBy Does more (callers crew) ts us
done_by_crew Does more passes ts us are done =
    subst (λ (gs : List Gathered). AreDoneBy Does more (callers gs) ts us) (sym are) (done_by_passes Does more passes ts us done)

pub worked_by_callers : {T : Type 0} (Does : Caller → T → T → List Entry → Type 0) {old new : View} {ts us : List T} {u : Unit {0}}
    (w : CrewWorked (by_caller Does) old new ts us (Ok u)) → AreDoneBy Does w.crew.more (callers w.crew.crew) ts us
worked_by_callers Does {ts = ts} {us = us} w = done_by_crew Does w.crew.more w.crew.passes ts us w.crew.are_passes w.ends

-- Passes have the callers that are gathered of them.
pub callers_of : (ps : List View) → map (λ (p : View). p.caller) ps ≡ callers (map as_gathered ps)
callers_of [] = refl
callers_of (p ∷ ps) = ap (λ (cs : List Caller). p.caller ∷ cs) (callers_of ps)

-- What was done before the last one went on.
pub went_by_callers : {T : Type 0} (Does : Caller → T → T → List Entry → Type 0) (Goes : Caller → List Entry → Type 0) {old new : View} {ts us : List T} {u : Unit {0}}
    (w : CrewWentOn (by_caller Does) Goes old new ts us (Ok u)) → AreDoneBy Does w.ends.before (callers w.crew.crew) ts us
went_by_callers Does Goes {ts = ts} {us = us} w =
    let d = w.ends in
    subst (λ (cs : List Caller). AreDoneBy Does d.before cs ts us) (sym (callers_of d.worked) ∙ d.are) (done_by_passes Does d.before d.worked ts us d.each)
