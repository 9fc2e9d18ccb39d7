use Rattle.std.proofs.{Common.{◌≡◌, ◌++◌, List, length, reverse, take, drop, ap, ◌∙◌}, lemmas.List.{take_at}}
use Rattle.fm_workers_crew.{specs.declared.worker.Worker.{Worker}, proofs.Turning.{called_up}}
use Rattle.fm_workers_crew.proofs.crew.call_up.Goals as goal

pub returns-clause-called : goal.returns-clause-called
returns-clause-called g c =
    let W = Worker g.row.T.Denot in
    let ws : List W = c.draw_crew-drew.new.crew.items in
    let us : List W = c.reverse.new.self in
    let long = c.reverse.ensures.len ∙ c.as_mut_slice.ensures.len in
    let whole : take c.draw_crew-drew.new.crew.len (us ++ drop (length us) ws) ≡ us = take_at us (drop (length us) ws) c.draw_crew-drew.new.crew.len long in
    let turned : us ≡ reverse ws = c.reverse.ensures.after ∙ ap (λ (xs : List W). reverse xs) c.as_mut_slice.ensures.value in
    called_up (whole ∙ turned) c.draw_crew-drew.ensures.drew
