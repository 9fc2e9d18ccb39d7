use Rattle.std.{proofs.Common.{[], ◌∷◌}, specs.Fmt.{decimal}}
use Rattle.fm_top.proofs.{Numbers.{on_none}, Requests.{no_demo}, Threaded.{of_none, of_some}}
use Rattle.fm_top.proofs.command.demo.demo_words.Goals as goal

pub returns-in-Some-clause-none : goal.returns-in-Some-clause-none
returns-in-Some-clause-none c =
    on_none c.demo_by.result (no_demo (of_some _ c.in-Some.is c.in_ok-said.ensures.found)) c.demo_by.ensures.none

pub returns-in-None-clause-none : goal.returns-in-None-clause-none
returns-in-None-clause-none c = λ threads count asks.
    of_none c.in-None.is c.in_ok-said.ensures.none threads (decimal count ∷ []) asks.threaded
