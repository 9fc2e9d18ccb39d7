use Rattle.std.proofs.lemmas.Option.{IfSome_then}
use Rattle.fm_top.{specs.Words.{three}, proofs.{Numbers.{on_none}, Requests.{is_group, no_group}, Threaded.{of_none, of_some}}}
use Rattle.fm_top.proofs.command.ask.group_words.Goals as goal

pub returns-in-Some-clause-found : goal.returns-in-Some-clause-found
returns-in-Some-clause-found c =
    IfSome_then c.ask_by.result c.ask_by.ensures.found (λ ask. is_group (of_some _ c.in-Some.is c.in_ok-said.ensures.found))

pub returns-in-Some-clause-none : goal.returns-in-Some-clause-none
returns-in-Some-clause-none c = on_none c.ask_by.result (no_group (of_some _ c.in-Some.is c.in_ok-said.ensures.found)) c.ask_by.ensures.none

pub returns-in-None-clause-none : goal.returns-in-None-clause-none
returns-in-None-clause-none c = λ threads layout text file asks. of_none c.in-None.is c.in_ok-said.ensures.none threads (three layout text file) asks
