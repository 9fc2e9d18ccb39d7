use Rattle.std.proofs.Common.{ℕ, List, subst, sym}
use Rattle.fm_top_options.specs.Options.{texts}
use Rattle.std.proofs.lemmas.Option.{IfSome_then}
use Rattle.fm_top.{specs.Words.{IsThreaded, three}, proofs.{Numbers.{on_none}, Requests.{is_ask, no_ask}, Threaded.{of_none, of_some}}}
use Rattle.fm_top.proofs.command.ask.ask_words.Goals as goal

pub returns-in-Some-clause-found : goal.returns-in-Some-clause-found
returns-in-Some-clause-found c =
    IfSome_then c.ask_by.result c.ask_by.ensures.found (λ ask. is_ask c.args.question c.requires (of_some _ c.in-Some.is c.in_ok-said.ensures.found))

pub returns-in-Some-clause-none : goal.returns-in-Some-clause-none
returns-in-Some-clause-none c =
    on_none c.ask_by.result (no_ask c.args.question (of_some _ c.in-Some.is c.in_ok-said.ensures.found)) c.ask_by.ensures.none

pub returns-in-None-clause-none : goal.returns-in-None-clause-none
returns-in-None-clause-none c = λ threads layout text file asks.
    of_none c.in-None.is c.in_ok-said.ensures.none threads (three layout text file)
    (subst (λ (w : List ℕ). IsThreaded (texts c.args.words.now) w threads (three layout text file)) (sym c.requires) asks)
