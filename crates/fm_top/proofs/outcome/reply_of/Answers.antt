use Rattle.std.proofs.Common.{◌≡◌, Err, rules}
use Rattle.fm_top_options.specs.Options.{texts}
use Rattle.fm_top.{specs.{Asked.{request_of}, Run.{HasOutcome, IsOutcome, faulty, asked}}, proofs.{Ends.{ends_weaker, shows_none}, ReadFor.{no_reads}}}
use Rattle.fm_top.proofs.{Requests.{same_request}, Runs.{can_be_asked}, Threaded.{of_none, of_some}}
use Rattle.fm_top.specs.declared.outcome.stop.Stop.TheVariants.{Memory, Usage}
use Rattle.fm_top.proofs.outcome.reply_of.Goals as goal

pub command_reply-requires-after_bounds : goal.command_reply-requires-after_bounds
command_reply-requires-after_bounds g c κs within =
    can_be_asked (texts c.args.words.now) (request_of c.in-Some.command) (of_some _ c.in-Some.is c.in_ok-command.ensures.found)

pub returns-in_err-command-clause-ends : goal.returns-in_err-command-clause-ends
returns-in_err-command-clause-ends g c =
    let wants : c.from_residual.result ≡ Err Memory = search rules in
    rw wants (record { outcome = tt; asked = λ is. absurd (cc); reads = λ request asks. no_reads; files = shows_none (Err Memory) tt })

pub returns-in-None-clause-ends : goal.returns-in-None-clause-ends
returns-in-None-clause-ends g c = record {
  outcome = faulty (of_none c.in-None.is c.in_ok-command.ensures.none);
  asked = λ failed. absurd (cc);
  reads = λ request asks. no_reads;
  files = shows_none (Err Usage) tt;
}

pub returns-in-Some-clause-ends : goal.returns-in-Some-clause-ends
returns-in-Some-clause-ends g c =
    let words = texts c.args.words.now in
    let request = request_of c.in-Some.command in
    let asks = of_some _ c.in-Some.is c.in_ok-command.ensures.found in
    let ends = c.command_reply.ensures in
    let held = (g.F.Files.view c.args.files.now).holds in
    record {
      outcome = ends_weaker (HasOutcome request held) (IsOutcome words held) c.command_reply.result (λ o has. asked request o asks has) ends.outcome;
      asked = λ failed. (request, asks);
      reads = λ other asks'. rw (← same_request words request other asks asks') ends.reads;
      files = ends.files;
    }
