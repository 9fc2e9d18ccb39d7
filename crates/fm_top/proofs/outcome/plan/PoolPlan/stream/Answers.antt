use Rattle.std.proofs.Common.{rules, refl}
use Rattle.fm_top_stream.specs.Chunks.{stream_file_limit}
use Rattle.fm_top.specs.{Outcome.{no_file, too_many, uneven}, Queries.{PlanEnds}, declared.command.{question.Question.TheVariants.{Stream}, wish.Wish.TheVariants.{Answer}}}
use Rattle.fm_top.proofs.{Loaded.{records_stopped}, Streamed.{streamed_ends}}
use Rattle.fm_top.proofs.outcome.plan.PoolPlan.stream.Goals as goal

pub returns-in_err-answer : goal.returns-in_err-answer
returns-in_err-answer g c =
    let plan = c.args.self in
    let streamed = c.stream_with-streamed.ensures in
    records_stopped plan.file stream_file_limit (PlanEnds (Answer Stream plan.threads) plan.query plan.file.now) streamed.reads no_file
    (λ bytes over. too_many bytes over) refl (λ bytes short rest. uneven bytes short rest) c.stream_with-streamed.result c.in_err-answer.ensures
    streamed.tells (search rules)

pub returns : goal.returns
returns g c =
    let plan = c.args.self in
    let streamed = c.stream_with-streamed.ensures in
    streamed_ends plan.file plan.query plan.threads streamed.reads c.stream_with-streamed.result (λ r. r.0) (λ r. r.1) _ c.in_ok-answer.ensures
    streamed.tells streamed.streams refl
