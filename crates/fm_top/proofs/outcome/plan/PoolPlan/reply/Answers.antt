use Rattle.std.proofs.Common.{◌≡◌, ◌%◌, length, rules}
use Rattle.fm_top_load.specs.Limits.{record_file_limit}
use Rattle.fm_top.specs.{Outcome.{no_file, too_many, uneven}, Queries.{EndsOver, PlanEnds}, Stops.{load_stop}, declared.command.{question.Question.TheVariants.{Query, Tally}, wish.Wish.TheVariants.{Answer}}}
use Rattle.fm_top.proofs.{Loaded.{even_ends, is_read, known_ok, records_stopped, wanting_ends}}
use Rattle.fm_top.proofs.outcome.plan.PoolPlan.reply.Goals as goal

pub returns-in_err-pooled-in-Query : goal.returns-in_err-pooled-in-Query
returns-in_err-pooled-in-Query g c =
    let plan = c.args.self in
    let load = c.load-pooled.ensures in
    rw c.in-Query.is (records_stopped plan.file record_file_limit (PlanEnds (Answer Query plan.threads) plan.query plan.file.now) load.reads no_file
    (λ bytes over. too_many bytes over) c.record_size.ensures.size (λ bytes short rest. uneven bytes short rest) c.load-pooled.result
    c.in_err-pooled-in-Query.ensures load.tells (search rules))

pub returns-in_err-answer-in-Query : goal.returns-in_err-answer-in-Query
returns-in_err-answer-in-Query g c =
    let plan = c.args.self in
    let load = c.load-pooled.ensures in
    let read = is_read plan.file record_file_limit c.load-pooled.result (λ y. y.bytes) c.in_ok-pooled-in-Query.ensures load.whole load.short load.reads
    load.tells in
    rw c.in-Query.is (wanting_ends read (PlanEnds (Answer Query plan.threads) plan.query plan.file.now) (search rules))

pub returns-in_ok-answer-in-Query : goal.returns-in_ok-answer-in-Query
returns-in_ok-answer-in-Query g c =
    let plan = c.args.self in
    let load = c.load-pooled.ensures in
    let read = is_read plan.file record_file_limit c.load-pooled.result (λ y. y.bytes) c.in_ok-pooled-in-Query.ensures load.whole load.short load.reads
    load.tells in
    rw c.in-Query.is (even_ends read plan.query.size (EndsOver (Answer Query plan.threads) plan.query)
    (known_ok (load_stop plan.file) c.load-pooled.result (λ y. length y.bytes % plan.query.size ≡ 0) c.in_ok-pooled-in-Query.ensures
    (rw (← c.record_size.ensures.size) load.even)) _ c.in_ok-answer-in-Query.ensures)

pub returns-in_err-pooled-in-Tally : goal.returns-in_err-pooled-in-Tally
returns-in_err-pooled-in-Tally g c =
    let plan = c.args.self in
    let load = c.load-pooled-in-Tally.ensures in
    rw c.in-Tally.is (records_stopped plan.file record_file_limit (PlanEnds (Answer Tally plan.threads) plan.query plan.file.now) load.reads no_file
    (λ bytes over. too_many bytes over) c.record_size.ensures.size (λ bytes short rest. uneven bytes short rest) c.load-pooled-in-Tally.result
    c.in_err-pooled-in-Tally.ensures load.tells (search rules))

pub returns-in_err-tally-in-Tally : goal.returns-in_err-tally-in-Tally
returns-in_err-tally-in-Tally g c =
    let plan = c.args.self in
    let load = c.load-pooled-in-Tally.ensures in
    let read = is_read plan.file record_file_limit c.load-pooled-in-Tally.result (λ y. y.bytes) c.in_ok-pooled-in-Tally.ensures load.whole load.short load.reads
    load.tells in
    rw c.in-Tally.is (wanting_ends read (PlanEnds (Answer Tally plan.threads) plan.query plan.file.now) (search rules))

pub returns-in_ok-tally-in-Tally : goal.returns-in_ok-tally-in-Tally
returns-in_ok-tally-in-Tally g c =
    let plan = c.args.self in
    let load = c.load-pooled-in-Tally.ensures in
    let read = is_read plan.file record_file_limit c.load-pooled-in-Tally.result (λ y. y.bytes) c.in_ok-pooled-in-Tally.ensures load.whole load.short load.reads
    load.tells in
    rw c.in-Tally.is (even_ends read plan.query.size (EndsOver (Answer Tally plan.threads) plan.query)
    (known_ok (load_stop plan.file) c.load-pooled-in-Tally.result (λ y. length y.bytes % plan.query.size ≡ 0) c.in_ok-pooled-in-Tally.ensures
    (rw (← c.record_size.ensures.size) load.even)) _ c.in_ok-tally-in-Tally.ensures)
