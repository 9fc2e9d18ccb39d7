use Rattle.std.proofs.Common.{◌≡◌, ℕ, ◌%◌, ◌<◌, ◌≤◌, length, Err, rules, ap, subst, ◌∙◌}
use Rattle.fm_top_load.specs.{Limits.{record_file_limit}, Records.{ByRecords}}
use Rattle.fm_top_pooled.specs.Grouped.{values_in}
use Rattle.fm_top.specs.{Grouped.{grouped, many, most_values}, Outcome.{even, no_file, too_long, too_many, uneven}, Queries.{EndsOver, PlanEnds}, Stops.{load_stop}}
use Rattle.fm_top.specs.declared.{command.wish.Wish.TheVariants.{Group}, outcome.stop.Stop.TheVariants.{TooLong}}
use Rattle.fm_top.proofs.Loaded.{even_ends, found_ends, is_read, known_ok, records_stopped, wanting_ends}
use Rattle.fm_top.proofs.outcome.group.GroupPlan.reply.Goals as goal

pub returns-in_err-pooled : goal.returns-in_err-pooled
returns-in_err-pooled g c =
    let plan = c.args.self in
    let load = c.load-pooled.ensures in
    records_stopped plan.file record_file_limit (PlanEnds (Group plan.threads) plan.path plan.file.now) load.reads no_file
    (λ bytes over. too_many bytes over) c.root_size.ensures (λ bytes short rest. uneven bytes short rest) c.load-pooled.result
    c.in_err-pooled.ensures load.tells (search rules)

pub returns-then-values_in-gt-VALUES_LIMIT : goal.returns-then-values_in-gt-VALUES_LIMIT
returns-then-values_in-gt-VALUES_LIMIT g c =
    let plan = c.args.self in
    let bytes = c.in_ok-pooled.pooled.bytes in
    let load = c.load-pooled.ensures in
    let read = is_read plan.file record_file_limit c.load-pooled.result (λ y. y.bytes)
    {Says = ByRecords record_file_limit (g.F.Files.view c.args.files.now).holds plan.file.now c.root_size.result} c.in_ok-pooled.ensures load.whole
    load.short load.reads load.tells in
    let whole : length bytes % plan.path.root_size ≡ 0 =
    known_ok (load_stop plan.file) c.load-pooled.result (λ y. length y.bytes % plan.path.root_size ≡ 0) c.in_ok-pooled.ensures
    (rw (← c.root_size.ensures) load.even) in
    let is : c.values_in.result ≡ values_in plan.path (length bytes) = c.values_in.ensures ∙ ap (values_in plan.path) c.len.ensures in
    found_ends read (PlanEnds (Group plan.threads) plan.path plan.file.now) (Err TooLong) tt
    (even bytes too_long read.short whole (many (subst (λ (n : ℕ). most_values < n) is c.if-values_in-gt-VALUES_LIMIT.true)))

pub returns-in_err-group : goal.returns-in_err-group
returns-in_err-group g c =
    let plan = c.args.self in
    let load = c.load-pooled.ensures in
    let read = is_read plan.file record_file_limit c.load-pooled.result (λ y. y.bytes)
    {Says = ByRecords record_file_limit (g.F.Files.view c.args.files.now).holds plan.file.now c.root_size.result} c.in_ok-pooled.ensures load.whole
    load.short load.reads load.tells in
    wanting_ends read (PlanEnds (Group plan.threads) plan.path plan.file.now) (search rules)

pub returns : goal.returns
returns g c =
    let plan = c.args.self in
    let bytes = c.in_ok-pooled.pooled.bytes in
    let load = c.load-pooled.ensures in
    let read = is_read plan.file record_file_limit c.load-pooled.result (λ y. y.bytes)
    {Says = ByRecords record_file_limit (g.F.Files.view c.args.files.now).holds plan.file.now c.root_size.result} c.in_ok-pooled.ensures load.whole
    load.short load.reads load.tells in
    let whole : length bytes % plan.path.root_size ≡ 0 =
    known_ok (load_stop plan.file) c.load-pooled.result (λ y. length y.bytes % plan.path.root_size ≡ 0) c.in_ok-pooled.ensures
    (rw (← c.root_size.ensures) load.even) in
    let is : c.values_in.result ≡ values_in plan.path (length bytes) = c.values_in.ensures ∙ ap (values_in plan.path) c.len.ensures in
    even_ends read plan.path.root_size (EndsOver (Group plan.threads) plan.path) whole _
    (grouped _ (subst (λ (n : ℕ). n ≤ most_values) is c.if-values_in-gt-VALUES_LIMIT.false) c.in_ok-group.ensures)
