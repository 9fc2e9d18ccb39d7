use Rattle.std.proofs.Common.{◌≡◌, ◌%◌, length, rules, ap, refl}
use Rattle.fm_top_load.specs.Limits.{record_file_limit}
use Rattle.fm_top.specs.{Outcome.{answered, no_file, too_many, uneven}, Queries.{EndsOver, PlanEnds}, Stops.{load_stop}, declared.command.wish.Wish.TheVariants.{Texts}}
use Rattle.fm_top.proofs.Loaded.{even_ends, is_read, known_ok, records_stopped}
use Rattle.fm_top.proofs.outcome.texts.texts_reply.Goals as goal

pub returns-in_err-loaded : goal.returns-in_err-loaded
returns-in_err-loaded g c =
    let load = c.load-loaded.ensures in
    records_stopped c.args.file record_file_limit (PlanEnds Texts c.args.plan c.args.file.now) load.reads no_file
    (λ bytes over. too_many bytes over) refl (λ bytes short rest. uneven bytes short rest) c.load-loaded.result c.in_err-loaded.ensures load.tells (search rules)

pub returns : goal.returns
returns g c =
    let load = c.load-loaded.ensures in
    let read = is_read c.args.file record_file_limit c.load-loaded.result (λ y. y) c.in_ok-loaded.ensures load.whole load.short load.reads load.tells in
    even_ends read c.args.plan.size (EndsOver Texts c.args.plan)
    (known_ok (load_stop c.args.file) c.load-loaded.result (λ y. length y % c.args.plan.size ≡ 0) c.in_ok-loaded.ensures load.even) _ (ap answered c.of.ensures)
