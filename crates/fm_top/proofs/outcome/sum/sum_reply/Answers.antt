use Rattle.std.proofs.Common.{rules, None, refl}
use Rattle.fm_top_load.specs.Limits.{record_file_limit}
use Rattle.fm_top.{specs.{Outcome.{IsSummed, no_file, too_many, uneven}, Run.{EndsBy}, Stops.{load_stop}, Words.{Sum}}, proofs.Loaded.{even_ends, is_read, known_ok, records_stopped, wanting_ends}}
use Rattle.std.proofs.Common.{◌≡◌, ◌%◌, length}
use Rattle.fm_top.proofs.outcome.sum.sum_reply.Goals as goal

pub returns-in_err-loaded : goal.returns-in_err-loaded
returns-in_err-loaded g c =
    let load = c.load-loaded.ensures in
    let sum = c.args.sum.now in
    records_stopped sum.file record_file_limit (λ found. EndsBy (Sum sum.size sum.at sum.kind sum.file.now) found None) load.reads no_file
    (λ bytes over. too_many bytes over) refl (λ bytes short rest. uneven bytes short rest) c.load-loaded.result c.in_err-loaded.ensures load.tells (search rules)

pub returns-in_err-text : goal.returns-in_err-text
returns-in_err-text g c =
    let load = c.load-loaded.ensures in
    let sum = c.args.sum.now in
    let read = is_read sum.file record_file_limit c.load-loaded.result (λ y. y) c.in_ok-loaded.ensures load.whole load.short load.reads load.tells in
    wanting_ends read (λ found. EndsBy (Sum sum.size sum.at sum.kind sum.file.now) found None) (search rules)

pub returns : goal.returns
returns g c =
    let load = c.load-loaded.ensures in
    let sum = c.args.sum.now in
    let read = is_read sum.file record_file_limit c.load-loaded.result (λ y. y) c.in_ok-loaded.ensures load.whole load.short load.reads load.tells in
    even_ends read sum.size (IsSummed sum.size sum.at sum.kind)
    (known_ok (load_stop sum.file) c.load-loaded.result (λ y. length y % sum.size ≡ 0) c.in_ok-loaded.ensures load.even) _ (search rules)
