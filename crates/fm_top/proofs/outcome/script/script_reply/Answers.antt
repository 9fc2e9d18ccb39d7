use Rattle.std.proofs.Common.{rules}
use Rattle.fm_top.specs.{Outcome.{script_file_limit}, Scripts.{ScriptEnds, no_script, long_script}, Stops.{script_stop}}
use Rattle.fm_script_text.specs.Scripts.{IsScript}
use Rattle.fm_top.proofs.{Loaded.{is_read, known_ok, stopped_ends, wanting_ends}, Scripted.{ran_ends, refused_ends}}
use Rattle.fm_top.proofs.outcome.script.script_reply.Goals as goal

pub returns-in_err-bytes : goal.returns-in_err-bytes
returns-in_err-bytes g c =
    let load = c.read_whole-bytes.ensures in
    stopped_ends c.args.file script_file_limit (ScriptEnds c.args.file.now) load.reads no_script
    (λ bytes over. long_script bytes over) c.read_whole-bytes.result c.in_err-bytes.ensures load.tells (search rules)

pub returns-in_err-script : goal.returns-in_err-script
returns-in_err-script g c =
    let load = c.read_whole-bytes.ensures in
    let read = is_read c.args.file script_file_limit c.read_whole-bytes.result (λ y. y.items) c.in_ok-bytes.ensures load.whole load.short load.reads
    load.tells in
    refused_ends read c.deref.ensures.value c.parse_script.result c.in_err-script.ensures c.parse_script.ensures.refused (search rules)

pub returns-in_err-report_reply : goal.returns-in_err-report_reply
returns-in_err-report_reply g c =
    let load = c.read_whole-bytes.ensures in
    let read = is_read c.args.file script_file_limit c.read_whole-bytes.result (λ y. y.items) c.in_ok-bytes.ensures load.whole load.short load.reads
    load.tells in
    wanting_ends read (ScriptEnds c.args.file.now) (search rules)

pub returns : goal.returns
returns g c =
    let load = c.read_whole-bytes.ensures in
    let read = is_read c.args.file script_file_limit c.read_whole-bytes.result (λ y. y.items) c.in_ok-bytes.ensures load.whole load.short load.reads
    load.tells in
    let script = known_ok script_stop c.parse_script.result (IsScript c.deref.result.now) c.in_ok-script.ensures c.parse_script.ensures.script in
    ran_ends read c.deref.ensures.value c.in_ok-script.script script _ c.in_ok-report_reply.ensures
