use Rattle.std.proofs.Common.{◌≡◌, rules, refl, sym, ap}
use Rattle.fm_top.{specs.Outcome.{answered, layout_file_limit, layout_outcome}, proofs.{Listed.{listed_ends, refused_ends}, Loaded.{is_read, stopped_ends, wanting_ends}, Outcomes.{long_layout_ends}}}
use Rattle.fm_top.proofs.outcome.layout.layout_reply.Goals as goal

pub returns-in_err-bytes : goal.returns-in_err-bytes
returns-in_err-bytes g c =
    let load = c.read_whole-bytes.ensures in
    let command = c.args.command.now in
    stopped_ends command.file layout_file_limit (λ found o. o ≡ layout_outcome command.text command.file.now found) load.reads refl
    (λ bytes over. sym (long_layout_ends command.text bytes over)) c.read_whole-bytes.result c.in_err-bytes.ensures load.tells (search rules)

pub returns-in_err-layout : goal.returns-in_err-layout
returns-in_err-layout g c =
    let load = c.read_whole-bytes.ensures in
    let command = c.args.command.now in
    let read = is_read command.file layout_file_limit c.read_whole-bytes.result (λ y. y.items) c.in_ok-bytes.ensures load.whole load.short load.reads
    load.tells in
    refused_ends command.text read c.deref.ensures.value c.layout_from_json.result c.layout_from_json.ensures.read c.in_err-layout.ensures (search rules)

pub returns-in_err-text_of_layout : goal.returns-in_err-text_of_layout
returns-in_err-text_of_layout g c =
    let load = c.read_whole-bytes.ensures in
    let command = c.args.command.now in
    let read = is_read command.file layout_file_limit c.read_whole-bytes.result (λ y. y.items) c.in_ok-bytes.ensures load.whole load.short load.reads
    load.tells in
    wanting_ends read (λ found o. o ≡ layout_outcome command.text command.file.now found) (search rules)

pub returns : goal.returns
returns g c =
    let load = c.read_whole-bytes.ensures in
    let command = c.args.command.now in
    let read = is_read command.file layout_file_limit c.read_whole-bytes.result (λ y. y.items) c.in_ok-bytes.ensures load.whole load.short load.reads
    load.tells in
    listed_ends command.text read c.deref.ensures.value c.layout_from_json.result c.layout_from_json.ensures.read c.in_ok-layout.ensures _
    (ap answered c.in_ok-text_of_layout.ensures)
