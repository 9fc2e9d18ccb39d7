use Rattle.std.proofs.Common.{rules, refl, subst}
use Rattle.fm_top.specs.{Grouped.{IsGroupPlanned}, Outcome.{layout_file_limit}, Queries.{AskEnds, IsPlanned, IsRecordLayout, long_layout, no_layout}, Found.{OfFound}, Stops.{layout_stop, query_stop}, Words.{Ask}}
use Rattle.fm_top_texts.specs.Plans.{IsTextPlanned}
use Rattle.fm_top.specs.declared.command.wish.Wish.TheVariants.{Answer, Group, Texts}
use Rattle.fm_top.proofs.{Asked.{ended, layout_ends, plan_ends, text_ends}, Ends.{asked_file}, Loaded.{is_read, known_ok, stopped_ends}, Outcomes.{some_end}}
use Rattle.fm_top.proofs.outcome.ask.ask_reply.Goals as goal

pub returns-in_err-bytes : goal.returns-in_err-bytes
returns-in_err-bytes g c =
    let ask = c.args.ask.now in
    let load = c.read_whole-bytes.ensures in
    let held = (g.F.Files.view c.args.files.now).holds in
    asked_file (Ask ask.wish ask.layout.now ask.text.now ask.file.now) refl
    (stopped_ends ask.layout layout_file_limit (λ first o. OfFound held ask.file.now (λ last. AskEnds ask.wish ask.layout.now ask.text.now ask.file.now last
    first o))
    load.reads (some_end held ask.file.now _ (λ last. no_layout)) (λ bytes over. some_end held ask.file.now _ (λ last. long_layout bytes over))
    c.read_whole-bytes.result c.in_err-bytes.ensures load.tells (search rules))

pub returns-in_err-layout : goal.returns-in_err-layout
returns-in_err-layout g c =
    let ask = c.args.ask.now in
    let load = c.read_whole-bytes.ensures in
    let read = is_read ask.layout layout_file_limit c.read_whole-bytes.result (λ y. y.items) c.in_ok-bytes.ensures load.whole load.short load.reads
    load.tells in
    let whole = ended layout_file_limit ask.layout c.read_whole-bytes.result c.in_ok-bytes.ensures load.reads_whole in
    layout_ends ask.wish ask.layout.now ask.text.now ask.file.now read whole c.deref.ensures.value c.record_layout.result c.in_err-layout.ensures
    c.record_layout.ensures.refused (search rules)

pub returns-in_err-query-in-Answer : goal.returns-in_err-query-in-Answer
returns-in_err-query-in-Answer g c =
    let ask = c.args.ask.now in
    let load = c.read_whole-bytes.ensures in
    let read = is_read ask.layout layout_file_limit c.read_whole-bytes.result (λ y. y.items) c.in_ok-bytes.ensures load.whole load.short load.reads
    load.tells in
    let whole = ended layout_file_limit ask.layout c.read_whole-bytes.result c.in_ok-bytes.ensures load.reads_whole in
    let layout = known_ok layout_stop c.record_layout.result (IsRecordLayout ask.wish c.deref.result.now) c.in_ok-layout.ensures
    c.record_layout.ensures.layout in
    rw c.in-Answer.is (text_ends (Answer c.in-Answer.question c.in-Answer.threads) ask.layout.now ask.text.now ask.file.now read whole c.deref.ensures.value
    c.in_ok-layout.layout
    (subst (λ w. IsRecordLayout w c.deref.result.now c.in_ok-layout.layout) c.in-Answer.is layout)
    c.plan_for.result c.in_err-query-in-Answer.ensures c.plan_for.ensures.refused (search rules))

pub returns-in-Answer : goal.returns-in-Answer
returns-in-Answer g c =
    let ask = c.args.ask.now in
    let load = c.read_whole-bytes.ensures in
    let read = is_read ask.layout layout_file_limit c.read_whole-bytes.result (λ y. y.items) c.in_ok-bytes.ensures load.whole load.short load.reads
    load.tells in
    let whole = ended layout_file_limit ask.layout c.read_whole-bytes.result c.in_ok-bytes.ensures load.reads_whole in
    let layout = known_ok layout_stop c.record_layout.result (IsRecordLayout ask.wish c.deref.result.now) c.in_ok-layout.ensures
    c.record_layout.ensures.layout in
    let plan = known_ok query_stop c.plan_for.result (IsPlanned c.in-Answer.question ask.text.now c.in_ok-layout.layout) c.in_ok-query-in-Answer.ensures
    c.plan_for.ensures.planned in
    rw c.in-Answer.is (plan_ends (Answer c.in-Answer.question c.in-Answer.threads) ask.layout.now ask.text.now ask.file.now read whole c.deref.ensures.value
    c.in_ok-layout.layout
    (subst (λ w. IsRecordLayout w c.deref.result.now c.in_ok-layout.layout) c.in-Answer.is layout) c.in_ok-query-in-Answer.query plan c.reply.ensures)

pub returns-in_err-plan-in-Texts : goal.returns-in_err-plan-in-Texts
returns-in_err-plan-in-Texts g c =
    let ask = c.args.ask.now in
    let load = c.read_whole-bytes.ensures in
    let read = is_read ask.layout layout_file_limit c.read_whole-bytes.result (λ y. y.items) c.in_ok-bytes.ensures load.whole load.short load.reads
    load.tells in
    let whole = ended layout_file_limit ask.layout c.read_whole-bytes.result c.in_ok-bytes.ensures load.reads_whole in
    let layout = known_ok layout_stop c.record_layout.result (IsRecordLayout ask.wish c.deref.result.now) c.in_ok-layout.ensures
    c.record_layout.ensures.layout in
    rw c.in-Texts.is (text_ends Texts ask.layout.now ask.text.now ask.file.now read whole c.deref.ensures.value c.in_ok-layout.layout
    (subst (λ w. IsRecordLayout w c.deref.result.now c.in_ok-layout.layout) c.in-Texts.is layout)
    c.plan_texts.result c.in_err-plan-in-Texts.ensures c.plan_texts.ensures.refused (search rules))

pub returns : goal.returns
returns g c =
    let ask = c.args.ask.now in
    let load = c.read_whole-bytes.ensures in
    let read = is_read ask.layout layout_file_limit c.read_whole-bytes.result (λ y. y.items) c.in_ok-bytes.ensures load.whole load.short load.reads
    load.tells in
    let whole = ended layout_file_limit ask.layout c.read_whole-bytes.result c.in_ok-bytes.ensures load.reads_whole in
    let layout = known_ok layout_stop c.record_layout.result (IsRecordLayout ask.wish c.deref.result.now) c.in_ok-layout.ensures
    c.record_layout.ensures.layout in
    let plan = known_ok query_stop c.plan_texts.result (IsTextPlanned ask.text.now c.in_ok-layout.layout) c.in_ok-plan-in-Texts.ensures
    c.plan_texts.ensures.planned in
    rw c.in-Texts.is (plan_ends Texts ask.layout.now ask.text.now ask.file.now read whole c.deref.ensures.value c.in_ok-layout.layout
    (subst (λ w. IsRecordLayout w c.deref.result.now c.in_ok-layout.layout) c.in-Texts.is layout) c.in_ok-plan-in-Texts.plan plan c.texts_reply.ensures)

pub returns-in_err-path-in-Group : goal.returns-in_err-path-in-Group
returns-in_err-path-in-Group g c =
    let ask = c.args.ask.now in
    let load = c.read_whole-bytes.ensures in
    let read = is_read ask.layout layout_file_limit c.read_whole-bytes.result (λ y. y.items) c.in_ok-bytes.ensures load.whole load.short load.reads
    load.tells in
    let whole = ended layout_file_limit ask.layout c.read_whole-bytes.result c.in_ok-bytes.ensures load.reads_whole in
    let layout = known_ok layout_stop c.record_layout.result (IsRecordLayout ask.wish c.deref.result.now) c.in_ok-layout.ensures
    c.record_layout.ensures.layout in
    rw c.in-Group.is (text_ends (Group c.in-Group.threads) ask.layout.now ask.text.now ask.file.now read whole c.deref.ensures.value c.in_ok-layout.layout
    (subst (λ w. IsRecordLayout w c.deref.result.now c.in_ok-layout.layout) c.in-Group.is layout)
    c.plan_group.result c.in_err-path-in-Group.ensures c.plan_group.ensures.refused (search rules))

pub returns-in-Group : goal.returns-in-Group
returns-in-Group g c =
    let ask = c.args.ask.now in
    let load = c.read_whole-bytes.ensures in
    let read = is_read ask.layout layout_file_limit c.read_whole-bytes.result (λ y. y.items) c.in_ok-bytes.ensures load.whole load.short load.reads
    load.tells in
    let whole = ended layout_file_limit ask.layout c.read_whole-bytes.result c.in_ok-bytes.ensures load.reads_whole in
    let layout = known_ok layout_stop c.record_layout.result (IsRecordLayout ask.wish c.deref.result.now) c.in_ok-layout.ensures
    c.record_layout.ensures.layout in
    let plan = known_ok query_stop c.plan_group.result (IsGroupPlanned ask.text.now c.in_ok-layout.layout) c.in_ok-path-in-Group.ensures
    c.plan_group.ensures.planned in
    rw c.in-Group.is (plan_ends (Group c.in-Group.threads) ask.layout.now ask.text.now ask.file.now read whole c.deref.ensures.value c.in_ok-layout.layout
    (subst (λ w. IsRecordLayout w c.deref.result.now c.in_ok-layout.layout) c.in-Group.is layout) c.in_ok-path-in-Group.path plan c.reply-in-Group.ensures)
