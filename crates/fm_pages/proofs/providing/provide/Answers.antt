use Rattle.fm_pages.proofs.Provided.{had_page, none_free, provided, race_lost, refused}
use Rattle.fm_pages.proofs.providing.provide.Goals as goal

pub returns-then-word-ne0 : goal.returns-then-word-ne0
returns-then-word-ne0 g c = had_page c.args.id c.args.part c.step_read_map-word.result c.if-word-ne0.true c.requires.none c.step_read_map-word.ensures.stepped

pub returns-in-Err : goal.returns-in-Err
returns-in-Err g c = none_free c.args.id c.args.part c.step_read_map-word.result c.if-word-ne0.false c.requires.none c.step_read_map-word.ensures.stepped
    c.step_read_map-word.ensures.map (refused _ c.in-Err.ensures)

pub returns-in-Some : goal.returns-in-Some
returns-in-Some g c = race_lost c.args.id c.args.part c.step_read_map-word.result c.in-Ok.page.index c.requires.none
    c.step_read_map-word.ensures.stepped c.in-Ok.ensures.0 c.in-Some.ensures.2 c.free_page.ensures

pub returns-in_default : goal.returns-in_default
returns-in_default g c = provided c.args.id c.args.part c.step_read_map-word.result c.in-Ok.page.index c.requires.none
    c.step_read_map-word.ensures.stepped c.in-Ok.ensures.0 c.in_default.ensures
