-- Each stage goes on as its own function says.
use Rattle.std.proofs.Common.{refl}
use Rattle.fm_records_query.proofs.stage.Stage.next.Goals as goal

pub returns-in-Start : goal.returns-in-Start
returns-in-Start c = rw c.in-Start.is c.starts.ensures

pub returns-in-Spelling : goal.returns-in-Spelling
returns-in-Spelling c = rw c.in-Spelling.is c.spells.ensures

pub returns-in-InPath : goal.returns-in-InPath
returns-in-InPath c = rw c.in-InPath.is c.in_path.ensures

pub returns-in-Behind : goal.returns-in-Behind
returns-in-Behind c = rw c.in-Behind.is c.behind.ensures

pub returns-in-Bang : goal.returns-in-Bang
returns-in-Bang c = rw (c.in-Bang.is, c.if-byte-eq61.true) refl

pub returns-in-Compare : goal.returns-in-Compare
returns-in-Compare c = rw c.in-Compare.is c.compares.ensures

pub returns-in-Minus : goal.returns-in-Minus
returns-in-Minus c = rw c.in-Minus.is c.negates.ensures

pub returns-in-Literal : goal.returns-in-Literal
returns-in-Literal c = rw c.in-Literal.is c.in_literal.ensures
