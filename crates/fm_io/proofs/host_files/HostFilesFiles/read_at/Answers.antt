use Rattle.std.proofs.Common.{ap}
use Rattle.fm_io.proofs.Asked.{asked_once}
use Rattle.fm_io.proofs.host_files.HostFilesFiles.read_at.Goals as goal

pub returns-in-Ok-Missing-clause-asks : goal.returns-in-Ok-Missing-clause-asks
returns-in-Ok-Missing-clause-asks g c =
    asked_once c.read_by-read.result (ap (λ f. f.system) c.in_ok-way.ensures.rest) c.in_ok-way.ensures.way c.in_ok-way.ensures.kept c.read_by-read.ensures.noted
    (rw c.in-Ok-Missing.field-0-is at c.in-Ok-Missing.ensures) c.end_of-self.ensures

pub returns-in-Err-Failed-clause-asks : goal.returns-in-Err-Failed-clause-asks
returns-in-Err-Failed-clause-asks g c =
    asked_once c.read_by-read.result (ap (λ f. f.system) c.in_ok-way.ensures.rest) c.in_ok-way.ensures.way c.in_ok-way.ensures.kept c.read_by-read.ensures.noted
    (rw c.in-Err-Failed.field-0-is at c.in-Err-Failed.ensures) c.end_of-self.ensures

pub returns-in_default-2-clause-asks : goal.returns-in_default-2-clause-asks
returns-in_default-2-clause-asks g c =
    asked_once c.read_by-read.result (ap (λ f. f.system) c.in_ok-way.ensures.rest) c.in_ok-way.ensures.way c.in_ok-way.ensures.kept c.read_by-read.ensures.noted
    c.in_default.ensures c.end_of-self.ensures
