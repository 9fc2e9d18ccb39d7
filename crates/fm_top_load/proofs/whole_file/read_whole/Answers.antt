use Rattle.fm_top_load.proofs.Loads.{reads_whole}
use Rattle.fm_top_load.proofs.whole_file.read_whole.Goals as goal

pub returns-in-Ok-read_rest-clause-reads : goal.returns-in-Ok-read_rest-clause-reads
returns-in-Ok-read_rest-clause-reads g c =
    reads_whole c.whole-stretch.ensures (c.in-Ok-read_rest.ensures.reads _ _ c.in_default-read.ensures.reads) (λ next goes. tt)

pub returns-in-Ok-read_rest-clause-reads_whole : goal.returns-in-Ok-read_rest-clause-reads_whole
returns-in-Ok-read_rest-clause-reads_whole g c =
    reads_whole c.whole-stretch.ensures (c.in-Ok-read_rest.ensures.reads _ _ c.in_default-read.ensures.reads) (λ next goes. goes)

pub returns-clause-reads : goal.returns-clause-reads
returns-clause-reads g c =
    reads_whole c.whole-stretch.ensures (c.in-Err-read_rest.ensures.reads _ _ c.in_default-read.ensures.reads) (λ next goes. tt)

pub returns-clause-reads_whole : goal.returns-clause-reads_whole
returns-clause-reads_whole g c =
    reads_whole c.whole-stretch.ensures (c.in-Err-read_rest.ensures.reads _ _ c.in_default-read.ensures.reads) (λ next goes. tt)
