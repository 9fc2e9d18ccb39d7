-- One more is kept, where there is room.
use Rattle.fm_records.proofs.Keeping.{kept_full, kept_more}
use Rattle.fm_records.proofs.words.KeptKeep.keep.Goals as goal

pub returns-then-self-lt-MOST_WORDS : goal.returns-then-self-lt-MOST_WORDS
returns-then-self-lt-MOST_WORDS c =
    kept_more c.self.inside.words c.self.inside.len (c.args.word, c.args.found) c.self.view_is c.self.invariant.0 c.if-self-lt-MOST_WORDS.true

pub returns-else-self-lt-MOST_WORDS : goal.returns-else-self-lt-MOST_WORDS
returns-else-self-lt-MOST_WORDS c =
    kept_full c.self.inside.words c.self.inside.len (c.args.word, c.args.found) c.self.view_is c.self.invariant.0 c.self.invariant.1 c.if-self-lt-MOST_WORDS.false
