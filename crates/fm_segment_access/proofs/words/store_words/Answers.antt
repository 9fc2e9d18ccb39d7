use Rattle.std.proofs.{Common.{arith, sym, subst, drop, ◌*◌}, lemmas.List.{length-take}}
use Rattle.fm_base.{specs.Learnt.{AfterStores}, proofs.Rows.{acts_none, acts_reach, acts_more, writes_in_a_row}}
use Rattle.fm_base_bytes.{specs.Words.{words_from}, proofs.Words.{length-words_from, words_from-append}}
use Rattle.fm_segment_access.proofs.Reading.{words_read}
use Rattle.fm_segment_access.proofs.words.store_words.Goals as goal

pub loop-k-init : goal.loop-k-init
unfolding words_from
loop-k-init g c = (acts_none writes_in_a_row c.args.first c.args.count c.requires.sound c.requires.reach, omega arith)

pub store_words-requires : goal.store_words-requires
store_words-requires g c =
    let k = c.loop-k.k in
    let n = c.min-more.result in
    let least = c.min-more.ensures in
    let read = words_read c.args.bytes.now c.read_u64_into.new.dst c.loop-k.words k n
    (let d = c.read_u64_into.auto.dst in omega (arith, length-take n c.loop-k.words))
    (let whole = c.requires.whole in omega arith) c.read_u64_into.ensures in
    rw (read, length-words_from n (drop (8 * k) c.args.bytes.now))
    (acts_reach c.loop-k.invariant.0 k (length-words_from k c.args.bytes.now) c.args.count n c.requires.reach (omega arith))

pub loop-k-preserved : goal.loop-k-preserved
loop-k-preserved g c =
    let v = g.M.Memory.view in
    let bytes = c.args.bytes.now in
    let n = c.min-more.result in
    let least = c.min-more.ensures in
    let read = words_read bytes c.read_u64_into.new.dst c.loop-k.words c.loop-k.k n
    (let d = c.read_u64_into.auto.dst in omega (arith, length-take n c.loop-k.words))
    (let whole = c.requires.whole in omega arith) c.read_u64_into.ensures in (
      subst (λ ws. AfterStores (v c.args.m.now) (v c.store_words.new.self) c.args.first ws) (sym (words_from-append c.loop-k.k n bytes))
          (acts_more c.loop-k.invariant.0 c.loop-k.k (length-words_from c.loop-k.k bytes) writes_in_a_row (words_from n (drop (8 * c.loop-k.k) bytes))
          (rw read at c.store_words.ensures)),
      omega arith,
    )
