use Rattle.std.proofs.Common.{◌≡◌, inl, inr, ◌⊎◌, ◌+◌, ◌*◌, arith, sym, subst, drop, length}
use Rattle.std.proofs.lemmas.{Bool.{cases_lt}, List.{length-take}}
use Rattle.fm_base.{specs.Learnt.{AfterStores}, proofs.Rows.{acts_none, acts_more, writes_in_a_row}}
use Rattle.fm_base_bytes.{specs.Words.{word_count, words_from}, proofs.Words.{length-words_from, words_from-append}}
use Rattle.fm_mono.specs.Shown.{view_of}
use Rattle.fm_c_calls.proofs.Words.{words_put}
use Rattle.fm_c_calls.proofs.held.store.Goals as goal

pub loop-k-init : goal.loop-k-init
unfolding words_from
loop-k-init c = (acts_none writes_in_a_row c.args.first (word_count (length c.args.bytes.now)) c.requires.sound c.requires.reach, omega arith)

pub loop-k-preserved : goal.loop-k-preserved
loop-k-preserved c =
    let bytes = c.args.bytes.now in
    let k = c.loop-k.k in
    let n = c.min-more.result in
    let end = c.min-end.result in
    let least = c.min-more.ensures in
    let ends = c.min-end.ensures in
    let size : length c.words_of.new.into ≡ c.min-more.result =
    (let d = c.words_of.auto.into in omega (arith, length-take n c.loop-k.words)) in
    let last : (c.min-end.result ≡ 8 * (c.loop-k.k + c.min-more.result)) ⊎ (c.min-end.result ≡ length c.args.bytes.now) =
    elim (cases_lt (8 * (k + n)) (length bytes)) [ inl below ↦ inl (omega arith) | inr past ↦ inr (omega arith) ] in
    let read = words_put bytes c.words_of.new.into c.loop-k.words k n end size (omega arith) (omega arith) (omega arith) last c.words_of.ensures in (
      subst (λ ws. AfterStores (view_of c.args.memory.now) (view_of c.store_words.new.self) c.args.first ws) (sym (words_from-append c.loop-k.k n bytes))
          (acts_more c.loop-k.invariant.0 c.loop-k.k (length-words_from c.loop-k.k bytes) writes_in_a_row (words_from n (drop (8 * c.loop-k.k) bytes))
          (rw read at c.store_words.ensures)),
      omega arith,
    )
