use Rattle.std.{proofs.Common.{ℕ, List, Option, ap, length, subst, sym, ◌∙◌, arith}}
use Rattle.fm_io.specs.Files.{Contents, AreBytesFrom}
use Rattle.fm_top_load.specs.{Whole.{IsPortion}}
use Rattle.fm_top_load.proofs.{Following.{same_reads}, Telling.{read_quietly}}
use Rattle.fm_top_pooled.specs.Stocked.{HoldsWhole}
use Rattle.fm_top_pooled.proofs.{Filed.{first_whole, list_stands}, Shows.{length-pooled}}
use Rattle.fm_top_pooled.proofs.loading.load_longer.Goals as goal

pub returns-then-len-eq0-clause-holds : goal.returns-then-len-eq0-clause-holds
returns-then-len-eq0-clause-holds g c =
    let told = (g.F.Files.view c.args.files.now).holds in
    let took = subst (λ n. IsPortion 67108864 67108865 told c.args.name.now n c.read.new.self) c.size.ensures.size c.in_default.ensures.took in
    first_whole c.requires.first took (omega arith) (sym c.len.ensures ∙ c.if-len-eq0.true)

pub read_rest-requires : goal.read_rest-requires
read_rest-requires g c =
    let h = c.requires.first in
    let short = h.short in
    let size = c.size.ensures.size in
    let items = c.in-Ok.ensures in
    let now = (g.F.Files.view c.read.new.files).holds in
    let same = (read_quietly c.in_default.ensures.tells).held in
    record {
      read = record { small = omega arith; short = omega (arith, short, size) };
      first = subst (λ (q : Option Contents × List ℕ). AreBytesFrom q.0 c.args.name.now 0 q.1) (λ i. (sym same i, sym items i)) h.first;
      count = ap length items ∙ length-pooled c.args.first.pass c.args.first.segment ∙ sym size;
      next = subst (λ (x : Option Contents). IsPortion 67108864 67108865 x c.args.name.now c.size.result c.read.new.self) (sym same) c.in_default.ensures.took;
      past = omega arith;
    }

pub returns-in-Err-read_rest-clause-reads : goal.returns-in-Err-read_rest-clause-reads
returns-in-Err-read_rest-clause-reads g c =
    same_reads (c.in-Err-read_rest.ensures.reads _ _ c.in_default.ensures.reads) c.size.ensures.size (λ next goes. tt)

pub returns-in-Ok-stock_of_bytes-clause-reads : goal.returns-in-Ok-stock_of_bytes-clause-reads
returns-in-Ok-stock_of_bytes-clause-reads g c =
    same_reads (c.in-Ok-read_rest.ensures.reads _ _ c.in_default.ensures.reads) c.size.ensures.size (λ next goes. tt)

pub returns-in-Err-stock_of_bytes-clause-reads : goal.returns-in-Err-stock_of_bytes-clause-reads
returns-in-Err-stock_of_bytes-clause-reads g c =
    same_reads (c.in-Ok-read_rest.ensures.reads _ _ c.in_default.ensures.reads) c.size.ensures.size (λ next goes. tt)

pub returns-in-Ok-stock_of_bytes-clause-holds : goal.returns-in-Ok-stock_of_bytes-clause-holds
returns-in-Ok-stock_of_bytes-clause-holds g c =
    let stock = c.in-Ok-stock_of_bytes.ensures in
    let rest = c.in-Ok-read_rest.ensures in
    let s = c.in-Ok-stock_of_bytes.stock in
    subst (λ (x : Option Contents). HoldsWhole x c.args.name.now s.beside s.pool s.pass s.segment) (read_quietly c.in_default.ensures.tells).held
    (list_stands stock.stock stock.bytes rest.whole rest.short)
