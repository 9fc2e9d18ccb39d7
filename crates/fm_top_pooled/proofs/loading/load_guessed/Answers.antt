use Rattle.std.{proofs.Common.{◌≡◌, ℕ, Option, refl, subst, ◌∙◌, arith}, specs.Prelude.{IfOk}}
use Rattle.fm_io.{specs.Files.{Contents}, proofs.Left.{leaves_then}}
use Rattle.fm_top_load.proofs.{Following.{same_reads, reads_then}, Telling.{read_quietly, tells_none, tells_then}}
use Rattle.fm_top_pooled.{specs.Stocked.{HoldsWhole}, proofs.Filed.{first_put, whole_put}}
use Rattle.fm_top_pooled.proofs.loading.load_guessed.Goals as goal

pub returns-in-Err-put_file : goal.returns-in-Err-put_file
returns-in-Err-put_file g c = record {
  holds = tt;
  left = tt;
  reads = same_reads (c.in-Err-put_file.ensures.reads _ _ c.in_default-read.ensures.reads) refl (λ next goes. tt);
  tells = tells_then (read_quietly c.in_default-read.ensures.tells) c.in-Err-put_file.ensures.tells;
}

pub returns-then-reached : goal.returns-then-reached
returns-then-reached g c =
    let put = c.in-Ok-put_file.ensures in
    let first = read_quietly c.in_default-read.ensures.tells in
    record {
      holds = subst (λ (x : Option Contents). HoldsWhole x c.args.file.now.name.now c.in-Ok-put_file.put.0.beside c.in-Ok-put_file.put.0.pool c.in-Ok-put_file.put.0.pass c.in-Ok-put_file.put.0.segment) first.held
          (whole_put put.put refl refl c.if-reached.true);
      left = put.beside ∙ c.in-Ok-stock_of_room.ensures.beside;
      reads = same_reads (put.reads _ _ c.in_default-read.ensures.reads) refl (λ next goes. tt);
      tells = tells_none (leaves_then first (read_quietly put.tells));
    }

pub load_longer-requires-clause-first : goal.load_longer-requires-clause-first
load_longer-requires-clause-first g c =
    let put = c.in-Ok-put_file.ensures in
    first_put put.put refl refl (read_quietly put.tells).held

pub returns : goal.returns
returns g c =
    let put = c.in-Ok-put_file.ensures in
    let quiet = leaves_then (read_quietly c.in_default-read.ensures.tells) (read_quietly put.tells) in
    let count = put.put.count in
    record {
      holds = subst (λ (x : Option Contents). IfOk c.load_longer.result (λ s. HoldsWhole x c.args.file.now.name.now s.beside s.pool s.pass s.segment)) quiet.held
          c.load_longer.ensures.holds;
      left = subst (λ (n : ℕ). IfOk c.load_longer.result (λ s. s.beside ≡ n)) (put.beside ∙ c.in-Ok-stock_of_room.ensures.beside) c.load_longer.ensures.beside;
      reads = reads_then (same_reads (put.reads _ _ c.in_default-read.ensures.reads) refl (λ next by. by.1 c.if-reached.false)) (same_reads c.load_longer.ensures.reads (omega (arith, count)) (λ next goes. goes)) (λ next goes. tt);
      tells = tells_then quiet c.load_longer.ensures.tells;
    }
