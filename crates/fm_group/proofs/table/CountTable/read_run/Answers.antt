use Rattle.std.proofs.{Common.{◌≡◌, ◌*◌, ◌≤◌, ℕ, List, length, replicate, ap, ◌∙◌, subst, arith}, lemmas.{List.{length-replicate, length-take-le, take-append-le, take_all}, Result.{err_from_is_err_and}}}
use Rattle.fm_base.specs.View.{Did}
use Rattle.fm_group.{specs.Reading.{DoesReadNamed}, proofs.{Lasting.{later}, OneRead.{run_read, run_shut}}}
use Rattle.fm_group.proofs.table.CountTable.read_run.Goals as goal

pub returns-in_err-look-clause-did : goal.returns-in_err-look-clause-did
returns-in_err-look-clause-did g c =
    let p = err_from_is_err_and c.from_residual.result c.from_residual.ensures.1 in
    rw (p.1, p.2) (run_shut c.args.self.now c.args.run c.look.new.words c.in_err-look.field-0.0 c.in_err-look.ensures.did c.args.found.now.items c.args.found.now.items)

pub read_named-requires : goal.read_named-requires
read_named-requires g c = later c.requires.can c.in_ok-look.ensures.did.makes c.in_ok-look.ensures.outside

pub returns-clause-did : goal.returns-clause-did
returns-clause-did g c =
    let v = g.M.Memory.view in
    let words = c.look.new.words in
    let count = c.run_length-count.result in
    let zeros : List ℕ = replicate {A = ℕ} 128 0 in
    let all : length (replicate {A = ℕ} 128 0) ≡ 128 = length-replicate {A = ℕ} 128 0 in
    let is = c.run_length-count.ensures in
    let few : 2 * c.run_length-count.result ≤ length (replicate {A = ℕ} 128 0) = omega arith in
    let size : length c.look.new.words ≡ 2 * c.run_length-count.result = c.in_ok-look.ensures.size ∙ length-take-le (2 * count) zeros few in
    run_read c.args.self.now c.args.run words (size ∙ ap (λ n. 2 * n) is) c.in_ok-look.ensures.did c.args.found.now.items c.read_named.new.found.items
    c.read_named.result
    (subst (λ (ws : List ℕ). Did (v c.look.new.m) (v c.read_named.new.m)
    (DoesReadNamed (v c.look.new.m).caller c.args.self.now ws c.args.found.now.items c.read_named.new.found.items c.read_named.result))
    (take-append-le (2 * count) words _ (omega arith) ∙ take_all (2 * count) words (omega arith)) c.read_named.ensures.did)
