use Rattle.std.proofs.Common.{◌≤◌, ℕ, List, length, subst, sym}
use Rattle.fm_top_load.specs.Limits.{record_file_limit}
use Rattle.fm_top.proofs.Demos.{records_fit}
use Rattle.fm_top.proofs.outcome.demo.make_pool.Goals as goal

pub of_bytes-requires : goal.of_bytes-requires
of_bytes-requires g c =
    subst (λ (bytes : List ℕ). length bytes ≤ record_file_limit) (sym c.in_ok-records.ensures) (records_fit c.args.count c.requires)
