-- A plan that asks nothing.
use Rattle.std.specs.Prelude.{[]}
use Rattle.fm_records_query.specs.Plan.{Plan, plan}

abbrev pub no_plan : Plan
no_plan = plan 1 1 [] []
