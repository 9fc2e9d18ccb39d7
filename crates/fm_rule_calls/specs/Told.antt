-- A pass as a memory that tells its history.
use Rattle.std.specs.Prelude.{false, Some, None}
use Rattle.fm_base.specs.{Histories.{made_by}, View.{Told}}
use Rattle.fm_base.specs.View as memory
use Rattle.fm_rule_facts.specs.Views.{View, limit_of, state_in}
use Rattle.fm_rule_calls.specs.Kept.{rest_of}

abbrev pub told_of : View → Told
told_of p = record { seen = p.seen; mine = made_by p.caller p.seen; finds = p.finds; rest = rest_of p }

abbrev pub view_of_pass : View → memory.View
view_of_pass p = record {
  limit = limit_of p.shape;
  state = state_in p;
  caller = p.caller;
  inside = p.inside;
  alone = false;
  told = Some (told_of p);
}

-- the same memory, of which nothing is told
abbrev pub silent_view : View → memory.View
silent_view p = record (view_of_pass p) { told = None }
