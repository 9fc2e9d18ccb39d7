-- Passes of one pool are beside each other after calls of either.
use Rattle.std.proofs.Common.{◌∙◌, sym, List}
use Rattle.fm_base.specs.{Calls.{Entry}, View.{Makes}}
use Rattle.fm_rule_facts.specs.Views.{View}
use Rattle.fm_rule_calls.specs.Told.{view_of_pass}
use Rattle.fm_arena.{specs.Lasting.{SamePool}, proofs.Lasting.{stays}}
use Rattle.fm_memory_doubles.specs.Beside.{AreBeside}

-- After a call of the first.
pub beside_ours : {p q theirs : View} {own : List Entry} → AreBeside p theirs → Makes (view_of_pass p) (view_of_pass q) own → AreBeside q theirs
beside_ours {p = p} {q = q} {own = own} b m =
    let on : SamePool p q = stays p q own m in
    record {
      same = record { home = b.same.home ∙ sym on.home; shape = b.same.shape ∙ sym on.shape };
      outside = b.outside;
    }
