-- Two handles of an arena, of which one is given back.
use Rattle.std.proofs.Common.{Ok}
use Rattle.fm_rule_facts.specs.Views.{View}
use Rattle.fm_close.specs.declared.gave_back.GaveBack.{GaveBack}
use Rattle.fm_arena.specs.{declared.handle.AutoHandle.{AutoHandle}, Handles.{CanGiveBack, AfterAgain, AfterGiveBack}, Lasting.{HandleLasts}}

-- The other handle can be given back after the first.
pub other_left : {p q r : View} {handle other : AutoHandle} {gave : GaveBack} → HandleLasts → CanGiveBack p handle → AfterAgain p q handle (Ok other)
    → AfterGiveBack q r handle.arena gave → CanGiveBack r other
other_left {p = p} {q = q} {r = r} {handle = handle} {other = other} {gave = gave} law can more less =
    let two = law.beside.both p q handle (Ok other) more can.has in
    record { outside = less.outside; has = (law.beside.one_left q r handle other gave two less).1 }
