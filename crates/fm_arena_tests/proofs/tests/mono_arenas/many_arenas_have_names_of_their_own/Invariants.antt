use Rattle.std.proofs.Common.{◌≡◌, None}
use Rattle.fm_arena_tests.proofs.tests.mono_arenas.many_arenas_have_names_of_their_own.Given as goal

abbrev pub invariant-loop-slot : goal.invariant-loop-slot
invariant-loop-slot g l = l.m.inside ≡ None
