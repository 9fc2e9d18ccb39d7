use Rattle.std.{proofs.Common.{◌≡◌, ◌≢◌, ◌∙◌, List, refl, ap}, specs.Prelude.{Result, Ok}}
use Rattle.fm_base.specs.declared.{arena_id.ArenaId.{ArenaId}, kind.Kind.{Kind, TheVariants.{Automatic}}, refusal.Refusal.{Refusal}}
use Rattle.fm_rule_calls.specs.Kept.{rest_of}
use Rattle.fm_gate.specs.Learnt.{handles_opened}
use Rattle.fm_gate_tests.proofs.tests.numbers.opened.Goals as goal

-- An arena that isn't automatic gives no handle.
no_handle : (kind : Kind) (r : Result ArenaId Refusal) (hs : List ArenaId) → kind ≢ Automatic → handles_opened kind r hs ≡ hs
no_handle Automatic (Ok id) hs by_hand = absurd (by_hand refl)
no_handle kind r hs by_hand = refl

pub returns-clause-nothing : goal.returns-clause-nothing
returns-clause-nothing g c =
    c.a_crew_stands.ensures.nothing _ _ _ c.open_arena.ensures.did.goes
    (c.open_arena.ensures.did.rest
    ∙ ap (λ (hs : List ArenaId). record (rest_of c.args.pass.now) { handles = hs })
    (no_handle c.args.kind c.open_arena.result c.args.pass.now.handles c.requires.by_hand)) c.requires.nothing
