use Rattle.std.{proofs.Common.{refl}, specs.BTreeMap.{get_by_text}}
use Rattle.serde_json.specs.View.{view}
use Rattle.fm_ljson.{specs.Views.{ref_view}, proofs.{Inside.{ref_of-named}, Knowing.{again_safe, learnt_ref}}}
use Rattle.fm_ljson.proofs.known.know_again.Goals as goal

pub returns-in-Some-get-clause-safe : goal.returns-in-Some-get-clause-safe
returns-in-Some-get-clause-safe c =
    again_safe (get_by_text c.args.types.now) (ref_view c.in-Some.reference) c.in-Some-get.known.now _ c.args.place c.requires.safe c.requires.below
    c.in-Some-get.ensures.value (ref_of-named (view c.args.value.now) (ref_view c.in-Some.reference) c.in-Some.ensures) refl refl c.last_of.ensures

pub returns-in-Some-get-clause-known : goal.returns-in-Some-get-clause-known
returns-in-Some-get-clause-known c = λ trees h.
    learnt_ref (get_by_text c.args.types.now) trees h (view c.args.value.now) (ref_view c.in-Some.reference) c.in-Some-get.known.now _ c.in-Some.ensures
    c.in-Some-get.ensures.value refl refl refl c.last_of.ensures
