use Rattle.std.proofs.{Common.{sym, ◌∙◌}, lemmas.List.{length-map}}
use Rattle.fm_workers_shares.{specs.Placing.{turns_of}, proofs.Absorbing.{settles}}
use Rattle.fm_workers_shares.proofs.finishing.finish.Goals as goal

pub settle-requires : goal.settle-requires
settle-requires g c =
    settles (turns_of c.args.takers.items) c.requires.giver c.join_parts.ensures.account
    (c.requires.out ∙ sym (length-map c.args.takers.items (λ t. t.turn)))
