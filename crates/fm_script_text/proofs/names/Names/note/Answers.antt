use Rattle.std.{proofs.Common.{◌∙◌, ℕ, ap, max, ◌+◌}, specs.{BTreeMap.{get_by_text as maker_of_map}, BTreeSet.{contains_text as is_in}}}
use Rattle.fm_script_text.{specs.{Knowing.{spent_more}, Rules.{given_back}}, proofs.Keeping.{knows_more}}
use Rattle.fm_script_text.proofs.names.Names.note.Goals as goal

pub returns : goal.returns
returns c = λ before l knows is_who is_command admitted.
    knows_more c.args.self.now _ before l c.args.who c.args.command.now knows is_who is_command admitted
    (λ name. ap (λ m. maker_of_map m name) c.in_ok-give_back.ensures.rest ∙ c.in_ok-make.ensures.made name)
    (λ name. c.in_ok-give_back.ensures.given_back name
    ∙ ap (λ s. spent_more (given_back c.args.command.now) name (is_in s name)) c.in_ok-make.ensures.rest)
    c.phase-self.ensures
    (c.max-self.ensures ∙ ap (λ (n : ℕ). max n (c.pass.result + 1)) (c.in_ok-give_back.ensures.passes ∙ c.in_ok-make.ensures.passes)
    ∙ ap (λ (n : ℕ). max c.args.self.now.passes (n + 1)) c.pass.ensures)
