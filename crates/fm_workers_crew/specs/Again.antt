-- How often crews come again.
use Rattle.std.specs.Prelude.{◌+◌, ◌<◌, ◌≤◌, ℕ, length}
use Rattle.fm_base.specs.declared.caller.Caller.{Caller}
use Rattle.fm_rule_facts.specs.{Hands.{last_term, most_draws}, Views.{View, HasCaller}}
use Rattle.fm_workers_crew.specs.Crew.{AreTooMany, IsWhole, how_many_of}

-- A number's next term comes only once its last caller was gathered: of each caller's number, at least as many were gathered as its term says
abbrev pub TermsAreCounted : Type 0
TermsAreCounted = (p : View) (c : Caller) → IsWhole p → HasCaller p c → c.term ≤ how_many_of c.number p.gathered

-- So tasks aren't too many for a whole pass where fewer than 2^32 - 1 callers of each number were gathered into it, the pool has a number for each of
-- them and its own, and so many draws can be counted
abbrev pub NumbersComeBack : Type 0
NumbersComeBack =
    (p : View) (more : ℕ) → IsWhole p → ((n : ℕ) → how_many_of n p.gathered < last_term) → more < p.shape.passes → length p.gathered + more < most_draws
    → ¬ (AreTooMany p more)

pub record CrewsComeAgain : Type 0 where
  pub counted : TermsAreCounted
  pub back : NumbersComeBack
