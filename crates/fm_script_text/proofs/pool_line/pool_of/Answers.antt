use Rattle.std.proofs.{Common.{◌∙◌, sym}, lemmas.Bool.{both_ways}}
use Rattle.fm_script_text.proofs.Pools.{missed, invalid, large, shape_gives}
use Rattle.fm_script_text.proofs.pool_line.pool_of.Goals as goal

pub returns-in_default-clause-none : goal.returns-in_default-clause-none
returns-in_default-clause-none c = missed c.args.text.now c.shape_of.result c.shape_of.ensures c.in_default.is

pub returns-then-not-is_valid-clause-none : goal.returns-then-not-is_valid-clause-none
returns-then-not-is_valid-clause-none c =
    invalid c.args.text.now c.shape_of.result c.in-Some.shape c.shape_of.ensures c.in-Some.is
    (λ v. both_ways c.is_valid.result c.if-not-is_valid.true (c.is_valid.ensures.1 v))

pub returns-then-words-gt-MOST_WORDS-clause-none : goal.returns-then-words-gt-MOST_WORDS-clause-none
returns-then-words-gt-MOST_WORDS-clause-none c =
    large c.args.text.now c.shape_of.result c.in-Some.shape c.shape_of.ensures c.in-Some.is
    (rw (c.from.ensures, c.from-2.ensures) at c.if-words-gt-MOST_WORDS.true)

pub returns-clause-found : goal.returns-clause-found
returns-clause-found c = record {
  is_valid = c.is_valid.ensures.0 c.if-not-is_valid.false;
  small = rw (c.from.ensures, c.from-2.ensures) at c.if-words-gt-MOST_WORDS.false;
  spelled = (shape_gives c.args.text.now c.in-Some.shape (sym c.shape_of.ensures ∙ c.in-Some.is)).0;
}
