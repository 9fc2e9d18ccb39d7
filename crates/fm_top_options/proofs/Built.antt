-- The command as a parse has it.
use Rattle.std.proofs.Common.{◌≡◌, ◌∙◌, ap, refl, [], ◌∷◌, List, true, Some, codes}
use Rattle.clap.specs.{Words.{App, Rule, Shape, is_simple, new_rule, with_rule}, Faults.{is_simple_and_free}, Simple.{new_shape}}
use Rattle.clap.specs.declared.builder.action.ArgAction.TheVariants.{Set, Append}
use Rattle.clap.specs.declared.builder.value_parser.ValueParser.TheVariants as vp
use Rattle.fm_top_options.specs.Command.{bare_app, command_app, threads_rule, words_rule}

abbrev pub option : Rule
option = record (new_rule (codes "threads")) {
  long = Some (codes "threads");
  action = Some Set;
  range = Some (record { start_inclusive = 1; end_inclusive = 1 });
  parser = Some vp.String;
}

abbrev pub others : Rule
others = record (new_rule (codes "words")) {
  index = Some 1;
  action = Some Append;
  range = Some (record { start_inclusive = 1; end_inclusive = 1 });
  parser = Some vp.String;
}

abbrev pub rules : List Rule
rules = option ∷ others ∷ []

abbrev pub shape : Shape
shape = record (new_shape (codes "query")) {
  rules = rules;
  no_binary_name = true;
  disable_help_flag = true;
  disable_help_subcommand = true;
  disable_version_flag = true;
  is_built = true;
}

abbrev pub app : App
app = record { top = shape; subs = [] }

pub is_simple-command : is_simple command_app ≡ true
is_simple-command = refl

pub is_free-command : is_simple_and_free command_app ≡ true
is_free-command = refl

-- The bare command, with the option and then the words.
pub is_command : {bare one both : App} {option words : Rule} → bare ≡ bare_app → one ≡ with_rule bare option → option ≡ threads_rule
    → both ≡ with_rule one words → words ≡ words_rule → both ≡ command_app
is_command {bare} {one} {both} {option} {words} is first option_is then words_is =
    then ∙ ap (λ (it : App). with_rule it words) (first ∙ ap (λ (it : App). with_rule it option) is ∙ ap (with_rule bare_app) option_is)
    ∙ ap (with_rule (with_rule bare_app threads_rule)) words_is
