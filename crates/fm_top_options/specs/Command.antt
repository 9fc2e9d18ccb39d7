-- The command by which the words are read.
use Rattle.std.specs.Prelude.{ℕ, [], List, true, Some, codes, option_map, unwrap_or}
use Rattle.clap.specs.Words.{App, Rule, first_value, found_of, matched_of, new_app, new_rule, raw_values, with_rule}
use Rattle.clap.specs.declared.{builder.action.ArgAction.TheVariants.{Set, Append}, parser.matches.ArgMatches.{ArgMatches}}
use Rattle.fm_top_options.specs.Options.{Say}

-- `--threads`, which has a text and is used once
abbrev pub threads_rule : Rule
threads_rule = record (new_rule (codes "threads")) { long = Some (codes "threads"); action = Some Set }

-- the positional words
abbrev pub words_rule : Rule
words_rule = record (new_rule (codes "words")) { action = Some Append }

-- a command with no name before its words and no option for help or the version
abbrev pub bare_app : App
bare_app = record {
  top = record (new_app (codes "query")).top { no_binary_name = true; disable_help_flag = true; disable_version_flag = true };
  subs = [];
}

abbrev pub command_app : App
command_app = with_rule (with_rule bare_app threads_rule) words_rule

-- the positional words that the command matched
abbrev pub words_in : ArgMatches → List (List ℕ)
words_in matches = unwrap_or (option_map raw_values (matched_of (found_of matches) (codes "words"))) []

-- what the command matched is what the words say
abbrev pub Match : List (List ℕ) → ArgMatches → Type 0
Match words matches = Say words (first_value (found_of matches) (codes "threads")) (words_in matches)
