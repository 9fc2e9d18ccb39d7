-- What is kept of the names of the lines before.
use Rattle.std.specs.{Prelude.{◌≡◌, ℕ, Bool, true, if◌then◌else◌, Option, Some, None, List, bytes_eq}, BTreeMap.{get_by_text}, BTreeSet.{contains_text}}
use Rattle.fm_script_text.specs.declared.{line.Line.{Line}, maker.Maker.{Maker}, names.Names.{Names}, thing.Role.{Role}, who.Who.{Who}}
use Rattle.fm_script_text.specs.Rules.{Made, is_given_back, maker_of, may_use, passes_of, reached}

-- who is kept as the maker of a name
abbrev pub maker_at : Names → List ℕ → Option Maker
maker_at names name = get_by_text names.makers name

-- whether a name is kept as given back
abbrev pub is_spent_at : Names → List ℕ → Bool
is_spent_at names name = contains_text names.given_back name

-- whether this one may use a name so
abbrev pub may_use_at : Names → Who → List ℕ → Role → Bool
may_use_at names who name role = may_use (maker_at names name) (is_spent_at names name) who role

-- the maker of a name behind a line that makes this, where it was the last one before
abbrev pub newer : Who → Option Made → List ℕ → Option Maker → Option Maker
newer who None name old = old
newer who (Some m) name old = if bytes_eq m.name name then Some (record { who = who; thing = m.thing }) else old

-- whether a name is given back behind a line that gives this back
abbrev pub spent_more : Option (List ℕ) → List ℕ → Bool → Bool
spent_more None name old = old
spent_more (Some other) name old = if bytes_eq other name then true else old

-- the names are those of these lines
pub record Knows (names : Names) (before : List Line) : Type 0 where
  pub makers : (name : List ℕ) → maker_at names name ≡ maker_of name before
  pub given_back : (name : List ℕ) → is_spent_at names name ≡ is_given_back name before
  pub phase : names.phase ≡ reached before
  pub passes : names.passes ≡ passes_of before
