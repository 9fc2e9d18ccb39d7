-- The rules on names: which lines may stand behind which.
use Rattle.std.specs.Prelude.{◌≡◌, ℕ, ◌+◌, ◌==◌, Bool, true, false, not, ◌&&◌, ◌||◌, if◌then◌else◌, nat_le, max, Option, Some, None, List, [], ◌∷◌, is_some, bytes_eq}
use Rattle.std.specs.List.{list_any}
use Rattle.fm_base.specs.declared.kind.Kind.{Kind, TheVariants.{Global, Automatic, Confined, Shared}}
use Rattle.fm_script_text.specs.declared.command.Command.{Command}
use Rattle.fm_script_text.specs.declared.command.Command.TheVariants.{Open, Alloc, Slice, Readonly, Get, Set, Add, Cas, Fill, Copy, Mismatch, Alive, Hold, Unhold, Again, Back, Close}
use Rattle.fm_script_text.specs.declared.{line.Line.{Line}, maker.Maker.{Maker}, thing.{Role.{Role}, Thing.{Thing}}, who.Who.{Who}}
use Rattle.fm_script_text.specs.declared.who.Who.TheVariants.{First, Worker, Last}
use Rattle.fm_script_text.specs.declared.thing.Role.TheVariants as role
use Rattle.fm_script_text.specs.declared.thing.Thing.TheVariants as thing

-- ---- what a line does to names

-- a name, and what it stands for
pub record Made : Type 0 where
  pub name : List ℕ
  pub thing : Thing

abbrev pub as_thing : List ℕ → Thing → Option Made
as_thing name thing = Some (record { name = name; thing = thing })

-- what the name of an arena that is opened so stands for
abbrev pub opened : Kind → Thing
opened Global = thing.Arena
opened Automatic = thing.Automatic
opened Confined = thing.Arena
opened Shared = thing.Arena

-- the name that a line makes
abbrev pub made : Command → Option Made
made (Open name kind) = as_thing name (opened kind)
made (Alloc arena name size align) = as_thing name thing.Segment
made (Slice segment name offset size) = as_thing name thing.Segment
made (Readonly segment name) = as_thing name thing.Segment
made (Hold arena name) = as_thing name thing.Hold
made (Again handle name) = as_thing name thing.Handle
made _ = None

-- the name of a hold or a handle that a line gives back
abbrev pub given_back : Command → Option (List ℕ)
given_back (Unhold hold) = Some hold
given_back (Back handle) = Some handle
given_back _ = None

-- whether the names that a line uses may be used so
abbrev pub uses : (List ℕ → Role → Bool) → Command → Bool
uses may (Open name kind) = true
uses may (Alloc arena name size align) = may arena role.Arena
uses may (Slice segment name offset size) = may segment role.Segment
uses may (Readonly segment name) = may segment role.Segment
uses may (Get c) = may c.segment role.Segment
uses may (Set c value) = may c.segment role.Segment
uses may (Add c value) = may c.segment role.Segment
uses may (Cas c old new) = may c.segment role.Segment
uses may (Fill segment byte) = may segment role.Segment
uses may (Copy source target) = may source role.Segment && may target role.Segment
uses may (Mismatch segment other) = may segment role.Segment && may other role.Segment
uses may (Alive arena) = may arena role.Arena
uses may (Hold arena name) = may arena role.Arena
uses may (Unhold hold) = may hold role.Hold
uses may (Again handle name) = may handle role.Handle
uses may (Back handle) = may handle role.Handle
uses may (Close arena by) = may arena role.Arena

-- ---- what was made before

-- the maker of a name, if this line makes it
abbrev pub maker_in : Who → List ℕ → Option Made → Option Maker
maker_in who name None = None
maker_in who name (Some m) = if bytes_eq m.name name then Some (record { who = who; thing = m.thing }) else None

abbrev pub or_else : Option Maker → Option Maker → Option Maker
or_else (Some m) other = Some m
or_else None other = other

-- what the first of these lines that makes the name makes it
abbrev pub maker_of : List ℕ → List Line → Option Maker
maker_of name [] = None
maker_of name (l ∷ ls) = or_else (maker_in l.who name (made l.command)) (maker_of name ls)

abbrev pub is_this : List ℕ → Option (List ℕ) → Bool
is_this name None = false
is_this name (Some other) = bytes_eq other name

-- one of these lines gives the name back
abbrev pub is_given_back : List ℕ → List Line → Bool
is_given_back name lines = list_any (λ l. is_this name (given_back l.command)) lines

-- ---- the rules

-- the first lines, the workers', the last
abbrev pub phase : Who → ℕ
phase First = 0
phase (Worker number) = 1
phase Last = 2

-- the phase that these lines have come to
abbrev pub reached : List Line → ℕ
reached [] = 0
reached (l ∷ ls) = max (phase l.who) (reached ls)

-- what a name stands for, and what it may be used as
abbrev pub plays : Thing → Role → Bool
plays thing.Arena role.Arena = true
plays thing.Automatic role.Arena = true
plays thing.Automatic role.Handle = true
plays thing.Segment role.Segment = true
plays thing.Hold role.Hold = true
plays thing.Handle role.Handle = true
plays _ _ = false

-- the number of the pass: the first and the last lines are pass 0's
abbrev pub pass_of : Who → ℕ
pass_of First = 0
pass_of (Worker number) = number
pass_of Last = 0

-- one pass more than the greatest worker's number
abbrev pub passes_of : List Line → ℕ
passes_of [] = 1
passes_of (l ∷ ls) = max (pass_of l.who + 1) (passes_of ls)

-- a line of the second may use what a line of the first made before
abbrev pub reaches : Who → Who → Bool
reaches First _ = true
reaches (Worker n) (Worker m) = n == m
reaches (Worker n) First = false
reaches (Worker n) Last = true
reaches Last First = false
reaches Last (Worker m) = false
reaches Last Last = true

-- a hold or a handle is used by the pass that made it, until it is given back
abbrev pub is_at_hand : Role → (spent : Bool) → (maker who : Who) → Bool
is_at_hand role.Arena spent maker who = reaches maker who
is_at_hand role.Segment spent maker who = reaches maker who
is_at_hand role.Hold spent maker who = (pass_of maker == pass_of who) && not spent
is_at_hand role.Handle spent maker who = (pass_of maker == pass_of who) && not spent

-- a name that was made so, and maybe given back, may be used in this role by a line of this one
abbrev pub may_use : Option Maker → (spent : Bool) → Who → Role → Bool
may_use None spent who r = false
may_use (Some m) spent who r = plays m.thing r && is_at_hand r spent m.who who

-- a line makes no name that was made before
abbrev pub is_new : (List ℕ → Option Maker) → Option Made → Bool
is_new maker None = true
is_new maker (Some m) = not (is_some (maker m.name))

-- a line that breaks no rule behind these
pub record IsAdmitted (before : List Line) (who : Who) (command : Command) : Type 0 where
  -- all first lines come before all workers' lines, and these before all last lines
  pub ordered : nat_le (reached before) (phase who) ≡ true
  -- its name was made by no line before
  pub new : is_new (λ name. maker_of name before) (made command) ≡ true
  -- each name that it uses was made as what it is used as, by a line that it may use names of, and wasn't given back
  pub known : uses (λ name r. may_use (maker_of name before) (is_given_back name before) who r) command ≡ true

-- what has to be given back
abbrev pub is_owed : Thing → Bool
is_owed thing.Arena = false
is_owed thing.Segment = false
is_owed t = true

-- what the line makes is given back, if it has to be
abbrev pub is_settled : (List ℕ → Bool) → Option Made → Bool
is_settled spent None = true
is_settled spent (Some m) = not (is_owed m.thing) || spent m.name
