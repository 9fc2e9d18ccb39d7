-- The first view, and how views are cut in two and put together.
use Rattle.std.specs.Prelude.{◌≡◌, Bool, true, false, List, [], ◌∷◌, None}
use Rattle.fm_words.specs.declared.shape.Shape.{Shape}
use Rattle.fm_base.specs.{Arenas.{only_caller}, Calls.{Entry}, Finds.{Gathered}, declared.caller.Caller.{Caller}}
use Rattle.fm_rule_facts.specs.Hands.{nothing, Number, no_number, number_taken, number_learnt, number_drawn, number_left, number_joined, number_of_joined}
use Rattle.fm_rule_facts.specs.{Parts.{unread}, Views.{View}}

abbrev pub view_of : Shape → Bool → List Entry → View
view_of z live seen = record {
  home = [];
  shape = z;
  live = live;
  caller = only_caller;
  seen = seen;
  inside = None;
  mark = None;
  closes = [];
  sweeps = [];
  swept = unread;
  hand = nothing;
  number = no_number;
  met = [];
  finds = [];
  gathered = [];
  whole = false;
  holds = [];
  handles = [];
  pages = [];
  reads = [];
}

-- the first pass has number 0
abbrev pub first_view : Shape → View
first_view z = record (view_of z true []) { whole = true }

-- a note has seen as much as its pass, and nothing else
abbrev pub note : View → View
note v = view_of v.shape false v.seen

-- the pass has met what the other had seen
abbrev pub met : View → View → View
met v w = record v { met = record { seen = w.seen; gathered = [] } ∷ v.met }

abbrev pub as_gathered : View → Gathered
as_gathered w = record { caller = w.caller; finds = w.finds }

-- the pass has met the other, and all that were gathered into it
abbrev pub gather : View → View → View
gather v w = record v { met = record { seen = w.seen; gathered = as_gathered w ∷ w.gathered } ∷ v.met; number = number_of_joined w.caller }

abbrev pub caller_or : Number → Caller
caller_or no_number = only_caller
caller_or (number_taken n) = only_caller
caller_or (number_learnt n t) = only_caller
caller_or (number_drawn c) = c
caller_or (number_left n) = only_caller
caller_or (number_joined c) = only_caller

-- a pass whose drawn caller was split off
abbrev pub drawn_left : View → View
drawn_left v = record v { number = no_number }

-- the pass of that caller, which has seen what the drawer has
abbrev pub drawn_right : View → View
drawn_right v = record (view_of v.shape true v.seen) { caller = caller_or v.number }

abbrev pub nothing_seen : View
nothing_seen = view_of (record { passes = 0; slots = 0; pages = 0; page_words = 0; reach = 0; generations = 0 }) false []

-- a note's view
pub record IsBare (v : View) : Type 0 where
  pub live : v.live ≡ false
  pub number : v.number ≡ no_number
  pub gathered : v.gathered ≡ []
  pub met : v.met ≡ []

-- a pass that can be gathered
pub record IsAtRest (w : View) : Type 0 where
  pub live : w.live ≡ true
  pub inside : w.inside ≡ None
  pub mark : w.mark ≡ None
  pub number : w.number ≡ no_number
  pub hand : w.hand ≡ nothing
  pub closes : w.closes ≡ []
  pub sweeps : w.sweeps ≡ []
  pub holds : w.holds ≡ []
  pub pages : w.pages ≡ []
  pub handles : w.handles ≡ []
  pub met : w.met ≡ []
