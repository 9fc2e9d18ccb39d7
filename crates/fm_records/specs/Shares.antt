-- Shares of a segment, each answered by Reads of one caller, which may have several.
use Rattle.std.specs.{Prelude.{◌≡◌, ℕ, ◌+◌, ◌-◌, ◌%◌, ◌^◌, ◌<◌, ◌≤◌, List, [], ◌∷◌, ◌++◌, Ok, ⊤}, List.{AllByRecursion}}
use Rattle.fm_base.specs.{declared.caller.Caller.{Caller}, Arenas.{State}, Calls.{Entry}, Histories.{IsLegal, made_by}, Untouched.{AllSpare}}
use Rattle.fm_base_lists.specs.Among.{IsAmong}
use Rattle.fm_path.specs.Resolution.{Resolution}
use Rattle.fm_records_query.specs.Plan.{Plan, IsPlan}
use Rattle.fm_segment.specs.Region.{Region, part_of}
use Rattle.fm_records.specs.{declared.found.Found.{Found}, Alone.{bytes_at_places}, Answers.{answer}, Bytes.{HasRead, FindAs}, Few.{AreFew}}
use Rattle.fm_records.specs.{Joined.{CanJoin, joined}, Laws.{IsAsked, value_in}, Query.{DoesQuery}, Reads.{IsWordOf}}

-- all entries spare the region's bytes
abbrev pub AreSpared : Region → List Entry → Type 0
AreSpared s es = (place : ℕ) → s.first ≤ place → place < s.first + s.size → AllSpare s.arena place es

-- a legal history whose entries spare the region's bytes
pub record IsSpared (limit : ℕ) (now : State) (es : List Entry) (s : Region) : Type 0 where
  pub legal : IsLegal limit now es
  pub spared : AreSpared s es

-- there each Read of a caller finds them
abbrev pub SparedAreFound : Type 0
SparedAreFound =
    (limit : ℕ) (now : State) (es : List Entry) (s : Region) (c : Caller) → IsSpared limit now es s
    → FindAs s (bytes_at_places now s) (made_by c es)

-- who answered which part, what was found there, and by which entries
pub record Share : Type 0 where
  pub caller : Caller
  pub region : Region
  pub found : List Found
  pub own : List Entry

-- these are entries of the caller in a row, among others
pub record IsRunOf (c : Caller) (es own : List Entry) : Type 0 where
  pub earlier : List Entry
  pub later : List Entry
  pub run : made_by c es ≡ earlier ++ (own ++ later)

-- the share was answered by a run of its caller's entries among these
pub record IsDone (p : Plan) (es : List Entry) (w : Share) : Type 0 where
  pub run : IsRunOf w.caller es w.own
  pub does : DoesQuery w.caller p w.region (Ok w.found) w.own

abbrev pub AreDone : Plan → List Entry → List Share → Type 0
AreDone p es ws = AllByRecursion (IsDone p es) ws

-- the region behind its first bytes
abbrev pub behind : ℕ → Region → Region
behind n s = part_of n (s.size - n) s

-- the share is the segment's first records
pub record IsFirst (p : Plan) (s : Region) (w : Share) : Type 0 where
  pub region : w.region ≡ part_of 0 w.region.size s
  pub whole : w.region.size % p.size ≡ 0
  pub within : w.region.size ≤ s.size

-- the segment is cut into the shares, one behind the other
abbrev pub AreCut : Plan → Region → List Share → Type 0
AreCut p s [] = s.size ≡ 0
AreCut p s (w ∷ ws) = IsFirst p s w × AreCut p (behind w.region.size s) ws

-- what the shares come to, joined in their order
abbrev pub all_joined : Plan → List Share → List Found
all_joined p [] = answer p []
all_joined p (w ∷ ws) = joined w.found (all_joined p ws)

-- each share can be joined with what those behind it come to
abbrev pub CanAllJoin : Plan → List Share → Type 0
CanAllJoin p [] = ⊤
CanAllJoin p (w ∷ ws) = CanJoin w.found (all_joined p ws) × CanAllJoin p ws

pub record AllJoin (p : Plan) (n : ℕ) (ws : List Share) : Type 0 where
  pub can : CanAllJoin p ws
  pub few : AreFew n p (all_joined p ws)

-- whatever the Reads found, the shares' answers can be joined
abbrev pub SharesJoin : Type 0
SharesJoin =
    (p : Plan) (s : Region) (es : List Entry) (ws : List Share) → IsPlan p → AreCut p s ws → AreDone p es ws → s.size ≤ 2 ^ 62
    → AllJoin p s.size ws

-- where the entries spare the segment, the shares come to the answer over its bytes
abbrev pub SharesAnswer : Type 0
SharesAnswer =
    (limit : ℕ) (now : State) (es : List Entry) (p : Plan) (s : Region) (ws : List Share) → IsPlan p → IsSpared limit now es s
    → AreCut p s ws → AreDone p es ws → all_joined p ws ≡ answer p (bytes_at_places now s)

-- one of the shares' callers has read the word
pub record IsReadBy (s : Region) (ws : List Share) (es : List Entry) (word : ℕ) : Type 0 where
  pub share : Share
  pub among : IsAmong share ws
  pub read : HasRead share.caller s.arena word (made_by share.caller es)

-- and each word of each value that is asked for in a chosen record was read
abbrev pub SharesRead : Type 0
SharesRead =
    (limit : ℕ) (now : State) (es : List Entry) (p : Plan) (s : Region) (ws : List Share)
    (index : ℕ) (r : Resolution) (is : List ℕ) (word : ℕ)
    → IsPlan p → IsSpared limit now es s → AreCut p s ws → AreDone p es ws
    → IsAsked p (bytes_at_places now s) index r is → IsWordOf (value_in p s index r is) word → IsReadBy s ws es word
