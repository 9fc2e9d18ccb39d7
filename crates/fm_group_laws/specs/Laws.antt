-- What all counts of a history come to, where nobody else changes the table or the records.
use Rattle.std.specs.{Prelude.{◌≡◌, ℕ, ◌≤◌, List, [], ◌∷◌, Result, Ok, Err}, List.{AllByRecursion}}
use Rattle.fm_base_lists.specs.Among.{IsAmong}
use Rattle.fm_base.specs.{declared.{caller.Caller.{Caller}, refusal.Refusal.{Refusal, TheVariants.{TableFull}}}, Arenas.{State, word_in}, Calls.{Entry}, Histories.{IsLegal, made_by, state_after}, View.{Did, IsByItself, View}}
use Rattle.fm_records.specs.Alone.{bytes_at_places}
use Rattle.fm_group_lists.specs.{Groups.{AreGroups, AreSummed, Group}, Settled.{named_below}}
use Rattle.fm_group.specs.{Reading.{DoesReadGroups}, Table.{CanTable, Counter, count_word, places_in}, Values.{all_numbers, count_of}}
use Rattle.fm_group_laws.specs.{Shares.{AreCounting, NobodyElseCounts, Share, last_word}, Standing.{key_at}}

-- where every share was counted to its end, the counts that are left, summed up by the numbers at their places, are the
-- groups of all numbers: each with how often it comes among all values in all records
abbrev pub CountsAreGroups : Type 0
CountsAreGroups =
    (limit : ℕ) (now : State) (w : Counter) (es : List Entry) (cs : List Caller) (bs : List Share) (rs : List (Result (Unit {0}) Refusal)) (gs : List Group)
    → AreCounting limit now w es cs bs rs → AllByRecursion (λ r. r ≡ Ok tt) rs
    → AreSummed (named_below (key_at w (bytes_at_places now w.values.records) (last_word limit now w es))
    (λ p. last_word limit now w es (count_word w.table p)) (places_in w.table)) gs
    → AreGroups (all_numbers w.values.path (bytes_at_places now w.values.records)) gs

-- a table with a place for each value is never found full
abbrev pub NeverFull : Type 0
NeverFull =
    (limit : ℕ) (now : State) (w : Counter) (es : List Entry) (cs : List Caller) (bs : List Share) (rs : List (Result (Unit {0}) Refusal))
    → AreCounting limit now w es cs bs rs → count_of w.values ≤ places_in w.table → ¬ (IsAmong (Err TableFull) rs)

-- where nobody else changes the table or the records, what a reading of the table answers is summed up from its words: the
-- numbers of the values that claims name, and the counts beside them
abbrev pub ReadAsItStands : Type 0
ReadAsItStands =
    (limit : ℕ) (now : State) (w : Counter) (es : List Entry) (c : Caller) (gs : List Group)
    → CanTable w → IsLegal limit now es → NobodyElseCounts w (c ∷ []) es → DoesReadGroups c w (Ok gs) (made_by c es)
    → AreSummed (named_below (key_at w (bytes_at_places now w.values.records) (word_in now w.table.arena))
    (λ p. word_in now w.table.arena (count_word w.table p)) (places_in w.table)) gs

-- so for a caller by itself
abbrev pub ReadByItself : Type 0
ReadByItself =
    (old new : View) (w : Counter) (gs : List Group) → CanTable w → IsByItself old → Did old new (DoesReadGroups old.caller w (Ok gs))
    → AreSummed (named_below (key_at w (bytes_at_places old.state w.values.records) (word_in old.state w.table.arena))
    (λ p. word_in old.state w.table.arena (count_word w.table p)) (places_in w.table)) gs

-- where every share was counted to its end, and then one reads while nobody else changes the table or the records, it
-- answers the groups of all numbers
abbrev pub GroupsAreRead : Type 0
GroupsAreRead =
    (limit : ℕ) (now : State) (w : Counter) (es more : List Entry) (cs : List Caller) (bs : List Share) (rs : List (Result (Unit {0}) Refusal)) (c : Caller)
    (gs : List Group)
    → AreCounting limit now w es cs bs rs → AllByRecursion (λ r. r ≡ Ok tt) rs → IsLegal limit (state_after limit now es) more
    → NobodyElseCounts w (c ∷ []) more → DoesReadGroups c w (Ok gs) (made_by c more)
    → AreGroups (all_numbers w.values.path (bytes_at_places now w.values.records)) gs
