-- The reader of a path's text, byte by byte: which part of a piece it stands in, and what a byte does there.
use Rattle.std.specs.Prelude.{pos, neg_ℤ, Vec, ◌≡◌, ℕ, ◌+◌, ◌-◌, ◌*◌, ◌<◌, ◌≤◌, Option, Some, None, List, [], ◌∷◌, ◌++◌, length, if◌then◌else◌, nat_eq, nat_lt, nat_le, IsTrue}
use Rattle.fm_path_text.specs.declared.{step.PathStep.{PathStep, TheVariants.{Name, Group, At, Each, EachFrom}}, part.Part.{Part}}
use Rattle.fm_path_text.specs.declared.{part.Part.TheVariants.{Between, Dot, Word, Hash, Number, Open, Index, Colon, Minus, Up, Down}, sign.Sign.{Sign}}
use Rattle.fm_path_text.specs.{declared.part.Move.{Move, TheVariants.{Dead, Stay, Finish}}, Grammar.{most_number, most_pieces}}
use Rattle.fm_path_text.specs.declared.sign.Sign.TheVariants as sign
use Rattle.fm_layout.specs.Name.{is_letter, is_digit}
use Rattle.fm_path_text.specs.Machine as machine

-- what a byte is to a path: . # [ ] : - a digit, a letter, or another byte
abbrev pub sign_of : ℕ → Sign
sign_of b =
    if nat_eq b 46 then sign.Dot
    else (if nat_eq b 35 then sign.Hash
    else (if nat_eq b 91 then sign.Open
    else (if nat_eq b 93 then sign.Close
    else (if nat_eq b 58 then sign.Colon
    else (if nat_eq b 45 then sign.Minus
    else (if is_digit b then sign.Digit (b - 48)
    else (if is_letter b then sign.Letter b
    else sign.Other)))))))

-- a number with one more digit, if there is one
abbrev pub longer_number : ℕ → ℕ → Option ℕ
longer_number n d =
    if nat_eq n 0 then None
    else (if nat_le (10 * n + d) most_number then Some (10 * n + d) else None)

abbrev pub counts : (ℕ → Part) → Option ℕ → Move
counts part None = Dead
counts part (Some n) = Stay (part n)

-- the first byte of a piece behind so many whole pieces
abbrev pub opens : ℕ → Part → Move
opens pieces part = if nat_lt pieces most_pieces then Stay part else Dead

-- a piece that ends where the next one begins
abbrev pub closes : ℕ → PathStep → Part → Move
closes pieces step part = if nat_lt (pieces + 1) most_pieces then Finish step part else Dead

-- one more byte of a name
abbrev pub spells : List ℕ → ℕ → Move
spells name byte = if nat_lt (length name) 64 then Stay (Word (name ++ byte ∷ [])) else Dead

-- what a sign does behind a bracket that is open
abbrev pub next_in_brackets : Part → Sign → Move
next_in_brackets Open sign.Close = Finish Each Between
next_in_brackets Open (sign.Digit d) = Stay (Index d)
next_in_brackets (Index n) (sign.Digit d) = counts Index (longer_number n d)
next_in_brackets (Index n) sign.Close = Finish (At n) Between
next_in_brackets (Index n) sign.Colon = Stay (Colon n)
next_in_brackets (Colon f) sign.Minus = Stay (Minus f)
next_in_brackets (Colon f) (sign.Digit d) = Stay (Up f d)
next_in_brackets (Minus f) (sign.Digit d) = if nat_eq d 0 then Dead else Stay (Down f d)
next_in_brackets (Up f n) (sign.Digit d) = counts (Up f) (longer_number n d)
next_in_brackets (Up f n) sign.Close = Finish (EachFrom f (pos n)) Between
next_in_brackets (Down f n) (sign.Digit d) = counts (Down f) (longer_number n d)
next_in_brackets (Down f n) sign.Close = Finish (EachFrom f (neg_ℤ (pos n))) Between
next_in_brackets _ _ = Dead

-- what a sign does in a part of a piece behind so many whole ones
abbrev pub next : Part → ℕ → Sign → Move
next Between k sign.Dot = opens k Dot
next Between k sign.Open = opens k Open
next Dot k sign.Hash = Stay Hash
next Dot k (sign.Letter c) = Stay (Word (c ∷ []))
next (Word name) k (sign.Letter c) = spells name c
next (Word name) k (sign.Digit d) = spells name (48 + d)
next (Word name) k sign.Dot = closes k (Name name) Dot
next (Word name) k sign.Open = closes k (Name name) Open
next Hash k (sign.Digit d) = Stay (Number d)
next (Number n) k (sign.Digit d) = counts Number (longer_number n d)
next (Number n) k sign.Dot = closes k (Group n) Dot
next (Number n) k sign.Open = closes k (Group n) Open
next part k s = next_in_brackets part s

-- the steps of the whole pieces read so far, and the part of the next one
pub record Spot : Type 0 where
  pub done : List PathStep
  pub part : Part

abbrev pub spot : List PathStep → Part → Spot
spot done part = record { done = done; part = part }

abbrev pub moved : List PathStep → Move → Option Spot
moved done Dead = None
moved done (Stay part) = Some (spot done part)
moved done (Finish step part) = Some (spot (done ++ step ∷ []) part)

-- where a byte leads from here
abbrev pub reads : Spot → ℕ → Option Spot
reads s byte = moved s.done (next s.part (length s.done) (sign_of byte))

abbrev pub onward : Option Spot → ℕ → Option Spot
onward = machine.onward reads

-- where the bytes lead, unless one of them is refused
abbrev pub run : List ℕ → Option Spot → Option Spot
run = machine.run reads

abbrev pub start : Option Spot
start = Some (spot [] Between)

-- the layout's own path; and a path with steps
abbrev pub where_empty : List PathStep → Option (List PathStep)
where_empty [] = Some []
where_empty (p ∷ ps) = None

abbrev pub where_any : List PathStep → Option (List PathStep)
where_any [] = None
where_any (p ∷ ps) = Some (p ∷ ps)

-- the path that has been read, if it is whole
abbrev pub whole : List PathStep → Part → Option (List PathStep)
whole done Dot = where_empty done
whole done (Word name) = Some (done ++ Name name ∷ [])
whole done (Number n) = Some (done ++ Group n ∷ [])
whole done Between = where_any done
whole done _ = None

abbrev pub whole_at : Spot → Option (List PathStep)
whole_at s = whole s.done s.part

-- a digit is below ten, a letter is one
abbrev pub IsSound : Sign → Type 0
IsSound (sign.Digit d) = d < 10
IsSound (sign.Letter c) = IsTrue (is_letter c)
IsSound _ = Unit {0}

-- the path's items are these steps, where there is one
abbrev pub Holds : {Z : Type 0} → Option (Vec PathStep Z) → Option (List PathStep) → Type 0
Holds None path = path ≡ None
Holds (Some v) path = path ≡ Some v.items

-- the stride that has been read so far
abbrev pub IsBounded : Part → Type 0
IsBounded (Up f n) = n ≤ most_number
IsBounded (Down f n) = n ≤ most_number
IsBounded _ = Unit {0}
