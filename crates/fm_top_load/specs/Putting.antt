-- A stretch of a file that is put to the start of an arena, portion by portion, while others may make entries too.
use Rattle.std.specs.Prelude.{◌≡◌, ℕ, ◌%◌, ◌<◌, ◌≤◌, List, [], ◌++◌, length, Option, Result, Ok, Err}
use Rattle.fm_base.specs.declared.{arena_id.ArenaId.{ArenaId}, caller.Caller.{Caller}, refusal.Refusal.{Refusal}}
use Rattle.fm_base.specs.{Calls.{Entry}, Does.{DoesAllocate}, Learnt.{CanVisit}, View.{View, but_loans}}
use Rattle.fm_base_bytes.specs.Bytes.{AreBytes}
use Rattle.fm_io.specs.Files.{Contents}
use Rattle.fm_segment_access.specs.{Learnt.{CanTouch}, Runs.{DoesPutAll}}
use Rattle.fm_top_load.specs.{Portions.{PortionView}, Whole.{CanRead, IsCut, IsPortion}, declared.{load_fault.LoadFault.{LoadFault, TheVariants.{Refused}}, reached.Reached.{Reached}}}
use Rattle.fm_top_load.specs.declared.{room.Room.{Room, TheVariants.{Given, Growing}}, stretch.Stretch.{Stretch}}

abbrev pub arena_in : Room → ArenaId
arena_in (Given a) = a
arena_in (Growing a) = a

-- ---- one portion

-- the arena gave so many bytes from the place on, at which these were put
pub record GivesAndPuts (c : Caller) (a : ArenaId) (place : ℕ) (bytes : List ℕ) (own : List Entry) : Type 0 where
  pub gave : List Entry
  pub put : List Entry
  pub parts : own ≡ gave ++ put
  pub given : DoesAllocate c a (length bytes) 8 (Ok place) (but_loans gave)
  pub written : DoesPutAll c a place bytes (Ok tt) put

-- it gave none, or wasn't open any more when they were to be put
pub data RefusesToGrow (c : Caller) (a : ArenaId) (bytes : List ℕ) (r : Refusal) : List Entry → Type 0 where
  none_given : (own : List Entry) → DoesAllocate c a (length bytes) 8 (Err r) (but_loans own) → RefusesToGrow c a bytes r own
  shut_behind : (place : ℕ) (gave put : List Entry) → DoesAllocate c a (length bytes) 8 (Ok place) (but_loans gave) → DoesPutAll c a place bytes (Err r) put
      → RefusesToGrow c a bytes r (gave ++ put)

abbrev pub DoesGrow : Caller → ArenaId → List ℕ → Result (Unit {0}) Refusal → List Entry → Type 0
DoesGrow c a bytes (Ok u) own = (place : ℕ) × GivesAndPuts c a place bytes own
DoesGrow c a bytes (Err r) own = RefusesToGrow c a bytes r own

-- bytes are put behind so many others, or not
abbrev pub DoesPutPortion : Caller → Room → (behind : ℕ) → List ℕ → Result (Unit {0}) Refusal → List Entry → Type 0
DoesPutPortion c (Given a) behind bytes result own = DoesPutAll c a behind bytes result own
DoesPutPortion c (Growing a) behind bytes result own = (behind % 8 ≡ 0) × DoesGrow c a bytes result own

-- in no arena; the arena is known, and has given room for so many bytes behind others, or can be asked for it
abbrev pub CanHold : View → Room → (behind size : ℕ) → Type 0
CanHold v (Given a) behind size = CanTouch v a behind size
CanHold v (Growing a) behind size = CanVisit v a × (behind % 8 ≡ 0)

-- ---- a stretch

-- these bytes were put to the arena's start, portion behind portion
pub data ArePut (c : Caller) (room : Room) : List ℕ → List Entry → Type 0 where
  none_put : ArePut c room [] []
  put_more : (all bytes : List ℕ) (before own : List Entry) → ArePut c room all before → AreBytes bytes → DoesPutPortion c room (length all) bytes (Ok tt) own
      → ArePut c room (all ++ bytes) (before ++ own)

-- some were, and the next portion was refused
pub record StopsPutting (c : Caller) (room : Room) (r : Refusal) (own : List Entry) : Type 0 where
  pub all : List ℕ
  pub bytes : List ℕ
  pub before : List Entry
  pub last : List Entry
  pub parts : own ≡ before ++ last
  pub put : ArePut c room all before
  pub refused : DoesPutPortion c room (length all) bytes (Err r) last

-- the stretch of the file was put, whose first portion was this
pub record PutsStretch (stretch : Stretch) (told : Option Contents) (c : Caller) (room : Room) (first : PortionView) (reached : Reached) (own : List Entry) : Type 0 where
  pub bytes : List ℕ
  pub put : ArePut c room bytes own
  pub count : length bytes ≡ reached.count
  pub cut : IsCut stretch.limit stretch.most told stretch.name.now stretch.at bytes reached.ended
  pub more : length first.bytes ≤ reached.count

abbrev pub DoesPutStretch : Stretch → Option Contents → Caller → Room → PortionView → Result Reached LoadFault → List Entry → Type 0
DoesPutStretch stretch told c room first (Ok reached) own = PutsStretch stretch told c room first reached own
DoesPutStretch stretch told c room first (Err (Refused r)) own = StopsPutting c room r own
DoesPutStretch stretch told c room first (Err fault) own = (bytes : List ℕ) × ArePut c room bytes own

-- there is room for so many bytes, or they come in whole words but for the last ones
abbrev pub CanHoldAll : View → Room → ℕ → Type 0
CanHoldAll v (Given a) most = CanTouch v a 0 most
CanHoldAll v (Growing a) most = CanVisit v a × (most % 8 ≡ 0)

-- the stretch is read on behind this portion, and there is room for it
pub record CanPut (stretch : Stretch) (told : Option Contents) (first : PortionView) (v : View) (room : Room) : Type 0 where
  pub hold : CanHoldAll v room stretch.most
  pub read : CanRead stretch.limit stretch.at
  pub next : IsPortion stretch.limit stretch.most told stretch.name.now stretch.at first
  pub some : 0 < stretch.most
