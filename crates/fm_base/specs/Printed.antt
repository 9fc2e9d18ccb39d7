-- The text of a refusal: its number and then its arguments, separated by spaces.
use Rattle.std.specs.{Prelude.{ℕ, List, [], ◌∷◌, ◌++◌}, Fmt.{decimal}}
use Rattle.fm_base.specs.declared.refusal.Refusal.{Refusal}
use Rattle.fm_base.specs.declared.refusal.Refusal.TheVariants.{Closed, WrongThread, Bounds, Misaligned, ReadOnly, Unsupported, Held, CannotClose, BadAlignment, NoRoom, PoolFull, NoSlot, NoPass, TooManyHolds, Overflow, MemberMisaligned, ElementRagged, BadPadding, AlignmentBelow, NoSize, NotGroup, NoMember, NotSequence, IndexOut, StillOpen, NotValue, BadStep, BadJson, BadShape, BadQuery, Ragged, BadScript, NotText, NoZero, TableFull, Memory}
use Rattle.fm_base.specs.Arenas.{kind_number}

-- the number by which a refusal is printed, and its arguments
abbrev pub printed : Refusal → ℕ × List ℕ
printed Closed = (1, [])
printed WrongThread = (2, [])
printed Bounds = (3, [])
printed Misaligned = (4, [])
printed ReadOnly = (5, [])
printed Unsupported = (6, [])
printed (Held holds) = (7, holds ∷ [])
printed (CannotClose kind) = (8, kind_number kind ∷ [])
printed BadAlignment = (9, [])
printed (NoRoom given) = (10, given ∷ [])
printed PoolFull = (11, [])
printed NoSlot = (12, [])
printed NoPass = (13, [])
printed TooManyHolds = (14, [])
printed Overflow = (20, [])
printed (MemberMisaligned index offset) = (21, index ∷ offset ∷ [])
printed ElementRagged = (22, [])
printed BadPadding = (23, [])
printed (AlignmentBelow least) = (24, least ∷ [])
printed NoSize = (25, [])
printed (NotGroup step) = (30, step ∷ [])
printed (NoMember step) = (31, step ∷ [])
printed (NotSequence step) = (32, step ∷ [])
printed (IndexOut step) = (33, step ∷ [])
printed (StillOpen step) = (34, step ∷ [])
printed NotValue = (35, [])
printed (BadStep step) = (36, step ∷ [])
printed BadJson = (40, [])
printed (BadShape node) = (41, node ∷ [])
printed (BadQuery at) = (50, at ∷ [])
printed (Ragged rest) = (51, rest ∷ [])
printed (BadScript line) = (53, line ∷ [])
printed (NotText at) = (60, at ∷ [])
printed NoZero = (61, [])
printed TableFull = (62, [])
printed Memory = (99, [])

abbrev pub refusal_number : Refusal → ℕ
refusal_number r = (printed r).0

abbrev pub arguments_of : Refusal → List ℕ
arguments_of r = (printed r).1

-- each number after a space
abbrev pub spaced : List ℕ → List ℕ
spaced [] = []
spaced (n ∷ ns) = 32 ∷ decimal n ++ spaced ns

abbrev pub refusal_text : Refusal → List ℕ
refusal_text r = decimal (refusal_number r) ++ spaced (arguments_of r)
