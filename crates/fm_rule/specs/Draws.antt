-- What drawing, gathering and looking for every caller do to passes.
use Rattle.std.specs.Prelude.{◌≡◌, ◌≢◌, ◌⊎◌, ℕ, ◌+◌, ◌<◌, ◌≤◌, ◌==◌, Bool, true, false, List, [], ◌∷◌, ◌++◌, length, All, Some, None, ⊤}
use Rattle.fm_words.specs.Places.{groups}
use Rattle.fm_base.specs.{declared.caller.Caller.{Caller}, Calls.{Entry}, Histories.{made_by}, Finds.{Find, Gathered, Draws, is_draw, is_number, group_of}}
use Rattle.fm_rule_facts.specs.Views.{View, In, IsNew, IsSound, HasFind, HasAllDrawn, KnowsCallers}
use Rattle.fm_rule_facts.specs.{Hands.{nothing, Number, no_number, number_taken, number_drawn, most_draws}, Splits.{view_of, as_gathered}, Steps.{is_clear}}
use Rattle.fm_rule.specs.{Passes.{IsOf}, declared.pool.Pool.{Pool}}

-- between these two, with nothing done to the pass but such looks: what a find keeps of the pass beside the word that was found
pub record IsKept (old new : View) (f : Find) : Type 0 where
  pub since : length old.seen ≤ f.seen
  pub until : f.seen ≤ length new.seen
  pub clear : f.clear ≡ is_clear old
  pub gathered : f.gathered ≡ length old.gathered

-- Others made entries, and the pass looked for a number, and how many draws were made: these are its finds
pub record Asked (old new : View) (finds : List Find) (number : Number) : Type 0 where
  pub more : List Entry
  pub seen : new.seen ≡ old.seen ++ more
  pub quiet : made_by old.caller more ≡ []
  -- no gathered caller made one of them, and there are none where the pass was known to be whole
  pub apart : All (λ g. made_by g.caller more ≡ []) old.gathered
  pub alone : old.whole ≡ true → more ≡ []
  pub found : new.finds ≡ old.finds ++ finds
  pub only : (f : Find) → In f finds → (is_draw f.step ≡ true) ⊎ (is_number f.step ≡ true)
  pub kept : (f : Find) → In f finds → IsKept old new f
  -- the count of draws never falls: none of these found fewer than a draw before them
  pub later : (f g : Find) → HasFind old f → is_draw f.step ≡ true → In g finds → is_draw g.step ≡ true → f.found ≤ g.found
  pub is : new ≡ record old { seen = new.seen; finds = new.finds; whole = new.whole; number = number }

-- It asked, drew nobody, and is known to be whole just where it was
pub record Asks (pool : Pool) (old new : View) (finds : List Find) (number : Number) : Type 0 where
  pub asked : Asked old new finds number
  pub none : (f : Find) → In f finds → f.drew ≡ None
  pub same : new.whole ≡ old.whole
  pub of : IsOf pool new
  pub sound : IsSound old → IsSound new

-- all of these looked for a number
abbrev pub AreLooks : List Find → Type 0
AreLooks finds = (f : Find) → In f finds → is_number f.step ≡ true

-- It looked for a number
pub record Seeks (pool : Pool) (old new : View) (number : Number) : Type 0 where
  pub finds : List Find
  pub asks : Asks pool old new finds number
  pub looks : AreLooks finds

-- each of these draws expects the count that the one before it found, and the first so many
abbrev pub Follow : (expected : ℕ) → List Find → Type 0
Follow expected [] = ⊤
Follow expected (f ∷ fs) = (f.step ≡ Draws expected) × Follow f.found fs

-- it looks for a number first; then each draw but the first expects what the one before it found
pub record LearnsAnew (finds : List Find) : Type 0 where
  pub looks : List Find
  pub draws : List Find
  pub are : finds ≡ looks ++ draws
  pub are_looks : AreLooks looks
  pub guess : ℕ
  pub follow : Follow guess draws

-- one of the finds drew the caller, and none another
pub record Drew (c : Caller) (finds : List Find) : Type 0 where
  pub find : Find
  pub among : In find finds
  pub step : find.step ≡ Draws find.found
  pub drew : find.drew ≡ Some c
  pub only : (f : Find) (d : Caller) → In f finds → f.drew ≡ Some d → d ≡ c

-- each of the first groups was found 0
abbrev pub FoundZero : ℕ → List Find → Type 0
FoundZero many finds = (g : ℕ) → g < many → (f : Find) × In f finds × (is_number f.step ≡ true) × (group_of f.step ≡ g) × (f.found ≡ 0)

-- none of the finds drew one; the word of each group was found 0, or as many draws were found as can be counted
pub record FoundNone (groups : ℕ) (finds : List Find) : Type 0 where
  pub none : (f : Find) → In f finds → f.drew ≡ None
  pub why : FoundZero groups finds ⊎ ((f : Find) × In f finds × (is_draw f.step ≡ true) × (f.found ≡ most_draws))

-- of one try: it took the number, or none
abbrev pub Tried : Pool → View → View → ℕ → Bool → Type 0
Tried pool old new n true = Seeks pool old new (number_taken n)
Tried pool old new n false = Seeks pool old new no_number

-- of a look at each group: all were found 0, or not
abbrev pub FoundIn : Pool → View → View → Bool → Type 0
FoundIn pool old new true = (s : Seeks pool old new no_number) × FoundZero (groups pool.shape) s.finds × IsSound new
FoundIn pool old new false = Seeks pool old new no_number

-- it took the number
pub record Takes (pool : Pool) (old new : View) (n : ℕ) : Type 0 where
  pub seeks : Seeks pool old new (number_taken n)
  pub low : n < pool.shape.passes

-- it drew the caller
pub record Counts (old new : View) (c : Caller) : Type 0 where
  pub finds : List Find
  pub asked : Asked old new finds (number_drawn c)
  pub guess : ℕ
  pub follow : Follow guess finds
  pub drew : Drew c finds
  pub apart : (f : Find) → HasFind old f → f.drew ≢ Some c
  pub whole : new.whole ≡ false
  pub sound : IsSound new

-- the pass of the caller that is cut from the giver: it has seen what the giver has, and has nothing
abbrev pub cut_from : View → Caller → View
cut_from giver caller = record (view_of giver.shape true giver.seen) { home = giver.home; caller = caller }

-- of `draw`, where it answers the pass d
pub record Drawn (old new d : View) : Type 0 where
  pub caller : Caller
  pub finds : List Find
  pub asked : Asked old new finds no_number
  pub tries : LearnsAnew finds
  pub drew : Drew caller finds
  pub fresh : IsNew new caller
  -- nor is it one that a find drew before which the giver has
  pub apart : (f : Find) → HasFind old f → f.drew ≢ Some caller
  pub whole : new.whole ≡ false
  pub is : d ≡ cut_from new caller
  pub giver_sound : IsSound new
  pub sound : IsSound d

-- of `draw`, where it answers `NoPass`
pub record NoneDrawn (old new : View) : Type 0 where
  pub finds : List Find
  pub asked : Asked old new finds no_number
  pub tries : LearnsAnew finds
  pub all : FoundNone (groups old.shape) finds
  -- it is known to be whole just where it was
  pub same : new.whole ≡ old.whole
  pub sound : IsSound new

-- of `whole`, which found so many draws
pub record Looked (old new : View) (result : Bool) : Type 0 where
  pub find : Find
  pub asked : Asked old new (find ∷ []) no_number
  pub step : find.step ≡ Draws 0
  pub none : find.drew ≡ None
  pub is : result ≡ (length old.gathered + 1 == find.found)
  pub whole : new.whole ≡ result
  -- then it has the first caller, each that its finds drew, and each that made an entry: what it has seen is the whole history
  pub all : result ≡ true → HasAllDrawn new
  pub knows : result ≡ true → KnowsCallers new
  pub still : old.whole ≡ true → result ≡ true
  -- a pass that has the first caller and each that its finds drew has them all
  pub complete : HasAllDrawn old → result ≡ true
  pub sound : IsSound new

-- the pass is outside, and has nothing
pub record CanGather (pool : Pool) (p : View) : Type 0 where
  pub of : IsOf pool p
  pub outside : p.inside ≡ None
  pub unmarked : p.mark ≡ None
  pub no_number : p.number ≡ no_number
  pub no_slot : p.hand ≡ nothing
  pub no_hold : p.holds ≡ []
  pub no_handle : p.handles ≡ []
  pub no_page : p.pages ≡ []
  pub no_close : p.closes ≡ []
  pub no_sweep : p.sweeps ≡ []

-- of `gather`, where the pass has that number in its hand then
pub record Gathers (old other : View) (number : Number) (new : View) : Type 0 where
  pub more : List Entry
  pub seen : new.seen ≡ old.seen ++ more
  pub quiet : made_by old.caller more ≡ []
  pub apart : All (λ g. made_by g.caller more ≡ []) old.gathered
  pub alone : old.whole ≡ true → more ≡ []
  -- since the other's last step neither it nor those that were gathered into it made an entry
  pub rest : List Entry
  pub its_seen : new.seen ≡ other.seen ++ rest
  pub its_quiet : made_by other.caller rest ≡ []
  pub its_apart : (g : Gathered) → In g other.gathered → made_by g.caller rest ≡ []
  pub is : new ≡ record old { seen = new.seen; gathered = old.gathered ++ (as_gathered other ∷ other.gathered); number = number }
  pub sound : IsSound new

-- Others made entries, and the number in the hand was given back
pub record GivesBack (old new : View) : Type 0 where
  pub more : List Entry
  pub quiet : made_by old.caller more ≡ []
  pub apart : All (λ g. made_by g.caller more ≡ []) old.gathered
  pub alone : old.whole ≡ true → more ≡ []
  pub seen : new.seen ≡ old.seen ++ more
  pub is : new ≡ record old { seen = new.seen; number = no_number }
  pub sound : IsSound new
