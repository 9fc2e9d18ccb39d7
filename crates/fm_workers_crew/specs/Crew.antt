-- What a crew of passes did, each at a task of its own, for the pass that drew them and gathered them again.
use Rattle.fm_rule_calls.specs.Kept.{Lasts}
use Rattle.std.specs.Prelude.{◌≡◌, ◌≢◌, ◌⊎◌, ◌+◌, ◌<◌, ◌≤◌, ◌==◌, true, if◌then◌else◌, ℕ, List, [], ◌∷◌, ◌++◌, length, map, All, Result, Ok, Err, None, ⊤}
use Rattle.std.specs.List.{AllByRecursion}
use Rattle.fm_words.specs.{declared.shape.Shape.{Shape}, Places.{groups}}
use Rattle.fm_base.specs.{declared.{caller.Caller.{Caller}, refusal.Refusal.{Refusal, TheVariants.{Memory, NoPass}}}, Calls.{Entry}, Histories.{made_by}}
use Rattle.fm_base.specs.{Arenas.{only_caller}, Finds.{Find, Gathered, is_draw, is_number}}
use Rattle.fm_base_lists.specs.Among.{IsAmong, AreApart}
use Rattle.fm_rule_facts.specs.{Hands.{last_term, most_draws}, Splits.{as_gathered}, Views.{View, In, IsSound, HasCaller}}
use Rattle.fm_rule.specs.Draws.{Drew, FoundNone}

-- the callers, in their order
abbrev pub callers : List Gathered → List Caller
callers gs = map (λ g. g.caller) gs

-- the finds drew just these, one after the other: each was drawn by a run of its own, and those behind drew nobody
abbrev pub DrewEach : List Find → List Caller → Type 0
DrewEach finds [] = (f : Find) → In f finds → f.drew ≡ None
DrewEach finds (c ∷ cs) = (run : List Find) × (behind : List Find) × (finds ≡ run ++ behind) × Drew c run × DrewEach behind cs

-- the caller is of the pool, but neither its first nor one that the pass has, and had made no entry
pub record IsFresh (p : View) (c : Caller) : Type 0 where
  pub number : c.number < p.shape.passes
  pub term : c.term ≤ last_term
  pub later : c ≢ only_caller
  pub other : ¬ (HasCaller p c)
  pub silent : made_by c p.seen ≡ []

-- a pass that is known to be whole
pub record IsWhole (p : View) : Type 0 where
  pub sound : IsSound p
  pub whole : p.whole ≡ true

-- who drew and gathered is of the pass's pool and has seen all that the pass had seen, and since then it made no entry
pub record IsIn (d new : View) : Type 0 where
  pub shape : d.shape ≡ new.shape
  pub rest : List Entry
  pub seen : new.seen ≡ d.seen ++ rest
  pub quiet : made_by d.caller rest ≡ []

-- Passes were drawn, made entries, and were gathered again: these, in their order. The pass made no entry
pub record CrewGathered (old new : View) : Type 0 where
  -- the entries, those of others too
  pub more : List Entry
  pub seen : new.seen ≡ old.seen ++ more
  pub own : made_by old.caller more ≡ []
  -- nor did those that were gathered before
  pub apart : All (λ g. made_by g.caller more ≡ []) old.gathered
  -- as they were when they were gathered
  pub passes : List View
  pub within : AllByRecursion (λ p. IsIn p new) passes
  pub crew : List Gathered
  pub are_passes : crew ≡ map as_gathered passes
  pub distinct : AreApart (callers crew)
  pub fresh : AllByRecursion (IsFresh old) (callers crew)
  -- the finds of this call, all of them draws or looks for a number
  pub draws : List Find
  pub finds : new.finds ≡ old.finds ++ draws
  pub only_draws : (f : Find) → In f draws → (is_draw f.step ≡ true) ⊎ (is_number f.step ≡ true)
  -- they drew the crew, and nobody else: who did the first task was drawn first
  pub drew : DrewEach draws (callers crew)
  -- all else that the pass has it had before
  pub is : new ≡ record old { seen = new.seen; finds = new.finds; gathered = old.gathered ++ crew; whole = new.whole }
  -- a pass that was known to be whole is so again, and nobody else made an entry
  pub whole : IsWhole old → new.whole ≡ true
  pub alone : IsWhole old → AllByRecursion (λ e. IsAmong e.caller (callers crew)) more

-- Each task was done by a pass of its own, the first by the first. `Does` says how a task changes by the pass's entries
abbrev pub AreDone : {T : Type 0} → (View → T → T → List Entry → Type 0) → List Entry → List View → List T → List T → Type 0
AreDone Does more [] [] [] = ⊤
AreDone Does more (p ∷ ps) (t ∷ ts) (u ∷ us) = Does p t u (made_by p.caller more) × AreDone Does more ps ts us
AreDone Does more ps ts us = ⊥

-- where all that counts of the pass is its caller
abbrev pub by_caller : {T : Type 0} → (Caller → T → T → List Entry → Type 0) → View → T → T → List Entry → Type 0
by_caller Does p = Does p.caller

-- none of the callers made an entry
abbrev pub AreIdle : List Entry → List Caller → Type 0
AreIdle more cs = AllByRecursion (λ c. made_by c more ≡ []) cs

-- a draw of this call drew nobody: it found the word of each group of numbers 0, or as many draws as can be counted
pub record FoundNoNumber (z : Shape) (draws : List Find) : Type 0 where
  pub before : List Find
  pub these : List Find
  pub after : List Find
  pub parts : draws ≡ before ++ (these ++ after)
  pub all : FoundNone (groups z) these

-- how many of them were of their number's last term: these numbers never come back
abbrev pub how_many_last : List Gathered → ℕ
how_many_last [] = 0
how_many_last (g ∷ gs) = (if g.caller.term == last_term then 1 else 0) + how_many_last gs

-- how many of them were of this number
abbrev pub how_many_of : ℕ → List Gathered → ℕ
how_many_of n [] = 0
how_many_of n (g ∷ gs) = (if g.caller.number == n then 1 else 0) + how_many_of n gs

-- for so many passes more a whole pass has too few numbers, or the draws can't be counted any more
abbrev pub AreTooMany : View → (more : ℕ) → Type 0
AreTooMany p more = (p.shape.passes < how_many_last p.gathered + (1 + more)) ⊎ (most_draws < length p.gathered + (1 + more))

-- What comes of it. Memory is wanting before the first draw; a pass is wanting before any task is begun
abbrev pub EndsCrew : {T : Type 0} → (View → T → T → List Entry → Type 0) → Shape → (tasks done : List T) → List Entry → List View → List Gathered
    → List Find → Result (Unit {0}) Refusal → Type 0
EndsCrew Does z tasks done more passes crew draws (Ok u) = AreDone Does more passes tasks done
EndsCrew Does z tasks done more passes crew draws (Err NoPass) =
    FoundNoNumber z draws × (length crew < length tasks) × AreIdle more (callers crew) × (done ≡ tasks)
EndsCrew Does z tasks done more passes crew draws (Err Memory) = (more ≡ []) × (crew ≡ []) × (draws ≡ []) × (done ≡ tasks)
EndsCrew Does z tasks done more passes crew draws (Err r) = ⊥

pub record CrewWorked {T : Type 0} (Does : View → T → T → List Entry → Type 0) (old new : View) (tasks done : List T)
    (result : Result (Unit {0}) Refusal) : Type 0 where
  pub crew : CrewGathered old new
  pub ends : EndsCrew Does old.shape tasks done crew.more crew.passes crew.crew crew.draws result
  -- where the pass was known to be whole, it is refused only where the tasks are too many
  pub wanting : IsWhole old → result ≡ Err NoPass → AreTooMany old (length tasks)
  pub lasts : Lasts old new
  pub sound : result ≢ Err Memory → IsSound new
  pub still_sound : IsSound old → IsSound new

-- no task was begun, so what a task would have come to doesn't count
abbrev pub CrewRefused : {T : Type 0} → (old new : View) → (tasks done : List T) → Refusal → Type 0
CrewRefused old new tasks done r = CrewWorked (λ p t u own. ⊥) old new tasks done (Err r)
