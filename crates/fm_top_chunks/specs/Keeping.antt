-- What the first pass keeps of chunks that came back.
use Rattle.std.specs.{Prelude.{◌≡◌, ◌+◌, ◌<◌, ◌++◌, ◌∷◌, ℕ, None, List, [], Result, IfErr, IfOk}, List.{AllByRecursion}}
use Rattle.std.specs.declared.alloc.AllocError.{AllocError}
use Rattle.fm_arena.specs.Lasting.{SamePool}
use Rattle.fm_base.specs.{declared.arena_id.ArenaId.{ArenaId}, Calls.{Entry}, View.{Did}}
use Rattle.fm_records_query.specs.Plan.{Plan}
use Rattle.fm_rule.specs.Passes.{GoesOnFrom}
use Rattle.fm_rule_calls.specs.{Kept.{Lasts}, Told.{view_of_pass}}
use Rattle.fm_rule_facts.specs.Views.{View}
use Rattle.fm_workers_chunks.specs.{Served.{IsServed}, Taking.{IsOnTerms}, declared.served.Served.{Served}}
use Rattle.fm_workers_queue.specs.{Accounts.{after_take}, Turns.{HasAccount, IsAtWork, account_of}}
use Rattle.fm_top_chunks.specs.declared.keeper.{Back.{Back}, Keeper.{Keeper}}

-- it is kept of what was served
pub record IsOf (d : Served) (b : Back) : Type 0 where
  pub number : d.number ≡ b.number
  pub arena : d.arena ≡ b.arena
  pub count : d.count ≡ b.count
  pub answer : d.answer ≡ b.answer

module _ (home : List ℕ) (limit : ℕ) (p : Plan) (Stands : ℕ → ArenaId → ℕ → List Entry → Type 0) where
  -- it is kept of a chunk whose promise is true, and whose note was met
  pub record IsBack (seen : List Entry) (b : Back) : Type 0 where
    pub served : Served
    pub is_of : IsOf served b
    pub promise : IsServed home limit p Stands served
    pub met : GoesOnFrom served.note.seen seen

  pub record CanWait {K : Type 0} (v : View) (k : Keeper K) : Type 0 where
    pub outside : v.inside ≡ None
    pub same_home : v.home ≡ home
    pub turn : IsAtWork k.desk.served.now k.taking
    pub some : 0 < k.out
    pub kept : AllByRecursion (IsBack v.seen) k.back.items

  -- one more came back
  pub record CameBack {K : Type 0} (k l : Keeper K) : Type 0 where
    pub served : Served
    pub one : Back
    pub is_of : IsOf served one
    pub out : l.out + 1 ≡ k.out
    pub back : l.back.items ≡ k.back.items ++ one ∷ []
    pub taking : HasAccount k.desk.served.now l.taking (after_take (account_of k.taking) served)

  -- nothing was taken
  pub record NoneCame {K : Type 0} (k l : Keeper K) : Type 0 where
    pub out : l.out ≡ k.out
    pub back : l.back.items ≡ k.back.items
    pub taking : l.taking ≡ k.taking

  pub record Waits {K : Type 0} (old new : View) (k l : Keeper K) (result : Result (Unit {0}) AllocError) : Type 0 where
    pub did : Did (view_of_pass old) (view_of_pass new) (λ own. own ≡ [])
    pub outside : new.inside ≡ None
    pub pool : SamePool old new
    pub lasts : Lasts old new
    pub kept : AllByRecursion (IsBack new.seen) l.back.items
    pub desk : l.desk ≡ k.desk
    pub giving : l.giving ≡ k.giving
    pub came : IfOk result (λ _. CameBack k l)
    pub none : IfErr result (λ _. (new ≡ old) × NoneCame k l)
