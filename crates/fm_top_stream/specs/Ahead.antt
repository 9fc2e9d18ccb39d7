-- The stretch of a file that the first pass puts into an arena of its own while a crew is at work.
use Rattle.std.specs.{Prelude.{◌≡◌, ◌≢◌, ℕ, ◌+◌, ◌%◌, ◌<◌, ◌≤◌, ◌^◌, List, length, Option, Some, Result, Ok, IfErr, IfOk, IfSome}, Result.{result_err}}
use Rattle.std.proofs.Math.Nat.{le_trans}
use Rattle.fm_base.specs.{declared.{arena_id.ArenaId.{ArenaId}, caller.Caller.{Caller}, refusal.Refusal.{Refusal}}, Calls.{Entry}}
use Rattle.fm_base.specs.declared.refusal.Refusal.TheVariants as refusal
use Rattle.fm_io.specs.{Files.{Contents}, Reads.{Next}, View.{FilesView}}
use Rattle.fm_records_query.specs.Plan.{Plan}
use Rattle.fm_records.specs.declared.found.Found.{Found}
use Rattle.fm_rule_calls.specs.{Kept.{Lasts}, Told.{view_of_pass}}
use Rattle.fm_rule_facts.specs.Views.{View, IsKnown, given_of, limit_of}
use Rattle.fm_rule.specs.declared.pool.Pool.{Pool}
use Rattle.fm_segment.specs.Region.{Region}
use Rattle.fm_top_load.specs.declared.{load_fault.LoadFault.{LoadFault, TheVariants.{Memory}}, reached.Reached.{Reached}, room.Room.TheVariants.{Given}, stretch.Stretch.{Stretch}}
use Rattle.fm_top_load.specs.{Held.{IsHeld}, Portions.{PortionView}, Putting.{DoesPutStretch}, Reading.{GoesBy, ReadsFurther}, Whole.{ByPuts, CanRead, IsPortion, TellsLoad}}
use Rattle.fm_top_pooled.specs.Stocked.{IsAlone, IsStockedOf}
use Rattle.fm_top_stream.specs.{declared.{ahead.Ahead.{Ahead}, putting.Putting.{Putting}, placed.Placed.{Placed}}, Steps.{AnswersBeside}}

-- the arena is known, and has given room for the stretch, whose first portion was read
pub record CanPutAs (told : Option Contents) (stretch : Stretch) (first : PortionView) (arena : ArenaId) (v : View) : Type 0 where
  pub known : IsKnown v arena
  pub given : stretch.most ≤ given_of v arena
  pub small : stretch.most ≤ 2 ^ 40
  pub read : CanRead stretch.limit stretch.at
  pub next : IsPortion stretch.limit stretch.most told stretch.name.now stretch.at first
  pub some : 0 < length first.bytes
  pub room : 0 < stretch.most

abbrev pub CanPut : Option Contents → Putting → View → Type 0
CanPut told x v = CanPutAs told x.stretch x.portion x.arena v

-- what comes of it
pub record PutsAhead (old new : FilesView) (x y : Putting) (c : Caller) (own : List Entry) : Type 0 where
  pub arena : y.arena ≡ x.arena
  pub put : Result Reached LoadFault
  pub is : y.put ≡ Some put
  pub does : DoesPutStretch x.stretch old.holds c (Given x.arena) x.portion put own
  pub reads : ReadsFurther old.reads new.reads x.stretch.name.now x.stretch.limit (GoesBy x.portion.ended (x.stretch.at + length x.portion.bytes))
      (λ next. IfOk put (λ chunk. GoesBy chunk.ended (x.stretch.at + chunk.count) next))
  pub tells : TellsLoad ByPuts x.stretch.limit old new x.stretch.name.now (result_err put)

-- it can be put later too
pub can_put_later : (told : Option Contents) (x : Putting) (p q : View) → Lasts p q → CanPut told x p → CanPut told x q
can_put_later told x p q l c = record {
  known = l.known x.arena c.known;
  given = le_trans c.given (l.given x.arena);
  small = c.small;
  read = c.read;
  next = c.next;
  some = c.some;
  room = c.room;
}

-- a query can be asked of the segment, and the stretch put into another arena beside it
pub record CanAskBeside (told : Option Contents) (threads : ℕ) (p : Plan) (pool : Pool) (v : View) (s : Region) (x : Putting) : Type 0 where
  pub alone : IsAlone v.gathered pool v
  pub stocked : IsStockedOf v.shape.passes pool v s
  pub some : 0 < threads
  pub few : threads ≤ 16
  pub even : s.size % p.size ≡ 0
  pub other : x.arena ≢ s.arena
  pub held : IsHeld (view_of_pass v) x.arena
  pub room : x.stretch.most ≤ limit_of pool.shape
  pub can : CanPut told x v

-- it was answered, and the stretch was put
pub record AsksAhead (told : Option Contents) (pool : Pool) (p : Plan) (v : View) (s : Region) (x : Putting) (r : Ahead) : Type 0 where
  pub chunk : Reached
  pub next : r.next ≡ Some (record { arena = x.arena; chunk = chunk })
  pub answers : AnswersBeside v.shape.passes x.stretch told pool v r.pass s p x.arena r.answer chunk

-- what follows on the reads of the next chunk, where there is one
abbrev pub IsFollowed : ℕ → Option Placed → Next → Type 0
IsFollowed at next n = IfSome next (λ x. GoesBy x.chunk.ended (at + x.chunk.count) n)

-- it was tried
pub record WasTried (x : Putting) : Type 0 where
  pub put : Result Reached LoadFault
  pub is : x.put ≡ Some put

-- once the stretch was put, nothing but memory was wanting to the answer
abbrev pub WantsMemory : Result (List Found) Refusal → Putting → Type 0
WantsMemory answer x = (chunk : Reached) → x.put ≡ Some (Ok chunk) → IfErr answer (λ r. r ≡ refusal.Memory)

-- both came to something
pub record IsBoth (v : View) (answer : Result (List Found) Refusal) (x : Putting) (r : Ahead) : Type 0 where
  pub chunk : Reached
  pub put : x.put ≡ Some (Ok chunk)
  pub answered : answer ≡ Ok r.answer
  pub pass : r.pass ≡ v
  pub next : r.next ≡ Some (record { arena = x.arena; chunk = chunk })

-- what put it to an end goes first, and else it is want of memory
pub record IsNeither (x : Putting) (fault : LoadFault) : Type 0 where
  pub read : (put : Result Reached LoadFault) → x.put ≡ Some put → IfErr put (λ f. f ≡ fault)
  pub other : (reached : Reached) → x.put ≡ Some (Ok reached) → fault ≡ Memory
