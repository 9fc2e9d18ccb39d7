-- Which refusals come at a chunk.
use Rattle.std.proofs.Common.{◌≡◌, ◌%◌, List, Err, sym, ◌∙◌, arith}
use Rattle.fm_base.specs.declared.{arena_id.ArenaId.{ArenaId}, caller.Caller.{Caller}, kind.Kind.TheVariants.{Global, Automatic, Confined, Shared}}
use Rattle.fm_base.specs.declared.refusal.Refusal.{Refusal, TheVariants.{CannotClose, Closed, Held, Memory, Ragged, WrongThread}}
use Rattle.fm_base.specs.{Arenas.{MayUse}, Calls.{Entry}, Does.{DoesClose, IsClosable}}
use Rattle.fm_records.specs.Query.{DoesQuery}
use Rattle.fm_records_query.specs.Plan.{Plan}
use Rattle.fm_segment.specs.Region.{Region}
use Rattle.fm_workers_chunks.specs.Answering.{MayCome}

-- Anyone may use a shared arena, and close it.
pub may_use : (id : ArenaId) (c : Caller) → id.kind ≡ Shared → MayUse id c
may_use id c shared confined = let no : Shared ≡ Confined = sym shared ∙ confined in absurd (cc)

pub closable : (id : ArenaId) → id.kind ≡ Shared → IsClosable id.kind
closable id shared = (λ e. let no : Shared ≡ Global = sym shared ∙ e in absurd (cc), λ e. let no : Shared ≡ Automatic = sym shared ∙ e in absurd (cc))

-- A shared arena is closed already, or held, where its close is refused.
pub close_refused : (c : Caller) (id : ArenaId) (r : Refusal) (own : List Entry) → id.kind ≡ Shared → DoesClose c id (Err r) own → MayCome r
close_refused c id (CannotClose k) own shared d = absurd (d.0 (closable id shared))
close_refused c id WrongThread own shared d = absurd (d.1 (may_use id c shared))
close_refused c id Closed own shared d = tt
close_refused c id (Held n) own shared d = tt
close_refused c id r own shared d = absurd d

-- Whole records of it are refused where it was closed, or memory was wanting.
pub query_refused : (c : Caller) (p : Plan) (s : Region) (r : Refusal) (own : List Entry) → s.arena.kind ≡ Shared → s.size % p.size ≡ 0
    → DoesQuery c p s (Err r) own → MayCome r
query_refused c p s (Ragged rest) own shared even d = let is = d.0 in let some = d.1 in absurd (omega arith)
query_refused c p s WrongThread own shared even d = absurd (d.1 (may_use s.arena c shared))
query_refused c p s Closed own shared even d = tt
query_refused c p s Memory own shared even d = tt
query_refused c p s r own shared even d = absurd d
