-- What a stream's finished pool shows.
use Rattle.std.{proofs.{Common.{◌≡◌, ℕ, ◌/◌, ◌%◌, ◌<◌, ◌≤◌, List, length, Option, ap, sym, ◌∙◌, subst, arith}, Math.Nat.{mul-mod_left}}, specs.List.{AllZip}}
use Rattle.std.proofs.lemmas.List.{append-nil}
use Rattle.fm_base.specs.{Arenas.{State}, Calls.{Entry}}
use Rattle.fm_io.specs.Files.{Contents}
use Rattle.fm_records_query.specs.Plan.{Plan}
use Rattle.fm_records.{specs.declared.found.Found.{Found}, proofs.Few.{few_answer}}
use Rattle.fm_rule_facts.specs.Views.{View, IsSound, limit_of, state_in}
use Rattle.fm_rule.specs.{Finishing.{FinishedView, Finishes}, GivenBytes.{state_of}, Views.{first_pass, numbers_of}, declared.pool.Pool.{Pool}}
use Rattle.fm_top_load.specs.Held.{names_in}
use Rattle.fm_top_pooled.proofs.{Opening.{begun}, Shows.{keeps_history, state_kept}}
use Rattle.fm_top_stream.specs.{Chunks.{all_bytes, chunk_size, cut_in, most_chunk, stream_file_limit}, Gone.{CanGoThrough, GoneThrough}}
use Rattle.fm_top_stream.{specs.{Shapes.{CanStream, stream_shape}, Shown.{ShowsChunk, Streams}}, proofs.{Cutting.{cuts_again}, Going.{alone_still}}}

-- A chunk has a byte at least.
pub some_in_chunk : (size : ℕ) → 0 < size → size ≤ most_chunk → 0 < chunk_size size
some_in_chunk size some small = grind arith

-- It has room in an arena of the pool.
chunk_fits : (size : ℕ) → chunk_size size ≤ most_chunk
chunk_fits size = grind arith

-- A pool of the shape can be gone through.
pub can_go : {threads : ℕ} {p : Plan} (pool : Pool) (v : View) (most : ℕ) → CanStream p threads → 0 < p.size → pool.shape ≡ stream_shape threads
    → v ≡ first_pass (numbers_of pool.table.shared.table_id) (stream_shape threads) → IsSound v → most ≡ chunk_size p.size
    → CanGoThrough most threads p pool v
can_go {threads} {p} pool v most can sized shape first sound is = record {
  alone = alone_still (begun pool (stream_shape threads) v shape first sound);
  begins = ap (λ (x : View). x.seen) first;
  asks = record {
    room = subst (λ n. n ≤ limit_of pool.shape) (sym is) (subst (λ z. chunk_size p.size ≤ limit_of z) (sym shape) (chunk_fits p.size));
    any = subst (λ n. 0 < n) (sym is) (some_in_chunk p.size sized can.small);
    sized = sized;
    even = ap (λ n. n % p.size) is ∙ mul-mod_left (most_chunk / p.size) p.size;
    some = can.some;
    few = can.few;
  };
}

-- The answer, and the pool that gave it.
pub streamed : {threads : ℕ} {told : Option Contents} {name : List ℕ} {p : Plan} {pool : Pool} {v : View} {a : List Found} {f : FinishedView} (most : ℕ)
    → most ≡ chunk_size p.size → 0 < most → pool.shape ≡ stream_shape threads → GoneThrough stream_file_limit told name most pool v p a → Finishes pool v f
    → Streams threads told name p a f
streamed {threads} {p = p} {pool = pool} {v = v} {a = a} {f = f} most is any shape through finishes =
    let kept = keeps_history through.gone.alone.outside.of.1 through.gone.alone.tidy finishes in
    let state : state_of f ≡ state_in v = state_kept kept in
    let cut = cuts_again most through.runs any through.cut in
    let names : through.gone.ids ≡ names_in (state_in v) = sym (through.gone.names ∙ append-nil through.gone.ids) in
    record {
      bytes = all_bytes through.runs;
      is_file = through.is_file;
      short = through.short;
      even = through.even;
      value = through.gone.value;
      shows = record {
        is_history = kept.is_history;
        shape = finishes.shape ∙ shape;
        chunks = subst (λ n. AllZip (ShowsChunk (limit_of f.shape) (state_of f) f.history p) (names_in (state_of f)) (cut_in n (all_bytes through.runs))) is
            (subst (λ runs. AllZip (ShowsChunk (limit_of f.shape) (state_of f) f.history p) (names_in (state_of f)) runs) (sym cut)
            (subst (λ (x : ℕ × State × List Entry). AllZip (ShowsChunk x.0 x.1 x.2 p) (names_in x.1) through.runs)
            (λ i. (sym (ap limit_of kept.shape) i, sym state i, sym finishes.history i))
            (subst (λ ids. AllZip (ShowsChunk (limit_of v.shape) (state_in v) v.seen p) ids through.runs) names through.gone.chunks)));
      };
      printed = few_answer (length (all_bytes through.runs)) p.items a through.gone.few;
    }
