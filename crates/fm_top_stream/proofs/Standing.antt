-- What was shown of chunks is shown still, while the pass goes on with the next.
use Rattle.std.{proofs.Common.{◌≡◌, ℕ, true, false, List, [], ◌∷◌, ◌++◌, length, map, refl, ap, sym, ◌∙◌, subst, inl, inr, append_assoc}, specs.Prelude.{if◌then◌else◌}}
use Rattle.std.specs.List.{AllZip, range_with_len}
use Rattle.fm_base_bytes.specs.Words.{byte_at}
use Rattle.fm_base_lists.{specs.Among.{IsAmong}, proofs.Among.{among_left}}
use Rattle.fm_base.{specs.{declared.arena_id.ArenaId.{ArenaId}, Arenas.{State, arena_of, has_arena, same_id}, Calls.{Entry}}, proofs.Names.{same_id-self}}
use Rattle.fm_records_query.specs.Plan.{Plan}
use Rattle.fm_rule_facts.specs.Views.{View, limit_of, state_in}
use Rattle.fm_segment.specs.Region.{Region}
use Rattle.fm_top_load.specs.Held.{names_in}
use Rattle.fm_top_pooled.proofs.Shows.{read_in}
use Rattle.fm_top_stream.specs.Shown.{ReadStanding, ShowsChunk}

-- ---- two lists side by side

pub all_zip_more : {A B : Type 0} (R : A → B → Type 0) (xs : List A) (ys : List B) (x : A) (y : B) → AllZip R xs ys → R x y
    → AllZip R (xs ++ x ∷ []) (ys ++ y ∷ [])
all_zip_more R [] [] x y h r = (r, tt)
all_zip_more R [] (b ∷ ys) x y h r = absurd h
all_zip_more R (a ∷ xs) [] x y h r = absurd h
all_zip_more R (a ∷ xs) (b ∷ ys) x y h r = (h.0, all_zip_more R xs ys x y h.1 r)

pub all_zip_each : {A B : Type 0} (R S : A → B → Type 0) (xs : List A) (ys : List B) → ((x : A) (y : B) → IsAmong x xs → R x y → S x y)
    → AllZip R xs ys → AllZip S xs ys
all_zip_each R S [] [] f h = tt
all_zip_each R S [] (b ∷ ys) f h = absurd h
all_zip_each R S (a ∷ xs) [] f h = absurd h
all_zip_each R S (a ∷ xs) (b ∷ ys) f h = (f a b (inl refl) h.0, all_zip_each R S xs ys (λ x y i r. f x y (inr i) r) h.1)

-- ---- one chunk

-- What was read once the bytes stood is read so later.
pub still_read : {limit : ℕ} {h k : List Entry} {p : Plan} {s : Region} {bytes : List ℕ} (more : List Entry) → k ≡ h ++ more
    → ReadStanding limit h p s bytes → ReadStanding limit k p s bytes
still_read {s = s} more seen r = record {
  before = r.before;
  after = r.after ++ more;
  parts = seen ∙ ap (λ (es : List Entry). es ++ more) r.parts ∙ append_assoc r.before r.after more;
  stood = r.stood;
  read = λ word asks. read_in r.after (r.after ++ more) s.arena word (λ e i. among_left e r.after more i) (r.read word asks);
}

pub still_shown : {limit : ℕ} {s t : State} {h k : List Entry} {p : Plan} {id : ArenaId} {bytes : List ℕ} (more : List Entry) → k ≡ h ++ more
    → (arena_of t id).life ≡ (arena_of s id).life → (arena_of t id).words ≡ (arena_of s id).words → ShowsChunk limit s h p id bytes
    → ShowsChunk limit t k p id bytes
still_shown {bytes = bytes} more seen life words shown = record {
  ended = life ∙ shown.ended;
  stand = ap (λ (ws : List ℕ). map (byte_at ws) (range_with_len 0 (length bytes))) words ∙ shown.stand;
  read = still_read more seen shown.read;
}

-- An arena that is named is there.
pub named_known : (s : State) (id : ArenaId) → IsAmong id (names_in s) → has_arena s id ≡ true
named_known [] id i = absurd i
named_known (a ∷ s) id (inl is) =
    let same : same_id a.id id ≡ true = ap (same_id a.id) is ∙ same_id-self a.id in
    ap (λ b. if b then true else has_arena s id) same
named_known (a ∷ s) id (inr i) =
    let rest = named_known s id i in
    elim (same_id a.id id) as (λ b. (if b then true else has_arena s id) ≡ true) [ true ↦ refl | false ↦ rest ]

-- ---- all of them

-- Arenas that keep their life and their words show still what they showed.
pub all_shown : (v w : View) (p : Plan) (ids : List ArenaId) (runs : List (List ℕ)) (more : List Entry) → w.shape ≡ v.shape → w.seen ≡ v.seen ++ more
    → ((b : ArenaId) → IsAmong b ids → (arena_of (state_in w) b).life ≡ (arena_of (state_in v) b).life)
    → ((b : ArenaId) → IsAmong b ids → (arena_of (state_in w) b).words ≡ (arena_of (state_in v) b).words)
    → AllZip (ShowsChunk (limit_of v.shape) (state_in v) v.seen p) ids runs → AllZip (ShowsChunk (limit_of w.shape) (state_in w) w.seen p) ids runs
all_shown v w p ids runs more shape seen life words shown =
    subst (λ (n : ℕ). AllZip (ShowsChunk n (state_in w) w.seen p) ids runs) (ap limit_of (sym shape))
    (all_zip_each (ShowsChunk (limit_of v.shape) (state_in v) v.seen p) (ShowsChunk (limit_of v.shape) (state_in w) w.seen p) ids runs
    (λ b run i one. still_shown more seen (life b i) (words b i) one) shown)
