-- A stretch of a file that is read portion by portion.
use Rattle.std.proofs.Common.{◌≡◌, ℕ, ◌+◌, ◌-◌, ◌%◌, ◌<◌, ◌≤◌, false, List, ◌++◌, length, Option, refl, ap, sym, subst, ◌∙◌, arith, length-append}
use Rattle.fm_io.{specs.{Files.{Contents, AreBytesFrom, EndsBefore}, Reads.{Read, Next, At, ReadsFile}}, proofs.Filled.{AreBytesFrom-append}}
use Rattle.fm_top_load.specs.{Portions.{PortionView}, Reading.{GoesBy, ReadsFurther, portion_limit}, Whole.{IsCut, IsPortion}}
use Rattle.fm_top_load.proofs.{Following.{same_reads, reads_then}}

-- A portion that is the first of a stretch is read behind none.
pub next_first : {limit most place : ℕ} {told : Option Contents} {name : List ℕ} {p : PortionView} → IsPortion limit most told name place p
    → IsPortion limit (most - 0) told name (place + 0) p
next_first {limit} {most} {place} {told} {name} {p} next =
    let left : most ≡ most - 0 = omega arith in
    let at : place ≡ place + 0 = omega arith in
    subst (λ (n : ℕ × ℕ). IsPortion limit n.0 told name n.1 p) (λ i. (left i, at i)) next

module _ {limit most size : ℕ} (place : ℕ) {told : Option Contents} {name : List ℕ} {p : PortionView} (below : size < most)
    (next : IsPortion limit (most - size) told name (place + size) p) where
  -- It has room in the stretch, and in the file.
  pub portion_fits : size + length p.bytes ≤ most
  portion_fits = let within = next.within in omega (arith, within, below)

  pub portion_short : place + (size + length p.bytes) ≤ limit
  portion_short = let short = next.short in omega (arith, short)

  -- A portion that the file goes on behind has bytes, and whole words of them where the stretch has.
  pub portion_grows : p.ended ≡ false → 0 < length p.bytes
  portion_grows goes = let full = next.full goes in omega (arith, full, below)

  pub portion_even : p.ended ≡ false → most % 8 ≡ 0 → size % 8 ≡ 0 → (size + length p.bytes) % 8 ≡ 0
  portion_even goes all even = let full = next.full goes in omega (arith, full, all, even, below)

  -- Behind what was read before they are the file's bytes still.
  pub first_then : (before : List ℕ) → length before ≡ size → AreBytesFrom told name place before → AreBytesFrom told name place (before ++ p.bytes)
  first_then before count first =
      AreBytesFrom-append told name before p.bytes place first (subst (λ n. AreBytesFrom told name (place + n) p.bytes) (sym count) next.are)

  -- They end the stretch.
  pub is_cut : (before : List ℕ) → length before ≡ size → AreBytesFrom told name place before → (p.ended ≡ false → size + length p.bytes ≡ most)
      → IsCut limit most told name place (before ++ p.bytes) p.ended
  is_cut before count first full =
      let long : length (before ++ p.bytes) ≡ size + length p.bytes = length-append before p.bytes ∙ ap (λ n. n + length p.bytes) count in
      let short = portion_short in
      let fits = portion_fits in
      record {
        bytes_are = first_then before count first;
        short = omega (arith, long, short);
        within = omega (arith, long, fits);
        full = λ goes. let all = full goes in omega (arith, long, all);
        ends = λ last.
            let at : place + size + length p.bytes ≡ place + length (before ++ p.bytes) = omega (arith, long) in
            subst (EndsBefore told name) at (next.ends last);
      }

-- ---- the reads

module _ (limit place size : ℕ) {old mid : Option (List Read)} {name : List ℕ} {Starts : Next → Type 0} (p : PortionView) (n : ℕ) (count : n ≡ length p.bytes)
    (so_far : ReadsFurther old mid name limit Starts (GoesBy p.ended (place + size + length p.bytes))) where
  next_at : place + size + length p.bytes ≡ place + (size + n)
  next_at = omega (arith, count)

  -- The next portion was read behind this one.
  pub further_on : {new : Option (List Read)} (q : PortionView) → p.ended ≡ false
      → ReadsFile mid new name portion_limit (limit + 1) (place + (size + n)) (GoesBy q.ended (place + (size + n) + length q.bytes))
      → ReadsFurther old new name limit Starts (GoesBy q.ended (place + (size + n) + length q.bytes))
  further_on q goes reads before from h = reads_then (same_reads (so_far before from h) refl (λ next by. by.1 goes ∙ ap At next_at)) reads (λ next by. by)

  -- Or a read behind it failed.
  pub further_failed : {new : Option (List Read)} {Goes : Next → Type 0} → p.ended ≡ false
      → ReadsFile mid new name portion_limit (limit + 1) (place + (size + n)) Goes → ReadsFurther old new name limit Starts (λ next. Unit {0})
  further_failed goes reads before from h = reads_then (same_reads (so_far before from h) refl (λ next by. by.1 goes ∙ ap At next_at)) reads (λ next by. tt)

  -- Or nothing follows here on it.
  pub further_here : ReadsFurther old mid name limit Starts (GoesBy p.ended (place + (size + n)))
  further_here before from h = same_reads (so_far before from h) refl (λ next by. subst (λ k. GoesBy p.ended k next) next_at by)

-- A weaker thing is said of what follows.
pub further_says : (limit : ℕ) {old new : Option (List Read)} {name : List ℕ} {Starts Goes Says : Next → Type 0} → ReadsFurther old new name limit Starts Goes
    → ((next : Next) → Goes next → Says next) → ReadsFurther old new name limit Starts Says
further_says limit {Goes = Goes} {Says = Says} reads says before from h = same_reads {Goes = Goes} {Says = Says} (reads before from h) refl says

-- Before the first read behind a portion.
pub further_none : (limit place : ℕ) {reads : Option (List Read)} {name : List ℕ} (p : PortionView)
    → ReadsFurther reads reads name limit (GoesBy p.ended (place + length p.bytes)) (GoesBy p.ended (place + 0 + length p.bytes))
further_none limit place p before from h =
    let at : place + length p.bytes ≡ place + 0 + length p.bytes = omega arith in
    same_reads h refl (λ next by. subst (λ n. GoesBy p.ended n next) at by)
