-- A list that a file is read on into.
use Rattle.std.proofs.Common.{◌≡◌, ℕ, ◌+◌, ◌-◌, ◌<◌, List, ◌++◌, length, true, Option, ap, sym, subst, ◌∙◌, arith, length-append}
use Rattle.fm_io.{specs.Files.{Contents, AreBytesFrom, EndsBefore}, proofs.Filled.{AreBytesFrom-append}}
use Rattle.fm_top_load.{specs.{Portions.{PortionView}, Whole.{IsPortion, IsWhole}}, proofs.FileBytes.{first_to_last}}

module _ {limit most size : ℕ} (place : ℕ) {told : Option Contents} {name : List ℕ} (before : List ℕ) {after : List ℕ} {p : PortionView} (below : size < most)
    (next : IsPortion limit (most - size) told name (place + size) p) (is : after ≡ before ++ p.bytes) (first : AreBytesFrom told name 0 before)
    (count : length before ≡ place + size) where
  -- Behind it they are the file's first bytes still.
  pub rest_more : AreBytesFrom told name 0 after × (length after ≡ place + (size + length p.bytes))
  rest_more =
      let at : place + size ≡ 0 + length before = omega (arith, count) in (
        subst (AreBytesFrom told name 0) (sym is)
            (AreBytesFrom-append told name before p.bytes 0 first (subst (λ n. AreBytesFrom told name n p.bytes) at next.are)),
        ap length is ∙ length-append before p.bytes ∙ omega (arith, count),
      )

  -- The last one ends the file.
  pub rest_whole : p.ended ≡ true → IsWhole told name after
  rest_whole last =
      let long : place + size + length p.bytes ≡ length after = sym (rest_more.1 ∙ omega arith) in
      first_to_last told name after rest_more.0 (subst (EndsBefore told name) long (next.ends last))
