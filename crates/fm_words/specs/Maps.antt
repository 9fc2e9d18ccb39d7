-- The word that maps a page: the page's number plus 1; 0 maps none.
use Rattle.std.{specs.Prelude.{ℕ, ◌+◌, Option, None, Some}, proofs.Common.{zero, suc}}

unfoldable pub map_word : ℕ → ℕ
map_word page = page + 1

unfoldable pub map_of : ℕ → Option ℕ
map_of zero = None
map_of (suc page) = Some page
