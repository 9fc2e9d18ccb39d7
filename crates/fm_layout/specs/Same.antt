-- Whether two layouts are equal in all parts, as a test: whether the same tokens stand for them.
use Rattle.std.specs.{Prelude.{ℕ, Bool, true, false, ◌&&◌, Option, Some, None, List, nat_eq}, Str.{bytes_eq}, Cmp.Lexicographic.{pointwise}}
use Rattle.fm_layout.specs.{Tree.{Tree}, Codes.{Token, tokens}}

abbrev pub same_name : Option (List ℕ) → Option (List ℕ) → Bool
same_name None None = true
same_name None (Some t) = false
same_name (Some s) None = false
same_name (Some s) (Some t) = bytes_eq s t

abbrev pub same_token : Token → Token → Bool
same_token a b =
    (nat_eq a.0 b.0 && nat_eq a.1.0 b.1.0)
    && (nat_eq a.1.1.alignment b.1.1.alignment && same_name a.1.1.name b.1.1.name)

unfoldable pub same_tree : Tree → Tree → Bool
same_tree t u = pointwise same_token (tokens t) (tokens u)
