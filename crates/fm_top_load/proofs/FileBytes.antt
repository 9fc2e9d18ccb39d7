-- Bytes of a file that make it up.
use Rattle.std.proofs.Common.{◌≡◌, ℕ, ◌≤◌, List, [], length, take, drop, Option, Some, None, refl, ap, sym, ◌∙◌, subst}
use Rattle.std.{specs.Option.{IsSomeAnd, MatchOption}, proofs.lemmas.List.{take_all}}
use Rattle.fm_io.specs.Files.{Contents, file_of, AreBytesFrom, EndsBefore}
use Rattle.fm_top_load.specs.Whole.{IsWhole}

-- bytes from a file's start up to its end are the file
whole_file : (file : Option (List ℕ)) (bytes : List ℕ) → MatchOption file (bytes ≡ []) (λ f. bytes ≡ take (length bytes) (drop 0 f))
    → IsSomeAnd file (λ f. length f ≤ length bytes) → file ≡ Some bytes
whole_file None bytes from ends = absurd ends
whole_file (Some f) bytes from ends = ap Some (sym (from ∙ take_all (length bytes) f ends))

pub first_to_last : (told : Option Contents) (name bytes : List ℕ) → AreBytesFrom told name 0 bytes → EndsBefore told name (length bytes) → IsWhole told name bytes
first_to_last None name bytes from ends = tt
first_to_last (Some contents) name bytes from ends = whole_file (file_of contents name) bytes from ends

none_of : (file : Option (List ℕ)) (at : ℕ) (bytes : List ℕ) → bytes ≡ []
    → MatchOption file (bytes ≡ []) (λ f. bytes ≡ take (length bytes) (drop at f))
none_of None at bytes none = none
none_of (Some f) at bytes none = subst (λ (bs : List ℕ). bs ≡ take (length bs) (drop at f)) (sym none) refl

-- no bytes are those at any place
pub no_bytes_from : (told : Option Contents) (name : List ℕ) (at : ℕ) (bytes : List ℕ) → bytes ≡ [] → AreBytesFrom told name at bytes
no_bytes_from None name at bytes none = tt
no_bytes_from (Some contents) name at bytes none = none_of (file_of contents name) at bytes none
