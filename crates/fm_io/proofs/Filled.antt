-- A buffer that is filled piece by piece.
use Rattle.std.proofs.Common.{◌≡◌, ℕ, ◌+◌, ◌-◌, ◌≤◌, List, [], ◌++◌, length, take, drop, Option, None, Some, MatchOption, IfSome, refl, ap, sym, ◌∙◌, arith, length-append}
use Rattle.std.proofs.{lemmas.List.{drop-drop, length-take-le, take-append-le}, Math.Seq.{take-add, take-append-add}}
use borrow.Rule.Slice.PartMut.{put_mid, post_of}
use Rattle.fm_io.specs.{Files.{Contents, file_of, AreBytesFrom, TellsPiece, IsPieceOf}, declared.files.Piece.{Piece, TheVariants.{Got, Missing}}}

-- the front of a text and of what follows it
take-append-part : {X : Type 0} (xs ys : List X) (n m : ℕ) → length xs ≡ n → take (n + m) (xs ++ ys) ≡ xs ++ take m ys
take-append-part xs ys n m size = ap (λ k. take (k + m) (xs ++ ys)) (sym size) ∙ take-append-add xs ys m

module _ (n m : ℕ) (buffer rest : List ℕ) (within : n ≤ length buffer) (fits : m ≤ length rest) where
  -- After a piece was read behind the first n bytes of a buffer, its first bytes are those n and the piece's.
  pub take-filled : take (n + m) (put_mid n (length buffer - n) buffer rest) ≡ take n buffer ++ take m rest
  take-filled =
      let after = post_of n (length buffer - n) buffer in
      take-append-part (take n buffer) (rest ++ after) n m (length-take-le n buffer within)
      ∙ ap (λ piece. take n buffer ++ piece) (take-append-le m rest after fits)

  -- they fit the buffer
  pub filled-le : n + m ≤ length (put_mid n (length buffer - n) buffer rest)
  filled-le =
      let after = post_of n (length buffer - n) buffer in
      omega (arith, length-append (take n buffer) (rest ++ after), length-append rest after, length-take-le n buffer within)

-- bytes of a file, and then those of the next piece of it, are bytes of the file
join_piece : (file bytes piece : List ℕ) (at n m : ℕ) → length bytes ≡ n → length piece ≡ m
    → bytes ≡ take (length bytes) (drop at file) → piece ≡ take m (drop (at + n) file)
    → bytes ++ piece ≡ take (length (bytes ++ piece)) (drop at file)
join_piece file bytes piece at n m size more is next =
    let whole : length (bytes ++ piece) ≡ length bytes + m = omega (arith, length-append bytes piece) in
    let behind : piece ≡ take m (drop (length bytes) (drop at file)) =
    next ∙ ap (take m) (ap (λ k. drop (at + k) file) (sym size) ∙ sym (drop-drop (length bytes) at file)) in
    ap (λ front. front ++ piece) is
    ∙ ap (λ last. take (length bytes) (drop at file) ++ last) behind
    ∙ sym (take-add (length bytes) m (drop at file))
    ∙ ap (λ k. take k (drop at file)) (sym whole)

-- the same, where there may be no such file
joined : (found : Option (List ℕ)) (bytes buffer : List ℕ) (at n m : ℕ) → length bytes ≡ n → m ≤ length buffer
    → MatchOption found (bytes ≡ []) (λ file. bytes ≡ take (length bytes) (drop at file))
    → MatchOption found (◌≡◌ {A = Piece} (Got m) Missing) (λ file. IsPieceOf file (at + n) buffer (Got m))
    → MatchOption found (bytes ++ take m buffer ≡ []) (λ file. bytes ++ take m buffer ≡ take (length (bytes ++ take m buffer)) (drop at file))
joined None bytes buffer at n m size fits is never = absurd (cc)
joined (Some file) bytes buffer at n m size fits is next =
    join_piece file bytes (take m buffer) at n m size (length-take-le m buffer fits) is next

-- the same, of files that may tell
pub AreBytesFrom-more : (told : Option Contents) (name bytes buffer : List ℕ) (at n m : ℕ) → length bytes ≡ n → m ≤ length buffer
    → AreBytesFrom told name at bytes → IfSome told (λ contents. TellsPiece contents name (at + n) buffer (Got m))
    → AreBytesFrom told name at (bytes ++ take m buffer)
AreBytesFrom-more None name bytes buffer at n m size fits is next = tt
AreBytesFrom-more (Some contents) name bytes buffer at n m size fits is next =
    joined (file_of contents name) bytes buffer at n m size fits is next

-- bytes from a place, and then those from behind them
both : (found : Option (List ℕ)) (xs ys : List ℕ) (at : ℕ)
    → MatchOption found (xs ≡ []) (λ file. xs ≡ take (length xs) (drop at file))
    → MatchOption found (ys ≡ []) (λ file. ys ≡ take (length ys) (drop (at + length xs) file))
    → MatchOption found (xs ++ ys ≡ []) (λ file. xs ++ ys ≡ take (length (xs ++ ys)) (drop at file))
both None xs ys at first second = ap (λ front. front ++ ys) first ∙ second
both (Some file) xs ys at first second = join_piece file xs ys at (length xs) (length ys) refl refl first second

-- the same, of files that may tell
pub AreBytesFrom-append : (told : Option Contents) (name xs ys : List ℕ) (at : ℕ)
    → AreBytesFrom told name at xs → AreBytesFrom told name (at + length xs) ys → AreBytesFrom told name at (xs ++ ys)
AreBytesFrom-append None name xs ys at first second = tt
AreBytesFrom-append (Some contents) name xs ys at first second = both (file_of contents name) xs ys at first second
