-- Which outcome a request has.
use Rattle.std.proofs.Common.{◌≡◌, ◌≢◌, ◌⊎◌, inl, inr, ℕ, suc, ◌<◌, List, length, replicate, Option, None, Some, true, subst, refl, arith}
use Rattle.std.{proofs.lemmas.{List.{length-replicate}, Bool.Decides.{Decides-ltb}}, specs.Prelude.{Err, IsSomeAnd, nat_lt}}
use Rattle.fm_io.specs.Files.{Contents, file_of}
use Rattle.fm_layout.specs.Tree.{Tree}
use Rattle.fm_base.specs.declared.refusal.Refusal.{Refusal, TheVariants.{Memory}}
use Rattle.fm_top.specs.{Ending.{EndsAs}, Found.{IsFound, OfFound}, Outcome.{Outcome, layout_of_file, too_long, layout_file_limit}}
use Rattle.fm_top.specs.{Queries.{ComesToNone, IsLayoutRefused, TextEnds, unplanned, AskEnds, bad_layout}, Run.{HasOutcome}, Stops.{layout_stop, query_stop}, Words.{Ask}}
use Rattle.fm_top.specs.declared.command.{layout_text.LayoutText.{LayoutText}, wish.Wish.{Wish}}
use Rattle.fm_top_load.specs.Whole.{IsWhole, IsOver}

-- ---- what is found

-- something is found under every name, or nothing
pub some_found : (told : Option Contents) (name : List ℕ) → (found : Option (List ℕ)) × IsFound told name found
some_found None name = (None, tt)
some_found (Some held) name = (file_of held name, refl)

-- there are lists of every length
long_list : (n : ℕ) → (bytes : List ℕ) × (n < length bytes)
long_list n = (replicate (suc n) 0, omega (arith, length-replicate {A = ℕ} (suc n) 0))

long_of : (limit : ℕ) (found : Option (List ℕ)) → IsSomeAnd found (λ bytes. limit < length bytes)
    → (bytes : List ℕ) × (found ≡ Some bytes) × (limit < length bytes)
long_of limit None long = absurd long
long_of limit (Some bytes) long = (bytes, refl, long)

-- a file over the limit is found
pub long_found : (told : Option Contents) (name : List ℕ) (limit : ℕ) → IsOver told name limit
    → (bytes : List ℕ) × IsFound told name (Some bytes) × (limit < length bytes)
long_found None name limit long = let made = long_list limit in (made.0, tt, made.1)
long_found (Some held) name limit long = long_of limit (file_of held name) long

-- ---- layouts

-- a layout that is too long
pub long_layout_ends : (text : LayoutText) (bytes : List ℕ) → layout_file_limit < length bytes → layout_of_file text bytes ≡ too_long
long_layout_ends text bytes long =
    let test : nat_lt layout_file_limit (length bytes) ≡ true = (Decides-ltb layout_file_limit (length bytes)).1 long in
    rw test refl

-- ---- what is asked of records

module _ (w : Wish) (layout text file : List ℕ) (told : Option Contents) (o : Outcome) where
  -- the layout's file was read, and then the record file, of which the files still tell the same
  pub ask-whole : {bytes given : List ℕ} {later : Option Contents} → IsWhole told layout bytes → given ≡ bytes → later ≡ told
      → OfFound later file (λ found. AskEnds w layout text file found (Some given) o) → HasOutcome (Ask w layout text file) told o
  ask-whole {bytes} {given} {later} whole same held ends =
      let of_bytes = subst (λ (b : List ℕ). OfFound later file (λ found. AskEnds w layout text file found (Some b) o)) same ends in
      (Some bytes, whole, subst (λ (x : Option Contents). OfFound x file (λ found. AskEnds w layout text file found (Some bytes) o)) held of_bytes)

-- what an outcome of all that may be found is, is one of what is found
pub some_end : (told : Option Contents) (name : List ℕ) (P : Option (List ℕ) → Type 0) → ((found : Option (List ℕ)) → P found) → OfFound told name P
some_end told name P each = let found = some_found told name in (found.0, found.1, each found.0)

-- whatever is found of the record file
module _ (w : Wish) (text file : List ℕ) where
  -- the layout is refused
  pub refused-layout : (layout bytes : List ℕ) (e : Refusal) → IsLayoutRefused w bytes e ⊎ (e ≡ Memory)
      → EndsAs (λ o. (found : Option (List ℕ)) → AskEnds w layout text file found (Some bytes) o) (Err (layout_stop e))
  refused-layout layout bytes Memory why = tt
  refused-layout layout bytes e (inr memory) = absurd (cc)
  refused-layout layout bytes e (inl denied) = λ found. bad_layout bytes e denied

  -- the text is refused
  pub refused-text : (t : Tree) (e : Refusal) → (e ≢ Memory → ComesToNone w text t e)
      → EndsAs (λ o. (found : Option (List ℕ)) → TextEnds w text t file found o) (Err (query_stop e))
  refused-text t Memory denied = tt
  refused-text t e denied = λ found. unplanned e (denied (λ memory. absurd (cc)))
