-- What a list of names and bytes holds under a name, file by file.
use Rattle.std.proofs.Common.{◌≡◌, ℕ, ◌+◌, suc, ◌<◌, ◌≤◌, List, [], ◌∷◌, length, drop, get_or, None, Some, String, Vec, string_bytes, cond, Bool, true, false, ap, sym, ◌∙◌, add-one, drop-cons}
use Rattle.std.{proofs.Math.ListN.{drop_of_length-le}, specs.{Ordering.{nat_cmp}, Cmp.Lexicographic.{slice_cmp, nat_list_cmp_total}}}
use Rattle.std.{specs.{FinMap.{get-insert, get-empty}, Str.{bytes_eq}, declared.alloc.Global.{Global}}, proofs.lemmas.Map.Text.{is_eq-slice_cmp}}
use Rattle.fm_io.specs.Files.{file_of, contents_of}

-- the first file has the name, or the others decide
file_of-cons : (f : String Global × Vec ℕ Global) (fs : List (String Global × Vec ℕ Global)) (q : List ℕ)
    → file_of (contents_of (f ∷ fs)) q ≡ cond (bytes_eq q (string_bytes f.0)) (Some f.1.items) (file_of (contents_of fs) q)
file_of-cons f fs q =
    get-insert nat_list_cmp_total (contents_of fs) (string_bytes f.0) f.1.items q
    ∙ ap (λ b. cond b (Some f.1.items) (file_of (contents_of fs) q)) (is_eq-slice_cmp q (string_bytes f.0))

-- no file, no bytes
file_of-nil : (q : List ℕ) → file_of (contents_of []) q ≡ None
file_of-nil q = get-empty (slice_cmp nat_cmp) q

-- the files from the i-th on are the i-th and those behind it
from_index : (fs : List (String Global × Vec ℕ Global)) (i : ℕ) (f : String Global × Vec ℕ Global) → i < length fs → f ≡ get_or fs i f
    → drop i fs ≡ f ∷ drop (i + 1) fs
from_index fs i f below is = rw add-one (drop-cons fs i f below ∙ ap (λ g. g ∷ drop (suc i) fs) (sym is))

module _ (fs : List (String Global × Vec ℕ Global)) (i : ℕ) (f : String Global × Vec ℕ Global) (q key : List ℕ) (below : i < length fs) where
  -- of the files from the i-th on, the i-th has the name, or those behind it decide
  file_of-drop : (b : Bool) → f ≡ get_or fs i f → key ≡ string_bytes f.0 → bytes_eq q key ≡ b
      → file_of (contents_of (drop i fs)) q ≡ cond b (Some f.1.items) (file_of (contents_of (drop (i + 1) fs)) q)
  file_of-drop b is named told =
      ap (λ l. file_of (contents_of l) q) (from_index fs i f below is) ∙ file_of-cons f (drop (i + 1) fs) q
      ∙ ap (λ c. cond c (Some f.1.items) (file_of (contents_of (drop (i + 1) fs)) q)) (ap (bytes_eq q) (sym named) ∙ told)

  -- the i-th has the name
  pub found_at : f ≡ get_or fs i f → key ≡ string_bytes f.0 → bytes_eq q key ≡ true → file_of (contents_of (drop i fs)) q ≡ Some f.1.items
  found_at = file_of-drop true

  -- the i-th has another name
  pub passed_at : f ≡ get_or fs i f → key ≡ string_bytes f.0 → bytes_eq q key ≡ false
      → file_of (contents_of (drop i fs)) q ≡ file_of (contents_of (drop (i + 1) fs)) q
  passed_at = file_of-drop false

-- behind the last file there is none
pub none_left : (fs : List (String Global × Vec ℕ Global)) (i : ℕ) (q : List ℕ) → length fs ≤ i → file_of (contents_of (drop i fs)) q ≡ None
none_left fs i q past = ap (λ l. file_of (contents_of l) q) (drop_of_length-le fs past) ∙ file_of-nil q
