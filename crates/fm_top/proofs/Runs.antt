-- How runs end.
use Rattle.std.{proofs.Common.{◌≡◌, ℕ, List, [], ◌∷◌, get_or, Option, None, Some, refl, sym, ap, ◌∙◌, inl, inr}}
use Rattle.fm_io.specs.Files.{Contents}
use Rattle.fm_top.specs.{Found.{OfFile}, Outcome.{Outcome}}
use Rattle.fm_top.specs.Run.{EndsBy, HasOutcome, faulty, asked, Traces, printed, failed, stopped, Runs, ended, unread, unknown, code_of, EndsWith}
use Rattle.fm_top.specs.{Words.{Request, Sum, Ask, Demo, Asks, CanBeAsked, AreFaulty, first_file, last_file}, declared.{command.wish.Wish.TheVariants.{Answer, Group}, outcome.left.Left.{Left}}}
use Rattle.fm_top.specs.declared.outcome.status.Status.{Status}
use Rattle.fm_top.specs.declared.outcome.status.Status.TheVariants.{Answered, Usage, Missing, Unread, LayoutRefused, QueryRefused, Ragged, TooLong, Unwritten, NoMemory, ScriptRefused}
use Rattle.fm_top.proofs.{Threaded.{are_threads}, Causes.{CauseOf, end_cause}}

-- what words ask for can be asked
pub can_be_asked : (words : List (List ℕ)) (request : Request) → Asks words request → CanBeAsked request
can_be_asked words (Sum size at kind file) asks = asks.has_value
can_be_asked words (Ask (Answer q threads) layout text file) asks = are_threads asks.text threads asks.are_threads
can_be_asked words (Ask (Group threads) layout text file) asks = are_threads asks.text threads asks.are_threads
can_be_asked words (Demo threads count) asks = (are_threads asks.threaded.text threads asks.threaded.are_threads, asks.is_count)
can_be_asked words request asks = tt

-- what is found, and what is said of it
pub found_under : (told : Option Contents) (name : Option (List ℕ)) (P : Option (List ℕ) → Type 0) → OfFile told name P → (found : Option (List ℕ)) × P found
found_under told None P has = (None, has)
found_under told (Some name) P has = (has.0, has.2)

-- an outcome's status has its cause in what is found
pub found_cause : (request : Request) (told : Option Contents) (o : Outcome) → HasOutcome request told o
    → (first : Option (List ℕ)) × (last : Option (List ℕ)) × CauseOf o.status request first last
found_cause request told o has =
    let first = found_under told (first_file request) (λ x. OfFile told (last_file request) (λ y. EndsBy request x y o)) has in
    let last = found_under told (last_file request) (λ y. EndsBy request first.0 y o) first.1 in
    (first.0, last.0, end_cause request first.0 last.0 o last.1)

-- ---- which status means what

-- the status of a code
status_of : ℕ → Status
status_of n = get_or (Answered ∷ Usage ∷ Missing ∷ Unread ∷ LayoutRefused ∷ QueryRefused ∷ Ragged ∷ TooLong ∷ Unwritten ∷ NoMemory ∷ []) n ScriptRefused

status_of-code_of : (s : Status) → status_of (code_of s) ≡ s
unfolding status_of
status_of-code_of Answered = refl
status_of-code_of s = refl

-- no two statuses have one code
pub code_of-injective : (r s : Status) → code_of r ≡ code_of s → r ≡ s
code_of-injective r s same = sym (status_of-code_of r) ∙ ap status_of same ∙ status_of-code_of s

-- words that ask for nothing end with usage, or in the writing of that, or for want of memory
pub faulty_ends : {words : List (List ℕ)} {t : Traces} {k : Left} {s : Status} → Runs words t k s → AreFaulty words → EndsWith Usage s
faulty_ends (ended o r (faulty same) (printed all)) none = inl refl
faulty_ends (ended o r (asked request x asks has) (printed all)) none = absurd (none request asks)
faulty_ends (ended o r known (failed rose front)) none = inr (inl refl)
faulty_ends (ended o r known (stopped front)) none = inr (inr refl)
faulty_ends (unread asks rose kept) none = absurd (none asks.0 asks.1)
faulty_ends (unknown kept) none = inr (inr refl)
