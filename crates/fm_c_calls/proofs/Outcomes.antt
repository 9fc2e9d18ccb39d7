-- The report of each refusal is printed as it is.
use Rattle.std.{proofs.{Common.{◌≡◌, ℕ, List, [], ◌∷◌, ◌++◌, refl, ap, sym, ◌∙◌}, lemmas.List.{append-nil}}, specs.Fmt.{decimal}}
use Rattle.fm_base.specs.declared.refusal.Refusal.{Refusal}
use Rattle.fm_base.specs.declared.refusal.Refusal.TheVariants as refusal
use Rattle.fm_base.specs.Printed.{refusal_text, spaced}
use Rattle.fm_c_calls.specs.Reports.{refused, report_text}

pub says_refusals : (r : Refusal) → report_text (refused r) ≡ refusal_text r
says_refusals refusal.Closed = refl
says_refusals refusal.WrongThread = refl
says_refusals refusal.Bounds = refl
says_refusals refusal.Misaligned = refl
says_refusals refusal.ReadOnly = refl
says_refusals refusal.Unsupported = refl
says_refusals (refusal.Held holds) = refl
says_refusals (refusal.CannotClose kind) = refl
says_refusals refusal.BadAlignment = refl
says_refusals (refusal.NoRoom given) = refl
says_refusals refusal.PoolFull = refl
says_refusals refusal.NoSlot = refl
says_refusals refusal.NoPass = refl
says_refusals refusal.TooManyHolds = refl
says_refusals refusal.Overflow = refl
says_refusals (refusal.MemberMisaligned index offset) = refl
says_refusals refusal.ElementRagged = refl
says_refusals refusal.BadPadding = refl
says_refusals (refusal.AlignmentBelow least) = refl
says_refusals refusal.NoSize = refl
says_refusals (refusal.NotGroup step) = refl
says_refusals (refusal.NoMember step) = refl
says_refusals (refusal.NotSequence step) = refl
says_refusals (refusal.IndexOut step) = refl
says_refusals (refusal.StillOpen step) = refl
says_refusals refusal.NotValue = refl
says_refusals (refusal.BadStep step) = refl
says_refusals refusal.BadJson = refl
says_refusals (refusal.BadShape node) = refl
says_refusals (refusal.BadQuery at) = refl
says_refusals (refusal.Ragged rest) = refl
says_refusals (refusal.BadScript line) = refl
says_refusals (refusal.NotText at) = refl
says_refusals refusal.NoZero = refl
says_refusals refusal.TableFull = refl
says_refusals refusal.Memory = refl

-- Its text with no argument, with one, and with two.
pub printed_none : (n : ℕ) (xs : List ℕ) → [] ≡ xs → decimal n ≡ decimal n ++ spaced xs
printed_none n xs e = sym (append-nil (decimal n)) ∙ ap (λ bs. decimal n ++ spaced bs) e

pub printed_one : (n a : ℕ) (xs : List ℕ) → a ∷ [] ≡ xs → decimal n ++ (32 ∷ decimal a) ≡ decimal n ++ spaced xs
printed_one n a xs e = ap (λ bs. decimal n ++ (32 ∷ bs)) (sym (append-nil (decimal a))) ∙ ap (λ bs. decimal n ++ spaced bs) e

pub printed_two : (n a b : ℕ) (xs : List ℕ) → a ∷ b ∷ [] ≡ xs → decimal n ++ (32 ∷ (decimal a ++ (32 ∷ decimal b))) ≡ decimal n ++ spaced xs
printed_two n a b xs e =
    ap (λ bs. decimal n ++ (32 ∷ (decimal a ++ (32 ∷ bs)))) (sym (append-nil (decimal b))) ∙ ap (λ bs. decimal n ++ spaced bs) e
