-- Shares that a caller answers, one after the other.
use Rattle.std.{proofs.{Common.{◌≡◌, ℕ, List, [], ◌∷◌, ◌++◌, refl, sym, ap, ◌∙◌, append_assoc}, lemmas.List.{append-nil}}, specs.List.{AllByRecursion}}
use Rattle.fm_base.specs.{declared.caller.Caller.{Caller}, Calls.{Entry}, Histories.{made_by}}
use Rattle.fm_base_lists.specs.Among.{IsAmong}
use Rattle.fm_segment.specs.Region.{Region}
use Rattle.fm_records_query.specs.Plan.{Plan}
use Rattle.fm_workers_shares.{specs.{declared.answers.Done.{Done}, Taking.{DoesEach, DoesShare}}, proofs.Sharing.{IsAnsweredAt}}

-- It answers one more.
pub DoesEach-more : (p : Plan) (s : Region) (each : ℕ) (c : Caller) (ds : List Done) (d : Done) (own one : List Entry) → DoesEach p s each c ds own
    → DoesShare p s each c d one → DoesEach p s each c (ds ++ d ∷ []) (own ++ one)
DoesEach-more p s each c [] d own one h m = (one, [], ap (λ (es : List Entry). es ++ one) h ∙ sym (append-nil one), m, refl)
DoesEach-more p s each c (x ∷ ds) d own one h m = (
  h.0,
  h.1 ++ one,
  ap (λ (es : List Entry). es ++ one) h.2 ∙ append_assoc h.0 h.1 one,
  h.3,
  DoesEach-more p s each c ds d h.1 one h.4 m,
)

-- Each is answered by a run of its entries.
pub answered_each : (p : Plan) (s : Region) (each : ℕ) (crew : List Caller) (more : List Entry) (c : Caller) (ds : List Done)
    (earlier own later : List Entry) → IsAmong c crew → made_by c more ≡ earlier ++ (own ++ later) → DoesEach p s each c ds own
    → AllByRecursion (λ d. IsAnsweredAt p s each crew more d.job d.answer) ds
answered_each p s each crew more c [] earlier own later among is h = tt
answered_each p s each crew more c (d ∷ ds) earlier own later among is h =
    let split : own ++ later ≡ h.0 ++ (h.1 ++ later) = ap (λ (es : List Entry). es ++ later) h.2 ∙ append_assoc h.0 h.1 later in
    let run : made_by c more ≡ earlier ++ (h.0 ++ (h.1 ++ later)) = is ∙ ap (λ (es : List Entry). earlier ++ es) split in (
      record { caller = c; among = among; own = h.0; run = record { earlier = earlier; later = h.1 ++ later; run = run }; does = h.3 },
      answered_each p s each crew more c ds (earlier ++ h.0) h.1 later among (run ∙ sym (append_assoc earlier h.0 (h.1 ++ later))) h.4,
    )
