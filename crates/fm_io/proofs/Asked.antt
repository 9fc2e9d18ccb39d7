-- What one question to the system comes to.
use Rattle.std.{proofs.Common.{◌≡◌, ◌≢◌, ℕ, List, Option, Result, Ok, Err, subst}, specs.declared.io.Error.{Error}}
use Rattle.fm_io.specs.{Host.{AsksOnce, AsksOn, ComesTo, EndsAt, Question, question, way_to}, declared.fault.Fault.{Fault, TheVariants.{Memory}}}
use Rattle.fm_io.specs.declared.{files.Piece.{Piece}, system.Way.{Way}}

-- an answer is never that memory ran out
never_memory : (answer : Result ℕ Error) (result : Result Piece Fault) → ComesTo answer result → result ≢ Err Memory
never_memory (Ok n) result told out = absurd (cc)
never_memory (Err e) result told out = absurd (let failed = told.1 (λ gone. absurd {A = ⊥} (let missing = told.0 gone in cc)) in cc)

-- one question was put and answered
pub asked_once : {S : Type 0} {told : S → Option (List Question)} {old mid new : S} {next after : Option ℕ} {had has name : List ℕ} {place room : ℕ}
    {way : Way} {result : Result Piece Fault} (answer : Result ℕ Error) → mid ≡ old → way ≡ way_to next had name place → has ≡ name
    → AsksOn (told mid) (told new) (question way name place room answer) → ComesTo answer result → EndsAt place answer after
    → AsksOnce told old new next had has name place room result after
asked_once {S} {told} {old} {mid} {new} {next} {after} {had} {has} {name} {place} {room} {way} {result} answer same is kept noted comes left =
    let never = never_memory answer result comes in
    record {
      asked = λ no. record {
        answer = answer;
        noted = subst (λ (w : Way). AsksOn (told old) (told new) (question w name place room answer)) is
            (subst (λ (s : S). AsksOn (told s) (told new) (question way name place room answer)) same noted);
        told = comes;
        left = left;
      };
      kept = λ no. kept;
      opens = λ out. absurd (never out);
      unasked = λ out. absurd (never out);
      closed = λ out. absurd (never out);
    }
