-- What a name may stand for, by the line that makes it.
use Rattle.std.proofs.{Common.{◌≡◌, refl, sym, ap, subst, ◌∙◌, ℕ, Option, Some, None, Result, Ok, Err, List, MatchOption}, lemmas.Bool.{cond_both}}
use Rattle.std.specs.Option.{option_map}
use Rattle.fm_base.specs.{declared.{arena_id.ArenaId.{ArenaId}, caller.Caller.{Caller}, kind.Kind.{Kind}, refusal.Refusal.{Refusal}}, Calls.{Entry}}
use Rattle.fm_base.specs.declared.kind.Kind.TheVariants as kind
use Rattle.fm_script_text.specs.declared.command.Command.{Command}
use Rattle.fm_script_text.specs.declared.command.Command.TheVariants.{Open, Alloc, Slice, Readonly, Get, Set, Add, Cas, Fill, Copy, Mismatch, Alive, Hold, Unhold, Again, Back, Close}
use Rattle.fm_script_text.specs.{declared.thing.Thing.{Thing}, Rules.{Made, made, opened}}
use Rattle.fm_script_text.specs.declared.thing.Thing.TheVariants as thing
use Rattle.fm_segment.specs.Region.{Region, region_of}
use Rattle.fm_script_lines.specs.declared.{outcome.LineOutcome.{LineOutcome}, reply.Reply.TheVariants.{Fine, Place, Number, Truth}}
use Rattle.fm_script_lines.specs.declared.standing.Standing.{Standing, TheVariants.{Nothing}}
use Rattle.fm_script_lines.specs.Calls.{Adds, Allocates, Asks, CallDoes, Closes, Compares, Copies, Exchanges, Fills, Gets, GivesBack, Holds, Line, On, Sets, TakesAgain, Unholds, arena_at, coming, fine, number, segment_at, segment_made}
use Rattle.fm_script_lines.specs.{Outcomes.{outcome, plain}, Lines.{behind, is_number}}
use Rattle.fm_script_lines.specs.Standings.{IsSpent, hold_of, handle_of, lent, handled_as, held_as, opened_as, unheld, handed_back}
use Rattle.fm_script_lines.proofs.Naming.{lent_none, tokens_left}
use Rattle.fm_script_lines.specs.declared.standing.Standing.TheVariants as standing
use Rattle.fm_gate.specs.Makers.{Made as MadeBy}
use Rattle.fm_arena.specs.declared.handle.AutoHandle.{AutoHandle}
use Rattle.fm_gate.specs.declared.held.Hold as held

-- a name of such may stand for it
abbrev pub CanStand : Thing → Standing → Type 0
CanStand thing.Arena s = IsSpent s
CanStand thing.Automatic s = hold_of s ≡ None
CanStand thing.Segment s = IsSpent s
CanStand thing.Hold s = handle_of s ≡ None
CanStand thing.Handle s = hold_of s ≡ None

-- a line that makes this may make it
abbrev pub CanMake : Option Made → Standing → Type 0
CanMake o s = MatchOption o (IsSpent s) (λ m. CanStand m.thing s)

nothing_spent : IsSpent Nothing
nothing_spent = record { no_hold = refl; no_handle = refl }

nothing_stands : (t : Thing) → CanStand t Nothing
nothing_stands thing.Arena = nothing_spent
nothing_stands thing.Automatic = refl
nothing_stands thing.Segment = nothing_spent
nothing_stands thing.Hold = refl
nothing_stands thing.Handle = refl

nothing_made : (o : Option Made) → CanMake o Nothing
nothing_made None = nothing_spent
nothing_made (Some m) = nothing_stands m.thing

-- What isn't its own pass's has neither.
pub lent_spent : (s : Standing) → IsSpent (lent s)
lent_spent s = record {
  no_hold = ap (option_map (λ (h : held.Hold). h.arena)) (lent_none s).0;
  no_handle = ap (option_map (λ (h : AutoHandle). h.arena)) (lent_none s).1;
}

-- ---- what a line made

module _ (P : Standing → Type 0) (nothing : P Nothing) where
  -- Of a call's answer.
  by_answer : {X : Type 0} (ok : X → LineOutcome) → ((x : X) → P (ok x).made) → (out : LineOutcome) (result : Result X Refusal) → out ≡ coming ok result
      → P out.made
  by_answer ok made_ok out (Ok x) e = subst (λ (o : LineOutcome). P o.made) (sym e) (made_ok x)
  by_answer ok made_ok out (Err r) e = subst (λ (o : LineOutcome). P o.made) (sym e) nothing

  -- Of what a name stands for.
  by_name : {X : Type 0} (o : Option X) (Does : X → Line) (out : LineOutcome) (own : List Entry) → ((x : X) → Does x out own → P out.made)
      → On o Does out own → P out.made
  by_name None Does out own f d = subst (λ (o : LineOutcome). P o.made) (sym d.0) nothing
  by_name (Some x) Does out own f d = f x d

opens : (m : MadeBy) (k : Kind) (id : ArenaId) → CanStand (opened k) (opened_as m k id)
opens m kind.Global id = record { no_hold = refl; no_handle = refl }
opens m kind.Automatic id = refl
opens m kind.Confined id = record { no_hold = refl; no_handle = refl }
opens m kind.Shared id = record { no_hold = refl; no_handle = refl }

segment_spent : (r : Region) → IsSpent (standing.Segment r)
segment_spent r = record { no_hold = refl; no_handle = refl }

-- Each line's name stands for what such a line may make.
pub line_makes : (c : Caller) (stands : List ℕ → Standing) (command : Command) (out : LineOutcome) (own : List Entry) → CallDoes c stands command out own
    → CanMake (made command) out.made
line_makes c stands (Open name k) out own d =
    by_answer (CanMake (made (Open name k))) (nothing_made (made (Open name k))) (λ id. outcome Fine (opened_as d.0 k id)) (opens d.0 k) out d.1.0 d.1.2
line_makes c stands (Alloc arena name size align) out own d =
    by_name (CanMake (made (Alloc arena name size align))) nothing_spent (arena_at c stands arena) (Allocates c size align) out own (λ id e.
    by_answer (CanMake (made (Alloc arena name size align))) nothing_spent (λ place. outcome (Place place) (standing.Segment (region_of id place size)))
    (λ place. segment_spent (region_of id place size)) out e.0 e.2) d
line_makes c stands (Slice segment name offset size) out own d =
    by_name (CanMake (made (Slice segment name offset size))) nothing_spent (segment_at c stands segment) _ out own (λ r e.
    by_answer (CanMake (made (Slice segment name offset size))) nothing_spent segment_made segment_spent out e.0 e.2) d
line_makes c stands (Readonly segment name) out own d =
    by_name (CanMake (made (Readonly segment name))) nothing_spent (segment_at c stands segment) _ out own (λ r e.
    by_answer (CanMake (made (Readonly segment name))) nothing_spent segment_made segment_spent out e.0 e.2) d
line_makes c stands (Get cell) out own d =
    by_name IsSpent nothing_spent (segment_at c stands cell.segment) (Gets c cell) out own
    (λ r e. by_answer IsSpent nothing_spent number (λ v. nothing_spent) out e.0 e.2) d
line_makes c stands (Set cell value) out own d =
    by_name IsSpent nothing_spent (segment_at c stands cell.segment) (Sets c cell value) out own
    (λ r e. by_answer IsSpent nothing_spent fine (λ v. nothing_spent) out e.2.0 e.2.2) d
line_makes c stands (Add cell value) out own d =
    by_name IsSpent nothing_spent (segment_at c stands cell.segment) (Adds c cell value) out own
    (λ r e. by_answer IsSpent nothing_spent number (λ v. nothing_spent) out e.4.0 e.4.2) d
line_makes c stands (Cas cell old new) out own d =
    by_name IsSpent nothing_spent (segment_at c stands cell.segment) (Exchanges c cell old new) out own
    (λ r e. by_answer IsSpent nothing_spent number (λ v. nothing_spent) out e.6.0 e.6.2) d
line_makes c stands (Fill segment byte) out own d =
    by_name IsSpent nothing_spent (segment_at c stands segment) (Fills c byte) out own
    (λ r e. by_answer IsSpent nothing_spent fine (λ v. nothing_spent) out e.0 e.2) d
line_makes c stands (Copy source target) out own d =
    by_name IsSpent nothing_spent (segment_at c stands source) _ out own (λ r d2.
    by_name IsSpent nothing_spent (segment_at c stands target) (Copies c r) out own
    (λ t e. by_answer IsSpent nothing_spent fine (λ v. nothing_spent) out e.0 e.2) d2) d
line_makes c stands (Mismatch segment other) out own d =
    by_name IsSpent nothing_spent (segment_at c stands segment) _ out own (λ r d2.
    by_name IsSpent nothing_spent (segment_at c stands other) (Compares c r) out own
    (λ t e. by_answer IsSpent nothing_spent (λ z. plain (Number z)) (λ v. nothing_spent) out e.0 e.2) d2) d
line_makes c stands (Alive arena) out own d =
    by_name IsSpent nothing_spent (arena_at c stands arena) (Asks c) out own
    (λ id e. by_answer IsSpent nothing_spent (λ alive. plain (Truth alive)) (λ v. nothing_spent) out e.0 e.2) d
line_makes c stands (Hold arena name) out own d =
    by_name (λ s. handle_of s ≡ None) refl (arena_at c stands arena) (Holds c) out own
    (λ id e. by_answer (λ s. handle_of s ≡ None) refl (λ u. outcome Fine (held_as e.0 id)) (λ u. refl) out e.1.0 e.1.2) d
line_makes c stands (Unhold hold) out own d =
    by_name IsSpent nothing_spent (hold_of (stands hold)) (Unholds c) out own
    (λ id e. subst (λ (o : LineOutcome). IsSpent o.made) (sym e.0) nothing_spent) d
line_makes c stands (Again handle name) out own d =
    by_name (λ s. hold_of s ≡ None) refl (handle_of (stands handle)) (TakesAgain c) out own
    (λ id e. by_answer (λ s. hold_of s ≡ None) refl (λ u. outcome Fine (handled_as e.0 id)) (λ u. refl) out e.1.0 e.1.2) d
line_makes c stands (Back handle) out own d =
    by_name IsSpent nothing_spent (handle_of (stands handle)) (GivesBack c) out own
    (λ id e. subst (λ (o : LineOutcome). IsSpent o.made) (sym e.2) nothing_spent) d
line_makes c stands (Close arena by) out own d =
    by_name IsSpent nothing_spent (arena_at c stands arena) (Closes c) out own
    (λ id e. by_answer IsSpent nothing_spent fine (λ v. nothing_spent) out e.0 e.2) d

-- ---- what another line leaves of it

pub behind-hold : (number : List ℕ → Option ℕ) (command : Command) (n : ℕ) (s : Standing) → hold_of s ≡ None
    → hold_of (behind number command n s) ≡ None
behind-hold number (Unhold hold) n s e =
    cond_both (is_number (number hold) n) (unheld s) s (λ (x : Standing). hold_of x ≡ None) (λ _. (tokens_left s).unheld_hold) (λ _. e)
behind-hold number (Back handle) n s e =
    cond_both (is_number (number handle) n) (handed_back s) s (λ (x : Standing). hold_of x ≡ None) (λ _. (tokens_left s).handed_hold ∙ e) (λ _. e)
behind-hold number command n s e = e

pub behind-handle : (number : List ℕ → Option ℕ) (command : Command) (n : ℕ) (s : Standing) → handle_of s ≡ None
    → handle_of (behind number command n s) ≡ None
behind-handle number (Unhold hold) n s e =
    cond_both (is_number (number hold) n) (unheld s) s (λ (x : Standing). handle_of x ≡ None) (λ _. (tokens_left s).unheld_handle ∙ e) (λ _. e)
behind-handle number (Back handle) n s e =
    cond_both (is_number (number handle) n) (handed_back s) s (λ (x : Standing). handle_of x ≡ None) (λ _. (tokens_left s).handed_handle) (λ _. e)
behind-handle number command n s e = e

pub behind-spent : (number : List ℕ → Option ℕ) (command : Command) (n : ℕ) (s : Standing) → IsSpent s → IsSpent (behind number command n s)
behind-spent number command n s p = record {
  no_hold = behind-hold number command n s p.no_hold;
  no_handle = behind-handle number command n s p.no_handle;
}

pub behind-stands : (number : List ℕ → Option ℕ) (command : Command) (n : ℕ) (t : Thing) (s : Standing) → CanStand t s
    → CanStand t (behind number command n s)
behind-stands number command n thing.Arena s p = behind-spent number command n s p
behind-stands number command n thing.Automatic s p = behind-hold number command n s p
behind-stands number command n thing.Segment s p = behind-spent number command n s p
behind-stands number command n thing.Hold s p = behind-handle number command n s p
behind-stands number command n thing.Handle s p = behind-hold number command n s p
