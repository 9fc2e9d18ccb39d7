-- What names stand for is known to whoever has seen their lines' entries.
use Rattle.std.specs.Prelude.{IfSome}
use Rattle.std.proofs.Common.{◌≡◌, ℕ, ◌+◌, ◌==◌, Bool, true, false, not, if◌then◌else◌, List, [], ◌∷◌, refl, sym, ap, ◌∙◌, subst, inl, inr, Option, Some, None, Ok, Err, Result}
use Rattle.fm_base.specs.declared.{caller.Caller.{Caller}, arena_id.ArenaId.{ArenaId}, kind.Kind.{Kind}, refusal.Refusal.{Refusal}}
use Rattle.fm_base.specs.{Calls.{Entry, entry_of, Open, Fine, Allocate, Given}, Does.{DoesOpen, DoesAllocate}, View.{but_loans, is_loan}}
use Rattle.fm_base.specs.declared.kind.Kind.TheVariants as kind
use Rattle.fm_base_lists.{specs.Among.{IsAmong}, proofs.Among.{among_kept, among_left, among_right}}
use Rattle.fm_rule_facts.specs.Views.{View, IsKnown, IsSound, limit_of}
use Rattle.fm_rule_calls.specs.Told.{view_of_pass}
use Rattle.fm_segment.specs.Access as segment
use Rattle.fm_segment.specs.{Region.{Region, region_of}, Slices.{slice_of}}
use Rattle.fm_script_text.specs.declared.command.Command.{Command}
use Rattle.fm_script_text.specs.declared.command.Command.TheVariants as command
use Rattle.fm_script_lines.specs.declared.{outcome.LineOutcome.{LineOutcome}, standing.Standing.{Standing}}
use Rattle.fm_script_lines.specs.Calls.{Adds, Allocates, Asks, CallDoes, Closes, Compares, Copies, Exchanges, Fills, Gets, GivesBack, Holds, Line, On, Sets, TakesAgain, Unholds, arena_at, coming, fine, number, segment_at, segment_made}
use Rattle.fm_script_lines.specs.{Lines.{behind, is_number}, Outcomes.{outcome, plain}, Report.{Done, AreRun, names_after, names_behind, runs}}
use Rattle.fm_script_lines.specs.Standings.{IsBacked, Names, hold_of, handle_of, handled_as, held_as, lent, opened_as, stands_of, unheld, handed_back}
use Rattle.fm_script_lines.proofs.{Backing.{segment_known}, Lent.{stays_lent}, Lines.{slice_known}}
use Rattle.fm_script_lines.specs.declared.reply.Reply.TheVariants as reply
use Rattle.fm_script_lines.specs.declared.standing.Standing.TheVariants as standing
use Rattle.fm_gate.specs.Makers.{Made as MadeBy}
use Rattle.fm_script.proofs.Known.{opened_there, given_there}

-- ---- a line's name

module _ (p : View) (sound : IsSound p) where
  backed_nothing : (s : Standing) → lent s ≡ standing.Nothing → IsBacked p (lent s)
  backed_nothing s is = subst (λ (x : Standing). IsBacked p x) (sym is) tt

  by_kind : (m : MadeBy) (k : Kind) (id : ArenaId) → IsKnown p id → IsBacked p (lent (opened_as m k id))
  by_kind m kind.Global id known = known
  by_kind m kind.Automatic id known = known
  by_kind m kind.Confined id known = known
  by_kind m kind.Shared id known = known

  opens : (c : Caller) (m : MadeBy) (k : Kind) (result : Result ArenaId Refusal) (out : LineOutcome) (own : List Entry) → DoesOpen c k result (but_loans own)
      → out ≡ coming (λ id. outcome reply.Fine (opened_as m k id)) result → ((e : Entry) → IsAmong e own → IsAmong e p.seen)
      → IsBacked p (lent out.made)
  opens c m k (Ok id) out own did is seen =
      let e : Entry = entry_of c (Open id) Fine in
      let among : IsAmong e (but_loans own) = subst (λ (es : List Entry). IsAmong e es) (sym did.2) (inl refl) in
      let known = opened_there (limit_of p.shape) [] p.seen e id sound.legal (seen e (among_kept (λ x. not (is_loan x.call)) e own among)) refl in
      subst (λ (x : LineOutcome). IsBacked p (lent x.made)) (sym is) (by_kind m k id known)
  opens c m k (Err r) out own did is seen = backed_nothing out.made (ap (λ (y : LineOutcome). lent y.made) is)

  allocates : (c : Caller) (id : ArenaId) (size align : ℕ) (result : Result ℕ Refusal) (out : LineOutcome) (own : List Entry)
      → DoesAllocate c id size align result (but_loans own)
      → out ≡ coming (λ place. outcome (reply.Place place) (standing.Segment (region_of id place size))) result
      → ((e : Entry) → IsAmong e own → IsAmong e p.seen) → IsBacked p (lent out.made)
  allocates c id size align (Ok place) out own did is seen =
      let e : Entry = entry_of c (Allocate id size align) (Given place) in
      let among : IsAmong e (but_loans own) = subst (λ (es : List Entry). IsAmong e es) (sym did.2) (inr (inl refl)) in
      let g = given_there (limit_of p.shape) [] p.seen e id size align place sound.legal
      (seen e (among_kept (λ x. not (is_loan x.call)) e own among)) refl refl in
      subst (λ (x : LineOutcome). IsBacked p (lent x.made)) (sym is) (record { arena = g.there; given = g.given })
  allocates c id size align (Err r) out own did is seen = backed_nothing out.made (ap (λ (y : LineOutcome). lent y.made) is)

  slices : (offset size : ℕ) (r : Region) (result : Result Region Refusal) (out : LineOutcome) → segment.IsKnown (view_of_pass p) r
      → result ≡ slice_of offset size r → out ≡ coming segment_made result → IsBacked p (lent out.made)
  slices offset size r (Ok s) out known answer is =
      subst (λ (x : LineOutcome). IsBacked p (lent x.made)) (sym is) (slice_known p offset size r s answer known)
  slices offset size r (Err e) out known answer is = backed_nothing out.made (ap (λ (y : LineOutcome). lent y.made) is)

  some_segment : (o : Option Region) (Does : Region → Line) (out : LineOutcome) (own : List Entry) → IfSome o (segment.IsKnown (view_of_pass p))
      → On o Does out own → ((r : Region) → segment.IsKnown (view_of_pass p) r → Does r out own → IsBacked p (lent out.made)) → IsBacked p (lent out.made)
  some_segment None Does out own known r h = backed_nothing out.made (ap (λ (x : LineOutcome). lent x.made) r.0)
  some_segment (Some s) Does out own known r h = h s known r

  -- Of a call's answer.
  by_answer : {X : Type 0} (ok : X → LineOutcome) → ((x : X) → IsBacked p (lent (ok x).made)) → (out : LineOutcome) (result : Result X Refusal)
      → out ≡ coming ok result → IsBacked p (lent out.made)
  by_answer ok known out (Ok x) e = subst (λ (o : LineOutcome). IsBacked p (lent o.made)) (sym e) (known x)
  by_answer ok known out (Err r) e = subst (λ (o : LineOutcome). IsBacked p (lent o.made)) (sym e) tt

  -- Of what a name stands for.
  by_name : {X : Type 0} (o : Option X) (Does : X → Line) (out : LineOutcome) (own : List Entry)
      → ((x : X) → Does x out own → IsBacked p (lent out.made)) → On o Does out own → IsBacked p (lent out.made)
  by_name None Does out own f d = subst (λ (o : LineOutcome). IsBacked p (lent o.made)) (sym d.0) tt
  by_name (Some x) Does out own f d = f x d

  module _ (c : Caller) (stands : List ℕ → Standing) (known : (name : List ℕ) → IsBacked p (lent (stands name))) where
    -- What a line made is known.
    pub line_known : (k : Command) (out : LineOutcome) (own : List Entry) → CallDoes c stands k out own → ((e : Entry) → IsAmong e own → IsAmong e p.seen)
        → IsBacked p (lent out.made)
    line_known (command.Open name kind) out own d seen = opens c d.0 kind d.1.0 out own d.1.1.1 d.1.2 seen
    line_known (command.Alloc arena name size align) out own d seen =
        by_name (arena_at c stands arena) (Allocates c size align) out own (λ id a. allocates c id size align a.0 out own a.1.1 a.2 seen) d
    line_known (command.Slice segment name offset size) out own d seen =
        some_segment (segment_at c stands segment) _ out own (segment_known p (stands segment) (known segment)) d
        (λ r k a. slices offset size r a.0 out k a.1.0 a.2)
    line_known (command.Readonly segment name) out own d seen =
        some_segment (segment_at c stands segment) _ out own (segment_known p (stands segment) (known segment)) d
        (λ r k a. subst (λ (x : LineOutcome). IsBacked p (lent x.made)) (sym (a.2 ∙ ap (λ (x : Result Region Refusal). coming segment_made x) a.1.0))
        (record { arena = k.arena; given = k.given }))
    line_known (command.Get cell) out own d seen =
        by_name (segment_at c stands cell.segment) (Gets c cell) out own (λ r a. by_answer number (λ v. tt) out a.0 a.2) d
    line_known (command.Set cell value) out own d seen =
        by_name (segment_at c stands cell.segment) (Sets c cell value) out own (λ r a. by_answer fine (λ v. tt) out a.2.0 a.2.2) d
    line_known (command.Add cell value) out own d seen =
        by_name (segment_at c stands cell.segment) (Adds c cell value) out own (λ r a. by_answer number (λ v. tt) out a.4.0 a.4.2) d
    line_known (command.Cas cell old new) out own d seen =
        by_name (segment_at c stands cell.segment) (Exchanges c cell old new) out own (λ r a. by_answer number (λ v. tt) out a.6.0 a.6.2) d
    line_known (command.Fill segment byte) out own d seen =
        by_name (segment_at c stands segment) (Fills c byte) out own (λ r a. by_answer fine (λ v. tt) out a.0 a.2) d
    line_known (command.Copy source target) out own d seen =
        by_name (segment_at c stands source) (λ r. On (segment_at c stands target) (Copies c r)) out own (λ r d2.
        by_name (segment_at c stands target) (Copies c r) out own (λ t a. by_answer fine (λ v. tt) out a.0 a.2) d2) d
    line_known (command.Mismatch segment other) out own d seen =
        by_name (segment_at c stands segment) (λ r. On (segment_at c stands other) (Compares c r)) out own (λ r d2.
        by_name (segment_at c stands other) (Compares c r) out own (λ t a. by_answer (λ z. plain (reply.Number z)) (λ v. tt) out a.0 a.2) d2) d
    line_known (command.Alive arena) out own d seen =
        by_name (arena_at c stands arena) (Asks c) out own (λ id a. by_answer (λ alive. plain (reply.Truth alive)) (λ v. tt) out a.0 a.2) d
    line_known (command.Hold arena name) out own d seen =
        by_name (arena_at c stands arena) (Holds c) out own (λ id a. by_answer (λ u. outcome reply.Fine (held_as a.0 id)) (λ v. tt) out a.1.0 a.1.2) d
    line_known (command.Unhold hold) out own d seen =
        by_name (hold_of (stands hold)) (Unholds c) out own (λ id a. subst (λ (o : LineOutcome). IsBacked p (lent o.made)) (sym a.0) tt) d
    line_known (command.Again handle name) out own d seen =
        by_name (handle_of (stands handle)) (TakesAgain c) out own
        (λ id a. by_answer (λ u. outcome reply.Fine (handled_as a.0 id)) (λ v. tt) out a.1.0 a.1.2) d
    line_known (command.Back handle) out own d seen =
        by_name (handle_of (stands handle)) (GivesBack c) out own (λ id a. subst (λ (o : LineOutcome). IsBacked p (lent o.made)) (sym a.2) tt) d
    line_known (command.Close arena by) out own d seen =
        by_name (arena_at c stands arena) (Closes c) out own (λ id a. by_answer fine (λ v. tt) out a.0 a.2) d

-- ---- all names

-- A line takes from a name at most what others may not use.
pub lent_behind : (number : List ℕ → Option ℕ) (k : Command) (n : ℕ) (s : Standing) → lent (behind number k n s) ≡ lent s
lent_behind number (command.Unhold hold) n s = go (is_number (number hold) n)
  where
    go : (b : Bool) → lent (if b then unheld s else s) ≡ lent s
    go true = (stays_lent s).once_unheld
    go false = refl
lent_behind number (command.Back handle) n s = go (is_number (number handle) n)
  where
    go : (b : Bool) → lent (if b then handed_back s else s) ≡ lent s
    go true = (stays_lent s).once_handed
    go false = refl
lent_behind number (command.Open name kind) n s = refl
lent_behind number (command.Alloc arena name size align) n s = refl
lent_behind number (command.Slice segment name offset size) n s = refl
lent_behind number (command.Readonly segment name) n s = refl
lent_behind number (command.Get cell) n s = refl
lent_behind number (command.Set cell value) n s = refl
lent_behind number (command.Add cell value) n s = refl
lent_behind number (command.Cas cell old new) n s = refl
lent_behind number (command.Fill segment byte) n s = refl
lent_behind number (command.Copy source target) n s = refl
lent_behind number (command.Mismatch segment other) n s = refl
lent_behind number (command.Alive arena) n s = refl
lent_behind number (command.Hold arena name) n s = refl
lent_behind number (command.Again handle name) n s = refl
lent_behind number (command.Close arena by) n s = refl

module _ (p : View) (sound : IsSound p) (c : Caller) (number : List ℕ → Option ℕ) where
  -- Behind lines whose entries were seen all names are known.
  pub names_known : (k : ℕ) (names : Names) (ds : List Done) → ((n : ℕ) → IsBacked p (lent (names n))) → AreRun c number k names ds
      → ((e : Entry) → IsAmong e (runs ds) → IsAmong e p.seen) → (n : ℕ) → IsBacked p (lent (names_after number k ds names n))
  names_known k names [] known ran seen n = known n
  names_known k names (d ∷ ds) known ran seen n =
      names_known (k + 1) (names_behind number k d names) ds next ran.1 (λ e i. seen e (among_right e d.run (runs ds) i)) n
    where
      stood : (name : List ℕ) → IsBacked p (lent (stands_of names (number name)))
      stood name = go (number name)
        where
          go : (o : Option ℕ) → IsBacked p (lent (stands_of names o))
          go None = tt
          go (Some m) = known m

      made : IsBacked p (lent d.made)
      made = line_known p sound c (λ name. stands_of names (number name)) stood d.line.command (outcome d.reply d.made) d.run ran.0
          (λ e i. seen e (among_left e d.run (runs ds) i))

      next : (m : ℕ) → IsBacked p (lent (names_behind number k d names m))
      next m = go (m == k)
        where
          go : (b : Bool) → IsBacked p (lent (if b then d.made else behind number d.line.command m (names m)))
          go true = made
          go false = subst (λ (s : Standing). IsBacked p s) (sym (lent_behind number d.line.command m (names m))) (known m)
