-- Where a worker's line finds no slot, other lines had each slot.
use Rattle.std.proofs.Common.{◌≡◌, ◌≢◌, ℕ, ◌+◌, ◌<◌, ◌≤◌, Bool, true, false, Option, List, [], ◌∷◌, ◌++◌, length, map, append_assoc, refl, sym, ap, ◌∙◌, subst, ◌⊎◌, inl, inr, arith}
use Rattle.std.specs.{List.{AllByRecursion}, Prelude.{not}}
use Rattle.fm_base.specs.{declared.{arena_id.ArenaId.{ArenaId}, caller.Caller.{Caller}}, Arenas.{are_one}, Calls.{Open, Entry}, Finds.{Find, is_slot}}
use Rattle.fm_base.{specs.{Histories.{IsLegal, made_by}, View.{but_loans, is_loan}}, proofs.{Making.{IsLegal-split}, Names.{are_one-true, are_one-false}}}
use Rattle.fm_base_lists.{specs.Among.{IsAmong}, proofs.{Among.{among_either, among_kept, among_left}, Each.{all_among}}}
use Rattle.fm_rule_facts.specs.Views.{Begins, In, NoneLeft, OpenedBut, limit_of}
use Rattle.fm_script_lines.specs.{Played.{Done, Player, runs, worked}, Report.{AreRun, AreWorked, names_behind}}
use Rattle.fm_script_lines.specs.{Slots.{AreFound, FindRightly, FoundAt, Opened, WorkersFind}, Standings.{Names}}
use Rattle.fm_words.specs.declared.shape.Shape.{Shape}
use Rattle.fm_script_laws.{specs.Slots.{FindsAreRight, FindsTold}, proofs.Opened.{OpenedIn, among_but, among_own, opened_in}}
use Rattle.fm_script_laws.proofs.Openers.{done_opened, opened_left, opened_right, row_opened}

-- Two beginnings of one history: what stands in the shorter one stands in the other.
shorter : (e : Entry) (xs us ys vs : List Entry) → xs ++ us ≡ ys ++ vs → length xs ≤ length ys → IsAmong e xs → IsAmong e ys
shorter e [] us ys vs is less h = absurd h
shorter e (x ∷ xs) us [] vs is less h = absurd (omega arith)
shorter e (x ∷ xs) us (y ∷ ys) vs is less (inl i) = let same : x ≡ y = cc in inl (i ∙ same)
shorter e (x ∷ xs) us (y ∷ ys) vs is less (inr i) =
    let rest : xs ++ us ≡ ys ++ vs = cc in
    inr (shorter e xs us ys vs rest (omega arith) i)

module _ (z : Shape) (all : List Entry) (legal : IsLegal (limit_of z) [] all) where
  -- ---- one line

  -- others' entries that open are of these lines
  abbrev OthersOpened : Caller → List Done → Type 0
  OthersOpened c others = (e : Entry) (a : ArenaId) → IsAmong e all → e.call ≡ Open a → e.caller ≢ c → Opened a.slot others

  -- and so are these entries
  abbrev OwnOpened : List Entry → List Done → Type 0
  OwnOpened own earlier = (e : Entry) (a : ArenaId) → IsAmong e own → e.call ≡ Open a → Opened a.slot earlier

  module _ (c : Caller) (others : List Done) (by_others : OthersOpened c others) where
    -- An arena that was there when a find was made, all of whose own entries until then are known.
    seen_opened : (at own : List Entry) (earlier : List Done) (before : List Entry) (a : ArenaId) → Begins at all → Begins before all
        → length before ≤ length at → but_loans (made_by c at) ≡ but_loans own → OwnOpened own earlier → OpenedIn a before → Opened a.slot (others ++ earlier)
    seen_opened at own earlier before a begins first less own_at by_own o =
        let e = o.entry in
        let P : Bool → Type 0 = λ b. are_one e.caller c ≡ b → Opened a.slot (others ++ earlier) in
        let go : (b : Bool) → P b = λ b. elim b as P [
          | true ↦ (λ is.
              let there : IsAmong e at = shorter e before first.0 at begins.0 (sym first.1 ∙ begins.1) less o.among in
              let mine : IsAmong e (but_loans (made_by c at)) = among_but e a (made_by c at) o.call (among_own c e at (are_one-true e.caller c is) there) in
              let known : IsAmong e (but_loans own) = subst (λ (es : List Entry). IsAmong e es) own_at mine in
              opened_right a.slot others earlier (by_own e a (among_kept (λ x. not (is_loan x.call)) e own known) o.call))
          | false ↦ (λ is.
              let there : IsAmong e all = subst (λ (es : List Entry). IsAmong e es) (sym first.1) (among_left e before first.0 o.among) in
              opened_left a.slot others earlier (by_others e a there o.call (are_one-false e.caller c is)))
        ] in
        go (are_one e.caller c) refl

    -- An arena of a slot that a find tells of.
    but_opened : (at own : List Entry) (earlier : List Done) (before : List Entry) (slot : ℕ) → Begins at all → Begins before all
        → length before ≤ length at → but_loans (made_by c at) ≡ but_loans own → OwnOpened own earlier → OpenedBut (limit_of z) all before c slot
        → Opened slot (others ++ earlier)
    but_opened at own earlier before slot begins first less own_at by_own o =
        let a = o.arena in
        let start = (IsLegal-split (limit_of z) [] before first.0 (subst (λ (es : List Entry). IsLegal (limit_of z) [] es) first.1 legal)).0 in
        subst (λ (s : ℕ). Opened s (others ++ earlier)) o.in_slot (elim o.apart [
          | inl known ↦ seen_opened at own earlier before a begins first less own_at by_own (opened_in (limit_of z) before a start known)
          | inr other ↦
              let x = opened_in (limit_of z) all a legal o.known in
              opened_left a.slot others earlier (by_others x.entry a x.among x.call (λ is. other (x.owner ∙ is)))
        ])

    -- ---- one worker's lines

    module _ (finds : List Find) (seen : List Entry) (begins : Begins seen all)
        (none_left : (f : Find) → In f finds → is_slot f.step ≡ true → f.found ≡ 0 → NoneLeft z all c f) where
      found_opened : (own : List Entry) (earlier : List Done) → OwnOpened own earlier → FoundAt c finds seen own → (slot : ℕ) → slot < z.slots
          → Opened slot (others ++ earlier)
      found_opened own earlier by_own f slot below =
          let n = none_left f.find f.among f.step f.nothing in
          let long = n.long in
          let early = f.early in
          let on : all ≡ f.at ++ (f.begins.0 ++ begins.0) =
          begins.1 ∙ (ap (λ (es : List Entry). es ++ begins.0) f.begins.1 ∙ append_assoc f.at f.begins.0 begins.0) in
          but_opened f.at own earlier n.before slot (f.begins.0 ++ begins.0, on) n.begins (omega arith) f.own_at by_own (n.opened slot below)

      lines_find : (number : List ℕ → Option ℕ) (k : ℕ) (names : Names) (own : List Entry) (earlier ds : List Done) → OwnOpened own earlier
          → AreRun c number k names ds → AreFound c finds seen own ds → FindRightly z others earlier ds
      lines_find number k names own earlier [] by_own run found = tt
      lines_find number k names own earlier (d ∷ ds) by_own run found = (
        λ finds_none slot below. found_opened own earlier by_own (found.0 finds_none) slot below,
        lines_find number (k + 1) (names_behind number k d names) (own ++ d.run) (earlier ++ d ∷ []) ds
            (λ e a i call. elim (among_either e own d.run i) [
              | inl before ↦ opened_left a.slot earlier (d ∷ []) (by_own e a before call)
              | inr here ↦ opened_right a.slot earlier (d ∷ []) (done_opened c number e a call names d run.0 here)
            ]) run.1 found.1,
      )

-- ---- all workers

-- One of these workers' lines opened it.
abbrev ByWorker : Entry → ArenaId → List Player → Type 0
ByWorker e a [] = ⊥
ByWorker e a (w ∷ ws) = ((e.caller ≡ w.caller) × Opened a.slot w.dones) ⊎ ByWorker e a ws

worked_opened : (e : Entry) (a : ArenaId) (ws : List Player) → ByWorker e a ws → Opened a.slot (worked ws)
worked_opened e a [] h = absurd h
worked_opened e a (w ∷ ws) (inl h) = opened_left a.slot w.dones (worked ws) h.1
worked_opened e a (w ∷ ws) (inr h) = opened_right a.slot w.dones (worked ws) (worked_opened e a ws h)

-- Whose entry it is.
worker_opened : (number : List ℕ → Option ℕ) (names : Names) (between : List Entry) (e : Entry) (a : ArenaId) (k : ℕ) (ws : List Player)
    → IsAmong e between → e.call ≡ Open a → AllByRecursion (λ w. made_by w.caller between ≡ runs w.dones) ws → AreWorked number k names ws
    → IsAmong e.caller (map (λ w. w.caller) ws) → ByWorker e a ws
worker_opened number names between e a k [] i call made run by = absurd by
worker_opened number names between e a k (w ∷ ws) i call made run (inl is) =
    let mine = subst (λ (es : List Entry). IsAmong e es) made.0 (among_own w.caller e between is i) in
    inl (is, row_opened w.caller number e a call k names w.dones run.0 mine)
worker_opened number names between e a k (w ∷ ws) i call made run (inr by) =
    inr (worker_opened number names between e a (k + length w.dones) ws i call made.1 run.1 by)

module _ (z : Shape) (all : List Entry) (legal : IsLegal (limit_of z) [] all) (number : List ℕ → Option ℕ) (names : Names) where
  -- lines before these workers' opened it, or their own
  abbrev AllOpened : List Done → List Player → Type 0
  AllOpened before ws = (e : Entry) (a : ArenaId) → IsAmong e all → e.call ≡ Open a → Opened a.slot before ⊎ ByWorker e a ws

  each_finds : (before : List Done) (k : ℕ) (ws : List Player) → AllOpened before ws → AreWorked number k names ws → AllByRecursion (FindsTold z all) ws
      → WorkersFind z before ws
  each_finds before k [] opened run told = tt
  each_finds before k (w ∷ ws) opened run told =
      let t = told.0 in
      let others = before ++ worked ws in
      let by_others : OthersOpened z all legal w.caller others = λ e a i call other. elim (opened e a i call) [
        | inl o ↦ opened_left a.slot before (worked ws) o
        | inr by ↦ elim by [
          | inl mine ↦ absurd (other mine.0)
          | inr next ↦ opened_right a.slot before (worked ws) (worked_opened e a ws next)
        ]
      ] in
      let onwards : AllOpened (before ++ w.dones) ws = λ e a i call. elim (opened e a i call) [
        | inl o ↦ inl (opened_left a.slot before w.dones o)
        | inr by ↦ elim by [ inl mine ↦ inl (opened_right a.slot before w.dones mine.1) | inr next ↦ inr next ]
      ] in (
        lines_find z all legal w.caller others by_others t.finds t.seen t.begins t.none_left number k names [] [] w.dones (λ e a i call. absurd i) run.0
            t.found,
        each_finds (before ++ w.dones) (k + length w.dones) ws onwards run.1 told.1,
      )

-- All entries that open are of the first lines or the workers'.
pub workers_find : FindsAreRight
workers_find z history p cut number k m names others first_calls worker_calls legal told =
    let opened : AllOpened z (cut.before ++ cut.between) legal number others p.firsts p.players = λ e a i call.
    elim (among_either e cut.before cut.between i) [
      | inl first ↦
          let by = all_among (λ (x : Entry). x.caller ≡ p.main) e cut.before cut.only_firsts first in
          let mine = subst (λ (es : List Entry). IsAmong e es) cut.firsts (among_own p.main e cut.before by first) in
          inl (row_opened p.main number e a call k names p.firsts first_calls mine)
      | inr later ↦
          let by = all_among (λ (x : Entry). IsAmong x.caller (map (λ w. w.caller) p.players)) e cut.between cut.only_workers later in
          inr (worker_opened number others cut.between e a m p.players later call cut.players worker_calls by)
    ] in
    each_finds z (cut.before ++ cut.between) legal number others p.firsts m p.players opened worker_calls told
