-- Where each slot was lent to one of these lines, as many of them opened an arena.
use Rattle.std.proofs.Common.{◌≡◌, ◌≢◌, ℕ, zero, suc, ◌+◌, ◌<◌, ◌≤◌, true, Option, Some, None, List, [], ◌∷◌, ◌++◌, filter, length, map, sym, ap, ◌∙◌, subst, inl, inr, arith}
use Rattle.std.{specs.Prelude.{◌&&◌}, proofs.lemmas.List.{length-map}}
use Rattle.fm_base.specs.declared.arena_id.ArenaId.{ArenaId}
use Rattle.fm_base_lists.{specs.Among.{IsAmong}, proofs.Among.{among_map}}
use Rattle.fm_rule_facts.specs.Views.{In}
use Rattle.fm_script_lines.specs.{Played.{Done, Player, worked}, Slots.{FindRightly, Opened, WorkersFind}, Standings.{arena_of}}
use Rattle.fm_script_lines.proofs.Allocating.{among_passes}
use Rattle.fm_words.specs.declared.shape.Shape.{Shape}
use Rattle.fm_script_laws.specs.Openings.{FindMany, ReportsFindMany, WorkersFindMany, how_many_open, is_fine, is_opening}

-- ---- numbers

-- the list without one element that stands in it
record Without (n : ℕ) (xs : List ℕ) : Type 0 where
  rest : List ℕ
  long : length xs ≡ length rest + 1
  others : (k : ℕ) → k ≢ n → IsAmong k xs → IsAmong k rest

without : (n : ℕ) (xs : List ℕ) → IsAmong n xs → Without n xs
without n [] h = absurd h
without n (x ∷ xs) (inl e) = record {
  rest = xs;
  long = omega arith;
  others = λ k other i. elim i [ inl is ↦ absurd (other (is ∙ sym e)) | inr r ↦ r ];
}
without n (x ∷ xs) (inr h) =
    let w = without n xs h in
    record {
      rest = x ∷ w.rest;
      long = (let l = w.long in omega arith);
      others = λ k other i. elim i [ inl is ↦ inl is | inr r ↦ inr (w.others k other r) ];
    }

-- A list in which all numbers below n stand is as long.
as_long : (n : ℕ) (xs : List ℕ) → ((k : ℕ) → k < n → IsAmong k xs) → n ≤ length xs
as_long zero xs h = omega arith
as_long (suc n) xs h =
    let w = without n xs (h n (omega arith)) in
    let rest = as_long n w.rest (λ k below. w.others k (λ is. absurd (omega arith)) (h k (omega arith))) in
    let long = w.long in
    omega arith

-- ---- lines

abbrev slot_in : Option ArenaId → ℕ
slot_in None = 0
slot_in (Some a) = a.slot

-- the slot of the arena that its name stands for
abbrev slot_of : Done → ℕ
slot_of d = slot_in (arena_of d.made)

in_among : {A : Type 0} (x : A) (xs : List A) → In x xs → IsAmong x xs
in_among x [] h = absurd h
in_among x (y ∷ ys) (inl e) = inl e
in_among x (y ∷ ys) (inr h) = inr (in_among x ys h)

-- The slot of a line that opened an arena.
slot_among : (slot : ℕ) (ds : List Done) → Opened slot ds → IsAmong slot (map slot_of (filter is_opening ds))
slot_among slot ds o =
    let fine : is_opening o.done ≡ true = ap (λ b. b && is_fine o.done.reply) o.opens ∙ ap is_fine o.fine in
    let kept = among_passes is_opening o.done ds fine (in_among o.done ds o.among) in
    subst (λ (n : ℕ). IsAmong n (map slot_of (filter is_opening ds))) (ap slot_in o.is ∙ o.in_slot) (among_map slot_of o.done (filter is_opening ds) kept)

many_opened : (slots : ℕ) (ds : List Done) → ((slot : ℕ) → slot < slots → Opened slot ds) → slots ≤ how_many_open ds
many_opened slots ds h =
    let all = as_long slots (map slot_of (filter is_opening ds)) (λ slot below. slot_among slot ds (h slot below)) in
    subst (λ (n : ℕ). slots ≤ n) (length-map (filter is_opening ds) slot_of) all

-- ---- workers

lines_many : (z : Shape) (others earlier ds : List Done) → FindRightly z others earlier ds → FindMany z.slots others earlier ds
lines_many z others earlier [] h = tt
lines_many z others earlier (d ∷ ds) h =
    ((λ finds_none. many_opened z.slots (others ++ earlier) (h.0 finds_none)), lines_many z others (earlier ++ d ∷ []) ds h.1)

workers_many : (z : Shape) (before : List Done) (ws : List Player) → WorkersFind z before ws → WorkersFindMany z.slots before ws
workers_many z before [] h = tt
workers_many z before (w ∷ ws) h = (lines_many z (before ++ worked ws) [] w.dones h.0, workers_many z (before ++ w.dones) ws h.1)

pub reports_many : ReportsFindMany
reports_many s history p report = workers_many s.shape p.firsts p.players report.slots.workers
