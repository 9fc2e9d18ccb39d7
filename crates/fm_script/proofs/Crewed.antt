-- What a crew of workers leaves to the pass that gathered it.
use Rattle.std.proofs.Common.{◌≡◌, ℕ, suc, ◌+◌, ◌<◌, ◌≤◌, nat_lt, Bool, true, false, List, [], ◌∷◌, length, map, get_or, All, refl, sym, ap, ◌∙◌, subst, arith, inl, inr, Err}
use Rattle.std.proofs.lemmas.{Bool.{ltb-true, ltb-false}, List.{length-map, get_or-map, get_or_past, Elements.{All-append, All-nil}}}
use Rattle.fm_base.specs.{declared.refusal.Refusal.{Refusal, TheVariants.{Memory, NoPass}}, Arenas.{are_one}, Calls.{Entry}, Histories.{made_by}}
use Rattle.fm_base_lists.{specs.Among.{IsAmong}, proofs.Among.{among_kept}}
use Rattle.fm_rule_facts.specs.Views.{View, IsSound}
use Rattle.fm_script_lines.specs.{declared.standing.Standing.{Standing, TheVariants.{Nothing}}, Numbers.{number_at}}
use Rattle.fm_script_lines.{specs.Standings.{IsBacked, lent, standing_as, standing_at}, proofs.Lent.{stays_lent}}
use Rattle.fm_workers_crew.{specs.Crew.{AreDone, CrewWorked, IsWhole}, proofs.Wanting.{few_last}}
use Rattle.fm_script.{specs.{declared.player.Player.{Player}, Players.{Playing, Plays, PlaysLines}, Runs.{AllPlayed, names_lent}}, proofs.After.{next_at}}
use Rattle.fm_script.proofs.{Gathered.{lent_only, plain_at}, Made.{names_known}}

module _ {T : Type 0} (Does : View → T → T → List Entry → Type 0) (old new : View) (tasks done : List T) where
  -- A crew that has a pass for each task is refused for want of memory alone.
  pub crew_refused : (r : Refusal) → CrewWorked Does old new tasks done (Err r) → IsWhole old → length old.gathered + (1 + length tasks) ≤ old.shape.passes
      → r ≡ Memory
  crew_refused NoPass w whole enough = elim (w.wanting whole refl) [
    | inl few ↦ (let last = few_last old.gathered in absurd (omega (arith, few, last, enough)))
    | inr many ↦ (let passes = whole.sound.valid.passes.1 in absurd (omega (arith, many, passes, enough)))
  ]
  crew_refused Memory w whole enough = refl
  crew_refused r w whole enough = absurd w.ends

  -- And then no task was begun.
  pub crew_unbegun : (r : Refusal) → CrewWorked Does old new tasks done (Err r) → done ≡ tasks
  crew_unbegun NoPass w = w.ends.3
  crew_unbegun Memory w = w.ends.3
  crew_unbegun r w = absurd w.ends

module _ (w : Playing) (p : View) (sound : IsSound p) (known : All (λ s. IsBacked p (lent s)) w.firsts) where
  first_known : (start : ℕ) → length w.firsts ≤ start → (n : ℕ) → IsBacked p (lent (standing_at w.firsts start [] n))
  first_known start low n =
      subst (λ (s : Standing). IsBacked p (lent s)) (sym (lent_only w.firsts start n low ∙ ap (λ (s : Standing). lent s) (plain_at w.firsts n)))
      (go (nat_lt n (length w.firsts)) refl)
    where
      twice : (s : Standing) → IsBacked p (lent s) → IsBacked p (lent (lent s))
      twice s b = subst (λ (x : Standing). IsBacked p x) (sym (stays_lent s).twice) b

      go : (b : Bool) → nat_lt n (length w.firsts) ≡ b → IsBacked p (lent (lent (get_or w.firsts n Nothing)))
      go true e = twice (get_or w.firsts n Nothing) (known n Nothing (ltb-true n (length w.firsts) e))
      go false e = subst (λ (s : Standing). IsBacked p (lent (lent s))) (sym (get_or_past w.firsts n Nothing (ltb-false n (length w.firsts) e))) tt

  -- A worker's names are known to who has seen its entries.
  player_known : (v : View) (t u : Player) (own : List Entry) → length w.firsts ≤ t.start → PlaysLines w v t u own
      → ((e : Entry) → IsAmong e own → IsAmong e p.seen) → All (IsBacked p) (map standing_as u.lent.items)
  player_known v t u own low l seen = subst (λ (ss : List Standing). All (IsBacked p) ss) (sym l.lent) each
    where
      each : All (IsBacked p) (map lent l.next)
      each i d below =
          let r = l.ran in
          let inside : i < length l.next = let m = length-map l.next lent in omega (arith, m, below) in
          let calls = r.calls in
          let at = names_known p sound l.before.caller (number_at w.names) (t.start + 0) (standing_at w.firsts t.start []) r.dones
          (first_known t.start low) calls (λ e i. seen e (subst (λ (es : List Entry). IsAmong e es) (sym l.runs) i)) (t.start + i) in
          subst (λ (s : Standing). IsBacked p s)
          (sym (get_or-map lent l.next i Nothing d inside ∙ ap (λ (s : Standing). lent s) (next_at r low i))) at

  pub players_known : (more : List Entry) (vs : List View) (ts us : List Player) → ((e : Entry) → IsAmong e more → IsAmong e p.seen)
      → ((i : ℕ) (d : Player) → i < length ts → length w.firsts ≤ (get_or ts i d).start) → AreDone (Plays w) more vs ts us → AllPlayed us
      → All (IsBacked p) (names_lent us)
  players_known more [] [] [] seen low done played = All-nil (IsBacked p)
  players_known more [] [] (u ∷ us) seen low done played = absurd done
  players_known more [] (t ∷ ts) us seen low done played = absurd done
  players_known more (v ∷ vs) [] us seen low done played = absurd done
  players_known more (v ∷ vs) (t ∷ ts) [] seen low done played = absurd done
  players_known more (v ∷ vs) (t ∷ ts) (u ∷ us) seen low done played =
      All-append (IsBacked p) (map standing_as u.lent.items) (names_lent us)
      (player_known v t u (made_by v.caller more) (low 0 t (omega arith)) (done.0.played played.0)
      (λ e i. seen e (among_kept (λ x. are_one x.caller v.caller) e more i)))
      (players_known more vs ts us seen
      (λ i d below. let inside : suc i < length (t ∷ ts) = omega (arith, below) in low (suc i) d inside) done.1 played.1)
