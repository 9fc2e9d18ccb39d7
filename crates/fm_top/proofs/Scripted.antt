-- How a script's run ends.
use Rattle.std.{proofs.Common.{◌≡◌, ◌≤◌, ℕ, List, length, Some, Result, Ok, Err, sym, subst}, specs.Prelude.{⊤, IfErr}}
use Rattle.fm_base.specs.declared.refusal.Refusal.{Refusal, TheVariants.{BadScript}}
use Rattle.fm_io.specs.View.{FilesView}
use Rattle.fm_script_text.specs.Scripts.{IsNoScript, IsScript, ScriptOf}
use Rattle.fm_top.specs.{Ending.{EndsAs, shown}, Ends.{EndsFile}, Outcome.{Outcome, script_file_limit}, Scripts.{IsReported, ScriptEnds, bad_script, ran}, Stops.{or_stop, script_stop}}
use Rattle.fm_top.{specs.declared.outcome.{reply.Reply.{Reply}, stop.Stop.{Stop}}, proofs.{Ends.{IsQuiet}, Loaded.{IsRead, found_ends, or_err}}}

quiet_script : (e : Refusal) → IsQuiet (Err (script_stop e))
quiet_script (BadScript line) = tt
quiet_script e = tt

-- a script is refused at a line, or memory ran out
bad_ends : (name bytes : List ℕ) (e : Refusal) → length bytes ≤ script_file_limit → IsNoScript bytes e → EndsAs (ScriptEnds name (Some bytes))
    (Err (script_stop e))
bad_ends name bytes (BadScript line) short refused = bad_script bytes line short refused
bad_ends name bytes e short refused = tt

-- the script's file was read, and these bytes were taken
module _ {old new : FilesView} {name bytes given : List ℕ} (read : IsRead old new name script_file_limit bytes) (same : given ≡ bytes) where
  pub refused_ends : {T : Type 0} (r : Result T Refusal) {s : Stop} → Err s ≡ or_stop script_stop r → IfErr r (IsNoScript given)
      → {end : Result Reply Stop} → end ≡ Err s → EndsFile name script_file_limit ⊤ (ScriptEnds name) old new end
  refused_ends r is refused ends =
      let told = or_err script_stop r is in
      let denied = subst (λ (b : List ℕ). IsNoScript b told.0) same (subst (λ r. IfErr r (IsNoScript given)) told.1 refused) in
      rw (ends, told.2) (found_ends read (ScriptEnds name) (Err (script_stop told.0)) (quiet_script told.0) (bad_ends name bytes told.0 read.short denied))

  pub ran_ends : (s : ScriptOf) → IsScript given s → (reply : Reply) → IsReported s (shown reply) → EndsFile name script_file_limit ⊤ (ScriptEnds name) old
      new (Ok reply)
  ran_ends s is reply reported =
      let script = subst (λ (b : List ℕ). IsScript b s) same is in
      found_ends read (ScriptEnds name) (Ok reply) tt
      (subst (λ (o : Outcome). ScriptEnds name (Some bytes) o) (sym reported.outcome) (ran bytes s reported.report read.short script reported.is_run))
