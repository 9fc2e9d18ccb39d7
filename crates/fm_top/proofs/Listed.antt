-- How a run ends that prints a layout.
use Rattle.std.{proofs.Common.{◌≡◌, ◌≤◌, ◌⊎◌, inl, inr, ℕ, List, length, Bool, true, false, Result, Ok, Err, refl, sym, ap, ◌∙◌, subst, arith}, specs.Prelude.{⊤, nat_lt, if◌then◌else◌}}
use Rattle.std.proofs.lemmas.Bool.Decides.{Decides-ltb}
use Rattle.fm_base.specs.declared.refusal.Refusal.{Refusal, TheVariants.{Memory}}
use Rattle.fm_io.specs.View.{FilesView}
use Rattle.fm_layout.specs.Tree.{Tree}
use Rattle.fm_ljson.specs.Answer.{layout_of_json}
use Rattle.fm_top.specs.{Ending.{EndsAs, shown}, Ends.{EndsFile}, Outcome.{Outcome, answered, layout_file_limit, layout_of_file, layout_outcome, printed, shows, too_long}, Stops.{layout_stop, or_stop}}
use Rattle.fm_top.specs.declared.{command.layout_text.LayoutText.{LayoutText}, outcome.{reply.Reply.{Reply}, stop.Stop.{Stop}}}
use Rattle.fm_top.proofs.{Ends.{IsQuiet}, Loaded.{IsRead, found_ends, or_err, or_ok}}

-- a layout's file within the limit
short_by : (bytes : List ℕ) (long : Bool) (o : Outcome) → nat_lt layout_file_limit (length bytes) ≡ long → length bytes ≤ layout_file_limit
    → (if long then too_long else o) ≡ o
short_by bytes true o test short = let over = (Decides-ltb layout_file_limit (length bytes)).0 test in absurd (omega (arith, over, short))
short_by bytes false o test short = refl

short_layout : (text : LayoutText) (bytes : List ℕ) → length bytes ≤ layout_file_limit → layout_of_file text bytes ≡ shows text (layout_of_json bytes)
short_layout text bytes short = short_by bytes (nat_lt layout_file_limit (length bytes)) (shows text (layout_of_json bytes)) refl short

-- it is refused, or memory ran out
pub quiet_layout : (e : Refusal) → IsQuiet (Err (layout_stop e))
quiet_layout Memory = tt
quiet_layout e = tt

abbrev IsWanting : Result Tree Refusal → Type 0
IsWanting r = r ≡ Err Memory

bad_ends : (text : LayoutText) (bytes : List ℕ) (e : Refusal) → length bytes ≤ layout_file_limit → IsWanting (Err e) ⊎ (Err e ≡ layout_of_json bytes)
    → EndsAs (λ o. o ≡ layout_of_file text bytes) (Err (layout_stop e))
bad_ends text bytes Memory short why = tt
bad_ends text bytes e short (inl memory) = absurd (cc)
bad_ends text bytes e short (inr is) = sym (short_layout text bytes short ∙ ap (shows text) (sym is))

-- the file was read, and these bytes were taken
module _ {old new : FilesView} (text : LayoutText) {name bytes given : List ℕ} (read : IsRead old new name layout_file_limit bytes) (same : given ≡ bytes)
    (r : Result Tree Refusal) (is_read : (r ≡ Err Memory) ⊎ (r ≡ layout_of_json given)) where
  pub refused_ends : {s : Stop} → Err s ≡ or_stop layout_stop r → {end : Result Reply Stop} → end ≡ Err s
      → EndsFile name layout_file_limit ⊤ (λ found o. o ≡ layout_outcome text name found) old new end
  refused_ends is ends =
      let told = or_err layout_stop r is in
      let known : (Err told.0 ≡ Err Memory) ⊎ (Err told.0 ≡ layout_of_json bytes) =
      subst (λ (x : Result Tree Refusal). (x ≡ Err Memory) ⊎ (x ≡ layout_of_json bytes)) told.1
      (subst (λ (b : List ℕ). (r ≡ Err Memory) ⊎ (r ≡ layout_of_json b)) same is_read) in
      rw (ends, told.2) (found_ends read (λ found o. o ≡ layout_outcome text name found) (Err (layout_stop told.0)) (quiet_layout told.0)
      (bad_ends text bytes told.0 read.short known))

  pub listed_ends : {t : Tree} → Ok t ≡ or_stop layout_stop r → (reply : Reply) → shown reply ≡ answered (printed text t)
      → EndsFile name layout_file_limit ⊤ (λ found o. o ≡ layout_outcome text name found) old new (Ok reply)
  listed_ends {t} is reply shows_it =
      let ok = or_ok layout_stop r is in
      let of_json : Ok t ≡ layout_of_json bytes = elim is_read [
        | inl memory ↦ absurd (let no : Ok t ≡ Err Memory = sym ok ∙ memory in cc)
        | inr json ↦ sym ok ∙ json ∙ ap layout_of_json same
      ] in
      found_ends read (λ found o. o ≡ layout_outcome text name found) (Ok reply) tt
      (shows_it ∙ sym (short_layout text bytes read.short ∙ ap (shows text) (sym of_json)))
