-- Texts and replies, joined one by one.
use Rattle.std.proofs.{Common.{◌≡◌, ℕ, ◌+◌, ◌<◌, List, [], ◌∷◌, ◌++◌, length, get_or, map, take, sym, ap, ◌∙◌}, lemmas.List.{map-append, take_more}}
use Rattle.fm_script_lines.specs.declared.reply.Reply.{Reply}
use Rattle.fm_script_text.specs.declared.line.Line.{Line}
use Rattle.fm_script_report.specs.{declared.line.ReportLine.{ReportLine}, Told.{AreTold, told}}

-- One more line is told.
pub told_more : (ts : List ReportLine) (k : ℕ) (ls : List Line) (rs : List Reply) (l : Line) (r : Reply) → AreTold (take k ls) (take k rs) ts
    → k < length ls → k < length rs → l ≡ get_or ls k l → r ≡ get_or rs k r
    → AreTold (take (k + 1) ls) (take (k + 1) rs) (ts ++ told l.text r ∷ [])
told_more ts k ls rs l r t one other is_line is_reply = record {
  texts =
      map-append (λ x. x.text) ts (told l.text r ∷ [])
      ∙ (ap (λ xs. xs ++ l.text ∷ []) t.texts
      ∙ (sym (map-append (λ x. x.text) (take k ls) (l ∷ []))
      ∙ ap (λ xs. map (λ x. x.text) xs) (ap (λ x. take k ls ++ x ∷ []) is_line ∙ sym (take_more ls k l one))));
  replies =
      map-append (λ x. x.reply) ts (told l.text r ∷ [])
      ∙ (ap (λ xs. xs ++ r ∷ []) t.replies
      ∙ (ap (λ x. take k rs ++ x ∷ []) is_reply ∙ sym (take_more rs k r other)));
}
