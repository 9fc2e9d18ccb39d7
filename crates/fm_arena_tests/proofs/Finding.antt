-- What a caller that is by itself finds.
use Rattle.std.proofs.{Common.{◌≡◌, ℕ, ap, ◌∙◌, slice_index}, lemmas.List.{get_or-set_same}}
use Rattle.fm_base.{specs.{Calls.{Read, Write, Fine, Found}, View.{View, IsByItself}, Does.{CanReach}, Learnt.{AfterAct}}, proofs.Making.{by_itself_still}}
use Rattle.fm_base.proofs.Alone.{only_act, stored_words, loaded_word}

-- A word that was put is found.
pub found_again : {x y z : View} (word v found : ℕ) → CanReach x word → IsByItself x → AfterAct x y (λ a. Write a word v) Fine
    → AfterAct y z (λ a. Read a word) (Found found) → found ≡ v
found_again {x} {y} {z} word v found r by put got =
    let o = only_act x y r.id (λ a. Write a word v) Fine by r.inside put.did in
    let s = stored_words x y r.id word v by r.inside put.did in
    let l = loaded_word y z r.id word found (by_itself_still x y _ put.did.makes by) (put.inside ∙ r.inside) got.did in
    l.word_is ∙ (ap (λ ws. slice_index ws word) s ∙ get_or-set_same _ word v 0 o.legal.within)
