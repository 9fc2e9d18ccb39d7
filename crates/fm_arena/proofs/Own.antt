-- The entries of one call, by what was seen before it and behind it.
use Rattle.std.proofs.Common.{◌≡◌, List, [], ◌∷◌, ◌++◌, ap, sym, ◌∙◌}
use Rattle.fm_base.specs.{Calls.{Entry}, Histories.{made_by}}
use Rattle.fm_rule_facts.specs.Views.{View}
use Rattle.fm_rule_calls.specs.Kept.{Goes}

-- What goes on from a list is one.
on_once : {A : Type 0} (xs ys zs : List A) → xs ++ ys ≡ xs ++ zs → ys ≡ zs
on_once [] ys zs e = e
on_once (x ∷ xs) ys zs e = on_once xs ys zs (cc)

-- The pass's own entries among those that came are those by which it went on.
pub own_by : {p q : View} {own : List Entry} → Goes p q own → (more : List Entry) → q.seen ≡ p.seen ++ more → own ≡ made_by p.caller more
own_by {p = p} g more seen =
    sym g.by_pass ∙ ap (λ (es : List Entry). made_by p.caller es) (on_once p.seen g.more more (sym g.seen ∙ seen))
