-- What others see of a name stays as its hold or its handle is given back.
use Rattle.std.proofs.Common.{◌≡◌, refl, ap, sym, ◌∙◌}
use Rattle.fm_script_lines.specs.declared.standing.Standing.{Standing, TheVariants.{Nothing, Arena, Automatic, Segment, Hold, Handle}}
use Rattle.fm_script_lines.{specs.{Standings.{arena_of, handed_back, lent, segment_of, unheld}, Tables.{SeenAs}}, proofs.Naming.{lent_seen}}

-- what is left of a name, and what is lent of it, are lent as it is
pub record StaysLent (s : Standing) : Type 0 where
  pub once_unheld : lent (unheld s) ≡ lent s
  pub once_handed : lent (handed_back s) ≡ lent s
  pub twice : lent (lent s) ≡ lent s

pub stays_lent : (s : Standing) → StaysLent s
stays_lent Nothing = record { once_unheld = refl; once_handed = refl; twice = refl }
stays_lent (Arena id) = record { once_unheld = refl; once_handed = refl; twice = refl }
stays_lent (Automatic id handle) = record { once_unheld = refl; once_handed = refl; twice = refl }
stays_lent (Segment r) = record { once_unheld = refl; once_handed = refl; twice = refl }
stays_lent (Hold hold) = record { once_unheld = refl; once_handed = refl; twice = refl }
stays_lent (Handle handle) = record { once_unheld = refl; once_handed = refl; twice = refl }

-- Names that are lent alike may be used alike.
pub seen_alike : (s t : Standing) → lent s ≡ lent t → SeenAs s t
seen_alike s t e = record {
  arena = sym (lent_seen s).arena ∙ (ap arena_of e ∙ (lent_seen t).arena);
  segment = sym (lent_seen s).segment ∙ (ap segment_of e ∙ (lent_seen t).segment);
}
