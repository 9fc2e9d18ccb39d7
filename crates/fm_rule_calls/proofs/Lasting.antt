-- What lasts through two calls, one after the other.
use Rattle.std.proofs.Common.{le_trans}
use Rattle.fm_rule_facts.specs.Views.{View}
use Rattle.fm_rule_calls.specs.Kept.{Lasts}

pub lasts_then : {p q r : View} → Lasts p q → Lasts q r → Lasts p r
lasts_then a b = record {
  given = λ id. le_trans (a.given id) (b.given id);
  known = λ id k. b.known id (a.known id k);
  ended = λ id e. b.ended id (a.ended id e);
  no_words = λ id e none. b.no_words id (a.ended id e) (a.no_words id e none);
}
