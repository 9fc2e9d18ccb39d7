-- Where a word of the arena stands that a pass is inside.
use Rattle.std.specs.Prelude.{◌≡◌, ℕ, ◌-◌, ◌/◌, ◌%◌, ◌<◌, []}
use Rattle.fm_words.specs.Places.{at, page_word}
use Rattle.fm_base.specs.declared.arena_id.ArenaId.{ArenaId}
use Rattle.fm_rule_facts.specs.{Views.{View}, Parts.{reads_after}, Moves.{LearnsMap}, Steps.{Stepped, none_noted}}

-- the pass read the map word of the word's part; unless that is 0, the place is the word's in the page that it maps
pub record FindsPlace (v : View) (a : ArenaId) (word result : ℕ) (w : View) : Type 0 where
  pub found : ℕ
  pub map : LearnsMap v a (word / v.shape.page_words) found w
  pub stepped : Stepped v w (record v { reads = reads_after (word / v.shape.page_words) found v.reads }) [] none_noted
  pub place : 0 < found → result ≡ at v.shape (page_word (found - 1) (word % v.shape.page_words))
