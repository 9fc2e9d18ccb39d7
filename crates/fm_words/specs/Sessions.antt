-- The word of a session: generation (32 bits), life (2), kind (2), owner (12) and holds (16), from the highest bit.
use Rattle.std.{specs.Prelude.{ℕ, ◌+◌, ◌*◌, ◌/◌, ◌%◌, ◌^◌, ◌<◌, ◌≤◌}, proofs.Common.{zero, suc}}
use Rattle.fm_words.specs.declared.{life.Life.{Life, TheVariants.{Free, Alive, Closing, Unused}}, session.Session.{Session}}

-- ---- lives

abbrev pub free : Life
free = Free

abbrev pub alive : Life
alive = Alive

abbrev pub closing : Life
closing = Closing

-- the two bits that tell a life
abbrev pub life_bits : Life → ℕ
life_bits Free = 0
life_bits Alive = 1
life_bits Closing = 2
life_bits Unused = 3

abbrev pub life_of : ℕ → Life
life_of zero = Free
life_of (suc zero) = Alive
life_of (suc (suc zero)) = Closing
life_of (suc (suc (suc n))) = Unused

-- ---- sessions

-- each field but the life is one that a word has
pub record IsSession (s : Session) : Type 0 where
  pub kind : s.kind ≤ 3
  pub owner : s.owner < 4096
  pub holds : s.holds ≤ 65535

-- the session of a slot without an arena
abbrev pub free_session : ℕ → Session
free_session generation = record { generation = generation; life = free; kind = 0; owner = 0; holds = 0 }

unfoldable pub session_word : Session → ℕ
session_word s = s.generation * 2 ^ 32 + life_bits s.life * 2 ^ 30 + s.kind * 2 ^ 28 + s.owner * 2 ^ 16 + s.holds

unfoldable pub session_of : ℕ → Session
session_of word = record {
  generation = word / 2 ^ 32;
  life = life_of (word / 2 ^ 30 % 2 ^ 2);
  kind = word / 2 ^ 28 % 2 ^ 2;
  owner = word / 2 ^ 16 % 2 ^ 12;
  holds = word % 2 ^ 16;
}
