-- What words that show a history say of one arena.
use Rattle.std.proofs.Common.{◌≡◌, ◌≢◌, ℕ, ◌%◌, ◌^◌, ◌<◌, ◌≤◌, ◌==◌, Bool, true, false, if◌then◌else◌, List, [], get_or, sym, refl, ap, ◌∙◌, subst, arith, inl, inr, ⊎_elim, Some, None}
use Rattle.std.proofs.lemmas.Bool.{cases_lt}
use Rattle.fm_words.specs.{declared.{shape.Shape.{Shape}, session.Session.{Session as Decoded}}, Shapes.{IsValid}}
use Rattle.fm_words.specs.{Places.{at as place_at, session, given as given_place}, Sessions.{session_of, session_word, free, alive, closing}}
use Rattle.fm_words.proofs.Sessions.{session_word-session_of}
use Rattle.fm_base.specs.{declared.arena_id.ArenaId.{ArenaId}, Arenas.{Alive, Ended, State, arena_of, kind_number, has_arena}, Calls.{Entry}}
use Rattle.fm_base.{specs.Histories.{state_after}, proofs.{Growing.{there_by_life}, Names.{kind_same}}}
use Rattle.fm_rule_facts.specs.{Views.{Fits, limit_of}, Words.{alive_word, alive_holds}, Rest.{ShowsSlot, ShowsHistory, ShowsArena}}
use Rattle.fm_rule_steps.proofs.{Reading.{alive_read, reads_alive}, Decoding.{alive_session, live_read}}

-- names of the same fields are one
one_name : (a b : ArenaId) → a.slot ≡ b.slot → a.generation ≡ b.generation → a.owner ≡ b.owner → a.term ≡ b.term → kind_number a.kind ≡ kind_number b.kind
    → a ≡ b
one_name a b s g o t k =
    λ i. record { slot = s i; generation = g i; owner = o i; term = t i; kind = kind_same a.kind b.kind k i }

-- the holds that a word shows are few
few_read : (a : ArenaId) (x n : ℕ) → alive_holds a x ≡ Some n → n ≤ 65535
unfolding alive_holds
few_read a x n e = go (x == alive_word a (x % 2 ^ 16)) e
  where
    go : (b : Bool) → (if b then Some (x % 2 ^ 16) else None) ≡ Some n → n ≤ 65535
    go true q = let r : x % 2 ^ 16 ≡ n = cc in omega arith
    go false q = absurd (cc)

few_in : (x : ℕ) → (session_of x).holds ≤ 65535
unfolding session_of
few_in x = omega arith

module _ (z : Shape) (valid : IsValid z) (ws : List ℕ) (h : List Entry) (shows : ShowsHistory z ws h) (a : ArenaId) where
  abbrev s : State
  s = state_after (limit_of z) [] h

  abbrev word : ℕ
  word = get_or ws (place_at z (session a.slot)) 0

  abbrev i : Decoded
  i = session_of word

  unended : (arena_of s a).life ≡ Alive → (arena_of s a).life ≢ Ended
  unended l e = let q : Alive ≡ Ended = sym l ∙ e in absurd (cc)

  -- where the session's word shows the arena alive, it is
  pub shown_alive : Fits z a → has_arena s a ≡ true → (n : ℕ) → alive_holds a word ≡ Some n → ShowsArena z ws s a
  shown_alive fit known n e =
      let low = few_read a word n e in
      let own : a.owner < 4096 = (let f = fit.owner in let p = valid.passes.1 in omega arith) in
      let is : i ≡ alive_session a n = ap session_of (alive_read a word n e) ∙ live_read a n own low in
      let t = subst (ShowsSlot z ws s a.slot) is (shows.slots a.slot fit.slot) in
      let y = t.alive refl in
      let same : y.arena ≡ a = sym (y.only a (sym y.named.slot) refl known) in
      let l : (arena_of s a).life ≡ Alive = subst (λ (b : ArenaId). (arena_of s b).life ≡ Alive) same y.life in
      record {
        life = l;
        given = subst (λ (b : ArenaId). (arena_of s b).given ≡ get_or ws (place_at z (given_place a.slot)) 0) same y.given;
        word = λ w low. shows.named a w (unended l) low;
      }

  as_alive : i.life ≡ alive → a.generation ≡ i.generation → kind_number a.kind ≡ i.kind → a.owner ≡ i.owner → word ≡ alive_word a i.holds
  unfolding alive_word
  as_alive e g k o = sym (session_word-session_of word)
      ∙ (λ j. session_word (record { generation = sym g j; life = e j; kind = sym k j; owner = sym o j; holds = i.holds }))

  -- and where it doesn't, it isn't
  pub shown_unalive : (Fits z a → alive_holds a word ≡ None) → (arena_of s a).life ≢ Alive
  shown_unalive none l =
      let known = there_by_life s a (unended l) in
      let fit = shows.fits a known in
      let t = shows.slots a.slot fit.slot in
      let le = t.newest a refl known in
      let g : a.generation ≡ i.generation = elim (cases_lt a.generation i.generation) [
        | inl b ↦ absurd (unended l (t.older a refl b))
        | inr b ↦ omega arith
      ] in
      ⊎_elim
      (λ (e : i.life ≡ free). unended l (t.free e a refl))
      (⊎_elim
      (λ (e : i.life ≡ alive).
      let y = t.alive e in
      let same : a ≡ y.arena = y.only a (sym y.named.slot) g known in
      let w : word ≡ alive_word a i.holds = as_alive e g (ap (λ (b : ArenaId). kind_number b.kind) same ∙ y.named.kind)
      (ap (λ (b : ArenaId). b.owner) same ∙ y.named.owner) in
      let q : None ≡ Some i.holds = sym (none fit) ∙ (ap (alive_holds a) w ∙ reads_alive a i.holds (few_in word)) in
      absurd (cc))
      (λ (e : i.life ≡ closing).
      let y = t.closing e in
      let same : a ≡ y.arena = y.only a (sym y.named.slot) g known in
      y.life (subst (λ (b : ArenaId). (arena_of s b).life ≡ Alive) same l)))
      t.lives
