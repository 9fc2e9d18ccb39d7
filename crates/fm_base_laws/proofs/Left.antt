-- Words that all entries leave.
use Rattle.std.{proofs.Common.{◌≡◌, ℕ, [], ◌∷◌, refl, ap, sym, ◌∙◌, subst}, specs.List.{AllByRecursion}}
use Rattle.fm_base.specs.{declared.{arena_id.ArenaId.{ArenaId}}, Arenas.{State, word_in}, Counting.{LeavesWord}}
use Rattle.fm_base.specs.{Calls.{Found, Entry}, Machine.{reply_to, after}}
use Rattle.fm_base.proofs.Counting.{word_still}
use Rattle.fm_base_laws.specs.Left.{FindsWord, LeftIsFound}

-- Such a word stays over one entry ..
pub still : (limit : ℕ) (s : State) (e : Entry) (id : ArenaId) (word : ℕ) → LeavesWord id word e.call → word_in (after limit s e) id word ≡ word_in s id word
still limit s e id word leaves = word_still limit s e.caller e.call e.reply id word leaves

-- .. and over all, and is found.
pub left_is_found : LeftIsFound
left_is_found limit s [] id word legal all = (refl, tt)
left_is_found limit s (e ∷ es) id word legal all =
    let same = still limit s e id word all.0 in
    let rest = left_is_found limit (after limit s e) es id word legal.2 all.1 in (
      rest.0 ∙ same,
      (
        λ n call reply.
            let is : Found n ≡ Found (word_in s id word) = sym reply ∙ legal.1 ∙ ap (reply_to limit s) call in
            let same_word : n ≡ word_in s id word = cc in
            same_word,
        subst (λ (x : ℕ). AllByRecursion (FindsWord id word x) es) same rest.1,
      ),
    )
