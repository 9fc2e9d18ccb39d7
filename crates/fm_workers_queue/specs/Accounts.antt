-- What a turn pushed and took, and how its account goes on.
use Rattle.std.specs.Prelude.{◌+◌, ◌-◌, [], ◌∷◌, ◌++◌}
use Rattle.fm_workers_queue.specs.declared.account.{Account.{Account}, Role.{Role, TheVariants.{Owner, User, Spent}}}

module _ {T : Type 0} where
  -- nothing pushed, nothing taken
  abbrev pub empty_account : Role → Account T
  empty_account role = record { role = role; out = 0; pushed = []; taken = [] }

  -- the turn that comes with the queue
  abbrev pub owner : Account T
  owner = empty_account Owner

  abbrev pub user : Account T
  user = empty_account User

  -- a user's turn once it was absorbed
  abbrev pub spent : Account T
  spent = empty_account Spent

  abbrev pub after_push : Account T → T → Account T
  after_push v job = record v { pushed = v.pushed ++ job ∷ [] }

  abbrev pub after_take : Account T → T → Account T
  after_take v job = record v { taken = v.taken ++ job ∷ [] }

  -- one turn more is out
  abbrev pub after_turn : Account T → Account T
  after_turn v = record v { out = v.out + 1 }

  abbrev pub after_absorb : Account T → Account T → Account T
  after_absorb v other = record v { out = v.out - 1; pushed = v.pushed ++ other.pushed; taken = v.taken ++ other.taken }
