-- The machine value of a handle. Assumes `Logic`.
use Rattle.std.proofs.Common.{◌≡◌, List, [], ◌∷◌, ◌++◌, refl, ◌∙◌, Option, None, Some, lit<}
use seplogic.Ra.Ura.{Ura}
use mir.Syntax.{ty_ptr, ty_struct, tcons, tnil}
use mir.Val.{Val, vstruct, vcons, vnil, of_list}
use base.Logic.{ent, emp}
use base.Fml.{Fml}
use types.Logic.{Logic, sem}
use denote.RattleType.{RattleType}
use denote.Builtin.{RawPtr}
use denote.RawPtr.{Ptr, block_ptr, null_ptr, ptr_val}
use denote.Struct.Struct.{Struct}
use denote.Shadow.{shadow, makes_shadow}
use Rattle.std.proofs.cell.Inside.{Good}
use Rattle.std.specs.contracts.alloc.Global as heap
use Rattle.fm_c_calls.specs.Kept.{Keeps}
use Rattle.fm_c_calls.specs.contracts.handle.Handle as handle
use Rattle.fm_records_query.specs.contracts.query.Query as asked

abbrev pub Z : RattleType
Z = heap.the_row

abbrev pub R : RattleType
R = asked.the_row

abbrev pub Held : RattleType
Held = handle.the_row

-- a struct by its field alone: what it owns does not read its name
abbrev pub plainly : List RattleType → RattleType
plainly Rs = Struct (record { name = []; args = []; types = []; fields = Rs })

abbrev pub held_val : Ptr → Val
held_val p = vstruct (vcons (ptr_val p) vnil)

abbrev pub held_own : Ptr → List Val → Fml
held_own p = (plainly (RawPtr ∷ [])).own_val (p, tt)

pub held_told : (p : Ptr) (vs : List Val) → shadow (held_own p vs) → (vs ≡ held_val p ∷ []) × Unit {0}
held_told p vs s = (s.1.0 ∙ (λ i. vstruct (of_list (s.1.1.0 i ++ [])) ∷ []), tt)

pub held_made : {M : Type 1} {𝓤 : Ura M} (𝓛 : Logic 𝓤) (p : Ptr) → ent 𝓤 (emp 𝓤) (sem 𝓛 (held_own p (held_val p ∷ [])))
held_made 𝓛 p = makes_shadow 𝓛 (held_own p (held_val p ∷ [])) (λ _. (tt, (tt, tt))) ((ptr_val p ∷ [], tt), (refl, (refl, tt)))

pub held_typed : (p : Ptr) → Good (ty_struct [] (tcons ty_ptr tnil)) (held_val p)
held_typed (block_ptr b o) = (tt, (tt, tt))
held_typed null_ptr = (tt, (record { fits = lit< tt }, tt))

pub ptr_typed : (p : Ptr) → Good ty_ptr (ptr_val p)
ptr_typed (block_ptr b o) = (tt, tt)
ptr_typed null_ptr = (tt, record { fits = lit< tt })

pub some_of : {X : Type 0} (o : Option X) → Keeps o → (x : X) × (o ≡ Some x)
some_of None wrong = absurd wrong
some_of (Some x) is = (x, refl)
