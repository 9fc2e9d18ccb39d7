-- What is told moves on faithfully, and what the only caller knows.
use Rattle.std.proofs.{Common.{◌≡◌, ℕ, List, [], refl, ap, ◌∙◌, subst, Option, Some, None}, lemmas.List.Elements.{filter-append}}
use Rattle.fm_base.specs.{declared.caller.Caller.{Caller}, Arenas.{State}, Calls.{Entry}, Histories.{IsLegal, state_after, made_by}}
use Rattle.fm_base.specs.{View.{View, Told, Makes, TellsOn, IsToldOf, IsSound, KeepsFaith, IsByItself}, Lasting.{AlwaysKeepsFaith}}
use Rattle.fm_base.proofs.Making.{state_after-append, IsLegal-append}

told_on : (limit : ℕ) (c : Caller) (s u : State) (t v : Option Told) (all own : List Entry) → TellsOn t v all own → IsLegal limit s all
    → u ≡ state_after limit s all → made_by c all ≡ own
    → IsToldOf limit s c t → IsToldOf limit u c v
told_on limit c s u None None all own h l e m f = tt
told_on limit c s u (Some t) (Some v) all own h l e m f = (
  rw h.seen (IsLegal-append limit [] t.seen all f.0 (subst (λ (x : State). IsLegal limit x all) f.1 l)),
  rw (h.seen, state_after-append) (e ∙ ap (λ (x : State). state_after limit x all) f.1),
  rw (h.seen, h.mine) (rw filter-append (rw (m, f.2) refl)),
)
told_on limit c s u None (Some v) all own h l e m f = absurd h
told_on limit c s u (Some t) None all own h l e m f = absurd h

-- what holds at any time holds after a call
pub Makes-sound : (x y : View) (own : List Entry) → Makes x y own → IsSound x → IsSound y
Makes-sound x y own m i = record {
  limit = rw m.same_limit i.limit;
  told = rw (m.same_limit, m.same_caller) (told_on x.limit x.caller x.state y.state x.told y.told m.all own m.told m.legal m.reached m.by_caller i.told);
}

keeps : (limit : ℕ) (c : Caller) (s : State) (t u : Told) (all own : List Entry) → TellsOn (Some t) (Some u) all own → IsToldOf limit s c (Some u)
    → KeepsFaith limit t u own
keeps limit c s t u all own h f = record { legal = f.0; more = all; seen = h.seen; mine = h.mine }

pub keeps_faith : AlwaysKeepsFaith
keeps_faith old new own t u sound makes was is =
    let told : TellsOn (Some t) (Some u) makes.all own = rw (was, is) at makes.told in
    let s = Makes-sound old new own makes sound in
    let f : IsToldOf old.limit new.state new.caller (Some u) = rw (makes.same_limit, is) at s.told in
    keeps old.limit new.caller new.state t u makes.all own told f

-- alone, the state is what the caller's entries leave
pub Makes-alone : (x y : View) (own : List Entry) → IsByItself x → Makes x y own → IsLegal x.limit x.state own × (y.state ≡ state_after x.limit x.state own)
Makes-alone x y own h m =
    let e = m.alone h in (
      subst (λ (es : List Entry). IsLegal x.limit x.state es) e m.legal,
      m.reached
          ∙ ap (λ (es : List Entry). state_after x.limit x.state es) e,
    )
