-- What a view says after its own step, and what the step tells.
use Rattle.std.proofs.{Common.{◌≡◌, ◌≢◌, ℕ, true, List, [], ◌++◌, sym, refl, ap, ◌∙◌, subst}, lemmas.List.{append-nil, Elements.{filter-append}}}
use Rattle.fm_words.specs.declared.shape.Shape.{Shape}
use Rattle.fm_base.specs.{declared.caller.Caller.{Caller}, Calls.{Entry}, Histories.{made_by}, Finds.{Find, Gathered}}
use Rattle.fm_base_machine.specs.{Functions.{Machine}, Steps.{moved_by}}
use Rattle.fm_rule_facts.specs.Views.{View, In, IsSound, all_gathered, brought, limit_of, HasOwnHandles}
use Rattle.fm_rule_facts.specs.{Facts.{PoolWords, Owners, IsOnce, Work, Knows, WasDrawn, bit_of}, Moves.{Moved, Same, KeepsHand, told, Gives}}
use Rattle.fm_rule_facts.proofs.{Frame.{others_stay, made_by-other}, Handing.{hand_view}}
use Rattle.fm_rule_facts.proofs.{Keeping.{none_added, silent_since, begins_on, gathered_all, made_by-on, drawn_still, drawn_before}, Working.{work_as}}

module _ (z : Shape) (h zs : List Entry) (me : ℕ) (m m' : PoolWords) (t : Machine) (o o' : Owners) (es : List Entry) (fs : ℕ → List Find) (v p : View)
    (k : Knows z h m t o me v) (l : v.live ≡ true) (d : Moved me z v.caller m t o es m' o') (is : h ≡ v.seen ++ zs) (s : Same v p) where
  abbrev pub w : View
  w = told p zs es fs

  same_all : all_gathered p ≡ all_gathered v
  same_all = λ j. s.gathered j ++ brought (s.met j)

  seen_is : w.seen ≡ h ++ es
  seen_is = ap (λ (xs : List Entry). (xs ++ zs) ++ es) s.seen ∙ ap (λ (xs : List Entry). xs ++ es) (sym is)

  pub own_view : Work z m' (moved_by t es) o' me p → KeepsHand z (h ++ es) v m' (moved_by t es) o' me p → HasOwnHandles w → Knows z (h ++ es) m' (moved_by t es) o' me w
  own_view work q handles =
      let u = k.owns l in
      let ok = d.allowed in
      let num : p.caller.number ≡ v.caller.number = ap (λ (x : Caller). x.number) s.caller in
      let still : (c : Caller) → WasDrawn m.draw o.who o.rank c → WasDrawn m'.draw o'.who o'.rank c = drawn_still d in
      record {
        shape = λ e. s.shape ∙ k.shape l;
        begins = ([], sym (append-nil w.seen ∙ seen_is));
        met = λ x i. absurd i;
        owns = λ e. record {
          drawn = subst (WasDrawn m'.draw o'.who o'.rank) (sym s.caller) (still v.caller u.drawn);
          term = ap (λ (x : Caller). x.term) s.caller ∙ (u.term ∙ (sym d.numbers.term ∙ ap m'.terms (sym num)));
          seated = ap o'.seat s.caller ∙ (d.callers.seat v.caller ∙ u.seated);
          owner = ap o'.number num ∙ (d.numbers.owner ∙ u.owner);
          bit = ap (bit_of m'.numbers) num ∙ (d.numbers.bit ∙ u.bit);
          mine = ap (made_by p.caller) (sym seen_is);
          work = work_as work;
          handles = handles;
          coming = λ x i. absurd i;
          one_each = subst (IsOnce (λ (g : Gathered). g.caller)) (sym (append-nil (all_gathered p) ∙ same_all)) u.one_each;
          gathered = λ g i.
              let y = (gathered_all z h m t o me v u g (subst (In g) same_all i)).1 in
              record {
                drawn = still g.caller y.drawn;
                seated = d.callers.seat g.caller ∙ y.seated;
                apart = λ e. y.apart (e ∙ s.caller);
                outside = others_stay (limit_of z) v.caller g.caller es t y.apart ok ∙ y.outside;
                quiet = ap (made_by g.caller) (sym seen_is);
              };
          number =
              hand_view z (h ++ es) m' (moved_by t es) o' me p w refl (λ g. subst (In g) (append-nil (all_gathered p)))
              (λ g. subst (In g) (sym (append-nil (all_gathered p)))) p.number q.number;
          not_own = q.not_own;
          whole = λ e n lt ne.
              let before : WasDrawn m.draw o.who o.rank n = drawn_before d n lt in
              let g = u.whole (sym s.whole ∙ e) n before (λ q. ne (q ∙ sym s.caller)) in
              (g.0, subst (In g.0) (sym (append-nil (all_gathered p) ∙ same_all)) g.1, g.2);
          seen_all = λ e. seen_is;
        };
      }

  -- what the step tells
  pub gives_by : IsSound w → Gives v p es fs w
  gives_by sound =
      let u = k.owns l in
      record {
        others = zs;
        is = refl;
        quiet = silent_since v.caller v.seen zs is u.mine;
        apart = λ g i.
            let y = u.gathered g i in
            let far : g.caller ≢ v.caller = y.apart in
            let none = silent_since g.caller v.seen zs is y.quiet in
            filter-append _ zs es ∙ (λ j. none j ++ made_by-other (limit_of z) v.caller g.caller es t far d.allowed j);
        alone = λ e. none_added v.seen zs (sym is ∙ sym (u.seen_all e));
        met = λ x i.
            let b = begins_on x.seen h es (k.met x i) in
            (b.0, seen_is ∙ b.1);
        came = λ x j g i.
            let y = u.coming x j g i in
            let far : g.caller ≢ v.caller = y.apart in
            ap (made_by g.caller) seen_is ∙ (made_by-on (limit_of z) h v.caller t es d.allowed g.caller far ∙ y.quiet);
        sound = sound;
      }
