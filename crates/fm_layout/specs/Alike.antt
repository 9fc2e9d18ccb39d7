-- The test of equality decides it.
use Rattle.std.{proofs.Common.{◌≡◌, ℕ, true, ◌&&◌, Option, Some, None, List, nat_eq, refl, sym, ap, ◌∙◌}, specs.Bool.{Decides, one_answer}}
use Rattle.std.{specs.Cmp.{IsEquivalence}, proofs.lemmas.{Bool.{and_parts, and_from, Decides.{Decides-eqb}}, Slice.Eq.{bytes_eq-Decides, slice_eq-Decides}}}
use Rattle.fm_layout.specs.{Tree.{Tree}, Codes.{Token, tokens, same_from_tokens}, Same.{same_name, same_token, same_tree}}

name_decides : (s t : Option (List ℕ)) → Decides (same_name s t) (s ≡ t)
name_decides None None = (λ _. refl, λ _. refl)
name_decides None (Some t) = (λ h. cc, λ h. cc)
name_decides (Some s) None = (λ h. cc, λ h. cc)
name_decides (Some s) (Some t) =
    let d = bytes_eq-Decides s t in
    (λ h. ap Some (d.0 h), λ h. d.1 (cc))

token_same : (a b : Token) → same_token a b ≡ true → a ≡ b
token_same (n, (k, l)) (m, (j, r)) h =
    let parts = and_parts (nat_eq n m && nat_eq k j) (nat_eq l.alignment r.alignment && same_name l.name r.name) h in
    let low = and_parts (nat_eq n m) (nat_eq k j) parts.0 in
    let high = and_parts (nat_eq l.alignment r.alignment) (same_name l.name r.name) parts.1 in
    ap (λ x. (x, (k, l))) ((Decides-eqb n m).0 low.0)
    ∙ ap (λ x. (m, (x, l))) ((Decides-eqb k j).0 low.1)
    ∙ ap (λ x. (m, (j, record { alignment = x; name = l.name }))) ((Decides-eqb l.alignment r.alignment).0 high.0)
    ∙ ap (λ x. (m, (j, record { alignment = r.alignment; name = x }))) ((name_decides l.name r.name).0 high.1)

token_itself : (a : Token) → same_token a a ≡ true
token_itself a =
    and_from (nat_eq a.0 a.0 && nat_eq a.1.0 a.1.0) (nat_eq a.1.1.alignment a.1.1.alignment && same_name a.1.1.name a.1.1.name)
    (and_from (nat_eq a.0 a.0) (nat_eq a.1.0 a.1.0) ((Decides-eqb a.0 a.0).1 refl) ((Decides-eqb a.1.0 a.1.0).1 refl))
    (and_from (nat_eq a.1.1.alignment a.1.1.alignment) (same_name a.1.1.name a.1.1.name) ((Decides-eqb a.1.1.alignment a.1.1.alignment).1 refl)
    ((name_decides a.1.1.name a.1.1.name).1 refl))

token_decides : (a b : Token) → Decides (same_token a b) (a ≡ b)
token_decides a b = (token_same a b, λ e. ap (same_token a) (sym e) ∙ token_itself a)

-- The test is whether they are the same.
pub same_tree-Decides : (t u : Tree) → Decides (same_tree t u) (t ≡ u)
unfolding same_tree
same_tree-Decides t u =
    let d = slice_eq-Decides token_decides (tokens t) (tokens u) (same_tree t u) refl in
    (λ h. same_from_tokens t u (d.0 h), λ e. d.1 (ap tokens e))

-- It is an equivalence.
pub same_tree-equivalence : IsEquivalence same_tree
same_tree-equivalence = record {
  refl = λ x. (same_tree-Decides x x).1 refl;
  symm = λ x y. one_answer (same_tree x y) (same_tree y x) (same_tree-Decides x y) (
    (λ h. sym ((same_tree-Decides y x).0 h)),
    (λ e. (same_tree-Decides y x).1 (sym e)),
  );
  congr = λ x y z h. ap (λ w. same_tree w z) ((same_tree-Decides x y).0 h);
}
