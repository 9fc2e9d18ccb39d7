-- A code for trees, by which proofs tell them apart: a tree is stored as a list of tokens, its parts first, and read back by a stack.
use Rattle.std.{specs.Prelude.{◌≡◌, ◌⊎◌, refl, ℕ, Option, None, List, [], ◌∷◌, ◌++◌}, proofs.Common.{zero, suc, sym, ap, ◌∙◌}}
use Rattle.std.specs.Coded.{Coded, code_by, coded×, coded_ℕ, coded_list, coded_option}
use mathlib.Core.Logic.{inl, inr}
use Rattle.fm_lanes.specs.declared.{order.Order.{Order, TheVariants.{Little, Big}}, value_kind.ValueKind.{ValueKind}}
use Rattle.fm_lanes.specs.declared.value_kind.ValueKind.TheVariants.{Byte, Boolean, Char, Short, Int, Long}
use Rattle.fm_layout.specs.Tree.{Label, Tree, Trees, Value, Padding, Sequence, Struct, Union, NoMore, More}

abbrev number_of_kind : ValueKind → ℕ
number_of_kind Byte = 0
number_of_kind Boolean = 1
number_of_kind Char = 2
number_of_kind Short = 3
number_of_kind Int = 4
number_of_kind Long = 5

abbrev kind_of_number : ℕ → ValueKind
kind_of_number zero = Byte
kind_of_number (suc zero) = Boolean
kind_of_number (suc (suc zero)) = Char
kind_of_number (suc (suc (suc zero))) = Short
kind_of_number (suc (suc (suc (suc zero)))) = Int
kind_of_number (suc (suc (suc (suc (suc n))))) = Long

kind_again : (k : ValueKind) → kind_of_number (number_of_kind k) ≡ k
kind_again Byte = refl
kind_again Boolean = refl
kind_again Char = refl
kind_again Short = refl
kind_again Int = refl
kind_again Long = refl

abbrev coded_label : Coded Label
coded_label = code_by (ℕ × Option (List ℕ)) (coded× coded_ℕ (coded_option (coded_list coded_ℕ))) (λ l. (l.alignment, l.name)) (λ p. record {
  alignment = p.0;
  name = p.1;
}) (λ _. refl)

-- a token: what it makes, its number, its label
abbrev pub Token : Type 0
Token = ℕ × (ℕ × Label)

abbrev unlabelled : Label
unlabelled = record { alignment = 0; name = None }

-- which token a value is
abbrev token_of_order : Order → ℕ
token_of_order Little = 0
token_of_order Big = 1

abbrev mutual
  pub tokens : Tree → List Token
  tokens (Value k o l) = (token_of_order o, (number_of_kind k, l)) ∷ []
  tokens (Padding n l) = (2, (n, l)) ∷ []
  tokens (Sequence n e l) = tokens e ++ ((3, (n, l)) ∷ [])
  tokens (Struct ms l) = tokens_all ms ++ ((4, (0, l)) ∷ [])
  tokens (Union ms l) = tokens_all ms ++ ((5, (0, l)) ∷ [])

  tokens_all : Trees → List Token
  tokens_all NoMore = (6, (0, unlabelled)) ∷ []
  tokens_all (More t ts) = tokens_all ts ++ (tokens t ++ ((7, (0, unlabelled)) ∷ []))

-- what lies on the stack after a token
abbrev push : ℕ → ℕ → Label → List (Tree ⊎ Trees) → List (Tree ⊎ Trees)
push zero n l stack = inl (Value (kind_of_number n) Little l) ∷ stack
push (suc zero) n l stack = inl (Value (kind_of_number n) Big l) ∷ stack
push (suc (suc zero)) n l stack = inl (Padding n l) ∷ stack
push (suc (suc (suc zero))) n l (inl e ∷ stack) = inl (Sequence n e l) ∷ stack
push (suc (suc (suc (suc zero)))) n l (inr ms ∷ stack) = inl (Struct ms l) ∷ stack
push (suc (suc (suc (suc (suc zero))))) n l (inr ms ∷ stack) = inl (Union ms l) ∷ stack
push (suc (suc (suc (suc (suc (suc zero)))))) n l stack = inr NoMore ∷ stack
push (suc (suc (suc (suc (suc (suc (suc zero))))))) n l (inl t ∷ inr ts ∷ stack) = inr (More t ts) ∷ stack
push _ n l _ = []

abbrev pushes : List Token → List (Tree ⊎ Trees) → List (Tree ⊎ Trees)
pushes [] stack = stack
pushes (t ∷ ts) stack = pushes ts (push t.0 t.1.0 t.1.1 stack)

abbrev top : List (Tree ⊎ Trees) → Tree
top (inl t ∷ stack) = t
top _ = Padding 0 unlabelled

pushes-append : (a b : List Token) (stack : List (Tree ⊎ Trees)) → pushes (a ++ b) stack ≡ pushes b (pushes a stack)
pushes-append [] b stack = refl
pushes-append (t ∷ a) b stack = pushes-append a b (push t.0 t.1.0 t.1.1 stack)

mutual
  reads : (t : Tree) (stack : List (Tree ⊎ Trees)) → pushes (tokens t) stack ≡ inl t ∷ stack
  reads (Value k Little l) stack = ap (λ k. inl (Value k Little l) ∷ stack) (kind_again k)
  reads (Value k Big l) stack = ap (λ k. inl (Value k Big l) ∷ stack) (kind_again k)
  reads (Padding n l) stack = refl
  reads (Sequence n e l) stack = pushes-append (tokens e) ((3, (n, l)) ∷ []) stack ∙ ap (λ s. push 3 n l s) (reads e stack)
  reads (Struct ms l) stack = pushes-append (tokens_all ms) ((4, (0, l)) ∷ []) stack ∙ ap (λ s. push 4 0 l s) (reads_all ms stack)
  reads (Union ms l) stack = pushes-append (tokens_all ms) ((5, (0, l)) ∷ []) stack ∙ ap (λ s. push 5 0 l s) (reads_all ms stack)

  reads_all : (ts : Trees) (stack : List (Tree ⊎ Trees)) → pushes (tokens_all ts) stack ≡ inr ts ∷ stack
  reads_all NoMore stack = refl
  reads_all (More t ts) stack =
      pushes-append (tokens_all ts) (tokens t ++ ((7, (0, unlabelled)) ∷ [])) stack
      ∙ (ap (λ s. pushes (tokens t ++ ((7, (0, unlabelled)) ∷ [])) s) (reads_all ts stack)
      ∙ (pushes-append (tokens t) ((7, (0, unlabelled)) ∷ []) (inr ts ∷ stack)
      ∙ ap (λ s. push 7 0 unlabelled s) (reads t (inr ts ∷ stack))))

-- The tokens give the tree back.
pub tree_again : (t : Tree) → top (pushes (tokens t) []) ≡ t
tree_again t = ap top (reads t [])

-- Trees of the same tokens are the same.
pub same_from_tokens : (t u : Tree) → tokens t ≡ tokens u → t ≡ u
same_from_tokens t u e = sym (tree_again t) ∙ ap (λ ts. top (pushes ts [])) e ∙ tree_again u

abbrev pub tree_code : Coded Tree
tree_code = code_by (List Token) (coded_list (coded× coded_ℕ (coded× coded_ℕ coded_label))) tokens (λ ts. top (pushes ts [])) tree_again
