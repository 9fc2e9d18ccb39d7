-- What the machine has read begins a text, and it reads each text.
use Rattle.std.proofs.Common.{◌≡◌, refl, sym, ap, subst, ℕ, ◌+◌, ◌<◌, zero, suc, true, if◌then◌else◌, Option, Some, List, [], ◌∷◌, ◌++◌, length, arith, ◌∙◌}
use Rattle.std.{specs.{Prelude.{decimal, pos, negsuc}, List.{AllByRecursion}, Option.{IfSome}}, proofs.lemmas.Bool.{lt-ltb, Decides.{nat_tests}}}
use Rattle.std.proofs.lemmas.{List.{append_assoc, append-nil, length-append}, Fmt.{decimal_digit}}
use Rattle.fm_base_lists.proofs.Each.{all_snoc}
use Rattle.fm_path_text.specs.declared.step.PathStep.{PathStep, TheVariants.{Name, Group, At, Each, EachFrom}}
use Rattle.fm_path_text.specs.Grammar.{piece_of, pieces_of, path_text, HasPiece, IsPath, Begins}
use Rattle.fm_path_text.specs.{Reader.{sign_of, closes, opens, next, Spot, spot, moved, reads, onward, run, start, whole}, declared.part.Part.{Part}}
use Rattle.fm_path_text.specs.declared.part.{Part.TheVariants.{Between, Dot, Word, Hash, Number, Open, Index, Colon, Minus, Up, Down}, Move.{Move}}
use Rattle.fm_path_text.{specs.declared.part.Move.TheVariants.{Dead, Stay, Finish}, proofs.{Machine.{run_keeps}, Moves.{shown, IsLive, Leaves, leaves, told}}}
use Rattle.fm_layout.specs.Name.{is_digit}
use Rattle.fm_path_text.specs.declared.sign.Sign.TheVariants as sign

-- the text so far is that of the whole pieces and of the part
pub record HasRead (text : List ℕ) (s : Spot) : Type 0 where
  pub spelled : text ≡ pieces_of s.done ++ shown s.part
  pub each : AllByRecursion HasPiece s.done
  pub live : IsLive (length s.done) s.part

-- one more piece stands at the end
pub pieces_snoc : (ds : List PathStep) (p : PathStep) → pieces_of (ds ++ p ∷ []) ≡ pieces_of ds ++ piece_of p
pieces_snoc [] p = append-nil (piece_of p)
pieces_snoc (d ∷ ds) p = simp (pieces_snoc ds p, append_assoc)

-- the same, where the machine may have stopped
abbrev pub MayHaveRead : List ℕ → Option Spot → Type 0
MayHaveRead text o = IfSome o (HasRead text)

-- what was read after one more move
after : (text : List ℕ) (ds : List PathStep) (p : Part) (b : ℕ) (m : Move) → HasRead text (spot ds p) → Leaves p (length ds) b m
    → MayHaveRead (text ++ b ∷ []) (moved ds m)
after text ds p b Dead h l = tt
after text ds p b (Stay q) h l = record {
  spelled = simp (h.spelled, append_assoc, l.0);
  each = h.each;
  live = l.1;
}
after text ds p b (Finish d q) h l = record {
  spelled = simp (h.spelled, append_assoc, l.0, pieces_snoc ds d);
  each = all_snoc HasPiece ds d h.each l.1;
  live = subst (λ k. IsLive k q) (sym (length-append ds (d ∷ []))) l.2;
}

-- what the machine has read
pub has_read : (bs text : List ℕ) (o : Option Spot) → MayHaveRead text o → MayHaveRead (text ++ bs) (run bs o)
has_read = run_keeps reads HasRead (λ text s b h.
    after text s.done s.part b (next s.part (length s.done) (sign_of b)) h (leaves s.part (length s.done) (sign_of b) b (told b) h.live))

-- before the first byte nothing was read
pub read_nothing : HasRead [] (spot [] Between)
read_nothing = record { spelled = refl; each = tt; live = omega arith }

-- where the machine stands, it has read what it shows
pub there_read : (text : List ℕ) (s : Spot) → run text start ≡ Some s → HasRead text s
there_read text s e = subst (MayHaveRead text) e (has_read text [] start read_nothing)

-- a path with a step is written by its pieces
text_snoc : (ds : List PathStep) (p : PathStep) → path_text (ds ++ p ∷ []) ≡ pieces_of (ds ++ p ∷ [])
text_snoc [] p = refl
text_snoc (d ∷ ds) p = refl

-- what was read is completed by the rest of a piece
ends : (text : List ℕ) (ds : List PathStep) (p : Part) (d : PathStep) (rest : List ℕ) → HasRead text (spot ds p) → shown p ++ rest ≡ piece_of d → HasPiece d
    → length ds < 64 → Begins text
ends text ds p d rest h e a lt = (
  rest,
  ds ++ d ∷ [],
  record { each = all_snoc HasPiece ds d h.each a; short = omega (arith, length-append ds (d ∷ [])) },
  simp (h.spelled, append_assoc, e, text_snoc ds d, pieces_snoc ds d),
)

-- what has been read begins a text
pub can_end : (text : List ℕ) (ds : List PathStep) (p : Part) → HasRead text (spot ds p) → Begins text
can_end text [] Between h = (46 ∷ [], [], record { each = tt; short = omega arith }, ap (λ t. t ++ 46 ∷ []) h.spelled)
can_end text (d ∷ ds) Between h = ([], d ∷ ds, record { each = h.each; short = h.live }, append-nil text ∙ h.spelled ∙ append-nil (pieces_of (d ∷ ds)))
can_end text ds Dot h = ends text ds Dot (Name (97 ∷ [])) (97 ∷ []) h refl (refl, tt, omega arith) h.live
can_end text ds (Word s) h = ends text ds (Word s) (Name s) [] h (ap (λ t. 46 ∷ t) (append-nil s)) h.live.1 h.live.0
can_end text ds Hash h = ends text ds Hash (Group 0) (48 ∷ []) h (ap (λ t. 46 ∷ 35 ∷ t) (sym (decimal_digit 0 (omega arith)))) (omega arith) h.live
can_end text ds (Number n) h = ends text ds (Number n) (Group n) [] h (ap (λ t. 46 ∷ 35 ∷ t) (append-nil (decimal n))) h.live.1 h.live.0
can_end text ds Open h = ends text ds Open Each (93 ∷ []) h refl tt h.live
can_end text ds (Index n) h = ends text ds (Index n) (At n) (93 ∷ []) h refl h.live.1 h.live.0
can_end text ds (Colon f) h =
    ends text ds (Colon f) (EachFrom f (pos 0)) (48 ∷ 93 ∷ []) h (simp (append_assoc, decimal_digit 0 (omega arith))) (h.live.1, omega arith) h.live.0
can_end text ds (Minus f) h =
    ends text ds (Minus f) (EachFrom f (negsuc 0)) (49 ∷ 93 ∷ []) h (simp (append_assoc, decimal_digit 1 (omega arith))) (h.live.1, omega arith) h.live.0
can_end text ds (Up f n) h = ends text ds (Up f n) (EachFrom f (pos n)) (93 ∷ []) h (simp append_assoc) (h.live.1, h.live.2) h.live.0
can_end text ds (Down f zero) h = absurd (omega (arith, h.live.3))
can_end text ds (Down f (suc n)) h = ends text ds (Down f (suc n)) (EachFrom f (negsuc n)) (93 ∷ []) h (simp append_assoc) (h.live.1, h.live.2) h.live.0

-- a fact of one path is one of an equal path
was : (text : List ℕ) (ps qs : List PathStep) → Some qs ≡ Some ps → IsPath qs × (text ≡ path_text qs) → IsPath ps × (text ≡ path_text ps)
was text ps qs e h = subst (λ ps. IsPath ps × (text ≡ path_text ps)) (cc) h

-- a text whose last part is a whole piece is that of the path with it
at_end : (text : List ℕ) (ds : List PathStep) (p : Part) (d : PathStep) → HasRead text (spot ds p) → shown p ≡ piece_of d → HasPiece d → length ds < 64
    → IsPath (ds ++ d ∷ []) × (text ≡ path_text (ds ++ d ∷ []))
at_end text ds p d h e a lt = (
  record { each = all_snoc HasPiece ds d h.each a; short = omega (arith, length-append ds (d ∷ [])) },
  simp (h.spelled, e, text_snoc ds d, pieces_snoc ds d),
)

-- a text that may end is that of the path which was read
pub is_whole : (text : List ℕ) (ds ps : List PathStep) (p : Part) → HasRead text (spot ds p) → whole ds p ≡ Some ps → IsPath ps × (text ≡ path_text ps)
is_whole text [] ps Dot h e = was text ps [] e (record { each = tt; short = omega arith }, h.spelled)
is_whole text ds ps (Word s) h e = was text ps (ds ++ Name s ∷ []) e (at_end text ds (Word s) (Name s) h refl h.live.1 h.live.0)
is_whole text ds ps (Number n) h e = was text ps (ds ++ Group n ∷ []) e (at_end text ds (Number n) (Group n) h refl h.live.1 h.live.0)
is_whole text (d ∷ ds) ps Between h e = was text ps (d ∷ ds) e (record { each = h.each; short = h.live }, h.spelled ∙ append-nil (pieces_of (d ∷ ds)))
is_whole text ds ps p h e = absurd (cc)

-- these steps were read whole, though the last may be still open
pub data IsSettled (ds : List PathStep) : Spot → Type 0 where
  By_end : IsSettled ds (spot ds Between)
  By_word : (es : List PathStep) (w : List ℕ) → ds ≡ es ++ Name w ∷ [] → IsSettled ds (spot es (Word w))
  By_number : (es : List PathStep) (n : ℕ) → ds ≡ es ++ Group n ∷ [] → IsSettled ds (spot es (Number n))

-- a list with one more element is longer by one
shorter : (ds es : List PathStep) (d : PathStep) → ds ≡ es ++ d ∷ [] → length ds ≡ length es + 1
shorter ds es d e = ap length e ∙ length-append es (d ∷ [])

-- a byte that ends a piece leads on to the next part
closed : (ds es : List PathStep) (d : PathStep) (q : Part) → ds ≡ es ++ d ∷ [] → length ds < 64 → moved es (closes (length es) d q) ≡ Some (spot ds q)
closed ds es d q e lt =
    let k : length es + 1 < 64 = omega (arith, shorter ds es d e) in
    ap (λ c. moved es (if c then Finish d q else Dead)) (lt-ltb (length es + 1) 64 k) ∙ ap (λ x. Some (spot x q)) (sym e)

-- a first byte leads on to its part
opened : (ds : List PathStep) (q : Part) → length ds < 64 → moved ds (opens (length ds) q) ≡ Some (spot ds q)
opened ds q lt = ap (λ c. moved ds (if c then Stay q else Dead)) (lt-ltb (length ds) 64 lt)

-- a dot goes on behind whole pieces
pub dot_next : (ds : List PathStep) (s : Spot) → IsSettled ds s → length ds < 64 → onward (Some s) 46 ≡ Some (spot ds Dot)
dot_next ds s By_end lt = opened ds Dot lt
dot_next ds s (By_word es w e) lt = closed ds es (Name w) Dot e lt
dot_next ds s (By_number es n e) lt = closed ds es (Group n) Dot e lt

-- a bracket goes on behind whole pieces
pub open_next : (ds : List PathStep) (s : Spot) → IsSettled ds s → length ds < 64 → onward (Some s) 91 ≡ Some (spot ds Open)
open_next ds s By_end lt = opened ds Open lt
open_next ds s (By_word es w e) lt = closed ds es (Name w) Open e lt
open_next ds s (By_number es n e) lt = closed ds es (Group n) Open e lt

-- 48 and a number below ten is a digit
pub yes_digit : (d : ℕ) → d < 10 → is_digit (48 + d) ≡ true
yes_digit d h = grind (arith, nat_tests)

-- the sign of a digit is its value
pub digit_sign : (d : ℕ) → d < 10 → sign_of (48 + d) ≡ sign.Digit d
digit_sign d h = grind (arith, nat_tests)
