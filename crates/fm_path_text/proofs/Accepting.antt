-- The machine reads each text of a path.
use Rattle.std.proofs.Common.{◌≡◌, refl, sym, ap, subst, ℕ, ◌+◌, ◌-◌, ◌*◌, ◌<◌, ◌≤◌, suc, Bool, true, false, ◌||◌, if◌then◌else◌, Some, List, [], ◌∷◌, ◌++◌, length, arith, ◌∙◌}
use Rattle.std.{specs.{Prelude.{IsTrue, decimal, pos, negsuc}, List.{AllByRecursion}}, proofs.lemmas.Bool.{lt-ltb, ne_eqb, Decides.{nat_tests}}}
use Rattle.std.proofs.lemmas.List.{append_assoc, append-nil, length-append}
use Rattle.fm_path_text.specs.declared.step.PathStep.{PathStep, TheVariants.{Name, Group, At, Each, EachFrom}}
use Rattle.fm_path_text.specs.Grammar.{piece_of, pieces_of, path_text, most_number, HasPiece, IsPath, Begins}
use Rattle.fm_path_text.specs.Reader.{sign_of, longer_number, counts, spells, next, Spot, spot, moved, reads, onward, run, start, whole, whole_at}
use Rattle.fm_path_text.specs.declared.part.Part.{Part, TheVariants.{Between, Dot, Word, Hash, Number, Open, Index, Colon, Minus, Up, Down}}
use Rattle.fm_path_text.{specs.declared.part.Move.TheVariants.{Dead, Stay}, proofs.{Language.{IsReader}, Moves.{digit_is}}}
use Rattle.fm_path_text.proofs.Machine.{run_append, run_positive, run_number, Accepts}
use Rattle.fm_path_text.proofs.Reading.{there_read, can_end, is_whole, IsSettled, By_end, By_word, By_number, dot_next, open_next, digit_sign}
use Rattle.fm_layout.specs.Name.{is_letter, is_digit, IsNameEnd}
use Rattle.fm_path_text.specs.declared.sign.Sign.TheVariants as sign

-- the sign of a letter is the letter
letter_sign : (c : ℕ) → IsTrue (is_letter c) → sign_of c ≡ sign.Letter c
letter_sign c h = grind (arith, nat_tests)

-- one more byte of a name leads on where there is room
spelled : (ds : List PathStep) (w : List ℕ) (c : ℕ) → length w < 64 → moved ds (spells w c) ≡ Some (spot ds (Word (w ++ c ∷ [])))
spelled ds w c lt = ap (λ b. moved ds (if b then Stay (Word (w ++ c ∷ [])) else Dead)) (lt-ltb (length w) 64 lt)

-- the part after one more byte of a name
name_step : (ds : List PathStep) (w : List ℕ) (c : ℕ) → IsTrue (is_letter c || is_digit c) → length w < 64
    → onward (Some (spot ds (Word w))) c ≡ Some (spot ds (Word (w ++ c ∷ [])))
name_step ds w c h lt = go (is_letter c) refl
  where
    go : (b : Bool) → is_letter c ≡ b → onward (Some (spot ds (Word w))) c ≡ Some (spot ds (Word (w ++ c ∷ [])))
    go true e = ap (λ s. moved ds (next (Word w) (length ds) s)) (letter_sign c e) ∙ spelled ds w c lt
    go false e =
        let f : is_digit c ≡ true = ap (λ b. b || is_digit c) (sym e) ∙ h in
        let d = digit_is c f in
        ap (λ x. onward (Some (spot ds (Word w))) x) d.0
        ∙ ap (λ s. moved ds (next (Word w) (length ds) s)) (digit_sign (c - 48) d.1)
        ∙ spelled ds w (48 + (c - 48)) lt
        ∙ ap (λ x. Some (spot ds (Word (w ++ x ∷ [])))) (sym d.0)

-- the bytes of a name are read to the name
run_name : (ds : List PathStep) (cs w : List ℕ) → IsNameEnd cs → length w + length cs ≤ 64 → run cs (Some (spot ds (Word w))) ≡ Some (spot ds (Word (w ++ cs)))
run_name ds [] w n le = ap (λ x. Some (spot ds (Word x))) (sym (append-nil w))
run_name ds (c ∷ cs) w n le =
    ap (run cs) (name_step ds w c n.0 (omega arith)) ∙ run_name ds cs (w ++ c ∷ []) n.1 (omega (arith, length-append w (c ∷ [])))
    ∙ ap (λ x. Some (spot ds (Word x))) (append_assoc w (c ∷ []) cs)

-- a digit behind a number that is not 0 leads on within the limit
more_is : (n d : ℕ) → 0 < n → 10 * n + d ≤ most_number → longer_number n d ≡ Some (10 * n + d)
more_is n d gt le = grind (arith, nat_tests)

-- a further digit leads on where the part goes on so
again : (ds : List PathStep) (at : ℕ → Part) → ((k n d : ℕ) → next (at n) k (sign.Digit d) ≡ counts at (longer_number n d)) → (n d : ℕ) → d < 10 → 0 < n
    → 10 * n + d ≤ most_number → reads (spot ds (at n)) (48 + d) ≡ Some (spot ds (at (10 * n + d)))
again ds at on n d h gt le =
    ap (λ s. moved ds (next (at n) (length ds) s)) (digit_sign d h) ∙ ap (moved ds) (on (length ds) n d)
    ∙ ap (λ o. moved ds (counts at o)) (more_is n d gt le)

-- reading a number's digits from a part, where a digit leads to the number's part
run_digits : (ds : List PathStep) (from : Part) (at : ℕ → Part) → ((k d : ℕ) → next from k (sign.Digit d) ≡ Stay (at d))
    → ((k n d : ℕ) → next (at n) k (sign.Digit d) ≡ counts at (longer_number n d))
    → (n : ℕ) → n ≤ most_number → run (decimal n) (Some (spot ds from)) ≡ Some (spot ds (at n))
run_digits ds from at first on n le =
    run_number reads (spot ds from) (λ n. spot ds (at n)) most_number (omega arith)
    (λ d h. ap (λ s. moved ds (next from (length ds) s)) (digit_sign d h) ∙ ap (moved ds) (first (length ds) d)) (again ds at on) n le

-- the spot after a piece_of
record Goes (ds : List PathStep) (text : List ℕ) (s : Spot) : Type 0 where
  to : Spot
  by : run text (Some s) ≡ Some to
  settled : IsSettled ds to

-- reading [F: and then more
first_of : (ds : List PathStep) (s : Spot) (f : ℕ) (rest : List ℕ) → IsSettled ds s → length ds < 64 → f ≤ most_number
    → run (91 ∷ decimal f ++ 58 ∷ rest) (Some s) ≡ run rest (Some (spot ds (Colon f)))
first_of ds s f rest h lt le =
    ap (run (decimal f ++ 58 ∷ rest)) (open_next ds s h lt) ∙ run_append reads (decimal f) (58 ∷ rest) (Some (spot ds Open))
    ∙ ap (λ o. run rest (onward o 58)) (run_digits ds Open (λ m. Index m) (λ k d. refl) (λ k n d. refl) f le)

-- each piece is read to its step
reads_piece : (ds : List PathStep) (s : Spot) (p : PathStep) → IsSettled ds s → length ds < 64 → HasPiece p → Goes (ds ++ p ∷ []) (piece_of p) s
reads_piece ds s (Name []) h lt a = absurd a
reads_piece ds s (Name (c ∷ cs)) h lt a = record {
  to = spot ds (Word (c ∷ cs));
  by = ap (λ o. run cs (onward o c)) (dot_next ds s h lt) ∙ ap (run cs) (rw (letter_sign c a.0) refl) ∙ run_name ds cs (c ∷ []) a.1 (omega (arith, a.2));
  settled = By_word ds (c ∷ cs) refl;
}
reads_piece ds s (Group n) h lt a = record {
  to = spot ds (Number n);
  by = ap (λ o. run (decimal n) (onward o 35)) (dot_next ds s h lt) ∙ run_digits ds Hash (λ m. Number m) (λ k d. refl) (λ k n d. refl) n a;
  settled = By_number ds n refl;
}
reads_piece ds s (At n) h lt a = record {
  to = spot (ds ++ At n ∷ []) Between;
  by = ap (run (decimal n ++ 93 ∷ [])) (open_next ds s h lt) ∙ run_append reads (decimal n) (93 ∷ []) (Some (spot ds Open))
      ∙ ap (λ o. onward o 93) (run_digits ds Open (λ m. Index m) (λ k d. refl) (λ k n d. refl) n a);
  settled = By_end;
}
reads_piece ds s Each h lt a = record {
  to = spot (ds ++ Each ∷ []) Between;
  by = ap (λ o. onward o 93) (open_next ds s h lt);
  settled = By_end;
}
reads_piece ds s (EachFrom f (pos n)) h lt a = record {
  to = spot (ds ++ EachFrom f (pos n) ∷ []) Between;
  by = first_of ds s f (decimal n ++ 93 ∷ []) h lt a.0
      ∙ run_append reads (decimal n) (93 ∷ []) (Some (spot ds (Colon f)))
      ∙ ap (λ o. onward o 93) (run_digits ds (Colon f) (Up f) (λ k d. refl) (λ k n d. refl) n a.1);
  settled = By_end;
}
reads_piece ds s (EachFrom f (negsuc n)) h lt a = record {
  to = spot (ds ++ EachFrom f (negsuc n) ∷ []) Between;
  by = first_of ds s f (45 ∷ decimal (suc n) ++ 93 ∷ []) h lt a.0
      ∙ run_append reads (decimal (suc n)) (93 ∷ []) (Some (spot ds (Minus f)))
      ∙ ap (λ o. onward o 93) (run_positive reads (spot ds (Minus f)) (λ n. spot ds (Down f n)) most_number (omega arith) first
      (again ds (Down f) (λ k n d. refl)) (suc n) (omega arith) a.1);
  settled = By_end;
}
  where
    first : (d : ℕ) → d < 10 → 0 < d → reads (spot ds (Minus f)) (48 + d) ≡ Some (spot ds (Down f d))
    first d h gt = rw (digit_sign d h, ne_eqb d 0 (λ x. omega arith)) refl

-- pieces are read one after the other
reads_pieces : (ps ds : List PathStep) (s : Spot) → IsSettled ds s → AllByRecursion HasPiece ps → length ds + length ps ≤ 64 → Goes (ds ++ ps) (pieces_of ps) s
reads_pieces [] ds s h a le = record { to = s; by = refl; settled = subst (λ x. IsSettled x s) (sym (append-nil ds)) h }
reads_pieces (p ∷ ps) ds s h a le =
    let g = reads_piece ds s p h (omega arith) a.0 in
    let r = reads_pieces ps (ds ++ p ∷ []) g.to g.settled a.1 (omega (arith, length-append ds (p ∷ []))) in
    record {
      to = r.to;
      by = run_append reads (piece_of p) (pieces_of ps) (Some s) ∙ ap (run (pieces_of ps)) g.by ∙ r.by;
      settled = subst (λ x. IsSettled x r.to) (append_assoc ds (p ∷ []) ps) r.settled;
    }

-- pieces that were read whole make the path
settled_whole : (d : PathStep) (ds : List PathStep) (s : Spot) → IsSettled (d ∷ ds) s → whole s.done s.part ≡ Some (d ∷ ds)
settled_whole d ds s By_end = refl
settled_whole d ds s (By_word es w e) = ap Some (sym e)
settled_whole d ds s (By_number es n e) = ap Some (sym e)

-- each text of a path is read, to that path
pub accepts : (ps : List PathStep) → IsPath ps → Accepts reads start whole_at (path_text ps) ps
accepts [] h = (spot [] Dot, refl, refl)
accepts (p ∷ ps) h =
    let g = reads_pieces (p ∷ ps) [] (spot [] Between) By_end h.each (omega (arith, h.short)) in
    (g.to, g.by, settled_whole p ps g.to g.settled)

-- so it reads the language of paths
pub reader : IsReader IsPath path_text reads start whole_at
reader = record { accepts = accepts }

-- what was read begins a text
pub begins : (text : List ℕ) (ds : List PathStep) (p : Part) → run text start ≡ Some (spot ds p) → Begins text
begins text ds p e = can_end text ds p (there_read text (spot ds p) e)

-- a text that was read whole is that of the path
pub found : (text : List ℕ) (ds ps : List PathStep) (p : Part) → run text start ≡ Some (spot ds p) → whole ds p ≡ Some ps → IsPath ps × (text ≡ path_text ps)
found text ds ps p e w = is_whole text ds ps p (there_read text (spot ds p) e) w
