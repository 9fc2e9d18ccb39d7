-- Text that is sent piece by piece.
use Rattle.std.proofs.Common.{◌≡◌, ℕ, List, [], ◌++◌, length, take, drop, Option, None, Some, Result, Ok, Err, refl, ap, sym, subst, ◌∙◌, append_assoc, arith}
use Rattle.std.proofs.{Math.Seq.{take-append_seam}, lemmas.List.{append-nil, length-append, take-append-drop}}
use Rattle.fm_io.specs.{Sink.{Appends, AppendsPrefix, SinkView}, Sending.{Passes, Sends}, declared.fault.Fault.{Fault, TheVariants.{Memory}}}
use Rattle.fm_io.proofs.{Appended.{Appends-append}, Counting.{counts_none, counts_then}}

-- these are the first of the bytes
front : (old new : Option (List ℕ)) (xs rest bytes : List ℕ) → Appends old new xs → xs ++ rest ≡ bytes → AppendsPrefix old new bytes
front old new xs rest bytes appended whole =
    let first = ap (take (length xs)) (sym whole) ∙ take-append_seam xs rest in
    (length xs, omega (arith, length-append xs rest, ap length whole), subst (λ (ys : List ℕ). Appends old new ys) (sym first) appended)

-- some bytes were written, and then a prefix of others
pub prefix-after : (old mid new : Option (List ℕ)) (xs ys : List ℕ) → Appends old mid xs → AppendsPrefix mid new ys → AppendsPrefix old new (xs ++ ys)
prefix-after old mid new xs ys all (n, within, appended) =
    front old new (xs ++ take n ys) (drop n ys) (xs ++ ys) (Appends-append old mid new xs (take n ys) all appended)
    (append_assoc xs (take n ys) (drop n ys) ∙ ap (λ t. xs ++ t) (take-append-drop n ys))

-- nothing was written
Appends-none : (told : Option (List ℕ)) → Appends told told []
Appends-none None = refl
Appends-none (Some w) = ap Some (sym (append-nil w))

-- nothing was sent
pub nothing_sent : (told : SinkView) (before : List ℕ) → Sends told told before before [] (Ok tt)
nothing_sent told before = record {
  passes = record { written = []; appended = Appends-none told.written; whole = sym (append-nil before) };
  prefix = tt;
  counted = counts_none told.faults (λ e. absurd (cc));
}

-- bytes pend behind those that did
pub pushed : (told : SinkView) (before after bytes : List ℕ) → after ≡ before ++ bytes
    → Sends told told before after bytes (Ok tt)
pushed told before after bytes is = record {
  passes = record { written = []; appended = Appends-none told.written; whole = is };
  prefix = tt;
  counted = counts_none told.faults (λ e. absurd (cc));
}

-- memory ran out before they pend
pub not_pushed : (told : SinkView) (before after bytes : List ℕ) → Sends told told before after bytes (Err Memory)
not_pushed told before after bytes = record {
  passes = tt;
  prefix = front told.written told.written [] (before ++ bytes) (before ++ bytes) (Appends-none told.written) refl;
  counted = counts_none told.faults (λ e. absurd (cc));
}

-- what passes in two steps
passes-append : (old mid new : Option (List ℕ)) (a b c xs ys : List ℕ) → Passes old mid a b xs → Passes mid new b c ys → Passes old new a c (xs ++ ys)
passes-append old mid new a b c xs ys p q = record {
  written = p.written ++ q.written;
  appended = Appends-append old mid new p.written q.written p.appended q.appended;
  whole =
      append_assoc p.written q.written c
      ∙ ap (λ t. p.written ++ t) q.whole
      ∙ sym (append_assoc p.written b ys)
      ∙ ap (λ t. t ++ ys) p.whole
      ∙ append_assoc a xs ys;
}

-- a prefix of what came behind what passed
prefix-behind : (old mid new : Option (List ℕ)) (a b xs ys : List ℕ) → Passes old mid a b xs → AppendsPrefix mid new (b ++ ys)
    → AppendsPrefix old new (a ++ (xs ++ ys))
prefix-behind old mid new a b xs ys p some =
    subst (λ (t : List ℕ). AppendsPrefix old new t) (sym (append_assoc p.written b ys) ∙ ap (λ t. t ++ ys) p.whole ∙ append_assoc a xs ys)
    (prefix-after old mid new p.written (b ++ ys) p.appended some)

-- a prefix of the first bytes is one of all
pub prefix-more : (old new : Option (List ℕ)) (xs ys : List ℕ) → AppendsPrefix old new xs → AppendsPrefix old new (xs ++ ys)
prefix-more old new xs ys (n, within, appended) =
    front old new (take n xs) (drop n xs ++ ys) (xs ++ ys) appended
    (sym (append_assoc (take n xs) (drop n xs) ys) ∙ ap (λ t. t ++ ys) (take-append-drop n xs))

-- first these bytes were sent, and then those
pub sent_then : {old mid new : SinkView} {a b c xs ys : List ℕ} {r : Result (Unit {0}) Fault}
    → Sends old mid a b xs (Ok tt) → Sends mid new b c ys r → Sends old new a c (xs ++ ys) r
sent_then {r = Ok tt} p q = record {
  passes = passes-append _ _ _ _ _ _ _ _ p.passes q.passes;
  prefix = tt;
  counted = counts_then p.counted (λ e. absurd (cc)) q.counted;
}
sent_then {r = Err e} p q = record {
  passes = tt;
  prefix = prefix-behind _ _ _ _ _ _ _ p.passes q.prefix;
  counted = counts_then p.counted (λ e. absurd (cc)) q.counted;
}

-- what stopped at these bytes stops at more
pub sent_stop : {old new : SinkView} {a b c xs : List ℕ} {e : Fault} (ys : List ℕ) → Sends old new a b xs (Err e)
    → Sends old new a c (xs ++ ys) (Err e)
sent_stop {old = old} {new = new} {a = a} {xs = xs} ys p = record {
  passes = tt;
  prefix = subst (λ (t : List ℕ). AppendsPrefix old.written new.written t) (append_assoc a xs ys) (prefix-more old.written new.written (a ++ xs) ys p.prefix);
  counted = p.counted;
}

-- nothing pended before what was sent, and then the rest was written: so far a prefix of it came out
pub front_sent : {old mid new : SinkView} {a b c xs bytes : List ℕ} {r : Result (Unit {0}) Fault} → Sends old mid a b xs (Ok tt)
    → Sends mid new b c [] r → a ≡ [] → xs ≡ bytes → AppendsPrefix old.written new.written bytes
front_sent {old = old} {new = new} {c = c} {xs = xs} {bytes = bytes} {r = Ok tt} p q none is =
    let all = sent_then p q in
    front old.written new.written all.passes.written c bytes all.passes.appended (all.passes.whole ∙ ap (λ t. t ++ (xs ++ [])) none ∙ append-nil xs ∙ is)
front_sent {old = old} {new = new} {xs = xs} {r = Err e} p q none is =
    subst (λ (t : List ℕ). AppendsPrefix old.written new.written t) (ap (λ t. t ++ (xs ++ [])) none ∙ append-nil xs ∙ is) (sent_then p q).prefix

-- ---- a text that is sent part by part

-- some first bytes of the whole were sent, and the rest is to come
pub record IsUnderWay (old new : SinkView) (before after rest whole : List ℕ) : Type 0 where
  pub first : List ℕ
  pub sent : Sends old new before after first (Ok tt)
  pub all : first ++ rest ≡ whole

-- none was sent yet
pub begins : (told : SinkView) (before whole : List ℕ) → IsUnderWay told told before before whole whole
begins told before whole = record { first = []; sent = nothing_sent told before; all = refl }

-- the next part was sent
pub goes_on : {old mid new : SinkView} {a b c rest whole : List ℕ} (part more : List ℕ) → IsUnderWay old mid a b rest whole
    → Sends mid new b c part (Ok tt) → rest ≡ part ++ more → IsUnderWay old new a c more whole
goes_on part more p q is = record {
  first = p.first ++ part;
  sent = sent_then p.sent q;
  all = append_assoc p.first part more ∙ ap (λ t. p.first ++ t) (sym is) ∙ p.all;
}

-- it stopped in the next part
pub stops : {old mid new : SinkView} {a b c rest whole : List ℕ} {e : Fault} (part more : List ℕ) → IsUnderWay old mid a b rest whole
    → Sends mid new b c part (Err e) → rest ≡ part ++ more → Sends old new a c whole (Err e)
stops {old = old} {new = new} {a = a} {c = c} {e = e} part more p q is =
    subst (λ (t : List ℕ). Sends old new a c t (Err e))
    (append_assoc p.first part more ∙ ap (λ t. p.first ++ t) (sym is) ∙ p.all)
    (sent_stop more (sent_then p.sent q))

-- nothing is left
pub ends : {old new : SinkView} {a b rest whole : List ℕ} → IsUnderWay old new a b rest whole → rest ≡ []
    → Sends old new a b whole (Ok tt)
ends {old = old} {new = new} {a = a} {b = b} p is =
    subst (λ (t : List ℕ). Sends old new a b t (Ok tt)) (sym (append-nil p.first) ∙ ap (λ t. p.first ++ t) (sym is) ∙ p.all) p.sent
