-- Operands that are read one after the other, as the grammar has them.
use Rattle.std.proofs.Common.{◌≡◌, refl, ap, ◌∙◌, sym, subst, ℕ, true, false, cond, List, [], ◌∷◌, ◌++◌, Option, Some, None, Ok, Err, inl, inr, ◌⊎◌, append_assoc, append-nil, arith}
use Rattle.std.specs.Prelude.{◌==◌, not}
use Rattle.std.proofs.lemmas.Bool.Decides.{nat_tests}
use Rattle.assembler_text.specs.declared.faults.Fault.{Fault}
use Rattle.assembler_text.specs.declared.faults.Fault.TheVariants as fault
use Rattle.assembler_text.specs.declared.lexer.Class.TheVariants as class
use Rattle.assembler_text.specs.Words.{is_blank, is_of_class, StopsAt}
use Rattle.assembler_text.specs.Text.{Operand, OfRegister, OfImm, OfValue, OfAddress, OfStep}
use Rattle.assembler_text.specs.Grammar.{AreBlanks, IsOperand, Begins, AreSeparated, AreOperands}
use Rattle.assembler_text.specs.Refusals.{OperandKind, ASource, AnImm, AValue, AnAddress, AStep, ALongStep, Takes, IsSplit, IsFaultIn, none_asked, wrong_word, no_comma, behind_comma, line_end}
use Rattle.assembler_text.specs.model.Words.{front, rest, word, after}
use Rattle.refusals.specs.Answers.{◌>>=◌}
use Rattle.assembler_text.specs.model.Reading.{asked, strip}
use Rattle.assembler_text.specs.model.Operands.{comma, end_at}
use Rattle.assembler_text.specs.model.Lines.{Read, AllRead, operand_of, operands, operand_at, operands_at}
use Rattle.assembler_text.proofs.Pieces.{by_test, parts, front_is, rest_is, rest_in, front_among, rest_stops}
use Rattle.assembler_text.proofs.Results.{ok_is, err_is, not_err, clash, bind_ok, bind_err, only_first}
use Rattle.assembler_text.proofs.FoundWords.{short_is_long, Fits, AllFit, operand_word, Found, found}
use Rattle.assembler_text.proofs.NumberWords.{IsRead, stripped}
use Rattle.assembler_text.proofs.Operands.{operand_is, operand_reads, good_reads, is_good, is_wrong, wrong_reads, least, least_taken}

-- each operand is taken where it is read
abbrev pub AllTaken : (ks : List OperandKind) → AllRead ks → Type 0
AllTaken [] a = Unit {0}
AllTaken (k ∷ ks) a = Takes k (operand_of k a.0) × AllTaken ks a.1

taken_fits : (k : OperandKind) (o : Operand) → Takes k o → Fits o
taken_fits AStep (OfStep n) t = short_is_long n t
taken_fits _ (OfRegister r) t = tt
taken_fits ASource (OfImm n) t = t
taken_fits AnImm (OfImm n) t = t
taken_fits AValue (OfValue n) t = t
taken_fits AnAddress (OfAddress r n) t = t
taken_fits ALongStep (OfStep n) t = t
taken_fits _ _ t = absurd t

pub all_fit : (ks : List OperandKind) (a : AllRead ks) → AllTaken ks a → AllFit (operands ks a)
all_fit [] a t = tt
all_fit (k ∷ ks) a t = (taken_fits k (operand_of k a.0) t.0, all_fit ks a.1 t.1)

abbrev pub leasts : (ks : List OperandKind) → AllRead ks
leasts [] = tt
leasts (k ∷ ks) = (least k, leasts ks)

pub leasts_taken : (ks : List OperandKind) → AllTaken ks (leasts ks)
leasts_taken [] = tt
leasts_taken (k ∷ ks) = (least_taken k, leasts_taken ks)

-- ---- the pieces of the text

-- nothing but blanks
pub only_blanks : (text : List ℕ) → AreBlanks text → rest class.Blank text ≡ []
only_blanks text h = ap (rest class.Blank) (sym (append-nil text)) ∙ rest_is class.Blank text [] h tt

all_blank : (text : List ℕ) → rest class.Blank text ≡ [] → AreBlanks text
all_blank text e =
    subst AreBlanks (sym (parts class.Blank text ∙ ap (λ (x : List ℕ). front class.Blank text ++ x) e
    ∙ append-nil (front class.Blank text))) (front_among class.Blank text)

split_of : (text : List ℕ) → IsSplit text (word text) (after text)
split_of text =
    let t : List ℕ = rest class.Blank text in
    let u : List ℕ = rest class.Operand t in
    let inside : t ≡ word text ++ (front class.Blank u ++ after text) =
    parts class.Operand t ∙ ap (λ (x : List ℕ). word text ++ x) (parts class.Blank u) in
    record {
      before = front class.Blank text;
      behind = front class.Blank u;
      spelled = parts class.Blank text ∙ ap (λ (x : List ℕ). front class.Blank text ++ x) inside
          ∙ sym (append_assoc (front class.Blank text ++ word text) (front class.Blank u) (after text)
          ∙ append_assoc (front class.Blank text) (word text) (front class.Blank u ++ after text));
      before_blank = front_among class.Blank text;
      is_word = front_among class.Operand t;
      behind_blank = front_among class.Blank u;
      word_stops = subst (StopsAt class.Operand) (parts class.Blank u) (rest_stops class.Operand t);
      behind_stops = rest_stops class.Blank u;
      before_stops = subst (StopsAt class.Blank) inside (rest_stops class.Blank text);
    }

begins : (text : List ℕ) (o : Operand) → IsOperand o (word text) → Begins text o (after text)
begins text o h =
    let s : IsSplit text (word text) (after text) = split_of text in
    record {
      before = s.before;
      word = word text;
      behind = s.behind;
      spelled = s.spelled;
      is_operand = h;
      before_blank = s.before_blank;
      behind_blank = s.behind_blank;
    }

split_is : (text w r : List ℕ) → IsSplit text w r → (word text ≡ w) × (after text ≡ r)
split_is text w r s =
    let spelled : text ≡ s.before ++ (w ++ (s.behind ++ r)) =
    s.spelled ∙ append_assoc (s.before ++ w) s.behind r ∙ append_assoc s.before w (s.behind ++ r) in
    let skipped : rest class.Blank text ≡ w ++ (s.behind ++ r) =
    ap (rest class.Blank) spelled
    ∙ rest_is class.Blank s.before (w ++ (s.behind ++ r)) s.before_blank s.before_stops in (
      ap (front class.Operand) skipped ∙ front_is class.Operand w (s.behind ++ r) s.is_word s.word_stops,
      ap (λ (x : List ℕ). rest class.Blank (rest class.Operand x)) skipped
          ∙ ap (rest class.Blank) (rest_is class.Operand w (s.behind ++ r) s.is_word s.word_stops)
          ∙ rest_is class.Blank s.behind r s.behind_blank s.behind_stops,
    )

ended : (text : List ℕ) → end_at text ≡ Ok tt → text ≡ []
ended [] h = refl
ended (c ∷ cs) h = absurd (not_err _ tt h)

end_fault : (t : List ℕ) (f : Fault) → end_at t ≡ Err f → (t ≡ [] → ⊥) × (fault.LineEnd ≡ f)
end_fault [] f e = absurd (clash tt f e)
end_fault (c ∷ cs) f e = ((λ n. cc), err_is fault.LineEnd f e)

not_ended : (t : List ℕ) → (t ≡ [] → ⊥) → end_at t ≡ Err fault.LineEnd
not_ended [] n = absurd (n refl)
not_ended (c ∷ cs) n = refl

after_comma : (text t : List ℕ) → comma text ≡ Ok t → text ≡ 44 ∷ t
after_comma text t h = from_strip (strip 44 text) refl h
  where
    from_strip : (o : Option (List ℕ)) → strip 44 text ≡ o → asked o ≡ Ok t → text ≡ 44 ∷ t
    from_strip None e f = absurd (not_err _ t f)
    from_strip (Some u) e f = stripped 44 text u e ∙ ap (λ (x : List ℕ). 44 ∷ x) (ok_is u t f)

asked_fault : {A : Type 0} (o : Option A) (f : Fault) → asked o ≡ Err f → fault.Operand ≡ f
asked_fault None f e = err_is fault.Operand f e
asked_fault (Some x) f e = absurd (not_err f x (sym e))

comma_fault : (t : List ℕ) (f : Fault) → comma t ≡ Err f → ((u : List ℕ) → t ≡ 44 ∷ u → ⊥) × (fault.Operand ≡ f)
comma_fault t f e = ((λ u n. clash u f (sym (ap comma n) ∙ e)), asked_fault (strip 44 t) f e)

not_comma : (t : List ℕ) → ((u : List ℕ) → t ≡ 44 ∷ u → ⊥) → comma t ≡ Err fault.Operand
not_comma [] n = refl
not_comma (c ∷ cs) n = by_test (c == 44)
    (λ t. let same : c ≡ 44 = grind (arith, nat_tests) in absurd (n cs (ap (λ (x : ℕ). x ∷ cs) same)))
    (λ t. ap (λ b. asked (cond b (Some cs) None)) t)

-- ---- what is read

separated_are : (k : OperandKind) (ks : List OperandKind) (text : List ℕ) (a : AllRead (k ∷ ks))
    → operands_at (k ∷ ks) text ≡ Ok a → AreSeparated text (operands (k ∷ ks) a) × AllTaken (k ∷ ks) a
unfolding operands_at
separated_are k [] text a e =
    let p = bind_ok (operand_at k (word text)) _ a e in
    let q = bind_ok (end_at (after text)) _ a p.2 in
    let i : IsRead k (word text) p.0 = operand_is k (word text) p.0 p.1 in
    let P : AllRead (k ∷ []) → Type 0 = λ x. AreSeparated text (operands (k ∷ []) x) × AllTaken (k ∷ []) x in
    subst P (ok_is _ a q.2) (
      subst (Begins text (operand_of k p.0)) (ended (after text) q.1)
          (begins text (operand_of k p.0) i.spelled),
      (i.taken, tt),
    )
separated_are k (l ∷ ks) text a e =
    let p = bind_ok (operand_at k (word text)) _ a e in
    let t = bind_ok (comma (after text)) _ a p.2 in
    let q = bind_ok (operands_at (l ∷ ks) t.0) _ a t.2 in
    let i : IsRead k (word text) p.0 = operand_is k (word text) p.0 p.1 in
    let more = separated_are l ks t.0 q.0 q.1 in
    let P : AllRead (k ∷ l ∷ ks) → Type 0 =
    λ x. AreSeparated text (operands (k ∷ l ∷ ks) x) × AllTaken (k ∷ l ∷ ks) x in
    subst P (ok_is _ a q.2) (
      (
        t.0,
        subst (Begins text (operand_of k p.0)) (after_comma (after text) t.0 t.1)
            (begins text (operand_of k p.0) i.spelled),
        more.0,
      ),
      (i.taken, more.1),
    )

separated_read : (k : OperandKind) (ks : List OperandKind) (text : List ℕ) (a : AllRead (k ∷ ks))
    → AreSeparated text (operands (k ∷ ks) a) → AllTaken (k ∷ ks) a → operands_at (k ∷ ks) text ≡ Ok a
unfolding operands_at
separated_read k [] text a h t =
    let f : Found text (operand_of k a.0) [] =
    found text (operand_of k a.0) [] h (taken_fits k (operand_of k a.0) t.0) tt in
    ap (λ r. r >>= λ x. end_at (after text) >>= λ n. Ok (x, tt)) (operand_reads k (word text) a.0 f.is_operand t.0)
    ∙ ap (λ u. end_at u >>= λ n. Ok (a.0, tt)) f.next
separated_read k (l ∷ ks) text a h t =
    let f : Found text (operand_of k a.0) (44 ∷ h.0) =
    found text (operand_of k a.0) (44 ∷ h.0) h.1 (taken_fits k (operand_of k a.0) t.0) refl in
    ap (λ r. r >>= λ x. comma (after text) >>= λ u. operands_at (l ∷ ks) u >>= λ xs. Ok (x, xs))
    (operand_reads k (word text) a.0 f.is_operand t.0)
    ∙ ap (λ v. comma v >>= λ u. operands_at (l ∷ ks) u >>= λ xs. Ok (a.0, xs)) f.next
    ∙ ap (λ r. r >>= λ xs. Ok (a.0, xs)) (separated_read l ks h.0 a.1 h.2 t.1)

-- ---- a blank before the first operand

blank_first : (c : ℕ) → is_of_class class.Mnemonic c ≡ false → is_blank c ≡ true
blank_first c h = by_test (is_blank c) (λ t. t) (λ f. let is : true ≡ false = sym (ap not f) ∙ h in absurd cc)

-- it changes nothing
skip_blank : (k : OperandKind) (ks : List OperandKind) (c : ℕ) (cs : List ℕ) → is_blank c ≡ true
    → operands_at (k ∷ ks) (c ∷ cs) ≡ operands_at (k ∷ ks) cs
unfolding operands_at
skip_blank k [] c cs b =
    ap (λ t. operand_at k (front class.Operand t) >>= λ x. end_at (rest class.Blank (rest class.Operand t)) >>= λ n. Ok
    (x, tt)) (rest_in class.Blank c cs b)
skip_blank k (l ∷ ks) c cs b =
    ap (λ t. operand_at k (front class.Operand t) >>= λ x. comma (rest class.Blank (rest class.Operand t))
    >>= λ u. operands_at (l ∷ ks) u >>= λ xs. Ok (x, xs)) (rest_in class.Blank c cs b)

-- no operand is spelled by nothing
not_nothing : (k : OperandKind) (x : Read k) → operand_at k [] ≡ Ok x → ⊥
not_nothing k x e =
    let i : IsRead k [] x =
    operand_is k [] x e in operand_word (operand_of k x) [] i.spelled (taken_fits k (operand_of k x) i.taken)

nothing_read : (k : OperandKind) (ks : List OperandKind) (a : AllRead (k ∷ ks)) → operands_at (k ∷ ks) [] ≡ Ok a → ⊥
unfolding operands_at
nothing_read k [] a e = let p = bind_ok (operand_at k []) _ a e in not_nothing k p.0 p.1
nothing_read k (l ∷ ks) a e = let p = bind_ok (operand_at k []) _ a e in not_nothing k p.0 p.1

pub operands_are : (ks : List OperandKind) (text : List ℕ) (a : AllRead ks) → StopsAt class.Mnemonic text
    → operands_at ks text ≡ Ok a → AreOperands text (operands ks a) × AllTaken ks a
unfolding operands_at
operands_are [] text a s e =
    let p = bind_ok (end_at (rest class.Blank text)) _ a e in
    (all_blank text (ended (rest class.Blank text) p.1), tt)
operands_are (k ∷ ks) [] a s e = absurd (nothing_read k ks a e)
operands_are (k ∷ ks) (c ∷ cs) a s e =
    let b : is_blank c ≡ true = blank_first c s in
    let h = separated_are k ks cs a (sym (skip_blank k ks c cs b) ∙ e) in
    ((c, cs, refl, b, h.0), h.1)

pub operands_read : (ks : List OperandKind) (text : List ℕ) (a : AllRead ks) → AreOperands text (operands ks a)
    → AllTaken ks a → operands_at ks text ≡ Ok a
unfolding operands_at
operands_read [] text a h t = ap (λ u. end_at u >>= λ n. Ok tt) (only_blanks text h)
operands_read (k ∷ ks) text a h t =
    ap (operands_at (k ∷ ks)) h.2 ∙ skip_blank k ks h.0 h.1 h.3 ∙ separated_read k ks h.1 a h.4 t

-- ---- what is refused

abbrev only : (k : OperandKind) → Read k → AllRead (k ∷ [])
only k a = (a, tt)

abbrev with_more : (k : OperandKind) (ks : List OperandKind) → Read k → AllRead ks → AllRead (k ∷ ks)
with_more k ks a xs = (a, xs)

pub operands_fault : (ks : List OperandKind) (text : List ℕ) (f : Fault) → operands_at ks text ≡ Err f
    → IsFaultIn ks text f
unfolding operands_at
operands_fault [] text f e =
    let x = end_fault (rest class.Blank text) f (only_first (end_at (rest class.Blank text)) (λ n. tt) f e) in
    subst (IsFaultIn [] text) x.1 (none_asked (λ b. x.0 (only_blanks text b)))
operands_fault (k ∷ []) text f e = from_word (bind_err (operand_at k (word text)) _ f e)
  where
    from_word : (operand_at k (word text) ≡ Err f) ⊎ ((a : Read k) × (operand_at k (word text) ≡ Ok a)
        × ((end_at (after text) >>= λ n. Ok (only k a)) ≡ Err f)) → IsFaultIn (k ∷ []) text f
    from_word (inl h) = wrong_word (split_of text) (is_wrong k (word text) f h)
    from_word (inr h) =
        let x = end_fault (after text) f (only_first (end_at (after text)) (λ n. only k h.0) f h.2) in
        subst (IsFaultIn (k ∷ []) text) x.1 (line_end (split_of text) (is_good k (word text) h.0 h.1) x.0)
operands_fault (k ∷ l ∷ ks) text f e =
    from_word (bind_err (operand_at k (word text)) _ f e) (λ t g. operands_fault (l ∷ ks) t f g)
  where
    from_comma : (a : Read k) → operand_at k (word text) ≡ Ok a
        → (comma (after text) ≡ Err f) ⊎ ((t : List ℕ) × (comma (after text) ≡ Ok t)
        × ((operands_at (l ∷ ks) t >>= λ xs. Ok (with_more k (l ∷ ks) a xs)) ≡ Err f))
        → ((t : List ℕ) → operands_at (l ∷ ks) t ≡ Err f → IsFaultIn (l ∷ ks) t f) → IsFaultIn (k ∷ l ∷ ks) text f
    from_comma a h (inl g) others =
        let x = comma_fault (after text) f g in
        subst (IsFaultIn (k ∷ l ∷ ks) text) x.1 (no_comma (split_of text) (is_good k (word text) a h) x.0)
    from_comma a h (inr g) others =
        behind_comma (subst (IsSplit text (word text)) (after_comma (after text) g.0 g.1) (split_of text))
        (is_good k (word text) a h) (others g.0 (only_first (operands_at (l ∷ ks) g.0) (with_more k (l ∷ ks) a) f
        g.2))

    from_word : (operand_at k (word text) ≡ Err f) ⊎ ((a : Read k) × (operand_at k (word text) ≡ Ok a)
        × ((comma (after text) >>= λ t. operands_at (l ∷ ks) t >>= λ xs. Ok (with_more k (l ∷ ks) a xs)) ≡ Err f))
        → ((t : List ℕ) → operands_at (l ∷ ks) t ≡ Err f → IsFaultIn (l ∷ ks) t f) → IsFaultIn (k ∷ l ∷ ks) text f
    from_word (inl h) others = wrong_word (split_of text) (is_wrong k (word text) f h)
    from_word (inr h) others = from_comma h.0 h.1 (bind_err (comma (after text)) _ f h.2) others

pub operands_told : (ks : List OperandKind) (text : List ℕ) (f : Fault) → IsFaultIn ks text f
    → operands_at ks text ≡ Err f
unfolding operands_at
operands_told [] text f (none_asked n) =
    ap (λ r. r >>= λ n. Ok tt) (not_ended (rest class.Blank text) (λ e. n (all_blank text e)))
operands_told (k ∷ []) text f (wrong_word s x) =
    ap (λ r. r >>= λ a. end_at (after text) >>= λ n. Ok (a, tt)) (ap (operand_at k) (split_is text _ _ s).0
    ∙ wrong_reads k _ f x)
operands_told (k ∷ []) text f (line_end s g n) =
    let r = good_reads k _ g in
    ap (λ r. r >>= λ a. end_at (after text) >>= λ n. Ok (a, tt)) (ap (operand_at k) (split_is text _ _ s).0 ∙ r.1)
    ∙ ap (λ e. e >>= λ n. Ok (r.0, tt)) (ap end_at (split_is text _ _ s).1 ∙ not_ended _ n)
operands_told (k ∷ l ∷ ks) text f (wrong_word s x) =
    ap (λ r. r >>= λ a. comma (after text) >>= λ t. operands_at (l ∷ ks) t >>= λ xs. Ok (a, xs))
    (ap (operand_at k) (split_is text _ _ s).0 ∙ wrong_reads k _ f x)
operands_told (k ∷ l ∷ ks) text f (no_comma s g n) =
    let r = good_reads k _ g in
    ap (λ r. r >>= λ a. comma (after text) >>= λ t. operands_at (l ∷ ks) t >>= λ xs. Ok (a, xs))
    (ap (operand_at k) (split_is text _ _ s).0 ∙ r.1)
    ∙ ap (λ c. c >>= λ t. operands_at (l ∷ ks) t >>= λ xs. Ok (r.0, xs)) (ap comma (split_is text _ _ s).1
    ∙ not_comma _ n)
operands_told (k ∷ l ∷ ks) text f (behind_comma s g x) =
    let r = good_reads k _ g in
    ap (λ r. r >>= λ a. comma (after text) >>= λ t. operands_at (l ∷ ks) t >>= λ xs. Ok (a, xs))
    (ap (operand_at k) (split_is text _ _ s).0 ∙ r.1)
    ∙ ap (λ t. comma t >>= λ u. operands_at (l ∷ ks) u >>= λ xs. Ok (r.0, xs)) (split_is text _ _ s).1
    ∙ ap (λ o. o >>= λ xs. Ok (r.0, xs)) (operands_told (l ∷ ks) _ f x)
