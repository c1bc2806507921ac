-- A line is read as the grammar has it, and refused for its leftmost fault.
use Rattle.std.proofs.Common.{◌≡◌, refl, ap, ◌∙◌, sym, subst, ℕ, true, false, List, [], ◌∷◌, ◌++◌, Option, Some, None, Result, Ok, Err, append_assoc, arith}
use Rattle.std.specs.Prelude.{◌==◌, not, IfOk, IfSome}
use Rattle.std.proofs.lemmas.Bool.Decides.{nat_tests}
use Rattle.instruction_set.specs.Slots.{IsListed, IsSelected}
use Rattle.instruction_set.specs.declared.insn.Insn.{Insn}
use Rattle.assembler_text.specs.declared.faults.Fault.{Fault}
use Rattle.assembler_text.specs.declared.faults.Fault.TheVariants as fault
use Rattle.assembler_text.specs.declared.lexer.Class.TheVariants as class
use Rattle.assembler_text.specs.declared.mnemonic.Mnemonic.{Mnemonic}
use Rattle.assembler_text.specs.Words.{is_blank, is_of_class, AreIn, StopsAt}
use Rattle.assembler_text.specs.Text.{mnemonic_of, operands_of}
use Rattle.assembler_text.specs.Grammar.{IsComment, AreOperands, IsEmptyLine, IsInsnLine, IsLine}
use Rattle.assembler_text.specs.Refusals.{kinds_of, IsFaultIn, IsFaultOf, no_mnemonic, in_operands, IsLineFault}
use Rattle.assembler_text.specs.model.Words.{front, rest}
use Rattle.assembler_text.specs.model.Mnemonics.{mnemonic_at, IsKnown}
use Rattle.refusals.specs.Answers.{◌>>=◌}
use Rattle.assembler_text.specs.model.Lines.{operands, operands_at, kinds, made, insn_at, insn_from, body, body_at, line_at}
use Rattle.assembler_text.proofs.Pieces.{by_test, parts, front_is, rest_is, front_in, front_among, rest_stops}
use Rattle.assembler_text.proofs.Results.{done, ok_is, err_is, not_err, clash, bind_ok, only_first}
use Rattle.assembler_text.proofs.Plain.{IsWord, word_plain, in_mnemonic, in_instruction, opposite, among, joined, blanks_among}
use Rattle.assembler_text.proofs.Tables.{known_mnemonic, name_of, mnemonic_is}
use Rattle.assembler_text.proofs.Names.{found_by_name, name_word}
use Rattle.assembler_text.proofs.FoundWords.{AllFit, operands_in, operands_stop}
use Rattle.assembler_text.proofs.OperandLists.{all_fit, leasts, leasts_taken, only_blanks, operands_are, operands_read, operands_fault, operands_told}
use Rattle.assembler_text.proofs.Instructions.{made_name, made_operands, made_kinds, made_listed, IsMade, parts_of}

-- ---- instructions

-- the name that an instruction's mnemonic has
named : (i : Insn) (p : IsMade i) → name_of p.name ≡ mnemonic_of i
named i p = sym (made_name p.name p.parts) ∙ ap mnemonic_of p.is

found : (i : Insn) (p : IsMade i) → mnemonic_at (mnemonic_of i) ≡ Some p.name
found i p = ap mnemonic_at (sym (named i p)) ∙ found_by_name p.name p.known

pub name_is_word : (i : Insn) → IsListed i → IsWord (mnemonic_of i)
name_is_word i l = let p : IsMade i = parts_of i l in subst IsWord (named i p) (name_word p.name p.known)

-- the operands that it is made of are its own
own_operands : (i : Insn) (p : IsMade i) → operands (kinds p.name) p.parts ≡ operands_of i
own_operands i p = sym (made_operands p.name p.parts) ∙ ap operands_of p.is

pub operands_fit : (i : Insn) → IsListed i → AllFit (operands_of i)
operands_fit i l =
    let p : IsMade i =
    parts_of i l in subst AllFit (own_operands i p) (all_fit (kinds p.name) p.parts p.taken)

record Parsed (m : Mnemonic) (text : List ℕ) (i : Insn) : Type 0 where
  name : name_of m ≡ mnemonic_of i
  operands : AreOperands text (operands_of i)
  listed : IsListed i

insn_is : (m : Mnemonic) (text : List ℕ) (i : Insn) → IsKnown m → StopsAt class.Mnemonic text → insn_at m text ≡ Ok i
    → Parsed m text i
unfolding insn_at
insn_is m text i k s h =
    let p = bind_ok (operands_at (kinds m) text) _ i h in
    let q = operands_are (kinds m) text p.0 s p.1 in
    subst (Parsed m text) (ok_is _ i p.2) (record {
      name = sym (made_name m p.0);
      operands = subst (AreOperands text) (sym (made_operands m p.0)) q.0;
      listed = made_listed m p.0 k q.1;
    })

insn_reads : (i : Insn) (p : IsMade i) (text : List ℕ) → AreOperands text (operands_of i) → insn_at p.name text ≡ Ok i
unfolding insn_at
insn_reads i p text h =
    ap (λ r. r >>= λ a. Ok (made p.name a)) (operands_read (kinds p.name) text p.parts
    (subst (AreOperands text) (sym (own_operands i p)) h) p.taken) ∙ ap done p.is

insn_fault : (m : Mnemonic) (text : List ℕ) (f : Fault) → insn_at m text ≡ Err f → IsFaultIn (kinds m) text f
unfolding insn_at
insn_fault m text f e = operands_fault (kinds m) text f (only_first (operands_at (kinds m) text) (made m) f e)

insn_told : (i : Insn) (p : IsMade i) (text : List ℕ) (f : Fault) → IsFaultIn (kinds_of i) text f
    → insn_at p.name text ≡ Err f
unfolding insn_at
insn_told i p text f x =
    let own : kinds_of i ≡ kinds p.name = ap kinds_of (sym p.is) ∙ made_kinds p.name p.parts in
    ap (λ r. r >>= λ a. Ok (made p.name a)) (operands_told (kinds p.name) text f
    (subst (λ ks. IsFaultIn ks text f) own x))

-- an instruction of this mnemonic
sample : Mnemonic → Insn
sample m = made m (leasts (kinds m))

sample_listed : (m : Mnemonic) → IsKnown m → IsListed (sample m)
unfolding sample
sample_listed m k = made_listed m (leasts (kinds m)) k (leasts_taken (kinds m))

sample_named : (m : Mnemonic) → mnemonic_of (sample m) ≡ name_of m
unfolding sample
sample_named m = made_name m (leasts (kinds m))

sample_fault : (m : Mnemonic) (text : List ℕ) (f : Fault) → insn_at m text ≡ Err f
    → IsFaultIn (kinds_of (sample m)) text f
unfolding sample
sample_fault m text f e =
    subst (λ ks. IsFaultIn ks text f) (sym (made_kinds m (leasts (kinds m)))) (insn_fault m text f e)

-- ---- a line that is read gives what the grammar gives it

comment_is : (cs : List ℕ) → StopsAt class.Instruction cs → IsComment cs
comment_is [] h = tt
comment_is (c ∷ cs) h =
    by_test (c == 59) (λ t. grind (arith, nat_tests)) (λ f. let is : true ≡ false = sym (ap not f) ∙ h in absurd cc)

pub line_is : (line : List ℕ) (o : Option Insn) → line_at line ≡ Ok o → IsLine line o
unfolding line_at
line_is line o h = from_body (body line) refl h
  where
    whole : line ≡ front class.Blank (front class.Instruction line) ++ (body line ++ rest class.Instruction line)
    whole =
        parts class.Instruction line
        ∙ ap (λ (x : List ℕ). x ++ rest class.Instruction line) (parts class.Blank (front class.Instruction line))
        ∙ append_assoc (front class.Blank (front class.Instruction line)) (body line) (rest class.Instruction line)

    from_insn : (b : List ℕ) → body line ≡ b → (m : Option Mnemonic) → mnemonic_at (front class.Mnemonic b) ≡ m
        → IfSome m IsKnown → insn_from m (rest class.Mnemonic b) ≡ Ok o → IsLine line o
    from_insn b e None f k g = absurd (not_err _ o g)
    from_insn b e (Some m) f k g =
        let p = bind_ok (insn_at m (rest class.Mnemonic b)) (λ i. Ok (Some i)) o g in
        let q : Parsed m (rest class.Mnemonic b) p.0 =
        insn_is m (rest class.Mnemonic b) p.0 k (rest_stops class.Mnemonic b) p.1 in
        let name : front class.Mnemonic b ≡ mnemonic_of p.0 = mnemonic_is (front class.Mnemonic b) m f ∙ q.name in
        let text : body line ≡ mnemonic_of p.0 ++ rest class.Mnemonic b =
        e ∙ parts class.Mnemonic b ∙ ap (λ (x : List ℕ). x ++ rest class.Mnemonic b) name in
        let start : List ℕ = front class.Blank (front class.Instruction line) in
        let last : List ℕ = rest class.Instruction line in
        subst (IsLine line) (ok_is _ o p.2) (record {
          blanks = start;
          operands = rest class.Mnemonic b;
          comment = last;
          spelled = whole ∙ ap (λ (x : List ℕ). start ++ (x ++ last)) text
              ∙ sym (ap (λ (x : List ℕ). x ++ last) (append_assoc start (mnemonic_of p.0) (rest class.Mnemonic b))
              ∙ append_assoc start (mnemonic_of p.0 ++ rest class.Mnemonic b) last);
          are_blanks = front_among class.Blank (front class.Instruction line);
          are_operands = q.operands;
          is_comment = comment_is last (rest_stops class.Instruction line);
          listed = q.listed;
        })

    from_body : (b : List ℕ) → body line ≡ b → body_at b ≡ Ok o → IsLine line o
    from_body [] e f =
        subst (IsLine line) (ok_is _ o f) (record {
          blanks = front class.Blank (front class.Instruction line);
          comment = rest class.Instruction line;
          spelled = whole
              ∙ ap (λ (x : List ℕ). front class.Blank (front class.Instruction line)
              ++ (x ++ rest class.Instruction line)) e;
          are_blanks = front_among class.Blank (front class.Instruction line);
          is_comment = comment_is (rest class.Instruction line) (rest_stops class.Instruction line);
        })
    from_body (c ∷ cs) e f =
        from_insn (c ∷ cs) e (mnemonic_at (front class.Mnemonic (c ∷ cs))) refl
        (known_mnemonic (front class.Mnemonic (c ∷ cs))) f

-- ---- each line of the grammar is read

comment_stops : (cs : List ℕ) → IsComment cs → StopsAt class.Instruction cs
comment_stops [] h = tt
comment_stops (c ∷ cs) h = ap (is_of_class class.Instruction) h

name_first : (name t : List ℕ) → (name ≡ [] → ⊥) → AreIn class.Mnemonic name → StopsAt class.Blank (name ++ t)
name_first [] t n h = absurd (n refl)
name_first (c ∷ cs) t n h = opposite (is_blank c) h.0

-- a body that begins with a word has its mnemonic looked up
body_reads : (name t : List ℕ) → (name ≡ [] → ⊥) → AreIn class.Mnemonic name → StopsAt class.Mnemonic t
    → body_at (name ++ t) ≡ insn_from (mnemonic_at name) t
body_reads [] t n h s = absurd (n refl)
body_reads (c ∷ cs) t n h s =
    (λ i. insn_from (mnemonic_at (front_is class.Mnemonic (c ∷ cs) t h s i)) (rest_is class.Mnemonic (c ∷ cs) t h s i))

-- so has a line: blanks, a word, what stands after it, and a comment
name_reads : (line start name t comment : List ℕ) → line ≡ (start ++ (name ++ t)) ++ comment
    → AreIn class.Blank start → AreIn class.Instruction (start ++ (name ++ t)) → IsComment comment
    → (name ≡ [] → ⊥) → AreIn class.Mnemonic name → StopsAt class.Mnemonic t
    → line_at line ≡ insn_from (mnemonic_at name) t
unfolding line_at
name_reads line start name t comment spelled are_blanks inside is_comment some is_name stops =
    let before : front class.Instruction line ≡ start ++ (name ++ t) =
    ap (front class.Instruction) spelled
    ∙ front_is class.Instruction (start ++ (name ++ t)) comment inside (comment_stops comment is_comment) in
    let first : body line ≡ name ++ t =
    ap (rest class.Blank) before
    ∙ rest_is class.Blank start (name ++ t) are_blanks (name_first name t some is_name) in
    ap body_at first ∙ body_reads name t some is_name stops

word_some : (w : List ℕ) → IsWord w → w ≡ [] → ⊥
word_some w h e = subst IsWord e h

empty_reads : (line : List ℕ) → IsEmptyLine line → line_at line ≡ Ok None
unfolding line_at
empty_reads line h =
    let before : front class.Instruction line ≡ h.blanks =
    ap (front class.Instruction) h.spelled
    ∙ front_is class.Instruction h.blanks h.comment (blanks_among h.blanks h.are_blanks)
    (comment_stops h.comment h.is_comment) in
    ap body_at (ap (rest class.Blank) before ∙ only_blanks h.blanks h.are_blanks)

insn_line_reads : (line : List ℕ) (i : Insn) → IsInsnLine line i → line_at line ≡ Ok (Some i)
insn_line_reads line i h =
    let p : IsMade i = parts_of i h.listed in
    let name : List ℕ = mnemonic_of i in
    let w : IsWord name = name_is_word i h.listed in
    let plain = word_plain name w in
    let inside : AreIn class.Instruction (h.blanks ++ (name ++ h.operands)) =
    joined class.Instruction h.blanks (name ++ h.operands) (blanks_among h.blanks h.are_blanks)
    (joined class.Instruction name h.operands (among class.Instruction in_instruction name plain)
    (operands_in h.operands (operands_of i) h.are_operands (operands_fit i h.listed))) in
    name_reads line h.blanks name h.operands h.comment (h.spelled
    ∙ ap (λ (t : List ℕ). t ++ h.comment) (append_assoc h.blanks name h.operands)) h.are_blanks inside h.is_comment
    (word_some name w) (among class.Mnemonic in_mnemonic name plain)
    (operands_stop h.operands (operands_of i) h.are_operands)
    ∙ ap (λ m. insn_from m h.operands) (found i p)
    ∙ ap (λ (r : Result Insn Fault). r >>= λ x. Ok (Some x)) (insn_reads i p h.operands h.are_operands)

pub line_reads : (line : List ℕ) (o : Option Insn) → IsLine line o → line_at line ≡ Ok o
line_reads line None h = empty_reads line h
line_reads line (Some i) h = insn_line_reads line i h

-- ---- what reading a line refuses is its leftmost fault

unnamed : (name : List ℕ) → mnemonic_at name ≡ None → (i : Insn) → IsListed i → mnemonic_of i ≡ name → ⊥
unnamed name n i l e =
    let p : IsMade i = parts_of i l in
    let both : None ≡ Some p.name = sym n ∙ ap mnemonic_at (sym e) ∙ found i p in
    absurd cc

starts : (b : List ℕ) → StopsAt class.Blank b → (b ≡ [] → ⊥) → front class.Mnemonic b ≡ [] → ⊥
starts [] s some e = some refl
starts (c ∷ cs) s some e =
    let is : c ∷ front class.Mnemonic cs ≡ [] = sym (front_in class.Mnemonic c cs (ap not s)) ∙ e in
    absurd cc

not_empty : (c : ℕ) (cs : List ℕ) → c ∷ cs ≡ [] → ⊥
not_empty c cs e = cc

pub line_fault : (line : List ℕ) (f : Fault) → line_at line ≡ Err f → IsLineFault line f
unfolding line_at
line_fault line f e = from_body (body line) refl e
  where
    before : List ℕ
    before = front class.Instruction line

    fault_of : (b : List ℕ) → (m : Option Mnemonic) → mnemonic_at (front class.Mnemonic b) ≡ m → IfSome m IsKnown
        → insn_from m (rest class.Mnemonic b) ≡ Err f → IsFaultOf (front class.Mnemonic b) (rest class.Mnemonic b) f
    fault_of b None n k g =
        subst (IsFaultOf (front class.Mnemonic b) (rest class.Mnemonic b)) (err_is fault.Mnemonic f g)
        (no_mnemonic (unnamed (front class.Mnemonic b) n))
    fault_of b (Some m) n k g =
        in_operands (sample m) (sample_listed m k) (sample_named m
        ∙ sym (mnemonic_is (front class.Mnemonic b) m n))
        (sample_fault m (rest class.Mnemonic b) f (only_first (insn_at m (rest class.Mnemonic b)) Some f g))

    from_body : (b : List ℕ) → body line ≡ b → body_at b ≡ Err f → IsLineFault line f
    from_body [] h g = absurd (clash None f g)
    from_body (c ∷ cs) h g =
        let b : List ℕ = c ∷ cs in
        let inside : before ≡ front class.Blank before ++ (front class.Mnemonic b ++ rest class.Mnemonic b) =
        parts class.Blank before ∙ ap (λ (x : List ℕ). front class.Blank before ++ x) (h ∙ parts class.Mnemonic b) in
        record {
          blanks = front class.Blank before;
          name = front class.Mnemonic b;
          text = rest class.Mnemonic b;
          comment = rest class.Instruction line;
          spelled = parts class.Instruction line ∙ ap (λ (x : List ℕ). x ++ rest class.Instruction line) inside;
          before_comment = subst (AreIn class.Instruction) inside (front_among class.Instruction line);
          is_comment = comment_is (rest class.Instruction line) (rest_stops class.Instruction line);
          are_blanks = front_among class.Blank before;
          some_name = starts b (subst (StopsAt class.Blank) h (rest_stops class.Blank before)) (not_empty c cs);
          is_name = front_among class.Mnemonic b;
          name_stops = rest_stops class.Mnemonic b;
          is_fault = fault_of b (mnemonic_at (front class.Mnemonic b)) refl (known_mnemonic (front class.Mnemonic b)) g;
        }

-- ---- a line is refused for its leftmost fault

not_known : (name : List ℕ) → ((i : Insn) → IsListed i → mnemonic_of i ≡ name → ⊥) → mnemonic_at name ≡ None
not_known name u = from_table (mnemonic_at name) refl (known_mnemonic name)
  where
    from_table : (m : Option Mnemonic) → mnemonic_at name ≡ m → IfSome m IsKnown → m ≡ None
    from_table None e k = refl
    from_table (Some m) e k = absurd (u (sample m) (sample_listed m k) (sample_named m ∙ sym (mnemonic_is name m e)))

fault_told : (name t : List ℕ) (f : Fault) → IsFaultOf name t f → insn_from (mnemonic_at name) t ≡ Err f
fault_told name t f (no_mnemonic u) = ap (λ m. insn_from m t) (not_known name u)
fault_told name t f (in_operands i l e x) =
    let p : IsMade i = parts_of i l in
    ap (λ m. insn_from m t) (ap mnemonic_at (sym e) ∙ found i p)
    ∙ ap (λ (r : Result Insn Fault). r >>= λ j. Ok (Some j)) (insn_told i p t f x)

pub line_told : (line : List ℕ) (f : Fault) → IsLineFault line f → line_at line ≡ Err f
line_told line f h =
    name_reads line h.blanks h.name h.text h.comment h.spelled h.are_blanks h.before_comment h.is_comment h.some_name
    h.is_name h.name_stops ∙ fault_told h.name h.text f h.is_fault

-- ---- an instruction that is read is one of the standard's

pub line_selected : (line : List ℕ) (r : Result (Option Insn) Fault) → r ≡ line_at line
    → IfOk r (λ insn. IfSome insn IsSelected)
line_selected line (Ok (Some i)) h = let is : IsLine line (Some i) = line_is line (Some i) (sym h) in is.listed.selected
line_selected line (Ok None) h = tt
line_selected line (Err f) h = tt
