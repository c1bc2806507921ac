-- The reader of words finds the operands of a line by the grammar.
use Rattle.std.proofs.Common.{◌≡◌, refl, ap, ◌∙◌, sym, subst, ℕ, suc, ◌<◌, List, [], ◌∷◌, ◌++◌, ℤ, pos, negsuc, inl, inr, append_assoc, arith}
use Rattle.std.specs.Prelude.{◌==◌, ◌&&◌, not, FitsSigned}
use Rattle.std.specs.Fmt.{decimal, signed_decimal}
use Rattle.std.specs.Int.{w16, w32}
use Rattle.std.proofs.lemmas.Int.{ints}
use Rattle.instruction_set.specs.declared.insn.Register.{Register}
use Rattle.assembler_text.specs.declared.lexer.Class.TheVariants as class
use Rattle.assembler_text.specs.Words.{is_of_class, AreIn, StopsAt}
use Rattle.assembler_text.specs.model.Words.{front, rest, word, after}
use Rattle.assembler_text.specs.Text.{Operand, OfRegister, OfImm, OfValue, OfAddress, OfStep, register_text, step_text}
use Rattle.assembler_text.specs.Grammar.{AreBlanks, IsOperand, IsHex, Begins, AreSeparated, AreOperands}
use Rattle.assembler_text.proofs.Pieces.{front_is, rest_is}
use Rattle.assembler_text.proofs.Plain.{ArePlain, IsWord, word_plain, plain_with, in_operand, in_instruction, no_blank, among, joined, blanks_among, plain_digits, decimal_digits, decimal_word}

-- the numbers of an operand have the widths of their fields
abbrev pub Fits : Operand → Type 0
Fits (OfRegister r) = Unit {0}
Fits (OfImm n) = FitsSigned w32 n
Fits (OfValue n) = n < 18446744073709551616
Fits (OfAddress r n) = FitsSigned w16 n
Fits (OfStep n) = FitsSigned w32 n

abbrev pub AllFit : List Operand → Type 0
AllFit [] = Unit {0}
AllFit (o ∷ os) = Fits o × AllFit os

-- ---- operands are words

register_plain : (r : Register) → ArePlain (register_text r)
register_plain r = (refl, plain_digits (decimal r.number) (decimal_digits r.number (omega (arith, r.in_range))))

magnitude : (n : ℕ) → FitsSigned w32 (pos n) → n < 18446744073709551616
magnitude n f = omega (arith, ints, f)

magnitude_below : (n : ℕ) → FitsSigned w32 (negsuc n) → suc n < 18446744073709551616
magnitude_below n f = omega (arith, ints, f)

signed_word : (z : ℤ) → FitsSigned w32 z → IsWord (signed_decimal z)
signed_word (pos n) f = decimal_word n (magnitude n f)
signed_word (negsuc n) f = (refl, plain_digits (decimal (suc n)) (decimal_digits (suc n) (magnitude_below n f)))

step_word : (z : ℤ) → FitsSigned w32 z → IsWord (step_text z)
step_word (pos n) f = (refl, plain_digits (decimal n) (decimal_digits n (magnitude n f)))
step_word (negsuc n) f = (refl, plain_digits (decimal (suc n)) (decimal_digits (suc n) (magnitude_below n f)))

pub short_is_long : (z : ℤ) → FitsSigned w16 z → FitsSigned w32 z
short_is_long z f = omega (arith, ints, f)

address_word : (r : Register) (z : ℤ) → FitsSigned w16 z → IsWord (91 ∷ register_text r ++ step_text z ++ 93 ∷ [])
address_word r z f = (
  refl,
  plain_with (register_text r ++ step_text z) (93 ∷ []) (plain_with (register_text r) (step_text z) (register_plain r)
      (word_plain (step_text z) (step_word z (short_is_long z f)))) (refl, tt),
)

hex_word : (w : List ℕ) (n : ℕ) → IsHex w n → IsWord w
hex_word w n h = subst IsWord (sym h.spelled) (refl, (refl, plain_digits h.digits h.numeral.1))

pub operand_word : (o : Operand) (w : List ℕ) → IsOperand o w → Fits o → IsWord w
operand_word (OfRegister r) w h f = subst IsWord (sym h) (register_plain r)
operand_word (OfImm z) w (inl e) f = subst IsWord (sym e) (signed_word z f)
operand_word (OfImm z) w (inr h) f = hex_word w _ h
operand_word (OfValue n) w (inl e) f = subst IsWord (sym e) (decimal_word n f)
operand_word (OfValue n) w (inr h) f = hex_word w n h
operand_word (OfAddress r z) w h f = subst IsWord (sym h) (address_word r z f)
operand_word (OfStep z) w h f = subst IsWord (sym h) (step_word z f)

-- ---- the word at the front of a text

-- a text is at its end, or goes on with a comma
abbrev AtComma : List ℕ → Type 0
AtComma [] = Unit {0}
AtComma (c ∷ cs) = c ≡ 44

word_stops : (w t : List ℕ) → IsWord w → StopsAt class.Blank (w ++ t)
word_stops [] t h = absurd h
word_stops (c ∷ cs) t h = no_blank c h.0

comma_stops : (t : List ℕ) → AtComma t → StopsAt class.Blank t
comma_stops [] h = tt
comma_stops (c ∷ cs) h = ap (is_of_class class.Blank) h

behind_stops : (b t : List ℕ) → AreBlanks b → AtComma t → StopsAt class.Operand (b ++ t)
behind_stops [] [] h k = tt
behind_stops [] (c ∷ cs) h k = ap (is_of_class class.Operand) k
behind_stops (c ∷ cs) t h k = ap (λ b. not b && not (c == 44)) h.0

-- the operand is the first word of the text, and this stands after it
pub record Found (text : List ℕ) (o : Operand) (t : List ℕ) : Type 0 where
  pub is_operand : IsOperand o (word text)
  pub next : after text ≡ t

pub found : (text : List ℕ) (o : Operand) (t : List ℕ) → Begins text o t → Fits o → AtComma t → Found text o t
found text o t b f k =
    let w : IsWord b.word = operand_word o b.word b.is_operand f in
    let plain : AreIn class.Operand b.word = among class.Operand in_operand b.word (word_plain b.word w) in
    let spelled : text ≡ b.before ++ (b.word ++ (b.behind ++ t)) =
    b.spelled ∙ append_assoc (b.before ++ b.word) b.behind t ∙ append_assoc b.before b.word (b.behind ++ t) in
    let skipped : rest class.Blank text ≡ b.word ++ (b.behind ++ t) =
    ap (rest class.Blank) spelled
    ∙ rest_is class.Blank b.before (b.word ++ (b.behind ++ t)) b.before_blank (word_stops b.word (b.behind ++ t) w) in
    let stops : StopsAt class.Operand (b.behind ++ t) = behind_stops b.behind t b.behind_blank k in
    let is : word text ≡ b.word =
    ap (front class.Operand) skipped ∙ front_is class.Operand b.word (b.behind ++ t) plain stops in
    record {
      is_operand = subst (IsOperand o) (sym is) b.is_operand;
      next = ap (λ (x : List ℕ). rest class.Blank (rest class.Operand x)) skipped
          ∙ ap (rest class.Blank) (rest_is class.Operand b.word (b.behind ++ t) plain stops)
          ∙ rest_is class.Blank b.behind t b.behind_blank (comma_stops t k);
    }

-- ---- no comment begins in operands

begins_in : (text : List ℕ) (o : Operand) (t : List ℕ) → Begins text o t → Fits o → AreIn class.Instruction t
    → AreIn class.Instruction text
begins_in text o t b f h =
    let w : AreIn class.Instruction b.word =
    among class.Instruction in_instruction b.word (word_plain b.word (operand_word o b.word b.is_operand f)) in
    let inside : AreIn class.Instruction (((b.before ++ b.word) ++ b.behind) ++ t) =
    joined class.Instruction ((b.before ++ b.word) ++ b.behind) t
    (joined class.Instruction (b.before ++ b.word) b.behind
    (joined class.Instruction b.before b.word (blanks_among b.before b.before_blank) w)
    (blanks_among b.behind b.behind_blank)) h in
    subst (AreIn class.Instruction) (sym b.spelled) inside

separated_in : (text : List ℕ) (os : List Operand) → AreSeparated text os → AllFit os → AreIn class.Instruction text
separated_in text [] h f = subst (AreIn class.Instruction) (sym h) tt
separated_in text (o ∷ []) h f = begins_in text o [] h f.0 tt
separated_in text (o ∷ p ∷ os) h f = begins_in text o (44 ∷ h.0) h.1 f.0 (refl, separated_in h.0 (p ∷ os) h.2 f.1)

pub operands_in : (text : List ℕ) (os : List Operand) → AreOperands text os → AllFit os → AreIn class.Instruction text
operands_in text [] h f = blanks_among text h
operands_in text (o ∷ os) h f =
    subst (AreIn class.Instruction) (sym h.2) ((blanks_among (h.0 ∷ []) (h.3, tt)).0, separated_in h.1 (o ∷ os) h.4 f)

-- what stands after a mnemonic begins with a blank
pub operands_stop : (text : List ℕ) (os : List Operand) → AreOperands text os → StopsAt class.Mnemonic text
operands_stop [] [] h = tt
operands_stop (c ∷ cs) [] h = ap not h.0
operands_stop text (o ∷ os) h = subst (StopsAt class.Mnemonic) (sym h.2) (ap not h.3)
