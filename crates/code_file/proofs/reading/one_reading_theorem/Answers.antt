use Rattle.std.proofs.Common.{◌≡◌, ◌∙◌, List, ℕ, Result, Ok, Err, sym, true≢false}
use Rattle.hex.specs.declared.error.FromHexError.{FromHexError}
use Rattle.code_file.specs.CodeFiles.{IsCodeFile, IsNoCodeFile, object, hex, raw, no_object, no_hex}
use Rattle.code_file.specs.declared.fault.CodeFileFault.{CodeFileFault}
use Rattle.code_file.proofs.Sections.{one_code}
use Rattle.code_file.proofs.reading.one_reading_theorem.Goals as goal

same_ok : (r : Result (List ℕ) FromHexError) (a b : List ℕ) → r ≡ Ok a → r ≡ Ok b → a ≡ b
same_ok r a b h k = cc

ok_or_not : (r : Result (List ℕ) FromHexError) (a : List ℕ) (e : FromHexError) → r ≡ Ok a → r ≡ Err e → ⊥
ok_or_not r a e h k = absurd (cc)

one : (file code other : List ℕ) → IsCodeFile file code → IsCodeFile file other → code ≡ other
one file code other (object e h) (object f k) = one_code file code other h k
one file code other (object e h) (hex f g k) = absurd (true≢false (sym e ∙ f))
one file code other (object e h) (raw f g k) = absurd (true≢false (sym e ∙ f))
one file code other (hex e i h) (object f k) = absurd (true≢false (sym f ∙ e))
one file code other (hex e i h) (hex f g k) = same_ok _ code other h k
one file code other (hex e i h) (raw f g k) = absurd (true≢false (sym i ∙ g))
one file code other (raw e i h) (object f k) = absurd (true≢false (sym f ∙ e))
one file code other (raw e i h) (hex f g k) = absurd (true≢false (sym g ∙ i))
one file code other (raw e i h) (raw f g k) = h ∙ sym k

none : (file code : List ℕ) (fault : CodeFileFault) → IsCodeFile file code → IsNoCodeFile file fault → ⊥
none file code fault (object e h) (no_object f k) = k.none code h
none file code fault (object e h) (no_hex f g k) = true≢false (sym e ∙ f)
none file code fault (hex e i h) (no_object f k) = true≢false (sym f ∙ e)
none file code fault (hex e i h) (no_hex f g k) = ok_or_not _ code k.error h k.digits
none file code fault (raw e i h) (no_object f k) = true≢false (sym f ∙ e)
none file code fault (raw e i h) (no_hex f g k) = true≢false (sym g ∙ i)

pub returns-clause-one : goal.returns-clause-one
returns-clause-one c = one

pub returns-clause-none : goal.returns-clause-none
returns-clause-none c = none
