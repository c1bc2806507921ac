use Rattle.std.proofs.Common.{◌++◌, take, drop, ap, ◌∙◌, refl}
use Rattle.std.specs.Int.{w64, to_le_bytes}
use Rattle.clash_record.specs.Record.{name_field, registration_bytes, facts_bytes, with_word}
use Rattle.clash_record.proofs.Parts.{word_put, another_word, length-name_field}
use Rattle.clash_record.proofs.records.set_word.Goals as goal

pub returns-clause-bytes : goal.returns-clause-bytes
returns-clause-bytes c =
    word_put c.args.out.now c.write_word.new.out
    ∙ ap (λ w. take 40 c.args.out.now ++ (w ++ drop 48 c.args.out.now)) c.write_word.ensures

pub returns-clause-clash : goal.returns-clause-clash
returns-clause-clash c name first second earlier of_first of_second short is =
    returns-clause-bytes c
    ∙ ap (λ bytes. with_word bytes c.args.word) is
    ∙ another_word (name_field name) (to_le_bytes w64 earlier) (to_le_bytes w64 c.args.word)
    (registration_bytes first ++ registration_bytes second) (facts_bytes of_first ++ facts_bytes of_second)
    (length-name_field name short) refl
