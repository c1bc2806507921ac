use Rattle.std.proofs.Common.{◌<◌, ◌-◌, ◌^◌, ℕ, Bool, List, refl, sym, subst}
use Rattle.script_text.specs.Lines.{Short}
use Rattle.script_text.specs.Reading.{seen_line}
use Rattle.scripts.specs.Machines.{machine_of}
use Rattle.scripts.specs.Replies.{Says}
use Rattle.scripts.specs.Steps.{Step, AnswersLine}
use Rattle.scripts.proofs.Saying.{said}
use Rattle.scripts.proofs.serving.serve.Goals as goal

pub answer-requires : goal.answer-requires
answer-requires g c =
    let early = subst (λ (n : ℕ). n < 2 ^ 64 - 1) (sym c.renew_long.ensures.latest) c.requires in
    (c.type_bounds.sync-T, (c.type_bounds.sync-G, early))

pub returns-then-read : goal.returns-then-read
returns-then-read g c =
    let fresh = machine_of c.renew_long.new.self in
    said (λ answer. Step (machine_of c.args.machine.now) (seen_line c.args.read.is_long c.args.read.line.now) answer fresh) _ _ _
    c.refused.result c.say.result
    (record {
      fresh = fresh;
      renewed = c.renew_long.ensures;
      answered = subst (λ (long : Bool). AnswersLine fresh (seen_line long c.args.read.line.now) (Says c.refused.result) fresh)
          (sym c.if-read.true) (c.refused.ensures, refl);
    })
    c.say.ensures.sends c.say.ensures.status

pub returns : goal.returns
returns g c =
    let fresh = machine_of c.renew_long.new.self in
    let after = machine_of c.answer.new.machine in
    let line = c.answer.ensures in
    record {
      answer = line.answer;
      is_answer = record {
        fresh = fresh;
        renewed = c.renew_long.ensures;
        answered = subst (λ (long : Bool). AnswersLine fresh (seen_line long c.args.read.line.now) line.answer after)
            (sym c.if-read.false)
            (subst (λ (text : List ℕ). AnswersLine fresh (Short text) line.answer after) c.as_slice.ensures line.is_answer);
      };
      sends = line.sends;
      status = line.status;
    }
