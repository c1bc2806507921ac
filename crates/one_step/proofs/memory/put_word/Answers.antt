use Rattle.std.proofs.Common.{◌+◌, ◌≤◌, refl, length}
use Rattle.one_step.proofs.Bytes.{put_low, half_bytes, word_bytes}
use Rattle.one_step.proofs.memory.put_word.Goals as goal

pub returns-in-Half : goal.returns-in-Half
returns-in-Half c k =
    let room : c.args.at + 2 ≤ length c.args.bytes.now = rw c.in-Half.is at c.requires in
    rw c.in-Half.is (put_low _ _ c.args.at 2 _ c.args.word k room c.write_u16.ensures (half_bytes c.args.word))

pub returns-in-Word : goal.returns-in-Word
returns-in-Word c k =
    let room : c.args.at + 4 ≤ length c.args.bytes.now = rw c.in-Word.is at c.requires in
    rw c.in-Word.is (put_low _ _ c.args.at 4 _ c.args.word k room c.write_u32.ensures (word_bytes c.args.word))

pub returns-in-Double : goal.returns-in-Double
returns-in-Double c k =
    let room : c.args.at + 8 ≤ length c.args.bytes.now = rw c.in-Double.is at c.requires in
    rw c.in-Double.is (put_low _ _ c.args.at 8 _ c.args.word k room c.write_u64.ensures (λ j h. refl))
