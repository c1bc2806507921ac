use Rattle.abstract_value.proofs.WrittenBytes.{set_bit}
use Rattle.abstract_value.proofs.stack.StackState.mark_one.Goals as goal

pub returns : goal.returns
returns c k = set_bit c.args.self.now.words c.args.at k c.args.self.now.eight c.requires
