use Rattle.instruction_set.proofs.form.Form.roles.Goals as goal

pub returns-in-Alu : goal.returns-in-Alu
returns-in-Alu c = rw c.in-Alu.is (c.alu_roles.ensures c.in-Alu.width)
