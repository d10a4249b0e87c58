-- `at_port` writes an entry to its port: the two ports of `written`, with the byte of the entry.
use Rattle.sending.proofs.PortLaws.{to_parameter, to_command}
use Rattle.sends.proofs.at_port.Goals as goal

pub returns-then-e-lt256 : goal.returns-then-e-lt256
returns-then-e-lt256 c = to_parameter _ _ c.if-e-lt256.true c.write_parameter.ensures

pub returns : goal.returns
returns c = to_command _ _ c.if-e-lt256.false c.write_command.ensures
