-- What a line to the ports does: the port's answer, as the bench writes it.
use Rattle.std.specs.Prelude.{ℕ}
use Rattle.registers.specs.declared.Registers.{Registers}
use Rattle.ports.specs.declared.Answer.{Answer}
use Rattle.ports.specs.Port.{command_written, parameter_written, pen_posted, byte_read, status_read}
use Rattle.orders.specs.declared.Port.{Port}
use Rattle.orders.specs.declared.Port.TheVariants.{Command, Parameter, Pen, Read, Status}
use Rattle.console.specs.declared.desk.Done.{Done}
use Rattle.console.specs.declared.desk.Reply.TheVariants.{One, Two}

-- "`C n`, `P n`: the number of refusal, 0 for success", "`L n`"
abbrev pub number_told : ℕ → Answer → Done
number_told letter a = record { regs = a.regs; reply = One letter a.number }

-- "`R n v`: the number, the byte (0 where refused)"
abbrev pub byte_told : Answer → Done
byte_told a = record { regs = a.regs; reply = Two 82 a.number a.value }

-- "`S v`"
abbrev pub status_told : Answer → Done
status_told a = record { regs = a.regs; reply = One 83 a.value }

-- each line to its port
unfoldable pub port_done : Registers → Port → Done
port_done r (Command b) = number_told 67 (command_written r b)
port_done r (Parameter b) = number_told 80 (parameter_written r b)
port_done r (Pen a) = number_told 76 (pen_posted r a)
port_done r Read = byte_told (byte_read r)
port_done r Status = status_told (status_read r)
