-- 01, Ports: a byte to the command port, to the parameter port, a byte read, the status, the light pen; with the refusals.
use Rattle.std.specs.Prelude.{ℕ, ◌+◌, ◌%◌, true, cond, eqb, leb}
use Rattle.dots.specs.Step.{addresses}
use Rattle.registers.specs.declared.Mode.{Mode}
use Rattle.registers.specs.declared.Mode.TheVariants.{Write, Read}
use Rattle.registers.specs.declared.Work.TheVariants.{Idle}
use Rattle.registers.specs.declared.Registers.{Registers}
use Rattle.registers.specs.Width.{places, command_mark}
use Rattle.registers.specs.Fresh.{empty_buffer}
use Rattle.registers.specs.Sound.{sound_b}
use Rattle.registers.specs.Buffer.{pushed, oldest, popped}
use Rattle.registers.specs.Put.{put_pen, put_mode, put_buffer, put_work}
use Rattle.processor.specs.Command.{reset_done}
use Rattle.status.specs.Status.{status_of}
use Rattle.ports.specs.declared.Answer.{Answer}

-- "Success is number 0"
abbrev pub granted : ℕ → Registers → Answer
granted v r = record { number = 0; value = v; regs = r }

-- a refusal returns "the set given, 0"
abbrev pub refused : ℕ → Registers → Answer
refused n r = record { number = n; value = 0; regs = r }

-- "queued with a command mark", "to the other port without"
abbrev pub queued : Registers → ℕ → Registers
queued r e = put_buffer r (pushed r.buffer e)

-- "Another command byte in read mode first discards all read data, ends the read and turns to write mode."
abbrev pub turned_back : Registers → Registers
turned_back r = put_work (put_buffer (put_mode r Write) empty_buffer) Idle

-- "3: write mode and buffer holds 16, RESET excepted"
unfoldable pub queued_or3 : Registers → ℕ → Answer
queued_or3 r e = cond (leb places r.buffer.count) (refused 3 r) (granted 0 (queued r e))

abbrev pub command_in : Mode → Registers → ℕ → Answer
command_in Write r b = queued_or3 r (b + command_mark)
command_in Read r b = granted 0 (queued (turned_back r) (b + command_mark))

-- a byte to the command port: "1: register set unsound"; "RESET acts at the write itself, even when the buffer is full"
unfoldable pub command_written : Registers → ℕ → Answer
command_written r b =
    cond (sound_b r) (cond (eqb b 0) (granted 0 (reset_done r)) (command_in r.mode r b)) (refused 1 r)

-- "4: parameter byte in read mode"
abbrev pub parameter_in : Mode → Registers → ℕ → Answer
parameter_in Write r b = queued_or3 r b
parameter_in Read r b = refused 4 r

-- a byte to the parameter port: 1, 4, 3 in this order
unfoldable pub parameter_written : Registers → ℕ → Answer
parameter_written r b = cond (sound_b r) (parameter_in r.mode r b) (refused 1 r)

-- "5: read with no byte to give"; "Reading a byte takes the oldest read byte."
abbrev pub byte_in : Mode → Registers → Answer
byte_in Write r = refused 5 r
byte_in Read r = cond (eqb r.buffer.count 0) (refused 5 r) (granted (oldest r.buffer % 256) (put_buffer r (popped r.buffer)))

unfoldable pub byte_read : Registers → Answer
byte_read r = cond (sound_b r) (byte_in r.mode r) (refused 1 r)

unfoldable pub status_read : Registers → Answer
status_read r = cond (sound_b r) (granted (status_of r) r) (refused 1 r)

-- "it replaces the last and sets bit 7"
abbrev pub pen_put : Registers → ℕ → Registers
pen_put r a = put_pen r (record { address = a; set = true })

-- "The host may post an 18-bit light-pen address"; "6: pen address 262,144 or more"
unfoldable pub pen_posted : Registers → ℕ → Answer
pen_posted r a =
    cond (sound_b r) (cond (leb addresses a) (refused 6 r) (granted 0 (pen_put r a))) (refused 1 r)
