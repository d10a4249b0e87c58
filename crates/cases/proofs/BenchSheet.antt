-- 01's bench sheet holds: each case is computed.
use mathlib.Core.Path.{refl}
use Rattle.dots.specs.Bit.{bit, of_bits}
use Rattle.dots.specs.Operation.{operation_of}
use Rattle.dots.specs.Logic.{one_bit, combined}
use Rattle.registers.specs.Fresh.{fresh_set}
use Rattle.registers.specs.Size.{dots_of}
use Rattle.registers.specs.Sound.{all_below, sound_b}
use Rattle.registers.specs.Buffer.{pushed, oldest, popped}
use Rattle.commands.specs.Decode.{family_of, command_of}
use Rattle.processor.specs.Command.{reset_done, figure_begun, figd_taken, command_taken}
use Rattle.parameters.specs.Parameter.{sync_by, curs_by, ram_by, pitch_by, mask_by, figs_by}
use Rattle.wdat.specs.Wdat.{bit_mapped_b, set_done, wdat_taken}
use Rattle.processor.specs.Entry.{next_of, parameter_taken, entry_taken}
use Rattle.figures.specs.Figure.{pattern_of, pattern_at, line_direction, error_after, direction_at, running_d, figure_moved, figure_unit}
use Rattle.units.specs.Unit.{fetched, unit_done}
use Rattle.units.specs.Run.{reason_of, run_from, length_b, run_done}
use Rattle.ports.specs.Port.{queued_or3, command_written, parameter_written, byte_read}
use Rattle.entries.specs.Entries.{dir_of, slope_of, line_entries, entries_of}
use Rattle.sheets.specs.Slots.{translated, translation}
use Rattle.cases.specs.BenchSheet.{bench, BenchHolds}

pub bench_holds : BenchHolds
unfolding bench one_bit combined bit of_bits fresh_set dots_of all_below sound_b pushed oldest popped family_of command_of operation_of
    reset_done
    figure_begun figd_taken command_taken sync_by curs_by ram_by pitch_by mask_by figs_by bit_mapped_b set_done wdat_taken next_of
    parameter_taken
    entry_taken pattern_of pattern_at
    line_direction error_after direction_at running_d figure_moved figure_unit fetched unit_done reason_of run_from length_b run_done
    queued_or3
    command_written parameter_written byte_read dir_of slope_of line_entries entries_of translated translation
bench_holds =
    (refl, (refl, (refl, (refl, (refl, (refl, (refl, (refl, (refl, (refl, (refl, (refl, (refl, (refl, (refl, (refl, tt))))))))))))))))
