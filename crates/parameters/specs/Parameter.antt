-- 01, Commands: what the parameter byte v does to a register, i being its place among the command's parameters, from 0. "Parameter
-- bytes follow 002's layouts and take effect singly as they are taken; surplus ones .. are ignored".
use Rattle.std.specs.Prelude.{ℕ, ◌+◌, ◌*◌, ◌/◌, ◌%◌, ◌^◌, Bool, cond, List, length, eqb, ltb, set}
use Rattle.dots.specs.declared.Cursor.{Cursor}
use Rattle.registers.specs.declared.Drawing.{Drawing}
use Rattle.registers.specs.declared.Video.{Video}
use Rattle.registers.specs.declared.Registers.{Registers}
use Rattle.registers.specs.Put.{put_pitch, put_ram, put_zoom, put_sync, put_cchar, put_kind, put_dir, put_gd, put_dc, put_d, put_d2, put_d1}
use Rattle.registers.specs.Put.{put_dm}

-- a byte of a number takes its place, the other bits stay: the low byte; the high byte of 16 bits; of 14 bits
abbrev pub low_byte : ℕ → ℕ → ℕ
low_byte n v = n / 256 * 256 + v

abbrev pub high_byte : ℕ → ℕ → ℕ
high_byte n v = v * 256 + n % 256

abbrev pub high_six : ℕ → ℕ → ℕ
high_six n v = v % 64 * 256 + n % 256

-- "CURS byte 3: bits 7-4 dot address n, making the mask 2^n; bits 1-0 EAD's top"; bytes 1 and 2 are EAD's low and middle byte
unfoldable pub curs_by : ℕ → ℕ → Cursor → Cursor
curs_by i v c =
    cond (eqb i 0) (record { ead = c.ead / 256 * 256 + v; mask = c.mask })
    (cond (eqb i 1) (record { ead = c.ead / 65536 * 65536 + v * 256 + c.ead % 256; mask = c.mask })
    (cond (eqb i 2) (record { ead = v % 4 * 65536 + c.ead % 65536; mask = 2 ^ (v / 16) }) c))

-- MASK: low byte, high byte
unfoldable pub mask_by : ℕ → ℕ → Cursor → Cursor
mask_by i v c =
    cond (eqb i 0) (record { ead = c.ead; mask = low_byte c.mask v })
    (cond (eqb i 1) (record { ead = c.ead; mask = high_byte c.mask v }) c)

-- "FIGS byte 1: bits 7 SL, 6 R, 5 A, 4 GC, 3 L, 2-0 DIR; then DC (GD is bit 6 of its high byte), D, D2, D1, DM, low byte first."
unfoldable pub figs_by : ℕ → ℕ → Drawing → Drawing
figs_by i v f =
    cond (eqb i 0) (put_dir (put_kind f (v / 8)) (v % 8))
    (cond (eqb i 1) (put_dc f (low_byte f.dc v))
    (cond (eqb i 2) (put_gd (put_dc f (high_six f.dc v)) (eqb (v / 64 % 2) 1))
    (cond (eqb i 3) (put_d f (low_byte f.d v))
    (cond (eqb i 4) (put_d f (high_six f.d v))
    (cond (eqb i 5) (put_d2 f (low_byte f.d2 v))
    (cond (eqb i 6) (put_d2 f (high_six f.d2 v))
    (cond (eqb i 7) (put_d1 f (low_byte f.d1 v))
    (cond (eqb i 8) (put_d1 f (high_six f.d1 v))
    (cond (eqb i 9) (put_dm f (low_byte f.dm v))
    (cond (eqb i 10) (put_dm f (high_six f.dm v)) f))))))))))

-- a byte at place i of a list, "surplus ones .. are ignored"; of a register of one byte the first
abbrev pub put_at : ℕ → ℕ → List ℕ → List ℕ
put_at i v l = cond (ltb i (length l)) (set l i v) l

abbrev pub first_or : ℕ → ℕ → ℕ → ℕ
first_or i v held = cond (eqb i 0) v held

-- the sync bytes after RESET, CCHAR's bytes, and ZOOM's byte, stored whole
unfoldable pub sync_by : ℕ → ℕ → Video → Video
sync_by i v w = cond (ltb i 8) (put_sync w (set w.sync i v)) w

unfoldable pub cchar_by : ℕ → ℕ → Video → Video
cchar_by i v w = cond (ltb i 3) (put_cchar w (set w.cchar i v)) w

unfoldable pub zoom_by : ℕ → ℕ → Video → Video
zoom_by i v w = cond (eqb i 0) (put_zoom w v) w

-- PRAM: "past address 15 also" ignored; PITCH: one byte
unfoldable pub ram_by : ℕ → ℕ → Registers → Registers
ram_by i v r = cond (ltb i 16) (put_ram r (set r.ram i v)) r

unfoldable pub pitch_by : ℕ → ℕ → Registers → Registers
pitch_by i v r = cond (eqb i 0) (put_pitch r v) r
