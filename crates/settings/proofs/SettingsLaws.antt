-- An entry that only sets registers does to a register set what it does to its settings, and leaves all the rest. True because the
-- processor's cases for such a command and for its parameters touch these registers alone, and each is a case of the settings'.
use mathlib.Core.Path.{◌≡◌, refl, ap}
use mathlib.Core.Bool.{Bool, true, false, cond, ◌&&◌}
use mathlib.Core.List.{List}
use Prim.Native.Nat.{ℕ, ◌%◌, ◌<◌}
use native.Mathlib.Omega.{arith}
use lib.Dec.{eqb, ltb}
use lib.ListN.{set}
use borrow.Author.Tests.{ltb-true}
use Rattle.registers.specs.declared.Command.{Command}
use Rattle.registers.specs.declared.Command.TheVariants.{Nothing, Reset, Vsync, Cchar, Start, Zoom, Curs, Pram, Pitch, Mask, Figs, Figd}
use Rattle.registers.specs.declared.Command.TheVariants.{Gchrd, Curd, Lprd, Wdat, Rdat, Unknown}
use Rattle.registers.specs.declared.Transfer.{Transfer}
use Rattle.registers.specs.declared.Registers.{Registers}
use Rattle.registers.specs.declared.Video.{Video}
use Rattle.registers.specs.Put.{put_video, put_zoom, put_ram, put_pitch}
use Rattle.registers.specs.State.{State, state}
use Rattle.registers.proofs.BoolLaws.{false_true, and_right}
use Rattle.commands.specs.Decode.{command_of}
use Rattle.processor.specs.Command.{begun, command_by, command_taken}
use Rattle.parameters.specs.Parameter.{zoom_by, ram_by, pitch_by}
use Rattle.wdat.specs.Wdat.{half_b, first_sync, set_done, wdat_taken}
use Rattle.processor.specs.Entry.{counted, parameter_by, parameter_taken, entry_taken}
use Rattle.settings.specs.declared.Settings.{Settings}
use Rattle.settings.specs.Put.{set_progress}
use Rattle.settings.specs.Settings.{Taken, setting_b, settable_b, put_settings, settings_of, command_set, data_set, parameter_set}
use Rattle.settings.specs.Settings.{setting_taken}

-- ---- a register set and its settings
pub put_settings_of : (r : Registers) → put_settings r (settings_of r) ≡ r
put_settings_of r = refl

pub settings_of_put : (r : Registers) (p : Settings) → settings_of (put_settings r p) ≡ p
settings_of_put r p = refl

-- .. and the rest is left
pub put_leaves : (r : Registers) (p : Settings)
    → ((put_settings r p).mode ≡ r.mode) × ((put_settings r p).buffer ≡ r.buffer) × ((put_settings r p).work ≡ r.work)
    × ((put_settings r p).pen ≡ r.pen) × (put_zoom (put_settings r p).video r.video.zoom ≡ r.video)
put_leaves r p = (refl, refl, refl, refl, refl)

-- ---- which entries they are: below 512, and not RESET
below_by : (e : ℕ) (a b q s : Bool) → ltb e 256 ≡ a → ltb e 512 ≡ b → cond a q (b && s) ≡ true → e < 512
below_by e true b q s h k t = let l : e < 256 = ltb-true e 256 h in omega arith
below_by e false true q s h k t = ltb-true e 512 k
below_by e false false q s h k t = absurd (false_true t)

module _ (c : Command) (e : ℕ) (s : settable_b c e ≡ true) where
  pub settable_below : e < 512
  unfolding settable_b
  settable_below = below_by e (ltb e 256) (ltb e 512) (setting_b c) (setting_b (command_of (e % 256))) refl refl s

  pub settable_no_reset : e ≡ 256 → ⊥
  unfolding settable_b command_of
  settable_no_reset h = false_true (rw h at s)

-- ---- what it does to a register set with these settings
abbrev state_of : Registers → Taken → State
state_of r t = state (put_settings r t.settings) t.mem

module _ (r : Registers) where
  command_setting : (p : Settings) (b : ℕ) (c : Command) → setting_b c ≡ true
      → command_by c b (put_settings r p) ≡ put_settings r (command_set c b p)
  command_setting p b Nothing s = absurd (false_true s)
  command_setting p b Reset s = absurd (false_true s)
  command_setting p b Vsync s = absurd (false_true s)
  command_setting p b Cchar s = absurd (false_true s)
  command_setting p b Start s = absurd (false_true s)
  command_setting p b Zoom s = refl
  command_setting p b Curs s = refl
  command_setting p b Pram s = refl
  command_setting p b Pitch s = refl
  command_setting p b Mask s = refl
  command_setting p b Figs s = refl
  command_setting p b Figd s = absurd (false_true s)
  command_setting p b Gchrd s = absurd (false_true s)
  command_setting p b Curd s = absurd (false_true s)
  command_setting p b Lprd s = absurd (false_true s)
  command_setting p b (Wdat t) s = refl
  command_setting p b (Rdat t) s = absurd (false_true s)
  command_setting p b Unknown s = absurd (false_true s)

  -- a test before or behind a function
  of_test : {A B : Type 0} (f : A → B) (t : Bool) (x y : A) → cond t (f x) (f y) ≡ f (cond t x y)
  of_test f true x y = refl
  of_test f false x y = refl

  module _ (p : Settings) (i v : ℕ) (m : List ℕ) where
    data_setting : (t : Transfer) → wdat_taken t i v (put_settings r p) m ≡ state_of r (data_set (first_sync r) t i v p m)
    unfolding wdat_taken set_done data_set
    data_setting t = of_test (state_of r) (half_b t i) _ _

    parameter_setting : (c : Command) → setting_b c ≡ true
        → parameter_by c i v (put_settings r p) m ≡ state_of r (parameter_set (first_sync r) c i v p m)
    unfolding zoom_by ram_by pitch_by
    parameter_setting Nothing s = refl
    parameter_setting Reset s = absurd (false_true s)
    parameter_setting Vsync s = refl
    parameter_setting Cchar s = absurd (false_true s)
    parameter_setting Start s = refl
    parameter_setting Zoom s =
        ap (λ (w : Video). state (put_video (put_settings r p) w) m) (of_test (put_zoom r.video) (eqb i 0) v p.zoom)
    parameter_setting Curs s = refl
    parameter_setting Pram s = ap (λ (q : Registers). state q m) (of_test (put_ram (put_settings r p)) (ltb i 16) (set p.ram i v) p.ram)
    parameter_setting Pitch s = ap (λ (q : Registers). state q m) (of_test (put_pitch (put_settings r p)) (eqb i 0) v p.pitch)
    parameter_setting Mask s = refl
    parameter_setting Figs s = refl
    parameter_setting Figd s = refl
    parameter_setting Gchrd s = refl
    parameter_setting Curd s = refl
    parameter_setting Lprd s = refl
    parameter_setting (Wdat t) s = data_setting t
    parameter_setting (Rdat t) s = refl
    parameter_setting Unknown s = refl

  module _ (e : ℕ) (p : Settings) (m : List ℕ) where
    entry_by : (t : Bool) → ltb e 256 ≡ t
        → cond t (setting_b p.progress.command) (ltb e 512 && setting_b (command_of (e % 256))) ≡ true
        → entry_taken e (state (put_settings r p) m) ≡ state_of r (setting_taken (first_sync r) e p m)
    unfolding entry_taken parameter_taken command_taken setting_taken
    entry_by true h s =
        rw h (parameter_setting (set_progress p (counted p.progress)) p.progress.next e m p.progress.command s)
    entry_by false h s =
        rw h (ap (λ (q : Registers). state q m) (command_setting (set_progress p (begun (command_of (e % 256)) (e % 256))) (e % 256)
        (command_of (e % 256)) (and_right (ltb e 512) _ s)))

    pub entry_setting : settable_b p.progress.command e ≡ true
        → entry_taken e (state (put_settings r p) m)
        ≡ state (put_settings r (setting_taken (first_sync r) e p m).settings) (setting_taken (first_sync r) e p m).mem
    unfolding settable_b
    entry_setting s = entry_by (ltb e 256) refl s
