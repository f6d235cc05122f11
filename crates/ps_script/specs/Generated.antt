-- Generated work: 32n writes and 4n ticks.
use Rattle.std.specs.Prelude.{ℕ, ◌+◌, ◌*◌, ◌/◌, ◌%◌, ◌==◌, [], ◌∷◌, map, if◌then◌else◌}
use Rattle.std.specs.List.{range_with_len}
use Rattle.ua_values.specs.declared.value.Value.TheVariants.{UInt32}
use Rattle.dataset_meta.specs.DataValues.{DataValue}
use Rattle.row_words.specs.Patches.{spelled_patch}
use Rattle.ps_config.specs.BuiltIn.{demo}
use Rattle.ps_script.specs.declared.script.Line.{Line}
use Rattle.ps_script.specs.declared.script.Act.{Act}
use Rattle.ps_script.specs.declared.script.Act.TheVariants as act
use Rattle.ps_script.specs.declared.script.Script.{Script}

-- threads 0 to 3 write by turns; in its j-th write, from 1, a thread gives 100000 times its number and j
abbrev pub generated_value : ℕ → DataValue
generated_value write = record { value = UInt32 (100000 * (write % 4) + (write / 4 + 1)); status = 0 }

-- write 0 is the first; thread t writes the t-th field of the built-in data set
unfoldable pub generated_write : ℕ → Act
generated_write write = act.Write (write % 4) 0 (spelled_patch demo.fields ((write % 4, generated_value write) ∷ []))

-- eight writes, and then a tick of 100 milliseconds
unfoldable pub generated_act : ℕ → Act
generated_act line = if line % 9 == 8 then act.Tick 100 else generated_write (8 * (line / 9) + line % 9)

abbrev pub generated_line : ℕ → Line
generated_line line = record { at = line + 1; act = generated_act line }

unfoldable pub generated : ℕ → Script
generated n = record { lines = map generated_line (range_with_len 0 (36 * n)); metas = demo ∷ [] }
