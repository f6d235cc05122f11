-- What lines begin with, and the words for what happens to a datagram.
use Rattle.std.specs.Prelude.{ℕ, ◌==◌, Bool, true, List, [], ◌∷◌, codes, Option, Some, None, if◌then◌else◌}
use Rattle.std.specs.Str.{bytes_eq}
use Rattle.ps_script.specs.declared.verbs.Verb.{Verb}
use Rattle.ps_script.specs.declared.verbs.Verb.TheVariants as verb
use Rattle.ps_script.specs.declared.verbs.FateWord.{FateWord}
use Rattle.ps_script.specs.declared.verbs.FateWord.TheVariants as fated
use Rattle.ps_script.specs.Texts.{word}

abbrev pub verb_named : List ℕ → Option Verb
verb_named first =
    if bytes_eq first (codes "write") then Some verb.Write
    else if bytes_eq first (codes "tick") then Some verb.Tick
    else if bytes_eq first (codes "enable") then Some verb.Enable
    else if bytes_eq first (codes "disable") then Some verb.Disable
    else if bytes_eq first (codes "append") then Some verb.Append
    else if bytes_eq first (codes "fate") then Some verb.Fate
    else if bytes_eq first (codes "watch") then Some verb.Watch
    else None

-- what a line does; nothing where its first word is none of these
unfoldable pub verb_of : List ℕ → Option Verb
verb_of line = verb_named (word 0 line)

-- an empty line, or one whose first word begins with `#`
abbrev pub is_idle : List ℕ → Bool
is_idle [] = true
is_idle (byte ∷ bytes) = byte == 35

abbrev pub fate_named : List ℕ → Option FateWord
fate_named third =
    if bytes_eq third (codes "drop") then Some fated.Drop
    else if bytes_eq third (codes "repeat") then Some fated.Repeat
    else if bytes_eq third (codes "hold") then Some fated.Hold
    else if bytes_eq third (codes "again") then Some fated.Again
    else None

-- the third word of a line `fate`
unfoldable pub fate_of : List ℕ → Option FateWord
fate_of line = fate_named (word 2 line)
