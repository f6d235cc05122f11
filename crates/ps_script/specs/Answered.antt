-- What inner calls answer, whatever reader of values there is.
use Rattle.std.specs.Prelude.{◌≡◌, ℕ, Bool, false, List, Option, Ok, Result, option_and_then, IfOk, IfErr, IfSome}
use Rattle.std.specs.Option.{option_map_or}
use Rattle.std.specs.declared.vec.Vec.{Vec}
use Rattle.dataset_meta.specs.Metas.{MetaData}
use Rattle.row_words.specs.declared.patch.Patch.{Patch}
use Rattle.ps_config.specs.declared.parts.Config.{Config}
use Rattle.ps_script.specs.declared.fault.ScriptFault.{ScriptFault}
use Rattle.ps_script.specs.declared.lines.Reading.{Reading}
use Rattle.ps_script.specs.declared.past.Given.{Given}
use Rattle.ps_script.specs.declared.past.Past.{Past}
use Rattle.ps_script.specs.declared.read.ScriptEnd.{ScriptEnd}
use Rattle.ps_script.specs.declared.script.Act.{Act}
use Rattle.ps_script.specs.declared.script.Line.{Line}
use Rattle.ps_script.specs.declared.writes.Target.{Target}
use Rattle.ps_script.specs.Texts.{lines_of, word}
use Rattle.ps_script.specs.Names.{set_named}
use Rattle.ps_script.specs.Values.{ValueReader}
use Rattle.ps_script.specs.Past.{done_by}
use Rattle.ps_script.specs.Faults.{meta_named, has_bad_value_in}
use Rattle.ps_script.specs.Refusals.{stands, early_faults, first_of}
use Rattle.ps_script.specs.Acts.{write_at, act_of, acts_from}
use Rattle.ps_script.specs.Scripts.{judged, IsEndOf, Steps}
use Rattle.ps_script.specs.Writes.{IsSoundWrite, Reads}

-- what a line means, and what a line `write` means
abbrev pub IsActOf : Given → List MetaData → List ℕ → Option Act → Type 0
IsActOf given metas line act = (reader : ValueReader) → act ≡ act_of reader given.config.now metas line

abbrev pub IsWriteOf : List MetaData → List ℕ → Option Act → Type 0
IsWriteOf metas line act =
    (reader : ValueReader) → act ≡ option_and_then (write_at reader metas line) (set_named metas (word 2 line))

-- what all lines of the bytes mean
abbrev pub MeansLines : {Z E : Type 0} → Given → List MetaData → List ℕ → Result (Vec Line Z) E → Type 0
MeansLines given metas bytes result =
    (reader : ValueReader) → IfOk result (λ lines. lines.items ≡ acts_from reader given.config.now metas 1 (lines_of bytes))

-- whether a field word of a line `write` gives its field no value or no status
abbrev pub IsBadWrite : Past → List ℕ → Bool → Type 0
IsBadWrite past line bad =
    (reader : ValueReader) → bad
    ≡ option_map_or (has_bad_value_in reader line) (meta_named (done_by past).metas (word 2 line)) false

-- whether a fault stands at a line, and the first that does, but for the last
abbrev pub TellsFault : ScriptFault → Given → Past → List ℕ → Bool → Type 0
TellsFault fault given past line stood =
    (reader : ValueReader) → stood ≡ stands reader fault given.config.now given.takes_fates (done_by past) line

abbrev pub IsEarlyFault : Given → Past → List ℕ → Option ScriptFault → Type 0
IsEarlyFault given past line fault =
    (reader : ValueReader) → fault ≡ first_of reader early_faults given.config.now given.takes_fates (done_by past) line

-- a line is judged, and done where it has no fault
abbrev pub StepsBy : {E : Type 0} → Given → Past → Past → List ℕ → Result (Option ScriptFault) E → Type 0
StepsBy given old new line result =
    (reader : ValueReader) → IfOk result (Steps reader given.config.now given.takes_fates (done_by old) (done_by new) line)

-- and read, after those that were read before it
abbrev pub ReadsBy : {E : Type 0} → Given → ℕ → List ℕ → List Line → Reading → Result (Option ScriptFault) E → Type 0
ReadsBy given number line before new result =
    (reader : ValueReader)
    → IfOk result (Reads reader given.config.now new.past.metas.items number line before new.lines.items)

-- all lines are judged: what they have done, what they mean where none appends, or the first fault
abbrev pub HasDone : {E : Type 0} → Given → List ℕ → Result Reading E → Type 0
HasDone given bytes result =
    (reader : ValueReader)
    → IfOk result (λ reading. judged reader given.config.now given.takes_fates bytes ≡ Ok (done_by reading.past))

abbrev pub HasRead : {E : Type 0} → Given → List ℕ → Result Reading E → Type 0
HasRead given bytes result =
    (reader : ValueReader) → IfOk result (λ reading. reading.past.appends ≡ 0
    → reading.lines.items ≡ acts_from reader given.config.now reading.past.metas.items 1 (lines_of bytes))

abbrev pub IsEndAt : {T : Type 0} → Given → List ℕ → Result T ScriptEnd → Type 0
IsEndAt given bytes result =
    (reader : ValueReader) → IfErr result (IsEndOf (judged reader given.config.now given.takes_fates bytes))

-- the lines that were read, where none of them appends
abbrev pub AreReadLines : Given → Past → List ℕ → List Line → Type 0
AreReadLines given past bytes lines =
    (reader : ValueReader) → past.appends ≡ 0
    → lines ≡ acts_from reader given.config.now past.metas.items 1 (lines_of bytes)

-- a line `write` without a fault, for whatever configuration
abbrev pub IsFaultlessWrite : Past → List ℕ → Patch → Option Target → Type 0
IsFaultlessWrite past line patch result =
    (reader : ValueReader) (config : Config) (takes_fates : Bool)
    → IfSome result (λ target. IsSoundWrite reader config takes_fates (done_by past) line target.thread target.set patch)
