-- A session's journal has few answers Nothing, so a link in memory that was made anew tells to its end.
use Rattle.std.proofs.Common.{◌≡◌, refl, ap, ◌∙◌, arith, ℕ, zero, suc, ◌+◌, ◌-◌, ◌≤◌, Bool, true, false, List, [], ◌∷◌, ◌++◌, Option, Some, None, Ok}
use Rattle.std.specs.Prelude.{◌^◌, replicate, IsSome}
use Rattle.std.proofs.lemmas.Bool.{false≢true}
use Rattle.ua_base.specs.declared.link.Fate.{Fate}
use Rattle.ua_base.specs.Journal.{Entry, Sent, SendFailed, Got, Empty, Long, ReceiveFailed, LinkState}
use Rattle.ua_base.specs.Links.{TellsOn}
use Rattle.mem_edge.specs.declared.memory_link.MemoryLink.{MemoryLink}
use Rattle.mem_edge.specs.Marks.{EndsInNothings}
use Rattle.mem_edge.specs.MemoryLinks.{patience_of, told_by}
use Rattle.ps_config.specs.BuiltIn.{built_in_config}
use Rattle.ps_report.specs.declared.closed.Closed.{Closed}
use Rattle.session_model.specs.Counts.{pumps_in, session_nothings, ticks_in}
use Rattle.session_model.specs.Keeping.{AreStepsOf}
use Rattle.session_model.specs.Sends.{IsPump, IsRun, Send, journal, send_entries, sends_of}
use Rattle.session_model.specs.Steps.{Plan, Step, Enable, Disable, Append, Tick, Pump}
use Rattle.session_model.proofs.Lasting.{ticks-few}
use Rattle.script_player.specs.Plays.{IsPlayOf}
use Rattle.play_laws.specs.Small.{IsNewLink, IsPlayedOver, PlaysOver, small_script}

-- how many answers Nothing there are
abbrev nothings : List Entry → ℕ
nothings [] = 0
nothings (Sent datagram ∷ entries) = nothings entries
nothings (SendFailed ∷ entries) = nothings entries
nothings (Got datagram ∷ entries) = nothings entries
nothings (Empty ∷ entries) = nothings entries + 1
nothings (Long len ∷ entries) = nothings entries
nothings (ReceiveFailed ∷ entries) = nothings entries

append-nothings : (first rest : List Entry) → nothings (first ++ rest) ≡ nothings first + nothings rest
append-nothings [] rest = omega arith
append-nothings (Sent datagram ∷ first) rest = append-nothings first rest
append-nothings (SendFailed ∷ first) rest = append-nothings first rest
append-nothings (Got datagram ∷ first) rest = append-nothings first rest
append-nothings (Empty ∷ first) rest = let h = append-nothings first rest in omega (arith, h)
append-nothings (Long len ∷ first) rest = append-nothings first rest
append-nothings (ReceiveFailed ∷ first) rest = append-nothings first rest

replicated : (n : ℕ) → nothings (replicate n Empty) ≡ n
replicated zero = refl
replicated (suc n) = let h = replicated n in omega (arith, h)

sent-nothings : (sends : List Send) (done : List Bool) → nothings (send_entries sends done) ≡ 0
sent-nothings [] done = refl
sent-nothings (send ∷ sends) [] = refl
sent-nothings (send ∷ sends) (true ∷ done) = sent-nothings sends done
sent-nothings (send ∷ sends) (false ∷ done) = sent-nothings sends done

pump-nothings : (left : ℕ) (entries : List Entry) → IsPump left entries → nothings entries ≤ 1
pump-nothings zero [] pump = omega arith
pump-nothings zero (entry ∷ entries) pump = absurd pump
pump-nothings (suc left) [] pump = absurd pump
pump-nothings (suc left) (Sent datagram ∷ entries) pump = absurd pump
pump-nothings (suc left) (SendFailed ∷ entries) pump = absurd pump
pump-nothings (suc left) (Got datagram ∷ entries) pump = pump-nothings left entries pump.1
pump-nothings (suc left) (Empty ∷ entries) pump = let none : nothings entries ≡ 0 = ap nothings pump in omega (arith, none)
pump-nothings (suc left) (Long len ∷ entries) pump = pump-nothings left entries pump.1
pump-nothings (suc left) (ReceiveFailed ∷ entries) pump = let none : nothings entries ≡ 0 = ap nothings pump in omega (arith, none)

all-nothings : (p : Plan) (steps : List Step) → IsRun p steps → nothings (journal p steps) ≤ pumps_in steps
all-nothings p [] run = omega arith
all-nothings p (Enable id ∷ before) run = all-nothings p before run
all-nothings p (Disable id ∷ before) run = all-nothings p before run
all-nothings p (Append set field ∷ before) run = all-nothings p before run
all-nothings p (Tick ms closing samples done ∷ before) run =
    let sends = sends_of p (Tick ms closing samples done ∷ before) in
    let both = append-nothings (journal p before) (send_entries sends done) in
    let none = sent-nothings sends done in
    let rest = all-nothings p before run.1 in
    omega (arith, both, none, rest)
all-nothings p (Pump entries ∷ before) run =
    let both = append-nothings (journal p before) entries in
    let one = pump-nothings 65536 entries run.0 in
    let rest = all-nothings p before run.1 in
    omega (arith, both, one, rest)

pumps-few : (limit : ℕ) (p : Plan) (steps : List Step) → AreStepsOf limit p steps → pumps_in steps ≤ ticks_in steps
pumps-few limit p [] are = omega arith
pumps-few limit p (Enable id ∷ before) are = pumps-few limit p before are.1
pumps-few limit p (Disable id ∷ before) are = pumps-few limit p before are.1
pumps-few limit p (Append set field ∷ before) are = pumps-few limit p before are.1
pumps-few limit p (Tick ms closing samples done ∷ before) are = let rest = pumps-few limit p before are.1 in omega (arith, rest)
pumps-few limit p (Pump entries ∷ before) are = let less = are.0 in omega (arith, less)

pub few-nothings : (limit : ℕ) (p : Plan) (steps : List Step) (first rest : List Entry) → limit ≤ 2 ^ 42 → AreStepsOf limit p steps → IsRun p steps → journal p steps ≡ first ++ rest → EndsInNothings first → ⊥
few-nothings limit p steps first rest le are run e ends =
    let total = all-nothings p steps run in
    let pumps = pumps-few limit p steps are in
    let ticks = ticks-few limit p steps are in
    let split : nothings (journal p steps) ≡ nothings first + nothings rest = ap nothings e ∙ append-nothings first rest in
    let own : nothings first ≡ nothings ends.1 + nothings (replicate ends.0 Empty) = ap nothings ends.3 ∙ append-nothings ends.1 (replicate ends.0 Empty) in
    let many = replicated ends.0 in
    let count = ends.2 in
    omega (arith, le, total, pumps, ticks, split, own, many, count)

-- a session of a script is answered Nothing less often than that, and a new link has the patience for it
pub tells-to-the-end : (old new : MemoryLink) → patience_of old ≡ 2 ^ 64 - 1 → IsSome (told_by old) → TellsOn told_by patience_of session_nothings old new → IsSome (told_by new)
tells-to-the-end old new whole is on =
    let few : 4096 + 1 ≤ patience_of old = omega (arith, whole) in
    on.tells few is

state-of : (told : Option LinkState) → IsSome told → (state : LinkState) × (told ≡ Some state)
state-of None is = absurd (false≢true is)
state-of (Some state) is = (state, refl)

pub played-over : (old new : MemoryLink) (fates : List (ℕ × Fate)) (closed : Closed) → IsNewLink old → PlaysOver old new fates (Ok closed)
    → IsPlayOf built_in_config (small_script fates) (told_by new) closed → IsPlayedOver new fates closed
played-over old new fates closed made over played =
    let told = state-of (told_by new) (tells-to-the-end old new made.patience made.tells over.lasts) in
    record {
      state = told.0;
      tells = told.1;
      made = over.once.making ∙ made.made;
      opened = over.opened refl;
      played = played;
    }
