-- What a tick sends can come, all of it.
use Rattle.std.proofs.Common.{◌≡◌, refl, ap, arith, ℕ, zero, suc, ◌<◌, ◌≤◌, Bool, true, List, [], ◌∷◌, ◌++◌, map, length, All, Contains}
use Rattle.std.specs.Prelude.{slice_index_or}
use Rattle.std.proofs.lemmas.List.{length-map}
use Rattle.std.proofs.lemmas.List.Elements.{All-head, All-tail, Contains-append_right}
use Rattle.dataset_meta.specs.declared.field.Field.{Field}
use Rattle.dataset_meta.specs.Metas.{MetaData}
use Rattle.ua_base.specs.Journal.{Entry, Sent, Got, Empty}
use Rattle.writer_group.specs.declared.sampled.Sampled.{Sampled}
use Rattle.writer_group.specs.Turns.{no_sample}
use Rattle.session_model.specs.Counts.{longest_datagram, most_taken, pumps_in, ticks_in}
use Rattle.session_model.specs.Keeping.{AreSteps, IsPlan, MayCome, MayGrow}
use Rattle.session_model.specs.Sends.{IsPump, Send, journal, send_entries, sends_of}
use Rattle.session_model.specs.Steps.{Plan, Step, Enable, Disable, Append, Tick, Pump}
use Rattle.session_laws.specs.Delivered.{all_done, all_got, delivered_on, sent_on}
use Rattle.session_laws.specs.Headline.{InSession}
use Rattle.session_laws.specs.Reading.{IsMatchedIn}
use Rattle.session_laws.specs.Sessions.{HasSample, TakesWhatWasSent}
use Rattle.session_laws.proofs.HeldRows.Taking.{taken-append, taken-none, taken-pump, taken-tick}
use Rattle.session_laws.proofs.Versions.Telling.{writer-index}

-- ---- sends and their receives

abbrev done : List Send → List Bool
done sends = map (λ send. true) sends

-- each that is got is one of them
gets-sent : (sends : List Send) (first behind : List Entry) (datagram : List ℕ) → map (λ send. Got send.datagram) sends ++ Empty ∷ [] ≡ first ++ Got datagram ∷ behind
    → Contains (send_entries sends (done sends)) (Sent datagram)
gets-sent [] [] behind datagram e = absurd (cc)
gets-sent [] (entry ∷ []) behind datagram e = absurd (cc)
gets-sent [] (entry ∷ other ∷ first) behind datagram e = absurd (cc)
gets-sent (send ∷ sends) [] behind datagram e = let same : send.datagram ≡ datagram = cc in (0, omega arith, ap (λ (d : List ℕ). Sent d) same)
gets-sent (send ∷ sends) (entry ∷ first) behind datagram e =
    let rest = gets-sent sends first behind datagram (let tail : map (λ (send : Send). Got send.datagram) sends ++ Empty ∷ [] ≡ first ++ Got datagram ∷ behind = cc in tail) in
    (suc rest.0, let lt = rest.1 in omega (arith, lt), rest.2)

delivered-taken : (p : Plan) (r ms : ℕ) (closing : Bool) (samples : List Sampled) (before : List Step) → TakesWhatWasSent p r before → TakesWhatWasSent p r (delivered_on p ms closing samples before)
delivered-taken p r ms closing samples before taken =
    let sent = sent_on p ms closing samples before in
    let sends = sends_of p sent in
    taken-pump p r (all_got p sent) sent
    (λ first behind datagram e takes. Contains-append_right (journal p before) (send_entries sends (done sends)) (Sent datagram) (gets-sent sends first behind datagram e))
    (taken-tick p r ms closing samples (all_done p ms closing samples before) before taken)

-- datagrams that aren't too many, and none too long
pub pump-of : (sends : List Send) (left : ℕ) → length sends < left → All (λ send. length send.datagram ≤ longest_datagram) sends → IsPump left (map (λ send. Got send.datagram) sends ++ Empty ∷ [])
pump-of [] zero lt all = absurd (omega (arith, lt))
pump-of [] (suc left) lt all = refl
pump-of (send ∷ sends) zero lt all = absurd (omega (arith, lt))
pump-of (send ∷ sends) (suc left) lt all =
    (All-head (λ send. length send.datagram ≤ longest_datagram) send sends all, pump-of sends left (omega (arith, lt)) (All-tail (λ send. length send.datagram ≤ longest_datagram) send sends all))

-- ---- a session more

pumps-few : (p : Plan) (steps : List Step) → AreSteps p steps → pumps_in steps ≤ ticks_in steps
pumps-few p [] are = omega arith
pumps-few p (Enable id ∷ before) are = pumps-few p before are.1
pumps-few p (Disable id ∷ before) are = pumps-few p before are.1
pumps-few p (Append set field ∷ before) are = pumps-few p before are.1
pumps-few p (Tick ms closing samples done ∷ before) are = let rest = pumps-few p before are.1 in omega (arith, rest)
pumps-few p (Pump entries ∷ before) are = let low = are.0 in omega (arith, low)

pub opening-session : (p : Plan) (r i g w : ℕ) → IsPlan p → IsMatchedIn p.config r i g w → InSession p r i g w []
opening-session p r i g w plan matched = record {
  plan = plan;
  steps_are = tt;
  run = tt;
  rise = tt;
  there = writer-index p.config g w matched.reads.within;
  matched = matched;
  honest = taken-none p r;
}

pub delivered-session : (p : Plan) (r i g w ms : ℕ) (closing : Bool) (samples : List Sampled) (before : List Step) → InSession p r i g w before → MayCome p before ms closing samples
    → ((index : ℕ) (now : MetaData) (sample : Sampled) → HasSample p before index now sample → sample.version ≤ (slice_index_or samples index no_sample).version)
    → IsPump most_taken (all_got p (sent_on p ms closing samples before)) → InSession p r i g w (delivered_on p ms closing samples before)
delivered-session p r i g w ms closing samples before is may rise pump = record {
  plan = is.plan;
  steps_are = (let few = pumps-few p before is.steps_are in omega (arith, few), (may, is.steps_are));
  run = (pump, (length-map (sends_of p (sent_on p ms closing samples before)) (λ send. true), is.run));
  rise = (rise, is.rise);
  there = is.there;
  matched = is.matched;
  honest = delivered-taken p r ms closing samples before is.honest;
}

pub appended-session : (p : Plan) (r i g w set : ℕ) (field : Field) (before : List Step) → InSession p r i g w before → MayGrow p before set field → InSession p r i g w (Append set field ∷ before)
appended-session p r i g w set field before is may = record {
  plan = is.plan;
  steps_are = (may, is.steps_are);
  run = is.run;
  rise = is.rise;
  there = is.there;
  matched = is.matched;
  honest = taken-append p r set field before is.honest;
}
