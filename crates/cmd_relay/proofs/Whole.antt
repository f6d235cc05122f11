-- The whole of what was relayed.
use Rattle.std.proofs.Common.{◌≡◌, refl, sym, ap, ◌∙◌, subst, arith, ℕ, ◌<◌, Bool, true, List, [], ◌∷◌, length, reverse, Option, option_and_then}
use Rattle.std.specs.Prelude.{IfSome}
use Rattle.ua_base.specs.Journal.{Entry, LinkState}
use Rattle.ps_config.specs.declared.parts.Config.{Config}
use Rattle.ps_report.specs.declared.closed.Closed.{Closed}
use Rattle.ps_report.specs.Conditions.{IsClosedOf}
use Rattle.report_laws.specs.Numbers.{HasNumbers, IsNumber}
use Rattle.report_laws.specs.ReaderNames.{NamesReaders}
use Rattle.ps_script.specs.declared.script.Script.{Script}
use Rattle.ps_script.specs.Sound.{IsScript}
use Rattle.reader_group.specs.Members.{seat_at}
use Rattle.reader_group.specs.Settings.{setting_of}
use Rattle.writer_group.specs.Parts.{group_at}
use Rattle.writer_group.specs.Payloads.{no_writer, writer_at}
use Rattle.writer_group.specs.Standing.{IsGood}
use Rattle.session_parts.proofs.Few.{sound-group}
use Rattle.session_model.specs.Closing.{MemberPlace, reader_places}
use Rattle.session_model.specs.Events.{reader_at}
use Rattle.session_model.specs.Keeping.{AreSteps, IsPlan}
use Rattle.session_model.specs.Sends.{IsRun, TellsRun}
use Rattle.session_model.specs.Steps as steps
use Rattle.session_model.specs.Steps.{Plan, Step}
use Rattle.session_laws.specs.Sessions.{AreVersions, SamplesRise}
use Rattle.pubsub_engine.specs.Holding.{passes_of}
use Rattle.pubsub_engine.specs.Standing.{Stands as SessionStands, samples_of}
use Rattle.gateway_core.specs.declared.collected.StoreVersion.{StoreVersion}
use Rattle.gateway_core.specs.Lived.{Collect, GatewayStep, Pump, Tick, collected, plan_again, session_steps, version_in}
use Rattle.gateway_core.specs.Holding.{sources_of}
use Rattle.gateway_core.specs.Standing.{Stands}
use Rattle.gateway_laws.specs.Gateways.{IsRelay}
use Rattle.gateway_laws.specs.Lives.{Lives}
use Rattle.gateway_laws.specs.Relays.{Collects, RelayStep, Round, firsts, seconds}
use Rattle.gateway_laws.proofs.Living.{lived-seconds, lived-versions}
use Rattle.script_player.specs.Player.{Closes, IsClosedBy}
use Rattle.script_player.specs.Plays.{IsPlayOf, plan_by, row_written}
use Rattle.script_player.proofs.Finished.{RunsTellTheHeadline, is-closed-of, is-play-by}
use Rattle.script_player.proofs.Headline.{HistoriesHaveRows}
use Rattle.script_player.proofs.Levelling.{levelled-closed}
use Rattle.cmd_relay.specs.declared.relaying.Relay.{Relay}
use Rattle.cmd_relay.specs.Numbers.{GatewayHasNumbers}
use Rattle.cmd_relay.specs.Relaying.{HasRelayed, IsRelayOf, RelaysEnd}
use Rattle.cmd_relay.specs.Texts.{IsReaderText, IsTextOf, TextsOf, kept_by_index, relayed_line, store_held, versions_of}
use Rattle.cmd_relay.proofs.Showing.{ShowsCollected}
use Rattle.cmd_relay.proofs.Stepping.{collected-now, shows-now}
use Rattle.cmd_relay.proofs.Tells.{LinesLaw}

-- ---- texts by other words for what was kept

abbrev with_version : Config → List Step → ℕ → ℕ → ℕ → ℕ → Option ℕ → List ℕ
with_version second all r i g w version =
    let seat = seat_at (setting_of second r).seats i in
    relayed_line seat.part.name seat.meta.fields (reader_at second r i all).kept (store_held second all r i g w) version

reader-kept : (second : Config) (all : List Step) (one other : ℕ → List StoreVersion) (place : MemberPlace) (text : List ℕ) → IsGood second → ((set : ℕ) → set < length second.dataset → one set ≡ other set)
    → IsReaderText second all one place text → IsReaderText second all other place text
reader-kept second all one other place text good same is = record {
  matched = λ g w low matched.
      let set = (writer_at (group_at second g) w).dataset in
      let there : set < length second.dataset = ((sound-group second g good low).writers w no_writer matched.reads.within).dataset in
      is.matched g w low matched ∙ (λ i. with_version second all place.0 place.1 g w (option_and_then (version_in (same set there i)) (store_held second all place.0 place.1 g w)));
  unmatched = is.unmatched;
}

texts-kept : (second : Config) (all : List Step) (one other : ℕ → List StoreVersion) (places : List MemberPlace) (text : List ℕ) → IsGood second → ((set : ℕ) → set < length second.dataset → one set ≡ other set)
    → TextsOf (IsReaderText second all one) places text → TextsOf (IsReaderText second all other) places text
texts-kept second all one other [] text good same is = is
texts-kept second all one other (place ∷ places) text good same (first, rest, is, later, whole) =
    (first, rest, reader-kept second all one other place first good same is, texts-kept second all one other places rest good same later, whole)

text-kept : (first : Config) (closed : Closed) (second : Config) (all : List Step) (one other : ℕ → List StoreVersion) (text : List ℕ) → IsGood second
    → ((set : ℕ) → set < length second.dataset → one set ≡ other set) → IsTextOf first closed second all one text → IsTextOf first closed second all other text
text-kept first closed second all one other text good same is = record {
  report = is.report;
  report_is = is.report_is;
  writers = is.writers;
  writers_are = is.writers_are;
  readers = is.readers;
  readers_are = texts-kept second all one other (reader_places second) is.readers good same is.readers_are;
  text_is = is.text_is;
}

numbers-kept : (second : Config) (all : List Step) (one other : ℕ → List StoreVersion) → IsGood second → ((set : ℕ) → set < length second.dataset → one set ≡ other set)
    → GatewayHasNumbers second all one → GatewayHasNumbers second all other
numbers-kept second all one other good same has = record {
  logs = has.logs;
  readers = λ r i g w low matched.
      let set = (writer_at (group_at second g) w).dataset in
      let there : set < length second.dataset = ((sound-group second g good low).writers w no_writer matched.reads.within).dataset in
      let its = has.readers r i g w low matched in
      record {
        number = its.number;
        version = subst (λ (kept : List StoreVersion). IfSome (option_and_then (version_in kept) (store_held second all r i g w)) IsNumber) (same set there) its.version;
        row = its.row;
      };
}

-- ---- the end

module _ (law : ShowsCollected) (rows : HistoriesHaveRows) (tells-all : RunsTellTheHeadline) (first second : Config) (script : Script) (scripts : IsScript first script) (plan : IsPlan (plan_by first script))
    (again : IsPlan (plan_again second)) (lab wire lab_after wire_after : Option LinkState) (r new : Relay) (h : HasRelayed first second script (reverse script.lines) lab wire r)
    (e : RelaysEnd second r new lab lab_after wire wire_after) (closed : Closed) (by : IsClosedBy new.player closed) where
  abbrev p : Plan
  p = plan_by first script

  abbrev closing : Closes r.player lab lab_after closed
  closing = record { new = e.mid; player = e.player; ends = e.ends; by = levelled-closed e.mid new.player closed e.behind.levels by }

  pub closed-of : IsClosedOf first closed
  closed-of = is-closed-of first script scripts plan lab lab_after r.player h.player h.played closed closing rows tells-all

  play : (play : IsPlayOf first script lab_after closed) × (done : List Bool) × (entries : List Entry)
      × (play.steps ≡ steps.Pump entries ∷ steps.Tick 0 true (samples_of (passes_of e.mid.session)) done ∷ h.played.steps)
      × SessionStands p (steps.Pump entries ∷ steps.Tick 0 true (samples_of (passes_of e.mid.session)) done ∷ h.played.steps) e.mid.session
  play =
      let is = is-play-by first script scripts plan lab lab_after r.player h.player h.played closed closing rows tells-all in
      let led = e.ends.by.leads p h.played.steps h.played.stands in
      (is.0, led.0, led.1, is.1, led.2)

  module _ (lines : LinesLaw) (text : List ℕ) (told : (lived : List GatewayStep) → Stands second lived new.gateway
      → IsTextOf first closed second (session_steps (sources_of new.gateway) lived) (kept_by_index (sources_of new.gateway) lived) text)
      (counted : (lived : List GatewayStep) → Stands second lived new.gateway
      → GatewayHasNumbers second (session_steps (sources_of new.gateway) lived) (kept_by_index (sources_of new.gateway) lived)) where
    pub relayed : NamesReaders first → HasNumbers closed → IsRelayOf first second script lab_after wire_after text
    relayed names numbers =
        let all = samples_of (passes_of e.mid.session) in
        let played = play in
        let f = e.behind in
        let now : List Step = steps.Pump played.2 ∷ steps.Tick 0 true all played.1 ∷ firsts h.relay in
        let now_is : played.0.steps ≡ now = played.3 ∙ ap (λ (l : List Step). steps.Pump played.2 ∷ steps.Tick 0 true all played.1 ∷ l) (sym h.firsts_are) in
        let stood : SessionStands p now e.mid.session = subst (λ (l : List Step). SessionStands p (steps.Pump played.2 ∷ steps.Tick 0 true all played.1 ∷ l) e.mid.session) (sym h.firsts_are) played.4 in
        let stands : SessionStands p now new.player.session = f.levels.stands p now stood in
        let led = f.lives h.lived h.stands in
        let places = sources_of r.gateway in
        let shown = collected places new.player.watches in
        let lived : List GatewayStep = Pump led.1 ∷ Tick 0 true led.0 ∷ Collect new.player.watches new.origins.items ∷ h.lived in
        let relay : List RelayStep = Round 0 true all played.1 played.2 shown led.0 led.1 ∷ h.relay in
        let lives : Lives p places h.sources relay lived = (
          new.player.watches,
          new.origins.items,
          h.lived,
          refl,
          refl,
          shows-now law first second script places h.sources h.indexes h.sources_are h.places e.mid e.player new 0 true (record r { player = e.mid }) refl wire wire_after f h.origins now stands,
          h.lives,
        ) in
        let collects : Collects first second h.sources relay =
        (collected-now law first second script places h.sources h.indexes h.sources_are h.places e.mid e.player new 0 true (record r { player = e.mid }) refl wire wire_after f h.origins now stands, h.collected) in
        let seconds_are : session_steps places lived ≡ seconds relay = lived-seconds p places h.sources relay lived lives in
        let told_by : IsTextOf first closed second (session_steps places lived) (kept_by_index places lived) text =
        subst (λ (l : List ℕ). IsTextOf first closed second (session_steps l lived) (kept_by_index l lived) text) f.sources (told lived led.2) in
        let is_relay : IsRelay p second h.sources relay = record {
          plan = plan;
          steps_are = subst (AreSteps p) now_is played.0.steps_are;
          run = subst (IsRun p) now_is played.0.run;
          rise = subst (SamplesRise p) now_is played.0.lived.rise;
          again_plan = again;
          again_run = subst (IsRun (plan_again second)) (ap (λ (l : List ℕ). session_steps l lived) f.sources ∙ seconds_are) led.2.session.run;
          sources_are = h.sources_are;
          collects = collects;
        } in
        let text_is : IsTextOf first closed second (seconds relay) (versions_of p h.sources relay) text =
        subst (λ (l : List Step). IsTextOf first closed second l (versions_of p h.sources relay) text) seconds_are
        (text-kept first closed second (session_steps places lived) (kept_by_index places lived) (versions_of p h.sources relay) text again.good
        (λ set lt. lived-versions p places h.sources relay lived set (let c = h.indexes.count in omega (arith, lt, c)) lives) told_by) in
        let counted_by : GatewayHasNumbers second (session_steps places lived) (kept_by_index places lived) =
        subst (λ (l : List ℕ). GatewayHasNumbers second (session_steps l lived) (kept_by_index l lived)) f.sources (counted lived led.2) in
        let has_numbers : GatewayHasNumbers second (seconds relay) (versions_of p h.sources relay) =
        subst (λ (l : List Step). GatewayHasNumbers second l (versions_of p h.sources relay)) seconds_are
        (numbers-kept second (session_steps places lived) (kept_by_index places lived) (versions_of p h.sources relay) again.good
        (λ set lt. lived-versions p places h.sources relay lived set (let c = h.indexes.count in omega (arith, lt, c)) lives) counted_by) in
        record {
          closed = closed;
          play = played.0;
          reported = record { names = names; numbers = numbers; closed_of = closed-of };
          sources = h.sources;
          relay = relay;
          firsts_are = sym now_is;
          is_relay = is_relay;
          tells = subst (λ (l : List Step). TellsRun (plan_again second) l wire_after) seconds_are (led.3 h.tells);
          text_is = text_is;
          numbers = has_numbers;
          gateway = lines p first second h.sources relay (row_written script) closed text is_relay
              (subst (λ (l : List Step). AreVersions p l (row_written script)) now_is played.0.lived.versions) text_is;
        }
