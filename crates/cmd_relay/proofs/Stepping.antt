-- One line more was relayed.
use Rattle.std.proofs.Common.{◌≡◌, refl, sym, ap, ◌∙◌, subst, arith, ℕ, ◌+◌, ◌<◌, Bool, true, false, List, ◌∷◌, length, reverse, take, get_or, Option}
use Rattle.std.specs.Prelude.{slice_index_or}
use Rattle.ua_base.specs.Journal.{Entry, LinkState}
use Rattle.ps_config.specs.declared.parts.Config.{Config}
use Rattle.ps_config.specs.Sound.{IsSound, readers}
use Rattle.ps_script.specs.declared.script.Act.{Act}
use Rattle.ps_script.specs.declared.script.Act.TheVariants as act
use Rattle.ps_script.specs.declared.script.Line.{Line}
use Rattle.ps_script.specs.declared.script.Script.{Script}
use Rattle.ps_script.specs.Sessions.{is_tick}
use Rattle.writer_group.specs.declared.sampled.Sampled.{Sampled}
use Rattle.session_model.specs.Sends.{TellsRun}
use Rattle.session_model.specs.Steps as steps
use Rattle.session_model.specs.Steps.{Plan, Step}
use Rattle.pubsub_engine.specs.Standing.{Stands as SessionStands}
use Rattle.gateway_core.specs.Lived.{Collect, GatewayStep, Pump, Tick, collected, no_origin, plan_again, session_steps}
use Rattle.gateway_core.specs.Holding.{sources_of}
use Rattle.gateway_core.specs.Sources.{HaveSources as HaveIndexes}
use Rattle.gateway_laws.specs.Lives.{ArePlaces, Lives, ShowsOrigins as ShowsSources}
use Rattle.gateway_laws.specs.Relays.{Append, AreCollected, Collects, Disable, Enable, RelayStep, Round, firsts}
use Rattle.gateway_laws.specs.Sources.{HaveSources, Source, source_at}
use Rattle.script_player.specs.declared.player.Player.{Player}
use Rattle.script_player.specs.Player.{GrowsBy, HasPlayed, IsPlayer, MayDo, config_of}
use Rattle.script_player.specs.Plays.{plan_by}
use Rattle.script_player.proofs.Exact.{hits, skips}
use Rattle.script_player.proofs.Levelling.{levelled-played}
use Rattle.script_player.proofs.Next.{IsNextLine, may_do, next_line, no_line, played_next, turned_more}
use Rattle.ps_script.specs.Sound.{IsScript}
use Rattle.cmd_relay.specs.declared.relaying.Relay.{Relay}
use Rattle.cmd_relay.specs.Relaying.{Follows, HasRelayed, HoldsRelay, IsBehind, RelaysLine}
use Rattle.cmd_relay.proofs.Following.{level-seen}
use Rattle.cmd_relay.proofs.Origins.{origin-is}
use Rattle.cmd_relay.proofs.Showing.{ShowsCollected, are-collected}

-- ---- what is relayed is a gateway that follows

module _ (first second : Config) (script : Script) (lines : List Line) (lab wire : Option LinkState) (r : Relay) (h : HasRelayed first second script lines lab wire r) where
  pub config-is : config_of r.player ≡ first
  config-is = ap (λ (q : Plan). q.config) h.played.stands.plan

  pub holds-relay : HoldsRelay second 0 r
  holds-relay = record {
    player = h.player;
    plan = plan_by first script;
    steps = h.played.steps;
    stood = h.played.stands;
    gateway = h.gateway;
    lived = h.lived;
    stands = h.stands;
    origins = h.origins ∙ ap (λ (c : Config). length (readers c)) (sym config-is);
    sources = subst (λ (c : Config). HaveIndexes c second (sources_of r.gateway)) (sym config-is) h.indexes;
    ticks = (let a = h.ticks in let b = h.played.ticks in omega (arith, a, b));
    collects = h.collects;
    pumps = h.pumps;
    running = h.running;
  }

-- ---- what the gateway was shown

module _ (law : ShowsCollected) (first second : Config) (script : Script) (places : List ℕ) (sources : List Source) (indexes : HaveIndexes first second places)
    (sources_are : HaveSources first second sources) (at : ArePlaces first places sources) (mid : Player) (was : IsPlayer mid) (new : Relay) (ms : ℕ) (closing : Bool) (old : Relay)
    (from : old.player ≡ mid) (told after : Option LinkState) (f : Follows second ms closing old new told after) (enough : length old.origins.items ≡ length (readers first))
    (now : List Step) (stands : SessionStands (plan_by first script) now new.player.session) where
  named : config_of new.player ≡ first
  named = ap (λ (q : Plan). q.config) stands.plan

  count : length new.origins.items ≡ length (readers (config_of new.player))
  count = f.count ∙ enough ∙ ap (λ (c : Config). length (readers c)) (sym named)

  old-is : IsPlayer old.player
  old-is = subst IsPlayer (sym from) was

  pub collected-now : AreCollected first second sources now (collected places new.player.watches)
  collected-now =
      subst (λ (c : Config). HaveIndexes c second places → HaveSources c second sources → ArePlaces c places sources → AreCollected c second sources now (collected places new.player.watches)) named
      (λ have are places_are.
      are-collected law new.player f.player f.levels.lawful (level-seen old.player new.player f.levels old-is f.player) (λ low. f.shows.sound (let e = count in omega (arith, low, e))) second places have
      (plan_by first script) now sources stands are places_are) indexes sources_are at

  pub shows-now : ShowsSources (plan_by first script) places sources now new.origins.items
  shows-now set lt =
      let place = at.each set lt in
      let source = source_at sources set in
      let is = sources_are.each set (let c = indexes.count in omega (arith, lt, c)) in
      let low : slice_index_or places set 0 < length (readers first) = Rattle.pubsub_engine.proofs.Places.within-all first (slice_index_or places set 0) (source.read_group, source.reader) place in
      origin-is (plan_by first script) (Rattle.session_model.specs.Sets.meta_in second.dataset set) source now (slice_index_or new.origins.items (slice_index_or places set 0) no_origin) sound is
      (f.shows.origins_are (slice_index_or places set 0) (let e = f.count in omega (arith, low, e, enough)) (plan_by first script) now (source.read_group, source.reader) stands place)
    where
      sound : IsSound first
      sound = subst IsSound named f.player.session.good.sound

-- ---- one line

module _ (law : ShowsCollected) (first second : Config) (script : Script) (lines : List Line) (lab wire : Option LinkState) (r : Relay) (h : HasRelayed first second script lines lab wire r) where
  places : List ℕ
  places = sources_of r.gateway

  module _ (line : Line) (lab_after wire_after : Option LinkState) (mid : Player) (is : IsPlayer mid) (later : HasPlayed first script (line ∷ lines) lab_after mid) (new : Relay) where
    -- the gateway is as it was
    kept : (relay : List RelayStep) → firsts relay ≡ later.steps → Lives (plan_by first script) (sources_of r.gateway) h.sources relay h.lived → Collects first second h.sources relay
        → is_tick line.act ≡ false → (new ≡ record r { player = mid }) × (wire_after ≡ wire) → HasRelayed first second script (line ∷ lines) lab_after wire_after new
    kept relay firsts_are lives collected no_tick (same, told) =
        subst (λ (x : Relay). HasRelayed first second script (line ∷ lines) lab_after wire_after x) (sym same)
        (subst (λ (t : Option LinkState). HasRelayed first second script (line ∷ lines) lab_after t (record r { player = mid })) (sym told)
        (record {
          player = is;
          played = later;
          gateway = h.gateway;
          keeps = h.keeps;
          origins = h.origins;
          indexes = h.indexes;
          sources = h.sources;
          sources_are = h.sources_are;
          places = h.places;
          ticks = (let a = h.ticks in omega (arith, a, skips (λ (l : Line). is_tick l.act) line lines no_tick));
          collects = h.collects;
          pumps = h.pumps;
          running = h.running;
          relay = relay;
          firsts_are = firsts_are;
          lived = h.lived;
          lives = lives;
          stands = h.stands;
          collected = collected;
          tells = h.tells;
        }))

    -- it followed a tick
    followed : (ms : ℕ) (samples : List Sampled) (done : List Bool) (entries : List Entry) → is_tick line.act ≡ true
        → later.steps ≡ steps.Pump entries ∷ steps.Tick ms false samples done ∷ h.played.steps → Follows second ms false (record r { player = mid }) new wire wire_after
        → HasRelayed first second script (line ∷ lines) lab_after wire_after new
    followed ms samples done entries tick grows f =
        let p = plan_by first script in
        let still = levelled-played first script (line ∷ lines) lab_after mid later new.player f.levels in
        let now : List Step = steps.Pump entries ∷ steps.Tick ms false samples done ∷ firsts h.relay in
        let now_is : still.0.steps ≡ now = still.1 ∙ grows ∙ ap (λ (l : List Step). steps.Pump entries ∷ steps.Tick ms false samples done ∷ l) (sym h.firsts_are) in
        let stands : SessionStands p now new.player.session = subst (λ (l : List Step). SessionStands p l new.player.session) now_is still.0.stands in
        let led = f.lives h.lived h.stands in
        let shown = collected (sources_of r.gateway) new.player.watches in
        let lived : List GatewayStep = Pump led.1 ∷ Tick ms false led.0 ∷ Collect new.player.watches new.origins.items ∷ h.lived in
        let relay : List RelayStep = Round ms false samples done entries shown led.0 led.1 ∷ h.relay in
        record {
          player = f.player;
          played = still.0;
          gateway = f.gateway;
          keeps = f.keeps h.keeps;
          origins = f.count ∙ h.origins;
          indexes = subst (HaveIndexes first second) (sym f.sources) h.indexes;
          sources = h.sources;
          sources_are = h.sources_are;
          places = subst (λ (l : List ℕ). ArePlaces first l h.sources) (sym f.sources) h.places;
          ticks = (let a = h.ticks in let b = f.ticks in omega (arith, a, b, hits (λ (l : Line). is_tick l.act) line lines tick));
          collects = (let a = h.collects in let b = f.ticks in let c = f.collects in omega (arith, a, b, c));
          pumps = f.pumps ∙ h.pumps;
          running = f.closed;
          relay = relay;
          firsts_are = sym now_is;
          lived = lived;
          lives = subst (λ (l : List ℕ). Lives p l h.sources relay lived) (sym f.sources) (
            new.player.watches,
            new.origins.items,
            h.lived,
            refl,
            refl,
            shows-now law first second script (sources_of r.gateway) h.sources h.indexes h.sources_are h.places mid is new ms false (record r { player = mid }) refl wire wire_after f h.origins now stands,
            h.lives,
          );
          stands = led.2;
          collected = (collected-now law first second script (sources_of r.gateway) h.sources h.indexes h.sources_are h.places mid is new ms false (record r { player = mid }) refl wire wire_after f h.origins now stands, h.collected);
          tells = subst (λ (l : List ℕ). TellsRun (plan_again second) (session_steps l lived) wire_after) (sym f.sources) (led.3 h.tells);
        }

  behind : (at : ℕ) (what : Act) (lab_after wire_after : Option LinkState) (mid : Player) (is : IsPlayer mid) (later : HasPlayed first script (record { at = at; act = what } ∷ lines) lab_after mid) (new : Relay)
      → GrowsBy what h.played.steps later.steps → IsBehind second what (record r { player = mid }) new wire wire_after
      → HasRelayed first second script (record { at = at; act = what } ∷ lines) lab_after wire_after new
  behind at (act.Write thread set patch) lab_after wire_after mid is later new grows b =
      kept (record { at = at; act = act.Write thread set patch }) lab_after wire_after mid is later new h.relay (h.firsts_are ∙ sym grows) h.lives h.collected refl b
  behind at (act.Tick ms) lab_after wire_after mid is later new (samples, done, entries, grows) f =
      followed (record { at = at; act = act.Tick ms }) lab_after wire_after mid is later new ms samples done entries refl grows f
  behind at (act.Enable id) lab_after wire_after mid is later new grows b =
      kept (record { at = at; act = act.Enable id }) lab_after wire_after mid is later new (Enable id ∷ h.relay) (ap (λ (l : List Step). steps.Enable id ∷ l) h.firsts_are ∙ sym grows) h.lives h.collected refl b
  behind at (act.Disable id) lab_after wire_after mid is later new grows b =
      kept (record { at = at; act = act.Disable id }) lab_after wire_after mid is later new (Disable id ∷ h.relay) (ap (λ (l : List Step). steps.Disable id ∷ l) h.firsts_are ∙ sym grows) h.lives h.collected refl b
  behind at (act.Fated k fate) lab_after wire_after mid is later new grows b =
      kept (record { at = at; act = act.Fated k fate }) lab_after wire_after mid is later new h.relay (h.firsts_are ∙ sym grows) h.lives h.collected refl b
  behind at (act.Watch thread reader times) lab_after wire_after mid is later new grows b =
      kept (record { at = at; act = act.Watch thread reader times }) lab_after wire_after mid is later new h.relay (h.firsts_are ∙ sym grows) h.lives h.collected refl b
  behind at (act.Append set) lab_after wire_after mid is later new (field, grows) b =
      kept (record { at = at; act = act.Append set }) lab_after wire_after mid is later new (Append set field ∷ h.relay) (ap (λ (l : List Step). steps.Append set field ∷ l) h.firsts_are ∙ sym grows) h.lives h.collected refl b

  pub relayed-line : (line : Line) (lab_after wire_after : Option LinkState) (new : Relay) → IsNextLine first script lines line → RelaysLine second line.act r new lab lab_after wire wire_after
      → HasRelayed first second script (line ∷ lines) lab_after wire_after new
  relayed-line line lab_after wire_after new next on =
      let played = played_next first script lines lab r.player h.player h.played line.at line.act lab_after on.mid on.player next on.does in
      behind line.at line.act lab_after wire_after on.mid on.player played.0 new played.1 on.behind

-- ---- the lines in order

module _ (first second : Config) (script : Script) (items : List Line) (k : ℕ) (scripts : IsScript first script) (same : items ≡ script.lines) (lt : k < length items) where
  abbrev line : Line
  line = get_or items k no_line

  within : k < length script.lines
  within = omega (arith, lt, ap (λ (l : List Line). length l) same)

  next : IsNextLine first script (reverse (take k script.lines)) line
  next = subst (λ (l : List Line). IsNextLine first script (reverse (take k script.lines)) (get_or l k no_line)) (sym same) (next_line first script k no_line scripts within)

  pub may-line : (lab wire : Option LinkState) (r : Relay) → HasRelayed first second script (reverse (take k script.lines)) lab wire r → MayDo line.act r.player
  may-line lab wire r h = may_do first script (reverse (take k script.lines)) lab r.player h.player h.played line.at scripts line.act next

  pub relayed-next : ShowsCollected → (lab wire lab_after wire_after : Option LinkState) (r new : Relay) → HasRelayed first second script (reverse (take k script.lines)) lab wire r
      → RelaysLine second line.act r new lab lab_after wire wire_after → HasRelayed first second script (reverse (take (k + 1) script.lines)) lab_after wire_after new
  relayed-next law lab wire lab_after wire_after r new h on =
      subst (λ (l : List Line). HasRelayed first second script l lab_after wire_after new)
      (sym (turned_more script.lines k no_line within ∙ ap (λ (l : List Line). get_or l k no_line ∷ reverse (take k script.lines)) (sym same)))
      (relayed-line law first second script (reverse (take k script.lines)) lab wire r h line lab_after wire_after new next on)
