-- What a player keeps when its watches are levelled, and what they show then.
use Rattle.std.proofs.Common.{◌≡◌, ◌<◌, ℕ, List, length, refl, sym, ap, subst, get_or, Option}
use Rattle.version_cell.specs.Known.{Known}
use Rattle.version_cell.specs.Sets.{ArePassesOf, pass_at}
use Rattle.ua_base.specs.Journal.{LinkState}
use Rattle.ps_config.specs.declared.parts.Config.{Config}
use Rattle.ps_config.specs.Sound.{readers}
use Rattle.ps_report.specs.Conditions.{IsClosedOf}
use Rattle.ps_report.specs.declared.closed.Closed.{Closed}
use Rattle.ps_script.specs.declared.script.Line.{Line}
use Rattle.ps_script.specs.declared.script.Script.{Script}
use Rattle.session_model.specs.Steps.{Plan, Step}
use Rattle.pubsub_engine.specs.declared.session.Session.{Session}
use Rattle.pubsub_engine.specs.declared.storing.Stores.{Stores}
use Rattle.pubsub_engine.specs.Authored.{AreLooksAt, HasThreads, IsAuthored}
use Rattle.pubsub_engine.specs.Standing.{Stands}
use Rattle.pubsub_engine.specs.Holding.{AreTargetsOf, IsSession, passes_of, plan_of}
use Rattle.script_player.specs.declared.player.Player.{Player}
use Rattle.script_player.specs.Plays.{plan_by}
use Rattle.script_player.specs.Player.{AreDonesOf, HasPlayed, IsClosedBy, IsPlayer, Levels, SeeNoMore}
use Rattle.script_player.proofs.Staying.{bank-stays, script-stays, stores-last}

pub player-levelled : (old : Player) (session : Session) (watches : List Known) → IsPlayer old → Levels old (record old { session = session; watches = watches })
    → IsSession session → AreTargetsOf session old.targets → ArePassesOf old.targets.cells watches
    → IsPlayer (record old { session = session; watches = watches })
player-levelled old session watches is levels holds targets own =
    let plan = ap plan_of levels.stores in
    let passes = ap passes_of levels.stores in
    record {
      session = holds;
      of_script = script-stays old.session session (stores-last old.session session levels.stores) is.of_script;
      bank = bank-stays old.session session old.bank plan passes is.bank;
      cells = is.cells;
      targets = targets;
      watches = own;
      eight = is.eight;
      hands = is.hands;
      behind = λ t lt d. subst (SeeNoMore (get_or old.hands.items t d).passes) (sym passes) (is.behind t lt d);
    }

-- what was played was played, by the same steps
abbrev pub StillPlayed : (config : Config) (script : Script) (lines : List Line) (told : Option LinkState) (old : Player) → HasPlayed config script lines told old → Player → Type 0
StillPlayed config script lines told old h new = (later : HasPlayed config script lines told new) × (later.steps ≡ h.steps)

module _ (config : Config) (script : Script) (lines : List Line) (told : Option LinkState) (old : Player) (h : HasPlayed config script lines told old) where
  with_stores : (stores : Stores) (watches : List Known) → Stands (plan_by config script) h.steps (record old.session { stores = stores })
      → StillPlayed config script lines told old h (record old { session = record old.session { stores = stores }; watches = watches })
  with_stores stores watches stands = (
    record {
      steps = h.steps;
      looks = h.looks;
      stands = stands;
      tells = h.tells;
      switches = h.switches;
      ticks = h.ticks;
      pumps = h.pumps;
      running = h.running;
      appends = h.appends;
      quotas = h.quotas;
      made = h.made;
      looked = h.looked;
      looks_there = h.looks_there;
      exact = λ flush. let e = h.exact flush in record { played = e.played; seen = e.seen; versions = e.versions };
    },
    refl,
  )

  pub levelled-played : (new : Player) → Levels old new → StillPlayed config script lines told old h new
  levelled-played new levels =
      let stands = levels.stands (plan_by config script) h.steps h.stands in
      subst (StillPlayed config script lines told old h) (sym levels.rest)
      (subst (λ (s : Session). StillPlayed config script lines told old h (record old { session = s; watches = new.watches })) (sym levels.stores)
      (with_stores new.session.stores new.watches (subst (Stands (plan_by config script) h.steps) levels.stores stands)))

-- what the levelled player is closed as, the other may be
pub levelled-closed : (old new : Player) (closed : Closed) → Levels old new → IsClosedBy new closed → IsClosedBy old closed
levelled-closed old new closed levels by =
    let passes : passes_of new.session ≡ passes_of old.session = ap passes_of levels.stores in
    let plan : plan_of new.session ≡ plan_of old.session = ap plan_of levels.stores in
    let hands = ap (λ (q : Player). q.hands.items) levels.rest in
    record {
      dones = by.dones;
      dones_are = subst (λ hands. AreDonesOf hands by.dones) hands by.dones_are;
      closed_after = λ p steps stands. by.closed_after p steps (levels.stands p steps stands);
      histories = subst (λ (l : List Known). (set : ℕ) (threads : List ℕ) → set < length l → IsAuthored set by.dones threads
          → length threads ≡ length (pass_at l set).seen
          → HasThreads closed.histories set threads) passes by.histories;
      watches = by.watches;
      closed_of = subst (λ (q : Plan). (steps : List Step) → Stands q steps old.session → AreLooksAt (readers q.config) by.dones
          → IsClosedOf q.config closed) plan
          (λ steps stands. by.closed_of steps (levels.stands (plan_of new.session) steps stands));
    }
