use Rattle.std.proofs.Common.{◌≡◌, ℕ, ◌+◌, List, [], Err, refl, length, map, reverse, sym, ap, ◌∙◌, subst, arith}
use Rattle.std.specs.List.{range_with_len}
use Rattle.std.proofs.lemmas.Bool.{false≢true}
use Rattle.std.proofs.lemmas.List.{length-map}
use Rattle.std.proofs.lemmas.List.FromFn.{length-range_with_len}
use Rattle.dataset_meta.specs.Metas.{MetaData}
use Rattle.ua_base.specs.declared.link.Opened.TheVariants.{Failed, Memory}
use Rattle.app_threads.specs.Crews.{AreDone, AreReady}
use Rattle.app_threads.specs.Duties.{Duty}
use Rattle.ps_config.specs.declared.parts.Config.{Config}
use Rattle.ps_report.specs.declared.closed.Closed.{Closed}
use Rattle.ps_script.specs.declared.script.Script.{Script}
use Rattle.ps_script.specs.Sessions.{ticks_in, writes_in}
use Rattle.session_model.specs.Steps.{Plan}
use Rattle.session_model.specs.Keeping.{IsPlan}
use Rattle.pubsub_engine.specs.Holding.{opening_left, plan_of}
use Rattle.script_player.specs.declared.play.PlayEnd.TheVariants as ends
use Rattle.script_player.specs.Plays.{opening_of, plan_by}
use Rattle.script_player.proofs.Newly.{opened-empty}
use Rattle.script_player.proofs.Staying.{opened-script}
use Rattle.script_runner.specs.Conducting.{HasConducted}
use Rattle.script_runner.proofs.Beginning.{begins, may-close}
use Rattle.script_runner.proofs.Completed.{Completes, completes, opened-by}
use Rattle.script_runner.proofs.Handing.{lists-short}
use Rattle.script_runner.proofs.Opened.{IsOpened, are-cells, are-duties, are-own}
use Rattle.script_runner.proofs.run.run_script.Given.{Over}
use Rattle.ua_base.proofs.Links.{KeepsLink-then}
use Rattle.script_player.proofs.Openings.{for-memory, opened-as, performed-opened, performs-opened, performs-refused, performs-unused}
use Rattle.script_player.proofs.Ticks.{few-nothings}
use Rattle.script_runner.proofs.run.run_script.Goals as goal

pub open-requires-clause-sets : goal.open-requires-clause-sets
open-requires-clause-sets g c =
    let n : ℕ = length c.args.config.now.dataset in
    ap (λ (l : List (List ℕ)). length l) c.size_of-size.ensures.writes
    ∙ length-map (range_with_len 0 n) (λ (set : ℕ). map (λ (thread : ℕ). writes_in thread set c.args.script.now.lines) (range_with_len 0 8)) ∙ length-range_with_len 0 n

pub new-requires-clause-short : goal.new-requires-clause-short
new-requires-clause-short g c =
    let config : Config = c.args.config.now in
    let script : Script = c.args.script.now in
    let size = c.size_of-size.ensures in
    let e = c.in_ok-session.ensures in
    let o = c.in_ok-session.field-0 in
    let lists = c.in_ok-lists.lists.items in
    let all = c.in_ok-lists.ensures in
    let opened : IsOpened config script o.session o.bank o.targets o.hands.items o.watches lists =
    opened-by config script o.session o.bank o.targets o.hands.items o.watches lists e.plan size.full e.bank e.cells e.quotas size.writes e.targets e.hands e.looks all.eight all.lists in
    lists-short config script c.requires.script o.bank o.targets.cells (are-cells config script c.requires.script o.session o.bank o.targets o.hands.items o.watches lists opened) lists
    all.eight all.lists

pub run_beside-requires-clause-begun : goal.run_beside-requires-clause-begun
run_beside-requires-clause-begun g c κs within =
    let config : Config = c.args.config.now in
    let script : Script = c.args.script.now in
    let size = c.size_of-size.ensures in
    let e = c.in_ok-session.ensures in
    let o = c.in_ok-session.field-0 in
    let told : _ = g.L.Link.told c.open-2.new.self in
    let logged = c.size_of-size.result.logged in
    let plan : plan_of o.session ≡ plan_by config script = e.plan ∙ ap (λ (full : List MetaData). record { config = config; full = full }) size.full in
    subst (λ (k : Config). HasConducted k script [] told o.session) (sym (ap (λ (q : Plan). q.config) plan))
    (begins config script told o.session e.stands plan logged (e.left ∙ ap (λ (n : ℕ). opening_left n logged) size.ticks)
    (opened-script o.session c.size_of-size.result.ticks logged e.left size.few (omega (arith, size.logged))) (e.appends ∙ size.sets)
    (opened-empty (g.L.Link.told c.args.link.now) told c.in-Done.ensures.empty))

pub run_beside-requires-clause-ready : goal.run_beside-requires-clause-ready
run_beside-requires-clause-ready g c κs within =
    let config : Config = c.args.config.now in
    let script : Script = c.args.script.now in
    let size = c.size_of-size.ensures in
    let e = c.in_ok-session.ensures in
    let o = c.in_ok-session.field-0 in
    let lists = c.in_ok-lists.lists.items in
    let all = c.in_ok-lists.ensures in
    let opened : IsOpened config script o.session o.bank o.targets o.hands.items o.watches lists =
    opened-by config script o.session o.bank o.targets o.hands.items o.watches lists e.plan size.full e.bank e.cells e.quotas size.writes e.targets e.hands e.looks all.eight all.lists in
    subst (λ (duties : List Duty). AreReady o.bank o.targets.cells duties) (sym c.in_ok-crew.ensures.duties)
    (are-duties config script c.requires.script o.session o.bank o.targets o.hands.items o.watches lists opened).ready

pub finish-requires-clause-own : goal.finish-requires-clause-own
finish-requires-clause-own g c = are-own c.in_ok-session.field-0.bank c.in_ok-session.field-0.targets.cells c.in_ok-crew.crew c.in_ok-dones.dones.items c.in_ok-dones.ensures.done

pub finish-requires-clause-script : goal.finish-requires-clause-script
finish-requires-clause-script g c = c.in_ok-dones.ensures.conducted.of_script

pub finish-requires-clause-may : goal.finish-requires-clause-may
finish-requires-clause-may g c =
    may-close (plan_of c.in_ok-session.field-0.session).config c.args.script.now (g.L.Link.told c.run_beside.new.link) c.run_beside.new.session c.in_ok-dones.ensures.conducted

-- it ran as the script's lines say, and was closed
completed : (g : Over) (c : goal.After-drop-bank-inside-2 g)
    → Completes c.args.config.now c.args.script.now (g.L.Link.told c.finish.new.link) c.in_ok-finish.field-0
completed g c =
    let config : Config = c.args.config.now in
    let script : Script = c.args.script.now in
    let size = c.size_of-size.ensures in
    let e = c.in_ok-session.ensures in
    let o = c.in_ok-session.field-0 in
    let lists = c.in_ok-lists.lists.items in
    let all = c.in_ok-lists.ensures in
    let opened : IsOpened config script o.session o.bank o.targets o.hands.items o.watches lists =
    opened-by config script o.session o.bank o.targets o.hands.items o.watches lists e.plan size.full e.bank e.cells e.quotas size.writes e.targets e.hands e.looks all.eight all.lists in
    let d = c.in_ok-dones.ensures in
    let dones = c.in_ok-dones.dones.items in
    completes config script c.requires.script (subst IsPlan opened.plan (e.is_plan c.requires.types)) o.session o.bank o.targets o.hands.items o.watches lists opened dones
    (subst (λ (duties : List Duty). AreDone o.bank o.targets.cells duties dones) c.in_ok-crew.ensures.duties d.done) (g.L.Link.told c.run_beside.new.link) (g.L.Link.told c.finish.new.link)
    c.run_beside.new.session d.session d.bank d.targets
    (subst (λ (k : Config). HasConducted k script (reverse script.lines) (g.L.Link.told c.run_beside.new.link) c.run_beside.new.session) (ap (λ (q : Plan). q.config) opened.plan) d.conducted)
    c.in_ok-finish.field-0 c.in_ok-finish.ensures.finishes
    (record { legal = c.closed_histories_are_legal.ensures.legal; history = c.closed_histories_are_legal.ensures.history })

pub returns-clause-ran : goal.returns-clause-ran
returns-clause-ran g c = (completed g c).ran c.histories_are_the_models.ensures.rows c.a_closed_session_tells_the_headline.ensures

pub returns-clause-closed : goal.returns-clause-closed
returns-clause-closed g c = (completed g c).closed_of

-- memory ran out before the link was opened
pub returns-in_err-session-clause-over : goal.returns-in_err-session-clause-over
returns-in_err-session-clause-over g c =
    performs-unused g.L.Link.told g.L.Link.patience g.L.Link.opened_with g.L.Link.faults g.L.Link.made g.L.Link.openings (opening_of c.args.config.now c.args.script.now) _ _ c.args.link.now (for-memory c.from_residual.result c.from_residual.ensures.1)

pub returns-in_err-lists-clause-over : goal.returns-in_err-lists-clause-over
returns-in_err-lists-clause-over g c =
    performs-unused g.L.Link.told g.L.Link.patience g.L.Link.opened_with g.L.Link.faults g.L.Link.made g.L.Link.openings (opening_of c.args.config.now c.args.script.now) _ _ c.args.link.now (for-memory c.from_residual-in_err-lists.result c.from_residual-in_err-lists.ensures.1)

pub returns-in_err-crew-clause-over : goal.returns-in_err-crew-clause-over
returns-in_err-crew-clause-over g c =
    performs-unused g.L.Link.told g.L.Link.patience g.L.Link.opened_with g.L.Link.faults g.L.Link.made g.L.Link.openings (opening_of c.args.config.now c.args.script.now) _ _ c.args.link.now (for-memory c.from_residual-in_err-crew.result c.from_residual-in_err-crew.ensures.1)

pub returns-in_err-fates-clause-over : goal.returns-in_err-fates-clause-over
returns-in_err-fates-clause-over g c =
    performs-unused g.L.Link.told g.L.Link.patience g.L.Link.opened_with g.L.Link.faults g.L.Link.made g.L.Link.openings (opening_of c.args.config.now c.args.script.now) _ _ c.args.link.now (for-memory c.from_residual-in_err-fates.result c.from_residual-in_err-fates.ensures.1)

-- its opening was refused
pub returns-in-Failed-clause-over : goal.returns-in-Failed-clause-over
returns-in-Failed-clause-over g c =
    let e = c.in-Failed.ensures in
    performs-refused g.L.Link.told g.L.Link.patience g.L.Link.opened_with g.L.Link.faults g.L.Link.made g.L.Link.openings (opening_of c.args.config.now c.args.script.now) _ _ Failed c.args.link.now c.open-2.new.self
    refl (λ is. false≢true is) e.refused e.cause.later (λ is. e.cause.rose refl) e.lasts e.making e.counted

pub returns-in-Memory-clause-over : goal.returns-in-Memory-clause-over
returns-in-Memory-clause-over g c =
    let e = c.in-Memory.ensures in
    let none = for-memory {T = Closed} (Err ends.Memory) refl in
    performs-refused g.L.Link.told g.L.Link.patience g.L.Link.opened_with g.L.Link.faults g.L.Link.made g.L.Link.openings (opening_of c.args.config.now c.args.script.now) _ _ Memory c.args.link.now c.open-2.new.self
    refl none.0 e.refused e.cause.later (λ is. absurd (none.1 is)) e.lasts e.making e.counted

-- it was opened, and each call behind that kept it
pub returns-in_err-dones-clause-over : goal.returns-in_err-dones-clause-over
returns-in_err-dones-clause-over g c =
    let config : Config = c.args.config.now in
    let script : Script = c.args.script.now in
    let e = c.in-Done.ensures in
    performs-opened g.L.Link.told g.L.Link.patience g.L.Link.opened_with g.L.Link.faults g.L.Link.made g.L.Link.openings (opening_of config script) _ _ (ticks_in script.lines) c.args.link.now c.open-2.new.self c.run_beside.new.link
    (omega (arith, few-nothings config script c.requires.script)) (for-memory c.from_residual-in_err-dones.result c.from_residual-in_err-dones.ensures.1).1
    (opened-as config script (g.L.Link.opened_with c.open-2.new.self) c.deref.result.now (c.deref.ensures.value ∙ c.in_ok-fates.ensures) (e.opening refl)) e.cause.later e.lasts e.making e.counted
    c.run_beside.ensures.link

pub returns-in_err-finish-clause-over : goal.returns-in_err-finish-clause-over
returns-in_err-finish-clause-over g c =
    let config : Config = c.args.config.now in
    let script : Script = c.args.script.now in
    let e = c.in-Done.ensures in
    performs-opened g.L.Link.told g.L.Link.patience g.L.Link.opened_with g.L.Link.faults g.L.Link.made g.L.Link.openings (opening_of config script) _ _ (ticks_in script.lines + 1) c.args.link.now c.open-2.new.self c.finish.new.link
    (few-nothings config script c.requires.script) (for-memory c.from_residual-in_err-finish.result c.from_residual-in_err-finish.ensures.1).1
    (opened-as config script (g.L.Link.opened_with c.open-2.new.self) c.deref.result.now (c.deref.ensures.value ∙ c.in_ok-fates.ensures) (e.opening refl)) e.cause.later e.lasts e.making e.counted
    (KeepsLink-then g.L.Link.told g.L.Link.patience g.L.Link.opened_with g.L.Link.faults g.L.Link.made g.L.Link.openings (ticks_in script.lines) 1 c.open-2.new.self c.run_beside.new.link c.finish.new.link c.run_beside.ensures.link c.finish.ensures.link)

pub returns-clause-over : goal.returns-clause-over
returns-clause-over g c =
    let config : Config = c.args.config.now in
    let script : Script = c.args.script.now in
    let e = c.in-Done.ensures in
    performs-opened g.L.Link.told g.L.Link.patience g.L.Link.opened_with g.L.Link.faults g.L.Link.made g.L.Link.openings (opening_of config script) _ _ (ticks_in script.lines + 1) c.args.link.now c.open-2.new.self c.finish.new.link
    (few-nothings config script c.requires.script) (λ is. performed-opened is)
    (opened-as config script (g.L.Link.opened_with c.open-2.new.self) c.deref.result.now (c.deref.ensures.value ∙ c.in_ok-fates.ensures) (e.opening refl)) e.cause.later e.lasts e.making e.counted
    (KeepsLink-then g.L.Link.told g.L.Link.patience g.L.Link.opened_with g.L.Link.faults g.L.Link.made g.L.Link.openings (ticks_in script.lines) 1 c.open-2.new.self c.run_beside.new.link c.finish.new.link c.run_beside.ensures.link c.finish.ensures.link)
