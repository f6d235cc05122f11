use Rattle.std.proofs.Common.{◌≡◌, ℕ, ◌+◌, List, [], Err, refl, length, map, reverse, sym, ap, ◌∙◌, subst, arith}
use Rattle.std.specs.List.{range_with_len}
use Rattle.std.proofs.lemmas.Bool.{false≢true}
use Rattle.std.proofs.lemmas.List.{length-map}
use Rattle.std.proofs.lemmas.List.FromFn.{length-range_with_len}
use Rattle.dataset_meta.specs.Metas.{MetaData}
use Rattle.ua_base.specs.declared.link.Opened.TheVariants.{Failed, Memory}
use Rattle.ps_config.specs.declared.parts.Config.{Config}
use Rattle.ps_report.specs.declared.closed.Closed.{Closed}
use Rattle.ps_script.specs.declared.script.Script.{Script}
use Rattle.ps_script.specs.Sessions.{ticks_in, writes_in}
use Rattle.session_model.specs.Steps.{Plan}
use Rattle.session_model.specs.Keeping.{IsPlan}
use Rattle.pubsub_engine.specs.Holding.{opening_left, plan_of}
use Rattle.script_player.specs.declared.player.Player.{Player}
use Rattle.script_player.specs.declared.play.PlayEnd.TheVariants as ends
use Rattle.script_player.specs.Plays.{opening_of, plan_by}
use Rattle.script_player.specs.Player.{HasPlayed, config_of}
use Rattle.script_player.proofs.Closing.{closes}
use Rattle.script_player.proofs.Finished.{is-closed-of, is-play}
use Rattle.script_player.proofs.Newly.{begins, may-close, opened-empty}
use Rattle.ua_base.proofs.Links.{KeepsLink-then}
use Rattle.script_player.proofs.Openings.{for-memory, opened-as, performed-opened, performs-opened, performs-refused, performs-unused}
use Rattle.script_player.proofs.Ticks.{few-nothings}
use Rattle.script_player.proofs.play.play_script.Goals as goal

pub open-requires-clause-sets : goal.open-requires-clause-sets
open-requires-clause-sets g c =
    let n : ℕ = length c.args.config.now.dataset in
    ap (λ (l : List (List ℕ)). length l) c.size_of-size.ensures.writes
    ∙ length-map (range_with_len 0 n) (λ (set : ℕ). map (λ (thread : ℕ). writes_in thread set c.args.script.now.lines) (range_with_len 0 8)) ∙ length-range_with_len 0 n

pub play-requires-clause-played : goal.play-requires-clause-played
play-requires-clause-played g c =
    let config : Config = c.args.config.now in
    let script : Script = c.args.script.now in
    let size = c.size_of-size.ensures in
    let o = c.in_ok-player.ensures in
    let player : Player = c.in_ok-player.player in
    let told : _ = g.L.Link.told c.open-2.new.self in
    let plan : plan_of player.session ≡ plan_by config script = o.plan ∙ ap (λ (full : List MetaData). record { config = config; full = full }) size.full in
    subst (λ (k : Config). HasPlayed k script [] told player) (sym (ap (λ (q : Plan). q.config) plan))
    (begins config script told player o.player o.new plan c.size_of-size.result.logged (o.left ∙ ap (λ (n : ℕ). opening_left n c.size_of-size.result.logged) size.ticks) (o.appends ∙ size.sets) (o.quotas ∙ size.writes)
    (opened-empty (g.L.Link.told c.args.link.now) told c.in-Done.ensures.empty))

pub end-requires-clause-may : goal.end-requires-clause-may
end-requires-clause-may g c =
    may-close (config_of c.in_ok-player.player) c.args.script.now (g.L.Link.told c.play.new.link) c.play.new.self c.in_ok-play.ensures.played

pub returns-clause-played : goal.returns-clause-played
returns-clause-played g c =
    let config : Config = c.args.config.now in
    let script : Script = c.args.script.now in
    let size = c.size_of-size.ensures in
    let o = c.in_ok-player.ensures in
    let plan : plan_of c.in_ok-player.player.session ≡ plan_by config script = o.plan ∙ ap (λ (full : List MetaData). record { config = config; full = full }) size.full in
    is-play config script c.requires.script (subst IsPlan plan (o.is_plan c.requires.types)) (g.L.Link.told c.play.new.link) (g.L.Link.told c.end.new.link) c.play.new.self
    c.in_ok-play.ensures.player
    (subst (λ (k : Config). HasPlayed k script (reverse script.lines) (g.L.Link.told c.play.new.link) c.play.new.self) (ap (λ (q : Plan). q.config) plan) c.in_ok-play.ensures.played)
    c.in_ok-close.field-0 (closes c.play.new.self c.end.new.self (g.L.Link.told c.play.new.link) (g.L.Link.told c.end.new.link) c.in_ok-close.field-0 c.in_ok-end.ensures.player c.in_ok-end.ensures.ends c.in_ok-close.ensures.closes) c.histories_are_the_models.ensures.rows c.a_closed_session_tells_the_headline.ensures

pub returns-clause-closed : goal.returns-clause-closed
returns-clause-closed g c =
    let config : Config = c.args.config.now in
    let script : Script = c.args.script.now in
    let size = c.size_of-size.ensures in
    let o = c.in_ok-player.ensures in
    let plan : plan_of c.in_ok-player.player.session ≡ plan_by config script = o.plan ∙ ap (λ (full : List MetaData). record { config = config; full = full }) size.full in
    is-closed-of config script c.requires.script (subst IsPlan plan (o.is_plan c.requires.types)) (g.L.Link.told c.play.new.link) (g.L.Link.told c.end.new.link) c.play.new.self
    c.in_ok-play.ensures.player
    (subst (λ (k : Config). HasPlayed k script (reverse script.lines) (g.L.Link.told c.play.new.link) c.play.new.self) (ap (λ (q : Plan). q.config) plan) c.in_ok-play.ensures.played)
    c.in_ok-close.field-0 (closes c.play.new.self c.end.new.self (g.L.Link.told c.play.new.link) (g.L.Link.told c.end.new.link) c.in_ok-close.field-0 c.in_ok-end.ensures.player c.in_ok-end.ensures.ends c.in_ok-close.ensures.closes) c.histories_are_the_models.ensures.rows c.a_closed_session_tells_the_headline.ensures

-- memory ran out before the link was opened
pub returns-in_err-player-clause-over : goal.returns-in_err-player-clause-over
returns-in_err-player-clause-over g c =
    performs-unused g.L.Link.told g.L.Link.patience g.L.Link.opened_with g.L.Link.faults g.L.Link.made g.L.Link.openings (opening_of c.args.config.now c.args.script.now) _ _ c.args.link.now
    (for-memory c.from_residual.result c.from_residual.ensures.1)

pub returns-in_err-fates-clause-over : goal.returns-in_err-fates-clause-over
returns-in_err-fates-clause-over g c =
    performs-unused g.L.Link.told g.L.Link.patience g.L.Link.opened_with g.L.Link.faults g.L.Link.made g.L.Link.openings (opening_of c.args.config.now c.args.script.now) _ _ c.args.link.now
    (for-memory c.from_residual-in_err-fates.result c.from_residual-in_err-fates.ensures.1)

-- its opening was refused
pub returns-in-Failed-clause-over : goal.returns-in-Failed-clause-over
returns-in-Failed-clause-over g c =
    let e = c.in-Failed.ensures in
    performs-refused g.L.Link.told g.L.Link.patience g.L.Link.opened_with g.L.Link.faults g.L.Link.made g.L.Link.openings (opening_of c.args.config.now c.args.script.now) _ _ Failed c.args.link.now c.open-2.new.self
    refl (λ is. false≢true is) e.refused e.cause.later (λ is. e.cause.rose refl) e.lasts e.making e.counted

pub returns-in-Memory-clause-over : goal.returns-in-Memory-clause-over
returns-in-Memory-clause-over g c =
    let e = c.in-Memory.ensures in
    let none = for-memory {T = Closed} (Err ends.Memory) refl in
    performs-refused g.L.Link.told g.L.Link.patience g.L.Link.opened_with g.L.Link.faults g.L.Link.made g.L.Link.openings (opening_of c.args.config.now c.args.script.now) _ _ Memory c.args.link.now c.open-2.new.self
    refl none.0 e.refused e.cause.later (λ is. absurd (none.1 is)) e.lasts e.making e.counted

-- it was opened, and each call behind that kept it
pub returns-in_err-play-clause-over : goal.returns-in_err-play-clause-over
returns-in_err-play-clause-over g c =
    let config : Config = c.args.config.now in
    let script : Script = c.args.script.now in
    let e = c.in-Done.ensures in
    performs-opened g.L.Link.told g.L.Link.patience g.L.Link.opened_with g.L.Link.faults g.L.Link.made g.L.Link.openings (opening_of config script) _ _ (ticks_in script.lines) c.args.link.now c.open-2.new.self c.play.new.link
    (omega (arith, few-nothings config script c.requires.script)) (for-memory c.from_residual-in_err-play.result c.from_residual-in_err-play.ensures.1).1
    (opened-as config script (g.L.Link.opened_with c.open-2.new.self) c.deref.result.now (c.deref.ensures.value ∙ c.in_ok-fates.ensures) (e.opening refl)) e.cause.later e.lasts e.making e.counted c.play.ensures.link

pub returns-in_err-end-clause-over : goal.returns-in_err-end-clause-over
returns-in_err-end-clause-over g c =
    let config : Config = c.args.config.now in
    let script : Script = c.args.script.now in
    let e = c.in-Done.ensures in
    performs-opened g.L.Link.told g.L.Link.patience g.L.Link.opened_with g.L.Link.faults g.L.Link.made g.L.Link.openings (opening_of config script) _ _ (ticks_in script.lines + 1) c.args.link.now c.open-2.new.self c.end.new.link
    (few-nothings config script c.requires.script) (for-memory c.from_residual-in_err-end.result c.from_residual-in_err-end.ensures.1).1
    (opened-as config script (g.L.Link.opened_with c.open-2.new.self) c.deref.result.now (c.deref.ensures.value ∙ c.in_ok-fates.ensures) (e.opening refl)) e.cause.later e.lasts e.making e.counted
    (KeepsLink-then g.L.Link.told g.L.Link.patience g.L.Link.opened_with g.L.Link.faults g.L.Link.made g.L.Link.openings (ticks_in script.lines) 1 c.open-2.new.self c.play.new.link c.end.new.link c.play.ensures.link c.end.ensures.link)

pub returns-in_err-close-clause-over : goal.returns-in_err-close-clause-over
returns-in_err-close-clause-over g c =
    let config : Config = c.args.config.now in
    let script : Script = c.args.script.now in
    let e = c.in-Done.ensures in
    performs-opened g.L.Link.told g.L.Link.patience g.L.Link.opened_with g.L.Link.faults g.L.Link.made g.L.Link.openings (opening_of config script) _ _ (ticks_in script.lines + 1) c.args.link.now c.open-2.new.self c.end.new.link
    (few-nothings config script c.requires.script) (for-memory c.from_residual-in_err-close.result c.from_residual-in_err-close.ensures.1).1
    (opened-as config script (g.L.Link.opened_with c.open-2.new.self) c.deref.result.now (c.deref.ensures.value ∙ c.in_ok-fates.ensures) (e.opening refl)) e.cause.later e.lasts e.making e.counted
    (KeepsLink-then g.L.Link.told g.L.Link.patience g.L.Link.opened_with g.L.Link.faults g.L.Link.made g.L.Link.openings (ticks_in script.lines) 1 c.open-2.new.self c.play.new.link c.end.new.link c.play.ensures.link c.end.ensures.link)

pub returns-clause-over : goal.returns-clause-over
returns-clause-over g c =
    let config : Config = c.args.config.now in
    let script : Script = c.args.script.now in
    let e = c.in-Done.ensures in
    performs-opened g.L.Link.told g.L.Link.patience g.L.Link.opened_with g.L.Link.faults g.L.Link.made g.L.Link.openings (opening_of config script) _ _ (ticks_in script.lines + 1) c.args.link.now c.open-2.new.self c.end.new.link
    (few-nothings config script c.requires.script) (λ is. performed-opened is)
    (opened-as config script (g.L.Link.opened_with c.open-2.new.self) c.deref.result.now (c.deref.ensures.value ∙ c.in_ok-fates.ensures) (e.opening refl)) e.cause.later e.lasts e.making e.counted
    (KeepsLink-then g.L.Link.told g.L.Link.patience g.L.Link.opened_with g.L.Link.faults g.L.Link.made g.L.Link.openings (ticks_in script.lines) 1 c.open-2.new.self c.play.new.link c.end.new.link c.play.ensures.link c.end.ensures.link)
