use Rattle.std.proofs.Common.{◌≡◌, ℕ, List, ap, get_or, replicate, sym, ◌∙◌, take, arith}
use Rattle.std.proofs.lemmas.List.{take_all}
use Rattle.app_threads.specs.declared.done.Done.{Done}
use Rattle.app_threads.specs.Items.{versions_in}
use Rattle.pubsub_engine.specs.Authored.{filled}
use Rattle.pubsub_engine.proofs.Authors.{answers_of, authors_are, filled_by, filled_by-more}
use Rattle.pubsub_engine.proofs.closing.threads_of.Goals as goal

pub loop-thread-preserved : goal.loop-thread-preserved
loop-thread-preserved c =
    let dones = c.args.dones.now in
    let k : ℕ = c.loop-thread.thread in
    let l : List ℕ = replicate c.args.count 0 in
    let done : Done = c.index-dones-thread.result in
    let there : Done = get_or dones k done in
    c.fill.ensures
    ∙ ap (λ (vs : List (ℕ × ℕ)). filled k (versions_in c.args.set vs) c.loop-thread.threads.items) c.as_slice-versions.ensures
    ∙ ap (λ (x : List ℕ). filled k (versions_in c.args.set there.versions) x) c.loop-thread.invariant
    ∙ sym (filled_by-more c.args.set k dones done l (omega arith))

pub returns : goal.returns
returns c = λ threads few authored long.
    let all : take c.loop-thread.thread c.args.dones.now ≡ c.args.dones.now = take_all c.loop-thread.thread c.args.dones.now (omega arith) in
    c.loop-thread.invariant
    ∙ ap (λ (dones : List Done). filled_by 0 (answers_of c.args.set dones) (replicate c.args.count 0)) all
    ∙ authors_are c.args.set c.args.dones.now threads c.args.count authored long
