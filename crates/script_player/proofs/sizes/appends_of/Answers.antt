-- The lemmas on appended fields, at the lines of the script.
use Rattle.std.proofs.Common.{◌≡◌, subst, arith, ℕ, ◌<◌, List, length, get_or, slice_get, Some}
use Rattle.std.proofs.lemmas.Option.{slice_get-get_or}
use Rattle.ps_script.specs.declared.script.Line.{Line}
use Rattle.script_player.specs.Sizes.{IsNext}
use Rattle.script_player.proofs.Appended.{appends-more, appends-other, has-next, has-room, none-yet}
use Rattle.script_player.proofs.sizes.appends_of.Goals as goal

line-at : (lines items : List Line) (k : ℕ) (d : Line) → items ≡ lines → k < length items → slice_get lines k ≡ Some (get_or items k d)
line-at lines items k d same within = subst (λ (ls : List Line). slice_get ls k ≡ Some (get_or items k d)) same (slice_get-get_or items k d within)

pub loop-line-init : goal.loop-line-init
loop-line-init c = record { script = c.requires; appends = rw c.new-appends.ensures (none-yet c.args.config.now c.args.script.now c.requires) }

pub next_append-append-requires : goal.next_append-append-requires
next_append-append-requires c =
    rw (c.as_slice.ensures, c.as_slice-in-loop-line.ensures, c.as_slice-in-loop-line-2.ensures.value)
    (has-next c.args.config.now c.args.script.now c.loop-line.line-index _ c.in-Append.set c.loop-line.appends.items c.loop-line.invariant.script
    (line-at c.args.script.now.lines c.as_slice-line-items.result.now c.loop-line.line-index _ c.as_slice-line-items.ensures c.loop-line-test.true)
    c.in-Append.is c.loop-line.invariant.appends)

pub push-requires : goal.push-requires
push-requires c = (
  omega arith,
  has-room c.args.config.now c.args.script.now c.loop-line.line-index _ c.in-Append.set c.loop-line.appends.items c.loop-line.invariant.script
      (line-at c.args.script.now.lines c.as_slice-line-items.result.now c.loop-line.line-index _ c.as_slice-line-items.ensures c.loop-line-test.true)
      c.in-Append.is c.loop-line.invariant.appends,
)

pub loop-line-preserved : goal.loop-line-preserved
loop-line-preserved c =
    let next : IsNext c.args.config.now.dataset c.args.script.now.metas c.in-Append.set c.loop-line.appends.items c.next_append-append.result =
    rw (c.as_slice.ensures, c.as_slice-in-loop-line.ensures, c.as_slice-in-loop-line-2.ensures.value) at c.next_append-append.ensures in
    record {
      script = c.loop-line.invariant.script;
      appends =
          rw c.push.ensures.items
          (appends-more c.args.config.now c.args.script.now c.loop-line.line-index _ c.in-Append.set c.loop-line.appends.items c.next_append-append.result c.loop-line.invariant.script
          (line-at c.args.script.now.lines c.as_slice-line-items.result.now c.loop-line.line-index _ c.as_slice-line-items.ensures c.loop-line-test.true)
          c.in-Append.is c.loop-line.invariant.appends next);
    }

pub loop-line-preserved-in_default : goal.loop-line-preserved-in_default
loop-line-preserved-in_default c = record {
  script = c.loop-line.invariant.script;
  appends =
      appends-other c.args.config.now c.args.script.now c.loop-line.line-index _ c.loop-line.appends.items c.loop-line.invariant.script
      (line-at c.args.script.now.lines c.as_slice-line-items.result.now c.loop-line.line-index _ c.as_slice-line-items.ensures c.loop-line-test.true)
      c.in_default.not-Append c.loop-line.invariant.appends;
}
